use Rattle.std.proofs.Common.{◌∙◌}
use Rattle.mem_node.proofs.FormatLemmas.{forming, laid_in_first, laid_is_fresh, front_short, image_small}
use Rattle.mem_node.proofs.fresh_node.lay_fresh.Goals as goal

pub write_node-requires-clause-front : goal.write_node-requires-clause-front
write_node-requires-clause-front g c = front_short c.args.setup c.deref.result.now (c.deref.ensures.value ∙ c.in_ok-front.ensures)

pub write_node-requires-clause-image : goal.write_node-requires-clause-image
write_node-requires-clause-image g c = image_small c.args.setup c.requires c.deref-2.result.now (c.deref-2.ensures.value ∙ c.in_ok-image.ensures)

pub returns-in_err-write_node-clause-any_moment : goal.returns-in_err-write_node-clause-any_moment
returns-in_err-write_node-clause-any_moment g c ready =
    forming c.args.setup c.requires (g.D.Disk.history c.args.disk.now).now.content c.deref.result.now c.deref-2.result.now (c.deref.ensures.value ∙ c.in_ok-front.ensures)
    (c.deref-2.ensures.value ∙ c.in_ok-image.ensures) (g.D.Disk.history c.args.disk.now) (g.D.Disk.history c.write_node.new.disk) (c.write_node.ensures.any_moment ready)

pub returns-clause-any_moment : goal.returns-clause-any_moment
returns-clause-any_moment g c ready =
    forming c.args.setup c.requires (g.D.Disk.history c.args.disk.now).now.content c.deref.result.now c.deref-2.result.now (c.deref.ensures.value ∙ c.in_ok-front.ensures)
    (c.deref-2.ensures.value ∙ c.in_ok-image.ensures) (g.D.Disk.history c.args.disk.now) (g.D.Disk.history c.write_node.new.disk) (c.write_node.ensures.any_moment ready)

pub returns-clause-fresh : goal.returns-clause-fresh
returns-clause-fresh g c ready =
    let done = c.in_ok-write_node.ensures.ok ready in (
      laid_is_fresh c.args.setup c.requires c.deref.result.now c.deref-2.result.now (c.deref.ensures.value ∙ c.in_ok-front.ensures) (c.deref-2.ensures.value ∙ c.in_ok-image.ensures)
          (g.D.Disk.history c.write_node.new.disk).now.content done.laid,
      record { speaks = c.in_ok-write_node.ensures.hands.speaks ready.speaks; safe = done.safe },
    )

pub returns-clause-half : goal.returns-clause-half
returns-clause-half g c ready =
    laid_in_first c.args.setup c.deref.result.now c.deref-2.result.now (c.deref.ensures.value ∙ c.in_ok-front.ensures)
    (g.D.Disk.history c.write_node.new.disk).now.content (c.in_ok-write_node.ensures.ok ready).laid
