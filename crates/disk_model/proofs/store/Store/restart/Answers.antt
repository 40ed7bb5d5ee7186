use Rattle.std.proofs.Common.{◌∙◌}
use Rattle.disk_model.specs.Frames.{bytes_of}
use Rattle.disk_model.specs.Plan.{blank, history_of}
use Rattle.disk_model.proofs.StoreLemmas.{history_more, kept_restart, image_is}
use Rattle.disk_model.proofs.store.Store.restart.Goals as goal

pub returns-clause-stands : goal.returns-clause-stands
returns-clause-stands c kept =
    rw (c.in_ok-take_image.ensures.none, c.in_ok-push.ensures.items, history_more blank c.args.self.now.changes.items _)
    (kept_restart (bytes_of c.args.self.now.frames) c.args.self.now.pending.items (history_of c.args.self.now.changes.items) kept
    c.args.choice (bytes_of c.take_image.new.frames) (λ place. c.in_ok-take_image.ensures.content place
    ∙ image_is (bytes_of c.args.self.now.frames) c.args.self.now.pending.items (history_of c.args.self.now.changes.items) kept c.args.choice place))
