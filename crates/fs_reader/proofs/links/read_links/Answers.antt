use Rattle.std.proofs.Common.{arith}
use Rattle.std.proofs.lemmas.Result.{err_from_is_err_and}
use Rattle.fs_reader.proofs.LinkLemmas.{no_links, more_links, links_end, not_links}
use Rattle.fs_reader.proofs.links.read_links.Goals as goal

pub loop-index-init : goal.loop-index-init
loop-index-init c = (c.requires.left, no_links c.args.geometry.now c.args.parts.now c.args.number c.args.first c.args.left.now c.args.content.now)

pub loop-index-preserved : goal.loop-index-preserved
loop-index-preserved c = (
  c.read_link.ensures.sized,
  more_links c.args.geometry.now c.args.parts.now c.args.number c.args.first c.args.left.now c.args.content.now c.loop-index.index c.loop-index.left c.loop-index.content c.loop-index.next
      c.loop-index.invariant.1 c.read_link.new.left c.read_link.new.content _ c.in_ok-next.ensures.ok,
)

pub returns-in_err-next-clause-none : goal.returns-in_err-next-clause-none
returns-in_err-next-clause-none c =
    let p = err_from_is_err_and c.from_residual.result c.from_residual.ensures.1 in
    rw (p.1, p.2) (λ is.
    not_links c.args.geometry.now c.args.parts.now c.args.number c.args.first c.args.left.now c.args.content.now c.loop-index.index c.loop-index.left c.loop-index.content c.loop-index.next
    c.loop-index.invariant.1 c.args.chains (omega arith) (c.in_err-next.ensures.none is))

pub returns-clause-ok : goal.returns-clause-ok
returns-clause-ok c =
    links_end c.args.geometry.now c.args.parts.now c.args.number c.args.first c.args.left.now c.args.content.now c.loop-index.index c.loop-index.left c.loop-index.content c.loop-index.next
    c.loop-index.invariant.1 c.args.chains (omega arith)
