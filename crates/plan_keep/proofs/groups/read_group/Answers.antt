use Rattle.std.proofs.Common.{◌≡◌, ◌+◌, length, Some, refl, subst, sym}
use Rattle.std.specs.Prelude.{slice_get}
use Rattle.std.proofs.lemmas.Option.{slice_get_read}
use Rattle.std.proofs.lemmas.Result.{err_from_is_err_and}
use Rattle.plan_keep.specs.Links.{AreSlotsRead}
use Rattle.plan_keep.proofs.GroupLemmas.{read_more, unfit_there}
use Rattle.plan_keep.proofs.groups.read_group.Goals as goal

pub returns-in_err-more-clause-damaged : goal.returns-in_err-more-clause-damaged
returns-in_err-more-clause-damaged c =
    let reads = c.args.reads.now in
    let i = c.loop-index.index in
    let there : slice_get reads i ≡ Some c.index-reads-index.result =
    slice_get_read reads (length reads) i c.index-reads-index.result refl c.loop-index-test.true c.index-reads-index.is in
    let p = err_from_is_err_and c.from_residual.result c.from_residual.ensures.1 in
    rw (p.1, p.2) (λ m at is.
    unfit_there c.args.held.now c.requires.work c.args.number c.args.group c.requires.told reads i m at c.index-reads-index.result c.loop-index.slots c.loop-index.invariant there
    (c.in_err-more.ensures.damaged m at is))

pub loop-index-preserved : goal.loop-index-preserved
loop-index-preserved c =
    let g = c.args.held.now.geometry in
    let reads = c.args.reads.now in
    let i = c.loop-index.index in
    let there : slice_get reads i ≡ Some c.index-reads-index.result =
    slice_get_read reads (length reads) i c.index-reads-index.result refl c.loop-index-test.true c.index-reads-index.is in
    subst (λ s. AreSlotsRead g reads (i + 1) s) (sym c.in_ok-append.ensures.ok)
    (read_more g reads i c.index-reads-index.result c.loop-index.slots c.in_ok-more.more c.loop-index.invariant there c.in_ok-more.ensures.found.0 c.in_ok-more.ensures.found.1)
