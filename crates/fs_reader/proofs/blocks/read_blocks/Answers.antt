use Rattle.std.proofs.Common.{◌+◌, ◌*◌, refl, arith}
use Rattle.std.proofs.lemmas.Result.{err_from_is_err_and}
use Rattle.fs_reader.proofs.StepLemmas.{more_read, all_read, not_read}
use Rattle.fs_reader.proofs.blocks.read_blocks.Goals as goal

pub returns-in_err-read_reference-clause-none : goal.returns-in_err-read_reference-clause-none
returns-in_err-read_reference-clause-none c =
    let p = err_from_is_err_and c.from_residual.result c.from_residual.ensures.1 in
    rw (p.1, p.2) (λ is.
    not_read c.args.geometry.now c.requires.images.limits c.args.parts.now c.args.references.now c.args.index c.loop-nth.nth (510 * c.args.index + c.loop-nth.nth) c.get-reference.result
    c.args.left.now c.args.content.now c.loop-nth.left c.loop-nth.content (omega arith) refl c.get-reference.ensures.found c.loop-nth.invariant.1 (c.in_err-read_reference.ensures.none is))

pub loop-nth-preserved : goal.loop-nth-preserved
loop-nth-preserved c = (
  c.read_reference.ensures.sized,
  more_read c.args.geometry.now c.requires.images.limits c.args.parts.now c.args.references.now c.args.index c.loop-nth.nth (510 * c.args.index + c.loop-nth.nth) c.get-reference.result
      c.args.left.now c.args.content.now c.loop-nth.left c.loop-nth.content c.read_reference.new.left c.read_reference.new.content (omega arith) refl c.get-reference.ensures.found
      c.loop-nth.invariant.1 c.in_ok-read_reference.ensures.ok,
)

pub returns-clause-ok : goal.returns-clause-ok
returns-clause-ok c =
    all_read c.args.geometry.now c.requires.images.limits c.args.parts.now c.args.references.now c.args.index c.loop-nth.nth c.args.left.now c.args.content.now c.loop-nth.left c.loop-nth.content
    (omega arith) c.loop-nth.invariant.1
