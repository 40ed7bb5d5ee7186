use Rattle.std.proofs.Common.{◌+◌, ◌-◌, ◌*◌, arith}
use Rattle.fs_chain.proofs.BytesLemmas.{none_below, more_below, references_told}
use Rattle.fs_chain.proofs.spelling.are_references.Goals as goal

pub loop-index-init : goal.loop-index-init
loop-index-init c = none_below c.args.bytes.now

pub loop-index-preserved : goal.loop-index-preserved
loop-index-preserved c =
    more_below c.loop-index.all c.is_reference-all.result c.loop-index.index (8 * c.loop-index.index + 8 - 8 * c.loop-index.index) c.args.bytes.now (omega arith) c.loop-index.invariant
    c.is_reference-all.ensures

pub returns : goal.returns
returns c = references_told c.loop-index.all c.loop-index.index c.args.bytes.now (omega arith) c.requires c.loop-index.invariant
