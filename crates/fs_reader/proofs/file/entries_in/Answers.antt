use Rattle.std.proofs.Common.{arith}
use Rattle.fs_reader.proofs.FileLemmas.{count_more}
use Rattle.fs_reader.proofs.file.entries_in.Goals as goal

pub loop-slot-preserved : goal.loop-slot-preserved
loop-slot-preserved c = (
  omega (arith, c.loop-slot.invariant.0, c.entries_of-count.ensures.exact, count_more c.args.slots.now c.loop-slot.slot-index c.slot-item.result (omega arith) c.slot-item.is),
  omega (arith, c.loop-slot.invariant.1, c.entries_of-count.ensures.small),
)
