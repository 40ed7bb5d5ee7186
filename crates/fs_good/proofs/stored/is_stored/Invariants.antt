-- Where the blocks that are left are in order, all are, and the other way round.
use Rattle.std.specs.FinMap.{entries}
use Rattle.fs_good.specs.Places.{IsStoredBlock}
use Rattle.fs_good.proofs.LoopLemmas.{Left}
use Rattle.fs_good.proofs.stored.is_stored.Given as goal

abbrev pub invariant-loop-index : goal.invariant-loop-index
invariant-loop-index l = Left (λ e. IsStoredBlock l.size e.0 e.1) l.index-iterator (entries l.blocks)
