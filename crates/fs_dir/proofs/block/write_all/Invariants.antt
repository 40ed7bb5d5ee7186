use Rattle.fs_dir.proofs.BlockLemmas.{WrittenSoFar}
use Rattle.fs_dir.proofs.block.write_all.Given as goal

abbrev pub invariant-loop-index : goal.invariant-loop-index
invariant-loop-index l = WrittenSoFar l.slots l.index l.into
