use Rattle.fs_dir.proofs.BlockLemmas.{ReadSoFar}
use Rattle.fs_dir.proofs.block.read_all.Given as goal

abbrev pub invariant-loop-index : goal.invariant-loop-index
invariant-loop-index l = ReadSoFar l.bytes l.index l.slots
