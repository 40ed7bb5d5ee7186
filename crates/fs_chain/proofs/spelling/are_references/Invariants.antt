use Rattle.std.specs.Prelude.{◌↔◌, IsTrue}
use Rattle.fs_chain.proofs.BytesLemmas.{AreReferencesBelow}
use Rattle.fs_chain.proofs.spelling.are_references.Given as goal

abbrev pub invariant-loop-index : goal.invariant-loop-index
invariant-loop-index l = IsTrue l.all ↔ AreReferencesBelow l.index l.bytes
