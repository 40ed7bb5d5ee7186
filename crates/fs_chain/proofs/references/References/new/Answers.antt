use Rattle.std.specs.Prelude.{replicate, None}
use Rattle.fs_chain.proofs.BytesLemmas.{none_kept, references_kept, references_only}
use Rattle.fs_chain.proofs.references.References.new.Goals as goal

pub invariant_of-result : goal.invariant_of-result
invariant_of-result c = references_kept (replicate 510 None) (replicate 4080 0) none_kept

pub returns : goal.returns
returns c = references_only (replicate 510 None) (replicate 4080 0) none_kept
