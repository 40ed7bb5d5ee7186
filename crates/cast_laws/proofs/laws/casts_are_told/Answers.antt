use Rattle.cast_laws.proofs.NoteLemmas as lemmas
use Rattle.cast_laws.proofs.laws.casts_are_told.Goals as goal

pub returns : goal.returns
returns c = lemmas.casts_are_told
