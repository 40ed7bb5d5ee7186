use Rattle.cast_laws.proofs.NoteLemmas as lemmas
use Rattle.cast_laws.proofs.laws.notes_are_true.Goals as goal

pub returns : goal.returns
returns c = lemmas.notes_are_true
