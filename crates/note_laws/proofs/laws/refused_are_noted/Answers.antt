use Rattle.note_laws.proofs.RefusedLemmas as lemmas
use Rattle.note_laws.proofs.laws.refused_are_noted.Goals as goal

pub returns : goal.returns
returns c = lemmas.refused_are_noted
