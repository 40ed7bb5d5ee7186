use Rattle.note_laws.proofs.BegunLemmas as lemmas
use Rattle.note_laws.proofs.laws.beginnings_are_few.Goals as goal

pub returns : goal.returns
returns c = lemmas.beginnings_are_few
