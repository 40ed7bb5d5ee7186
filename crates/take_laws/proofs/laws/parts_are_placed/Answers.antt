use Rattle.take_laws.proofs.PlacedLemmas as lemma
use Rattle.take_laws.proofs.laws.parts_are_placed.Goals as goal

pub returns : goal.returns
returns c = lemma.parts_are_placed
