use Rattle.take_laws.proofs.TakeLemmas as lemma
use Rattle.take_laws.proofs.laws.picked_may_be_taken.Goals as goal

pub returns : goal.returns
returns c = lemma.picked_may_be_taken
