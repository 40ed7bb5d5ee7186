use Rattle.refusal_laws.proofs.StatusLemmas as status
use Rattle.refusal_laws.proofs.laws.refusals_are_told.Goals as goal

pub returns : goal.returns
returns c = status.refusals_are_told
