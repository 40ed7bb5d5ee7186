use Rattle.read_laws.proofs.LookupLemmas.{lookup_answers}
use Rattle.read_laws.proofs.laws.lookup_answers.Goals as goal

pub returns : goal.returns
returns c = lookup_answers
