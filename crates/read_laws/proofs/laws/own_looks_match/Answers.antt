use Rattle.read_laws.proofs.MatchLemmas.{own_looks_match}
use Rattle.read_laws.proofs.laws.own_looks_match.Goals as goal

pub returns : goal.returns
returns c = own_looks_match
