use Rattle.mem_laws.proofs.VoteLemmas.{vote_is}
use Rattle.mem_laws.proofs.laws.votes_are_the_machines.Goals as goal

pub returns : goal.returns
returns c = vote_is
