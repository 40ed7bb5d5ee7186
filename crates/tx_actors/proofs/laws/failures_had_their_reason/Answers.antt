use Rattle.tx_actors.proofs.LawLemmas.{failures_had_their_reason}
use Rattle.tx_actors.proofs.laws.failures_had_their_reason.Goals as goal

pub returns : goal.returns
returns c = failures_had_their_reason
