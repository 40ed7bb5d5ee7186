use Rattle.tx_rules.proofs.LawLemmas.{refusals_had_their_reason}
use Rattle.tx_rules.proofs.laws.refusals_had_their_reason.Goals as goal

pub returns : goal.returns
returns c = refusals_had_their_reason
