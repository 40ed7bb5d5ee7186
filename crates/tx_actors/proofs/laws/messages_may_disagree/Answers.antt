use Rattle.tx_actors.proofs.LawLemmas.{messages_may_disagree}
use Rattle.tx_actors.proofs.laws.messages_may_disagree.Goals as goal

pub returns : goal.returns
returns c = messages_may_disagree
