use Rattle.tx_rules.proofs.SoundLemmas.{formatted_opens}
use Rattle.tx_rules.proofs.laws.formatted_opens.Goals as goal

pub returns : goal.returns
returns c = formatted_opens
