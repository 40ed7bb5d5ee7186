use Rattle.tx_coord.proofs.ParticipantLemmas.{taking_part}
use Rattle.tx_coord.proofs.participants.participants.Goals as goal

pub returns : goal.returns
returns c = taking_part c.args.mini.now c.participants.result.now c.participants.ensures
