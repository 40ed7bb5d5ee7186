use Rattle.reply_laws.proofs.ReplyLemmas.{granted_finals_answer}
use Rattle.reply_laws.proofs.laws.granted_finals_answer.Goals as goal

pub returns : goal.returns
returns c = granted_finals_answer
