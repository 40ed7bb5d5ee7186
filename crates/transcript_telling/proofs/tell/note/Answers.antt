use Rattle.transcript_telling.proofs.TellingLemmas.{then_ok}
use Rattle.transcript_telling.proofs.tell.note.Goals as goal

pub returns : goal.returns
returns c = then_ok c.tell.result c.tell.ensures (λ e. record { said = c.say.new.self; says = λ lines are. c.in_ok-say.ensures {u = tt} lines are; is = e })
