use Rattle.std.proofs.Common.{sym, ap, ◌∙◌}
use Rattle.std.specs.Prelude.{nat_le, max}
use Rattle.std.specs.List.{list_any}
use Rattle.transcript_rules.specs.Book.{is_actor}
use Rattle.transcript_rules.specs.Truth.{is_mounting_line}
use Rattle.transcript_rules.specs.Place.{is_lost_line, is_retry_line, is_sent, is_sent_by_memory}
use Rattle.transcript_book.proofs.SaidLemmas.{some_now, higher, any_said, downs_more}
use Rattle.transcript_book.proofs.said.Said.say.Goals as goal

pub returns : goal.returns
returns c lines are =
    let l = c.args.line.now in
    record {
      none = sym (some_now lines l);
      highest = λ r. ap (λ n. nat_le n r) (c.higher-self.ensures ∙ ap (max c.args.self.now.highest) c.rank.ensures) ∙ higher lines l c.args.self.now.highest are.highest r;
      lost = any_said is_lost_line lines l c.args.self.now.lost c.is_lost_line.result are.lost c.is_lost_line.ensures;
      retry = any_said is_retry_line lines l c.args.self.now.retry c.is_retry_line.result are.retry c.is_retry_line.ensures;
      mounting = any_said is_mounting_line lines l c.args.self.now.mounting c.is_mounting_line.result are.mounting c.is_mounting_line.ensures;
      sent = any_said is_sent lines l c.args.self.now.sent c.is_sent.result are.sent c.is_sent.ensures;
      sent_by_memory = any_said is_sent_by_memory lines l c.args.self.now.sent_by_memory c.is_sent_by_memory.result are.sent_by_memory c.is_sent_by_memory.ensures;
      downs = λ who. ap (list_any (is_actor who)) (c.in_ok-push_downed.ensures {u = tt}) ∙ downs_more who c.args.self.now.downs.items lines l (are.downs who);
    }
