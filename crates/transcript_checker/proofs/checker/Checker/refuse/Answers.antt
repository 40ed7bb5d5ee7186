use Rattle.std.proofs.Common.{◌≡◌, true, false, sym, ◌∙◌}
use Rattle.transcript_checker.proofs.JudgeLemmas.{refusal_not_over, not_refused, refusal_judged}
use Rattle.transcript_checker.proofs.checker.Checker.refuse.Goals as goal

pub returns-then-not-branch : goal.returns-then-not-branch
returns-then-not-branch c o n book stands goes =
    let is : c.in_ok-is_over.field-0 ≡ false = cc (c.if-not-branch.true) in
    refusal_not_over o c.args.events.now n book c.args.self.now stands goes c.args.number (sym (c.in_ok-is_over.ensures {u = tt}) ∙ is)

pub returns-then-not-is_refused : goal.returns-then-not-is_refused
returns-then-not-is_refused c o n book stands goes =
    let is : c.is_refused.result ≡ false = cc (c.if-not-is_refused.true) in
    not_refused o c.args.events.now n book c.args.self.now stands goes c.args.number c.next_event-next.result c.next_event-next.ensures.next (sym c.is_refused.ensures ∙ is)

pub returns : goal.returns
returns c o n book stands goes =
    let over : c.in_ok-is_over.field-0 ≡ true = cc (c.if-not-branch.false) in
    let is : c.is_refused.result ≡ true = cc (c.if-not-is_refused.false) in
    refusal_judged o c.args.events.now n book c.args.self.now stands goes c.args.number c.next_event-next.result c.next_event-next.new.facts c.note.new.facts (sym (c.in_ok-is_over.ensures {u = tt}) ∙ over)
    c.next_event-next.ensures.next (sym c.is_refused.ensures ∙ is) c.next_event-next.ensures.same (rw (sym c.requires.line) (c.in_ok-note.ensures {u = tt}))
