use Rattle.std.proofs.Common.{◌≡◌, true, false, sym, ◌∙◌}
use Rattle.transcript_checker.proofs.JudgeLemmas.{end_not_over, not_end_yet, end_judged}
use Rattle.transcript_checker.proofs.checker.Checker.end.Goals as goal

pub returns-then-not-branch : goal.returns-then-not-branch
returns-then-not-branch c o n book stands goes =
    let is : c.in_ok-is_over.field-0 ≡ false = cc (c.if-not-branch.true) in
    end_not_over o c.args.events.now n book c.args.self.now stands goes (sym (c.in_ok-is_over.ensures {u = tt}) ∙ is)

pub returns-then-not-is_coming : goal.returns-then-not-is_coming
returns-then-not-is_coming c o n book stands goes =
    let is : c.is_coming.result ≡ false = cc (c.if-not-is_coming.true) in
    not_end_yet o c.args.events.now n book c.args.self.now stands goes c.next_event-next.result c.next_event-next.ensures.next (sym c.is_coming.ensures ∙ is)

pub returns : goal.returns
returns c o n book stands goes =
    let over : c.in_ok-is_over.field-0 ≡ true = cc (c.if-not-branch.false) in
    let is : c.is_coming.result ≡ true = cc (c.if-not-is_coming.false) in
    end_judged o c.args.events.now n book c.args.self.now stands goes c.next_event-next.result c.next_event-next.new.facts c.note.new.facts (sym (c.in_ok-is_over.ensures {u = tt}) ∙ over) c.next_event-next.ensures.next
    (sym c.is_coming.ensures ∙ is) c.next_event-next.ensures.same (rw (sym c.requires.line) (c.in_ok-note.ensures {u = tt}))
