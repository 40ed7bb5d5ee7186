use Rattle.std.proofs.Common.{◌≡◌, ℕ, ◌≤◌, true, false, Some, None, length, refl, sym, ap, ◌∙◌, subst}
use Rattle.std.proofs.lemmas.List.{length-map}
use Rattle.event_text.specs.declared.event.Event.{Event}
use Rattle.transcript_checker.proofs.JudgeLemmas.{not_over, not_begun, event_judged}
use Rattle.transcript_checker.proofs.checker.Checker.begin_told.Goals as goal

pub returns-then-not-branch : goal.returns-then-not-branch
returns-then-not-branch c o n book stands goes =
    let is : c.in_ok-is_over.field-0 ≡ false = cc (c.if-not-branch.true) in
    not_over o c.args.events.now n book c.args.self.now stands goes c.args.told.now (sym (c.in_ok-is_over.ensures {u = tt}) ∙ is)

pub returns-then-not-begins : goal.returns-then-not-begins
returns-then-not-begins c o n book stands goes =
    let is : c.begins.result ≡ false = cc (c.if-not-begins.true) in
    not_begun o c.args.events.now n book c.args.self.now stands goes c.args.told.now c.next_event-next.result c.next_event-next.ensures.next (sym c.begins.ensures ∙ is)

pub returns : goal.returns
returns c o n book stands goes =
    let over : c.in_ok-is_over.field-0 ≡ true = cc (c.if-not-branch.false) in
    let is : c.begins.result ≡ true = cc (c.if-not-begins.false) in
    let within = subst (λ (m : ℕ). c.next_event-next.result.taken ≤ m) (sym (length-map {A = Event} c.args.events.now Some)) c.next_event-next.ensures.within in
    event_judged o c.args.events.now n book c.args.self.now stands goes c.next_event-next.result c.args.told.now c.next_event-next.new.facts c.begin.new.self
    (sym (c.in_ok-is_over.ensures {u = tt}) ∙ over) c.next_event-next.ensures.next (sym c.begins.ensures ∙ is) within c.next_event-next.ensures.same (c.in_ok-begin.ensures {u = tt})
