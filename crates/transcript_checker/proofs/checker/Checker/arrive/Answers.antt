use Rattle.std.proofs.Common.{◌≡◌, ℕ, ◌≤◌, true, false, Some, None, length, refl, sym, ap, ◌∙◌, subst}
use Rattle.std.specs.Option.{option_copied}
use Rattle.std.proofs.lemmas.List.{length-map}
use Rattle.event_text.specs.declared.event.Event.{Event}
use Rattle.transcript_checker.proofs.JudgeLemmas.{not_ready, no_arrival, arrive_judged}
use Rattle.transcript_checker.proofs.checker.Checker.arrive.Goals as goal

pub returns-then-not-branch : goal.returns-then-not-branch
returns-then-not-branch c o n book stands goes =
    let is : c.in_ok-is_ready.field-0 ≡ false = cc (c.if-not-branch.true) in
    not_ready o c.args.events.now n book c.args.self.now stands goes c.args.number c.args.node (sym (c.in_ok-is_ready.ensures {u = tt}) ∙ is)

pub returns-in_default : goal.returns-in_default
returns-in_default c o n book stands goes =
    let none : c.arriving.result ≡ None = cc in
    no_arrival o c.args.events.now n book c.args.self.now stands goes c.args.number c.args.node c.next_event-next.result c.next_event-next.ensures.next (sym c.arriving.ensures ∙ ap option_copied none)

pub returns : goal.returns
returns c o n book stands goes =
    let is : c.in_ok-is_ready.field-0 ≡ true = cc (c.if-not-branch.false) in
    let within = subst (λ (m : ℕ). c.next_event-next.result.taken ≤ m) (sym (length-map {A = Event} c.args.events.now Some)) c.next_event-next.ensures.within in
    arrive_judged o c.args.events.now n book c.args.self.now stands goes c.args.number c.args.node c.next_event-next.result c.in-Some.event.now c.next_event-next.new.facts c.begin.new.self
    (sym (c.in_ok-is_ready.ensures {u = tt}) ∙ is) c.next_event-next.ensures.next (sym c.arriving.ensures ∙ ap option_copied c.in-Some.is) within c.next_event-next.ensures.same (c.in_ok-begin.ensures {u = tt})
