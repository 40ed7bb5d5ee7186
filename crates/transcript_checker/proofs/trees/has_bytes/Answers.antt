use Rattle.std.proofs.Common.{◌≡◌, Bool, true, false, Some, None, sym, ap, ◌∙◌, subst}
use Rattle.std.specs.Prelude.{is_some}
use Rattle.std.specs.Option.{option_copied}
use Rattle.nfs_service.specs.Reply.{heard}
use Rattle.transcript_rules.specs.declared.arrival.Arrival.{Arrival}
use Rattle.transcript_rules.specs.Book.{numbered}
use Rattle.transcript_trees.specs.Trees.{Answers}
use Rattle.transcript_trees.specs.Kept.{is_given}
use Rattle.transcript_checker.proofs.StandLemmas.{same_some}
use Rattle.transcript_checker.proofs.TreeLineLemmas.{made_bytes, answered_bytes, some_point, no_point_of}
use Rattle.transcript_checker.proofs.trees.has_bytes.Goals as goal

pub returns-then-is_some-clause-has : goal.returns-then-is_some-clause-has
returns-then-is_some-clause-has c ts a kept replies came within =
    let a_is : c.in-Some.arrival.now ≡ a = same_some (numbered c.args.facts.now.arrivals c.args.number) c.in-Some.arrival.now a (ap (numbered c.args.facts.now.arrivals) (sym c.from.ensures) ∙ sym c.get.ensures ∙ ap option_copied c.in-Some.is) came in
    let some = some_point a (sym (ap (λ (x : Arrival). is_some x.point) a_is) ∙ sym c.is_some.ensures ∙ cc (c.if-is_some.true)) in
    rw (c.is.ensures ∙ ap (λ m. is_given c.args.bytes.now (numbered c.args.replies.now m)) c.from-then-is_some.ensures) (made_bytes ts a c.args.number c.args.at some.0 c.args.bytes.now c.args.trees.now _ some.1 (replies.each c.args.number a some.0 came some.1) kept)

pub returns-clause-has : goal.returns-clause-has
returns-clause-has c ts a kept replies came within =
    let a_is : c.in-Some.arrival.now ≡ a = same_some (numbered c.args.facts.now.arrivals c.args.number) c.in-Some.arrival.now a (ap (numbered c.args.facts.now.arrivals) (sym c.from.ensures) ∙ sym c.get.ensures ∙ ap option_copied c.in-Some.is) came in
    let none = no_point_of a (sym (ap (λ (x : Arrival). is_some x.point) a_is) ∙ sym c.is_some.ensures ∙ cc (c.if-is_some.false)) in
    let request_is = (c.in_ok-request.ensures {u = tt}).exact ∙ ap heard (c.as_slice.ensures.value ∙ ap (λ (x : Arrival). x.bytes) a_is) in
    let range = within none in
    let answers = subst (λ (x : Arrival). Answers ts c.args.trees.now.oldest c.args.at c.in_ok-request.request c.args.number x.moment c.answer.new.self c.in_ok-outcome.outcome) a_is ((c.in_ok-outcome.ensures {u = tt}).answers ts kept) in
    rw c.is_answer.ensures (answered_bytes ts a c.args.number c.args.at c.args.trees.now.oldest c.args.bytes.now c.in_ok-request.request c.answer.new.self c.in_ok-outcome.outcome none request_is range.0 range.1 answers)
