use Rattle.std.proofs.Common.{◌≡◌, Some, sym, ap, ◌∙◌, subst}
use Rattle.std.specs.Option.{option_copied}
use Rattle.nfs_service.specs.Reply.{heard}
use Rattle.transcript_rules.specs.declared.arrival.Arrival.{Arrival}
use Rattle.transcript_rules.specs.Book.{numbered}
use Rattle.transcript_trees.specs.Trees.{Changes}
use Rattle.transcript_checker.specs.Answers.{Changed}
use Rattle.transcript_checker.proofs.StandLemmas.{same_some}
use Rattle.transcript_checker.proofs.TreeLineLemmas.{changed_as}
use Rattle.transcript_checker.proofs.trees.change.Goals as goal

pub returns-clause-change : goal.returns-clause-change
returns-clause-change c ts a kept came =
    let a_is : c.in-Some.arrival.now ≡ a = same_some (numbered c.args.facts.now.arrivals c.args.number) c.in-Some.arrival.now a (ap (numbered c.args.facts.now.arrivals) (sym c.from.ensures) ∙ sym c.get.ensures ∙ ap option_copied c.in-Some.is) came in
    let request_is = (c.in_ok-request.ensures {u = tt}).exact ∙ ap heard (c.as_slice.ensures.value ∙ ap (λ (x : Arrival). x.bytes) a_is) in
    let changes = subst (λ (x : Arrival). Changes ts c.in_ok-request.request c.args.number x.moment c.step.new.self c.in_ok-outcome.outcome) a_is ((c.in_ok-outcome.ensures {u = tt}).step ts kept) in
    rw c.reply_of.ensures (changed_as ts a c.args.number c.args.made c.in_ok-request.request c.args.trees.now c.step.new.self c.in_ok-outcome.outcome request_is changes)
