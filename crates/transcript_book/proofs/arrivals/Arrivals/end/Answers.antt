use Rattle.std.proofs.Common.{◌≡◌, List, length, ◌<◌, ◌≤◌, sym, subst}
use Rattle.transcript_rules.specs.declared.arrival.Arrival.{Arrival}
use Rattle.transcript_rules.specs.Next.{with_end}
use Rattle.transcript_book.proofs.OpenLemmas.{ended_kept}
use Rattle.transcript_book.proofs.PostLemmas.{not_numbered}
use Rattle.transcript_book.proofs.arrivals.Arrivals.end.Goals as goal

pub invariant_of-self : goal.invariant_of-self
invariant_of-self c = ended_kept c.args.how c.self.inside.told.items c.end_at.new.told.items c.self.inside.going.items c.without_number.new.going.items c.in-Some.index c.args.number c.in-Some.ensures.some.1 c.end_at.ensures c.without_number.ensures c.self.invariant

pub returns-in_default : goal.returns-in_default
returns-in_default c =
    let same : c.deref.result.now ≡ c.args.self.now = cc in
    sym (not_numbered c.args.self.now c.args.number (with_end c.args.how) (subst (λ (xs : List Arrival). 0 < c.args.number → c.args.number ≤ length xs → ⊥) same c.in_default.ensures.none))
