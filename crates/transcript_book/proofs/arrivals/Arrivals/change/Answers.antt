use Rattle.std.proofs.Common.{◌≡◌, List, length, ◌<◌, ◌≤◌, sym, subst}
use Rattle.transcript_rules.specs.declared.arrival.Arrival.{Arrival}
use Rattle.transcript_rules.specs.Next.{with_point}
use Rattle.transcript_book.proofs.OpenLemmas.{changed_kept}
use Rattle.transcript_book.proofs.PostLemmas.{not_numbered}
use Rattle.transcript_book.proofs.arrivals.Arrivals.change.Goals as goal

pub invariant_of-self : goal.invariant_of-self
invariant_of-self c = changed_kept c.args.point c.self.inside.told.items c.change_at.new.told.items c.self.inside.going.items c.in-Some.index c.change_at.ensures c.self.invariant

pub returns-in_default : goal.returns-in_default
returns-in_default c =
    let same : c.deref.result.now ≡ c.args.self.now = cc in
    sym (not_numbered c.args.self.now c.args.number (with_point c.args.point) (subst (λ (xs : List Arrival). 0 < c.args.number → c.args.number ≤ length xs → ⊥) same c.in_default.ensures.none))
