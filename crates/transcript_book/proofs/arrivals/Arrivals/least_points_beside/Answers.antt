use Rattle.std.proofs.Common.{◌≡◌, ℕ, ◌≤◌, List, Some, ◌∙◌, subst}
use Rattle.std.specs.Prelude.{slice_get}
use Rattle.transcript_rules.specs.declared.arrival.Arrival.{Arrival}
use Rattle.transcript_book.specs.declared.open.Open.{Open}
use Rattle.transcript_rules.specs.Book.{numbered}
use Rattle.transcript_book.proofs.OpenLemmas.{running_beside}
use Rattle.transcript_book.proofs.arrivals.Arrivals.least_points_beside.Goals as goal

pub returns-clause-each : goal.returns-clause-each
returns-clause-each c a k at runs other =
    let same : c.args.self.now ≡ c.self.inside.told.items = cc in
    running_beside c.self.inside.told.items k a c.least_points_beside.result c.args.number
    (subst (λ (os : List Open). (j : ℕ) (o : Open) → slice_get os j ≡ Some o → (o.number ≡ c.args.number → ⊥) → c.least_points_beside.result ≤ o.points) (c.deref.ensures.value ∙ c.self.invariant) c.least_points_beside.ensures.each)
    (subst (λ (xs : List Arrival). numbered xs k ≡ Some a) same at) runs other
