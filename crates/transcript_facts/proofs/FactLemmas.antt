-- Who is left where an actor is taken out.
use Rattle.std.proofs.Common.{◌≡◌, true, false, cond, not, List, [], ◌∷◌, refl, ap}
use Rattle.std.specs.Prelude.{Bool, filter}
use Rattle.mini_tx.specs.declared.actor.Actor.{Actor}
use Rattle.transcript_rules.specs.Book.{is_actor}
use Rattle.transcript_rules.specs.Next.{without}

turned : (b : Bool) (x : Actor) (xs ys : List Actor) → xs ≡ ys → cond (not b) (x ∷ xs) xs ≡ cond b ys (x ∷ ys)
turned true x xs ys same = same
turned false x xs ys same = ap (λ zs. x ∷ zs) same

pub others_left : (who : Actor) (xs : List Actor) → filter (λ (a : Actor). not (is_actor who a)) xs ≡ without who xs
unfolding without
others_left who [] = refl
others_left who (x ∷ xs) = turned (is_actor who x) x (filter (λ (a : Actor). not (is_actor who a)) xs) (without who xs) (others_left who xs)
