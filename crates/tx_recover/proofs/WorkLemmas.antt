-- How many are at work.
use Rattle.std.proofs.Common.{◌≡◌, ◌≤◌, ◌<◌, suc, ◌+◌, nat_lt, Bool, true, false, not, cond, List, [], ◌∷◌, ◌++◌, map, filter, length, refl, ap, ◌∙◌, arith}
use Rattle.std.specs.List.{insert}
use Rattle.std.proofs.lemmas.Bool.{ltb-true, and_parts}
use Rattle.std.proofs.lemmas.List.{length-map}
use Rattle.mini_tx.specs.declared.kept_id.KeptId.{KeptId}
use Rattle.mini_tx.specs.declared.message.Message.TheVariants as message
use Rattle.mini_tx.specs.Order.{precedes}
use Rattle.tx_recover.specs.declared.notice.Notice.TheVariants.{Ask}
use Rattle.tx_recover.specs.declared.work.Work.{Work}
use Rattle.tx_recover.specs.Laws.{AtMost64AreAtWork}
use Rattle.tx_recover.specs.Rules.{Step, answered, is_at_work, is_through, noted, place_in, placed_in, quiet, taken_up, takes_up, told, with_all, with_named}

pub place_below : (w : Work) (works : List Work) → place_in w.id works ≤ length works
place_below w [] = omega arith
place_below w (o ∷ works) = go (precedes o.id w.id) (place_below w works)
  where
    go : (b : Bool) → place_in w.id works ≤ length works → cond b (1 + place_in w.id works) 0 ≤ length (o ∷ works)
    go true below = omega (arith, below)
    go false below = omega arith

one_more : (w : Work) (works : List Work) → length (placed_in w works) ≡ suc (length works)
one_more w [] = refl
one_more w (o ∷ works) = go (precedes o.id w.id) (one_more w works)
  where
    go : (b : Bool) → length (placed_in w works) ≡ suc (length works) → length (cond b (o ∷ placed_in w works) (w ∷ o ∷ works)) ≡ suc (length (o ∷ works))
    go true more = ap suc more
    go false more = refl

few_named : (s : Step) (k : KeptId) → length s.now ≤ 64 → length (with_named s k).now ≤ 64
few_named s k few = go (takes_up s.now k.id) refl
  where
    step : Bool → Step
    step b = cond b (record { now = placed_in (taken_up k) s.now; posts = s.posts ++ map (told (Ask k.id)) k.participants }) s

    go : (b : Bool) → takes_up s.now k.id ≡ b → length (step b).now ≤ 64
    go true takes =
        let below : length s.now < 64 = ltb-true (length s.now) 64 (and_parts (not (is_at_work k.id s.now)) (nat_lt (length s.now) 64) takes).1 in
        let e = one_more (taken_up k) s.now in
        omega (arith, below, e)
    go false takes = few

few_all : (s : Step) (ids : List KeptId) → length s.now ≤ 64 → length (with_all s ids).now ≤ 64
few_all s [] few = few
few_all s (k ∷ ids) few = few_all (with_named s k) ids (few_named s k few)

no_more : {X : Type 0} (test : X → Bool) (xs : List X) → length (filter test xs) ≤ length xs
no_more test [] = omega arith
no_more test (x ∷ xs) = go (test x) (no_more test xs)
  where
    go : (b : Bool) → length (filter test xs) ≤ length xs → length (cond b (x ∷ filter test xs) (filter test xs)) ≤ length (x ∷ xs)
    go true less = omega (arith, less)
    go false less = omega (arith, less)

pub at_most_64_are_at_work : AtMost64AreAtWork
at_most_64_are_at_work works m (message.Kept ids cut) running few = few_all (quiet works) ids few
at_most_64_are_at_work works m (message.Answer id ok) running few =
    let e = length-map works (λ (w : Work). (answered m id ok w).now) in
    omega (arith, few, e)
at_most_64_are_at_work works m (message.Done id) running few =
    let e = length-map works (noted m id) in
    let less = no_more (λ (w : Work). not (is_through w)) (map (noted m id) works) in
    omega (arith, few, e, less)
at_most_64_are_at_work works m (message.Prepare id participants items) running few = few
at_most_64_are_at_work works m (message.Voted id v) running few = few
at_most_64_are_at_work works m (message.Decide id commit) running few = few
at_most_64_are_at_work works m (message.Forget id) running few = few
at_most_64_are_at_work works m message.List running few = few
at_most_64_are_at_work works m (message.Ask id) running few = few
at_most_64_are_at_work works m (message.Hold cut) running few = few
at_most_64_are_at_work works m (message.Held cut answer) running few = few
at_most_64_are_at_work works m (message.Release cut) running few = few
at_most_64_are_at_work works m (message.Drop cut) running few = few
at_most_64_are_at_work works m (message.ReadCut cut place) running few = few
at_most_64_are_at_work works m (message.Piece cut place bytes) running few = few

pub placed_is : (w : Work) (works : List Work) → insert works (place_in w.id works) w ≡ placed_in w works
placed_is w [] = refl
placed_is w (o ∷ works) = go (precedes o.id w.id) (placed_is w works)
  where
    go : (b : Bool) → insert works (place_in w.id works) w ≡ placed_in w works
        → insert (o ∷ works) (cond b (1 + place_in w.id works) 0) w ≡ cond b (o ∷ placed_in w works) (w ∷ o ∷ works)
    go true rest = let next : 1 + place_in w.id works ≡ suc (place_in w.id works) = omega arith in
        ap (λ n. insert (o ∷ works) n w) next ∙ ap (λ (ws : List Work). o ∷ ws) rest
    go false rest = refl
