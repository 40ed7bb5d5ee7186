-- The arrivals that have not ended, beside all.
use Rattle.std.proofs.Common.{◌≡◌, ◌≢◌, ℕ, zero, suc, ◌+◌, ◌<◌, ◌≤◌, nat_lt, true, false, cond, not, List, [], ◌∷◌, ◌++◌, length, map, take, drop, get_or, None, Some, refl, sym, ap, ◌∙◌, subst, arith}
use Rattle.std.specs.Prelude.{Bool, ◌&&◌, ◌==◌, if◌then◌else◌, filter, count_by, slice_get}
use Rattle.std.proofs.Math.Seq.{drop-cons}
use Rattle.std.proofs.lemmas.List.Sums.{sum_by-cons}
use Rattle.std.proofs.lemmas.Bool.Decides.{nat_tests}
use Rattle.std.specs.Option.{option_map_or}
use Rattle.transcript_rules.specs.declared.arrival.Arrival.{Arrival}
use Rattle.transcript_rules.specs.declared.ended.Ended.{Ended}
use Rattle.transcript_rules.specs.declared.ended.Ended.TheVariants.{Lost}
use Rattle.transcript_book.specs.declared.open.Open.{Open}
use Rattle.transcript_rules.specs.Book.{numbered, with_numbered, is_open, first_open}
use Rattle.transcript_rules.specs.Next.{lost_at, with_end, with_point}
use Rattle.transcript_rules.specs.Cause.{is_open_before}
use Rattle.transcript_book.proofs.PostLemmas.{as_many}
use Rattle.transcript_book.specs.Opens.{is_running, open_of, opens, first_of, is_before}

-- ---- one more

pub opens_more : (arrivals : List Arrival) (k : ℕ) (a : Arrival) → is_running a ≡ true → opens k (arrivals ++ a ∷ []) ≡ opens k arrivals ++ open_of (k + length arrivals) a ∷ []
unfolding opens
opens_more [] k a runs = ap (λ b. cond b (open_of k a ∷ []) []) runs ∙ ap (λ n. open_of n a ∷ []) (omega arith)
opens_more (x ∷ arrivals) k a runs =
    ap (λ os. cond (is_running x) (open_of k x ∷ os) os) (opens_more arrivals (k + 1) a runs ∙ ap (λ n. opens (k + 1) arrivals ++ open_of n a ∷ []) (omega arith))
    ∙ joined (is_running x) (open_of k x) (opens (k + 1) arrivals) (open_of (k + suc (length arrivals)) a ∷ [])
  where
    joined : (b : Bool) (o : Open) (xs ys : List Open) → cond b (o ∷ (xs ++ ys)) (xs ++ ys) ≡ cond b (o ∷ xs) xs ++ ys
    joined true o xs ys = refl
    joined false o xs ys = refl

-- ---- one changes

-- a change that leaves what is kept
pub opens_same : (f : Arrival → Arrival) → ((a : Arrival) → is_running (f a) ≡ is_running a) → ((k : ℕ) (a : Arrival) → open_of k (f a) ≡ open_of k a)
    → (arrivals : List Arrival) (k i : ℕ) → opens k (with_numbered arrivals i f) ≡ opens k arrivals
unfolding opens with_numbered
opens_same f runs same arrivals k zero = refl
opens_same f runs same [] k (suc i) = refl
opens_same f runs same (x ∷ arrivals) k (suc zero) =
    ap (λ b. cond b (open_of k (f x) ∷ opens (k + 1) arrivals) (opens (k + 1) arrivals)) (runs x)
    ∙ ap (λ o. cond (is_running x) (o ∷ opens (k + 1) arrivals) (opens (k + 1) arrivals)) (same k x)
opens_same f runs same (x ∷ arrivals) k (suc (suc i)) =
    ap (λ os. cond (is_running x) (open_of k x ∷ os) os) (opens_same f runs same arrivals (k + 1) (suc i))

abbrev other : ℕ → Open → Bool
other n o = not (o.number == n)

differs : (a b : ℕ) → b < a → not (a == b) ≡ true
differs a b above = grind (arith, nat_tests)

differs_below : (a b : ℕ) → a < b → not (a == b) ≡ true
differs_below a b above = grind (arith, nat_tests)

same_number : (a : ℕ) → not (a == a) ≡ false
same_number a = grind (arith, nat_tests)

kept_first : (b t : Bool) (n : ℕ) (o : Open) (os : List Open) → other n o ≡ true → filter (other n) (cond b (o ∷ os) os) ≡ cond b (o ∷ filter (other n) os) (filter (other n) os)
kept_first true t n o os is = ap (λ c. cond c (o ∷ filter (other n) os) (filter (other n) os)) is
kept_first false t n o os is = refl

dropped_first : (b : Bool) (n : ℕ) (o : Open) (os : List Open) → other n o ≡ false → filter (other n) (cond b (o ∷ os) os) ≡ filter (other n) os
dropped_first true n o os is = ap (λ c. cond c (o ∷ filter (other n) os) (filter (other n) os)) is
dropped_first false n o os is = refl

-- a number below all is not among them
none_below : (arrivals : List Arrival) (k n : ℕ) → n < k → filter (other n) (opens k arrivals) ≡ opens k arrivals
unfolding opens
none_below [] k n below = refl
none_below (x ∷ arrivals) k n below =
    kept_first (is_running x) true n (open_of k x) (opens (k + 1) arrivals) (differs k n below)
    ∙ ap (λ os. cond (is_running x) (open_of k x ∷ os) os) (none_below arrivals (k + 1) n (omega (arith, below)))

pub opens_ended : (how : Ended) (arrivals : List Arrival) (k i n : ℕ) → n ≡ k + i → opens k (with_numbered arrivals (suc i) (with_end how)) ≡ filter (other n) (opens k arrivals)
unfolding opens with_numbered
opens_ended how [] k i n is = refl
opens_ended how (x ∷ arrivals) k zero n is =
    sym (none_below arrivals (k + 1) n (omega (arith, is)))
    ∙ sym (dropped_first (is_running x) n (open_of k x) (opens (k + 1) arrivals) (let same : n ≡ k = omega (arith, is) in ap (λ m. not (k == m)) same ∙ same_number k))
opens_ended how (x ∷ arrivals) k (suc i) n is =
    ap (λ os. cond (is_running x) (open_of k x ∷ os) os) (opens_ended how arrivals (k + 1) i n (omega (arith, is)))
    ∙ sym (kept_first (is_running x) true n (open_of k x) (opens (k + 1) arrivals) (differs_below k n (omega (arith, is))))

-- ---- what is asked of them

and_true : (a : Bool) → (a && true) ≡ a
and_true true = refl
and_true false = refl

and_false : (a : Bool) → (a && false) ≡ false
and_false true = refl
and_false false = refl

moved : (a b c : Bool) → ((a && b) && c) ≡ cond b (a && c) false
moved true true c = refl
moved true false c = refl
moved false true c = refl
moved false false c = refl

first_if : (runs : Bool) (n : ℕ) (o : Open) (os : List Open) → first_of n (cond runs (o ∷ os) os) ≡ cond ((o.node == n) && runs) (Some o.number) (first_of n os)
unfolding first_of
first_if true n o os = ap (λ b. cond b (Some o.number) (first_of n os)) (sym (and_true (o.node == n)))
first_if false n o os = ap (λ b. cond b (Some o.number) (first_of n os)) (sym (and_false (o.node == n)))

pub first_is : (n : ℕ) (arrivals : List Arrival) (k : ℕ) → first_of n (opens k arrivals) ≡ first_open n k arrivals
unfolding opens first_of first_open
first_is n [] k = refl
first_is n (x ∷ arrivals) k =
    first_if (is_running x) n (open_of k x) (opens (k + 1) arrivals)
    ∙ ap (λ o. cond ((x.node == n) && is_running x) (Some k) o) (first_is n arrivals (k + 1))

counted : (runs : Bool) (n now : ℕ) (o : Open) (os : List Open) → count_by (is_before n now) (cond runs (o ∷ os) os) ≡ cond (cond runs (is_before n now o) false) 1 0 + count_by (is_before n now) os
counted true n now o os = sum_by-cons (λ (x : Open). cond (is_before n now x) 1 0) o os
counted false n now o os = omega arith

pub before_is : (n now : ℕ) (arrivals : List Arrival) (k : ℕ) → count_by (is_before n now) (opens k arrivals) ≡ count_by (is_open_before n now) arrivals
unfolding opens
before_is n now [] k = refl
before_is n now (x ∷ arrivals) k =
    counted (is_running x) n now (open_of k x) (opens (k + 1) arrivals)
    ∙ ap (λ b. cond b 1 0 + count_by (is_before n now) (opens (k + 1) arrivals)) (sym (moved (x.node == n) (is_running x) (nat_lt x.under now)))
    ∙ ap (λ m. cond (is_open_before n now x) 1 0 + m) (before_is n now arrivals (k + 1))
    ∙ sym (sum_by-cons (λ (a : Arrival). cond (is_open_before n now a) 1 0) x arrivals)

-- ---- the first of a list, found from the front

is_same : (a b : ℕ) → a ≡ b → (a == b) ≡ true
is_same a b same = grind (arith, nat_tests)

is_other : (a b : ℕ) → a ≢ b → (a == b) ≡ false
is_other a b differ = grind (arith, nat_tests)

pub first_found : (n : ℕ) (os : List Open) (i : ℕ) (d : Open) → i < length os → first_of n (drop i os) ≡ first_of n os → (get_or os i d).node ≡ n → Some (get_or os i d).number ≡ first_of n os
unfolding first_of
first_found n os i d below so_far is =
    sym (ap (λ b. cond b (Some (get_or os i d).number) (first_of n (drop (suc i) os))) (is_same (get_or os i d).node n is)) ∙ sym (ap (first_of n) (drop-cons os i d below)) ∙ so_far

one_more : (i : ℕ) → i + 1 ≡ suc i
one_more i = omega arith

pub first_passed : (n : ℕ) (os : List Open) (i : ℕ) (d : Open) → i < length os → first_of n (drop i os) ≡ first_of n os → (get_or os i d).node ≢ n → first_of n (drop (i + 1) os) ≡ first_of n os
unfolding first_of
first_passed n os i d below so_far is =
    ap (λ m. first_of n (drop m os)) (one_more i)
    ∙ sym (ap (λ b. cond b (Some (get_or os i d).number) (first_of n (drop (suc i) os))) (is_other (get_or os i d).node n is)) ∙ sym (ap (first_of n) (drop-cons os i d below)) ∙ so_far

drop_past : (os : List Open) (i : ℕ) → length os ≤ i → drop i os ≡ []
drop_past [] zero past = refl
drop_past [] (suc i) past = refl
drop_past (x ∷ os) zero past = absurd (omega (arith, past))
drop_past (x ∷ os) (suc i) past = drop_past os i (omega (arith, past))

pub first_none : (n : ℕ) (os : List Open) (i : ℕ) → length os ≤ i → first_of n (drop i os) ≡ first_of n os → None ≡ first_of n os
unfolding first_of
first_none n os i past so_far = sym (ap (first_of n) (drop_past os i past)) ∙ so_far

-- ---- what is kept stays

pub ended_kept : (how : Ended) (told after : List Arrival) (going left : List Open) (index number : ℕ) → number ≡ index + 1 → after ≡ with_numbered told (index + 1) (with_end how)
    → left ≡ filter (λ (o : Open). not (o.number == number)) going → going ≡ opens 1 told → left ≡ opens 1 after
ended_kept how told after going left index number is after_is left_is going_is =
    left_is ∙ ap (filter (other number)) going_is
    ∙ sym (ap (opens 1) (after_is ∙ ap (λ n. with_numbered told n (with_end how)) (omega arith)) ∙ opens_ended how told 1 index number (omega (arith, is)))

pub changed_kept : (point : ℕ) (told after : List Arrival) (going : List Open) (index : ℕ) → after ≡ with_numbered told (index + 1) (with_point point)
    → going ≡ opens 1 told → going ≡ opens 1 after
changed_kept point told after going index after_is going_is =
    going_is ∙ sym (ap (opens 1) after_is ∙ opens_same (with_point point) (λ a. refl) (λ k a. refl) told 1 (index + 1))

pub arrived_kept : (told after : List Arrival) (going more : List Open) (a : Arrival) (o : Open) (number : ℕ) → a.ended ≡ None → number ≡ length told + 1
    → o ≡ open_of number a → after ≡ told ++ a ∷ [] → more ≡ going ++ o ∷ [] → going ≡ opens 1 told → more ≡ opens 1 after
arrived_kept told after going more a o number runs number_is o_is after_is more_is going_is =
    more_is ∙ ap (λ os. os ++ o ∷ []) going_is ∙ ap (λ x. opens 1 told ++ x ∷ []) (o_is ∙ ap (λ n. open_of n a) (let n_is : number ≡ 1 + length told = omega (arith, number_is) in n_is))
    ∙ sym (ap (opens 1) after_is ∙ opens_more told 1 a (ap (λ e. option_map_or (λ x. false) e true) runs))

-- ---- a node goes down

abbrev elsewhere : ℕ → Open → Bool
elsewhere n o = not (o.node == n)

lost : (x : Arrival) (n : ℕ) → is_open n x ≡ true → lost_at n x ≡ record x { ended = Some Lost }
lost x n is = ap (λ b. if b then record x { ended = Some Lost } else x) is

stays : (x : Arrival) (n : ℕ) → is_open n x ≡ false → lost_at n x ≡ x
stays x n is = ap (λ b. if b then record x { ended = Some Lost } else x) is

both_true : (a b : Bool) → a ≡ true → b ≡ true → (a && b) ≡ true
both_true a b p q = ap (λ x. x && b) p ∙ q

lost_opens : (runs at : Bool) (x : Arrival) (n k : ℕ) → is_running x ≡ runs → (x.node == n) ≡ at
    → (os : List Open) → cond (is_running (lost_at n x)) (open_of k (lost_at n x) ∷ os) os ≡ cond runs (cond (not at) (open_of k x ∷ os) os) os
lost_opens true true x n k runs_is at_is os = ap (λ (a : Arrival). cond (is_running a) (open_of k a ∷ os) os) (lost x n (both_true (x.node == n) (is_running x) at_is runs_is))
lost_opens true false x n k runs_is at_is os = ap (λ (a : Arrival). cond (is_running a) (open_of k a ∷ os) os) (stays x n (ap (λ b. b && is_running x) at_is)) ∙ ap (λ b. cond b (open_of k x ∷ os) os) runs_is
lost_opens false true x n k runs_is at_is os = ap (λ (a : Arrival). cond (is_running a) (open_of k a ∷ os) os) (stays x n (ap (λ b. b && is_running x) at_is ∙ runs_is)) ∙ ap (λ b. cond b (open_of k x ∷ os) os) runs_is
lost_opens false false x n k runs_is at_is os = ap (λ (a : Arrival). cond (is_running a) (open_of k a ∷ os) os) (stays x n (ap (λ b. b && is_running x) at_is)) ∙ ap (λ b. cond b (open_of k x ∷ os) os) runs_is

filtered : (runs : Bool) (n : ℕ) (o : Open) (os : List Open) → cond runs (cond (elsewhere n o) (o ∷ filter (elsewhere n) os) (filter (elsewhere n) os)) (filter (elsewhere n) os) ≡ filter (elsewhere n) (cond runs (o ∷ os) os)
filtered true n o os = refl
filtered false n o os = refl

pub opens_lost : (n : ℕ) (arrivals : List Arrival) (k : ℕ) → opens k (map (lost_at n) arrivals) ≡ filter (elsewhere n) (opens k arrivals)
unfolding opens
opens_lost n [] k = refl
opens_lost n (x ∷ arrivals) k =
    lost_opens (is_running x) (x.node == n) x n k refl refl (opens (k + 1) (map (lost_at n) arrivals))
    ∙ ap (λ os. cond (is_running x) (cond (elsewhere n (open_of k x)) (open_of k x ∷ os) os) os) (opens_lost n arrivals (k + 1))
    ∙ filtered (is_running x) n (open_of k x) (opens (k + 1) arrivals)

pub lost_kept : (n : ℕ) (told after : List Arrival) (going left : List Open) → after ≡ map (lost_at n) told → left ≡ filter (λ (o : Open). not (o.node == n)) going
    → going ≡ opens 1 told → left ≡ opens 1 after
lost_kept n told after going left after_is left_is going_is =
    left_is ∙ ap (filter (elsewhere n)) going_is ∙ sym (ap (opens 1) after_is ∙ opens_lost n told 1)

-- ---- what holds of all that have not ended

behind : (runs : Bool) (o : Open) (os : List Open) (m : ℕ) → ((j : ℕ) (p : Open) → slice_get (cond runs (o ∷ os) os) j ≡ Some p → m ≤ p.points) → (j : ℕ) (p : Open) → slice_get os j ≡ Some p → m ≤ p.points
behind true o os m each j p at = each (suc j) p at
behind false o os m each j p at = each j p at

pub running_in : (arrivals : List Arrival) (k i : ℕ) (a : Arrival) (m : ℕ) → ((j : ℕ) (o : Open) → slice_get (opens k arrivals) j ≡ Some o → m ≤ o.points)
    → slice_get arrivals i ≡ Some a → a.ended ≡ None → m ≤ a.points
unfolding opens
running_in [] k i a m each at runs = absurd cc
running_in (x ∷ arrivals) k zero a m each at runs =
    let same : x ≡ a = cc in
    let is : is_running x ≡ true = ap is_running same ∙ ap (λ e. option_map_or (λ y. false) e true) runs in
    subst (λ (y : Arrival). m ≤ y.points) same
    (each 0 (open_of k x) (ap (λ b. slice_get (cond b (open_of k x ∷ opens (k + 1) arrivals) (opens (k + 1) arrivals)) 0) is))
running_in (x ∷ arrivals) k (suc i) a m each at runs =
    running_in arrivals (k + 1) i a m (behind (is_running x) (open_of k x) (opens (k + 1) arrivals) m each) at runs

pub running_points : (arrivals : List Arrival) (k : ℕ) (a : Arrival) (m : ℕ) → ((j : ℕ) (o : Open) → slice_get (opens 1 arrivals) j ≡ Some o → m ≤ o.points)
    → numbered arrivals k ≡ Some a → a.ended ≡ None → m ≤ a.points
running_points arrivals zero a m each at runs = absurd cc
running_points arrivals (suc i) a m each at runs = running_in arrivals 1 i a m each at runs

pushed : (runs : Bool) (o : Open) (os : List Open) (j : ℕ) (p : Open) → slice_get os j ≡ Some p → (i : ℕ) × (slice_get (cond runs (o ∷ os) os) i ≡ Some p)
pushed true o os j p at = (suc j, at)
pushed false o os j p at = (j, at)

-- one that has not ended is among them
open_at : (arrivals : List Arrival) (k i n : ℕ) (a : Arrival) → n ≡ k + i → slice_get arrivals i ≡ Some a → a.ended ≡ None → (j : ℕ) × (slice_get (opens k arrivals) j ≡ Some (open_of n a))
unfolding opens
open_at [] k i n a is at runs = absurd cc
open_at (x ∷ arrivals) k zero n a is at runs =
    let same : x ≡ a = cc in
    let running : is_running x ≡ true = ap is_running same ∙ ap (λ e. option_map_or (λ y. false) e true) runs in
    let first : k ≡ n = omega (arith, is) in
    (0, ap (λ b. slice_get (cond b (open_of k x ∷ opens (k + 1) arrivals) (opens (k + 1) arrivals)) 0) running ∙ ap (λ (y : Arrival). Some (open_of k y)) same ∙ ap (λ (m : ℕ). Some (open_of m a)) first)
open_at (x ∷ arrivals) k (suc i) n a is at runs =
    let rest = open_at arrivals (k + 1) i n a (omega (arith, is)) at runs in
    pushed (is_running x) (open_of k x) (opens (k + 1) arrivals) rest.0 (open_of n a) rest.1

pub running_beside : (arrivals : List Arrival) (k : ℕ) (a : Arrival) (m number : ℕ) → ((j : ℕ) (o : Open) → slice_get (opens 1 arrivals) j ≡ Some o → (o.number ≡ number → ⊥) → m ≤ o.points)
    → numbered arrivals k ≡ Some a → a.ended ≡ None → (k ≡ number → ⊥) → m ≤ a.points
running_beside arrivals zero a m number each at runs other = absurd cc
running_beside arrivals (suc i) a m number each at runs other =
    let there = open_at arrivals 1 i (suc i) a (omega arith) at runs in
    each there.0 (open_of (suc i) a) there.1 other

-- ---- all are changed one after another

swept_one : (f : Arrival → Arrival) (xs : List Arrival) (i : ℕ) → i < length xs → with_numbered (map f (take i xs) ++ drop i xs) (suc i) f ≡ map f (take (suc i) xs) ++ drop (suc i) xs
unfolding with_numbered
swept_one f [] i below = absurd (omega (arith, below))
swept_one f (x ∷ xs) zero below = refl
swept_one f (x ∷ xs) (suc i) below = ap (λ ys. f x ∷ ys) (swept_one f xs i (omega (arith, below)))

pub swept : (f : Arrival → Arrival) (xs ys zs : List Arrival) (i : ℕ) → i < length xs → (length ys ≡ length xs) × (ys ≡ map f (take i xs) ++ drop i xs)
    → zs ≡ with_numbered ys (i + 1) f → (length zs ≡ length xs) × (zs ≡ map f (take (i + 1) xs) ++ drop (i + 1) xs)
swept f xs ys zs i below so_far is = (
  ap length is ∙ as_many ys (i + 1) f ∙ so_far.0,
  is ∙ ap (λ us. with_numbered us (i + 1) f) so_far.1 ∙ ap (λ n. with_numbered (map f (take i xs) ++ drop i xs) n f) (one_more i) ∙ swept_one f xs i below
      ∙ ap (λ n. map f (take n xs) ++ drop n xs) (sym (one_more i)),
)

all_of : (f : Arrival → Arrival) (xs : List Arrival) (i : ℕ) → length xs ≤ i → map f (take i xs) ++ drop i xs ≡ map f xs
all_of f [] zero past = refl
all_of f [] (suc i) past = refl
all_of f (x ∷ xs) zero past = absurd (omega (arith, past))
all_of f (x ∷ xs) (suc i) past = ap (λ ys. f x ∷ ys) (all_of f xs i (omega (arith, past)))

pub swept_all : (f : Arrival → Arrival) (xs ys : List Arrival) (i : ℕ) → length xs ≤ i → ys ≡ map f (take i xs) ++ drop i xs → ys ≡ map f xs
swept_all f xs ys i past is = is ∙ all_of f xs i past
