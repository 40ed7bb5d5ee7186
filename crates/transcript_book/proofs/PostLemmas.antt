-- One message of a list that is changed, and the least that waits.
use Rattle.std.proofs.Common.{◌≡◌, ℕ, zero, suc, ◌+◌, ◌<◌, ◌≤◌, true, false, cond, List, [], ◌∷◌, length, get_or, Option, None, Some, refl, sym, ap, ◌∙◌, subst, arith}
use Rattle.std.specs.Prelude.{slice_get, slice_set}
use Rattle.std.specs.List.Sorted.{IsNonDecreasingBy}
use Rattle.transcript_rules.specs.declared.post.Post.{Post}
use Rattle.transcript_book.specs.Posts.{ArePassed}
use Rattle.transcript_rules.specs.Book.{with_numbered}
use Rattle.transcript_rules.specs.Next.{least_from}

-- ---- one element is changed

pub set_numbered : {X : Type 0} → (xs : List X) (i : ℕ) (f : X → X) (x : X) → slice_get xs i ≡ Some x → slice_set xs i (f x) ≡ with_numbered xs (suc i) f
unfolding with_numbered
set_numbered [] i f x at = refl
set_numbered (y ∷ xs) zero f x at = let same : x ≡ y = cc in ap (λ z. f z ∷ xs) same
set_numbered (y ∷ xs) (suc i) f x at = ap (λ zs. y ∷ zs) (set_numbered xs i f x at)

pub set_numbered_at : {X : Type 0} → (xs : List X) (i : ℕ) (f : X → X) (x : X) → slice_get xs i ≡ Some x → slice_set xs i (f x) ≡ with_numbered xs (i + 1) f
set_numbered_at xs i f x at = set_numbered xs i f x at ∙ ap (λ k. with_numbered xs k f) (omega arith)

pub none_numbered : {X : Type 0} → (xs : List X) (i : ℕ) (f : X → X) → length xs ≤ i → with_numbered xs (suc i) f ≡ xs
unfolding with_numbered
none_numbered [] i f past = refl
none_numbered (y ∷ xs) zero f past = absurd (omega (arith, past))
none_numbered (y ∷ xs) (suc i) f past = ap (λ zs. y ∷ zs) (none_numbered xs i f (omega (arith, past)))

-- a number that no element has
pub not_numbered : {X : Type 0} → (xs : List X) (k : ℕ) (f : X → X) → (0 < k → k ≤ length xs → ⊥) → with_numbered xs k f ≡ xs
unfolding with_numbered
not_numbered xs zero f past = refl
not_numbered xs (suc i) f past = none_numbered xs i f (omega (arith, past))

pub as_many : {X : Type 0} → (xs : List X) (k : ℕ) (f : X → X) → length (with_numbered xs k f) ≡ length xs
unfolding with_numbered
as_many xs zero f = refl
as_many [] (suc k) f = refl
as_many (x ∷ xs) (suc zero) f = refl
as_many (x ∷ xs) (suc (suc k)) f = ap suc (as_many xs (suc k) f)

-- what a change of one leaves of a number that each has
pub under_after : {X : Type 0} → (n : X → ℕ) (xs : List X) (k : ℕ) (f : X → X) → ((x : X) → n (f x) ≡ n x) → (i : ℕ) (d : X) → n (get_or (with_numbered xs k f) i d) ≡ n (get_or xs i d)
unfolding with_numbered
under_after n xs zero f same i d = refl
under_after n [] (suc k) f same i d = refl
under_after n (x ∷ xs) (suc zero) f same zero d = same x
under_after n (x ∷ xs) (suc zero) f same (suc i) d = refl
under_after n (x ∷ xs) (suc (suc k)) f same zero d = refl
under_after n (x ∷ xs) (suc (suc k)) f same (suc i) d = under_after n xs (suc k) f same i d

pub in_order_after : {X : Type 0} → (n : X → ℕ) (xs : List X) (k : ℕ) (f : X → X) → ((x : X) → n (f x) ≡ n x) → IsNonDecreasingBy n xs → IsNonDecreasingBy n (with_numbered xs k f)
in_order_after n xs k f same order i j d le below =
    let first = under_after n xs k f same i d in
    let second = under_after n xs k f same j d in
    let before = order i j d le (subst (λ (m : ℕ). j < m) (as_many xs k f) below) in
    omega (arith, first, second, before)

waits_after : (posts : List Post) (k : ℕ) (f : Post → Post) → ((p : Post) → (f p).waits ≡ false) → (j : ℕ) (p : Post)
    → ((q : Post) → slice_get posts j ≡ Some q → q.waits ≡ false) → slice_get (with_numbered posts k f) j ≡ Some p → p.waits ≡ false
unfolding with_numbered
waits_after posts zero f off j p before at = before p at
waits_after [] (suc k) f off j p before at = absurd cc
waits_after (x ∷ posts) (suc zero) f off zero p before at = let same : f x ≡ p = cc in ap (λ (q : Post). q.waits) (sym same) ∙ off x
waits_after (x ∷ posts) (suc zero) f off (suc j) p before at = before p at
waits_after (x ∷ posts) (suc (suc k)) f off zero p before at = before p at
waits_after (x ∷ posts) (suc (suc k)) f off (suc j) p before at = waits_after posts (suc k) f off j p before at

pub passed_after : (posts : List Post) (k : ℕ) (f : Post → Post) (first : ℕ) → ((p : Post) → (f p).waits ≡ false) → ArePassed posts first → ArePassed (with_numbered posts k f) first
passed_after posts k f first off are = record {
  within = subst (λ (m : ℕ). first ≤ m) (sym (as_many posts k f)) are.within;
  passed = λ j p low at. waits_after posts k f off j p (λ q there. are.passed j q low there) at;
}

-- ---- the least that waits

slice_get_nowhere : {X : Type 0} → (xs : List X) (i : ℕ) → slice_get xs i ≡ None → length xs ≤ i
slice_get_nowhere [] i none = omega arith
slice_get_nowhere (x ∷ xs) zero none = absurd cc
slice_get_nowhere (x ∷ xs) (suc i) none = let rest = slice_get_nowhere xs i none in omega arith

later : (posts : List Post) (p : Post) (i : ℕ) → ArePassed (p ∷ posts) (suc i) → ArePassed posts i
later posts p i are = record { within = omega (arith, are.within); passed = λ j q low at. are.passed (suc j) q (omega (arith, low)) at }

step : (p : Post) (k : ℕ) (rest : Option ℕ) → p.waits ≡ false → cond p.waits (Some k) rest ≡ rest
step p k rest off = ap (λ b. cond b (Some k) rest) off

pub least_is : (posts : List Post) (k i : ℕ) (p : Post) → ArePassed posts i → slice_get posts i ≡ Some p → p.waits ≡ true → least_from k posts ≡ Some (k + i)
unfolding least_from
least_is [] k i p are at waits = absurd cc
least_is (q ∷ posts) k zero p are at waits =
    let same : q ≡ p = cc in
    ap (λ b. cond b (Some k) (least_from (k + 1) posts)) (ap (λ (x : Post). x.waits) same ∙ waits) ∙ ap Some (omega arith)
least_is (q ∷ posts) k (suc i) p are at waits =
    step q k (least_from (k + 1) posts) (are.passed 0 q (omega arith) refl)
    ∙ least_is posts (k + 1) i p (later posts q i are) at waits
    ∙ ap Some (omega arith)

pub least_none : (posts : List Post) (k : ℕ) → ArePassed posts (length posts) → least_from k posts ≡ None
unfolding least_from
least_none [] k are = refl
least_none (q ∷ posts) k are =
    step q k (least_from (k + 1) posts) (are.passed 0 q (omega arith) refl) ∙ least_none posts (k + 1) (later posts q (length posts) are)

-- the first message that waits, found by its place
pub least_at : (posts : List Post) (i : ℕ) → ArePassed posts i → ((p : Post) → slice_get posts i ≡ Some p → p.waits ≡ true) → i < length posts → Some (i + 1) ≡ least_from 1 posts
least_at posts i are waits below = by (slice_get posts i) refl
  where
    by : (o : Option Post) → slice_get posts i ≡ o → Some (i + 1) ≡ least_from 1 posts
    by None none = absurd (let past = slice_get_nowhere posts i none in omega arith)
    by (Some p) at = ap Some (omega arith) ∙ sym (least_is posts 1 i p are at (waits p at))

-- what is kept beside the messages stays where one waits no more
pub kept : (posts after : List Post) (index first : ℕ) (f : Post → Post) → ((p : Post) → (f p).waits ≡ false) → ((p : Post) → (f p).under ≡ p.under)
    → after ≡ with_numbered posts (index + 1) f → ArePassed posts first × IsNonDecreasingBy (λ (p : Post). p.under) posts
    → ArePassed after first × IsNonDecreasingBy (λ (p : Post). p.under) after
kept posts after index first f off same is before =
    subst (λ (ps : List Post). ArePassed ps first × IsNonDecreasingBy (λ (p : Post). p.under) ps) (sym is)
    (passed_after posts (index + 1) f first off before.0, in_order_after (λ (p : Post). p.under) posts (index + 1) f same before.1)
