-- What a message that waits no more leaves, and what one that is posted adds.
use Rattle.std.proofs.Common.{◌≡◌, ◌≢◌, ℕ, zero, suc, ◌<◌, ◌≤◌, false, List, [], ◌∷◌, length, Option, None, Some, refl, sym, ap, ◌∙◌, subst, arith, inl, inr, ◌⊎◌}
use Rattle.std.specs.Prelude.{map, slice_get, slice_set, option_map}
use Rattle.std.specs.Option.{option_map_or}
use Rattle.std.proofs.lemmas.Bool.{cases_eq}
use Rattle.mini_tx.specs.declared.posted.Posted.{Posted}
use Rattle.link_model.specs.declared.place.Place.{Place}
use Rattle.link_model.specs.Links.{IsPassed}
use Rattle.link_model.specs.Places.{place_of, posted_at, posted_in, waits_at, over, passed_at, passed, shown_by, IsFirst}

-- ---- a place that waits no more

here : (places : List Place) (i : ℕ) → slice_get (passed_at places i) i ≡ option_map over (slice_get places i)
unfolding passed_at
here [] i = refl
here (p ∷ places) zero = refl
here (p ∷ places) (suc i) = here places i

elsewhere : (places : List Place) (i j : ℕ) → j ≢ i → slice_get (passed_at places i) j ≡ slice_get places j
unfolding passed_at
elsewhere [] i j other = refl
elsewhere (p ∷ places) zero zero other = absurd (other refl)
elsewhere (p ∷ places) zero (suc j) other = refl
elsewhere (p ∷ places) (suc i) zero other = refl
elsewhere (p ∷ places) (suc i) (suc j) other = elsewhere places i j (λ same. other (ap suc same))

as_many : (places : List Place) (i : ℕ) → length (passed_at places i) ≡ length places
unfolding passed_at
as_many [] i = refl
as_many (p ∷ places) zero = refl
as_many (p ∷ places) (suc i) = ap suc (as_many places i)

posted_stay : (places : List Place) (i : ℕ) → map (λ (p : Place). p.posted) (passed_at places i) ≡ map (λ (p : Place). p.posted) places
unfolding passed_at
posted_stay [] i = refl
posted_stay (p ∷ places) zero = refl
posted_stay (p ∷ places) (suc i) = ap (λ (ps : List Posted). p.posted ∷ ps) (posted_stay places i)

-- what is set at an index is that place which waits no more
pub set_is : (places : List Place) (i : ℕ) (p : Place) → slice_get places i ≡ Some p → slice_set places i (over p) ≡ passed_at places i
unfolding passed_at
set_is [] i p at = refl
set_is (q ∷ places) zero p at = let same : p ≡ q = cc in ap (λ (x : Place). over x ∷ places) same
set_is (q ∷ places) (suc i) p at = ap (λ (ps : List Place). q ∷ ps) (set_is places i p at)

over_waits : (o : Option Place) → option_map_or (λ (p : Place). p.waits) (option_map over o) false ≡ false
over_waits None = refl
over_waits (Some p) = refl

over_posted : (o : Option Place) → option_map (λ (p : Place). p.posted) (option_map over o) ≡ option_map (λ (p : Place). p.posted) o
over_posted None = refl
over_posted (Some p) = refl

-- ---- what it shows

pub posted_stays : (places : List Place) (k : ℕ) → map (λ (p : Place). p.posted) (passed places k) ≡ map (λ (p : Place). p.posted) places
posted_stays places zero = refl
posted_stays places (suc i) = posted_stay places i

place_elsewhere : (places : List Place) (k j : ℕ) → j ≢ k → place_of (passed places k) j ≡ place_of places j
place_elsewhere places zero j other = refl
place_elsewhere places (suc i) zero other = refl
place_elsewhere places (suc i) (suc j) other = elsewhere places i j (λ same. other (ap suc same))

waits_no_more : (places : List Place) (k : ℕ) → waits_at (passed places k) k ≡ false
waits_no_more places zero = refl
waits_no_more places (suc i) = ap (λ (o : Option Place). option_map_or (λ (p : Place). p.waits) o false) (here places i) ∙ over_waits (slice_get places i)

pub still_there : (places : List Place) (k : ℕ) → posted_at (passed places k) k ≡ posted_at places k
still_there places zero = refl
still_there places (suc i) = ap (λ (o : Option Place). option_map (λ (p : Place). p.posted) o) (here places i) ∙ over_posted (slice_get places i)

count_stays : (places : List Place) (k : ℕ) → length (passed places k) ≡ length places
count_stays places zero = refl
count_stays places (suc i) = as_many places i

pub passed_is : (places : List Place) (k : ℕ) → IsPassed k (shown_by places) (shown_by (passed places k))
passed_is places k = record {
  count = count_stays places k;
  waits = waits_no_more places k;
  there = λ j other. ap (λ (o : Option Place). option_map (λ (p : Place). p.posted) o) (place_elsewhere places k j other);
  others = λ j other. ap (λ (o : Option Place). option_map_or (λ (p : Place). p.waits) o false) (place_elsewhere places k j other);
}

-- ---- the first place that waits

pub first_stays : (places : List Place) (first i : ℕ) → IsFirst places first → i ≢ first → IsFirst (passed_at places i) first
first_stays places first i is other = record {
  within = subst (λ (n : ℕ). first ≤ n) (sym (as_many places i)) is.within;
  passed = λ j p before at. go j p before at;
  waits = λ p at. is.waits p (sym (elsewhere places i first (λ same. other (sym same))) ∙ at);
}
  where
    kept : (j : ℕ) (p : Place) → (o : Option Place) → (slice_get places j ≡ o) → option_map over o ≡ Some p → p.waits ≡ false
    kept j p None is_o there = absurd cc
    kept j p (Some q) is_o there = let same : over q ≡ p = cc in sym (ap (λ (x : Place). x.waits) same)

    by : (j : ℕ) (p : Place) → j < first → slice_get (passed_at places i) j ≡ Some p → (j ≡ i) ⊎ (j ≢ i) → p.waits ≡ false
    by j p before at (inl same) = kept j p (slice_get places j) refl (sym (here places j) ∙ ap (λ (n : ℕ). slice_get (passed_at places n) j) same ∙ at)
    by j p before at (inr differs) = is.passed j p before (sym (elsewhere places i j differs) ∙ at)

    go : (j : ℕ) (p : Place) → j < first → slice_get (passed_at places i) j ≡ Some p → p.waits ≡ false
    go j p before at = by j p before at (cases_eq j i)

-- nothing before the first place waits after it was passed, nor the place itself
pub none_before : (places : List Place) (first : ℕ) → IsFirst places first → (j : ℕ) (p : Place) → j < first
    → slice_get (passed_at places first) j ≡ Some p → p.waits ≡ false
none_before places first is j p before at = is.passed j p before (sym (elsewhere places first j (omega (arith, before))) ∙ at)

-- a message that is not there changes nothing
pub beyond : (places : List Place) (i : ℕ) → length places ≤ i → passed_at places i ≡ places
unfolding passed_at
beyond [] i past = refl
beyond (p ∷ places) zero past = absurd (omega (arith, past))
beyond (p ∷ places) (suc i) past = ap (λ (ps : List Place). p ∷ ps) (beyond places i (omega (arith, past)))

pub beyond_all : (places : List Place) (k : ℕ) → (k ≡ 0) ⊎ (length places < k) → passed places k ≡ places
beyond_all places zero past = refl
beyond_all places (suc i) (inl none) = absurd cc
beyond_all places (suc i) (inr past) = beyond places i (omega (arith, past))

-- message k, which is the one with index i, waits no more in these places
abbrev pub Passes : List Place → List Place → ℕ → Type 0
Passes places news k = IsPassed k (shown_by places) (shown_by news) × (posted_at news k ≡ posted_at places k) × (posted_in news ≡ posted_in places)

passes_all : (places : List Place) (k : ℕ) → Passes places (passed places k) k
passes_all places k = (passed_is places k, still_there places k, posted_stays places k)

pub passes : (places news : List Place) (i k : ℕ) → k ≡ suc i → news ≡ passed_at places i → Passes places news k
passes places news i k is same =
    subst (λ (ps : List Place). Passes places ps k) (sym (same ∙ sym (ap (λ (n : ℕ). passed places n) is))) (passes_all places k)

pub passes_none : (places : List Place) (k : ℕ) → (k ≡ 0) ⊎ (length places < k) → Passes places places k
passes_none places k past = subst (λ (ps : List Place). Passes places ps k) (beyond_all places k past) (passes_all places k)
