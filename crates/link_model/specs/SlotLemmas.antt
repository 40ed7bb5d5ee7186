-- Slots that are given, lost and passed over.
use Rattle.std.proofs.Common.{◌≡◌, ◌≢◌, ℕ, zero, suc, ◌+◌, ◌-◌, ◌<◌, ◌≤◌, true, false, List, [], ◌∷◌, ◌++◌, length, Option, None, Some, refl, sym, ap, ◌∙◌, subst, arith, inl, inr, ◌⊎◌}
use Rattle.std.specs.Prelude.{slice_get, slice_set, get_or, option_map, IsSome}
use Rattle.std.specs.Option.{option_map_or, option_and_then}
use Rattle.std.proofs.lemmas.Bool.{cases_eq, cases_lt}
use Rattle.std.proofs.lemmas.List.{length-append}
use Rattle.std.proofs.lemmas.Option.{slice_get_past, slice_get_read}
use Rattle.mini_tx.specs.declared.posted.Posted.{Posted}
use Rattle.link_model.specs.declared.place.Place.{Place}
use Rattle.link_model.specs.Links.{numbered, IsOf, IsAlike, IsLeast, IsPassed, IsPosted}
use Rattle.link_model.specs.Places.{over}
use Rattle.link_model.specs.Slots.{index_of, there_at, slot_of, shown_behind, AreOf, IsFirstSlot, IsFirstBut, changed_at}

-- ---- numbers and indices

pub index_is : (gone i : ℕ) → index_of gone (suc (gone + i)) ≡ Some i
unfolding index_of
index_is zero i = let same : 0 + i ≡ i = omega arith in ap (λ (n : ℕ). Some n) same
index_is (suc gone) i = let same : suc gone + i ≡ suc (gone + i) = omega arith in ap (λ (n : ℕ). index_of (suc gone) (suc n)) same ∙ index_is gone i

pub index_none : (gone k : ℕ) → k ≤ gone → index_of gone k ≡ None
unfolding index_of
index_none zero zero low = refl
index_none zero (suc k) low = absurd (omega (arith, low))
index_none (suc gone) zero low = refl
index_none (suc gone) (suc k) low = index_none gone k (omega (arith, low))

-- an index comes from one number
pub index_from : (gone k i : ℕ) → index_of gone k ≡ Some i → k ≡ suc (gone + i)
unfolding index_of
index_from zero zero i is = absurd cc
index_from zero (suc k) i is = let same : k ≡ i = cc in omega (arith, same)
index_from (suc gone) zero i is = absurd cc
index_from (suc gone) (suc k) i is = let below : k ≡ suc (gone + i) = index_from gone k i is in omega (arith, below)

-- ---- a slot that changes

pub at_changed : (slots : List (Option Place)) (i : ℕ) (slot : Option Place) → i < length slots → slice_get (changed_at slots i slot) i ≡ Some slot
unfolding changed_at
at_changed [] i slot low = absurd (omega (arith, low))
at_changed (s ∷ slots) zero slot low = refl
at_changed (s ∷ slots) (suc i) slot low = at_changed slots i slot (omega (arith, low))

pub at_other : (slots : List (Option Place)) (i j : ℕ) (slot : Option Place) → j ≢ i → slice_get (changed_at slots i slot) j ≡ slice_get slots j
unfolding changed_at
at_other [] i j slot other = refl
at_other (s ∷ slots) zero zero slot other = absurd (other refl)
at_other (s ∷ slots) zero (suc j) slot other = refl
at_other (s ∷ slots) (suc i) zero slot other = refl
at_other (s ∷ slots) (suc i) (suc j) slot other = at_other slots i j slot (λ same. other (ap suc same))

pub as_many : (slots : List (Option Place)) (i : ℕ) (slot : Option Place) → length (changed_at slots i slot) ≡ length slots
unfolding changed_at
as_many [] i slot = refl
as_many (s ∷ slots) zero slot = refl
as_many (s ∷ slots) (suc i) slot = ap suc (as_many slots i slot)

-- ---- the first slot is let go where it was given

let_go : (gone : ℕ) (slots : List (Option Place)) (k : ℕ) → slot_of (suc gone) slots k ≡ slot_of gone (None ∷ slots) k
unfolding index_of
let_go zero slots zero = refl
let_go zero slots (suc zero) = refl
let_go zero slots (suc (suc k)) = refl
let_go (suc gone) slots zero = refl
let_go (suc gone) slots (suc k) = let_go gone slots k

-- ---- what is shown

abbrev posted_of : Place → Posted
posted_of p = p.posted

pub sound_of : (posted : List Posted) (gone : ℕ) (slots : List (Option Place)) → AreOf posted gone slots → IsOf posted (shown_behind gone slots)
sound_of posted gone slots is = record {
  count = sym is.count;
  known = λ k q there. go k q (slot_of gone slots k) refl there;
  waiting = λ k waits. waits_there (slot_of gone slots k) waits;
}
  where
    waits_there : (o : Option Place) → option_map_or (λ (p : Place). p.waits) o false ≡ true → IsSome (option_map posted_of o)
    waits_there None waits = absurd cc
    waits_there (Some p) waits = refl

    go : (k : ℕ) (q : Posted) (o : Option Place) → slot_of gone slots k ≡ o → option_map posted_of o ≡ Some q → numbered posted k ≡ Some q
    go k q None slot there = absurd cc
    go k q (Some p) slot there = is.each k p slot ∙ there

-- of a number without an index, nothing is there
none_there : (gone k : ℕ) (slots : List (Option Place)) → index_of gone k ≡ None → slot_of gone slots k ≡ None
none_there gone k slots none = ap (λ (o : Option ℕ). option_and_then (there_at slots) o) none

some_there : (gone k i : ℕ) (slots : List (Option Place)) → index_of gone k ≡ Some i → slot_of gone slots k ≡ there_at slots i
some_there gone k i slots some = ap (λ (o : Option ℕ). option_and_then (there_at slots) o) some

-- at every other number a changed slot changes nothing
slot_other : (gone k i j : ℕ) (slots : List (Option Place)) (slot : Option Place) → index_of gone k ≡ Some i → j ≢ k
    → slot_of gone (changed_at slots i slot) j ≡ slot_of gone slots j
slot_other gone k i j slots slot some other = go (index_of gone j) refl
  where
    go : (o : Option ℕ) → index_of gone j ≡ o → slot_of gone (changed_at slots i slot) j ≡ slot_of gone slots j
    go None is = none_there gone j (changed_at slots i slot) is ∙ sym (none_there gone j slots is)
    go (Some n) is =
        let apart : n ≢ i = λ same. other (index_from gone j n is ∙ ap (λ (m : ℕ). suc (gone + m)) same ∙ sym (index_from gone k i some)) in
        some_there gone j n (changed_at slots i slot) is
        ∙ ap (λ (o : Option (Option Place)). option_and_then (λ (s : Option Place). s) o) (at_other slots i n slot apart)
        ∙ sym (some_there gone j n slots is)

-- a place that waits no more, or none
abbrev waits_not : Option Place → Type 0
waits_not slot = option_map_or (λ (p : Place). p.waits) slot false ≡ false

slot_changed : (gone k i : ℕ) (slots : List (Option Place)) (slot : Option Place) → index_of gone k ≡ Some i → i < length slots
    → slot_of gone (changed_at slots i slot) k ≡ slot
slot_changed gone k i slots slot some low =
    some_there gone k i (changed_at slots i slot) some
    ∙ ap (λ (o : Option (Option Place)). option_and_then (λ (s : Option Place). s) o) (at_changed slots i slot low)

-- message k is given or lost: its slot becomes one that does not wait
pub passes_at : (gone k i : ℕ) (slots : List (Option Place)) (slot : Option Place) → index_of gone k ≡ Some i → i < length slots → waits_not slot
    → IsPassed k (shown_behind gone slots) (shown_behind gone (changed_at slots i slot))
passes_at gone k i slots slot some low not = record {
  count = ap (λ (n : ℕ). gone + n) (as_many slots i slot);
  waits = ap (λ (o : Option Place). option_map_or (λ (p : Place). p.waits) o false) (slot_changed gone k i slots slot some low) ∙ not;
  there = λ j other. ap (λ (o : Option Place). option_map posted_of o) (slot_other gone k i j slots slot some other);
  others = λ j other. ap (λ (o : Option Place). option_map_or (λ (p : Place). p.waits) o false) (slot_other gone k i j slots slot some other);
}

-- ---- where a number lies

pub low_none : (gone k : ℕ) (slots : List (Option Place)) → k ≤ gone → slot_of gone slots k ≡ None
low_none gone k slots low = none_there gone k slots (index_none gone k low)

pub index_at : (gone k : ℕ) → gone < k → index_of gone k ≡ Some (k - gone - 1)
index_at gone k high =
    let same : k ≡ suc (gone + (k - gone - 1)) = omega (arith, high) in
    ap (λ (n : ℕ). index_of gone n) same ∙ index_is gone (k - gone - 1)

pub past_none : (gone k : ℕ) (slots : List (Option Place)) → gone < k → length slots ≤ k - gone - 1 → slot_of gone slots k ≡ None
past_none gone k slots high past =
    some_there gone k (k - gone - 1) slots (index_at gone k high)
    ∙ ap (λ (o : Option (Option Place)). option_and_then (λ (s : Option Place). s) o) (slice_get_past slots (k - gone - 1) past)

-- ---- the first slot goes

pub gone_alike : (gone : ℕ) (slots rest : List (Option Place)) → slots ≡ None ∷ rest → IsAlike (shown_behind gone slots) (shown_behind (gone + 1) rest)
gone_alike gone slots rest is =
    let one : gone + 1 ≡ suc gone = omega arith in
    let at : (k : ℕ) → slot_of (gone + 1) rest k ≡ slot_of gone slots k =
    λ k. ap (λ (n : ℕ). slot_of n rest k) one ∙ let_go gone rest k ∙ ap (λ (ss : List (Option Place)). slot_of gone ss k) (sym is) in
    let long : length slots ≡ suc (length rest) = ap (λ (ss : List (Option Place)). length ss) is in
    record {
      count = omega (arith, long);
      there = λ k. ap (λ (o : Option Place). option_map posted_of o) (at k);
      waits = λ k. ap (λ (o : Option Place). option_map_or (λ (p : Place). p.waits) o false) (at k);
    }

pub gone_of : (posted : List Posted) (gone : ℕ) (slots rest : List (Option Place)) → slots ≡ None ∷ rest → AreOf posted gone slots → AreOf posted (gone + 1) rest
gone_of posted gone slots rest is of_ =
    let one : gone + 1 ≡ suc gone = omega arith in
    let at : (k : ℕ) → slot_of (gone + 1) rest k ≡ slot_of gone slots k =
    λ k. ap (λ (n : ℕ). slot_of n rest k) one ∙ let_go gone rest k ∙ ap (λ (ss : List (Option Place)). slot_of gone ss k) (sym is) in
    let long : length slots ≡ suc (length rest) = ap (λ (ss : List (Option Place)). length ss) is in
    record {
      count = let before : length posted ≡ gone + length slots = of_.count in omega (arith, before, long);
      each = λ k p there. of_.each k p (sym (at k) ∙ there);
    }

-- the first slot that waits comes one place earlier
pub first_down : (slots rest : List (Option Place)) (first : ℕ) → slots ≡ None ∷ rest → IsFirstSlot slots first → IsFirstSlot rest (first - 1)
first_down slots rest first is of_ = go first (subst (λ (ss : List (Option Place)). IsFirstSlot ss first) is of_)
  where
    go : (n : ℕ) → IsFirstSlot (None ∷ rest) n → IsFirstSlot rest (n - 1)
    go zero begins = absurd (none_waits (begins.waits (omega arith)))
      where
        none_waits : false ≡ true → ⊥
        none_waits same = absurd cc
    go (suc n) behind =
        let same : suc n - 1 ≡ n = omega arith in
        subst (λ (m : ℕ). IsFirstSlot rest m) (sym same) (record {
          within = let w : suc n ≤ suc (length rest) = behind.within in omega (arith, w);
          passed = λ i p before at. behind.passed (suc i) p (omega (arith, before)) at;
          waits = λ low. behind.waits (omega (arith, low));
        })

-- ---- the first slot that waits, after one changed to what does not

there_other : (slots : List (Option Place)) (i j : ℕ) (slot : Option Place) → j ≢ i → there_at (changed_at slots i slot) j ≡ there_at slots j
there_other slots i j slot other = ap (λ (o : Option (Option Place)). option_and_then (λ (s : Option Place). s) o) (at_other slots i j slot other)

there_here : (slots : List (Option Place)) (i : ℕ) (slot : Option Place) → i < length slots → there_at (changed_at slots i slot) i ≡ slot
there_here slots i slot low = ap (λ (o : Option (Option Place)). option_and_then (λ (s : Option Place). s) o) (at_changed slots i slot low)

waits_not_some : (slot : Option Place) (p : Place) → waits_not slot → slot ≡ Some p → p.waits ≡ false
waits_not_some slot p not is = subst waits_not is not

-- of a number that is not there nothing changes
pub passes_none : (gone k : ℕ) (slots : List (Option Place)) → slot_of gone slots k ≡ None → IsPassed k (shown_behind gone slots) (shown_behind gone slots)
passes_none gone k slots none = record {
  count = refl;
  waits = ap (λ (o : Option Place). option_map_or (λ (p : Place). p.waits) o false) none;
  there = λ j other. refl;
  others = λ j other. refl;
}

-- what is given leaves the slots that stand for what was posted
pub of_changed : (posted : List Posted) (gone k i : ℕ) (slots : List (Option Place)) (slot : Option Place) → index_of gone k ≡ Some i → i < length slots
    → ((p : Place) → slot ≡ Some p → numbered posted k ≡ Some p.posted) → AreOf posted gone slots → AreOf posted gone (changed_at slots i slot)
of_changed posted gone k i slots slot some low told is = record {
  count = is.count ∙ ap (λ (n : ℕ). gone + n) (sym (as_many slots i slot));
  each = λ j p there. go j p there (cases_eq j k);
}
  where
    go : (j : ℕ) (p : Place) → slot_of gone (changed_at slots i slot) j ≡ Some p → (j ≡ k) ⊎ (j ≢ k) → numbered posted j ≡ Some p.posted
    go j p there (inl same) =
        ap (λ (n : ℕ). numbered posted n) same
        ∙ told p (sym (slot_changed gone k i slots slot some low) ∙ sym (ap (λ (n : ℕ). slot_of gone (changed_at slots i slot) n) same) ∙ there)
    go j p there (inr differs) = is.each j p (sym (slot_other gone k i j slots slot some differs) ∙ there)

-- what is set at an index is the slot that changed there
pub set_is : (slots : List (Option Place)) (i : ℕ) (slot : Option Place) → slice_set slots i slot ≡ changed_at slots i slot
unfolding changed_at
set_is [] i slot = refl
set_is (s ∷ slots) zero slot = refl
set_is (s ∷ slots) (suc i) slot = ap (λ (ss : List (Option Place)). s ∷ ss) (set_is slots i slot)

pub there_is : (slots : List (Option Place)) (i : ℕ) (slot : Option Place) → slot ≡ get_or slots i slot → i < length slots → there_at slots i ≡ slot
there_is slots i slot is low =
    ap (λ (o : Option (Option Place)). option_and_then (λ (s : Option Place). s) o) (slice_get_read slots (length slots) i slot refl low is)

-- a slot whose message waits no more
pub lost_is : (slots : List (Option Place)) (i : ℕ) (old new : Option Place) → old ≡ get_or slots i old → i < length slots → new ≡ option_map over old
    → slice_set slots i new ≡ changed_at slots i (option_map over (there_at slots i))
lost_is slots i old new is low changed =
    set_is slots i new
    ∙ ap (λ (s : Option Place). changed_at slots i s) (changed ∙ sym (ap (λ (s : Option Place). option_map over s) (there_is slots i old is low)))

-- a slot without a message stays
pub none_over : (s : Option Place) → ((p : Place) → s ≡ Some p → ⊥) → s ≡ option_map over s
none_over None never = refl
none_over (Some p) never = absurd (never p refl)

-- ---- message k given, or lost

-- what a slot that changes to what does not wait leaves
pub record Leaves (gone k : ℕ) (slots news : List (Option Place)) : Type 0 where
  pub passed : IsPassed k (shown_behind gone slots) (shown_behind gone news)
  pub stands : (posted : List Posted) → AreOf posted gone slots → AreOf posted gone news
  pub long : length news ≡ length slots

leaves : (gone k i : ℕ) (slots news : List (Option Place)) (slot : Option Place) → index_of gone k ≡ Some i → i < length slots → waits_not slot
    → ((posted : List Posted) (p : Place) → AreOf posted gone slots → slot ≡ Some p → numbered posted k ≡ Some p.posted)
    → news ≡ changed_at slots i slot → Leaves gone k slots news
leaves gone k i slots news slot some low not told is = subst (λ (ns : List (Option Place)). Leaves gone k slots ns) (sym is) (record {
  passed = passes_at gone k i slots slot some low not;
  stands = λ posted of_. of_changed posted gone k i slots slot some low (λ p at. told posted p of_ at) of_;
  long = as_many slots i slot;
})

pub gives : (gone k i : ℕ) (slots news : List (Option Place)) → index_of gone k ≡ Some i → i < length slots → news ≡ changed_at slots i None → Leaves gone k slots news
gives gone k i slots news some low is = leaves gone k i slots news None some low refl (λ posted p of_ at. absurd cc) is

over_waits_not : (o : Option Place) → waits_not (option_map over o)
over_waits_not None = refl
over_waits_not (Some p) = refl

over_posted : (o : Option Place) → option_map posted_of (option_map over o) ≡ option_map posted_of o
over_posted None = refl
over_posted (Some p) = refl

pub loses : (gone k i : ℕ) (slots news : List (Option Place)) → index_of gone k ≡ Some i → i < length slots
    → news ≡ changed_at slots i (option_map over (there_at slots i)) → Leaves gone k slots news
loses gone k i slots news some low is =
    leaves gone k i slots news (option_map over (there_at slots i)) some low (over_waits_not (there_at slots i)) (λ posted p of_ at. go posted p of_ (there_at slots i) refl at) is
  where
    go : (posted : List Posted) (p : Place) → AreOf posted gone slots → (o : Option Place) → there_at slots i ≡ o → option_map over o ≡ Some p
        → numbered posted k ≡ Some p.posted
    go posted p of_ None here at = absurd cc
    go posted p of_ (Some q) here at =
        let same : q.posted ≡ p.posted = cc in
        of_.each k q (some_there gone k i slots some ∙ here) ∙ ap (λ (m : Posted). Some m) same

pub still_there : (gone k i : ℕ) (slots news : List (Option Place)) → index_of gone k ≡ Some i → i < length slots
    → news ≡ changed_at slots i (option_map over (there_at slots i))
    → option_map posted_of (slot_of gone news k) ≡ option_map posted_of (slot_of gone slots k)
still_there gone k i slots news some low is =
    ap (λ (ns : List (Option Place)). option_map posted_of (slot_of gone ns k)) is
    ∙ ap (λ (o : Option Place). option_map posted_of o) (slot_changed gone k i slots (option_map over (there_at slots i)) some low)
    ∙ over_posted (there_at slots i)
    ∙ sym (ap (λ (o : Option Place). option_map posted_of o) (some_there gone k i slots some))

pub given_is : (gone k i : ℕ) (slots : List (Option Place)) → index_of gone k ≡ Some i → option_map posted_of (slot_of gone slots k) ≡ option_map posted_of (there_at slots i)
given_is gone k i slots some = ap (λ (o : Option Place). option_map posted_of o) (some_there gone k i slots some)

-- the first slot that waits is known but for the one that changed
but : (slots : List (Option Place)) (first index : ℕ) (slot : Option Place) → IsFirstSlot slots first → index < length slots → waits_not slot
    → IsFirstBut (changed_at slots index slot) first index
but slots first index slot is low not = record {
  within = subst (λ (n : ℕ). first ≤ n) (sym (as_many slots index slot)) is.within;
  passed = λ i p before at. go i p before at (cases_eq i index);
  waits = λ apart below. ap (λ (o : Option Place). option_map_or (λ (p : Place). p.waits) o false) (there_other slots index first slot apart)
      ∙ is.waits (subst (λ (n : ℕ). first < n) (as_many slots index slot) below);
}
  where
    go : (i : ℕ) (p : Place) → i < first → there_at (changed_at slots index slot) i ≡ Some p → (i ≡ index) ⊎ (i ≢ index) → p.waits ≡ false
    go i p before at (inl same) =
        waits_not_some slot p not (sym (there_here slots index slot low) ∙ sym (ap (λ (n : ℕ). there_at (changed_at slots index slot) n) same) ∙ at)
    go i p before at (inr differs) = is.passed i p before (sym (there_other slots index i slot differs) ∙ at)

pub but_given : (slots news : List (Option Place)) (first index : ℕ) → IsFirstSlot slots first → index < length slots → news ≡ changed_at slots index None
    → IsFirstBut news first index
but_given slots news first index is low same = subst (λ (ns : List (Option Place)). IsFirstBut ns first index) (sym same) (but slots first index None is low refl)

pub but_lost : (slots news : List (Option Place)) (first index : ℕ) → IsFirstSlot slots first → index < length slots
    → news ≡ changed_at slots index (option_map over (there_at slots index)) → IsFirstBut news first index
but_lost slots news first index is low same =
    subst (λ (ns : List (Option Place)). IsFirstBut ns first index) (sym same)
    (but slots first index (option_map over (there_at slots index)) is low (over_waits_not (there_at slots index)))

-- ---- a message posted, and the least that waits

pub least_of : (gone : ℕ) (slots : List (Option Place)) (first : ℕ) → IsFirstSlot slots first → first < length slots → IsLeast (shown_behind gone slots) (gone + first + 1)
least_of gone slots first is low =
    let number : gone + first + 1 ≡ suc (gone + first) = omega arith in
    let at : index_of gone (gone + first + 1) ≡ Some first = ap (λ (n : ℕ). index_of gone n) number ∙ index_is gone first in
    record {
      waits = ap (λ (o : Option Place). option_map_or (λ (p : Place). p.waits) o false) (some_there gone (gone + first + 1) first slots at) ∙ is.waits low;
      before = λ j below. go j below (index_of gone j) refl;
    }
  where
    not_at : (i : ℕ) (o : Option Place) → i < first → there_at slots i ≡ o → option_map_or (λ (p : Place). p.waits) o false ≡ false
    not_at i None before at = refl
    not_at i (Some p) before at = is.passed i p before at

    go : (j : ℕ) → j < gone + first + 1 → (o : Option ℕ) → index_of gone j ≡ o → option_map_or (λ (p : Place). p.waits) (slot_of gone slots j) false ≡ false
    go j below None none = ap (λ (o : Option Place). option_map_or (λ (p : Place). p.waits) o false) (none_there gone j slots none)
    go j below (Some i) some =
        let from : j ≡ suc (gone + i) = index_from gone j i some in
        ap (λ (o : Option Place). option_map_or (λ (p : Place). p.waits) o false) (some_there gone j i slots some)
        ∙ not_at i (there_at slots i) (omega (arith, below, from)) refl

pub none_waits_of : (gone : ℕ) (slots : List (Option Place)) (first : ℕ) → IsFirstSlot slots first → length slots ≤ first
    → (k : ℕ) → option_map_or (λ (p : Place). p.waits) (slot_of gone slots k) false ≡ false
none_waits_of gone slots first is past k = go (index_of gone k) refl
  where
    not_at : (i : ℕ) (o : Option Place) → there_at slots i ≡ o → (i < first) ⊎ (first ≤ i) → option_map_or (λ (p : Place). p.waits) o false ≡ false
    not_at i None at side = refl
    not_at i (Some p) at (inl before) = is.passed i p before at
    not_at i (Some p) at (inr behind) =
        let none : there_at slots i ≡ None =
        ap (λ (o : Option (Option Place)). option_and_then (λ (s : Option Place). s) o) (slice_get_past slots i (omega (arith, past, behind))) in absurd cc

    go : (o : Option ℕ) → index_of gone k ≡ o → option_map_or (λ (p : Place). p.waits) (slot_of gone slots k) false ≡ false
    go None none = ap (λ (o : Option Place). option_map_or (λ (p : Place). p.waits) o false) (none_there gone k slots none)
    go (Some i) some = ap (λ (o : Option Place). option_map_or (λ (p : Place). p.waits) o false) (some_there gone k i slots some)
        ∙ not_at i (there_at slots i) refl (cases_lt i first)

-- ---- one message more

pushed_at : {A : Type 0} (xs : List A) (x : A) → slice_get (xs ++ x ∷ []) (length xs) ≡ Some x
pushed_at [] x = refl
pushed_at (y ∷ xs) x = pushed_at xs x

pushed_other : {A : Type 0} (xs : List A) (x : A) (j : ℕ) → j ≢ length xs → slice_get (xs ++ x ∷ []) j ≡ slice_get xs j
pushed_other [] x zero other = absurd (other refl)
pushed_other [] x (suc j) other = refl
pushed_other (y ∷ xs) x zero other = refl
pushed_other (y ∷ xs) x (suc j) other = pushed_other xs x j (λ same. other (ap suc same))

-- the slot of the new message, and those of all others
new_slot : (gone : ℕ) (slots : List (Option Place)) (slot : Option Place) (k : ℕ) → k ≡ suc (gone + length slots) → slot_of gone (slots ++ slot ∷ []) k ≡ slot
new_slot gone slots slot k is =
    some_there gone k (length slots) (slots ++ slot ∷ []) (ap (λ (n : ℕ). index_of gone n) is ∙ index_is gone (length slots))
    ∙ ap (λ (o : Option (Option Place)). option_and_then (λ (s : Option Place). s) o) (pushed_at slots slot)

old_slot : (gone : ℕ) (slots : List (Option Place)) (slot : Option Place) (k j : ℕ) → k ≡ suc (gone + length slots) → j ≢ k
    → slot_of gone (slots ++ slot ∷ []) j ≡ slot_of gone slots j
old_slot gone slots slot k j is other = go (index_of gone j) refl
  where
    go : (o : Option ℕ) → index_of gone j ≡ o → slot_of gone (slots ++ slot ∷ []) j ≡ slot_of gone slots j
    go None none = none_there gone j (slots ++ slot ∷ []) none ∙ sym (none_there gone j slots none)
    go (Some i) some =
        let apart : i ≢ length slots = λ same. other (index_from gone j i some ∙ ap (λ (n : ℕ). suc (gone + n)) same ∙ sym is) in
        some_there gone j i (slots ++ slot ∷ []) some
        ∙ ap (λ (o : Option (Option Place)). option_and_then (λ (s : Option Place). s) o) (pushed_other slots slot i apart)
        ∙ sym (some_there gone j i slots some)

pub one_more : (gone : ℕ) (slots news : List (Option Place)) (q : Posted) (k : ℕ) → news ≡ slots ++ Some (record { posted = q; waits = true }) ∷ []
    → k ≡ suc (gone + length slots) → IsPosted q k (shown_behind gone slots) (shown_behind gone news)
one_more gone slots news q k is number = subst (λ (ns : List (Option Place)). IsPosted q k (shown_behind gone slots) (shown_behind gone ns)) (sym is) (record {
  number = number;
  count = let long : length (slots ++ new ∷ []) ≡ length slots + 1 = length-append slots (new ∷ []) in omega (arith, long);
  there = ap (λ (o : Option Place). option_map posted_of o) (new_slot gone slots new k number);
  waits = ap (λ (o : Option Place). option_map_or (λ (p : Place). p.waits) o false) (new_slot gone slots new k number);
  others = λ j other. (
    ap (λ (o : Option Place). option_map posted_of o) (old_slot gone slots new k j number other),
    ap (λ (o : Option Place). option_map_or (λ (p : Place). p.waits) o false) (old_slot gone slots new k j number other),
  );
})
  where
    new : Option Place
    new = Some (record { posted = q; waits = true })

pushed_old : {A : Type 0} (xs : List A) (x y : A) (i : ℕ) → slice_get xs i ≡ Some y → slice_get (xs ++ x ∷ []) i ≡ Some y
pushed_old [] x y i at = absurd cc
pushed_old (z ∷ xs) x y zero at = at
pushed_old (z ∷ xs) x y (suc i) at = pushed_old xs x y i at

numbered_push : (posted : List Posted) (q p : Posted) (k : ℕ) → numbered posted k ≡ Some p → numbered (posted ++ q ∷ []) k ≡ Some p
numbered_push posted q p zero at = absurd cc
numbered_push posted q p (suc i) at = pushed_old posted q p i at

pub one_more_of : (posted : List Posted) (gone : ℕ) (slots news : List (Option Place)) (q : Posted) → news ≡ slots ++ Some (record { posted = q; waits = true }) ∷ []
    → AreOf posted gone slots → AreOf (posted ++ q ∷ []) gone news
one_more_of posted gone slots news q is of_ = subst (λ (ns : List (Option Place)). AreOf (posted ++ q ∷ []) gone ns) (sym is) (record {
  count =
      let a : length (posted ++ q ∷ []) ≡ length posted + 1 = length-append posted (q ∷ []) in
      let b : length (slots ++ new ∷ []) ≡ length slots + 1 = length-append slots (new ∷ []) in
      let c : length posted ≡ gone + length slots = of_.count in omega (arith, a, b, c);
  each = λ k p there. go k p there (cases_eq k (suc (gone + length slots)));
})
  where
    new : Option Place
    new = Some (record { posted = q; waits = true })

    go : (k : ℕ) (p : Place) → slot_of gone (slots ++ new ∷ []) k ≡ Some p → (k ≡ suc (gone + length slots)) ⊎ (k ≢ suc (gone + length slots))
        → numbered (posted ++ q ∷ []) k ≡ Some p.posted
    go k p there (inl same) =
        let one : new ≡ Some p = sym (new_slot gone slots new k same) ∙ there in
        let is_q : q ≡ p.posted = ap (λ (o : Option Place). option_map_or posted_of o q) one in
        ap (λ (n : ℕ). numbered (posted ++ q ∷ []) n) (same ∙ ap suc (sym of_.count)) ∙ pushed_at posted q ∙ ap (λ (m : Posted). Some m) is_q
    go k p there (inr other) =
        numbered_push posted q p.posted k (of_.each k p (sym (old_slot gone slots new (suc (gone + length slots)) k refl other) ∙ there))
