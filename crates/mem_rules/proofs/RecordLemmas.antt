-- Records that ascend: where one stands, and what is done there.
use Rattle.std.proofs.Common.{◌≡◌, ◌<◌, ◌≤◌, ℕ, zero, suc, Bool, true, false, not, cond, List, [], ◌∷◌, map, filter, length, set, get_or, Option, Some, None, inl, inr, refl, sym, ap, subst, ◌∙◌, arith}
use Rattle.std.specs.List.{AllByRecursion, insert, remove, slice_get}
use Rattle.std.specs.List.Sorted.{IsPartitionedBy, IsPartitionPoint}
use Rattle.std.specs.Prelude.{Box, box_value}
use Rattle.std.specs.declared.alloc.Global.{Global}
use Rattle.std.proofs.lemmas.Bool.{cases_lt}
use Rattle.std.proofs.lemmas.List.{length-map, get_or-map}
use Rattle.std.proofs.lemmas.List.Elements.{All-from_recursion}
use Rattle.mini_tx.specs.declared.tx_id.TxId.{TxId}
use Rattle.mem_rules.specs.declared.kept.Kept.{Kept}
use Rattle.mem_rules.specs.Good.{AreAscending}
use Rattle.mem_rules.specs.Identifiers.{precedes, is_same}
use Rattle.mem_rules.specs.Records.{IsPlaceOf, unboxed}
use Rattle.mem_rules.specs.State.{kept_of, placed_in, with_decision, decided}
use Rattle.lock_table.proofs.OrderLemmas.{trans, is_one, not_same, not_same_back, or_after}

abbrev pub Follows : TxId → Kept → Type 0
Follows id k = precedes id k.id ≡ true

pub parted : (kept : List Kept) (id : TxId) → AreAscending kept → IsPartitionedBy (λ (k : Kept). precedes k.id id) kept
parted [] id ascending i j d low below h = absurd (omega (arith, below))
parted (k ∷ kept) id ascending zero zero d low below h = h
parted (k ∷ kept) id ascending zero (suc j) d low below h =
    let later = All-from_recursion (Follows k.id) kept ascending.0 j d (omega (arith, below)) in
    trans k.id (get_or kept j d).id id later h
parted (k ∷ kept) id ascending (suc i) zero d low below h = absurd (omega (arith, low))
parted (k ∷ kept) id ascending (suc i) (suc j) d low below h = parted kept id ascending.1 i j d (omega (arith, low)) (omega (arith, below)) h

tail : (k : Kept) (kept : List Kept) (id : TxId) (at : ℕ) → IsPlaceOf (k ∷ kept) id (suc at) → IsPlaceOf kept id at
tail k kept id at place = (
  λ j d low below. place.0 (suc j) d (omega arith) (omega (arith, below)),
  λ j d low below. place.1 (suc j) d (omega (arith, low)) (omega (arith, below)),
)

front : (k : Kept) (kept : List Kept) (id : TxId) (at : ℕ) → IsPlaceOf (k ∷ kept) id (suc at) → precedes k.id id ≡ true
front k kept id at place = place.0 0 k (omega arith) (omega arith)

behind : (k : Kept) (kept : List Kept) (id : TxId) → IsPlaceOf (k ∷ kept) id 0 → precedes k.id id ≡ false
behind k kept id place = place.1 0 k (omega arith) (omega arith)

-- ---- a record is put in its place

pub placed_is : (k : Kept) (kept : List Kept) (at : ℕ) → at ≤ length kept → IsPlaceOf kept k.id at → placed_in k kept ≡ insert kept at k
placed_is k [] zero low place = refl
placed_is k [] (suc at) low place = absurd (omega (arith, low))
placed_is k (o ∷ kept) zero low place = ap (λ b. cond b (o ∷ placed_in k kept) (k ∷ o ∷ kept)) (behind o kept k.id place)
placed_is k (o ∷ kept) (suc at) low place =
    ap (λ b. cond b (o ∷ placed_in k kept) (k ∷ o ∷ kept)) (front o kept k.id at place)
    ∙ ap (λ (ks : List Kept). o ∷ ks) (placed_is k kept at (omega (arith, low)) (tail o kept k.id at place))

-- ---- a record is found

none_behind : (id : TxId) (k : TxId) (kept : List Kept) → precedes id k ≡ true → AllByRecursion (Follows k) kept → kept_of kept id ≡ None
none_behind id k [] before later = refl
none_behind id k (o ∷ kept) before later =
    ap (λ b. cond b (Some o) (kept_of kept id)) (not_same_back id o.id (trans id k o.id before later.0)) ∙ none_behind id k kept before later.1

-- what stands at the place, where it is the identifier's
abbrev pub kept_at : Option Kept → TxId → Option Kept
kept_at None id = None
kept_at (Some k) id = cond (is_same k.id id) (Some k) None

pub found_is : (id : TxId) (kept : List Kept) (at : ℕ) → AreAscending kept → IsPlaceOf kept id at → kept_of kept id ≡ kept_at (slice_get kept at) id
found_is id [] zero ascending place = refl
found_is id [] (suc at) ascending place = refl
found_is id (k ∷ kept) zero ascending place = go (is_same k.id id) refl
  where
    go : (b : Bool) → is_same k.id id ≡ b → cond b (Some k) (kept_of kept id) ≡ cond b (Some k) None
    go true is = refl
    go false is = none_behind id k.id kept (or_after k.id id (behind k kept id place) is) ascending.0
found_is id (k ∷ kept) (suc at) ascending place =
    ap (λ b. cond b (Some k) (kept_of kept id)) (not_same k.id id (front k kept id at place)) ∙ found_is id kept at ascending.1 (tail k kept id at place)

got : (kept : List Kept) (at : ℕ) (d : Kept) → at < length kept → slice_get kept at ≡ Some (get_or kept at d)
got [] at d below = absurd (omega (arith, below))
got (k ∷ kept) zero d below = refl
got (k ∷ kept) (suc at) d below = got kept at d (omega (arith, below))

past : (kept : List Kept) (at : ℕ) → length kept ≤ at → slice_get kept at ≡ None
past [] zero low = refl
past [] (suc at) low = refl
past (k ∷ kept) zero low = absurd (omega (arith, low))
past (k ∷ kept) (suc at) low = past kept at (omega (arith, low))

pub none_past : (id : TxId) (kept : List Kept) (at : ℕ) → AreAscending kept → IsPlaceOf kept id at → length kept ≤ at → kept_of kept id ≡ None
none_past id kept at ascending place low = found_is id kept at ascending place ∙ ap (λ (o : Option Kept). kept_at o id) (past kept at low)

pub found_at : (id : TxId) (kept : List Kept) (at : ℕ) (k : Kept) → AreAscending kept → IsPlaceOf kept id at → at < length kept → k ≡ get_or kept at k
    → kept_of kept id ≡ cond (is_same k.id id) (Some k) None
found_at id kept at k ascending place below is =
    found_is id kept at ascending place ∙ ap (λ (o : Option Kept). kept_at o id) (got kept at k below ∙ ap (λ (x : Kept). Some x) (sym is))

inside : (kept : List Kept) (at : ℕ) (k : Kept) → slice_get kept at ≡ Some k → at < length kept
inside kept at k is = elim (cases_lt at (length kept)) [
  | inl below ↦ below
  | inr low ↦ absurd (none_is_some (past kept at low) is)
]
  where
    none_is_some : {o : Option Kept} → o ≡ None → o ≡ Some k → ⊥
    none_is_some none some = let e : None ≡ Some k = sym none ∙ some in absurd cc

-- there is one
pub record IsThere (id : TxId) (kept : List Kept) (at : ℕ) : Type 0 where
  pub record_ : Kept
  pub there : slice_get kept at ≡ Some record_
  pub below : at < length kept
  pub same : is_same record_.id id ≡ true
  pub found : kept_of kept id ≡ Some record_

pub is_there : (id : TxId) (kept : List Kept) (at : ℕ) → AreAscending kept → IsPlaceOf kept id at → (kept_of kept id ≡ None → ⊥) → IsThere id kept at
is_there id kept at ascending place known = go (slice_get kept at) refl (found_is id kept at ascending place)
  where
    go : (o : Option Kept) → slice_get kept at ≡ o → kept_of kept id ≡ kept_at o id → IsThere id kept at
    go None is found = absurd (known found)
    go (Some k) is found = by (is_same k.id id) refl found
      where
        by : (b : Bool) → is_same k.id id ≡ b → kept_of kept id ≡ cond b (Some k) None → IsThere id kept at
        by true same found = record { record_ = k; there = is; below = inside kept at k is; same = same; found = found }
        by false other found = absurd (known found)

-- ---- it is decided

others_stay : (id : TxId) (commit : Bool) (kept : List Kept) → AllByRecursion (Follows id) kept → map (decided id commit) kept ≡ kept
others_stay id commit [] later = refl
others_stay id commit (o ∷ kept) later =
    ap (λ b. cond b (with_decision commit o) o ∷ map (decided id commit) kept) (not_same_back id o.id later.0)
    ∙ ap (λ (ks : List Kept). o ∷ ks) (others_stay id commit kept later.1)

pub decided_is : (id : TxId) (commit : Bool) (k : Kept) (kept : List Kept) (at : ℕ) → AreAscending kept → IsPlaceOf kept id at → slice_get kept at ≡ Some k
    → is_same k.id id ≡ true → map (decided id commit) kept ≡ set kept at (with_decision commit k)
decided_is id commit k [] zero ascending place is same = absurd cc
decided_is id commit k [] (suc at) ascending place is same = absurd cc
decided_is id commit k (o ∷ kept) zero ascending place is same =
    let e : o ≡ k = one_some o k is in
    let own : is_same o.id id ≡ true = ap (λ (x : Kept). is_same x.id id) e ∙ same in
    ap (λ b. cond b (with_decision commit o) o ∷ map (decided id commit) kept) own
    ∙ ap (λ (x : Kept). with_decision commit x ∷ map (decided id commit) kept) e
    ∙ ap (λ (ks : List Kept). with_decision commit k ∷ ks)
    (others_stay id commit kept (subst (λ (x : TxId). AllByRecursion (Follows x) kept) (is_one o.id id own) ascending.0))
  where
    one_some : (a b : Kept) → ◌≡◌ {A = Option Kept} (Some a) (Some b) → a ≡ b
    one_some a b e = cc
decided_is id commit k (o ∷ kept) (suc at) ascending place is same =
    ap (λ b. cond b (with_decision commit o) o ∷ map (decided id commit) kept) (not_same o.id id (front o kept id at place))
    ∙ ap (λ (ks : List Kept). o ∷ ks) (decided_is id commit k kept at ascending.1 (tail o kept id at place) is same)

-- ---- it is forgotten

abbrev pub stays : TxId → Kept → Bool
stays id k = not (is_same k.id id)

pub others_left : (id : TxId) (kept : List Kept) → AllByRecursion (Follows id) kept → filter (stays id) kept ≡ kept
others_left id [] later = refl
others_left id (o ∷ kept) later =
    ap (λ b. cond (not b) (o ∷ filter (stays id) kept) (filter (stays id) kept)) (not_same_back id o.id later.0)
    ∙ ap (λ (ks : List Kept). o ∷ ks) (others_left id kept later.1)

pub forgotten_is : (id : TxId) (k : Kept) (kept : List Kept) (at : ℕ) → AreAscending kept → IsPlaceOf kept id at → slice_get kept at ≡ Some k
    → is_same k.id id ≡ true → filter (stays id) kept ≡ remove kept at
forgotten_is id k [] zero ascending place is same = absurd cc
forgotten_is id k [] (suc at) ascending place is same = absurd cc
forgotten_is id k (o ∷ kept) zero ascending place is same =
    let e : o ≡ k = one_some o k is in
    let own : is_same o.id id ≡ true = ap (λ (x : Kept). is_same x.id id) e ∙ same in
    ap (λ b. cond (not b) (o ∷ filter (stays id) kept) (filter (stays id) kept)) own
    ∙ others_left id kept (subst (λ (x : TxId). AllByRecursion (Follows x) kept) (is_one o.id id own) ascending.0)
  where
    one_some : (a b : Kept) → ◌≡◌ {A = Option Kept} (Some a) (Some b) → a ≡ b
    one_some a b e = cc
forgotten_is id k (o ∷ kept) (suc at) ascending place is same =
    ap (λ b. cond (not b) (o ∷ filter (stays id) kept) (filter (stays id) kept)) (not_same o.id id (front o kept id at place))
    ∙ ap (λ (ks : List Kept). o ∷ ks) (forgotten_is id k kept at ascending.1 (tail o kept id at place) is same)

-- ---- records in their boxes

-- the test of a record in its box
abbrev pub Before : TxId → Box Kept Global → Bool
Before id b = precedes (box_value b).id id

pub boxes_parted : (boxes : List (Box Kept Global)) (id : TxId) → AreAscending (unboxed boxes) → IsPartitionedBy (Before id) boxes
boxes_parted boxes id ascending i j d low below h =
    let len = length-map boxes box_value in
    let at_j : get_or (unboxed boxes) j (box_value d) ≡ box_value (get_or boxes j d) = get_or-map box_value boxes j d (box_value d) (omega (arith, below)) in
    let at_i : get_or (unboxed boxes) i (box_value d) ≡ box_value (get_or boxes i d) = get_or-map box_value boxes i d (box_value d) (omega (arith, low, below)) in
    let told = parted (unboxed boxes) id ascending i j (box_value d) low (omega (arith, below, len)) (ap (λ (k : Kept). precedes k.id id) at_j ∙ h) in
    ap (λ (k : Kept). precedes k.id id) (sym at_i) ∙ told

pub place_unboxed : (id : TxId) (boxes : List (Box Kept Global)) (at : ℕ) → at ≤ length boxes
    → IsPartitionPoint (λ (b : Box Kept Global). Before id b ≡ true) (λ (b : Box Kept Global). Before id b ≡ false) boxes at → IsPlaceOf (unboxed boxes) id at
place_unboxed id [] at bound point = (λ j d low below. absurd (omega (arith, bound, below)), λ j d low below. absurd (omega (arith, below)))
place_unboxed id (b ∷ boxes) at bound point =
    let len = length-map (b ∷ boxes) box_value in (
      λ j d low below.
          ap (λ (k : Kept). precedes k.id id) (get_or-map box_value (b ∷ boxes) j b d (omega (arith, bound, below))) ∙ point.0 j b low below,
      λ j d low below.
          ap (λ (k : Kept). precedes k.id id) (get_or-map box_value (b ∷ boxes) j b d (omega (arith, below, len))) ∙ point.1 j b low (omega (arith, below, len)),
    )

pub insert_unboxed : (boxes : List (Box Kept Global)) (at : ℕ) (b : Box Kept Global) → unboxed (insert boxes at b) ≡ insert (unboxed boxes) at (box_value b)
insert_unboxed [] zero b = refl
insert_unboxed [] (suc at) b = refl
insert_unboxed (o ∷ boxes) zero b = refl
insert_unboxed (o ∷ boxes) (suc at) b = ap (λ (ks : List Kept). box_value o ∷ ks) (insert_unboxed boxes at b)

pub remove_unboxed : (boxes : List (Box Kept Global)) (at : ℕ) → unboxed (remove boxes at) ≡ remove (unboxed boxes) at
remove_unboxed [] zero = refl
remove_unboxed [] (suc at) = refl
remove_unboxed (o ∷ boxes) zero = refl
remove_unboxed (o ∷ boxes) (suc at) = ap (λ (ks : List Kept). box_value o ∷ ks) (remove_unboxed boxes at)
