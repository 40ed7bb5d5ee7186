-- The records that are kept, in the order of their identifiers, are the machine's.
use Rattle.std.proofs.Common.{◌≡◌, ℕ, zero, suc, ◌<◌, nat_lt, ◌==◌, Bool, true, false, cond, List, [], ◌∷◌, map, filter, take, inl, inr, refl, sym, ap, subst, ◌∙◌, arith}
use Rattle.std.specs.List.{AllByRecursion}
use Rattle.std.proofs.lemmas.Bool.{ltb-true, ltb-false, eqb-false, and_parts}
use Rattle.mini_tx.specs.Laws.{IsTypedId}
use Rattle.mem_rules.specs.declared.kept.Kept.{Kept}
use Rattle.mem_rules.specs.Identifiers.{precedes}
use Rattle.mem_rules.specs.Good.{AreAscending}
use Rattle.mem_rules.specs.Rules as node
use Rattle.mem_rules.specs.State.{placed_in}
use Rattle.tx_rules.specs.Mini.{In, Setting, participants_at}
use Rattle.tx_actors.specs.Node as machine
use Rattle.tx_actors.specs.Node.{sorted_in, sorted}
use Rattle.tx_actors.proofs.TestLemmas.{In-sorted_in, In-sorted, sorted-In, In-map, map-In, In-filter, filter-In}
use Rattle.tx_actors.proofs.RecordLemmas.{has_grant-In, In-granted_in}
use Rattle.mem_laws.specs.Cells.{number}
use Rattle.mem_laws.specs.Cuts.{shown_kept, ListsAreTheMachines}
use Rattle.mem_laws.specs.Shown.{Shows}
use Rattle.mem_laws.proofs.CellLemmas.{order_is}
use Rattle.mem_laws.proofs.FloorLemmas.{found_in}

-- ---- ascending lists of numbers

abbrev pub Ascends : List ℕ → Type 0
Ascends [] = Unit {0}
Ascends (x ∷ xs) = ((y : ℕ) → In y xs → x < y) × Ascends xs

sorted_in_ascends : (n : ℕ) (xs : List ℕ) → Ascends xs → Ascends (sorted_in n xs)
sorted_in_ascends n [] up = (λ y h. absurd h, tt)
sorted_in_ascends n (x ∷ xs) up = go (nat_lt x n) (n == x) refl refl (sorted_in_ascends n xs up.1)
  where
    go : (b c : Bool) → nat_lt x n ≡ b → (n == x) ≡ c → Ascends (sorted_in n xs) → Ascends (cond b (x ∷ sorted_in n xs) (cond c (x ∷ xs) (n ∷ x ∷ xs)))
    go true c less same rest = (λ y h. let below = ltb-true x n less in elim (In-sorted_in y n xs h) [ inl e ↦ omega (arith, e, below) | inr old ↦ up.0 y old ], rest)
    go false true low same rest = up
    go false false low other rest =
        let above = ltb-false x n low in
        let differ : ¬ (n ≡ x) = eqb-false n x other in
        let less : n < x = omega (arith, above, differ) in
        (λ y h. elim h [ inl e ↦ omega (arith, e, less) | inr old ↦ let next = up.0 y old in omega (arith, less, next) ], up)

pub sorted_ascends : (xs : List ℕ) → Ascends (sorted xs)
sorted_ascends [] = tt
sorted_ascends (x ∷ xs) = sorted_in_ascends x (sorted xs) (sorted_ascends xs)

-- ascending lists of the same numbers are the same
pub same_ascending : (xs ys : List ℕ) → Ascends xs → Ascends ys → ((n : ℕ) → In n xs → In n ys) → ((n : ℕ) → In n ys → In n xs) → xs ≡ ys
same_ascending [] [] up down forth back = refl
same_ascending [] (y ∷ ys) up down forth back = absurd (back y (inl refl))
same_ascending (x ∷ xs) [] up down forth back = absurd (forth x (inl refl))
same_ascending (x ∷ xs) (y ∷ ys) up down forth back =
    ap (λ (n : ℕ). n ∷ xs) first ∙ ap (λ (ns : List ℕ). y ∷ ns) (same_ascending xs ys up.1 down.1
    (λ n h. elim (forth n (inr h)) [ inl e ↦ absurd (let less = up.0 n h in omega (arith, e, first, less)) | inr rest ↦ rest ])
    (λ n h. elim (back n (inr h)) [ inl e ↦ absurd (let less = down.0 n h in omega (arith, e, first, less)) | inr rest ↦ rest ]))
  where
    first : x ≡ y
    first = elim (forth x (inl refl)) [
      | inl e ↦ e
      | inr later ↦ elim (back y (inl refl)) [
        | inl e ↦ sym e
        | inr too ↦ absurd (let less = down.0 x later in let more = up.0 y too in omega (arith, less, more))
      ]
    ]

-- ---- records

abbrev number_of : Kept → ℕ
number_of k = number k.id

pub In-placed : (x k : Kept) (others : List Kept) → In x (placed_in k others) → In x (k ∷ others)
In-placed x k [] h = h
In-placed x k (o ∷ others) h = go (precedes o.id k.id) (In-placed x k others) h
  where
    go : (b : Bool) → (In x (placed_in k others) → In x (k ∷ others)) → In x (cond b (o ∷ placed_in k others) (k ∷ o ∷ others)) → In x (k ∷ o ∷ others)
    go true rest e = elim e [
      | inl is ↦ inr (inl is)
      | inr later ↦ elim (rest later) [ inl is ↦ inl is | inr old ↦ inr (inr old) ]
    ]
    go false rest e = e

pub placed-In : (x k : Kept) (others : List Kept) → In x (k ∷ others) → In x (placed_in k others)
placed-In x k [] h = h
placed-In x k (o ∷ others) h = go (precedes o.id k.id) (placed-In x k others) h
  where
    go : (b : Bool) → (In x (k ∷ others) → In x (placed_in k others)) → In x (k ∷ o ∷ others) → In x (cond b (o ∷ placed_in k others) (k ∷ o ∷ others))
    go true rest e = elim e [
      | inl is ↦ inr (rest (inl is))
      | inr later ↦ elim later [ inl is ↦ inl is | inr old ↦ inr (rest (inr old)) ]
    ]
    go false rest e = e

-- what holds of each holds of one of them
of_all : (P : Kept → Type 0) (x : Kept) (kept : List Kept) → AllByRecursion P kept → In x kept → P x
of_all P x [] all h = absurd h
of_all P x (k ∷ kept) all h = elim h [ inl e ↦ subst P (sym e) all.0 | inr rest ↦ of_all P x kept all.1 rest ]

-- ascending records have ascending numbers
pub numbers_ascend : (kept : List Kept) → ((k : Kept) → In k kept → IsTypedId k.id) → AreAscending kept → Ascends (map number_of kept)
numbers_ascend [] typed ascending = tt
numbers_ascend (k ∷ kept) typed ascending = (
  λ y h.
      let from = In-map number_of y kept h in
      let before = of_all (λ (o : Kept). precedes k.id o.id ≡ true) from.0 kept ascending.0 from.1 in
      let less = ltb-true (number k.id) (number from.0.id) (order_is k.id from.0.id (typed k (inl refl)) (typed from.0 (inr from.1)) ∙ before) in
      let same = from.2 in
      omega (arith, less, same),
  numbers_ascend kept (λ x h. typed x (inr h)) ascending.1,
)

map_take : {A B : Type 0} (f : A → B) (n : ℕ) (xs : List A) → map f (take n xs) ≡ take n (map f xs)
map_take f zero xs = refl
map_take f (suc n) [] = refl
map_take {A} {B} f (suc n) (x ∷ xs) = ap (λ (ys : List B). f x ∷ ys) (map_take f n xs)

In-taken : (n : ℕ) (x : Kept) (xs : List Kept) → In x (take n xs) → In x xs
In-taken zero x xs h = absurd h
In-taken (suc n) x [] h = h
In-taken (suc n) x (y ∷ xs) h = elim h [ inl e ↦ inl e | inr rest ↦ inr (In-taken n x xs rest) ]

module _ (s : Setting) (m : ℕ) (n : node.Node) (v : machine.View) (shows : Shows s m n.state v) where
  chosen : List ℕ
  chosen = filter (machine.is_kept s m v.records) (machine.granted_in v.records)

  forth : (t : ℕ) → In t (map number_of n.state.kept) → In t chosen
  unfolding chosen
  forth t h =
      let from = In-map number_of t n.state.kept h in
      let kept : machine.is_kept s m v.records (number from.0.id) ≡ true = shows.kept from.0.id (shows.records from.0 from.1).typed ∙ found_in from.0 n.state.kept from.1 in
      let granted = has_grant-In v.records (number from.0.id) (and_parts (machine.has_grant v.records (number from.0.id)) _ kept).0 in
      subst (λ u. In u (filter (machine.is_kept s m v.records) (machine.granted_in v.records))) (sym from.2)
      (filter-In (machine.is_kept s m v.records) (number from.0.id) (machine.granted_in v.records) (In-granted_in v.records (number from.0.id) granted) kept)

  back : (t : ℕ) → In t chosen → In t (map number_of n.state.kept)
  unfolding chosen
  back t h =
      let passed = In-filter (machine.is_kept s m v.records) t (machine.granted_in v.records) h in
      let there = shows.typed t passed.1 in
      subst (λ u. In u (map number_of n.state.kept)) there.2 (map-In number_of there.0 n.state.kept there.1)

  numbers_are : map number_of n.state.kept ≡ sorted chosen
  numbers_are =
      same_ascending (map number_of n.state.kept) (sorted chosen) (numbers_ascend n.state.kept (λ k h. (shows.records k h).typed) shows.ascending) (sorted_ascends chosen)
      (λ t h. sorted-In t chosen (forth t h))
      (λ t h. back t (In-sorted t chosen h))

  named_are : (kept : List Kept) → ((k : Kept) → In k kept → In k n.state.kept)
      → map shown_kept (map node.named kept) ≡ map (λ (t : ℕ). (t, participants_at s m t)) (map number_of kept)
  named_are [] all = refl
  named_are (k ∷ kept) all =
      ap (λ (ps : List ℕ). let x : ℕ × List ℕ = (number k.id, ps) in x ∷ map shown_kept (map node.named kept)) (shows.records k (all k (inl refl))).participants
      ∙ ap (λ (xs : List (ℕ × List ℕ)). let x : ℕ × List ℕ = (number k.id, participants_at s m (number k.id)) in x ∷ xs) (named_are kept (λ y h. all y (inr h)))

  pub list_is : map shown_kept (map node.named (take 64 n.state.kept)) ≡ machine.kept_in s m v.records
  unfolding chosen
  list_is =
      named_are (take 64 n.state.kept) (λ k h. In-taken 64 k n.state.kept h)
      ∙ ap (map (λ (t : ℕ). (t, participants_at s m t))) (map_take number_of 64 n.state.kept ∙ ap (take 64) numbers_are)

pub lists_are_the_machines : ListsAreTheMachines
lists_are_the_machines s m n v shows = (map node.named (take 64 n.state.kept), refl, list_is s m n v shows)
