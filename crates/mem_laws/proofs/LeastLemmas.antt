-- The least of some identifiers, and the least of their numbers.
use Rattle.std.proofs.Common.{◌≡◌, ℕ, ◌<◌, ◌≤◌, nat_lt, ◌==◌, Bool, true, false, cond, List, [], ◌∷◌, map, filter, Option, Some, None, inl, inr, refl, sym, ap, subst, ◌∙◌, arith}
use Rattle.std.specs.Prelude.{option_map}
use Rattle.std.proofs.lemmas.Bool.{eqb-true, ltb-true, ltb-false}
use Rattle.mini_tx.specs.declared.tx_id.TxId.{TxId}
use Rattle.mini_tx.specs.Laws.{IsTypedId}
use Rattle.mem_rules.specs.declared.kept.Kept.{Kept}
use Rattle.mem_rules.specs.Identifiers.{precedes}
use Rattle.mem_rules.specs.Rules.{least_of, least_with}
use Rattle.tx_rules.specs.Mini.{In}
use Rattle.tx_actors.specs.Node.{sorted_in, sorted, first_of_list}
use Rattle.mem_laws.specs.Cells.{number}
use Rattle.mem_laws.proofs.CellLemmas.{order_is}

-- the least of a list, where there is one
abbrev pub IsLeastIn : List ℕ → Option ℕ → Type 0
IsLeastIn xs None = (x : ℕ) → In x xs → ⊥
IsLeastIn xs (Some least) = In least xs × ((x : ℕ) → In x xs → least ≤ x)

-- lists of the same elements have the same least
pub same_least : (xs ys : List ℕ) (a b : Option ℕ) → IsLeastIn xs a → IsLeastIn ys b → ((x : ℕ) → In x xs → In x ys) → ((x : ℕ) → In x ys → In x xs) → a ≡ b
same_least xs ys None None first second forth back = refl
same_least xs ys None (Some b) first second forth back = absurd (first b (back b second.0))
same_least xs ys (Some a) None first second forth back = absurd (second a (forth a first.0))
same_least xs ys (Some a) (Some b) first second forth back =
    let low = first.1 b (back b second.0) in
    let high = second.1 a (forth a first.0) in
    let e : a ≡ b = omega (arith, low, high) in
    ap Some e

-- ---- by sorting

first_in : (x : ℕ) (zs xs : List ℕ) → IsLeastIn xs (first_of_list zs) → IsLeastIn (x ∷ xs) (first_of_list (sorted_in x zs))
first_in x [] xs none = (inl refl, λ y h. elim h [ inl e ↦ omega (arith, e) | inr rest ↦ absurd (none y rest) ])
first_in x (z ∷ zs) xs least = go (nat_lt z x) (x == z) refl refl
  where
    go : (b c : Bool) → nat_lt z x ≡ b → (x == z) ≡ c → IsLeastIn (x ∷ xs) (first_of_list (cond b (z ∷ sorted_in x zs) (cond c (z ∷ zs) (x ∷ z ∷ zs))))
    go true c is one = (inr least.0, λ y h. let less = ltb-true z x is in elim h [ inl e ↦ omega (arith, e, less) | inr rest ↦ least.1 y rest ])
    go false true is one = (inr least.0, λ y h. let same = eqb-true x z one in elim h [ inl e ↦ omega (arith, e, same) | inr rest ↦ least.1 y rest ])
    go false false is one = (
      inl refl,
      λ y h. let low = ltb-false z x is in elim h [ inl e ↦ omega (arith, e) | inr rest ↦ let next = least.1 y rest in omega (arith, low, next) ],
    )

pub first_is_least : (xs : List ℕ) → IsLeastIn xs (first_of_list (sorted xs))
first_is_least [] = λ x h. h
first_is_least (x ∷ xs) = first_in x (sorted xs) xs (first_is_least xs)

-- ---- by a fold

lesser : Option ℕ → ℕ → Option ℕ
lesser None n = Some n
lesser (Some least) n = cond (nat_lt n least) (Some n) (Some least)

fold_least : Option ℕ → List ℕ → Option ℕ
fold_least least [] = least
fold_least least (n ∷ ns) = fold_least (lesser least n) ns

least_behind : (a : ℕ) (xs : List ℕ) → IsLeastIn (a ∷ xs) (fold_least (Some a) xs)
unfolding fold_least lesser
least_behind a [] = (inl refl, λ y h. elim h [ inl e ↦ omega (arith, e) | inr none ↦ absurd none ])
least_behind a (x ∷ xs) = go (nat_lt x a) refl (least_behind x xs) (least_behind a xs)
  where
    swap : (o : Option ℕ) → IsLeastIn (x ∷ xs) o → x < a → IsLeastIn (a ∷ x ∷ xs) o
    swap None none less = absurd (none x (inl refl))
    swap (Some n) least less = (inr least.0, λ y h. elim h [ inl e ↦ let next = least.1 x (inl refl) in omega (arith, e, next, less) | inr rest ↦ least.1 y rest ])

    keep : (o : Option ℕ) → IsLeastIn (a ∷ xs) o → a ≤ x → IsLeastIn (a ∷ x ∷ xs) o
    keep None none low = absurd (none a (inl refl))
    keep (Some n) least low = (
      elim least.0 [ inl e ↦ inl e | inr rest ↦ inr (inr rest) ],
      λ y h. elim h [
        | inl e ↦ least.1 y (inl e)
        | inr rest ↦ elim rest [ inl e ↦ let next = least.1 a (inl refl) in omega (arith, e, next, low) | inr later ↦ least.1 y (inr later) ]
      ],
    )

    go : (b : Bool) → nat_lt x a ≡ b → IsLeastIn (x ∷ xs) (fold_least (Some x) xs) → IsLeastIn (a ∷ xs) (fold_least (Some a) xs)
        → IsLeastIn (a ∷ x ∷ xs) (fold_least (cond b (Some x) (Some a)) xs)
    go true is one other = swap (fold_least (Some x) xs) one (ltb-true x a is)
    go false is one other = keep (fold_least (Some a) xs) other (ltb-false x a is)

fold_is_least : (xs : List ℕ) → IsLeastIn xs (fold_least None xs)
unfolding fold_least lesser
fold_is_least [] = λ x h. h
fold_is_least (x ∷ xs) = least_behind x xs

-- ---- of records

-- the numbers of the records with a property
abbrev pub numbers_with : (Kept → Bool) → List Kept → List ℕ
numbers_with test kept = map (λ (k : Kept). number k.id) (filter test kept)

abbrev AreTyped : List Kept → Type 0
AreTyped kept = (k : Kept) → In k kept → IsTypedId k.id

abbrev IsTypedOption : Option TxId → Type 0
IsTypedOption None = Unit {0}
IsTypedOption (Some id) = IsTypedId id

typed_least : (least : Option TxId) (id : TxId) → IsTypedOption least → IsTypedId id → IsTypedOption (least_of least id)
typed_least None id none typed = typed
typed_least (Some least) id first typed = go (precedes id least)
  where
    go : (b : Bool) → IsTypedOption (cond b (Some id) (Some least))
    go true = typed
    go false = first

lesser_is : (least : Option TxId) (id : TxId) → IsTypedOption least → IsTypedId id → option_map number (least_of least id) ≡ lesser (option_map number least) (number id)
unfolding lesser
lesser_is None id none typed = refl
lesser_is (Some least) id first typed = go (precedes id least) (nat_lt (number id) (number least)) (order_is id least typed first)
  where
    go : (a b : Bool) → b ≡ a → option_map number (cond a (Some id) (Some least)) ≡ cond b (Some (number id)) (Some (number least))
    go true true e = refl
    go false false e = refl
    go true false e = absurd cc
    go false true e = absurd cc

fold_is : (test : Kept → Bool) (least : Option TxId) (kept : List Kept) → IsTypedOption least → AreTyped kept
    → option_map number (least_with test least kept) ≡ fold_least (option_map number least) (numbers_with test kept)
unfolding fold_least
fold_is test least [] first typed = refl
fold_is test least (k ∷ kept) first typed = go (test k) (fold_is test (least_of least k.id) kept (typed_least least k.id first (typed k (inl refl))) (λ x h. typed x (inr h)))
    (fold_is test least kept first (λ x h. typed x (inr h)))
  where
    go : (b : Bool)
        → option_map number (least_with test (least_of least k.id) kept) ≡ fold_least (option_map number (least_of least k.id)) (numbers_with test kept)
        → option_map number (least_with test least kept) ≡ fold_least (option_map number least) (numbers_with test kept)
        → option_map number (least_with test (cond b (least_of least k.id) least) kept)
        ≡ fold_least (option_map number least) (map (λ (x : Kept). number x.id) (cond b (k ∷ filter test kept) (filter test kept)))
    go true taken passed = taken ∙ ap (λ o. fold_least o (numbers_with test kept)) (lesser_is least k.id first (typed k (inl refl)))
    go false taken passed = passed

-- the number of the least identifier is the least number
pub least_is : (test : Kept → Bool) (kept : List Kept) → AreTyped kept → IsLeastIn (numbers_with test kept) (option_map number (least_with test None kept))
least_is test kept typed = subst (IsLeastIn (numbers_with test kept)) (sym (fold_is test None kept tt typed)) (fold_is_least (numbers_with test kept))
