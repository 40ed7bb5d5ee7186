-- The participants of a minitransaction are those of the rules.
use Rattle.std.proofs.Common.{◌≡◌, ℕ, zero, suc, ◌+◌, ◌<◌, nat_lt, ◌==◌, Bool, true, false, cond, List, [], ◌∷◌, map, filter, not, length, ◌⊎◌, inl, inr, refl, sym, ap, subst, ◌∙◌, arith}
use Rattle.std.proofs.lemmas.Bool.{ltb-true, ltb-false, eqb-true, eqb-false}
use Rattle.std.specs.Prelude.{slice_index_or}
use Rattle.std.specs.List.{Contains, slice_index}
use Rattle.std.specs.List.Sorted.{IsStrictlyIncreasing}
use Rattle.mini_tx.specs.declared.item.Item.{Item}
use Rattle.mini_tx.specs.declared.tx_id.TxId.{TxId}
use Rattle.mini_tx.specs.Minitransactions.{memory_of, TakePart}
use Rattle.tx_coord.specs.State.{Runs}
use Rattle.tx_coord.specs.Rules.{has_granted, placed_in, participants_of, prepare, prepares}

abbrev pub In : ℕ → List ℕ → Type 0
In x [] = ⊥
In x (y ∷ ys) = (x ≡ y) ⊎ In x ys

abbrev Ascends : List ℕ → Type 0
Ascends [] = Unit {0}
Ascends (x ∷ xs) = ((y : ℕ) → In y xs → x < y) × Ascends xs

pub contained : (xs : List ℕ) (x k : ℕ) → k < length xs → slice_index_or xs k x ≡ x → In x xs
contained [] x k below e = absurd (omega (arith, below))
contained (y ∷ xs) x zero below e = inl (sym e)
contained (y ∷ xs) x (suc k) below e = inr (contained xs x k (omega (arith, below)) e)

pub contains : (xs : List ℕ) (x : ℕ) → In x xs → Contains xs x
contains [] x h = absurd h
contains (y ∷ xs) x h = elim h [
  | inl e ↦ (0, omega arith, sym e)
  | inr rest ↦ let it = contains xs x rest in (suc it.0, let below = it.1 in omega (arith, below), it.2)
]

rising : (x : ℕ) (xs : List ℕ) → IsStrictlyIncreasing (x ∷ xs) → IsStrictlyIncreasing xs
rising x xs up k fits =
    let next : suc k + 1 ≡ suc (k + 1) = omega arith in
    subst (λ (i : ℕ). slice_index xs k < slice_index (x ∷ xs) i) next (up (suc k) (omega (arith, fits)))

ascends : (xs : List ℕ) → IsStrictlyIncreasing xs → Ascends xs
ascends [] up = tt
ascends (x ∷ []) up = (λ y h. absurd h, tt)
ascends (x ∷ z ∷ xs) up =
    let rest = ascends (z ∷ xs) (rising x (z ∷ xs) up) in
    let first : x < z = up 0 (omega arith) in
    (λ y h. elim h [ inl e ↦ omega (arith, e, first) | inr later ↦ let next = rest.0 y later in omega (arith, first, next) ], rest)

-- ascending lists of the same numbers are the same
same_ascending : (xs ys : List ℕ) → Ascends xs → Ascends ys → ((n : ℕ) → In n xs → In n ys) → ((n : ℕ) → In n ys → In n xs) → xs ≡ ys
same_ascending [] [] up down forth back = refl
same_ascending [] (y ∷ ys) up down forth back = absurd (back y (inl refl))
same_ascending (x ∷ xs) [] up down forth back = absurd (forth x (inl refl))
same_ascending (x ∷ xs) (y ∷ ys) up down forth back =
    ap (λ (n : ℕ). n ∷ xs) first ∙ ap (λ (ns : List ℕ). y ∷ ns) (same_ascending xs ys up.1 down.1
    (λ n h. elim (forth n (inr h)) [ inl e ↦ absurd (let less = up.0 n h in omega (arith, e, first, less)) | inr rest ↦ rest ])
    (λ n h. elim (back n (inr h)) [ inl e ↦ absurd (let less = down.0 n h in omega (arith, e, first, less)) | inr rest ↦ rest ]))
  where
    first : x ≡ y
    first = elim (forth x (inl refl)) [
      | inl e ↦ e
      | inr later ↦ elim (back y (inl refl)) [
        | inl e ↦ sym e
        | inr too ↦ absurd (let less = down.0 x later in let more = up.0 y too in omega (arith, less, more))
      ]
    ]

-- ---- a number in its place

In-placed : (x n : ℕ) (ms : List ℕ) → In x (placed_in n ms) → (x ≡ n) ⊎ In x ms
In-placed x n [] h = elim h [ inl e ↦ inl e | inr none ↦ absurd none ]
In-placed x n (m ∷ ms) h = go (nat_lt m n) (m == n) (In-placed x n ms) h
  where
    go : (b c : Bool) → (In x (placed_in n ms) → (x ≡ n) ⊎ In x ms) → In x (cond b (m ∷ placed_in n ms) (cond c (m ∷ ms) (n ∷ (m ∷ ms)))) → (x ≡ n) ⊎ In x (m ∷ ms)
    go true c before it = elim it [ inl e ↦ inr (inl e) | inr rest ↦ elim (before rest) [ inl e ↦ inl e | inr old ↦ inr (inr old) ] ]
    go false true before it = inr it
    go false false before it = it

pub placed-In : (x n : ℕ) (ms : List ℕ) → (x ≡ n) ⊎ In x ms → In x (placed_in n ms)
placed-In x n [] h = elim h [ inl e ↦ inl e | inr none ↦ absurd none ]
placed-In x n (m ∷ ms) h = go (nat_lt m n) (m == n) refl (placed-In x n ms) h
  where
    go : (b c : Bool) → (m == n) ≡ c → ((x ≡ n) ⊎ In x ms → In x (placed_in n ms)) → (x ≡ n) ⊎ In x (m ∷ ms) → In x (cond b (m ∷ placed_in n ms) (cond c (m ∷ ms) (n ∷ (m ∷ ms))))
    go true c same before it = elim it [ inl e ↦ inr (before (inl e)) | inr old ↦ elim old [ inl e ↦ inl e | inr rest ↦ inr (before (inr rest)) ] ]
    go false true same before it = elim it [ inl e ↦ inl (e ∙ sym (eqb-true m n same)) | inr old ↦ old ]
    go false false same before it = it

placed_ascends : (n : ℕ) (ms : List ℕ) → Ascends ms → Ascends (placed_in n ms)
placed_ascends n [] up = (λ y h. absurd h, tt)
placed_ascends n (m ∷ ms) up = go (nat_lt m n) (m == n) refl refl (placed_ascends n ms up.1)
  where
    go : (b c : Bool) → nat_lt m n ≡ b → (m == n) ≡ c → Ascends (placed_in n ms) → Ascends (cond b (m ∷ placed_in n ms) (cond c (m ∷ ms) (n ∷ (m ∷ ms))))
    go true c less same rest = (λ y h. let below = ltb-true m n less in elim (In-placed y n ms h) [ inl e ↦ omega (arith, e, below) | inr old ↦ up.0 y old ], rest)
    go false true low same rest = up
    go false false low other rest =
        let above = ltb-false m n low in
        let differ : ¬ (m ≡ n) = eqb-false m n other in
        let less : n < m = omega (arith, above, differ) in
        (λ y h. elim h [ inl e ↦ omega (arith, e, less) | inr old ↦ let next = up.0 y old in omega (arith, less, next) ], up)

participants_ascend : (items : List Item) → Ascends (participants_of items)
participants_ascend [] = tt
participants_ascend (i ∷ items) = placed_ascends (memory_of i) (participants_of items) (participants_ascend items)

participants-In : (x : ℕ) (items : List Item) → In x (map memory_of items) → In x (participants_of items)
participants-In x [] h = h
participants-In x (i ∷ items) h = placed-In x (memory_of i) (participants_of items) (elim h [ inl e ↦ inl e | inr rest ↦ inr (participants-In x items rest) ])

In-participants : (x : ℕ) (items : List Item) → In x (participants_of items) → In x (map memory_of items)
In-participants x [] h = h
In-participants x (i ∷ items) h = elim (In-placed x (memory_of i) (participants_of items) h) [ inl e ↦ inl e | inr rest ↦ inr (In-participants x items rest) ]

-- numbers that take part are those of the rules
pub taking_part : (items : List Item) (numbers : List ℕ) → TakePart items numbers → numbers ≡ participants_of items
taking_part items numbers part =
    same_ascending numbers (participants_of items) (ascends numbers part.ascending) (participants_ascend items)
    (λ n h. let it = (part.members n).0 (contains numbers n h) in participants-In n items (contained (map memory_of items) n it.0 it.1 it.2))
    (λ n h. let it = (part.members n).1 (contains (map memory_of items) n (In-participants n items h)) in contained numbers n it.0 it.1 it.2)

-- ---- all votes are missing at first

pub none_granted : (ms : List ℕ) → filter (λ m. not (has_granted [] m)) ms ≡ ms
none_granted [] = refl
none_granted (m ∷ ms) = ap (λ (ns : List ℕ). m ∷ ns) (none_granted ms)

-- what begins has no vote, so that `prepare` is posted to all of its participants
pub all_missing : (id : TxId) (items : List Item) → prepares (Runs (record { id = id; mini = items; grants = [] })) ≡ map (prepare id items) (participants_of items)
all_missing id items = ap (λ (ms : List ℕ). map (prepare id items) ms) (none_granted (participants_of items))
