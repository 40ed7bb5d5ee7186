-- The order of identifiers.
use Rattle.std.proofs.Common.{◌≡◌, ◌⊎◌, ◌<◌, ℕ, nat_lt, ◌==◌, Bool, true, false, ◌&&◌, ◌||◌, inl, inr, refl, sym, ap, subst, ◌∙◌, arith}
use Rattle.std.proofs.lemmas.Bool.{ltb-true, lt-ltb, eqb-true, eq-eqb, or_cases, or_left, or_right, and_parts, and_from, false_from_ne_true, cases_order}
use Rattle.mini_tx.specs.declared.tx_id.TxId.{TxId}
use Rattle.lock_table.specs.Order.{precedes, is_same}

-- one comes before another, as a type
abbrev pub IsBefore : TxId → TxId → Type 0
IsBefore a b = (a.coord < b.coord) ⊎ ((a.coord ≡ b.coord) × ((a.boot < b.boot) ⊎ ((a.boot ≡ b.boot) × (a.seq < b.seq))))

pub before_of : (a b : TxId) → precedes a b ≡ true → IsBefore a b
before_of a b h = elim (or_cases (nat_lt a.coord b.coord) ((a.coord == b.coord) && (nat_lt a.boot b.boot || ((a.boot == b.boot) && nat_lt a.seq b.seq))) h) [
  | inl less ↦ inl (ltb-true a.coord b.coord less)
  | inr later ↦
      let one = and_parts (a.coord == b.coord) (nat_lt a.boot b.boot || ((a.boot == b.boot) && nat_lt a.seq b.seq)) later in
      inr (
        eqb-true a.coord b.coord one.0,
        elim (or_cases (nat_lt a.boot b.boot) ((a.boot == b.boot) && nat_lt a.seq b.seq) one.1) [
          | inl less ↦ inl (ltb-true a.boot b.boot less)
          | inr last ↦
              let two = and_parts (a.boot == b.boot) (nat_lt a.seq b.seq) last in
              inr (eqb-true a.boot b.boot two.0, ltb-true a.seq b.seq two.1)
        ],
      )
]

pub of_before : (a b : TxId) → IsBefore a b → precedes a b ≡ true
of_before a b (inl less) = or_left (nat_lt a.coord b.coord) _ (lt-ltb a.coord b.coord less)
of_before a b (inr (same, inl less)) =
    or_right (nat_lt a.coord b.coord) _ (and_from (a.coord == b.coord) _ (eq-eqb a.coord b.coord same) (or_left (nat_lt a.boot b.boot) _ (lt-ltb a.boot b.boot less)))
of_before a b (inr (same, inr (alike, less))) =
    or_right (nat_lt a.coord b.coord) _
    (and_from (a.coord == b.coord) _ (eq-eqb a.coord b.coord same)
    (or_right (nat_lt a.boot b.boot) _ (and_from (a.boot == b.boot) _ (eq-eqb a.boot b.boot alike) (lt-ltb a.seq b.seq less))))

-- ---- it is transitive, and no two identifiers come before each other

both : (a b c : TxId) → IsBefore a b → IsBefore b c → IsBefore a c
both a b c (inl x) (inl y) = inl (omega (arith, x, y))
both a b c (inl x) (inr (e, rest)) = inl (omega (arith, x, e))
both a b c (inr (e, rest)) (inl y) = inl (omega (arith, e, y))
both a b c (inr (e, inl x)) (inr (f, inl y)) = inr (e ∙ f, inl (omega (arith, x, y)))
both a b c (inr (e, inl x)) (inr (f, inr (g, y))) = inr (e ∙ f, inl (omega (arith, x, g)))
both a b c (inr (e, inr (g, x))) (inr (f, inl y)) = inr (e ∙ f, inl (omega (arith, g, y)))
both a b c (inr (e, inr (g, x))) (inr (f, inr (h, y))) = inr (e ∙ f, inr (g ∙ h, omega (arith, x, y)))

pub not_itself : (a : TxId) → IsBefore a a → ⊥
not_itself a (inl x) = omega (arith, x)
not_itself a (inr (e, inl x)) = omega (arith, x)
not_itself a (inr (e, inr (f, x))) = omega (arith, x)

pub trans : (a b c : TxId) → precedes a b ≡ true → precedes b c ≡ true → precedes a c ≡ true
trans a b c ab bc = of_before a c (both a b c (before_of a b ab) (before_of b c bc))

not_true : (b : Bool) → b ≡ true → b ≡ false → ⊥
not_true true is not_ = absurd cc
not_true false is not_ = absurd cc

pub one_way : (a b : TxId) → precedes a b ≡ true → precedes b a ≡ false
one_way a b ab = false_from_ne_true (precedes b a) (λ ba. not_itself a (both a b a (before_of a b ab) (before_of b a ba)))

-- ---- the same identifier

pub is_one : (a b : TxId) → is_same a b ≡ true → a ≡ b
is_one a b h =
    let one = and_parts (a.coord == b.coord) ((a.boot == b.boot) && (a.seq == b.seq)) h in
    let two = and_parts (a.boot == b.boot) (a.seq == b.seq) one.1 in
    made a.coord b.coord a.boot b.boot a.seq b.seq (eqb-true a.coord b.coord one.0) (eqb-true a.boot b.boot two.0) (eqb-true a.seq b.seq two.1)
  where
    of : ℕ → ℕ → ℕ → TxId
    of coord boot seq = record { coord = coord; boot = boot; seq = seq }

    made : (c d e f g h : ℕ) → c ≡ d → e ≡ f → g ≡ h → of c e g ≡ of d f h
    made c d e f g h x y z = ap (λ n. of n e g) x ∙ ap (λ n. of d n g) y ∙ ap (λ n. of d f n) z

pub same_self : (a : TxId) → is_same a a ≡ true
same_self a = and_from (a.coord == a.coord) _ (eq-eqb a.coord a.coord refl) (and_from (a.boot == a.boot) _ (eq-eqb a.boot a.boot refl) (eq-eqb a.seq a.seq refl))

-- what comes before another is not the same
pub not_same : (a b : TxId) → precedes a b ≡ true → is_same a b ≡ false
not_same a b ab = false_from_ne_true (is_same a b) (λ same. not_itself b (subst (λ (x : TxId). IsBefore x b) (is_one a b same) (before_of a b ab)))

pub not_same_back : (a b : TxId) → precedes a b ≡ true → is_same b a ≡ false
not_same_back a b ab = false_from_ne_true (is_same b a) (λ same. not_itself b (subst (λ (x : TxId). IsBefore x b) (sym (is_one b a same)) (before_of a b ab)))

-- and of two that are not the same one comes before the other
pub or_after : (a b : TxId) → precedes a b ≡ false → is_same a b ≡ false → precedes b a ≡ true
or_after a b not_ other = of_before b a (elim (order a b) [
  | inl before ↦ absurd (not_true (precedes a b) (of_before a b before) not_)
  | inr (inl same) ↦ absurd (not_true (is_same a b) same other)
  | inr (inr after) ↦ after
])
  where
    order : (a b : TxId) → IsBefore a b ⊎ ((is_same a b ≡ true) ⊎ IsBefore b a)
    order a b = elim (cases_order a.coord b.coord) [
      | inr (inl x) ↦ inl (inl x)
      | inr (inr x) ↦ inr (inr (inl x))
      | inl c ↦ elim (cases_order a.boot b.boot) [
        | inr (inl x) ↦ inl (inr (c, inl x))
        | inr (inr x) ↦ inr (inr (inr (sym c, inl x)))
        | inl d ↦ elim (cases_order a.seq b.seq) [
          | inr (inl x) ↦ inl (inr (c, inr (d, x)))
          | inr (inr x) ↦ inr (inr (inr (sym c, inr (sym d, x))))
          | inl e ↦ inr (inl (and_from (a.coord == b.coord) _ (eq-eqb a.coord b.coord c) (and_from (a.boot == b.boot) _ (eq-eqb a.boot b.boot d) (eq-eqb a.seq b.seq e))))
        ]
      ]
    ]
