-- Whose vote is missing.
use Rattle.std.proofs.Common.{◌≡◌, ℕ, suc, ◌==◌, ◌&&◌, ◌||◌, Bool, true, false, not, cond, List, [], ◌∷◌, ◌++◌, filter, length, inl, inr, refl, sym, ap, ◌∙◌, arith}
use Rattle.std.proofs.lemmas.Bool.{eqb-true, eq-eqb}
use Rattle.tx_coord.specs.Votes.{Granted}
use Rattle.tx_coord.specs.Rules.{has_granted, is_in}
use Rattle.tx_coord.proofs.ParticipantLemmas.{In}

and_false : (b : Bool) → (b && false) ≡ false
and_false true = refl
and_false false = refl

pub is_in_missing : (gs : List Granted) (m : ℕ) (ps : List ℕ) → (is_in m ps && not (has_granted gs m)) ≡ is_in m (filter (λ n. not (has_granted gs n)) ps)
is_in_missing gs m [] = refl
is_in_missing gs m (p ∷ ps) = go (is_in_missing gs m ps) (p == m) refl (has_granted gs p) refl
  where
    go : (is_in m ps && not (has_granted gs m)) ≡ is_in m (filter (λ n. not (has_granted gs n)) ps)
        → (b : Bool) → (p == m) ≡ b → (h : Bool) → has_granted gs p ≡ h
        → ((b || is_in m ps) && not (has_granted gs m)) ≡ is_in m (cond (not h) (p ∷ filter (λ n. not (has_granted gs n)) ps) (filter (λ n. not (has_granted gs n)) ps))
    go rest true is true has =
        let same : has_granted gs m ≡ true = ap (has_granted gs) (sym (eqb-true p m is)) ∙ has in
        ap not same ∙ sym (sym (rest) ∙ ap (λ b. is_in m ps && not b) same ∙ and_false (is_in m ps))
    go rest true is false has = ap not (ap (has_granted gs) (sym (eqb-true p m is)) ∙ has) ∙ sym (ap (λ b. b || is_in m (filter (λ n. not (has_granted gs n)) ps)) is)
    go rest false is true has = rest
    go rest false is false has = rest ∙ sym (ap (λ b. b || is_in m (filter (λ n. not (has_granted gs n)) ps)) is)

pub in_list : (m : ℕ) (ms : List ℕ) → In m ms → is_in m ms ≡ true
in_list m [] h = absurd h
in_list m (n ∷ ms) h = elim h [
  | inl e ↦ ap (λ b. b || is_in m ms) (eq-eqb n m (sym e))
  | inr rest ↦ or_true (n == m) (in_list m ms rest)
]
  where
    or_true : (b : Bool) → is_in m ms ≡ true → (b || is_in m ms) ≡ true
    or_true true e = refl
    or_true false e = e

pub list_in : (m : ℕ) (ms : List ℕ) → is_in m ms ≡ true → In m ms
list_in m [] e = absurd cc
list_in m (n ∷ ms) e = go (list_in m ms) (n == m) refl e
  where
    go : (is_in m ms ≡ true → In m ms) → (b : Bool) → (n == m) ≡ b → (b || is_in m ms) ≡ true → In m (n ∷ ms)
    go rest true is k = inl (sym (eqb-true n m is))
    go rest false is k = inr (rest k)

-- one more vote was counted
pub one_more : (gs : List Granted) (g : Granted) (m : ℕ) → has_granted (gs ++ g ∷ []) m ≡ (has_granted gs m || (g.memory == m))
one_more [] g m = or_false (g.memory == m)
  where
    or_false : (b : Bool) → (b || false) ≡ b
    or_false true = refl
    or_false false = refl
one_more (x ∷ gs) g m = go (one_more gs g m) (x.memory == m)
  where
    go : has_granted (gs ++ g ∷ []) m ≡ (has_granted gs m || (g.memory == m)) → (b : Bool) → (b || has_granted (gs ++ g ∷ []) m) ≡ ((b || has_granted gs m) || (g.memory == m))
    go rest true = refl
    go rest false = rest

-- with all votes none is missing
pub none_missing : (gs : List Granted) (ps : List ℕ) → ((m : ℕ) → In m ps → has_granted gs m ≡ true) → filter (λ n. not (has_granted gs n)) ps ≡ []
none_missing gs [] all = refl
none_missing gs (p ∷ ps) all =
    ap (λ b. cond (not b) (p ∷ filter (λ n. not (has_granted gs n)) ps) (filter (λ n. not (has_granted gs n)) ps)) (all p (inl refl))
    ∙ none_missing gs ps (λ m h. all m (inr h))

pub empty_is : {X : Type 0} (xs : List X) → (length xs == 0) ≡ true → xs ≡ []
empty_is [] e = refl
empty_is (x ∷ xs) e = absurd (let n = eqb-true (suc (length xs)) 0 e in omega (arith, n))
