-- Reads that are taken out of votes.
use Rattle.std.proofs.Common.{◌≡◌, ℕ, zero, suc, ◌==◌, ◌<◌, ◌≤◌, true, cond, List, [], ◌∷◌, ◌++◌, take, drop, length, refl, sym, ap, ◌∙◌, arith}
use Rattle.std.specs.Prelude.{slice_index_or, slice_set}
use Rattle.std.proofs.lemmas.Bool.{eq-eqb}
use Rattle.tx_coord.specs.Votes.{Granted}
use Rattle.tx_coord.specs.Rules.{first_read, less_read, next_read, without_first}

-- nothing was changed, and no vote before this one is of the memory node
pub record ComesFrom (m i : ℕ) (old now : List Granted) : Type 0 where
  pub same : now ≡ old
  pub next : next_read m (drop i old) ≡ next_read m old
  pub less : take i old ++ less_read m (drop i old) ≡ less_read m old

rest_from : (gs : List Granted) (i : ℕ) (g : Granted) → i < length gs → g ≡ slice_index_or gs i g → drop i gs ≡ g ∷ drop (suc i) gs
rest_from [] i g below same = absurd (omega (arith, below))
rest_from (x ∷ gs) zero g below same = ap (λ y. y ∷ gs) (sym same)
rest_from (x ∷ gs) (suc i) g below same = rest_from gs i g (omega (arith, below)) same

put_at : (gs : List Granted) (i : ℕ) (g : Granted) → i < length gs → slice_set gs i g ≡ take i gs ++ g ∷ drop (suc i) gs
put_at [] i g below = absurd (omega (arith, below))
put_at (x ∷ gs) zero g below = refl
put_at (x ∷ gs) (suc i) g below = ap (λ ys. x ∷ ys) (put_at gs i g (omega (arith, below)))

all_past : (gs : List Granted) (i : ℕ) → length gs ≤ i → drop i gs ≡ []
all_past [] zero over = refl
all_past [] (suc i) over = refl
all_past (x ∷ gs) zero over = absurd (omega (arith, over))
all_past (x ∷ gs) (suc i) over = all_past gs i (omega (arith, over))

all_kept : (gs : List Granted) (i : ℕ) → length gs ≤ i → take i gs ++ [] ≡ gs
all_kept [] zero over = refl
all_kept [] (suc i) over = refl
all_kept (x ∷ gs) zero over = absurd (omega (arith, over))
all_kept (x ∷ gs) (suc i) over = ap (λ ys. x ∷ ys) (all_kept gs i (omega (arith, over)))

-- a vote of the memory node: its first read is taken
pub taken : (m i : ℕ) (old now : List Granted) (g : Granted) → ComesFrom m i old now → i < length now → g ≡ slice_index_or now i g → g.memory ≡ m
    → (first_read g ≡ next_read m old) × (slice_set now i (without_first g) ≡ less_read m old)
taken m i old now g from below same is = (
  sym (ap (next_read m) rest ∙ ap (λ b. cond b (first_read g) (next_read m (drop (suc i) old))) it) ∙ from.next,
  ap (λ gs. slice_set gs i (without_first g)) from.same
      ∙ put_at old i (without_first g) within
      ∙ sym (ap (λ gs. take i old ++ less_read m gs) rest ∙ ap (λ b. take i old ++ cond b (without_first g ∷ drop (suc i) old) (g ∷ less_read m (drop (suc i) old))) it)
      ∙ from.less,
)
  where
    within : i < length old
    within = let size = ap (λ (gs : List Granted). length gs) from.same in omega (arith, below, size)

    rest : drop i old ≡ g ∷ drop (suc i) old
    rest = rest_from old i g within (same ∙ ap (λ gs. slice_index_or gs i g) from.same)

    it : (g.memory == m) ≡ true
    it = eq-eqb g.memory m is

-- no vote is of the memory node
pub none_taken : (m i : ℕ) (old now : List Granted) → ComesFrom m i old now → length now ≤ i → ([] ≡ next_read m old) × (now ≡ less_read m old)
none_taken m i old now from over = (
  sym (ap (next_read m) (all_past old i past)) ∙ from.next,
  from.same ∙ sym (all_kept old i past) ∙ sym (ap (λ gs. take i old ++ less_read m gs) (all_past old i past)) ∙ from.less,
)
  where
    past : length old ≤ i
    past = let size = ap (λ (gs : List Granted). length gs) from.same in omega (arith, over, size)
