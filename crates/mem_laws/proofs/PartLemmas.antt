-- The participants of a minitransaction are those of the table.
use Rattle.std.proofs.Common.{◌≡◌, ℕ, zero, suc, ◌+◌, ◌<◌, List, [], ◌∷◌, map, length, inl, inr, sym, subst, arith}
use Rattle.std.specs.Prelude.{slice_index_or}
use Rattle.std.specs.List.{Contains, slice_index}
use Rattle.std.specs.List.Sorted.{IsStrictlyIncreasing}
use Rattle.mini_tx.specs.Minitransactions.{memory_of}
use Rattle.tx_rules.specs.Mini.{In}
use Rattle.tx_actors.specs.Node.{sorted}
use Rattle.tx_actors.proofs.TestLemmas.{sorted-In, In-sorted}
use Rattle.mem_laws.specs.Minis.{ParticipantsAreTheTables}
use Rattle.mem_laws.proofs.ListLemmas.{Ascends, sorted_ascends, same_ascending}

contained : (xs : List ℕ) (x k : ℕ) → k < length xs → slice_index_or xs k x ≡ x → In x xs
contained [] x k below e = absurd (omega (arith, below))
contained (y ∷ xs) x zero below e = inl (sym e)
contained (y ∷ xs) x (suc k) below e = inr (contained xs x k (omega (arith, below)) e)

pub contains : (xs : List ℕ) (x : ℕ) → In x xs → Contains xs x
contains [] x h = absurd h
contains (y ∷ xs) x h = elim h [
  | inl e ↦ (0, omega arith, sym e)
  | inr rest ↦ let it = contains xs x rest in (suc it.0, let below = it.1 in omega (arith, below), it.2)
]

rising : (x : ℕ) (xs : List ℕ) → IsStrictlyIncreasing (x ∷ xs) → IsStrictlyIncreasing xs
rising x xs up k fits =
    let next : suc k + 1 ≡ suc (k + 1) = omega arith in
    subst (λ (i : ℕ). slice_index xs k < slice_index (x ∷ xs) i) next (up (suc k) (omega (arith, fits)))

ascends : (xs : List ℕ) → IsStrictlyIncreasing xs → Ascends xs
ascends [] up = tt
ascends (x ∷ []) up = (λ y h. absurd h, tt)
ascends (x ∷ z ∷ xs) up =
    let rest = ascends (z ∷ xs) (rising x (z ∷ xs) up) in
    let first : x < z = up 0 (omega arith) in
    (λ y h. elim h [ inl e ↦ omega (arith, e, first) | inr later ↦ let next = rest.0 y later in omega (arith, first, next) ], rest)

pub participants_are_the_tables : ParticipantsAreTheTables
participants_are_the_tables items numbers part =
    same_ascending numbers (sorted (map memory_of items)) (ascends numbers part.ascending) (sorted_ascends (map memory_of items))
    (λ n h. let it = (part.members n).0 (contains numbers n h) in sorted-In n (map memory_of items) (contained (map memory_of items) n it.0 it.1 it.2))
    (λ n h. let it = (part.members n).1 (contains (map memory_of items) n (In-sorted n (map memory_of items) h)) in contained numbers n it.0 it.1 it.2)
