-- How often each number is named, counted in a table up to a cap.
use Rattle.std.specs.Prelude.{◌≡◌, ◌⊎◌, ℕ, ◌-◌, ◌^◌, ◌≤◌, unwrap_or}
use Rattle.std.specs.Ordering.{nat_cmp}
use Rattle.std.specs.FinMap as table
use Rattle.std.specs.FinMap.{FinMap}
use Rattle.fs_rules.specs.declared.plain_tree.PlainTree.{PlainTree}
use Rattle.fs_rules.specs.Good.{naming_slots}
use Rattle.fs_laws.proofs.WholeLemmas.{due}

-- the greatest count
abbrev pub cap : ℕ
cap = 2 ^ 32 - 1

-- a count is this number, or both are the cap or more
abbrev pub IsCapped : ℕ → ℕ → Type 0
IsCapped count number = (count ≡ number) ⊎ ((cap ≤ count) × (cap ≤ number))

-- what is counted at a number
abbrev pub count_in : FinMap nat_cmp ℕ → ℕ → ℕ
count_in counts n = unwrap_or (table.get counts n) 0

-- each number is named as often as it has to be
abbrev pub AreNamed : PlainTree → Type 0
AreNamed t = (n : ℕ) → naming_slots t n ≡ due t n
