-- The numbers that files have or had.
use Rattle.std.specs.Prelude.{◌≡◌, ℕ, ◌<◌, Bool, true, ◌||◌, List, slice_index, is_some}
use Rattle.std.specs.FinMap as table
use Rattle.fs_rules.specs.declared.plain_tree.PlainTree.{PlainTree}
use Rattle.fs_rules.specs.Numbers.{number_of}

-- a file has a number, or had it and was freed
abbrev pub is_given : PlainTree → ℕ → Bool
is_given t n = is_some (table.get t.files n) || is_some (table.get t.freed n)

-- the lowest numbers of a memory node, so many
abbrev pub AreGiven : PlainTree → ℕ → ℕ → Type 0
AreGiven t memory count = (i : ℕ) → i < count → is_given t (number_of memory i) ≡ true

-- of each memory node as many as are counted
abbrev pub AllAreGiven : PlainTree → List ℕ → Type 0
AllAreGiven t counts = (memory : ℕ) → AreGiven t memory (slice_index counts memory)
