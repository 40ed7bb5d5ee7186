-- The parents of the directories with lower numbers are there.
use Rattle.std.proofs.Common.{◌≡◌, ◌≢◌, ℕ, ◌<◌, ◌≤◌, None}
use Rattle.std.specs.FinMap.{get}
use Rattle.fs_rules.specs.Good.{parent_at}
use Rattle.fs_good.proofs.reached.parents_of.Given as goal

abbrev pub invariant-loop-number : goal.invariant-loop-number
invariant-loop-number l =
    (get l.parents 1 ≡ None) × ((n : ℕ) → n < l.number → n ≢ 1 → get l.parents n ≡ parent_at l.tree n) × ((n : ℕ) → l.number ≤ n → get l.parents n ≡ None)
