use Rattle.std.proofs.Common.{◌≡◌, ℕ, ◌+◌, ◌-◌, ◌≤◌, List}
use Rattle.std.specs.FinMap.{len}
use Rattle.fs_rules.specs.Contents.{store}
use Rattle.fs_content.specs.Pieces.{from_on}
use Rattle.fs_content.proofs.using.stored_after.Given as goal

abbrev pub invariant-loop-index : goal.invariant-loop-index
invariant-loop-index l = record {
  exact : (block : ℕ → List ℕ) → l.stored ≡ len (store block (from_on l.first (l.index - l.first)) l.blocks);
  small : l.stored ≤ l.initial.stored + (l.index - l.first);
}
