use Rattle.std.proofs.Common.{◌≡◌, drop}
use Rattle.mini_tx.specs.Minitransactions.{overlaps_any}
use Rattle.mini_tx.proofs.refusal.overlaps_any_of.Given as goal

-- what is told of the items that are left is told of all
abbrev pub invariant-loop-other : goal.invariant-loop-other
invariant-loop-other l = overlaps_any l.item (drop l.other-index l.others) ≡ overlaps_any l.item l.others
