use Rattle.std.proofs.Common.{◌≡◌, ◌++◌, drop}
use Rattle.tx_coord.specs.Rules.{gathered}
use Rattle.tx_coord.proofs.gathered.gathered.Given as goal

-- the reads so far, and those that are left
abbrev pub invariant-loop-item : goal.invariant-loop-item
invariant-loop-item l = l.reads ++ gathered l.grants.items (drop l.item-index l.items) ≡ gathered l.initial.grants.items l.items
