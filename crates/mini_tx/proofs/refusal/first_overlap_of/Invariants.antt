use Rattle.std.proofs.Common.{◌≡◌, drop}
use Rattle.mini_tx.specs.Minitransactions.{first_overlap}
use Rattle.mini_tx.proofs.refusal.first_overlap_of.Given as goal

-- what is told of the items that are left is told of all
abbrev pub invariant-loop-item : goal.invariant-loop-item
invariant-loop-item l = record {
  at : l.place ≡ l.item-index;
  told : first_overlap l.items l.place (drop l.item-index l.items) ≡ first_overlap l.items 0 l.items;
}
