use Rattle.std.proofs.Common.{◌≡◌, drop}
use Rattle.mini_tx.specs.Minitransactions.{first_outside}
use Rattle.mini_tx.proofs.refusal.first_outside_of.Given as goal

-- what is told of the items that are left is told of all
abbrev pub invariant-loop-item : goal.invariant-loop-item
invariant-loop-item l = record {
  at : l.place ≡ l.item-index;
  told : first_outside l.fn.memories l.fn.size l.place (drop l.item-index l.items) ≡ first_outside l.fn.memories l.fn.size 0 l.items;
}
