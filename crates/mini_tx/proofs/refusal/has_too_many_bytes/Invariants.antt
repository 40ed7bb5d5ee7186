use Rattle.std.proofs.Common.{◌≡◌, ◌+◌, drop}
use Rattle.mini_tx.specs.Minitransactions.{bytes_of_all}
use Rattle.mini_tx.proofs.refusal.has_too_many_bytes.Given as goal

-- what is left is what the items before have not taken
abbrev pub invariant-loop-item : goal.invariant-loop-item
invariant-loop-item l = record {
  counted : l.left + bytes_of_all l.items ≡ 1048576 + bytes_of_all (drop l.item-index l.items);
}
