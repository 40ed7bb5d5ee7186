use Rattle.std.proofs.Common.{◌≡◌, ◌++◌, ◌≤◌, drop}
use Rattle.plan_forms.specs.Forms.{joined_from}
use Rattle.plan_forms.proofs.joining.joined.Given as goal

-- what was joined so far, and what the rest adds
abbrev pub invariant-loop-piece : goal.invariant-loop-piece
invariant-loop-piece l = record {
  joined : joined_from l.reads 0 l.pieces ≡ l.bytes.items ++ joined_from l.reads l.taken (drop l.piece-index l.pieces);
  few : l.taken ≤ l.piece-index;
}
