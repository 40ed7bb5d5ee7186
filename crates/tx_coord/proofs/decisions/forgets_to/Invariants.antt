use Rattle.std.proofs.Common.{◌≡◌, ◌++◌, drop, map}
use Rattle.tx_coord.specs.Rules.{forget_at}
use Rattle.tx_coord.proofs.decisions.forgets_to.Given as goal

-- the messages so far, and those that are left
abbrev pub invariant-loop-memory : goal.invariant-loop-memory
invariant-loop-memory l = l.posts ++ map (forget_at l.id) (drop l.memory-index l.decided.participants) ≡ map (forget_at l.id) l.decided.participants
