use Rattle.std.proofs.Common.{◌≡◌, ◌++◌, drop, map}
use Rattle.tx_coord.specs.Rules.{prepare}
use Rattle.tx_coord.proofs.participants.prepares_to.Given as goal

-- the messages so far, and those that are left
abbrev pub invariant-loop-memory : goal.invariant-loop-memory
invariant-loop-memory l = l.posts ++ map (prepare l.running.id l.running.mini) (drop l.memory-index l.memories) ≡ map (prepare l.running.id l.running.mini) l.memories
