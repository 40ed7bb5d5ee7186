use Rattle.std.proofs.Common.{◌≡◌, ◌++◌, drop, map}
use Rattle.tx_coord.specs.Rules.{decide}
use Rattle.tx_coord.proofs.decisions.decides_to.Given as goal

-- the messages so far, and those that are left
abbrev pub invariant-loop-memory : goal.invariant-loop-memory
invariant-loop-memory l = l.posts ++ map (decide l.id l.commit) (drop l.memory-index l.memories) ≡ map (decide l.id l.commit) l.memories
