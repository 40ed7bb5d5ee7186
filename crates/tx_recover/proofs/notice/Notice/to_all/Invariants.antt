use Rattle.std.proofs.Common.{◌≡◌, ◌++◌, drop, map}
use Rattle.tx_recover.specs.Rules.{told}
use Rattle.tx_recover.proofs.notice.Notice.to_all.Given as goal

-- the messages so far, and those that are left
abbrev pub invariant-loop-memory : goal.invariant-loop-memory
invariant-loop-memory l = l.posts ++ map (told l.self) (drop l.memory-index l.memories) ≡ map (told l.self) l.memories
