use Rattle.std.proofs.Common.{◌≡◌, ◌++◌, drop, filter, not}
use Rattle.tx_coord.specs.Rules.{has_granted, participants_of}
use Rattle.tx_coord.proofs.participants.missing_of.Given as goal

-- those so far, and those that are left
abbrev pub invariant-loop-memory : goal.invariant-loop-memory
invariant-loop-memory l =
    l.memories ++ filter (λ m. not (has_granted l.running.grants m)) (drop l.memory-index (participants_of l.running.mini))
    ≡ filter (λ m. not (has_granted l.running.grants m)) (participants_of l.running.mini)
