use Rattle.std.proofs.Common.{◌≡◌, drop, filter, length, not}
use Rattle.tx_coord.specs.Rules.{has_granted, missing, participants_of}
use Rattle.tx_coord.proofs.votes.is_complete.Given as goal

-- no vote is missing so far
abbrev pub invariant-loop-memory : goal.invariant-loop-memory
invariant-loop-memory l =
    length (filter (λ m. not (has_granted l.running.grants m)) (drop l.memory-index (participants_of l.running.mini))) ≡ length (missing l.running)
