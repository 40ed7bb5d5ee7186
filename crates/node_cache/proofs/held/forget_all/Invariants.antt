use Rattle.std.proofs.Common.{◌≡◌, None, length, take, replicate}
use Rattle.node_cache.proofs.held.forget_all.Given as goal

abbrev pub invariant-loop-memory : goal.invariant-loop-memory
invariant-loop-memory l = (length l.maps ≡ length l.initial.maps) × (take l.memory l.maps ≡ replicate l.memory None)
