use Rattle.std.proofs.Common.{◌≡◌, None, replicate}
use Rattle.node_cache.proofs.held.no_maps.Given as goal

abbrev pub invariant-loop : goal.invariant-loop
invariant-loop l = l.maps ≡ replicate l.counter None
