use Rattle.std.proofs.Common.{◌≡◌, ◌+◌, ◌≤◌, length}
use Rattle.node_rules.specs.End.{maps_after}
use Rattle.node_parts.proofs.caching.put_maps.Given as goal

-- what the maps that are left make of the cache is what all of them make of it
abbrev pub invariant-loop-map : goal.invariant-loop-map
invariant-loop-map l = record {
  maps : maps_after l.written l.memory l.map-iterator.rest.items l.cache.maps ≡ maps_after l.fn.written 0 l.fn.maps l.fn.cache.maps;
  files : l.cache.files ≡ l.fn.cache.files;
  few : l.memory + length l.map-iterator.rest.items ≤ 8;
  written : l.written ≡ l.fn.written;
}
