use Rattle.std.proofs.Common.{◌≡◌}
use Rattle.node_rules.specs.End.{files_after}
use Rattle.node_parts.proofs.caching.put_files.Given as goal

-- what the entries that are left make of the cache is what all of them make of it
abbrev pub invariant-loop-entry : goal.invariant-loop-entry
invariant-loop-entry l = record {
  files : files_after l.changed l.entry-iterator.rest.items l.cache.files ≡ files_after l.fn.changed l.fn.entries l.fn.cache.files;
  maps : l.cache.maps ≡ l.fn.cache.maps;
  changed : l.changed ≡ l.fn.changed;
}
