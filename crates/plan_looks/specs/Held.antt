-- What of a work set is looked at.
use Rattle.std.specs.Prelude.{ℕ, ◌==◌, find, Option, option_and_then}
use Rattle.node_cache.specs.declared.entry.HeldGroup.{HeldGroup}
use Rattle.node_cache.specs.declared.held.Held.{Held}
use Rattle.node_cache.specs.Cached.{held_of}

-- a group of slots of a directory
abbrev pub group_in : Held → ℕ → ℕ → Option HeldGroup
group_in held n g = option_and_then (λ e. find (λ s. s.group == g) e.groups) (held_of n held.entries)
