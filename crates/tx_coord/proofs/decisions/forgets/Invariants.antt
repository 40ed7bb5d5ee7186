use Rattle.std.proofs.Common.{◌≡◌, ◌++◌, drop, filter}
use Rattle.std.specs.List.{flat_map}
use Rattle.tx_coord.specs.Rules.{forget, is_through}
use Rattle.tx_coord.proofs.decisions.forgets.Given as goal

-- the messages so far, and those that are left
abbrev pub invariant-loop-decided : goal.invariant-loop-decided
invariant-loop-decided l = l.posts ++ flat_map forget (filter is_through (drop l.decided-index l.finishing)) ≡ flat_map forget (filter is_through l.finishing)
