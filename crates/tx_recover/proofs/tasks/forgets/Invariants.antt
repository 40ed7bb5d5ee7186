use Rattle.std.proofs.Common.{◌≡◌, ◌++◌, drop, filter}
use Rattle.std.specs.List.{flat_map}
use Rattle.tx_recover.specs.Rules.{forgets, is_through}
use Rattle.tx_recover.proofs.tasks.forgets.Given as goal

-- the messages so far, and those that are left
abbrev pub invariant-loop-work : goal.invariant-loop-work
invariant-loop-work l = l.posts ++ flat_map forgets (filter is_through (drop l.work-index l.works)) ≡ flat_map forgets (filter is_through l.works)
