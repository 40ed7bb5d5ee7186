use Rattle.std.proofs.Common.{◌≡◌, ◌++◌, drop}
use Rattle.std.specs.List.{flat_map}
use Rattle.tx_recover.specs.Rules.{again}
use Rattle.tx_recover.proofs.tasks.again_all.Given as goal

-- the messages so far, and those that are left
abbrev pub invariant-loop-work : goal.invariant-loop-work
invariant-loop-work l = l.posts ++ flat_map again (drop l.work-index l.works) ≡ flat_map again l.works
