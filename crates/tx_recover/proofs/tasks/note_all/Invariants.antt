use Rattle.std.proofs.Common.{◌≡◌, ◌++◌, drop, map, take}
use Rattle.tx_recover.specs.Rules.{noted}
use Rattle.tx_recover.proofs.tasks.note_all.Given as goal

-- those before the index are noted, and those from it on are as they were
abbrev pub invariant-loop-work : goal.invariant-loop-work
invariant-loop-work l = l.work-items ≡ map (noted l.from l.id) (take l.work-index l.initial.work-items) ++ drop l.work-index l.initial.work-items
