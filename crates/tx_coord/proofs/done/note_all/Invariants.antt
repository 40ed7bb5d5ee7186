use Rattle.std.proofs.Common.{◌≡◌, ◌++◌, drop, map, take}
use Rattle.tx_coord.specs.Rules.{noted}
use Rattle.tx_coord.proofs.done.note_all.Given as goal

-- those before the index are noted, and those from it on are as they were
abbrev pub invariant-loop-decided : goal.invariant-loop-decided
invariant-loop-decided l =
    l.decided-items
    ≡ map (noted l.from l.id) (take l.decided-index l.initial.decided-items) ++ drop l.decided-index l.initial.decided-items
