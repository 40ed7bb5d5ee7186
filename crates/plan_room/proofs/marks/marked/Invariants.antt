use Rattle.std.proofs.Common.{take}
use Rattle.plan_room.specs.Marks.{AreMarked}
use Rattle.plan_room.proofs.marks.marked.Given as goal

-- those before the index are marked
abbrev pub invariant-loop-place : goal.invariant-loop-place
invariant-loop-place l = AreMarked l.memory (take l.place-index l.places) l.on l.bits l.map.items
