use Rattle.plan_keep.specs.Links.{AreSlotsRead}
use Rattle.plan_keep.proofs.groups.read_group.Given as goal

-- the slots of the blocks so far
abbrev pub invariant-loop-index : goal.invariant-loop-index
invariant-loop-index l = AreSlotsRead l.held.geometry l.reads l.index l.slots
