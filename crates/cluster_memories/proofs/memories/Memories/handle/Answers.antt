use Rattle.std.proofs.Common.{arith}
use Rattle.cluster_memories.proofs.MemoryLemmas.{there_is, at_after, answer_after, rests_after}
use Rattle.cluster_memories.proofs.memories.Memories.handle.Goals as goal

pub returns-clause-at : goal.returns-clause-at
returns-clause-at g c =
    at_after g.D.Disk.tells g.D.Disk.history g.D.Disk.health c.args.self.now.slots.items c.args.m c.index_mut-slot.result.now c.handle.new.self
    (there_is c.args.self.now.slots.items c.args.m c.index_mut-slot.result.now c.requires.there c.index_mut-slot.ensures.value) c.args.message.now _ c.handle.result c.handle.ensures.site

pub returns-clause-answer : goal.returns-clause-answer
returns-clause-answer g c =
    answer_after g.D.Disk.tells g.D.Disk.history g.D.Disk.health c.args.self.now.slots.items c.args.m c.index_mut-slot.result.now c.handle.new.self
    (there_is c.args.self.now.slots.items c.args.m c.index_mut-slot.result.now c.requires.there c.index_mut-slot.ensures.value) c.args.message.now _ c.handle.result c.handle.ensures.answer

pub returns-clause-rests : goal.returns-clause-rests
returns-clause-rests g c =
    rests_after g.D.Disk.tells g.D.Disk.history g.D.Disk.health c.args.self.now.slots.items c.args.m c.index_mut-slot.result.now c.handle.new.self
    (there_is c.args.self.now.slots.items c.args.m c.index_mut-slot.result.now c.requires.there c.index_mut-slot.ensures.value) c.args.message.now _ c.handle.result c.handle.ensures.rests
