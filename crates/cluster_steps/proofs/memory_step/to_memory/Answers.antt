use Rattle.std.proofs.Common.{sym, ◌∙◌}
use Rattle.cluster_steps.proofs.MemoryStep.{settled_lives, lost_lives}
use Rattle.cluster_steps.proofs.memory_step.to_memory.Goals as goal

pub returns : goal.returns
returns g c = settled_lives g.D.Disk.tells g.D.Disk.history g.D.Disk.health c.args.memories.now.slots.items c.handle.new.self.slots.items _ _ c.args.book.now c.reserve.new.self c.settle.new.book
    c.args.m c.args.from c.args.message.now c.requires.there
    _ c.settle.result c.may_grant-may.result c.in_ok-handled.handled (λ slot at. sym c.if-is_down.false ∙ c.is_down.ensures slot at) c.may_grant-may.ensures
    c.reserve.ensures.history c.reserve.ensures.doubts c.in_ok-handled.ensures.at c.in_ok-handled.ensures.answer c.in_ok-handled.ensures.rests c.settle.ensures

pub returns-then-is_down : goal.returns-then-is_down
returns-then-is_down g c = lost_lives g.D.Disk.tells g.D.Disk.history g.D.Disk.health c.args.memories.now.slots.items _ c.args.book.now c.args.m c.args.from c.args.message.now c.requires.there
    c.without_vote.result (λ slot at. sym c.if-is_down.true ∙ c.is_down.ensures slot at) c.without_vote.ensures
