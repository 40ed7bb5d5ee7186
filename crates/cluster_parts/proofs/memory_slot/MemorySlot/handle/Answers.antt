use Rattle.cluster_parts.proofs.SlotLemmas.{ok_site, ok_rests, refused_site, refused_answers, refused_rests}
use Rattle.cluster_parts.proofs.memory_slot.MemorySlot.handle.Goals as goal

pub returns-in-Ok-clause-site : goal.returns-in-Ok-clause-site
returns-in-Ok-clause-site g c s n k at =
    let now = ok_site g.D.Disk.tells g.D.Disk.history g.D.Disk.health c.args.self.now.node c.handle.new.self c.args.message.now _ c.in-Ok.answer s n c.in-Ok.ensures.handled c.requires.built at.1 at.2 in
    (at.0, now.0, now.1, now.2)

pub returns-in-Ok-clause-rests : goal.returns-in-Ok-clause-rests
returns-in-Ok-clause-rests g c s n k posted p at there same on =
    ok_rests g.D.Disk.tells g.D.Disk.history g.D.Disk.health c.args.self.now.node c.handle.new.self c.args.message.now _ c.in-Ok.answer c.in-Ok.ensures.handled on

pub returns-in-Err : goal.returns-in-Err
returns-in-Err g c = record {
  site = refused_site g.D.Disk.tells g.D.Disk.history g.D.Disk.health c.args.self.now.node c.handle.new.self c.args.message.now _ _ c.in-Err.fault c.fall.new.self c.args.self.now.is_down c.fall.result
      c.in-Err.ensures.handled c.fall.ensures;
  answer = refused_answers g.D.Disk.tells g.D.Disk.history g.D.Disk.health c.args.self.now.node c.handle.new.self c.args.message.now _ _ c.in-Err.fault c.fall.new.self c.args.self.now.is_down c.fall.result
      c.in-Err.ensures.handled c.fall.ensures;
  rests = refused_rests g.D.Disk.tells g.D.Disk.history g.D.Disk.health c.args.self.now.node c.handle.new.self c.args.message.now _ _ c.in-Err.fault c.fall.new.self c.args.self.now.is_down c.fall.result
      c.in-Err.ensures.handled c.fall.ensures;
}
