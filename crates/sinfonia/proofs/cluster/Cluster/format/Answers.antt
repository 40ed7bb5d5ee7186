use Rattle.std.proofs.Common.{refl}
use Rattle.cluster_memories.specs.Memories.{slots_in}
use Rattle.cluster_seats.specs.Seats.{nodes_in}
use Rattle.sinfonia.proofs.FirstLemmas.{parts_rest, parts_stand}
use Rattle.sinfonia.proofs.cluster.Cluster.format.Goals as goal

pub returns-in-Ok-format_memories-clause-stands : goal.returns-in-Ok-format_memories-clause-stands
returns-in-Ok-format_memories-clause-stands g c = record {
  live = refl;
  parts = parts_stand g.D.Disk.tells g.D.Disk.history g.D.Disk.health g.L.Link.stands c.new-in-Ok-format_memories-2.result c.args.geometry (g.H.Shelf.tells c.args.shelf.now)
      (slots_in c.in-Ok-format_memories.memories) c.new-in-Ok-format_memories-2.ensures.memories c.new-in-Ok-format_memories-2.ensures.geometry c.in-Ok-format_memories.ensures.fresh
      c.requires.geometry c.in-Ok-format_memories.ensures.many (nodes_in c.in-Ok.seats) c.new.result c.new-in-Ok-format_memories.result c.args.link
      c.new-in-Ok-format_memories-2.ensures.nodes c.in-Ok.ensures c.new-in-Ok-format_memories-2.ensures.book c.new.ensures.history c.new.ensures.doubts
      c.new-in-Ok-format_memories-2.ensures.link c.new-in-Ok-format_memories.ensures.link c.new-in-Ok-format_memories.ensures.count c.requires.link;
}

pub returns-in-Ok-format_memories-clause-rests : goal.returns-in-Ok-format_memories-clause-rests
returns-in-Ok-format_memories-clause-rests g c =
    parts_rest g.D.Disk.tells g.D.Disk.history g.D.Disk.health g.L.Link.stands c.new-in-Ok-format_memories-2.result c.args.geometry (g.H.Shelf.tells c.args.shelf.now)
    (slots_in c.in-Ok-format_memories.memories) c.new-in-Ok-format_memories-2.ensures.memories c.new-in-Ok-format_memories-2.ensures.geometry c.in-Ok-format_memories.ensures.fresh
