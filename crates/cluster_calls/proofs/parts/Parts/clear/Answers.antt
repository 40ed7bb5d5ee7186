use Rattle.cluster_calls.proofs.ActLemmas.{clear_acts}
use Rattle.cluster_calls.proofs.parts.Parts.clear.Goals as goal

pub returns-clause-does : goal.returns-clause-does
returns-clause-does g c story known =
    clear_acts g.D.Disk.tells g.D.Disk.history g.D.Disk.health c.args.self.now.geometry c.args.self.now.memories.slots.items c.args.self.now.seats.nodes.items c.clear.new.self.nodes.items
    (g.L.Link.stands c.args.self.now.link) (g.L.Link.stands c.args.self.now.link) c.args.self.now.book c.args.n c.requires story c.clear.ensures known
