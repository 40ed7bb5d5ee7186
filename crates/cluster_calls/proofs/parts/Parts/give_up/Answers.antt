use Rattle.cluster_calls.proofs.ActLemmas.{give_up_acts}
use Rattle.cluster_calls.proofs.parts.Parts.give_up.Goals as goal

pub returns-clause-does : goal.returns-clause-does
returns-clause-does g c story known =
    give_up_acts g.D.Disk.tells g.D.Disk.history g.D.Disk.health c.args.self.now.geometry c.args.self.now.memories.slots.items c.args.self.now.seats.nodes.items c.give_up.new.self.nodes.items
    (g.L.Link.stands c.args.self.now.link) (g.L.Link.stands c.args.self.now.link) c.args.self.now.book c.args.n c.requires story c.give_up.ensures known
