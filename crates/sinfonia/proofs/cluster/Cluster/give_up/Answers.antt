use Rattle.story_laws.specs.Acts.{after_act, GivesUp}
use Rattle.sinfonia.proofs.CallLemmas.{does, node_there}
use Rattle.sinfonia.proofs.cluster.Cluster.give_up.Goals as goal

pub give_up-requires : goal.give_up-requires
give_up-requires g c = node_there g.L.Link.stands c.args.self.now c.requires.known.0 c.requires.known.1 c.args.n c.requires.there

pub returns-clause-does : goal.returns-clause-does
returns-clause-does g c = does g.D.Disk.tells g.D.Disk.history g.D.Disk.health g.L.Link.stands c.args.self.now _ (GivesUp c.args.n) c.requires.known.1.live c.give_up.ensures.geometry c.give_up.ensures.does

pub returns-clause-stands : goal.returns-clause-stands
returns-clause-stands g c = (after_act c.requires.known.0 (GivesUp c.args.n), ((does g.D.Disk.tells g.D.Disk.history g.D.Disk.health g.L.Link.stands c.args.self.now _ (GivesUp c.args.n) c.requires.known.1.live c.give_up.ensures.geometry c.give_up.ensures.does) c.requires.known.0 c.requires.known.1).stands)
