use Rattle.sinfonia.proofs.CallLemmas.{node_there, tells_there}
use Rattle.sinfonia.proofs.cluster.Cluster.state.Goals as goal

pub state-requires : goal.state-requires
state-requires g c = node_there g.L.Link.stands c.args.self.now c.requires.known.0 c.requires.known.1 c.args.n c.requires.there

pub returns : goal.returns
returns g c story stands = tells_there g.L.Link.stands c.args.self.now story stands c.args.n _ c.requires.there c.state.ensures
