use Rattle.sinfonia.proofs.CallLemmas.{idle_told}
use Rattle.sinfonia.proofs.cluster.Cluster.is_idle.Goals as goal

pub returns-in-Idle : goal.returns-in-Idle
returns-in-Idle g c holds story stands = idle_told g.L.Link.stands c.args.self.now story stands c.args.n _ c.requires.there c.state.ensures c.in-Idle.is
