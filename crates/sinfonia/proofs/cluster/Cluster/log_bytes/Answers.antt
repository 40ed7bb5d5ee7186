use Rattle.sinfonia.proofs.CallLemmas.{memory_there}
use Rattle.sinfonia.proofs.cluster.Cluster.log_bytes.Goals as goal

pub log_bytes-requires : goal.log_bytes-requires
log_bytes-requires g c = memory_there g.L.Link.stands c.args.self.now c.requires.known.0 c.requires.known.1 c.args.m c.requires.there
