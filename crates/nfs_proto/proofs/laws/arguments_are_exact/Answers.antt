use Rattle.nfs_proto.proofs.ArgumentLaws.{arguments_exact}
use Rattle.nfs_proto.proofs.laws.arguments_are_exact.Goals as goal

pub returns : goal.returns
returns c = arguments_exact
