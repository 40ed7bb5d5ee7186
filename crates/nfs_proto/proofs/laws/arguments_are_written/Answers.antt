use Rattle.nfs_proto.proofs.ArgumentLaws.{arguments_written}
use Rattle.nfs_proto.proofs.laws.arguments_are_written.Goals as goal

pub returns : goal.returns
returns c = arguments_written
