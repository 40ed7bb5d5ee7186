use Rattle.nfs_proto.proofs.AnswerLaws.{results_written}
use Rattle.nfs_proto.proofs.laws.results_are_written.Goals as goal

pub returns : goal.returns
returns c = results_written
