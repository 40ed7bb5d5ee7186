use Rattle.nfs_proto.proofs.AnswerLaws.{results_exact}
use Rattle.nfs_proto.proofs.laws.results_are_exact.Goals as goal

pub returns : goal.returns
returns c = results_exact
