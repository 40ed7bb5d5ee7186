use Rattle.rpc_msg.proofs.HeardLemmas.{told_heard, one_heard}
use Rattle.rpc_msg.proofs.laws.heard_is_one.Goals as goal

pub returns-clause-heard : goal.returns-clause-heard
returns-clause-heard g c = told_heard g.A.Arguments.begins g.A.Arguments.read_of g.A.Arguments.grammar

pub returns-clause-one : goal.returns-clause-one
returns-clause-one g c = one_heard g.A.Arguments.begins g.A.Arguments.read_of g.A.Arguments.grammar
