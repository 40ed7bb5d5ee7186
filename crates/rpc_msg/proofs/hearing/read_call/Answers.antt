use Rattle.std.proofs.Common.{arith}
use Rattle.rpc_msg.proofs.CallLemmas.{heard_if_ok, may_if_ok}
use Rattle.rpc_msg.proofs.hearing.read_call.Goals as goal

pub returns-clause-heard : goal.returns-clause-heard
returns-clause-heard c = heard_if_ok c.hear_message.result c.args.bytes.now (λ i. omega (arith, c.type_inv.bytes i)) c.hear_message.ensures

pub returns-clause-may : goal.returns-clause-may
returns-clause-may c = may_if_ok c.hear_message.result c.args.bytes.now (returns-clause-heard c)
