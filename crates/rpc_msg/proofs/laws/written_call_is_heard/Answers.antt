use Rattle.rpc_msg.proofs.CallLemmas.{written_heard}
use Rattle.rpc_msg.proofs.laws.written_call_is_heard.Goals as goal

pub returns : goal.returns
returns c = written_heard
