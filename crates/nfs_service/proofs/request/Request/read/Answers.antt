use Rattle.std.proofs.Common.{subst}
use Rattle.rpc_msg.specs.declared.heard.Heard.{Heard}
use Rattle.rpc_msg.specs.Hearing.{outcome}
use Rattle.rpc_msg.specs.Heard.{AsTheyAre}
use Rattle.rpc_msg.proofs.RefusalLemmas.{IsShort, short_heard}
use Rattle.nfs_service.proofs.ReplyLemmas.{refusal_sized}
use Rattle.nfs_service.proofs.request.Request.read.Goals as goal

pub returns-in-Refuse-clause-sized : goal.returns-in-Refuse-clause-sized
returns-in-Refuse-clause-sized c =
    refusal_sized c.in-Refuse.reply
    (subst (λ (h : Heard). IsShort (outcome h)) c.in-Refuse.is (short_heard AsTheyAre c.args.bytes.now _ ((c.in_ok-call.ensures {u = tt}).heard)))
