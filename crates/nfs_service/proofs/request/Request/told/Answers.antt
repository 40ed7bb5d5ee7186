use Rattle.std.proofs.Common.{sym, ap, subst, ◌∙◌}
use Rattle.rpc_msg.specs.Messages.{accepted}
use Rattle.line_words.specs.Words.{HasDatagramLength}
use Rattle.nfs_service.proofs.ReplyLemmas.{words_sized}
use Rattle.nfs_service.proofs.request.Request.told.Goals as goal

pub returns-clause-sized : goal.returns-clause-sized
returns-clause-sized c numbers few is =
    subst HasDatagramLength (sym (c.from.ensures ∙ c.in_ok-write_reply.ensures {u = tt} ∙ ap (accepted c.args.xid) is)) (words_sized c.args.xid numbers few)
