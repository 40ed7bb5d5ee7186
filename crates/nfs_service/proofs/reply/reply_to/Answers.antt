use Rattle.std.proofs.Common.{sym, subst, rules}
use Rattle.line_words.specs.Words.{HasDatagramLength}
use Rattle.nfs_service.proofs.ReplyLemmas.{reply_sized}
use Rattle.nfs_service.proofs.reply.reply_to.Goals as goal

pub write_answer-requires : goal.write_answer-requires
write_answer-requires c = c.requires.told.0

pub returns-clause-exact : goal.returns-clause-exact
returns-clause-exact c = search rules

pub returns-clause-sized : goal.returns-clause-sized
returns-clause-sized c = subst HasDatagramLength (sym (returns-clause-exact c)) (reply_sized c.args.xid c.args.answer.now c.requires.handle c.requires.told)
