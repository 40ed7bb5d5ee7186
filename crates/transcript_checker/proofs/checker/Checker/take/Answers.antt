use Rattle.std.proofs.Common.{◌≡◌}
use Rattle.transcript_next.specs.Nexts.{scheduled}
use Rattle.transcript_checker.proofs.checker.Checker.take.Goals as goal

pub returns-in-Refused : goal.returns-in-Refused
returns-in-Refused c o n book stands goes = rw c.in-Refused.is (c.refuse.ensures o n book stands goes)

pub returns-in-End : goal.returns-in-End
returns-in-End c o n book stands goes = rw c.in-End.is (c.end.ensures o n book stands goes)

pub returns-in-Point : goal.returns-in-Point
returns-in-Point c o n book stands goes = rw c.in-Point.is (c.point.ensures o (scheduled c.args.events.now) n book stands goes)

pub returns-in-Reply : goal.returns-in-Reply
returns-in-Reply c o n book stands goes = rw c.in-Reply.is (c.reply.ensures o (scheduled c.args.events.now) n book stands goes)

pub returns-in-Cut : goal.returns-in-Cut
returns-in-Cut c o n book stands goes = rw c.in-Cut.is (c.cut.ensures o (scheduled c.args.events.now) n book stands goes)

pub returns-in-Mounted : goal.returns-in-Mounted
returns-in-Mounted c o n book stands goes = rw c.in-Mounted.is (c.mount.ensures o (scheduled c.args.events.now) n book stands goes)

pub returns-in-Listed : goal.returns-in-Listed
returns-in-Listed c o n book stands goes = rw c.in-Listed.is (c.list.ensures o (scheduled c.args.events.now) n book stands goes)

pub returns-in_default : goal.returns-in_default
returns-in_default c o n book stands goes = c.plain.ensures o (scheduled c.args.events.now) n book stands goes
