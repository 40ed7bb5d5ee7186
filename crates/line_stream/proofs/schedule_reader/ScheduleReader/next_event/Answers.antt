use Rattle.std.proofs.Common.{Ok, Bool, subst}
use Rattle.std.proofs.lemmas.Result.{err_from_is_err_and}
use Rattle.line_stream.specs.ScheduleReader.{ReadsLine}
use Rattle.line_stream.proofs.ScheduleLemmas.{event_stopped, event_read}
use Rattle.line_stream.proofs.schedule_reader.ScheduleReader.next_event.Goals as goal

pub returns-in_err-next_line-clause-reads : goal.returns-in_err-next_line-clause-reads
returns-in_err-next_line-clause-reads g c before done read =
    let p = err_from_is_err_and c.from_residual.result c.from_residual.ensures.1 in
    rw (p.1, p.2) (event_stopped before (g.S.Source.left c.next_line.new.source) done c.next_line.new.self c.next_line.new.self c.in_err-next_line.field-0.0 ((c.in_err-next_line.ensures {u = tt}).reads before done read))

pub returns-then-not-branch-clause-reads : goal.returns-then-not-branch-clause-reads
returns-then-not-branch-clause-reads g c before done read =
    subst (λ (b : Bool). ReadsLine before (g.S.Source.left c.next_line.new.source) done c.next_line.new.self (Ok b)) c.if-not-branch.true ((c.in_ok-next_line.ensures {u = tt}).reads before done read)

pub returns-clause-reads : goal.returns-clause-reads
returns-clause-reads g c before done read =
    event_read before (g.S.Source.left c.next_line.new.source) done c.next_line.new.self c.in_ok-event.field-0
    (subst (λ (b : Bool). ReadsLine before (g.S.Source.left c.next_line.new.source) done c.next_line.new.self (Ok b)) c.if-not-branch.false ((c.in_ok-next_line.ensures {u = tt}).reads before done read))
    (c.in_ok-event.ensures {u = tt})
