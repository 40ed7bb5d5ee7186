use Rattle.std.proofs.Common.{◌++◌, Ok, subst}
use Rattle.std.proofs.lemmas.Result.{err_from_is_err_and}
use Rattle.line_stream.specs.declared.found.Found.{Found}
use Rattle.line_stream.specs.LineReader.{Finds, TakesAll}
use Rattle.line_stream.proofs.ScheduleLemmas.{read_more, read_last, read_end, read_too_long, line_stopped}
use Rattle.line_stream.proofs.schedule_reader.ScheduleReader.next_line.Goals as goal

pub returns-in_err-next_line-clause-reads : goal.returns-in_err-next_line-clause-reads
returns-in_err-next_line-clause-reads g c before done read =
    let p = err_from_is_err_and c.from_residual.result c.from_residual.ensures.1 in
    let f = (c.in_err-next_line.ensures {u = tt}).found in
    rw (p.1, p.2) (line_stopped before (g.S.Source.left c.args.source.now) (g.S.Source.left c.next_line.new.source) done c.args.self.now (record { lines = c.next_line.new.self; ended = c.args.self.now.ended }) c.next_line.new.self f.0 (TakesAll (g.S.Source.left c.args.source.now) f.0) c.in_err-next_line.field-0.0 read f.1 c.if-self.false f.2)

pub returns-in-Line-clause-reads : goal.returns-in-Line-clause-reads
returns-in-Line-clause-reads g c before done read =
    let f = (c.in_ok-next_line.ensures {u = tt}).found in
    read_more before (g.S.Source.left c.args.source.now) (g.S.Source.left c.next_line.new.source) done c.args.self.now c.next_line.new.self f.0 read f.1 c.if-self.false
    (subst (λ (r : Found). Finds (c.args.self.now.lines.pending ++ f.0) c.next_line.new.self (TakesAll (g.S.Source.left c.args.source.now) f.0) (Ok r)) c.in-Line.is f.2)

pub returns-in-Last-clause-reads : goal.returns-in-Last-clause-reads
returns-in-Last-clause-reads g c before done read =
    let f = (c.in_ok-next_line.ensures {u = tt}).found in
    let found = subst (λ (r : Found). Finds (c.args.self.now.lines.pending ++ f.0) c.next_line.new.self (TakesAll (g.S.Source.left c.args.source.now) f.0) (Ok r)) c.in-Last.is f.2 in
    read_last before (g.S.Source.left c.args.source.now) (g.S.Source.left c.next_line.new.source) done c.args.self.now c.next_line.new.self f.0 read f.1 c.if-self.false
    found.0 found.1 found.2

pub returns-in-End-clause-reads : goal.returns-in-End-clause-reads
returns-in-End-clause-reads g c before done read =
    let f = (c.in_ok-next_line.ensures {u = tt}).found in
    let found = subst (λ (r : Found). Finds (c.args.self.now.lines.pending ++ f.0) c.next_line.new.self (TakesAll (g.S.Source.left c.args.source.now) f.0) (Ok r)) c.in-End.is f.2 in
    read_end before (g.S.Source.left c.args.source.now) (g.S.Source.left c.next_line.new.source) done c.args.self.now c.next_line.new.self f.0 read f.1 c.if-self.false found.0 found.1

pub returns-in-TooLong-clause-reads : goal.returns-in-TooLong-clause-reads
returns-in-TooLong-clause-reads g c before done read =
    let f = (c.in_ok-next_line.ensures {u = tt}).found in
    read_too_long before (g.S.Source.left c.args.source.now) (g.S.Source.left c.next_line.new.source) done c.args.self.now c.next_line.new.self f.0 read f.1 c.if-self.false
    (subst (λ (r : Found). Finds (c.args.self.now.lines.pending ++ f.0) c.next_line.new.self (TakesAll (g.S.Source.left c.args.source.now) f.0) (Ok r)) c.in-TooLong.is f.2)
