use Rattle.std.proofs.Common.{◌+◌, List, sym, ap, ◌∙◌, arith}
use Rattle.line_text.specs.declared.line.Line.{Line}
use Rattle.line_stream.specs.Lines.{lines_of}
use Rattle.check_input.specs.Input.{lines_from}
use Rattle.check_input.proofs.InputLemmas.{behind_lines, none_before, lines_end, line_refused, line_read}
use Rattle.check_input.proofs.transcript.read_transcript.Goals as goal

pub loop-line-init : goal.loop-line-init
loop-line-init c =
    let none = none_before (lines_from c.args.first (lines_of c.args.text.now)) in
    (none ∙ ap (λ (ls : List Line). behind_lines ls (lines_from c.args.first (lines_of c.args.text.now))) (sym c.new-lines.ensures), omega arith)

pub returns-in_default-2 : goal.returns-in_default-2
returns-in_default-2 c =
    line_refused _ c.loop-line.lines c.loop-line.number c.in-Some.line.now (lines_of c.loop-line.rest.now) (lines_of c.in-Some.behind.now) c.loop-line.invariant.0
    (c.in-Some.ensures {u = tt}).some (sym (c.in_ok-line.ensures {u = tt}) ∙ c.in_default-2.is)

pub loop-line-preserved : goal.loop-line-preserved
loop-line-preserved c =
    let read = line_read _ c.loop-line.lines c.in-Some-2.line c.loop-line.number c.in-Some.line.now (lines_of c.loop-line.rest.now) (lines_of c.in-Some.behind.now) c.loop-line.invariant.0
    (c.in-Some.ensures {u = tt}).some (sym (c.in_ok-line.ensures {u = tt}) ∙ c.in-Some-2.is) in (
      read ∙ ap (λ (ls : List Line). behind_lines ls (lines_from (c.loop-line.number + 1) (lines_of c.in-Some.behind.now))) (sym (c.in_ok-push.ensures {u = tt}).ok),
      omega (arith, c.loop-line.invariant.1, (c.in-Some.ensures {u = tt}).shorter),
    )

pub returns : goal.returns
returns c = lines_end _ c.loop-line.lines c.loop-line.number (lines_of c.loop-line.rest.now) c.loop-line.invariant.0 (c.in_default.ensures {u = tt}).none
