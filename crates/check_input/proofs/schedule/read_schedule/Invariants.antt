use Rattle.std.proofs.Common.{◌≡◌}
use Rattle.line_stream.specs.Lines.{lines_of}
use Rattle.check_input.specs.Input.{schedule_from}
use Rattle.check_input.proofs.InputLemmas.{onto_all}
use Rattle.check_input.proofs.schedule.read_schedule.Given as goal

-- what the whole text begins with is what was read, and what the rest begins with behind it
abbrev pub invariant-loop-number : goal.invariant-loop-number
invariant-loop-number l = schedule_from 1 (lines_of l.text) ≡ onto_all l.events (schedule_from l.number (lines_of l.rest))
