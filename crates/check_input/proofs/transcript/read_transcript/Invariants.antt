use Rattle.std.proofs.Common.{◌≡◌, ◌+◌, ◌≤◌, length}
use Rattle.line_stream.specs.Lines.{lines_of}
use Rattle.check_input.specs.Input.{lines_from}
use Rattle.check_input.proofs.InputLemmas.{behind_lines}
use Rattle.check_input.proofs.transcript.read_transcript.Given as goal

-- the lines of the whole text are those that were read, and those of the rest behind them; each has a byte at least
abbrev pub invariant-loop-line : goal.invariant-loop-line
invariant-loop-line l =
    (lines_from l.first (lines_of l.text) ≡ behind_lines l.lines (lines_from l.number (lines_of l.rest)))
    × (l.number + length l.rest ≤ l.first + length l.text)

-- each turn takes a line away
abbrev pub decreases-loop-line : goal.decreases-loop-line
decreases-loop-line l = length l.rest
