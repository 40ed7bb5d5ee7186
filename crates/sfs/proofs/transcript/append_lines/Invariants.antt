use Rattle.std.proofs.Common.{◌≡◌, ◌++◌, take}
use Rattle.sfs.specs.Legal.{text_of}
use Rattle.sfs.proofs.transcript.append_lines.Given as goal

abbrev pub invariant-loop-line : goal.invariant-loop-line
invariant-loop-line l = l.text.items ≡ l.initial.text.items ++ text_of (take l.line-index l.lines)
