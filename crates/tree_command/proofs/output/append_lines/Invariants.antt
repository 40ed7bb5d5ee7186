-- The lines so far stand behind the text.
use Rattle.std.proofs.Common.{◌≡◌, ◌++◌, take}
use Rattle.tree_command.specs.Writing.{text_of}
use Rattle.tree_command.proofs.output.append_lines.Given as goal

abbrev pub invariant-loop-line : goal.invariant-loop-line
invariant-loop-line l = l.text.items ≡ l.initial.text.items ++ text_of (take l.line-index l.lines)
