-- The words so far stand at the end.
use Rattle.std.proofs.Common.{◌≡◌, ◌++◌, map, take}
use Rattle.line_words.specs.Words.{text_of_words}
use Rattle.line_words.specs.Writing.{text_of}
use Rattle.line_words.proofs.writing.push_words.Given as goal

abbrev pub invariant-loop-i : goal.invariant-loop-i
invariant-loop-i l = l.out.items ≡ l.initial.out.items ++ text_of_words (map text_of (take l.i l.words))
