-- A line has a word, so words are left where a part of the line is.
use Rattle.std.proofs.Common.{refl}
use Rattle.line_words.proofs.WordsLemmas.{at_end-left}
use Rattle.line_words.proofs.words.Words.end.Goals as goal

pub returns-in-Some : goal.returns-in-Some
returns-in-Some g c = (refl, rw (← c.self.view_is) (at_end-left c.args.value c.self.inside.rest c.in-Some.field-0 c.in-Some.is))
