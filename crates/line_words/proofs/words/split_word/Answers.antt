-- The first space is where the first word ends.
use Rattle.std.proofs.Common.{◌+◌, ◌∙◌, sym}
use Rattle.std.proofs.lemmas.List.{take_rest}
use Rattle.line_words.proofs.WordsLemmas.{words_of-space, words_of-one}
use Rattle.line_words.proofs.words.split_word.Goals as goal

pub returns-in-Some : goal.returns-in-Some
returns-in-Some c =
    rw (take_rest c.args.line.now (c.in-Some.end + 1)) (words_of-space c.args.line.now c.in-Some.end (sym c.space_at.ensures ∙ c.in-Some.is))

pub returns-in-None : goal.returns-in-None
returns-in-None c = words_of-one c.args.line.now (sym c.space_at.ensures ∙ c.in-None.is)
