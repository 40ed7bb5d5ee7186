-- What parsing gives is the number that the word spells.
use Rattle.std.proofs.Common.{◌∙◌}
use Rattle.line_words.proofs.NumberLemmas.{number_of-parse}
use Rattle.line_words.proofs.words.u64_of.Goals as goal

pub returns : goal.returns
returns c =
    let plain = c.in_ok-plain_text.ensures.found in
    c.ok.ensures.value ∙ number_of-parse 64 c.args.word.now c.parse.result plain.1 plain.2
    (rw plain.0 at c.parse.ensures.value.0)
