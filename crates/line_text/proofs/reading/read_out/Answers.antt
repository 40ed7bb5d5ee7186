-- What was read is spelled so, by the law of the grammar.
use Rattle.line_text.specs.Reading.{line_of}
use Rattle.line_text.proofs.LineLemmas.{line_answered}
use Rattle.line_text.proofs.reading.read_out.Goals as goal

pub returns-clause-spelled : goal.returns-clause-spelled
unfolding line_of
returns-clause-spelled c = line_answered c.line_of.result c.args.text.now c.line_of.ensures
