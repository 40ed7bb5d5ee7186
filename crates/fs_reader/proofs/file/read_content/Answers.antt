use Rattle.std.proofs.Common.{sym, ◌∙◌, arith}
use Rattle.std.proofs.lemmas.Bool.{true≢false}
use Rattle.fs_reader.proofs.file.read_content.Goals as goal

pub returns-else-has_few-clause-none : goal.returns-else-has_few-clause-none
returns-else-has_few-clause-none c = λ _ d content fits marks.
    true≢false (sym (c.has_few.ensures.1 (omega (arith, content.few, fits.chains))) ∙ c.if-has_few.false)
