use Rattle.line_text.proofs.LineLemmas.{lines_apart}
use Rattle.line_text.proofs.laws.lines_have_their_own_spellings.Goals as goal

pub returns : goal.returns
returns c = lines_apart
