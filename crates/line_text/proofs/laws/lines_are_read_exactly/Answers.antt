use Rattle.line_text.proofs.LineLemmas.{lines_read_exactly}
use Rattle.line_text.proofs.laws.lines_are_read_exactly.Goals as goal

pub returns : goal.returns
returns c = lines_read_exactly
