use Rattle.line_text.proofs.LineLemmas.{lines_one_line}
use Rattle.line_text.proofs.laws.lines_are_lines.Goals as goal

pub returns : goal.returns
returns c = lines_one_line
