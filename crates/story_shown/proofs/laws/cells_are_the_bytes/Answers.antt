use Rattle.story_shown.proofs.FitLemmas.{cells_are_the_bytes}
use Rattle.story_shown.proofs.laws.cells_are_the_bytes.Goals as goal

pub returns : goal.returns
returns c = cells_are_the_bytes
