use Rattle.coord_laws.proofs.ListLemmas.{participants_are}
use Rattle.coord_laws.proofs.laws.participants_are_the_tables.Goals as goal

pub returns : goal.returns
returns c = participants_are
