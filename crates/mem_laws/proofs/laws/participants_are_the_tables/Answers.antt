use Rattle.mem_laws.proofs.PartLemmas.{participants_are_the_tables}
use Rattle.mem_laws.proofs.laws.participants_are_the_tables.Goals as goal

pub returns : goal.returns
returns c = participants_are_the_tables
