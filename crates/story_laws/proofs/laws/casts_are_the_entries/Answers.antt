use Rattle.story_laws.proofs.CastLemmas.{casts_are_the_entries}
use Rattle.story_laws.proofs.laws.casts_are_the_entries.Goals as goal

pub returns : goal.returns
returns c = casts_are_the_entries
