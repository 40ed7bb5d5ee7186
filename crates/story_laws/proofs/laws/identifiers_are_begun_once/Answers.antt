use Rattle.story_laws.proofs.IdentifierLemmas.{identifiers_begun_once}
use Rattle.story_laws.proofs.laws.identifiers_are_begun_once.Goals as goal

pub returns : goal.returns
returns c = identifiers_begun_once
