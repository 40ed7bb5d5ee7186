use Rattle.story_laws.proofs.BeginningLemmas.{named_was_begun}
use Rattle.story_laws.proofs.laws.what_is_named_was_begun.Goals as goal

pub returns : goal.returns
returns c = named_was_begun
