use Rattle.story_laws.proofs.VoteLemmas.{votes_have_entries}
use Rattle.story_laws.proofs.laws.votes_have_entries.Goals as goal

pub returns : goal.returns
returns c = votes_have_entries
