use Rattle.story_laws.proofs.SiteLemmas.{sites_are_the_logs}
use Rattle.story_laws.proofs.laws.sites_are_the_logs.Goals as goal

pub returns : goal.returns
returns c = sites_are_the_logs
