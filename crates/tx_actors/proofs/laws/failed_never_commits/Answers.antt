use Rattle.tx_actors.proofs.LawLemmas.{failed_never_commits}
use Rattle.tx_actors.proofs.laws.failed_never_commits.Goals as goal

pub returns : goal.returns
returns c = failed_never_commits
