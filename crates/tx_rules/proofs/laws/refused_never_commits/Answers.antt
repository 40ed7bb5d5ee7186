use Rattle.tx_rules.proofs.LawLemmas.{refused_never_commits}
use Rattle.tx_rules.proofs.laws.refused_never_commits.Goals as goal

pub returns : goal.returns
returns c = refused_never_commits
