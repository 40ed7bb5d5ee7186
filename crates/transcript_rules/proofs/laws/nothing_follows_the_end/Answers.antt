use Rattle.transcript_rules.proofs.LegalLemmas.{ends}
use Rattle.transcript_rules.proofs.laws.nothing_follows_the_end.Goals as goal

pub returns : goal.returns
returns c = ends
