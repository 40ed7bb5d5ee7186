use Rattle.transcript_rules.proofs.LegalLemmas.{prefixes}
use Rattle.transcript_rules.proofs.laws.prefixes_are_legal.Goals as goal

pub returns : goal.returns
returns c = prefixes
