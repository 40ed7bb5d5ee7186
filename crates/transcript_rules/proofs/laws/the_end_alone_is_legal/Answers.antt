use Rattle.transcript_rules.proofs.LegalLemmas.{end_alone}
use Rattle.transcript_rules.proofs.laws.the_end_alone_is_legal.Goals as goal

pub returns : goal.returns
returns c = end_alone
