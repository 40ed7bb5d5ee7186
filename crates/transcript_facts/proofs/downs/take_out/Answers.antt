use Rattle.std.proofs.Common.{◌∙◌}
use Rattle.transcript_facts.proofs.FactLemmas.{others_left}
use Rattle.transcript_facts.proofs.downs.take_out.Goals as goal

pub returns : goal.returns
returns c = c.keep_others.ensures ∙ others_left c.args.who c.args.actors.now.items
