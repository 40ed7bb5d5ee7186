use Rattle.std.proofs.Common.{rules, not}
use Rattle.std.proofs.lemmas.Fn.{filter_same}
use Rattle.mini_tx.specs.declared.actor.Actor.{Actor}
use Rattle.transcript_rules.specs.Book.{is_actor}
use Rattle.transcript_facts.proofs.downs.keep_others.Goals as goal

pub returns : goal.returns
returns c = filter_same _ (λ (a : Actor). not (is_actor c.args.who a)) _ (λ x b q called. search rules) _ _ c.retain.ensures.filtered
