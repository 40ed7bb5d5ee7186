use Rattle.std.proofs.Common.{rules, not}
use Rattle.std.proofs.lemmas.Fn.{filter_same}
use Rattle.tx_recover.specs.declared.work.Work.{Work}
use Rattle.tx_recover.specs.Rules.{is_through}
use Rattle.tx_recover.proofs.tasks.drop_through.Goals as goal

pub returns : goal.returns
returns c = filter_same _ (λ (w : Work). not (is_through w)) _ (λ x b q called. search rules) _ _ c.retain.ensures.filtered
