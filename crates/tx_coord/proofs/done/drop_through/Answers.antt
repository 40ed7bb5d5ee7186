use Rattle.std.proofs.Common.{rules, not}
use Rattle.std.proofs.lemmas.Fn.{filter_same}
use Rattle.tx_coord.specs.declared.finishing.Finishing.{Finishing}
use Rattle.tx_coord.specs.Rules.{is_through}
use Rattle.tx_coord.proofs.done.drop_through.Goals as goal

pub returns : goal.returns
returns c = filter_same _ (λ (f : Finishing). not (is_through f)) _ (λ x b q called. search rules) _ _ c.retain.ensures.filtered
