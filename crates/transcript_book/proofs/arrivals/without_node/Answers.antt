use Rattle.std.proofs.Common.{rules, not}
use Rattle.std.specs.Prelude.{◌==◌}
use Rattle.std.proofs.lemmas.Fn.{filter_same}
use Rattle.transcript_book.specs.declared.open.Open.{Open}
use Rattle.transcript_book.proofs.arrivals.without_node.Goals as goal

pub returns : goal.returns
returns c = filter_same _ (λ (o : Open). not (o.node == c.args.node)) _ (λ x b q called. search rules) _ _ c.retain.ensures.filtered
