use Rattle.std.proofs.Common.{◌≡◌, ◌==◌, ◌&&◌, false, rules, sym, ap, ◌∙◌}
use Rattle.std.proofs.lemmas.Bool.{eq-eqb}
use Rattle.tx_coord.specs.Rules.{is_compare}
use Rattle.tx_coord.proofs.FitLemmas.{compared_there, compared_past}
use Rattle.tx_coord.proofs.fit.names_compare.Goals as goal

pub returns-in-None : goal.returns-in-None
returns-in-None c = compared_past c.args.memory_node c.args.place c.args.items.now c.in-None.ensures.lookup.3

pub returns-then-memory-memory_node : goal.returns-then-memory-memory_node
returns-then-memory-memory_node c =
    c.compares.ensures
    ∙ ap (λ b. b && is_compare c.in-Some.item.now) (sym (eq-eqb _ _ (sym c.memory.ensures ∙ c.if-memory-memory_node.true)))
    ∙ compared_there c.args.memory_node c.args.place c.args.items.now c.in-Some.item.now c.in-Some.ensures.lookup.3.0 c.in-Some.ensures.lookup.1

pub returns-else-memory-memory_node : goal.returns-else-memory-memory_node
returns-else-memory-memory_node c =
    let other : (c.memory.result == c.args.memory_node) ≡ false = search rules in
    other
    ∙ ap (λ b. b && is_compare c.in-Some.item.now) (sym (ap (λ n. n == c.args.memory_node) (sym c.memory.ensures) ∙ other))
    ∙ compared_there c.args.memory_node c.args.place c.args.items.now c.in-Some.item.now c.in-Some.ensures.lookup.3.0 c.in-Some.ensures.lookup.1
