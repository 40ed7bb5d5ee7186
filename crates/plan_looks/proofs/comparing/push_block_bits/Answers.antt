use Rattle.std.proofs.Common.{[], ◌++◌, cond, sym, ap, ◌∙◌}
use Rattle.std.proofs.lemmas.List.{append-nil}
use Rattle.plan_rules.specs.Compared.{block_items}
use Rattle.plan_looks.proofs.comparing.push_block_bits.Goals as goal

pub returns-else-has_block_bits : goal.returns-else-has_block_bits
returns-else-has_block_bits c =
    sym (ap (λ b. c.args.items.now ++ cond b (block_items c.args.held.now c.args.memory) []) (sym c.has_block_bits.ensures ∙ c.if-has_block_bits.false) ∙ append-nil c.args.items.now)
