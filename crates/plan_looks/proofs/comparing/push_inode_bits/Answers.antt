use Rattle.std.proofs.Common.{[], ◌++◌, cond, sym, ap, ◌∙◌}
use Rattle.std.proofs.lemmas.List.{append-nil}
use Rattle.plan_rules.specs.Compared.{inode_items}
use Rattle.plan_looks.proofs.comparing.push_inode_bits.Goals as goal

pub returns-else-has_inode_bits : goal.returns-else-has_inode_bits
returns-else-has_inode_bits c =
    sym (ap (λ b. c.args.items.now ++ cond b (inode_items c.args.held.now c.args.memory) []) (sym c.has_inode_bits.ensures ∙ c.if-has_inode_bits.false) ∙ append-nil c.args.items.now)
