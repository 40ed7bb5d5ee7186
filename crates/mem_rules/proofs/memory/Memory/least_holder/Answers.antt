use Rattle.std.proofs.Common.{List, sym, subst, ◌∙◌}
use Rattle.std.specs.List.{All}
use Rattle.mini_tx.specs.declared.range.Range.{Range}
use Rattle.lock_table.specs.Spans.{IsNonempty}
use Rattle.mem_rules.specs.Fit.{size_of}
use Rattle.mem_rules.proofs.HolderLemmas.{items_nonempty}
use Rattle.mem_rules.proofs.memory.Memory.least_holder.Goals as goal

pub least_blocking-requires : goal.least_blocking-requires
least_blocking-requires c =
    subst (λ (rs : List Range). All IsNonempty rs) (sym (c.as_slice.ensures.value ∙ c.in_ok-ranges.ensures))
    (items_nonempty (size_of c.args.self.now.setup) c.args.items.now c.requires)
