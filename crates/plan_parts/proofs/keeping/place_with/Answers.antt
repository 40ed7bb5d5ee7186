use Rattle.std.proofs.Common.{Option, refl, sym, subst, ◌∙◌}
use Rattle.std.specs.Prelude.{ℕ, nat_eq, IsSome}
use Rattle.node_cache.specs.declared.entry.Entry.{Entry}
use Rattle.plan_parts.proofs.EntryLemmas.{there_is}
use Rattle.plan_parts.proofs.keeping.place_with.Goals as goal

pub unwrap-requires : goal.unwrap-requires
unwrap-requires c =
    subst (λ (o : Option ℕ). IsSome o) (sym (c.first_of.ensures ∙ there_is (λ (e : Entry). nat_eq c.args.number e.number) c.args.entries.now c.requires)) refl
