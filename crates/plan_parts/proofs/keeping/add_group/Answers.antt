use Rattle.std.proofs.Common.{◌++◌, ◌∷◌, [], ap, subst, length, ◌<◌, ◌∙◌}
use Rattle.std.specs.Prelude.{nat_eq}
use Rattle.std.specs.List.{position_or_len}
use Rattle.node_cache.specs.declared.entry.Entry.{Entry}
use Rattle.plan_parts.proofs.EntryLemmas.{changed_to, on_ok}
use Rattle.plan_parts.proofs.keeping.add_group.Goals as goal

pub returns-clause-ok : goal.returns-clause-ok
returns-clause-ok c =
    let n = c.args.number in
    let xs = c.args.entries.now in
    let at = c.place_with-at.result in
    let base = c.into_vec-items.ensures ∙ c.replace.ensures.value in
    let exact = c.place_with-at.ensures.exact ∙ ap (λ es. position_or_len (λ (e : Entry). nat_eq n e.number) es) c.as_slice.ensures.value in
    let below = subst (λ es. at < length es) c.as_slice.ensures.value c.place_with-at.ensures.inside in
    on_ok c.extend_groups-pushed.result c.extend_groups-pushed.ensures.ok (λ is. c.from.ensures
    ∙ changed_to n (λ e. record e { groups = e.groups ++ c.args.group ∷ [] }) c.into_vec-items.result.items xs at c.index_mut.result.now c.extend_groups-pushed.new.entry
    base exact below c.index_mut.ensures.value is)
