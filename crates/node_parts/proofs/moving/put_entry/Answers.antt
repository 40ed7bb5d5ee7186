use Rattle.std.proofs.Common.{◌≡◌, true, false, sym, ap, ◌∙◌}
use Rattle.std.specs.Prelude.{nat_le}
use Rattle.std.specs.List.{position_or_len}
use Rattle.node_cache.specs.declared.entry.Entry.{Entry}
use Rattle.plan_parts.specs.Entries.{is_number_at}
use Rattle.node_parts.proofs.EntryLemmas.{put_there, put_before, on_ok}
use Rattle.node_parts.proofs.moving.put_entry.Goals as goal

pub returns-then-is_there-clause-ok : goal.returns-then-is_there-clause-ok
returns-then-is_there-clause-ok c =
    let e = c.args.entry in
    let at = c.place_of-at.result in
    let exact = c.place_of-at.ensures.exact ∙ ap (λ es. position_or_len (λ (f : Entry). nat_le e.number f.number) es) c.as_slice.ensures.value in
    let there : is_number_at e.number c.args.entries.now at ≡ true =
    sym (c.is_there.ensures ∙ ap (λ es. is_number_at e.number es at) c.as_slice-2.ensures.value) ∙ c.if-is_there.true in
    c.replace.ensures.after ∙ put_there e c.args.entries.now at exact there

pub returns-else-is_there-clause-ok : goal.returns-else-is_there-clause-ok
returns-else-is_there-clause-ok c =
    let e = c.args.entry in
    let at = c.place_of-at.result in
    let exact = c.place_of-at.ensures.exact ∙ ap (λ es. position_or_len (λ (f : Entry). nat_le e.number f.number) es) c.as_slice.ensures.value in
    let there : is_number_at e.number c.args.entries.now at ≡ false =
    sym (c.is_there.ensures ∙ ap (λ es. is_number_at e.number es at) c.as_slice-2.ensures.value) ∙ c.if-is_there.false in
    on_ok c.insert.result c.insert.ensures.ok (λ is. is ∙ put_before e c.args.entries.now at exact there)
