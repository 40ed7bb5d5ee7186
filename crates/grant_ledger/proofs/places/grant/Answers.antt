use Rattle.std.proofs.Common.{◌≡◌, ◌==◌, ℕ, true, false, List, length, vec_len, sym, ap, subst, ◌∙◌, arith}
use Rattle.std.proofs.lemmas.Option.{get_or_from_slice_get}
use Rattle.grant_ledger.specs.declared.doubt.Doubt.{Doubt}
use Rattle.grant_ledger.specs.Doubts.{AreAscending, waits_of, without}
use Rattle.grant_ledger.proofs.PlaceLemmas.{IsWithout, last_is, granted_last, granted_more, ascending_set, ascending_removed, removed_set}
use Rattle.grant_ledger.proofs.places.grant.Goals as goal

pub returns-then-is_last-clause-ascending : goal.returns-then-is_last-clause-ascending
returns-then-is_last-clause-ascending c =
    let doubts = c.args.doubts.now.items in
    let now : Doubt = record { id = c.index_mut-doubt.result.now.id; waits = c.take_out.new.waits } in
    subst AreAscending (sym (c.remove.ensures.items ∙ removed_set doubts c.args.at now)) (ascending_removed doubts c.args.at c.requires.ascending)

pub returns-then-is_last-clause-last : goal.returns-then-is_last-clause-last
returns-then-is_last-clause-last c =
    let there = c.requires.there in
    let now : Doubt = record { id = c.index_mut-doubt.result.now.id; waits = c.take_out.new.waits } in
    let own : c.index_mut-doubt.result.now ≡ there.doubt =
    c.index_mut-doubt.ensures.value ∙ get_or_from_slice_get c.args.doubts.now.items c.args.at there.doubt c.index_mut-doubt.result.now there.there in
    let is : IsWithout c.args.doubts.now.items c.args.id c.args.at c.args.memory there now = record {
      same = ap (λ (d : Doubt). d.id) own;
      waits = c.take_out.ensures ∙ ap (λ (d : Doubt). without c.args.memory d.waits.items) own;
    } in
    let long : vec_len now.waits ≡ length now.waits.items = omega (arith, now.waits.ok) in
    c.is_empty-is_last.ensures ∙ ap (λ (n : ℕ). n == 0) long ∙ last_is c.args.doubts.now.items c.args.id c.args.at c.args.memory there now is

pub returns-then-is_last-clause-granted : goal.returns-then-is_last-clause-granted
returns-then-is_last-clause-granted c other =
    let there = c.requires.there in
    let now : Doubt = record { id = c.index_mut-doubt.result.now.id; waits = c.take_out.new.waits } in
    let own : c.index_mut-doubt.result.now ≡ there.doubt =
    c.index_mut-doubt.ensures.value ∙ get_or_from_slice_get c.args.doubts.now.items c.args.at there.doubt c.index_mut-doubt.result.now there.there in
    let is : IsWithout c.args.doubts.now.items c.args.id c.args.at c.args.memory there now = record {
      same = ap (λ (d : Doubt). d.id) own;
      waits = c.take_out.ensures ∙ ap (λ (d : Doubt). without c.args.memory d.waits.items) own;
    } in
    let long : vec_len now.waits ≡ length now.waits.items = omega (arith, now.waits.ok) in
    let empty : (length now.waits.items == 0) ≡ true = sym (c.is_empty-is_last.ensures ∙ ap (λ (n : ℕ). n == 0) long) ∙ c.if-is_last.true in
    ap (λ (ds : List Doubt). waits_of ds other) c.remove.ensures.items
    ∙ granted_last c.args.doubts.now.items c.args.id c.args.at c.args.memory there now c.requires.ascending is empty other

pub returns-else-is_last-clause-ascending : goal.returns-else-is_last-clause-ascending
returns-else-is_last-clause-ascending c =
    let there = c.requires.there in
    let now : Doubt = record { id = c.index_mut-doubt.result.now.id; waits = c.take_out.new.waits } in
    let own : c.index_mut-doubt.result.now ≡ there.doubt =
    c.index_mut-doubt.ensures.value ∙ get_or_from_slice_get c.args.doubts.now.items c.args.at there.doubt c.index_mut-doubt.result.now there.there in
    ascending_set c.args.doubts.now.items c.args.at there.doubt now c.requires.ascending there.there (ap (λ (d : Doubt). d.id) own)

pub returns-else-is_last-clause-last : goal.returns-else-is_last-clause-last
returns-else-is_last-clause-last c =
    let there = c.requires.there in
    let now : Doubt = record { id = c.index_mut-doubt.result.now.id; waits = c.take_out.new.waits } in
    let own : c.index_mut-doubt.result.now ≡ there.doubt =
    c.index_mut-doubt.ensures.value ∙ get_or_from_slice_get c.args.doubts.now.items c.args.at there.doubt c.index_mut-doubt.result.now there.there in
    let is : IsWithout c.args.doubts.now.items c.args.id c.args.at c.args.memory there now = record {
      same = ap (λ (d : Doubt). d.id) own;
      waits = c.take_out.ensures ∙ ap (λ (d : Doubt). without c.args.memory d.waits.items) own;
    } in
    let long : vec_len now.waits ≡ length now.waits.items = omega (arith, now.waits.ok) in
    c.is_empty-is_last.ensures ∙ ap (λ (n : ℕ). n == 0) long ∙ last_is c.args.doubts.now.items c.args.id c.args.at c.args.memory there now is

pub returns-else-is_last-clause-granted : goal.returns-else-is_last-clause-granted
returns-else-is_last-clause-granted c other =
    let there = c.requires.there in
    let now : Doubt = record { id = c.index_mut-doubt.result.now.id; waits = c.take_out.new.waits } in
    let own : c.index_mut-doubt.result.now ≡ there.doubt =
    c.index_mut-doubt.ensures.value ∙ get_or_from_slice_get c.args.doubts.now.items c.args.at there.doubt c.index_mut-doubt.result.now there.there in
    let is : IsWithout c.args.doubts.now.items c.args.id c.args.at c.args.memory there now = record {
      same = ap (λ (d : Doubt). d.id) own;
      waits = c.take_out.ensures ∙ ap (λ (d : Doubt). without c.args.memory d.waits.items) own;
    } in
    let long : vec_len now.waits ≡ length now.waits.items = omega (arith, now.waits.ok) in
    let more : (length now.waits.items == 0) ≡ false = sym (c.is_empty-is_last.ensures ∙ ap (λ (n : ℕ). n == 0) long) ∙ c.if-is_last.false in
    granted_more c.args.doubts.now.items c.args.id c.args.at c.args.memory there now c.requires.ascending is more other
