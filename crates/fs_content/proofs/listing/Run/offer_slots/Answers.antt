use Rattle.std.proofs.Common.{List, [], Option, ◌≡◌, ◌+◌, ◌<◌, ◌∷◌, ℕ, length, drop, get_or, sym, ap, subst, ◌∙◌, arith}
use Rattle.std.proofs.lemmas.List.{drop_more, drop_all}
use Rattle.fs_rules.specs.declared.entry.Entry.{Entry}
use Rattle.fs_rules.specs.Slots.{entries_behind, entries_from}
use Rattle.fs_content.specs.declared.listing.Run.{Run}
use Rattle.fs_content.specs.Listing.{all_offered}
use Rattle.fs_content.proofs.ListingLemmas.{slot_named_step, slot_empty_step, slots_none}
use Rattle.fs_content.proofs.listing.Run.offer_slots.Goals as goal
use Rattle.fs_content.proofs.listing.Run.offer_slots.Goals.{in-Some+in_ok-offer_behind, in_default}

pub loop-slot-preserved : goal.loop-slot-preserved
loop-slot-preserved c =
    let i : ℕ = c.loop-slot.slot-index in
    let slots : List (Option Entry) = c.args.slots.now in
    let lt : i < length slots = omega (arith, c.as_slice-slot-items.ensures.len) in
    let item : c.slot-item.result ≡ get_or slots i c.slot-item.result = subst (λ (xs : List (Option Entry)). c.slot-item.result ≡ get_or xs i c.slot-item.result) c.as_slice-slot-items.ensures.value c.slot-item.is in
    let here : drop i slots ≡ c.slot-item.result ∷ drop (i + 1) slots = drop_more slots i c.slot-item.result lt ∙ ap (λ x. x ∷ drop (i + 1) slots) (sym item) in
    let done : Run = all_offered c.args.self.now (entries_behind c.args.behind (entries_from 0 slots)) in
    elim c.match-slot.branch [
      | in-Some+in_ok-offer_behind w ↦ record {
        counted = omega (arith, c.saturating_add-cookie.ensures, c.loop-slot.invariant.counted);
        offered = λ small.
            slot_named_step c.loop-slot.self c.match-slot.self done c.args.behind i c.loop-slot.cookie w.in-Some.entry (drop (i + 1) slots) (drop i slots)
            (omega (arith, c.loop-slot.invariant.counted))
            (w.self-is ∙ w.in_ok-offer_behind.ensures
            ∙ ap (λ (name : List ℕ). all_offered c.loop-slot.self (entries_behind c.args.behind (record { fileid = w.in-Some.entry.file; name = name; cookie = c.loop-slot.cookie } ∷ [])))
            w.as_slice.ensures.value)
            (here ∙ ap (λ x. x ∷ drop (i + 1) slots) w.in-Some.is)
            (c.loop-slot.invariant.offered small);
      }
      | in_default w ↦ record {
        counted = omega (arith, c.saturating_add-cookie.ensures, c.loop-slot.invariant.counted);
        offered = λ small.
            slot_empty_step c.loop-slot.self c.match-slot.self done c.args.behind i (drop (i + 1) slots) (drop i slots) w.self-is
            (here ∙ ap (λ x. x ∷ drop (i + 1) slots) w.in_default.is) (c.loop-slot.invariant.offered small);
      }
    ]

pub returns : goal.returns
returns c small =
    sym (slots_none c.loop-slot.self c.args.behind c.loop-slot.slot-index)
    ∙ ap (λ (xs : List (Option Entry)). all_offered c.loop-slot.self (entries_behind c.args.behind (entries_from c.loop-slot.slot-index xs)))
    (sym (drop_all c.loop-slot.slot-index c.args.slots.now (omega (arith, c.as_slice-slot-items.ensures.len))))
    ∙ c.loop-slot.invariant.offered small
