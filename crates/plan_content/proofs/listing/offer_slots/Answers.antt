use Rattle.std.proofs.Common.{◌≡◌, ◌+◌, ℕ, List, [], ◌∷◌, drop, sym, ap, ◌∙◌}
use Rattle.std.proofs.lemmas.List.{drop_all, drop_more}
use Rattle.fs_dir.specs.declared.slot.Slot.{Slot}
use Rattle.fs_content.specs.Listing.{all_offered}
use Rattle.fs_rules.specs.Slots.{entries_behind}
use Rattle.content_laws.specs.Answers.{names_from, next_cookie}
use Rattle.plan_content.specs.Listings.{cookie_behind}
use Rattle.plan_content.proofs.ListingLemmas.{behind_none, behind_one, none_left, slot_offered, slot_passed}
use Rattle.plan_content.proofs.listing.offer_slots.Goals as goal
use Rattle.plan_content.proofs.listing.offer_slots.Goals.{then-is_in_use+in_ok-offer_behind, else-is_in_use}

pub loop-slot-preserved : goal.loop-slot-preserved
loop-slot-preserved c =
    let i : ℕ = c.loop-slot.slot-index in
    let slots : List Slot = c.args.slots.now in
    let s : Slot = c.slot-item.result in
    let rest : List Slot = drop (i + 1) slots in
    let behind = c.args.behind in
    let cookie = c.loop-slot.cookie in
    let here : drop i slots ≡ s ∷ rest = drop_more slots i s c.loop-slot-test.true ∙ ap (λ x. x ∷ rest) (sym c.slot-item.is) in
    let next : c.saturating_add-cookie.result ≡ next_cookie cookie = c.saturating_add-cookie.ensures in
    let offered_by : (all_offered c.if-is_in_use.run (entries_behind behind (names_from (next_cookie cookie) rest)) ≡ all_offered c.loop-slot.run (entries_behind behind (names_from cookie (s ∷ rest)))) =
    elim c.if-is_in_use.branch [
      | then-is_in_use+in_ok-offer_behind w ↦ slot_offered c.loop-slot.run c.if-is_in_use.run behind cookie s rest (sym c.is_in_use.ensures ∙ w.if-is_in_use.true)
          (w.run-is ∙ w.in_ok-offer_behind.ensures
          ∙ ap (λ (name : List ℕ). all_offered c.loop-slot.run (entries_behind behind (record { fileid = s.number; name = name; cookie = cookie } ∷ []))) w.as_slice.ensures.value)
      | else-is_in_use w ↦ slot_passed c.loop-slot.run c.if-is_in_use.run behind cookie s rest (sym c.is_in_use.ensures ∙ w.if-is_in_use.false) w.run-is
    ] in
    record {
      offered =
          ap (λ k. all_offered c.if-is_in_use.run (entries_behind behind (names_from k rest))) next ∙ offered_by
          ∙ ap (λ xs. all_offered c.loop-slot.run (entries_behind behind (names_from cookie xs))) (sym here) ∙ c.loop-slot.invariant.offered;
      next =
          ap (λ k. cookie_behind k rest) next ∙ sym (behind_one cookie s rest) ∙ ap (λ xs. cookie_behind cookie xs) (sym here) ∙ c.loop-slot.invariant.next;
    }

pub returns-clause-offered : goal.returns-clause-offered
returns-clause-offered c =
    sym (none_left c.loop-slot.run c.args.behind c.loop-slot.cookie)
    ∙ ap (λ xs. all_offered c.loop-slot.run (entries_behind c.args.behind (names_from c.loop-slot.cookie xs)))
    (sym (drop_all c.loop-slot.slot-index c.args.slots.now c.loop-slot-test.false))
    ∙ c.loop-slot.invariant.offered

pub returns-clause-next : goal.returns-clause-next
returns-clause-next c =
    sym (behind_none c.loop-slot.cookie)
    ∙ ap (λ xs. cookie_behind c.loop-slot.cookie xs) (sym (drop_all c.loop-slot.slot-index c.args.slots.now c.loop-slot-test.false))
    ∙ c.loop-slot.invariant.next
