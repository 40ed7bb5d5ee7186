-- The rule that a memory node finds is the machine's.
use Rattle.std.proofs.Common.{◌≡◌, ℕ, ◌==◌, Bool, true, false, cond, ◌&&◌, List, [], ◌∷◌, map, filter, length, Option, Some, None, is_some, ◌⊎◌, inl, inr, refl, sym, ap, subst, ◌∙◌}
use Rattle.std.specs.Prelude.{find, option_map}
use Rattle.std.proofs.lemmas.Bool.{and_parts, and_from}
use Rattle.std.proofs.lemmas.List.Elements.{recursion_from_All}
use Rattle.mini_tx.specs.declared.cut_id.CutId.{CutId}
use Rattle.mini_tx.specs.declared.placed_item.PlacedItem.{PlacedItem}
use Rattle.mini_tx.specs.declared.range.Range.{Range}
use Rattle.mini_tx.specs.declared.tx_id.TxId.{TxId}
use Rattle.mini_tx.specs.Minitransactions.{place_of, bytes_of}
use Rattle.mem_rules.specs.declared.difference.Difference.{Difference}
use Rattle.mem_rules.specs.declared.floor.Floor.{Floor}
use Rattle.mem_rules.specs.declared.kept.Kept.{Kept}
use Rattle.mem_rules.specs.declared.rule.Rule.{Rule}
use Rattle.mem_rules.specs.declared.standing.Standing.TheVariants.{Above, At, Below}
use Rattle.mem_rules.specs.Fit.{IsInside}
use Rattle.mem_rules.specs.Identifiers.{precedes, is_same}
use Rattle.mem_rules.specs.Items.{first_difference, range_of}
use Rattle.mem_rules.specs.Rules as node
use Rattle.mem_rules.specs.State.{floor_at, kept_of}
use Rattle.tx_rules.specs.Mini.{In, Setting, cells_of}
use Rattle.tx_actors.specs.Node as machine
use Rattle.tx_rules.specs.Lists as tests
use Rattle.tx_actors.proofs.RecordLemmas.{has_grant-In, In-granted_in}
use Rattle.tx_actors.proofs.TestLemmas.{In-filter, In-map, filter-In, map-In}
use Rattle.mem_laws.specs.Cells.{number, cut_number, cells_in}
use Rattle.mem_laws.specs.Shown.{reason_of, shown_floor, cut_held, shown_rule}
use Rattle.mem_laws.specs.Laws.{IsAsked}
use Rattle.mem_laws.proofs.CellLemmas.{order_is, sameness_is, meet_is}
use Rattle.mem_laws.proofs.LeastLemmas.{same_least, first_is_least, numbers_with, least_is}
use Rattle.mem_laws.proofs.WantLemmas.{AreWithin, place_found, mismatch_is}

-- ---- elements

module _ {A : Type 0} where
  pub find-In : (test : A → Bool) (x : A) (xs : List A) → find test xs ≡ Some x → In x xs × (test x ≡ true)
  find-In test x [] e = absurd cc
  find-In test x (y ∷ xs) e = go (test y) refl (find-In test x xs) e
    where
      go : (b : Bool) → test y ≡ b → (find test xs ≡ Some x → In x xs × (test x ≡ true)) → cond b (Some y) (find test xs) ≡ Some x → ((x ≡ y) ⊎ In x xs) × (test x ≡ true)
      go true same rest is = let one : x ≡ y = cc in (inl one, ap test one ∙ same)
      go false same rest is = let r = rest is in (inr r.0, r.1)

module _ (s : Setting) (m : ℕ) (n : node.Node) (v : machine.View) (id : TxId) (participants : List ℕ) (items : List PlacedItem) (asked : IsAsked s m n v id participants items) where
  abbrev held : Option ℕ
  held = cut_held n.copy

  pub within : AreWithin (length n.state.image) items
  within = recursion_from_All (λ (p : PlacedItem). IsInside (length n.state.image) (place_of p.item) (bytes_of p.item)) items asked.inside

  -- ---- locks

  ranges : List Range
  ranges = map range_of items

  in_the_way : ℕ → Bool
  in_the_way u = machine.is_undecided v.records u && tests.overlap (cells_of s (number id) m) (cells_of s u m)

  -- a record is in the way where its cells are
  cells_meet : (k : Kept) → cells_of s (number k.id) m ≡ cells_in k.ranges → tests.overlap (cells_of s (number id) m) (cells_of s (number k.id) m) ≡ node.meet k.ranges ranges
  unfolding ranges
  cells_meet k locked =
      ap (λ xs. tests.overlap xs (cells_of s (number k.id) m)) asked.told.touched ∙ ap (λ xs. tests.overlap (cells_in (map range_of items)) xs) locked
      ∙ meet_is k.ranges (map range_of items)

  holders : List ℕ
  holders = filter in_the_way (machine.granted_in v.records)

  forth : (x : ℕ) → In x (numbers_with (node.blocks ranges) n.state.kept) → In x holders
  unfolding holders in_the_way
  forth x h =
      let found = In-map (λ (k : Kept). number k.id) x (filter (node.blocks ranges) n.state.kept) h in
      let k = found.0 in
      let passed = In-filter (node.blocks ranges) k n.state.kept found.1 in
      let shown = asked.shows.records k passed.0 in
      let both = and_parts (node.is_undecided k) (node.meet k.ranges ranges) passed.1 in
      let undecided : machine.is_undecided v.records (number k.id) ≡ true = shown.undecided ∙ both.0 in
      let granted = (and_parts (machine.has_grant v.records (number k.id)) _ undecided).0 in
      subst (λ y. In y (filter in_the_way (machine.granted_in v.records))) (sym found.2)
      (filter-In in_the_way (number k.id) (machine.granted_in v.records) (In-granted_in v.records (number k.id) (has_grant-In v.records (number k.id) granted))
      (and_from (machine.is_undecided v.records (number k.id)) _ undecided (cells_meet k (shown.locked both.0) ∙ both.1)))

  back : (x : ℕ) → In x holders → In x (numbers_with (node.blocks ranges) n.state.kept)
  unfolding holders in_the_way
  back x h =
      let passed = In-filter in_the_way x (machine.granted_in v.records) h in
      let both = and_parts (machine.is_undecided v.records x) _ passed.1 in
      let found = asked.shows.undecided x both.0 in
      let k = found.0 in
      let shown = asked.shows.records k found.1 in
      let undecided : node.is_undecided k ≡ true = sym shown.undecided ∙ ap (machine.is_undecided v.records) found.2 ∙ both.0 in
      let met : node.meet k.ranges ranges ≡ true =
      sym (cells_meet k (shown.locked undecided)) ∙ ap (λ u. tests.overlap (cells_of s (number id) m) (cells_of s u m)) found.2 ∙ both.1 in
      subst (λ y. In y (numbers_with (node.blocks ranges) n.state.kept)) found.2
      (map-In (λ (k : Kept). number k.id) k (filter (node.blocks ranges) n.state.kept)
      (filter-In (node.blocks ranges) k n.state.kept found.1 (and_from (node.is_undecided k) _ undecided met)))

  holder_is : option_map number (node.least_holder n.state (map range_of items)) ≡ machine.least_holder s m v.records (number id)
  unfolding holders in_the_way ranges
  holder_is =
      same_least (numbers_with (node.blocks ranges) n.state.kept) holders (option_map number (node.least_holder n.state ranges)) (machine.first_of_list (machine.sorted holders))
      (least_is (node.blocks ranges) n.state.kept (λ k h. (asked.shows.records k h).typed)) (first_is_least holders) forth back

  -- ---- above the floor

  above_is : machine.rule_by_cut held (machine.least_holder s m v.records (number id)) (machine.first_mismatch ((s.mini (number id)).wants m) v.image) ≡ shown_rule (node.rule_above n items)
  above_is =
      ap (λ o. machine.rule_by_cut held o (machine.first_mismatch ((s.mini (number id)).wants m) v.image)) (sym holder_is)
      ∙ ap (λ wants. machine.rule_by_cut held (option_map number (node.least_holder n.state (map range_of items))) (machine.first_mismatch wants v.image)) asked.told.compared
      ∙ ap (machine.rule_by_cut held (option_map number (node.least_holder n.state (map range_of items)))) (mismatch_is n.state.image v.image asked.shows.image items within)
      ∙ by_cut (node.held_cut n.copy) (node.least_holder n.state (map range_of items)) (first_difference n.state.image items)
    where
      by_cut : (c : Option CutId) (a : Option TxId) (d : Option Difference)
          → machine.rule_by_cut (option_map cut_number c) (option_map number a) (place_found d) ≡ shown_rule (node.rule_by_cut c a d)
      by_cut (Some cut) a d = refl
      by_cut None (Some holder) d = refl
      by_cut None None (Some d) = refl
      by_cut None None None = refl

  -- ---- by the floor

  floor_is : machine.floor_of s v.records (s.coord (number id)) ≡ shown_floor (floor_at n.state.floors id.coord)
  floor_is = ap (machine.floor_of s v.records) asked.told.coordinator ∙ asked.shows.floors id.coord

  by_floor : (floor : Option Floor) → floor_at n.state.floors id.coord ≡ floor → machine.floor_of s v.records (s.coord (number id)) ≡ shown_floor floor
      → machine.rule_by_floor s m held v (number id) (machine.to_floor (number id) (shown_floor floor)) ≡ shown_rule (node.rule_by_floor (node.to_floor floor id) (node.rule_above n items))
  by_floor None is shown = above_is
  by_floor (Some floor) is shown =
      let typed = (asked.shows.votes id.coord floor is).0 in
      subst (λ x. G (precedes floor.id id) (is_same floor.id id) x (number floor.id == number id)) (sym (order_is floor.id id typed asked.typed))
      (subst (λ x. G (precedes floor.id id) (is_same floor.id id) (precedes floor.id id) x) (sym (sameness_is floor.id id typed asked.typed))
      (go (precedes floor.id id) (is_same floor.id id)))
    where
      G : Bool → Bool → Bool → Bool → Type 0
      G a b c d = machine.rule_by_floor s m held v (number id) (cond c machine.Above (cond d (machine.Same (reason_of floor.vote)) (machine.Below (number floor.id))))
          ≡ shown_rule (node.rule_by_floor (cond a Above (cond b (At floor.vote) (Below floor.id))) (node.rule_above n items))

      go : (a b : Bool) → G a b a b
      go true b = above_is
      go false true = refl
      go false false = refl

  by_record : (kept : Option Kept) (b : Bool) → b ≡ is_some kept → (rule : Rule) (x : machine.Rule) → x ≡ shown_rule rule
      → cond b machine.RecordAgain x ≡ shown_rule (node.rule_by_record kept rule)
  by_record None true e rule x h = absurd cc
  by_record None false e rule x h = h
  by_record (Some k) true e rule x h = refl
  by_record (Some k) false e rule x h = absurd cc

  pub rule_is : machine.rule_for s m (cut_held n.copy) v (number id) ≡ shown_rule (node.rule_for n id items)
  rule_is =
      by_record (kept_of n.state.kept id) (machine.is_kept s m v.records (number id)) (asked.shows.kept id asked.typed)
      (node.rule_by_floor (node.standing n.state id) (node.rule_above n items)) (machine.rule_by_floor s m held v (number id) (machine.standing s v.records (number id)))
      (ap (λ o. machine.rule_by_floor s m held v (number id) (machine.to_floor (number id) o)) floor_is ∙ by_floor (floor_at n.state.floors id.coord) refl floor_is)
