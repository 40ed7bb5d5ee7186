-- What a memory node does with a fit message leaves a fit entry.
use Rattle.std.proofs.Common.{◌≡◌, ◌<◌, ◌≤◌, ◌+◌, ℕ, nat_lt, leb, Bool, true, false, cond, ◌&&◌, ◌||◌, List, [], ◌∷◌, map, length, Option, Some, None, refl, sym, ap, subst, ◌∙◌, arith}
use Rattle.std.specs.List.{AllByRecursion, All, list_any}
use Rattle.std.proofs.lemmas.Bool.{leb-true, le-leb, ltb-true, lt-ltb, or_left, or_right, and_from}
use Rattle.std.proofs.lemmas.List.{length-map}
use Rattle.std.proofs.lemmas.List.Elements.{All-from_recursion, recursion_from_All}
use Rattle.sfs_xdr.specs.Items.{AreWords}
use Rattle.mini_tx.specs.declared.entry.Entry.TheVariants as entry
use Rattle.mini_tx.specs.declared.held_answer.HeldAnswer.TheVariants as hold
use Rattle.mini_tx.specs.declared.item.Item.{Item}
use Rattle.mini_tx.specs.declared.item.Item.TheVariants as item
use Rattle.mini_tx.specs.declared.message.Message.{Message}
use Rattle.mini_tx.specs.declared.message.Message.TheVariants as message
use Rattle.mini_tx.specs.declared.placed_item.PlacedItem.{PlacedItem}
use Rattle.mini_tx.specs.declared.range.Range.{Range}
use Rattle.mini_tx.specs.declared.tx_id.TxId.{TxId}
use Rattle.mini_tx.specs.declared.vote.Vote.{Vote}
use Rattle.mini_tx.specs.declared.vote.Vote.TheVariants as vote
use Rattle.mini_tx.specs.declared.write_at.WriteAt.{WriteAt}
use Rattle.mini_tx.specs.EntryGrammar.{longest, ascends_from, are_participants, is_granted, FitsVote, FitsWrite, FitsNumber, FitsRange, FitsList}
use Rattle.mini_tx.specs.Laws.{IsTypedRange, IsTypedWrite}
use Rattle.mini_tx.specs.Minitransactions.{place_of, bytes_of}
use Rattle.mem_rules.specs.declared.difference.Difference.{Difference}
use Rattle.mem_rules.specs.declared.kept.Kept.{Kept}
use Rattle.mem_rules.specs.declared.rule.Rule.TheVariants.{Passes}
use Rattle.mem_rules.specs.declared.setup.Setup.{Setup}
use Rattle.mem_rules.specs.declared.standing.Standing.{Standing}
use Rattle.mem_rules.specs.declared.standing.Standing.TheVariants.{Above, At, Below}
use Rattle.mem_rules.specs.Fit.{IsSetup, IsInside, IsRangeInside, IsWriteInside, IsCovered, covers, IsFitPrepare, IsKeptAs, AreInside, AscendBelow, size_of}
use Rattle.mem_rules.specs.Good.{IsGood}
use Rattle.mem_rules.specs.Identifiers.{precedes, cut_precedes}
use Rattle.mem_rules.specs.Items.{first_difference, writes_of, write_before, range_of}
use Rattle.mem_rules.specs.Reactions.{IsFitNext, ReactionsAreFit, FitEntriesAreTyped}
use Rattle.mem_rules.specs.Rules.{Node, held_cut, least_holder, least_with, blocks, is_undecided, standing, rule_by_cut, rule_by_floor, rule_by_record, rule_above, vote_by, has_several, is_logged, entry_of_vote, casts, by_rule, on_prepare, appends, answers, forces, on_decide, on_forget, on_ask, by_floor_asked, on_hold, by_cut_floor, holds, is_copied, silent}
use Rattle.mem_rules.specs.State.{kept_of}
use Rattle.mem_rules.proofs.ItemLemmas.{valid_inside, valid_few, new_vote_fits, all_writes_inside, writes_few, each_weaker, small_image}

-- ---- participants

below_all : (limit : ℕ) (ns : List ℕ) → AscendBelow limit ns → AllByRecursion (λ n. n < limit) ns
below_all limit [] ascend = tt
below_all limit (n ∷ ns) ascend = (ascend.0, below_all limit ns ascend.1.1)

length_up : (first limit : ℕ) (ns : List ℕ) → ascends_from first ns ≡ true → AscendBelow limit ns → first < limit → length ns + first < limit
length_up first limit [] up ascend below = omega (arith, below)
length_up first limit (n ∷ ns) up ascend below =
    let parts = both (nat_lt first n) (ascends_from n ns) up in
    let more = length_up n limit ns parts.1 ascend.1.1 ascend.0 in
    let less = ltb-true first n parts.0 in
    omega (arith, more, less)
  where
    both : (a b : Bool) → (a && b) ≡ true → (a ≡ true) × (b ≡ true)
    both true b e = (refl, e)
    both false b e = absurd cc

length_below : (limit : ℕ) (ns : List ℕ) → AscendBelow limit ns → length ns ≤ limit
length_below limit [] ascend = omega arith
length_below limit (n ∷ ns) ascend = let up = length_up n limit ns ascend.1.0 ascend.1.1 ascend.0 in omega (arith, up)

are_several : (limit : ℕ) (ns : List ℕ) → AscendBelow limit ns → has_several ns ≡ true → are_participants ns ≡ true
are_several limit [] ascend several = absurd cc
are_several limit (n ∷ ns) ascend several =
    let many = leb-true 2 (length (n ∷ ns)) several in
    ap (λ b. b && ascends_from n ns) (le-leb 1 (length ns) (omega (arith, many))) ∙ ascend.1.0

numbers_fit : (ns : List ℕ) → AllByRecursion FitsNumber ns
numbers_fit [] = tt
numbers_fit (n ∷ ns) = (tt, numbers_fit ns)

ranges_fit : (rs : List Range) → AllByRecursion FitsRange rs
ranges_fit [] = tt
ranges_fit (r ∷ rs) = (tt, ranges_fit rs)

-- ---- the ranges and writes of items

ranges_inside : (size : ℕ) (items : List PlacedItem) → AllByRecursion (λ (p : PlacedItem). IsInside size (place_of p.item) (bytes_of p.item)) items
    → AllByRecursion (IsRangeInside size) (map range_of items)
ranges_inside size [] inside = tt
ranges_inside size (p ∷ items) inside = (inside.0, ranges_inside size items inside.1)

covered_more : (r : Range) (rs : List Range) (ws : List WriteAt) → AllByRecursion (IsCovered rs) ws → AllByRecursion (IsCovered (r ∷ rs)) ws
covered_more r rs ws all = each_weaker (IsCovered rs) (IsCovered (r ∷ rs)) ws (λ w covered place low high. or_right (covers place r) (list_any (covers place) rs) (covered place low high)) all

covered_by : (items : List PlacedItem) → AllByRecursion (IsCovered (map range_of items)) (writes_of items)
covered_by [] = tt
covered_by (p ∷ items) = go p.item refl (covered_more (range_of p) (map range_of items) (writes_of items) (covered_by items))
  where
    go : (i : Item) → p.item ≡ i → AllByRecursion (IsCovered (range_of p ∷ map range_of items)) (writes_of items)
        → AllByRecursion (IsCovered (range_of p ∷ map range_of items)) (write_before i (writes_of items))
    go (item.Compare memory at bytes) is rest = rest
    go (item.Read memory at n) is rest = rest
    go (item.Write memory at bytes) is rest = (
      λ place low high.
          let start : place_of p.item ≡ at = ap place_of is in
          let size : bytes_of p.item ≡ length bytes = ap bytes_of is in
          or_left (covers place (range_of p)) (list_any (covers place) (map range_of items))
          (and_from (leb (place_of p.item) place) _ (le-leb (place_of p.item) place (omega (arith, start, low)))
          (lt-ltb place (place_of p.item + bytes_of p.item) (omega (arith, start, size, high)))),
      rest,
    )

-- ---- no lock is in the way where none is the least

some_stays : (test : Kept → Bool) (least : TxId) (kept : List Kept) → least_with test (Some least) kept ≡ None → ⊥
some_stays test least [] e = absurd cc
some_stays test least (k ∷ kept) e = go (test k) (precedes k.id least) e (some_stays test k.id kept) (some_stays test least kept)
  where
    go : (b c : Bool) → least_with test (cond b (cond c (Some k.id) (Some least)) (Some least)) kept ≡ None
        → (least_with test (Some k.id) kept ≡ None → ⊥) → (least_with test (Some least) kept ≡ None → ⊥) → ⊥
    go true true e own other = own e
    go true false e own other = other e
    go false c e own other = other e

none_blocks : (test : Kept → Bool) (kept : List Kept) → least_with test None kept ≡ None → list_any test kept ≡ false
none_blocks test [] e = refl
none_blocks test (k ∷ kept) e = go (test k) e (some_stays test k.id kept) (none_blocks test kept)
  where
    go : (b : Bool) → least_with test (cond b (Some k.id) None) kept ≡ None → (least_with test (Some k.id) kept ≡ None → ⊥)
        → (least_with test None kept ≡ None → list_any test kept ≡ false) → (b || list_any test kept) ≡ false
    go true e some rest = absurd (some e)
    go false e some rest = rest e

-- ---- prepare

module _ (s : Setup) (n : Node) (id : TxId) (participants : List ℕ) (items : List PlacedItem) (setup : IsSetup s) (good : IsGood s n.state) (fit : IsFitPrepare s id participants items) where
  small : size_of s ≤ 69214208
  small = small_image s setup

  inside : AreInside (size_of s) items
  inside = valid_inside s.geometry.memories (size_of s) items fit.valid

  inside_all : AllByRecursion (λ (p : PlacedItem). IsInside (size_of s) (place_of p.item) (bytes_of p.item)) items
  inside_all = recursion_from_All (λ (p : PlacedItem). IsInside (size_of s) (place_of p.item) (bytes_of p.item)) items inside

  few : length items ≤ 512
  few = valid_few s.geometry.memories (size_of s) items fit.valid

  members : length participants ≤ 8
  members = let most = length_below s.geometry.memories participants fit.ascend in omega (arith, most, setup.memories.1)

  writes_fit : FitsList FitsWrite (writes_of items)
  writes_fit = (
    omega (arith, writes_few items, few),
    each_weaker (IsWriteInside (size_of s)) FitsWrite (writes_of items) (λ w within. let ends = within.1 in omega (arith, ends, small))
        (recursion_from_All (IsWriteInside (size_of s)) (writes_of items) (all_writes_inside (size_of s) items inside)),
  )

  granted_fit : (reads : List (List ℕ)) → FitsVote (vote.Granted reads) → list_any (blocks (map range_of items)) n.state.kept ≡ false → kept_of n.state.kept id ≡ None
      → (b : Bool) → has_several participants ≡ b
      → IsFitNext s n.state (Some (cond b (entry.Prepared id participants (vote.Granted reads) (map range_of items) (writes_of items)) (entry.Single id (vote.Granted reads) (writes_of items))))
  granted_fit reads spelled free unseen true several = (
    record {
      coordinator = fit.coordinator;
      there = (All-from_recursion (λ m. m < s.geometry.memories) participants (below_all s.geometry.memories participants fit.ascend), fit.among);
      inside = All-from_recursion (IsRangeInside (size_of s)) (map range_of items) (ranges_inside (size_of s) items inside_all);
      written = all_writes_inside (size_of s) items inside;
      covered = All-from_recursion (IsCovered (map range_of items)) (writes_of items) (covered_by items);
      free = free;
      unseen = unseen;
    },
    (
      are_several s.geometry.memories participants fit.ascend several,
      (omega (arith, members), numbers_fit participants),
      refl,
      spelled,
      (omega (arith, few, length-map items range_of), ranges_fit (map range_of items)),
      writes_fit,
    ),
  )
  granted_fit reads spelled free unseen false several = ((fit.coordinator, all_writes_inside (size_of s) items inside), (refl, spelled, writes_fit))

  refused_fit : (v : Vote) → is_granted v ≡ false → FitsVote v → IsFitNext s n.state (Some (entry_of_vote id participants items v))
  refused_fit (vote.Granted reads) e spelled = absurd cc
  refused_fit (vote.Mismatch place kept) e spelled = (fit.coordinator, (refl, spelled))
  refused_fit (vote.Locked holder) e spelled = (fit.coordinator, (refl, spelled))
  refused_fit (vote.Forced floor) e spelled = (fit.coordinator, (refl, spelled))
  refused_fit (vote.Held cut) e spelled = (fit.coordinator, (refl, spelled))

  cast_fit : (v : Vote) → IsFitNext s n.state (Some (entry_of_vote id participants items v)) → IsFitNext s n.state (casts n id participants items v).entry
  cast_fit v one = go (is_logged participants items)
    where
      go : (b : Bool) → IsFitNext s n.state (cond b (appends n (entry_of_vote id participants items v) (message.Voted id v)) (answers n (message.Voted id v))).entry
      go true = one
      go false = tt

  above_fit : kept_of n.state.kept id ≡ None → (cut : _) (holder : Option TxId) (d : Option Difference) → least_holder n.state (map range_of items) ≡ holder
      → FitsVote (vote_by n.state.image items (rule_by_cut cut holder d)) → IsFitNext s n.state (by_rule n id participants items (rule_by_cut cut holder d)).entry
  above_fit unseen (Some cut) holder d is spelled = cast_fit (vote.Held cut) (refused_fit (vote.Held cut) refl spelled)
  above_fit unseen None (Some holder) d is spelled = cast_fit (vote.Locked holder) (refused_fit (vote.Locked holder) refl spelled)
  above_fit unseen None None (Some d) is spelled = cast_fit (vote.Mismatch d.place d.kept) (refused_fit (vote.Mismatch d.place d.kept) refl spelled)
  above_fit unseen None None None is spelled =
      cast_fit (vote_by n.state.image items Passes) (granted_fit _ spelled (none_blocks (blocks (map range_of items)) n.state.kept is) unseen (has_several participants) refl)

  prepare_fit : IsFitNext s n.state (on_prepare n id participants items).entry
  prepare_fit = go (kept_of n.state.kept id) refl (standing n.state id)
    where
      long : length n.state.image ≤ longest
      long = omega (arith, good.image, small)

      go : (k : Option Kept) → kept_of n.state.kept id ≡ k → (st : Standing) → IsFitNext s n.state (by_rule n id participants items (rule_by_record k (rule_by_floor st (rule_above n items)))).entry
      go (Some k) is st = tt
      go None is (At v) = tt
      go None is (Below floor) = tt
      go None is Above =
          above_fit is (held_cut n.copy) (least_holder n.state (map range_of items)) (first_difference n.state.image items) refl
          (new_vote_fits n.state.image items (held_cut n.copy) (least_holder n.state (map range_of items)) long (omega (arith, few)))

-- ---- the other messages

forced_fit : (s : Setup) (n : Node) (id : TxId) (m : Message) (x : Standing) → id.coord < s.geometry.nodes → IsFitNext s n.state (forces n id x m).entry
forced_fit s n id m Above known = (known, (refl, tt))
forced_fit s n id m (At v) known = tt
forced_fit s n id m (Below floor) known = tt

decide_fit : (s : Setup) (n : Node) (id : TxId) (commit : Bool) → id.coord < s.geometry.nodes → (k : Option Kept) → kept_of n.state.kept id ≡ k → IsFitNext s n.state (on_decide n id commit k).entry
decide_fit s n id commit known (Some k) is = go (is_undecided k) refl
  where
    go : (b : Bool) → is_undecided k ≡ b → IsFitNext s n.state (cond b (appends n (entry.Decided id commit) (message.Done id)) (answers n (message.Done id))).entry
    go true open_ = ((known, subst (IsKeptAs true) (sym is) open_), tt)
    go false open_ = tt
decide_fit s n id true known None is = tt
decide_fit s n id false known None is = forced_fit s n id (message.Done id) (standing n.state id) known

forget_fit : (s : Setup) (n : Node) (id : TxId) → id.coord < s.geometry.nodes → (k : Option Kept) → kept_of n.state.kept id ≡ k → IsFitNext s n.state (on_forget n id k).entry
forget_fit s n id known (Some k) is = go (is_undecided k) refl
  where
    go : (b : Bool) → is_undecided k ≡ b → IsFitNext s n.state (cond b (silent n) (record { entry = Some (entry.Forgotten id); answer = None; copy = n.copy })).entry
    go true open_ = tt
    go false open_ = ((known, subst (IsKeptAs false) (sym is) open_), tt)
forget_fit s n id known None is = tt

ask_fit : (s : Setup) (n : Node) (id : TxId) → id.coord < s.geometry.nodes → (k : Option Kept) → IsFitNext s n.state (on_ask n id k).entry
ask_fit s n id known (Some k) = tt
ask_fit s n id known None = go (standing n.state id)
  where
    go : (x : Standing) → IsFitNext s n.state (by_floor_asked n id x).entry
    go Above = (known, (refl, tt))
    go (At v) = tt
    go (Below floor) = tt

hold_fit : (s : Setup) (n : Node) (cut : _) → IsFitNext s n.state (on_hold n cut).entry
hold_fit s n cut = by_copy (is_copied n.copy cut)
  where
    by_holder : (holder : Option TxId) → IsFitNext s n.state (holds n cut holder).entry
    by_holder (Some holder) = (tt, tt)
    by_holder None = (tt, tt)

    by_floor : (floor : _) → IsFitNext s n.state (by_cut_floor n cut floor).entry
    by_floor None = by_holder (least_with is_undecided None n.state.kept)
    by_floor (Some floor) = go (cut_precedes floor cut)
      where
        go : (b : Bool) → IsFitNext s n.state (cond b (holds n cut (least_with is_undecided None n.state.kept)) (answers n (message.Held cut (hold.Past floor)))).entry
        go true = by_holder (least_with is_undecided None n.state.kept)
        go false = tt

    by_copy : (b : Bool) → IsFitNext s n.state (cond b (answers n (message.Held cut hold.Copied)) (by_cut_floor n cut n.state.cut)).entry
    by_copy true = tt
    by_copy false = by_floor n.state.cut

pub reactions_fit : ReactionsAreFit
reactions_fit s n (message.Prepare id participants items) setup good fit = prepare_fit s n id participants items setup good fit
reactions_fit s n (message.Decide id commit) setup good fit = decide_fit s n id commit fit (kept_of n.state.kept id) refl
reactions_fit s n (message.Forget id) setup good fit = forget_fit s n id fit (kept_of n.state.kept id) refl
reactions_fit s n (message.Ask id) setup good fit = ask_fit s n id fit (kept_of n.state.kept id)
reactions_fit s n message.List setup good fit = tt
reactions_fit s n (message.Hold cut) setup good fit = hold_fit s n cut
reactions_fit s n (message.Release cut) setup good fit = tt
reactions_fit s n (message.Drop cut) setup good fit = tt
reactions_fit s n (message.ReadCut cut place) setup good fit = tt
reactions_fit s n (message.Voted id v) setup good fit = tt
reactions_fit s n (message.Done id) setup good fit = tt
reactions_fit s n (message.Kept ids cut) setup good fit = tt
reactions_fit s n (message.Answer id ok) setup good fit = tt
reactions_fit s n (message.Held cut answer) setup good fit = tt
reactions_fit s n (message.Piece cut place bytes) setup good fit = tt

-- ---- types

writes_typed : (s : Setup) (ws : List WriteAt) → IsSetup s → All (IsWriteInside (size_of s)) ws → AllByRecursion IsTypedWrite ws
writes_typed s ws setup inside =
    each_weaker (IsWriteInside (size_of s)) IsTypedWrite ws (λ w within. let ends = within.1 in omega (arith, ends, small_image s setup)) (recursion_from_All (IsWriteInside (size_of s)) ws inside)

ranges_typed : (s : Setup) (rs : List Range) → IsSetup s → All (IsRangeInside (size_of s)) rs → AllByRecursion IsTypedRange rs
ranges_typed s rs setup inside =
    each_weaker (IsRangeInside (size_of s)) IsTypedRange rs (λ r within. let ends = within.1 in (omega (arith, ends, small_image s setup), omega (arith, ends, small_image s setup)))
    (recursion_from_All (IsRangeInside (size_of s)) rs inside)

words_of : (limit : ℕ) (ns : List ℕ) → limit ≤ 8 → AllByRecursion (λ n. n < limit) ns → AreWords ns
words_of limit [] low below = tt
words_of limit (n ∷ ns) low below = (omega (arith, low, below.0), words_of limit ns low below.1)

pub entries_typed : FitEntriesAreTyped
entries_typed s state (entry.Single id v writes) setup fit names = (names.0, names.1, writes_typed s writes setup fit.1)
entries_typed s state (entry.Prepared id participants v ranges writes) setup fit names = (
  names.0,
  words_of s.geometry.memories participants setup.memories.1 (recursion_from_All (λ m. m < s.geometry.memories) participants fit.there.0),
  names.1,
  ranges_typed s ranges setup fit.inside,
  writes_typed s writes setup fit.written,
)
entries_typed s state (entry.Refused id v) setup fit names = names
entries_typed s state (entry.Decided id commit) setup fit names = names
entries_typed s state (entry.Forgotten id) setup fit names = names
entries_typed s state (entry.Cut cut) setup fit names = names
entries_typed s state (entry.Floor id v) setup fit names = names
