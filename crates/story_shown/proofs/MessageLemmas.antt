-- What is posted to a memory node it may be sent.
use Rattle.std.proofs.Common.{◌≡◌, ◌<◌, ◌≤◌, ◌+◌, ℕ, ◌==◌, nat_lt, Bool, true, false, ◌&&◌, ◌||◌, List, [], ◌∷◌, ◌++◌, ◌⊎◌, length, map, take, slice_get, Option, Some, None, All, inl, inr, refl, sym, ap, subst, ◌∙◌, append_assoc, arith, if◌then◌else◌}
use Rattle.std.specs.Prelude.{⊤}
use Rattle.std.specs.List.{AllByRecursion, Contains}
use Rattle.std.proofs.lemmas.List.Elements.{All-from_recursion, recursion_from_All}
use Rattle.std.proofs.lemmas.Bool.{lt-ltb, ltb-true, ltb-false, eqb-true, eqb-false, ne_eqb, le-ltb}
use Rattle.std.proofs.lemmas.List.{take_at, length-append, length-map, append-nil}
use Rattle.mini_tx.specs.declared.actor.Actor.{Actor}
use Rattle.mini_tx.specs.declared.actor.Actor.TheVariants.{Memory}
use Rattle.mini_tx.specs.declared.item.Item.{Item}
use Rattle.mini_tx.specs.declared.message.Message.{Message}
use Rattle.mini_tx.specs.declared.message.Message.TheVariants as message
use Rattle.mini_tx.specs.declared.tx_id.TxId.{TxId}
use Rattle.mini_tx.specs.FlatMemory.{IsWithin}
use Rattle.mini_tx.proofs.ValidLemmas.{valid_within}
use Rattle.mem_rules.specs.declared.setup.Setup.{Setup}
use Rattle.mem_rules.specs.State.{State}
use Rattle.tx_rules.specs.Mini.{In}
use Rattle.mem_laws.proofs.PartLemmas.{contains}
use Rattle.story_rules.specs.Story.{Begun, Story}
use Rattle.story_laws.specs.Acts.{IsTold}
use Rattle.story_laws.specs.Beginnings.{WasBegun, IsPart, IsAboutBegun}
use Rattle.story_laws.proofs.ActLemmas.{told_stories_hold}
use Rattle.story_laws.proofs.VoteLemmas.{memory_is}
use Rattle.story_shown.specs.History.{held_at_opening}
use Rattle.story_shown.specs.Messages.{PostedAreFit}
use Rattle.story_shown.proofs.ReactLemmas.{known_coord}
use Rattle.story_shown.proofs.SoundLemmas.{told_fit, held_sized}
use Rattle.mini_tx.specs.declared.placed_item.PlacedItem.{PlacedItem}
use Rattle.mini_tx.specs.EntryGrammar.{ascends_from}
use Rattle.mini_tx.specs.declared.mini_fault.MiniFault.TheVariants as fault
use Rattle.mini_tx.specs.Minitransactions.{memory_of, bytes_of_all, is_outside, overlaps, overlaps_any, first_outside, first_overlap, overlap_refusal, place_refusal, refusal}
use Rattle.mem_rules.specs.Fit.{AscendBelow, IsFitPrepare, IsFitMessage, size_of}
use Rattle.tx_coord.specs.Rules.{participants_of, placed_in, placed_from}
use Rattle.story_laws.proofs.GrowthLemmas.{true_both, both_true}

-- ---- participants ascend

ascends_placed : (first n : ℕ) (ns : List ℕ) → first < n → ascends_from first ns ≡ true → ascends_from first (placed_in n ns) ≡ true
ascends_placed first n [] below up = true_both (nat_lt first n) true (lt-ltb first n below) refl
ascends_placed first n (m ∷ ms) below up = go (nat_lt m n) refl (m == n) refl (ascends_placed m n ms)
  where
    parts : (nat_lt first m ≡ true) × (ascends_from m ms ≡ true)
    parts = both_true (nat_lt first m) (ascends_from m ms) up

    go : (a : Bool) → nat_lt m n ≡ a → (b : Bool) → (m == n) ≡ b → (m < n → ascends_from m ms ≡ true → ascends_from m (placed_in n ms) ≡ true)
        → ascends_from first (if a then m ∷ placed_in n ms else if b then m ∷ ms else n ∷ (m ∷ ms)) ≡ true
    go true less b same rest =
        let both = both_true (nat_lt first m) (ascends_from m ms) up in
        true_both (nat_lt first m) (ascends_from m (placed_in n ms)) both.0 (rest (ltb-true m n less) both.1)
    go false more true same rest = up
    go false more false other rest =
        let low = ltb-false m n more in
        let apart : ¬ (m ≡ n) = eqb-false m n other in
        let above : n < m = omega (arith, low, apart) in
        let both = both_true (nat_lt first m) (ascends_from m ms) up in
        true_both (nat_lt first n) (nat_lt n m && ascends_from m ms) (lt-ltb first n below) (true_both (nat_lt n m) (ascends_from m ms) (lt-ltb n m above) both.1)

below_placed : (limit n : ℕ) (ns : List ℕ) → n < limit → AscendBelow limit ns → AscendBelow limit (placed_in n ns)
below_placed limit n [] below all = (below, (refl, tt))
below_placed limit n (m ∷ ms) below all = go (nat_lt m n) refl (m == n) refl (below_placed limit n ms below all.1.1)
  where
    go : (a : Bool) → nat_lt m n ≡ a → (b : Bool) → (m == n) ≡ b → AscendBelow limit (placed_in n ms)
        → AscendBelow limit (if a then m ∷ placed_in n ms else if b then m ∷ ms else n ∷ (m ∷ ms))
    go true less b same rest = (all.0, (ascends_placed m n ms (ltb-true m n less) all.1.0, rest))
    go false more true same rest = all
    go false more false other rest =
        let low = ltb-false m n more in
        let apart : ¬ (m ≡ n) = eqb-false m n other in
        let above : n < m = omega (arith, low, apart) in
        (below, (true_both (nat_lt n m) (ascends_from m ms) (lt-ltb n m above) all.1.0, all))

pub parts_ascend : (limit : ℕ) (items : List Item) → AllByRecursion (λ (i : Item). memory_of i < limit) items → AscendBelow limit (participants_of items)
parts_ascend limit [] all = tt
parts_ascend limit (i ∷ items) all = below_placed limit (memory_of i) (participants_of items) all.0 (parts_ascend limit items all.1)

-- ---- places ascend

abbrev places : ℕ → ℕ → List Item → List ℕ
places m place items = map (λ (p : PlacedItem). p.place) (placed_from m place items)

places_from : (m place last : ℕ) (items : List Item) → last < place → ascends_from last (places m place items) ≡ true
places_from m place last [] below = refl
places_from m place last (i ∷ items) below = go (memory_of i == m) (places_from m (place + 1) place items (omega arith)) (places_from m (place + 1) last items (omega (arith, below)))
  where
    go : (b : Bool) → ascends_from place (places m (place + 1) items) ≡ true → ascends_from last (places m (place + 1) items) ≡ true
        → ascends_from last (map (λ (p : PlacedItem). p.place) (if b then record { place = place; item = i } ∷ placed_from m (place + 1) items else placed_from m (place + 1) items)) ≡ true
    go true here rest = true_both (nat_lt last place) (ascends_from place (places m (place + 1) items)) (lt-ltb last place below) here
    go false here rest = rest

pub places_below : (m place : ℕ) (items : List Item) → place + length items ≤ 512 → AscendBelow 512 (places m place items)
places_below m place [] few = tt
places_below m place (i ∷ items) few =
    go (memory_of i == m) (places_from m (place + 1) place items (omega arith)) (places_below m (place + 1) items (omega (arith, few)))
  where
    go : (b : Bool) → ascends_from place (places m (place + 1) items) ≡ true → AscendBelow 512 (places m (place + 1) items)
        → AscendBelow 512 (map (λ (p : PlacedItem). p.place) (if b then record { place = place; item = i } ∷ placed_from m (place + 1) items else placed_from m (place + 1) items))
    go true here rest = (omega (arith, few), (here, rest))
    go false here rest = rest

-- ---- the items of one memory node

pub own_memory : (m place : ℕ) (items : List Item) → AllByRecursion (λ (p : PlacedItem). memory_of p.item ≡ m) (placed_from m place items)
own_memory m place [] = tt
own_memory m place (i ∷ items) = go (memory_of i == m) refl (own_memory m (place + 1) items)
  where
    go : (b : Bool) → (memory_of i == m) ≡ b → AllByRecursion (λ (p : PlacedItem). memory_of p.item ≡ m) (placed_from m (place + 1) items)
        → AllByRecursion (λ (p : PlacedItem). memory_of p.item ≡ m) (if b then record { place = place; item = i } ∷ placed_from m (place + 1) items else placed_from m (place + 1) items)
    go true same rest = (eqb-true (memory_of i) m same, rest)
    go false other rest = rest

abbrev part : ℕ → ℕ → List Item → List Item
part m place items = map (λ (p : PlacedItem). p.item) (placed_from m place items)

-- what a part has is one case or the other of an item
abbrev with_item : Bool → Item → List Item → List Item
with_item b i items = if b then i ∷ items else items

part_is : (m place : ℕ) (i : Item) (items : List Item) → part m place (i ∷ items) ≡ with_item (memory_of i == m) i (part m (place + 1) items)
part_is m place i items = go (memory_of i == m)
  where
    go : (b : Bool) → map (λ (p : PlacedItem). p.item) (if b then record { place = place; item = i } ∷ placed_from m (place + 1) items else placed_from m (place + 1) items)
        ≡ with_item b i (part m (place + 1) items)
    go true = refl
    go false = refl

-- a part is no longer, and has no more bytes
part_few : (m place : ℕ) (items : List Item) → (length (part m place items) ≤ length items) × (bytes_of_all (part m place items) ≤ bytes_of_all items)
part_few m place [] = (omega arith, omega arith)
part_few m place (i ∷ items) =
    subst (λ (l : List Item). (length l ≤ length (i ∷ items)) × (bytes_of_all l ≤ bytes_of_all (i ∷ items))) (sym (part_is m place i items)) (go (memory_of i == m) (part_few m (place + 1) items))
  where
    go : (b : Bool) → (length (part m (place + 1) items) ≤ length items) × (bytes_of_all (part m (place + 1) items) ≤ bytes_of_all items)
        → (length (with_item b i (part m (place + 1) items)) ≤ length (i ∷ items)) × (bytes_of_all (with_item b i (part m (place + 1) items)) ≤ bytes_of_all (i ∷ items))
    go true rest = let a = rest.0 in let c = rest.1 in (omega (arith, a), omega (arith, c))
    go false rest = let a = rest.0 in let c = rest.1 in (omega (arith, a), omega (arith, c))

-- no item of it is outside
part_inside : (memories size m place at k : ℕ) (items : List Item) → first_outside memories size at items ≡ None → first_outside memories size k (part m place items) ≡ None
part_inside memories size m place at k [] none = refl
part_inside memories size m place at k (i ∷ items) none =
    ap (first_outside memories size k) (part_is m place i items)
    ∙ go (is_outside memories size i) refl none (memory_of i == m) (λ j rest. part_inside memories size m (place + 1) (at + 1) j items rest)
  where
    go : (b : Bool) → is_outside memories size i ≡ b → (if b then Some at else first_outside memories size (at + 1) items) ≡ None → (d : Bool)
        → ((j : ℕ) → first_outside memories size (at + 1) items ≡ None → first_outside memories size j (part m (place + 1) items) ≡ None)
        → first_outside memories size k (with_item d i (part m (place + 1) items)) ≡ None
    go true is none_ d rest = absurd cc
    go false is none_ true rest =
        ap (λ (x : Bool). if x then Some k else first_outside memories size (k + 1) (part m (place + 1) items)) is ∙ rest (k + 1) none_
    go false is none_ false rest = rest k none_

-- ---- no two of its items overlap

abbrev mine : ℕ → List Item → List Item
mine m [] = []
mine m (i ∷ items) = with_item (memory_of i == m) i (mine m items)

part_mine : (m place : ℕ) (items : List Item) → part m place items ≡ mine m items
part_mine m place [] = refl
part_mine m place (i ∷ items) = part_is m place i items ∙ ap (with_item (memory_of i == m) i) (part_mine m (place + 1) items)

mine_both : (m : ℕ) (xs ys : List Item) → mine m (xs ++ ys) ≡ mine m xs ++ mine m ys
mine_both m [] ys = refl
mine_both m (x ∷ xs) ys = go (memory_of x == m) (mine_both m xs ys)
  where
    go : (b : Bool) → mine m (xs ++ ys) ≡ mine m xs ++ mine m ys → with_item b x (mine m (xs ++ ys)) ≡ with_item b x (mine m xs) ++ mine m ys
    go true rest = ap (λ (l : List Item). x ∷ l) rest
    go false rest = rest

-- each item overlaps none of those before it
abbrev AreApart : List Item → List Item → Type 0
AreApart before [] = ⊤
AreApart before (i ∷ items) = (overlaps_any i before ≡ false) × AreApart (before ++ i ∷ []) items

moved : (before items : List Item) (i : Item)
    → first_overlap (before ++ i ∷ items) (length before + 1) items ≡ first_overlap ((before ++ i ∷ []) ++ items) (length (before ++ i ∷ [])) items
moved before items i =
    ap (λ (l : List Item). first_overlap l (length before + 1) items) (sym (append_assoc before (i ∷ []) items))
    ∙ ap (λ (k : ℕ). first_overlap ((before ++ i ∷ []) ++ items) k items) (sym (length-append before (i ∷ [])))

apart_of : (before items : List Item) → first_overlap (before ++ items) (length before) items ≡ None → AreApart before items
apart_of before [] none = tt
apart_of before (i ∷ items) none = go (overlaps_any i (take (length before) (before ++ i ∷ items))) refl none (apart_of (before ++ i ∷ []) items)
  where
    go : (b : Bool) → overlaps_any i (take (length before) (before ++ i ∷ items)) ≡ b
        → (if b then Some (length before) else first_overlap (before ++ i ∷ items) (length before + 1) items) ≡ None
        → (first_overlap ((before ++ i ∷ []) ++ items) (length (before ++ i ∷ [])) items ≡ None → AreApart (before ++ i ∷ []) items)
        → (overlaps_any i before ≡ false) × AreApart (before ++ i ∷ []) items
    go true is none_ rest = absurd cc
    go false is none_ rest = (ap (overlaps_any i) (sym (take_at before (i ∷ items) (length before) refl)) ∙ is, rest (sym (moved before items i) ∙ none_))

of_apart : (before items : List Item) → AreApart before items → first_overlap (before ++ items) (length before) items ≡ None
of_apart before [] all = refl
of_apart before (i ∷ items) all =
    ap (λ (b : Bool). if b then Some (length before) else first_overlap (before ++ i ∷ items) (length before + 1) items) (ap (overlaps_any i) (take_at before (i ∷ items) (length before) refl) ∙ all.0)
    ∙ moved before items i ∙ of_apart (before ++ i ∷ []) items all.1

or_parts : (a b : Bool) → (a || b) ≡ false → (a ≡ false) × (b ≡ false)
or_parts true b is = absurd cc
or_parts false b is = (refl, is)

fewer_overlap : (m : ℕ) (i : Item) (before : List Item) → overlaps_any i before ≡ false → overlaps_any i (mine m before) ≡ false
fewer_overlap m i [] none = refl
fewer_overlap m i (o ∷ before) none = go (memory_of o == m) (fewer_overlap m i before (or_parts (overlaps i o) (overlaps_any i before) none).1)
  where
    go : (b : Bool) → overlaps_any i (mine m before) ≡ false → overlaps_any i (with_item b o (mine m before)) ≡ false
    go true rest = ap (λ (x : Bool). x || overlaps_any i (mine m before)) (or_parts (overlaps i o) (overlaps_any i before) none).0 ∙ rest
    go false rest = rest

mine_apart : (m : ℕ) (before items : List Item) → AreApart before items → AreApart (mine m before) (mine m items)
mine_apart m before [] all = tt
mine_apart m before (i ∷ items) all =
    go (memory_of i == m) (fewer_overlap m i before all.0) (subst (λ (l : List Item). AreApart l (mine m items)) (mine_both m before (i ∷ [])) (mine_apart m (before ++ i ∷ []) items all.1))
  where
    go : (b : Bool) → overlaps_any i (mine m before) ≡ false → AreApart (mine m before ++ with_item b i []) (mine m items) → AreApart (mine m before) (with_item b i (mine m items))
    go true none rest = (none, rest)
    go false none rest = subst (λ (l : List Item). AreApart l (mine m items)) (append-nil (mine m before)) rest

-- ---- a part is valid

passed : {X : Type 0} (b : Bool) (x : X) (rest : Option X) → (if b then Some x else rest) ≡ None → (b ≡ false) × (rest ≡ None)
passed true x rest e = absurd cc
passed false x rest e = (refl, e)

pub part_valid : (memories size m place : ℕ) (items : List Item) → ¬ (part m place items ≡ []) → refusal items memories size ≡ None → refusal (part m place items) memories size ≡ None
part_valid memories size m place items some valid =
    let own = part m place items in
    let fewer = part_few m place items in
    let a = passed (length items == 0) fault.Empty _ valid in
    let b = passed (nat_lt 512 (length items)) fault.TooManyItems _ a.1 in
    let c = passed (nat_lt 1048576 (bytes_of_all items)) fault.TooLarge _ b.1 in
    let few : length items ≤ 512 = ltb-false 512 (length items) b.0 in
    let small : bytes_of_all items ≤ 1048576 = ltb-false 1048576 (bytes_of_all items) c.0 in
    let shorter = fewer.0 in
    let smaller = fewer.1 in
    let last = outside (first_outside memories size 0 items) refl c.1 in
    ap (λ (x : Bool). if x then Some fault.Empty else if nat_lt 512 (length own) then Some fault.TooManyItems else if nat_lt 1048576 (bytes_of_all own) then Some fault.TooLarge else place_refusal (first_outside memories size 0 own) own)
    (ne_eqb (length own) 0 (λ e. some (no_length own e)))
    ∙ ap (λ (x : Bool). if x then Some fault.TooManyItems else if nat_lt 1048576 (bytes_of_all own) then Some fault.TooLarge else place_refusal (first_outside memories size 0 own) own)
    (le-ltb 512 (length own) (omega (arith, shorter, few)))
    ∙ ap (λ (x : Bool). if x then Some fault.TooLarge else place_refusal (first_outside memories size 0 own) own)
    (le-ltb 1048576 (bytes_of_all own) (omega (arith, smaller, small)))
    ∙ ap (λ (o : Option ℕ). place_refusal o own) (part_inside memories size m place 0 0 items last.0)
    ∙ ap (λ (o : Option ℕ). overlap_refusal o)
    (ap (λ (l : List Item). first_overlap l 0 l) (part_mine m place items) ∙ of_apart [] (mine m items) (mine_apart m [] items (apart_of [] items last.1)))
  where
    no_length : (l : List Item) → length l ≡ 0 → l ≡ []
    no_length [] e = refl
    no_length (x ∷ l) e = absurd cc

    no_overlap : (o : Option ℕ) → overlap_refusal o ≡ None → o ≡ None
    no_overlap None e = refl
    no_overlap (Some k) e = absurd cc

    outside : (o : Option ℕ) → first_outside memories size 0 items ≡ o → place_refusal o items ≡ None → (first_outside memories size 0 items ≡ None) × (first_overlap items 0 items ≡ None)
    outside None is e = (is, no_overlap (first_overlap items 0 items) e)
    outside (Some k) is e = absurd cc

-- ---- a participant has an item

in_placed : (m n : ℕ) (ns : List ℕ) → In m (placed_in n ns) → (m ≡ n) ⊎ In m ns
in_placed m n [] is = is
in_placed m n (k ∷ ns) is = go (nat_lt k n) (k == n) (in_placed m n ns) is
  where
    go : (a b : Bool) → (In m (placed_in n ns) → (m ≡ n) ⊎ In m ns) → In m (if a then k ∷ placed_in n ns else if b then k ∷ ns else n ∷ (k ∷ ns)) → (m ≡ n) ⊎ In m (k ∷ ns)
    go true b rest (inl one) = inr (inl one)
    go true b rest (inr there) = elim (rest there) [ inl one ↦ inl one | inr old ↦ inr (inr old) ]
    go false true rest there = inr there
    go false false rest (inl one) = inl one
    go false false rest (inr there) = inr there

pub has_item : (m place : ℕ) (items : List Item) → In m (participants_of items) → ¬ (part m place items ≡ [])
has_item m place [] is none = absurd is
has_item m place (i ∷ items) is none =
    go (memory_of i == m) refl (in_placed m (memory_of i) (participants_of items) is) (has_item m (place + 1) items) (sym (part_is m place i items) ∙ none)
  where
    go : (b : Bool) → (memory_of i == m) ≡ b → (m ≡ memory_of i) ⊎ In m (participants_of items) → (In m (participants_of items) → ¬ (part m (place + 1) items ≡ []))
        → with_item b i (part m (place + 1) items) ≡ [] → ⊥
    go true same either rest empty = cc
    go false other (inl one) rest empty = eqb-false (memory_of i) m other (sym one)
    go false other (inr there) rest empty = rest there empty

-- ---- what is posted

module _ (size : ℕ) (story : Story) (setup : Setup) (was : IsTold size story) (nodes : setup.geometry.nodes ≡ length story.nodes)
    (memories : setup.geometry.memories ≡ length story.opening) (size_is : size_of setup ≡ size) where
  coordinator_fits : (id : TxId) → WasBegun story.begun id → id.coord < setup.geometry.nodes
  coordinator_fits id begun =
      let below : id.coord < length story.nodes = subst (λ (t : TxId). t.coord < length story.nodes) begun.2
      (known_coord story begun.0 (slice_get story.nodes begun.0.id.coord) refl ((told_stories_hold size story was).counted.past begun.0 begun.1)) in
      omega (arith, below, nodes)

  all_below : (items : List Item) → AllByRecursion (IsWithin (held_at_opening story)) items → AllByRecursion (λ (i : Item). memory_of i < setup.geometry.memories) items
  all_below [] all = tt
  all_below (i ∷ items) all =
      let there = all.0.there in
      let same : length (held_at_opening story) ≡ length story.opening = length-map story.opening (λ (z : State). z.image) in
      (omega (arith, there, same, memories), all_below items all.1)

  prepare_fits : (id : TxId) (participants : List ℕ) (items : List PlacedItem) (b : Begun) → In b story.begun → IsPart b (Memory setup.index) id participants items
      → IsFitPrepare setup id participants items
  prepare_fits id participants items b there part_ =
      let fit = told_fit size story was in
      let here : part_.memory ≡ setup.index = memory_is part_.memory setup.index (sym part_.receiver) in
      let own : items ≡ placed_from setup.index 0 b.items = part_.items_are ∙ ap (λ (k : ℕ). placed_from k 0 b.items) here in
      let takes : In setup.index (participants_of b.items) = subst (λ (k : ℕ). In k (participants_of b.items)) here part_.takes_part in
      let within =
      valid_within b.items (held_at_opening story) size
      (ap (λ (k : ℕ). refusal b.items k size) (length-map story.opening (λ (z : State). z.image)) ∙ fit.valid b there) (held_sized size story was) in
      let few : length b.items ≤ 512 = ltb-false 512 (length b.items) (passed (nat_lt 512 (length b.items)) fault.TooManyItems _ (passed (length b.items == 0) fault.Empty _ (fit.valid b there)).1).0 in
      record {
        coordinator = coordinator_fits id (b, there, part_.same);
        ascend = subst (λ (l : List ℕ). AscendBelow setup.geometry.memories l) (sym part_.participants_are)
            (parts_ascend setup.geometry.memories b.items (all_below b.items (recursion_from_All (IsWithin (held_at_opening story)) b.items within)));
        among = subst (λ (l : List ℕ). Contains l setup.index) (sym part_.participants_are) (contains (participants_of b.items) setup.index takes);
        own = subst (λ (l : List PlacedItem). All (λ (q : PlacedItem). memory_of q.item ≡ setup.index) l) (sym own)
            (All-from_recursion (λ (q : PlacedItem). memory_of q.item ≡ setup.index) (placed_from setup.index 0 b.items) (own_memory setup.index 0 b.items));
        valid = subst (λ (l : List PlacedItem). refusal (map (λ (q : PlacedItem). q.item) l) setup.geometry.memories (size_of setup) ≡ None) (sym own)
            (ap (λ (k : ℕ). refusal (part setup.index 0 b.items) k (size_of setup)) memories ∙ ap (λ (k : ℕ). refusal (part setup.index 0 b.items) (length story.opening) k) size_is
            ∙ part_valid (length story.opening) size setup.index 0 b.items (has_item setup.index 0 b.items takes) (fit.valid b there));
        places = subst (λ (l : List PlacedItem). AscendBelow 512 (map (λ (q : PlacedItem). q.place) l)) (sym own) (places_below setup.index 0 b.items (omega (arith, few)));
      }

  message_fits : (x : Message) → IsAboutBegun story.begun (Memory setup.index) x → IsFitMessage setup x
  message_fits (message.Prepare id participants items) about = prepare_fits id participants items about.0 about.1 about.2
  message_fits (message.Voted id v) about = coordinator_fits id about
  message_fits (message.Decide id commit) about = coordinator_fits id about
  message_fits (message.Done id) about = coordinator_fits id about
  message_fits (message.Forget id) about = coordinator_fits id about
  message_fits message.List about = tt
  message_fits (message.Kept ids cut) about = tt
  message_fits (message.Ask id) about = coordinator_fits id about
  message_fits (message.Answer id ok) about = coordinator_fits id about
  message_fits (message.Hold cut) about = tt
  message_fits (message.Held cut answer) about = tt
  message_fits (message.Release cut) about = tt
  message_fits (message.Drop cut) about = tt
  message_fits (message.ReadCut cut place) about = tt
  message_fits (message.Piece cut place bytes) about = tt

pub posted_are_fit : PostedAreFit
posted_are_fit size story setup p was there to nodes memories size_is =
    message_fits size story setup was nodes memories size_is p.message
    (subst (λ (a : Actor). IsAboutBegun story.begun a p.message) to ((told_stories_hold size story was).voted.begun.posted p there))
