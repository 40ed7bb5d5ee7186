-- Groups of slots, block by block.
use Rattle.std.proofs.Common.{◌≡◌, ℕ, zero, suc, ◌+◌, ◌-◌, ◌*◌, ◌<◌, ◌⊎◌, inl, inr, true, false, Bool, List, [], ◌∷◌, ◌++◌, Option, Some, None, refl, sym, ap, subst, ◌∙◌, arith}
use Rattle.std.specs.Prelude.{nat_lt, length, map, take, drop, filter, flat_map, slice_get, option_map, is_some, min}
use Rattle.std.specs.Option.{option_map_or}
use Rattle.std.proofs.lemmas.Bool.{ltb-true, ltb-false}
use Rattle.std.proofs.lemmas.List.{map-append, take-append-le, drop-append-le, length-append, length-drop, take_all, append-nil}
use Rattle.std.proofs.lemmas.List.Elements.{All-append, All-take, All-drop, filter-append}
use Rattle.std.proofs.lemmas.Grind.{flat_map-append}
use Rattle.std.proofs.lemmas.Option.{slice_get-map, slice_get-get_or, slice_get_within}
use Rattle.std.proofs.Math.Seq.{drop-append-add}
use Rattle.fs_layout.specs.declared.reference.Reference.{Reference}
use Rattle.fs_layout.specs.Places.{block_place}
use Rattle.fs_dir.specs.declared.slot.Slot.{Slot}
use Rattle.fs_dir.specs.Slots.{SpellsSlots}
use Rattle.fs_rules.specs.declared.geometry.Geometry.{Geometry}
use Rattle.fs_rules.specs.Lists.{below}
use Rattle.fs_laws.proofs.ToldLemmas.{length_below}
use Rattle.fs_laws.proofs.ContentLemmas.{get_below}
use Rattle.fs_image.specs.Owners.{Block}
use Rattle.fs_image.specs.Places.{layout_of}
use Rattle.mini_tx.specs.declared.item.Item.{Item}
use Rattle.mini_tx.specs.declared.item.Item.TheVariants as item
use Rattle.node_cache.specs.declared.entry.Entry.{Entry}
use Rattle.node_cache.specs.declared.held.Held.{Held}
use Rattle.node_cache.specs.declared.want.Want.TheVariants as want
use Rattle.node_cache.specs.Cached.{held_of}
use Rattle.plan_rules.specs.Told.{place_of, dir_blocks}
use Rattle.plan_rules.specs.Fits.{AreFitSlots, IsFitSlot}
use Rattle.plan_rules.specs.Fetched.{is_read, read_items, block_read, part_read, blocks_in, fetched, IsUnfitAt}
use Rattle.plan_rules.specs.Works.{IsWorkSet, IsTold}
use Rattle.plan_keep.specs.Links.{AreSlotsRead, LiesThere, IsUnfitBlock, IsNthUnfit}
use Rattle.plan_keep.proofs.ToldLemmas.{block_lies}
use Rattle.plan_keep.proofs.UnfitLemmas.{no_stamp}

-- ---- reading

module _ (g : Geometry) (reads : List (List ℕ)) (i : ℕ) (bytes : List ℕ) (slots more : List Slot) (so_far : AreSlotsRead g reads i slots)
    (at : slice_get reads i ≡ Some bytes) (spelled : SpellsSlots more bytes) where
  old_slots : (j : ℕ) → j < i → take 15 (drop (15 * j) (slots ++ more)) ≡ take 15 (drop (15 * j) slots)
  old_slots j below =
      let sized = so_far.sized in
      ap (take 15) (drop-append-le (15 * j) slots more (omega (arith, below, sized)))
      ∙ take-append-le 15 (drop (15 * j) slots) more (omega (arith, below, sized, length-drop (15 * j) slots))

  new_slots : take 15 (drop (15 * i) (slots ++ more)) ≡ more
  new_slots =
      let sized = so_far.sized in
      let whole = spelled.sized in
      ap (take 15) (ap (λ n. drop n (slots ++ more)) (let e : 15 * i ≡ length slots + 0 = omega (arith, sized) in e) ∙ drop-append-add slots more 0)
      ∙ take_all 15 more (omega (arith, whole))

  new_bytes : (b : List ℕ) → slice_get reads i ≡ Some b → bytes ≡ b
  new_bytes b is = let same : ◌≡◌ {A = Option (List ℕ)} (Some bytes) (Some b) = sym at ∙ is in cc

  nth_by : (j : ℕ) (b : List ℕ) → (j < i) ⊎ (j ≡ i) → slice_get reads j ≡ Some b → SpellsSlots (take 15 (drop (15 * j) (slots ++ more))) b
  nth_by j b (inl below) is = subst (λ s. SpellsSlots s b) (sym (old_slots j below)) (so_far.spelled j b below is)
  nth_by j b (inr same) is =
      subst (λ k. SpellsSlots (take 15 (drop (15 * k) (slots ++ more))) b) (sym same)
      (subst (λ s. SpellsSlots s b) (sym new_slots) (subst (λ c. SpellsSlots more c) (new_bytes b (subst (λ k. slice_get reads k ≡ Some b) same is)) spelled))

  cases_by : (j : ℕ) (b : Bool) → nat_lt j i ≡ b → j < i + 1 → (j < i) ⊎ (j ≡ i)
  cases_by j true is below = inl (ltb-true j i is)
  cases_by j false is below = let past = ltb-false j i is in inr (omega (arith, below, past))

  cases_at : (j : ℕ) → j < i + 1 → (j < i) ⊎ (j ≡ i)
  cases_at j below = cases_by j (nat_lt j i) refl below

  -- one block more was read
  pub read_more : AreFitSlots g more → AreSlotsRead g reads (i + 1) (slots ++ more)
  read_more fit =
      let sized = so_far.sized in
      let whole = spelled.sized in
      record {
        sized = omega (arith, sized, whole, length-append slots more);
        spelled = λ j b below is. nth_by j b (cases_at j below) is;
        fit = All-append (IsFitSlot g) slots more so_far.fit fit;
      }

pub none_read : (g : Geometry) (reads : List (List ℕ)) → AreSlotsRead g reads 0 []
none_read g reads =
    record {
      sized = omega arith;
      spelled = λ j bytes below is. absurd (omega (arith, below));
      fit = λ k d within. absurd (omega (arith, within));
    }

-- ---- where they lie

module _ (held : Held) (n : ℕ) where
  -- the read of a block, where it lies somewhere
  abbrev pub item_at : ℕ → Item
  item_at i = option_map_or (λ r. block_read held.geometry r) (place_of held n (Block i)) (item.Read 0 0 0)

  single_by : (o : Option Reference) → is_some o ≡ true
      → filter is_read (option_map_or (λ r. block_read held.geometry r ∷ []) o []) ≡ option_map_or (λ r. block_read held.geometry r) o (item.Read 0 0 0) ∷ []
  single_by None some = absurd cc
  single_by (Some r) some = refl

  pub all_items : (first c : ℕ) → ((j : ℕ) → j < c → is_some (place_of held n (Block (first + j))) ≡ true)
      → filter is_read (flat_map (λ j. part_read held n (Block (first + j))) (below c)) ≡ map (λ j. item_at (first + j)) (below c)
  unfolding below
  all_items first zero there = refl
  all_items first (suc c) there =
      ap (filter is_read) (flat_map-append (λ j. part_read held n (Block (first + j))) (below c) (c ∷ []))
      ∙ filter-append is_read (flat_map (λ j. part_read held n (Block (first + j))) (below c)) (part_read held n (Block (first + c)) ++ [])
      ∙ ap (λ xs. xs ++ filter is_read (part_read held n (Block (first + c)) ++ [])) (all_items first c (λ j less. there j (omega (arith, less))))
      ∙ ap (λ xs. map (λ j. item_at (first + j)) (below c) ++ filter is_read xs) (append-nil (part_read held n (Block (first + c))))
      ∙ ap (λ xs. map (λ j. item_at (first + j)) (below c) ++ xs) (single_by (place_of held n (Block (first + c))) (there c (omega arith)))
      ∙ sym (map-append (λ j. item_at (first + j)) (below c) (c ∷ []))

  nth_item : (first c j : ℕ) → j < c → slice_get (map (λ k. item_at (first + k)) (below c)) j ≡ Some (item_at (first + j))
  nth_item first c j less =
      slice_get-map (λ k. item_at (first + k)) (below c) j
      ∙ ap (λ o. option_map (λ k. item_at (first + k)) o) (slice_get-get_or (below c) j 0 (subst (λ l. j < l) (sym (length_below c)) less) ∙ ap Some (get_below c j 0 less))

module _ (held : Held) (work : IsWorkSet held) (n g : ℕ) (told : IsTold held (want.Slots n g)) where
  pub inside_by : (j b : ℕ) → j < min 64 (b - 64 * g) → 64 * g + j < b
  inside_by j b less = omega (arith, less)

  told_by : (j : ℕ) (o : Option Entry) → j < option_map_or (λ e. min 64 (dir_blocks e.attrs - 64 * g)) o 0 → 64 * g + j < option_map_or (λ e. dir_blocks e.attrs) o 0
  told_by j None less = absurd (omega (arith, less))
  told_by j (Some e) less = inside_by j (dir_blocks e.attrs) less

  -- each block of the group lies somewhere
  pub nth_lies : (j : ℕ) → j < blocks_in held n g → (r : Reference) × (place_of held n (Block (64 * g + j)) ≡ Some r)
  nth_lies j less = block_lies held work n g (64 * g + j) told (told_by j (held_of n held.entries) less)

  few_by : (j : ℕ) (o : Option Entry) → j < option_map_or (λ e. min 64 (dir_blocks e.attrs - 64 * g)) o 0 → j < 64
  few_by j None less = absurd (omega (arith, less))
  few_by j (Some e) less = omega (arith, less)

  -- a group has few blocks
  pub few_blocks : (j : ℕ) → j < blocks_in held n g → j < 64
  few_blocks j less = few_by j (held_of n held.entries) less

  pub nth_there : (j : ℕ) → j < blocks_in held n g → is_some (place_of held n (Block (64 * g + j))) ≡ true
  nth_there j less = ap is_some (nth_lies j less).1

  -- what is read of it
  pub group_item : (j m at : ℕ) (r : Reference) → j < blocks_in held n g → place_of held n (Block (64 * g + j)) ≡ Some r → LiesThere held.geometry r m at
      → slice_get (read_items (fetched held (want.Slots n g))) j ≡ Some (item.Read m at 4096)
  unfolding fetched
  group_item j m at r less place lies =
      ap (λ items. slice_get items j) (no_stamp held n (flat_map (λ k. part_read held n (Block (64 * g + k))) (below (blocks_in held n g))) (held_of n held.entries) refl
      ∙ all_items held n (64 * g) (blocks_in held n g) nth_there)
      ∙ nth_item held n (64 * g) (blocks_in held n g) j less
      ∙ ap (λ o. Some (option_map_or (λ p. block_read held.geometry p) o (item.Read 0 0 0))) place
      ∙ (ap (λ k. Some (item.Read k (block_place (layout_of held.geometry) r.block) 4096)) (sym lies.memory_is) ∙ ap (λ k. Some (item.Read m k 4096)) (sym lies.at_is))

  pub unfit_group : (reads : List (List ℕ)) (m at : ℕ) → length reads ≡ blocks_in held n g → IsUnfitBlock held n g reads m at → IsUnfitAt held (want.Slots n g) reads m at
  unfit_group reads m at sized unfit =
      let within = slice_get_within reads unfit.index unfit.bytes unfit.read in
      record {
        index = unfit.index;
        len = 4096;
        bytes = unfit.bytes;
        read = unfit.read;
        item_is = group_item unfit.index m at unfit.place (subst (λ c. unfit.index < c) sized within) unfit.place_is unfit.lies;
        unfit = unfit.unfit;
        before = unfit.before;
      }

  -- the blocks before one that is unfit are fit
  pub unfit_there : (reads : List (List ℕ)) (j m at : ℕ) (bytes : List ℕ) (slots : List Slot) → AreSlotsRead held.geometry reads j slots → slice_get reads j ≡ Some bytes
      → IsNthUnfit held n (64 * g + j) bytes m at → IsUnfitBlock held n g reads m at
  unfit_there reads j m at bytes slots so_far is unfit =
      record {
        index = j;
        bytes = bytes;
        read = is;
        place = unfit.place;
        place_is = unfit.place_is;
        lies = unfit.lies;
        unfit = unfit.unfit;
        before = λ i b below there.
            (take 15 (drop (15 * i) slots), so_far.spelled i b below there, All-take (IsFitSlot held.geometry) 15 (drop (15 * i) slots) (All-drop (IsFitSlot held.geometry) (15 * i) slots so_far.fit));
      }
