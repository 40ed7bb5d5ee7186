-- What a fetch reads, where its stamp stands.
use Rattle.std.proofs.Common.{◌≡◌, ℕ, zero, suc, ◌+◌, ◌<◌, inl, inr, List, [], ◌∷◌, ◌++◌, length, Option, Some, None, refl, sym, ap, subst, ◌∙◌, arith}
use Rattle.std.specs.Prelude.{flat_map, slice_get, true}
use Rattle.std.specs.Option.{option_map_or}
use Rattle.std.specs.List.{AllByRecursion}
use Rattle.std.proofs.lemmas.Bool.{cases_lt}
use Rattle.std.proofs.lemmas.Grind.{flat_map-append}
use Rattle.std.proofs.lemmas.List.{append-nil, length-append}
use Rattle.std.proofs.lemmas.List.Elements.{All-from_recursion, recursion_from_All}
use Rattle.fs_layout.specs.declared.reference.Reference.{Reference}
use Rattle.fs_layout.specs.Places.{record_at}
use Rattle.fs_rules.specs.declared.plain_tree.PlainTree.{PlainTree}
use Rattle.fs_rules.specs.Lists.{below}
use Rattle.fs_image.specs.Owners.{Part, Block}
use Rattle.fs_image.specs.Places.{block_bytes}
use Rattle.fs_image.specs.Stamps.{stamp}
use Rattle.mini_tx.specs.declared.item.Item.{Item}
use Rattle.mini_tx.specs.declared.item.Item.TheVariants as item
use Rattle.mini_tx.specs.FlatMemory.{Flat, ItemMatches, Matches, bytes_at, held_by, reads}
use Rattle.node_cache.specs.declared.entry.Entry.{Entry}
use Rattle.node_cache.specs.declared.held.Held.{Held}
use Rattle.node_cache.specs.declared.want.Want.TheVariants as want
use Rattle.node_cache.specs.Cached.{held_of}
use Rattle.plan_rules.specs.declared.look.Look.{Look}
use Rattle.plan_rules.specs.declared.look.Look.TheVariants.{Record}
use Rattle.plan_rules.specs.Compared.{compares, firsts, stamp_items}
use Rattle.plan_rules.specs.Fetched.{block_read, part_read}
use Rattle.plan_rules.specs.Matched.{IsOwnFile, IsOwnLook}
use Rattle.plan_rules.specs.Steps.{is_held, part_of}
use Rattle.plan_rules.specs.Told.{memory_at, inode_at, place_of}
use Rattle.plan_rules.specs.Works.{IsWorkSet}
use Rattle.plan_rules.proofs.MatchedLemmas.{matched_looks_are_own}
use Rattle.read_laws.specs.Promise.{IsTrueOf}

-- ---- reads behind a stamp

stamp_by : (flat : Flat) (n : ℕ) (p : Option Entry) (others : List Item)
    → reads (option_map_or (λ e. item.Compare (memory_at n) (record_at (inode_at n) + 24) (stamp e.attrs) ∷ []) p [] ++ others) flat ≡ reads others flat
stamp_by flat n None others = refl
stamp_by flat n (Some e) others = refl

pub behind_stamp : (held : Held) (flat : Flat) (n : ℕ) (others : List Item) → reads (stamp_items held n ++ others) flat ≡ reads others flat
behind_stamp held flat n others = stamp_by flat n (held_of n held.entries) others

pub reads_both : (flat : Flat) (xs ys : List Item) → reads (xs ++ ys) flat ≡ reads xs flat ++ reads ys flat
reads_both flat [] ys = refl
reads_both flat (item.Compare memory at bytes ∷ xs) ys = reads_both flat xs ys
reads_both flat (item.Read memory at len ∷ xs) ys = ap (λ rs. bytes_at (held_by flat memory) at len ∷ rs) (reads_both flat xs ys)
reads_both flat (item.Write memory at bytes ∷ xs) ys = reads_both flat xs ys

-- ---- blocks

-- a part that is placed is one block
pub one_block : (held : Held) (flat : Flat) (n : ℕ) (x : Part) (r : Reference) → place_of held n x ≡ Some r → reads (part_read held n x) flat ≡ block_bytes held.geometry flat r ∷ []
one_block held flat n x r is = ap (λ (p : Option Reference). reads (option_map_or (λ q. block_read held.geometry q ∷ []) p []) flat) is

-- and one that is read is placed
placed_by : (held : Held) (flat : Flat) (p : Option Reference) (bytes : List ℕ) → reads (option_map_or (λ q. block_read held.geometry q ∷ []) p []) flat ≡ bytes ∷ []
    → (r : Reference) × (p ≡ Some r) × (bytes ≡ block_bytes held.geometry flat r)
placed_by held flat None bytes is = absurd cc
placed_by held flat (Some r) bytes is = (r, refl, (let same : block_bytes held.geometry flat r ≡ bytes = cc in sym same))

pub is_placed : (held : Held) (flat : Flat) (n : ℕ) (x : Part) (bytes : List ℕ) → reads (part_read held n x) flat ≡ bytes ∷ []
    → (r : Reference) × (place_of held n x ≡ Some r) × (bytes ≡ block_bytes held.geometry flat r)
is_placed held flat n x bytes is = placed_by held flat (place_of held n x) bytes is

some_is : (r q : Reference) → ◌≡◌ {A = Option Reference} (Some r) (Some q) → r ≡ q
some_is r q is = cc

at_end : {X : Type 0} (xs : List X) (x : X) (j : ℕ) → j ≡ length xs → slice_get (xs ++ x ∷ []) j ≡ Some x
at_end [] x zero is = refl
at_end [] x (suc j) is = absurd (omega (arith, is))
at_end (y ∷ xs) x zero is = absurd (omega (arith, is))
at_end (y ∷ xs) x (suc j) is = at_end xs x j (omega (arith, is))

before_end : {X : Type 0} (xs : List X) (x : X) (j : ℕ) → j < length xs → slice_get (xs ++ x ∷ []) j ≡ slice_get xs j
before_end [] x j less = absurd (omega (arith, less))
before_end (y ∷ xs) x zero less = refl
before_end (y ∷ xs) x (suc j) less = before_end xs x j (omega (arith, less))

-- those of a row of blocks that are all placed
module _ (held : Held) (flat : Flat) (n first : ℕ) where
  abbrev row : ℕ → List (List ℕ)
  row c = reads (flat_map (λ j. part_read held n (Block (first + j))) (below c)) flat

  row_none : row 0 ≡ []
  unfolding below
  row_none = refl

  below_more : (c : ℕ) → below (suc c) ≡ below c ++ c ∷ []
  unfolding below
  below_more c = refl

  row_more : (c : ℕ) (r : Reference) → place_of held n (Block (first + c)) ≡ Some r → row (suc c) ≡ row c ++ block_bytes held.geometry flat r ∷ []
  row_more c r is =
      let f = λ (j : ℕ). part_read held n (Block (first + j)) in
      ap (λ ks. reads (flat_map f ks) flat) (below_more c)
      ∙ ap (λ items. reads items flat) (flat_map-append f (below c) (c ∷ []) ∙ ap (λ xs. flat_map f (below c) ++ xs) (append-nil (f c)))
      ∙ reads_both flat (flat_map f (below c)) (f c)
      ∙ ap (λ rs. row c ++ rs) (one_block held flat n (Block (first + c)) r is)

  pub row_sized : (c : ℕ) → ((j : ℕ) → j < c → (r : Reference) × (place_of held n (Block (first + j)) ≡ Some r)) → length (row c) ≡ c
  row_sized zero each = ap length row_none
  row_sized (suc c) each =
      let last = each c (omega arith) in
      let rest = row_sized c (λ j less. each j (omega (arith, less))) in
      ap length (row_more c last.0 last.1) ∙ length-append (row c) (block_bytes held.geometry flat last.0 ∷ []) ∙ (let sum : length (row c) + 1 ≡ suc c = omega (arith, rest) in sum)

  pub row_at : (c j : ℕ) → ((i : ℕ) → i < c → (r : Reference) × (place_of held n (Block (first + i)) ≡ Some r)) → j < c → (r : Reference)
      → place_of held n (Block (first + j)) ≡ Some r → slice_get (row c) j ≡ Some (block_bytes held.geometry flat r)
  row_at zero j each less r is = absurd (omega (arith, less))
  row_at (suc c) j each less r is =
      let last = each c (omega arith) in
      let before = λ (i : ℕ) (below_it : i < c). each i (omega (arith, below_it)) in
      let sized = row_sized c before in
      ap (λ rs. slice_get rs j) (row_more c last.0 last.1)
      ∙ elim (cases_lt j c) [
        | inl inside ↦ before_end (row c) (block_bytes held.geometry flat last.0) j (omega (arith, inside, sized)) ∙ row_at c j before inside r is
        | inr end ↦ (
            let here : j ≡ c = omega (arith, less, end) in
            let same : last.0 ≡ r = some_is last.0 r (sym last.1 ∙ ap (λ i. place_of held n (Block (first + i))) (sym here) ∙ is) in
            at_end (row c) (block_bytes held.geometry flat last.0) j (omega (arith, here, sized)) ∙ ap (λ q. Some (block_bytes held.geometry flat q)) same)
      ]

-- ---- a stamp that stands

front_matches : (flat : Flat) (xs ys : List Item) → AllByRecursion (ItemMatches flat) (xs ++ ys) → AllByRecursion (ItemMatches flat) xs
front_matches flat [] ys all = tt
front_matches flat (x ∷ xs) ys all = (all.0, front_matches flat xs ys all.1)

one_compared : (held : Held) (n : ℕ) → compares held (Record n ∷ []) ≡ stamp_items held n
unfolding compares firsts
one_compared held n = append-nil (stamp_items held n)

-- tells that what is held of its file is the memory's own
pub stamped_is_own : (held : Held) (flat : Flat) (t : PlainTree) (work : IsWorkSet held) (of_it : IsTrueOf held flat t) (n : ℕ) → is_held held (want.Inode n) ≡ true
    → (others : List Item) → Matches (stamp_items held n ++ others) flat → IsOwnFile t.geometry flat of_it.stands.owners held n
stamped_is_own held flat t work of_it n there others match =
    let looks : List Look = Record n ∷ [] in
    let all = matched_looks_are_own held looks flat t of_it.stands.owners work of_it.same of_it.stands.shows of_it.entries
    (All-from_recursion (λ l. is_held held (part_of l) ≡ true) looks (there, tt))
    (subst (λ (items : List Item). Matches items flat) (sym (one_compared held n))
    (All-from_recursion (ItemMatches flat) (stamp_items held n)
    (front_matches flat (stamp_items held n) others (recursion_from_All (ItemMatches flat) (stamp_items held n ++ others) match)))) in
    (recursion_from_All (IsOwnLook t.geometry flat of_it.stands.owners held) looks all).0
