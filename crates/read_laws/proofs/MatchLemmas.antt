-- What is the flat memory's own matches it.
use Rattle.std.proofs.Common.{◌≡◌, ℕ, zero, suc, ◌+◌, ◌≤◌, true, false, cond, Bool, IsTrue, List, [], ◌∷◌, ◌++◌, Option, Some, None, refl, sym, ap, subst, ◌∙◌, arith}
use Rattle.std.specs.Prelude.{◌/◌, ◌||◌, nat_eq, length, take, drop, map, flat_map, slice_get, get_or, unwrap_or, is_some}
use Rattle.std.specs.Option.{option_map_or}
use Rattle.std.specs.List.{list_any, AllByRecursion}
use Rattle.std.proofs.lemmas.Bool.{eqb-true}
use Rattle.std.proofs.lemmas.List.{take-take, length-take, length-drop}
use Rattle.std.proofs.lemmas.List.Elements.{All-from_recursion, recursion_from_All}
use Rattle.fs_layout.specs.Places.{record_at}
use Rattle.fs_rules.specs.declared.geometry.Geometry.{Geometry}
use Rattle.fs_rules.specs.declared.plain_tree.PlainTree.{PlainTree}
use Rattle.mini_tx.specs.declared.item.Item.{Item}
use Rattle.mini_tx.specs.declared.item.Item.TheVariants as item
use Rattle.mini_tx.specs.FlatMemory.{Flat, held_by, bytes_at, ItemMatches}
use Rattle.fs_image.specs.Owners.{Owners}
use Rattle.fs_image.specs.Places.{inode_bytes, block_map, inode_map}
use Rattle.fs_image.specs.Stamps.{stamp}
use Rattle.fs_image.specs.Stands.{Shows}
use Rattle.fs_image.proofs.StampLemmas.{stamp_in_record}
use Rattle.node_cache.specs.declared.entry.Entry.{Entry}
use Rattle.node_cache.specs.declared.held.Held.{Held}
use Rattle.node_cache.specs.Cached.{held_of}
use Rattle.node_cache.specs.Truth.{IsOwn, LiesAt}
use Rattle.plan_rules.specs.declared.look.Look.{Look}
use Rattle.plan_rules.specs.declared.look.Look.TheVariants.{Record, Chaining, Group, BlockBits, InodeBits}
use Rattle.plan_rules.specs.declared.look.Subject.{Subject}
use Rattle.plan_rules.specs.declared.look.Subject.TheVariants.{Maps}
use Rattle.plan_rules.specs.Compared.{subject_of, is_same, firsts, is_at_blocks, is_at_inodes, stamp_items, block_items, inode_items, items_of, compares}
use Rattle.plan_rules.specs.Matched.{IsOwnFile, IsOwnLook}
use Rattle.plan_rules.specs.Steps.{part_of, is_held}
use Rattle.plan_rules.specs.Told.{memory_at, inode_at, is_number, map_of, block_bits, inode_bits}
use Rattle.plan_rules.specs.Works.{IsWorkSet}
use Rattle.plan_rules.proofs.MatchedLemmas.{lies_at, sixteen, within}
use Rattle.plan_rules.proofs.SearchLemmas.{found_there}
use Rattle.read_laws.specs.Laws.{OwnLooksMatch}

-- ---- lists

pub joined : {X : Type 0} (P : X → Type 0) (xs ys : List X) → AllByRecursion P xs → AllByRecursion P ys → AllByRecursion P (xs ++ ys)
joined P [] ys first second = second
joined P (x ∷ xs) ys first second = (first.0, joined P xs ys first.1 second)

pub all_parts : {X Y : Type 0} (P : Y → Type 0) (f : X → List Y) (xs : List X) → AllByRecursion (λ x. AllByRecursion P (f x)) xs → AllByRecursion P (flat_map f xs)
all_parts P f [] all = tt
all_parts P f (x ∷ xs) all = joined P (f x) (flat_map f xs) all.0 (all_parts P f xs all.1)

first_by : (P : Subject → Type 0) (s : Subject) (b : Bool) (a c : List Subject) → P s → AllByRecursion P a → AllByRecursion P c → AllByRecursion P (cond b a (s ∷ c))
first_by P s true a c is first rest = first
first_by P s false a c is first rest = (is, rest)

firsts_among : (P : Subject → Type 0) (subjects before : List Subject) → AllByRecursion P subjects → AllByRecursion P (firsts before subjects)
unfolding firsts
firsts_among P [] before all = tt
firsts_among P (s ∷ subjects) before all =
    first_by P s (list_any (is_same s) before) (firsts before subjects) (firsts (before ++ s ∷ []) subjects) all.0 (firsts_among P subjects before all.1)
    (firsts_among P subjects (before ++ s ∷ []) all.1)

both_all : {X : Type 0} (P Q : X → Type 0) (xs : List X) → AllByRecursion P xs → AllByRecursion Q xs → AllByRecursion (λ x. P x × Q x) xs
both_all P Q [] p q = tt
both_all P Q (x ∷ xs) p q = ((p.0, q.0), both_all P Q xs p.1 q.1)

module _ (held : Held) (looks : List Look) (flat : Flat) (t : PlainTree) (o : Owners) (work : IsWorkSet held) (same : held.geometry ≡ t.geometry)
    (shows : Shows flat t o) where
  abbrev Matched : List Item → Type 0
  Matched items = AllByRecursion (ItemMatches flat) items

  -- ---- stamps

  stamp_stands : (n : ℕ) (e : Entry) → held_of n held.entries ≡ Some e → IsOwn t.geometry flat (o.place n) e
      → bytes_at (held_by flat (memory_at n)) (record_at (inode_at n) + 24) (length (stamp e.attrs)) ≡ stamp e.attrs
  stamp_stands n e here own =
      let there = found_there (λ x. nat_eq n x.number) e held.entries here in
      let number : n ≡ e.number = eqb-true n e.number there.2 in
      let fit = work.entries there.0 e there.1 in
      let lies : LiesAt t.geometry n (memory_at n) (inode_at n) =
      lies_at t.geometry n (subst (λ (g : Geometry). IsTrue (is_number g n)) same (subst (λ k. IsTrue (is_number held.geometry k)) (sym number) fit.number)) in
      let spelled = own.record_is (memory_at n) (inode_at n) (subst (λ k. LiesAt t.geometry k (memory_at n) (inode_at n)) number lies) in
      ap (λ len. bytes_at (held_by flat (memory_at n)) (record_at (inode_at n) + 24) len) (sixteen e.attrs)
      ∙ sym (within (held_by flat (memory_at n)) (record_at (inode_at n)))
      ∙ stamp_in_record e.attrs (inode_bytes flat (memory_at n) (inode_at n)) spelled

  stamp_by : (n : ℕ) (p : Option Entry) → held_of n held.entries ≡ p → IsOwnFile t.geometry flat o held n
      → Matched (option_map_or (λ e. item.Compare (memory_at n) (record_at (inode_at n) + 24) (stamp e.attrs) ∷ []) p [])
  stamp_by n None here own = tt
  stamp_by n (Some e) here own = (stamp_stands n e here (own e here), tt)

  stamp_matches : (n : ℕ) → IsOwnFile t.geometry flat o held n → Matched (stamp_items held n)
  stamp_matches n own = stamp_by n (held_of n held.entries) refl own

  -- ---- maps

  pub page_at : (pages : List (Option (List ℕ))) (m : ℕ) → is_some (get_or pages m None) ≡ true → (page : List ℕ) × (slice_get pages m ≡ Some (Some page)) × (get_or pages m None ≡ Some page)
  page_at [] zero is = absurd cc
  page_at [] (suc m) is = absurd cc
  page_at (None ∷ pages) zero is = absurd cc
  page_at (Some page ∷ pages) zero is = (page, refl, refl)
  page_at (x ∷ pages) (suc m) is = page_at pages m is

  few : (n : ℕ) → n ≤ 16384 → (n + 7) / 8 ≤ 2048
  few n most = omega (arith, most)

  blocks_match : (m : ℕ) → is_held held (part_of (BlockBits m)) ≡ true → IsOwnLook t.geometry flat o held (BlockBits m) → Matched (block_items held m)
  blocks_match m is own =
      let there = page_at held.maps m is in
      let sized = work.pages m there.0 there.1 in
      let short = few held.geometry.blocks work.limits.blocks.1 in
      let page : map_of held m ≡ there.0 = ap (λ p. unwrap_or p []) there.2 in
      let count : ℕ = (held.geometry.blocks + 7) / 8 in
      let len : length (take count (block_bits held m)) ≡ count =
      rw page (omega (arith, sized, short, length-take count (take 2048 there.0), length-take 2048 there.0)) in
      let own_here : take count (block_bits held m) ≡ take count (block_map flat m) =
      subst (λ (g : Geometry). take ((g.blocks + 7) / 8) (block_bits held m) ≡ take ((g.blocks + 7) / 8) (block_map flat m)) (sym same) own in
      (ap (λ n. take n (drop 4096 (held_by flat m))) len ∙ sym (take-take count 2048 (drop 4096 (held_by flat m)) short) ∙ sym own_here, tt)

  inodes_match : (m : ℕ) → is_held held (part_of (InodeBits m)) ≡ true → IsOwnLook t.geometry flat o held (InodeBits m) → Matched (inode_items held m)
  inodes_match m is own =
      let there = page_at held.maps m is in
      let sized = work.pages m there.0 there.1 in
      let short = few held.geometry.inodes work.limits.inodes.1 in
      let page : map_of held m ≡ there.0 = ap (λ p. unwrap_or p []) there.2 in
      let count : ℕ = (held.geometry.inodes + 7) / 8 in
      let len : length (take count (inode_bits held m)) ≡ count =
      rw page (omega (arith, sized, short, length-take count (drop 2048 there.0), length-drop 2048 there.0)) in
      let own_here : take count (inode_bits held m) ≡ take count (inode_map flat m) =
      subst (λ (g : Geometry). take ((g.inodes + 7) / 8) (inode_bits held m) ≡ take ((g.inodes + 7) / 8) (inode_map flat m)) (sym same) own in
      (ap (λ n. take n (drop 6144 (held_by flat m))) len ∙ sym (take-take count 2048 (drop 6144 (held_by flat m)) short) ∙ sym own_here, tt)

  -- ---- each look

  abbrev IsHeldAndOwn : Look → Type 0
  IsHeldAndOwn l = (is_held held (part_of l) ≡ true) × IsOwnLook t.geometry flat o held l

  or_by : (P : Type 0) (b c : Bool) → (b ≡ true → P) → (c ≡ true → P) → b || c ≡ true → P
  or_by P true c first rest is = first refl
  or_by P false c first rest is = rest is

  at_blocks : (m : ℕ) (l : Look) → is_at_blocks m l ≡ true → IsHeldAndOwn l → IsHeldAndOwn (BlockBits m)
  at_blocks m (Record n) is own = absurd cc
  at_blocks m (Chaining n k) is own = absurd cc
  at_blocks m (Group n g) is own = absurd cc
  at_blocks m (BlockBits k) is own = subst (λ j. IsHeldAndOwn (BlockBits j)) (eqb-true k m is) own
  at_blocks m (InodeBits k) is own = absurd cc

  at_inodes : (m : ℕ) (l : Look) → is_at_inodes m l ≡ true → IsHeldAndOwn l → IsHeldAndOwn (InodeBits m)
  at_inodes m (Record n) is own = absurd cc
  at_inodes m (Chaining n k) is own = absurd cc
  at_inodes m (Group n g) is own = absurd cc
  at_inodes m (BlockBits k) is own = absurd cc
  at_inodes m (InodeBits k) is own = subst (λ j. IsHeldAndOwn (InodeBits j)) (eqb-true k m is) own

  some_blocks : (m : ℕ) (ls : List Look) → AllByRecursion IsHeldAndOwn ls → list_any (is_at_blocks m) ls ≡ true → IsHeldAndOwn (BlockBits m)
  some_blocks m [] all is = absurd cc
  some_blocks m (l ∷ ls) all is =
      or_by (IsHeldAndOwn (BlockBits m)) (is_at_blocks m l) (list_any (is_at_blocks m) ls) (λ one. at_blocks m l one all.0) (some_blocks m ls all.1) is

  some_inodes : (m : ℕ) (ls : List Look) → AllByRecursion IsHeldAndOwn ls → list_any (is_at_inodes m) ls ≡ true → IsHeldAndOwn (InodeBits m)
  some_inodes m [] all is = absurd cc
  some_inodes m (l ∷ ls) all is =
      or_by (IsHeldAndOwn (InodeBits m)) (is_at_inodes m l) (list_any (is_at_inodes m) ls) (λ one. at_inodes m l one all.0) (some_inodes m ls all.1) is

  where_by : (items : List Item) (b : Bool) → (b ≡ true → Matched items) → Matched (cond b items [])
  where_by items true go = go refl
  where_by items false go = tt

  maps_match : (m : ℕ) → AllByRecursion IsHeldAndOwn looks → Matched (items_of held looks (Maps m))
  maps_match m all =
      joined (ItemMatches flat) (cond (list_any (is_at_blocks m) looks) (block_items held m) []) (cond (list_any (is_at_inodes m) looks) (inode_items held m) [])
      (where_by (block_items held m) (list_any (is_at_blocks m) looks) (λ is. let one = some_blocks m looks all is in blocks_match m one.0 one.1))
      (where_by (inode_items held m) (list_any (is_at_inodes m) looks) (λ is. let one = some_inodes m looks all is in inodes_match m one.0 one.1))

  look_matches : AllByRecursion IsHeldAndOwn looks → (l : Look) → IsHeldAndOwn l → Matched (items_of held looks (subject_of l))
  look_matches all (Record n) own = stamp_matches n own.1
  look_matches all (Chaining n k) own = stamp_matches n own.1
  look_matches all (Group n g) own = stamp_matches n own.1
  look_matches all (BlockBits m) own = maps_match m all
  look_matches all (InodeBits m) own = maps_match m all

  each_matches : AllByRecursion IsHeldAndOwn looks → (ls : List Look) → AllByRecursion IsHeldAndOwn ls
      → AllByRecursion (λ s. Matched (items_of held looks s)) (map subject_of ls)
  each_matches all [] own = tt
  each_matches all (l ∷ ls) own = (look_matches all l own.0, each_matches all ls own.1)

  pub all_match : AllByRecursion IsHeldAndOwn looks → Matched (compares held looks)
  unfolding compares
  all_match all =
      all_parts (ItemMatches flat) (items_of held looks) (firsts [] (map subject_of looks))
      (firsts_among (λ s. Matched (items_of held looks s)) (map subject_of looks) [] (each_matches all looks all))

pub own_looks_match : OwnLooksMatch
own_looks_match held looks flat t o work same shows there own =
    All-from_recursion (ItemMatches flat) (compares held looks)
    (all_match held looks flat t o work same shows
    (both_all (λ l. is_held held (part_of l) ≡ true) (IsOwnLook t.geometry flat o held) looks
    (recursion_from_All (λ l. is_held held (part_of l) ≡ true) looks there) (recursion_from_All (IsOwnLook t.geometry flat o held) looks own)))
