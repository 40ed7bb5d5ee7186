-- Where a final matches, what it looked at is the flat memory's own.
use Rattle.std.proofs.Common.{◌≡◌, ℕ, zero, suc, ◌+◌, ◌<◌, ◌≤◌, true, false, cond, Bool, IsTrue, List, [], ◌∷◌, ◌++◌, Option, Some, None, refl, sym, ap, subst, ◌∙◌, arith}
use Rattle.std.specs.Prelude.{◌/◌, ◌||◌, ◌&&◌, nat_lt, nat_eq, length, take, drop, map, flat_map, slice_get, get_or, unwrap_or, is_some}
use Rattle.std.specs.Option.{option_map_or}
use Rattle.std.specs.List.{list_any, AllByRecursion}
use Rattle.std.specs.FinMap as table
use Rattle.std.proofs.lemmas.Bool.{eqb-true, eq-eqb, ltb-true}
use Rattle.std.proofs.lemmas.List.{take-take, drop-drop, drop-take, length-take, length-drop}
use Rattle.std.proofs.lemmas.List.Elements.{All-from_recursion, recursion_from_All}
use Rattle.fs_layout.specs.declared.attrs.Attrs.{Attrs}
use Rattle.fs_layout.specs.Places.{number_of, record_at}
use Rattle.fs_layout.proofs.WordLemmas.{length-spelled}
use Rattle.fs_rules.specs.declared.geometry.Geometry.{Geometry}
use Rattle.fs_rules.specs.declared.plain_tree.PlainTree.{PlainTree}
use Rattle.fs_rules.specs.Numbers.{kept_at}
use Rattle.mini_tx.specs.declared.item.Item.TheVariants as item
use Rattle.mini_tx.specs.FlatMemory.{Flat, held_by, bytes_at, ItemMatches}
use Rattle.fs_image.specs.Owners.{Owners, Chain}
use Rattle.fs_image.specs.Parts.{inode_of}
use Rattle.fs_image.specs.Places.{inode_bytes, block_map, inode_map}
use Rattle.fs_image.specs.Stamps.{stamp_words, stamp}
use Rattle.fs_image.specs.Stands.{Shows}
use Rattle.fs_image.proofs.StampLemmas.{stamp_in_record, stamps_tell}
use Rattle.node_cache.specs.declared.entry.Entry.{Entry}
use Rattle.node_cache.specs.declared.held.Held.{Held}
use Rattle.node_cache.specs.Cached.{held_of}
use Rattle.node_cache.specs.Truth.{IsOwn, LiesAt}
use Rattle.plan_rules.specs.declared.look.Look.{Look}
use Rattle.plan_rules.specs.declared.look.Look.TheVariants.{Record, Chaining, Group, BlockBits, InodeBits}
use Rattle.plan_rules.specs.Steps.{part_of, is_held}
use Rattle.plan_rules.specs.Told.{memory_at, inode_at, is_number, map_of, block_bits, inode_bits}
use Rattle.plan_rules.specs.declared.look.Subject.{Subject}
use Rattle.plan_rules.specs.declared.look.Subject.TheVariants.{File, Maps}
use Rattle.plan_rules.specs.Compared.{subject_of, is_same, firsts, is_at_blocks, is_at_inodes, stamp_items, block_items, inode_items, items_of, compares}
use Rattle.plan_rules.specs.Works.{IsWorkSet}
use Rattle.plan_rules.proofs.SearchLemmas.{found_there}
use Rattle.plan_rules.specs.Matched.{AreTrue, IsOwnFile, IsOwnLook, MatchedLooksAreOwn}

-- ---- lists

split : {X : Type 0} (P : X → Type 0) (xs ys : List X) → AllByRecursion P (xs ++ ys) → AllByRecursion P xs × AllByRecursion P ys
split P [] ys all = (tt, all)
split P (x ∷ xs) ys all = let rest = split P xs ys all.1 in ((all.0, rest.0), rest.1)

pub in_parts : {X Y : Type 0} (P : Y → Type 0) (f : X → List Y) (xs : List X) → AllByRecursion P (flat_map f xs) → AllByRecursion (λ x. AllByRecursion P (f x)) xs
in_parts P f [] all = tt
in_parts P f (x ∷ xs) all = let both = split P (f x) (flat_map f xs) all in (both.0, in_parts P f xs both.1)

mapped : {X Y : Type 0} (P : Y → Type 0) (f : X → Y) (xs : List X) → AllByRecursion P (map f xs) → AllByRecursion (λ x. P (f x)) xs
mapped P f [] all = tt
mapped P f (x ∷ xs) all = (all.0, mapped P f xs all.1)

-- ---- subjects

same_is : (s x : Subject) → is_same s x ≡ true → s ≡ x
same_is (File n) (File k) same = ap File (eqb-true n k same)
same_is (File n) (Maps m) same = absurd cc
same_is (Maps m) (File n) same = absurd cc
same_is (Maps m) (Maps k) same = ap Maps (eqb-true m k same)

among_by : (P : Subject → Type 0) (s x : Subject) (rest b : Bool) → is_same s x ≡ b → P x → (rest ≡ true → P s) → b || rest ≡ true → P s
among_by P s x rest true same is go seen = subst P (sym (same_is s x same)) is
among_by P s x rest false same is go seen = go seen

among : (P : Subject → Type 0) (s : Subject) (before : List Subject) → AllByRecursion P before → list_any (is_same s) before ≡ true → P s
among P s [] all seen = absurd cc
among P s (x ∷ before) all seen = among_by P s x (list_any (is_same s) before) (is_same s x) refl all.0 (among P s before all.1) seen

with_last : (P : Subject → Type 0) (xs : List Subject) (s : Subject) → AllByRecursion P xs → P s → AllByRecursion P (xs ++ s ∷ [])
with_last P [] s all is = (is, tt)
with_last P (x ∷ xs) s all is = (all.0, with_last P xs s all.1 is)

next_by : (P : Subject → Type 0) (before : List Subject) (s : Subject) (subjects : List Subject) (b : Bool) → list_any (is_same s) before ≡ b
    → AllByRecursion P before → ((others : List Subject) → AllByRecursion P others → AllByRecursion P (firsts others subjects) → AllByRecursion P subjects)
    → AllByRecursion P (cond b (firsts before subjects) (s ∷ firsts (before ++ s ∷ []) subjects)) → AllByRecursion P (s ∷ subjects)
next_by P before s subjects true seen all rest first = (among P s before all seen, rest before all first)
next_by P before s subjects false seen all rest first = (first.0, rest (before ++ s ∷ []) (with_last P before s all first.0) first.1)

-- what holds of each that comes first holds of all
of_all : (P : Subject → Type 0) (subjects before : List Subject) → AllByRecursion P before → AllByRecursion P (firsts before subjects) → AllByRecursion P subjects
unfolding firsts
of_all P [] before all first = tt
of_all P (s ∷ subjects) before all first = next_by P before s subjects (list_any (is_same s) before) refl all (of_all P subjects) first

-- ---- entries

pub both_true : (a b : Bool) → a && b ≡ true → (a ≡ true) × (b ≡ true)
both_true true b is = (refl, is)
both_true false b is = absurd cc

pub lies_at : (g : Geometry) (n : ℕ) → IsTrue (is_number g n) → LiesAt g n (memory_at n) (inode_at n)
lies_at g n is =
    let first = both_true (nat_lt 0 n) (nat_lt (memory_at n) g.memories && nat_lt (inode_at n) g.inodes) is in
    let next = both_true (nat_lt (memory_at n) g.memories) (nat_lt (inode_at n) g.inodes) first.1 in
    let some : 0 < n = ltb-true 0 n first.0 in
    record {
      is_memory = ltb-true (memory_at n) g.memories next.0;
      is_inode = ltb-true (inode_at n) g.inodes next.1;
      number = omega (arith, some);
    }

-- the stamp of a record lies in the image as it lies in the record
pub within : (image : List ℕ) (at : ℕ) → bytes_at (bytes_at image at 128) 24 16 ≡ bytes_at image (at + 24) 16
within image at =
    ap (take 16) (drop-take 24 104 (drop at image)) ∙ take-take 16 104 (drop 24 (drop at image)) (omega arith)
    ∙ ap (take 16) (drop-drop 24 at image)

pub sixteen : (a : Attrs) → length (stamp a) ≡ 16
sixteen a = omega (arith, length-spelled (stamp_words a))

-- ---- looks

module _ (held : Held) (looks : List Look) (flat : Flat) (t : PlainTree) (o : Owners) (work : IsWorkSet held) (same : held.geometry ≡ t.geometry)
    (shows : Shows flat t o) (true_all : AreTrue t.geometry flat o held) where
  -- the record that is spelled there
  abbrev record_in : ℕ → ℕ → Attrs
  record_in m inode = inode_of (table.get t.files (number_of m inode)) (kept_at t (number_of m inode)) (o.place (number_of m inode) (Chain 0))

  own_entry : (n : ℕ) (e : Entry) → held_of n held.entries ≡ Some e
      → bytes_at (held_by flat (memory_at n)) (record_at (inode_at n) + 24) (length (stamp e.attrs)) ≡ stamp e.attrs → IsOwn t.geometry flat (o.place n) e
  own_entry n e here match =
      let there = found_there (λ x. nat_eq n x.number) e held.entries here in
      let number : n ≡ e.number = eqb-true n e.number there.2 in
      let fit = work.entries there.0 e there.1 in
      let lies : LiesAt t.geometry n (memory_at n) (inode_at n) =
      lies_at t.geometry n (subst (λ (g : Geometry). IsTrue (is_number g n)) same (subst (λ k. IsTrue (is_number held.geometry k)) (sym number) fit.number)) in
      let shown = (shows.files (memory_at n) (inode_at n) lies.is_memory lies.is_inode).record_is in
      let stamped : bytes_at (inode_bytes flat (memory_at n) (inode_at n)) 24 16 ≡ stamp e.attrs =
      within (held_by flat (memory_at n)) (record_at (inode_at n))
      ∙ (ap (λ len. bytes_at (held_by flat (memory_at n)) (record_at (inode_at n) + 24) len) (sym (sixteen e.attrs)) ∙ match) in
      subst (λ k. IsOwn t.geometry flat (o.place k) e) (sym number)
      ((true_all there.0 e there.1).same (memory_at n) (inode_at n) (record_in (memory_at n) (inode_at n))
      (subst (λ k. LiesAt t.geometry k (memory_at n) (inode_at n)) number lies) shown
      (stamps_tell (record_in (memory_at n) (inode_at n)) e.attrs (inode_bytes flat (memory_at n) (inode_at n)) fit.bytes shown fit.spelled
      (sym (stamp_in_record (record_in (memory_at n) (inode_at n)) (inode_bytes flat (memory_at n) (inode_at n)) shown) ∙ stamped)).2)

  own_file : (n : ℕ) → AllByRecursion (ItemMatches flat) (stamp_items held n) → IsOwnFile t.geometry flat o held n
  own_file n all e here =
      let items : AllByRecursion (ItemMatches flat) (item.Compare (memory_at n) (record_at (inode_at n) + 24) (stamp e.attrs) ∷ []) =
      subst (λ (p : Option Entry). AllByRecursion (ItemMatches flat) (option_map_or (λ x. item.Compare (memory_at n) (record_at (inode_at n) + 24) (stamp x.attrs) ∷ []) p [])) here all in
      own_entry n e here items.0

  -- ---- maps

  page_at : (pages : List (Option (List ℕ))) (m : ℕ) → is_some (get_or pages m None) ≡ true → (page : List ℕ) × (slice_get pages m ≡ Some (Some page)) × (get_or pages m None ≡ Some page)
  page_at [] zero is = absurd cc
  page_at [] (suc m) is = absurd cc
  page_at (None ∷ pages) zero is = absurd cc
  page_at (Some page ∷ pages) zero is = (page, refl, refl)
  page_at (x ∷ pages) (suc m) is = page_at pages m is

  few : (n : ℕ) → n ≤ 16384 → (n + 7) / 8 ≤ 2048
  few n most = omega (arith, most)

  own_blocks : (m : ℕ) → is_held held (part_of (BlockBits m)) ≡ true → AllByRecursion (ItemMatches flat) (block_items held m)
      → take ((t.geometry.blocks + 7) / 8) (block_bits held m) ≡ take ((t.geometry.blocks + 7) / 8) (block_map flat m)
  own_blocks m is all =
      let there = page_at held.maps m is in
      let sized = work.pages m there.0 there.1 in
      let short = few held.geometry.blocks work.limits.blocks.1 in
      let page : map_of held m ≡ there.0 = ap (λ p. unwrap_or p []) there.2 in
      let count : ℕ = (held.geometry.blocks + 7) / 8 in
      let len : length (take count (block_bits held m)) ≡ count =
      rw page (omega (arith, sized, short, length-take count (take 2048 there.0), length-take 2048 there.0)) in
      let here : take count (drop 4096 (held_by flat m)) ≡ take count (block_bits held m) = ap (λ n. take n (drop 4096 (held_by flat m))) (sym len) ∙ all.0 in
      subst (λ (g : Geometry). take ((g.blocks + 7) / 8) (block_bits held m) ≡ take ((g.blocks + 7) / 8) (block_map flat m)) same
      (sym here ∙ sym (take-take count 2048 (drop 4096 (held_by flat m)) short))

  own_inodes : (m : ℕ) → is_held held (part_of (InodeBits m)) ≡ true → AllByRecursion (ItemMatches flat) (inode_items held m)
      → take ((t.geometry.inodes + 7) / 8) (inode_bits held m) ≡ take ((t.geometry.inodes + 7) / 8) (inode_map flat m)
  own_inodes m is all =
      let there = page_at held.maps m is in
      let sized = work.pages m there.0 there.1 in
      let short = few held.geometry.inodes work.limits.inodes.1 in
      let page : map_of held m ≡ there.0 = ap (λ p. unwrap_or p []) there.2 in
      let count : ℕ = (held.geometry.inodes + 7) / 8 in
      let len : length (take count (inode_bits held m)) ≡ count =
      rw page (omega (arith, sized, short, length-take count (drop 2048 there.0), length-drop 2048 there.0)) in
      let here : take count (drop 6144 (held_by flat m)) ≡ take count (inode_bits held m) = ap (λ n. take n (drop 6144 (held_by flat m))) (sym len) ∙ all.0 in
      subst (λ (g : Geometry). take ((g.inodes + 7) / 8) (inode_bits held m) ≡ take ((g.inodes + 7) / 8) (inode_map flat m)) same
      (sym here ∙ sym (take-take count 2048 (drop 6144 (held_by flat m)) short))

  -- ---- each look

  abbrev IsAmong : List Look → Look → Type 0
  IsAmong ls (Record n) = Unit {0}
  IsAmong ls (Chaining n k) = Unit {0}
  IsAmong ls (Group n g) = Unit {0}
  IsAmong ls (BlockBits m) = list_any (is_at_blocks m) ls ≡ true
  IsAmong ls (InodeBits m) = list_any (is_at_inodes m) ls ≡ true

  or_later : (a b : Bool) → b ≡ true → a || b ≡ true
  or_later true b is = refl
  or_later false b is = is

  or_first : (a b : Bool) → a ≡ true → a || b ≡ true
  or_first a b is = ap (λ c. c || b) is

  first_among : (l : Look) (ls : List Look) → IsAmong (l ∷ ls) l
  first_among (Record n) ls = tt
  first_among (Chaining n k) ls = tt
  first_among (Group n g) ls = tt
  first_among (BlockBits m) ls = or_first (nat_eq m m) (list_any (is_at_blocks m) ls) (eq-eqb m m refl)
  first_among (InodeBits m) ls = or_first (nat_eq m m) (list_any (is_at_inodes m) ls) (eq-eqb m m refl)

  still_among : (l k : Look) (ls : List Look) → IsAmong ls k → IsAmong (l ∷ ls) k
  still_among l (Record n) ls is = tt
  still_among l (Chaining n k) ls is = tt
  still_among l (Group n g) ls is = tt
  still_among l (BlockBits m) ls is = or_later (is_at_blocks m l) (list_any (is_at_blocks m) ls) is
  still_among l (InodeBits m) ls is = or_later (is_at_inodes m l) (list_any (is_at_inodes m) ls) is

  all_still : (l : Look) (ls ks : List Look) → AllByRecursion (IsAmong ls) ks → AllByRecursion (IsAmong (l ∷ ls)) ks
  all_still l ls [] all = tt
  all_still l ls (k ∷ ks) all = (still_among l k ls all.0, all_still l ls ks all.1)

  all_among : (ls : List Look) → AllByRecursion (IsAmong ls) ls
  all_among [] = tt
  all_among (l ∷ ls) = (first_among l ls, all_still l ls ls (all_among ls))

  blocks_by : (m : ℕ) (a b : Bool) → a ≡ true → AllByRecursion (ItemMatches flat) (cond a (block_items held m) [] ++ cond b (inode_items held m) [])
      → AllByRecursion (ItemMatches flat) (block_items held m)
  blocks_by m true b is all = (split (ItemMatches flat) (block_items held m) (cond b (inode_items held m) []) all).0
  blocks_by m false b is all = absurd cc

  inodes_by : (m : ℕ) (a b : Bool) → b ≡ true → AllByRecursion (ItemMatches flat) (cond a (block_items held m) [] ++ cond b (inode_items held m) [])
      → AllByRecursion (ItemMatches flat) (inode_items held m)
  inodes_by m a true is all = (split (ItemMatches flat) (cond a (block_items held m) []) (inode_items held m) all).1
  inodes_by m a false is all = absurd cc

  own_look : (l : Look) → is_held held (part_of l) ≡ true → IsAmong looks l → AllByRecursion (ItemMatches flat) (items_of held looks (subject_of l))
      → IsOwnLook t.geometry flat o held l
  own_look (Record n) is in_it all = own_file n all
  own_look (Chaining n k) is in_it all = own_file n all
  own_look (Group n g) is in_it all = own_file n all
  own_look (BlockBits m) is in_it all =
      own_blocks m is (blocks_by m (list_any (is_at_blocks m) looks) (list_any (is_at_inodes m) looks) in_it all)
  own_look (InodeBits m) is in_it all =
      own_inodes m is (inodes_by m (list_any (is_at_blocks m) looks) (list_any (is_at_inodes m) looks) in_it all)

  all_own : (ls : List Look) → AllByRecursion (λ l. is_held held (part_of l) ≡ true) ls → AllByRecursion (IsAmong looks) ls
      → AllByRecursion (λ l. AllByRecursion (ItemMatches flat) (items_of held looks (subject_of l))) ls → AllByRecursion (IsOwnLook t.geometry flat o held) ls
  all_own [] is in_it all = tt
  all_own (l ∷ ls) is in_it all = (own_look l is.0 in_it.0 all.0, all_own ls is.1 in_it.1 all.1)

pub matched_looks_are_own : MatchedLooksAreOwn
unfolding compares
matched_looks_are_own held looks flat t o work same shows true_all is matches =
    let first : AllByRecursion (λ s. AllByRecursion (ItemMatches flat) (items_of held looks s)) (firsts [] (map subject_of looks)) =
    in_parts (ItemMatches flat) (items_of held looks) (firsts [] (map subject_of looks)) (recursion_from_All (ItemMatches flat) (compares held looks) matches) in
    let each = mapped (λ s. AllByRecursion (ItemMatches flat) (items_of held looks s)) subject_of looks
    (of_all (λ s. AllByRecursion (ItemMatches flat) (items_of held looks s)) (map subject_of looks) [] tt first) in
    All-from_recursion (IsOwnLook t.geometry flat o held) looks
    (all_own held looks flat t o work same shows true_all looks (recursion_from_All (λ l. is_held held (part_of l) ≡ true) looks is)
    (all_among held looks flat t o work same shows true_all looks) each)
