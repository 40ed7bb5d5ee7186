-- What is kept of a fetch that matched is true.
use Rattle.std.proofs.Common.{◌≡◌, ◌⊎◌, inl, inr, ℕ, ◌+◌, ◌-◌, ◌*◌, ◌<◌, ◌≤◌, min, true, false, cond, Bool, List, [], ◌∷◌, ◌++◌, length, take, drop, Option, Some, None, refl, sym, ap, subst, ◌∙◌, arith}
use Rattle.std.specs.Prelude.{◌/◌, ◌==◌, nat_eq, flat_map, slice_get, is_some}
use Rattle.std.specs.Option.{option_map_or}
use Rattle.std.specs.List.{AllByRecursion}
use Rattle.std.proofs.lemmas.Bool.{eqb-true, lt-ltb, ltb-true}
use Rattle.fs_layout.specs.declared.attrs.Attrs.{Attrs}
use Rattle.fs_layout.specs.declared.reference.Reference.{Reference}
use Rattle.fs_layout.specs.Inodes.{SpellsInode}
use Rattle.fs_layout.proofs.RecordLemmas.{inode_one}
use Rattle.fs_chain.specs.Chains.{SpellsChain}
use Rattle.fs_dir.specs.Slots.{SpellsSlots}
use Rattle.fs_rules.specs.declared.geometry.Geometry.{Geometry}
use Rattle.fs_rules.specs.declared.plain_tree.PlainTree.{PlainTree}
use Rattle.fs_rules.specs.Lists.{below}
use Rattle.fs_image.specs.Owners.{Owners, Chain, Block}
use Rattle.fs_image.specs.Places.{inode_bytes, block_bytes}
use Rattle.mini_tx.specs.FlatMemory.{Flat, Matches, reads}
use Rattle.node_cache.specs.declared.entry.Entry.{Entry}
use Rattle.node_cache.specs.declared.entry.HeldChain.{HeldChain}
use Rattle.node_cache.specs.declared.entry.HeldGroup.{HeldGroup}
use Rattle.node_cache.specs.declared.held.Held.{Held}
use Rattle.node_cache.specs.declared.want.Want.TheVariants as want
use Rattle.node_cache.specs.Cached.{held_of}
use Rattle.node_cache.specs.Truth.{IsGroup, IsOwn, IsThere, IsTrueEntry, LiesAt}
use Rattle.plan_rules.specs.Fetched.{IsChainKept, IsGroupKept, IsRecordKept, AreMapsKept, blocks_in, changed_in, fetched, part_read, put_entry}
use Rattle.plan_rules.specs.Compared.{stamp_items}
use Rattle.plan_rules.specs.Matched.{IsOwnFile}
use Rattle.plan_rules.specs.Steps.{is_held}
use Rattle.plan_rules.specs.Told.{memory_at, inode_at, at_record, dir_blocks, place_of}
use Rattle.plan_rules.specs.Works.{IsTold, IsWorkSet}
use Rattle.plan_rules.proofs.SearchLemmas.{found_there}
use Rattle.plan_rules.specs.Fits.{most_bytes}
use Rattle.plan_parts.proofs.PlaceLemmas.{entry_fits}
use Rattle.plan_laws.proofs.EntryLemmas.{added, all_changed, all_put, at_place, by_place, none_there}
use Rattle.read_laws.specs.Promise.{IsTrueOf}
use Rattle.kept_laws.specs.Laws.{KeptIsTrue}
use Rattle.kept_laws.proofs.PartLemmas.{block_placed, block_told, chain_placed, file_there}
use Rattle.kept_laws.proofs.ReadLemmas.{behind_stamp, is_placed, row_at, row_sized, stamped_is_own}

some_there : {X : Type 0} (o : Option X) → is_some o ≡ true → (x : X) × (o ≡ Some x)
some_there None is = absurd cc
some_there (Some x) is = (x, refl)

module _ (held : Held) (flat : Flat) (t : PlainTree) (work : IsWorkSet held) (of_it : IsTrueOf held flat t) where
  abbrev g : Geometry
  g = t.geometry

  abbrev o : Owners
  o = of_it.stands.owners

  abbrev True : Entry → Type 0
  True e = IsTrueEntry g flat (o.place e.number) e

  -- all entries of another work set of this cluster are true
  with_entries : (new : Held) → new.geometry ≡ held.geometry → AllByRecursion True new.entries → IsTrueOf new flat t
  with_entries new same all =
      record { stands = of_it.stands; same = same ∙ of_it.same; entries = at_place True new.entries all }

  abbrev all_true : AllByRecursion True held.entries
  all_true = by_place True held.entries of_it.entries

  -- ---- a record

  at_one : (n m inode : ℕ) → LiesAt g n m inode → (m ≡ memory_at n) × (inode ≡ inode_at n)
  at_one n m inode lies =
      let few = of_it.stands.good.geometry.inodes.1 in
      let less = lies.is_inode in
      let is = lies.number in
      (omega (arith, few, less, is), omega (arith, few, less, is))

  module _ (n : ℕ) (a : Attrs) (spelled : SpellsInode a (inode_bytes flat (memory_at n) (inode_at n))) where
    here_spelled : (m inode : ℕ) → LiesAt g n m inode → SpellsInode a (inode_bytes flat m inode)
    here_spelled m inode lies =
        let at = at_one n m inode lies in
        subst (λ k. SpellsInode a (inode_bytes flat k inode)) (sym at.0) (subst (λ i. SpellsInode a (inode_bytes flat (memory_at n) i)) (sym at.1) spelled)

    record_true : True (record { number = n; attrs = a; chains = []; groups = [] })
    record_true =
        record {
          older = λ m inode b lies is. (let same : a ≡ b = inode_one a b (inode_bytes flat m inode) (here_spelled m inode lies) is in
              subst (λ (x : Attrs). a.change ≤ x.change) same (let least : a.change ≤ a.change = omega arith in least));
          same = λ m inode b lies is change. record {
            record_is = here_spelled;
            chains = λ i c is. absurd (none_there i c is);
            groups = λ i s is. absurd (none_there i s is);
          };
        }

  record_kept : (n : ℕ) (new : Held) → IsRecordKept held n (reads (fetched held (want.Inode n)) flat) new → IsTrueOf new flat t
  unfolding fetched
  record_kept n new kept =
      let bytes_are : kept.bytes ≡ inode_bytes flat (memory_at n) (inode_at n) = (let is = kept.read in cc) in
      let e : Entry = record { number = n; attrs = kept.attrs; chains = []; groups = [] } in
      let one : True e = record_true n kept.attrs (subst (λ b. SpellsInode kept.attrs b) bytes_are kept.spelled) in
      subst (λ (h : Held). IsTrueOf h flat t) (sym kept.new_is)
      (with_entries (record held { entries = put_entry e held.entries }) refl (all_put True e held.entries one all_true))

  -- ---- a chaining block

  number_of_found : (n : ℕ) (e : Entry) → held_of n held.entries ≡ Some e → n ≡ e.number
  number_of_found n e is = eqb-true n e.number (found_there (λ x. nat_eq n x.number) e held.entries is).2

  chain_of_both : (e : Entry) (c d : HeldChain) (i : ℕ) → IsOwn g flat (o.place e.number) e → IsThere g flat (SpellsChain c.chain) (o.place e.number (Chain c.index))
      → (slice_get e.chains i ≡ Some d) ⊎ (c ≡ d) → IsThere g flat (SpellsChain d.chain) (o.place e.number (Chain d.index))
  chain_of_both e c d i own there (inl is) = own.chains i d is
  chain_of_both e c d i own there (inr same) = subst (λ (x : HeldChain). IsThere g flat (SpellsChain x.chain) (o.place e.number (Chain x.index))) same there

  one_chain_more : (e : Entry) (c : HeldChain) → True e → IsOwn g flat (o.place e.number) e → IsThere g flat (SpellsChain c.chain) (o.place e.number (Chain c.index))
      → True (record e { chains = e.chains ++ c ∷ [] })
  one_chain_more e c true_one own there =
      record {
        older = true_one.older;
        same = λ m inode b lies is change. record {
          record_is = own.record_is;
          chains = λ i d is. chain_of_both e c d i own there (added c d e.chains i is);
          groups = own.groups;
        };
      }

  group_of_both : (e : Entry) (s d : HeldGroup) (i : ℕ) → IsOwn g flat (o.place e.number) e → IsGroup g flat (o.place e.number) s
      → (slice_get e.groups i ≡ Some d) ⊎ (s ≡ d) → IsGroup g flat (o.place e.number) d
  group_of_both e s d i own there (inl is) = own.groups i d is
  group_of_both e s d i own there (inr same) = subst (λ (x : HeldGroup). IsGroup g flat (o.place e.number) x) same there

  one_group_more : (e : Entry) (s : HeldGroup) → True e → IsOwn g flat (o.place e.number) e → IsGroup g flat (o.place e.number) s
      → True (record e { groups = e.groups ++ s ∷ [] })
  one_group_more e s true_one own there =
      record {
        older = true_one.older;
        same = λ m inode b lies is change. record {
          record_is = own.record_is;
          chains = own.chains;
          groups = λ i d is. group_of_both e s d i own there (added s d e.groups i is);
        };
      }

  -- what is there is in a block that lies where it is told
  there_by : (IsIt : List ℕ → Type 0) (p : Option Reference) (r : Reference) → p ≡ Some r → IsIt (block_bytes g flat r) → IsThere g flat IsIt p
  there_by IsIt p r is it = subst (λ (q : Option Reference). IsThere g flat IsIt q) (sym is) it

  chain_kept : (n k : ℕ) (new : Held) → IsTold held (want.Chain n k) → Matches (fetched held (want.Chain n k)) flat
      → IsChainKept held n k (reads (fetched held (want.Chain n k)) flat) new → IsTrueOf new flat t
  unfolding fetched
  chain_kept n k new told match kept =
      let there : is_held held (want.Inode n) ≡ true = ap (λ (p : Option Entry). is_some p) kept.here in
      let own : IsOwnFile g flat o held n = stamped_is_own held flat t work of_it n there (part_read held n (Chain k)) match in
      let less = told.0 in
      let file = file_there held flat t o work of_it.same of_it.stands.shows of_it.stands.good n there own (omega (arith, less)) in
      let lies = is_placed held flat n (Chain k) kept.bytes (sym (behind_stamp held flat n (part_read held n (Chain k))) ∙ kept.read) in
      let place_is : o.place n (Chain k) ≡ Some lies.0 =
      sym (chain_placed held flat t o work of_it.same of_it.stands.shows of_it.stands.good n there own file.0 file.1 k (λ i below_it. told.1 i below_it)) ∙ lies.1 in
      let c : HeldChain = record { index = k; chain = kept.chain } in
      let spelled : SpellsChain kept.chain (block_bytes g flat lies.0) =
      subst (λ (h : Geometry). SpellsChain kept.chain (block_bytes h flat lies.0)) of_it.same (subst (λ b. SpellsChain kept.chain b) lies.2 kept.spelled) in
      let is_it : IsThere g flat (SpellsChain kept.chain) (o.place n (Chain k)) = there_by (SpellsChain kept.chain) (o.place n (Chain k)) lies.0 place_is spelled in
      let change : Entry → Entry = λ e. record e { chains = e.chains ++ c ∷ [] } in
      let keeps = λ (e : Entry) (is : held_of n held.entries ≡ Some e) (true_one : True e).
      (let number = number_of_found n e is in
      one_chain_more e c true_one (subst (λ m. IsOwn g flat (o.place m) e) number (own e is))
      (subst (λ m. IsThere g flat (SpellsChain kept.chain) (o.place m (Chain k))) number is_it)) in
      subst (λ (h : Held). IsTrueOf h flat t) (sym kept.new_is)
      (with_entries (record held { entries = changed_in n change held.entries }) refl (all_changed True n change held.entries keeps all_true))

  -- ---- a group of slots

  record_held : (n : ℕ) (p : Option Entry) → held_of n held.entries ≡ p → 0 < option_map_or (λ e. dir_blocks e.attrs) p 0 → is_some p ≡ true
  record_held n None is some = absurd (omega (arith, some))
  record_held n (Some e) is some = refl

  chains_told : (n : ℕ) (p : Option Entry) → held_of n held.entries ≡ p → 0 < option_map_or (λ e. dir_blocks e.attrs) p 0 → 0 < option_map_or (λ e. e.attrs.chains) p 0
  chains_told n None is some = some
  chains_told n (Some e) is some = (entry_fits held work n e is).0.attrs.blocks some

  count_is : (n s : ℕ) (p : Option Entry) → held_of n held.entries ≡ p
      → option_map_or (λ e. min 64 (dir_blocks e.attrs - 64 * s)) p 0 ≡ min 64 (option_map_or (λ e. dir_blocks e.attrs) p 0 - 64 * s)
  count_is n s None is = omega arith
  count_is n s (Some e) is = refl

  blocks_by : (a : Attrs) (b : Bool) → (a.kind == 2) ≡ b → a.size ≤ most_bytes a.kind → cond b (a.size / 4096) 0 ≤ 510
  blocks_by a true is size = let most : a.size ≤ 2088960 = subst (λ k. a.size ≤ most_bytes k) (eqb-true a.kind 2 is) size in omega (arith, most)
  blocks_by a false is size = omega arith

  blocks_few : (n : ℕ) (p : Option Entry) → held_of n held.entries ≡ p → option_map_or (λ e. dir_blocks e.attrs) p 0 ≤ 510
  blocks_few n None is = omega arith
  blocks_few n (Some e) is = blocks_by e.attrs (e.attrs.kind == 2) refl (entry_fits held work n e is).0.attrs.size

  group_kept : (n s : ℕ) (new : Held) → IsTold held (want.Slots n s) → Matches (fetched held (want.Slots n s)) flat
      → IsGroupKept held n s (reads (fetched held (want.Slots n s)) flat) new → IsTrueOf new flat t
  unfolding fetched
  group_kept n s new told match kept =
      let some_blocks : 0 < at_record held n 0 dir_blocks = (let less = told.0 in omega (arith, less)) in
      let there : is_held held (want.Inode n) ≡ true = record_held n (held_of n held.entries) refl some_blocks in
      let row = flat_map (λ j. part_read held n (Block (64 * s + j))) (below (blocks_in held n s)) in
      let own : IsOwnFile g flat o held n = stamped_is_own held flat t work of_it n there row match in
      let chains = chains_told n (held_of n held.entries) refl some_blocks in
      let file = file_there held flat t o work of_it.same of_it.stands.shows of_it.stands.good n there own chains in
      let count : blocks_in held n s ≡ min 64 (at_record held n 0 dir_blocks - 64 * s) = count_is n s (held_of n held.entries) refl in
      let placed = λ (i : ℕ) (small : i < 510). block_placed held flat t o work of_it.same of_it.stands.shows of_it.stands.good n there own file.0 file.1 told.1 i small in
      let told_there = block_told held flat t o work of_it.same of_it.stands.shows of_it.stands.good n there own file.0 file.1 some_blocks in
      let most = blocks_few n (held_of n held.entries) refl in
      let each = λ (j : ℕ) (less : j < blocks_in held n s).
      (let inside : 64 * s + j < at_record held n 0 dir_blocks = omega (arith, less, count) in
      let small : 64 * s + j < 510 = omega (arith, inside, most) in
      let one = some_there (o.place n (Block (64 * s + j))) (told_there (64 * s + j) ∙ lt-ltb (64 * s + j) (at_record held n 0 dir_blocks) inside) in
      let is : place_of held n (Block (64 * s + j)) ≡ Some one.0 = placed (64 * s + j) small ∙ one.1 in
      let pair : (r : Reference) × (place_of held n (Block (64 * s + j)) ≡ Some r) × (o.place n (Block (64 * s + j)) ≡ Some r) = (one.0, is, one.1) in pair) in
      let reads_are : reads (stamp_items held n ++ row) flat ≡ reads row flat = behind_stamp held flat n row in
      let sized : length (reads row flat) ≡ blocks_in held n s = row_sized held flat n (64 * s) (blocks_in held n s) (λ j less. ((each j less).0, (each j less).1)) in
      let slots_sized : length kept.slots ≡ 15 * blocks_in held n s = kept.sized ∙ ap (λ rs. 15 * length rs) reads_are ∙ ap (λ k. 15 * k) sized in
      let group : HeldGroup = record { group = s; slots = kept.slots } in
      let is_group : IsGroup g flat (o.place n) group = record {
        blocks = λ j within. (
            let less : j < blocks_in held n s = omega (arith, within, slots_sized) in
            let one = each j less in
            let read : slice_get (reads (stamp_items held n ++ row) flat) j ≡ Some (block_bytes held.geometry flat one.0) =
            ap (λ rs. slice_get rs j) reads_are ∙ row_at held flat n (64 * s) (blocks_in held n s) j (λ i below_it. ((each i below_it).0, (each i below_it).1)) less one.0 one.1 in
            let spelled : SpellsSlots (take 15 (drop (15 * j) kept.slots)) (block_bytes g flat one.0) =
            subst (λ (h : Geometry). SpellsSlots (take 15 (drop (15 * j) kept.slots)) (block_bytes h flat one.0)) of_it.same (kept.spelled j (block_bytes held.geometry flat one.0) read) in
            let small : j < 64 = omega (arith, less, count) in
            (small, there_by (SpellsSlots (take 15 (drop (15 * j) kept.slots))) (o.place n (Block (64 * s + j))) one.0 one.2 spelled));
        whole = λ j small is. (
            let inside : 64 * s + j < at_record held n 0 dir_blocks =
            ltb-true (64 * s + j) (at_record held n 0 dir_blocks) (sym (told_there (64 * s + j)) ∙ is) in
            omega (arith, inside, small, slots_sized, count));
      } in
      let change : Entry → Entry = λ e. record e { groups = e.groups ++ group ∷ [] } in
      let keeps = λ (e : Entry) (is : held_of n held.entries ≡ Some e) (true_one : True e).
      (let number = number_of_found n e is in
      one_group_more e group true_one (subst (λ m. IsOwn g flat (o.place m) e) number (own e is))
      (subst (λ m. IsGroup g flat (o.place m) group) number is_group)) in
      subst (λ (h : Held). IsTrueOf h flat t) (sym kept.new_is)
      (with_entries (record held { entries = changed_in n change held.entries }) refl (all_changed True n change held.entries keeps all_true))

  maps_kept : (m : ℕ) (new : Held) (rs : List (List ℕ)) → AreMapsKept held m rs new → IsTrueOf new flat t
  maps_kept m new rs kept =
      subst (λ (h : Held). IsTrueOf h flat t) (sym kept.new_is) (with_entries _ refl all_true)

pub kept_is_true : KeptIsTrue
kept_is_true held new (want.Inode n) flat t work told of_it match kept = record_kept held flat t work of_it n new kept
kept_is_true held new (want.Chain n k) flat t work told of_it match kept = chain_kept held flat t work of_it n k new told match kept
kept_is_true held new (want.Slots n s) flat t work told of_it match kept = group_kept held flat t work of_it n s new told match kept
kept_is_true held new (want.Map m) flat t work told of_it match kept = maps_kept held flat t work of_it m new (reads (fetched held (want.Map m)) flat) kept
