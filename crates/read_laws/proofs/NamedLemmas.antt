-- A directory that is held is the tree's.
use Rattle.std.proofs.Common.{◌≡◌, ℕ, ◌+◌, ◌*◌, ◌/◌, true, cond, List, length, take, drop, map, Option, Some, None, refl, sym, ap, subst, ◌∙◌, arith}
use Rattle.std.specs.Prelude.{◌==◌, find, flat_map, is_some, option_and_then, option_map, unwrap_or}
use Rattle.std.specs.List.{list_any}
use Rattle.std.specs.FinMap as table
use Rattle.std.proofs.lemmas.Bool.{eqb-true}
use Rattle.fs_layout.specs.declared.attrs.Attrs.{Attrs}
use Rattle.fs_dir.specs.declared.slot.Slot.{Slot}
use Rattle.fs_dir.specs.Slots as blocks
use Rattle.fs_rules.specs.declared.content.Content.{Content}
use Rattle.fs_rules.specs.declared.content.Content.TheVariants.{Directory}
use Rattle.fs_rules.specs.declared.entry.Entry.{Entry as TreeEntry}
use Rattle.fs_rules.specs.declared.file.File.{File}
use Rattle.fs_rules.specs.declared.plain_tree.PlainTree.{PlainTree}
use Rattle.fs_rules.specs.File.{kind_of, parent_of}
use Rattle.fs_rules.specs.Good.{IsGood, IsInOrder, AreSlots}
use Rattle.fs_rules.specs.Lists.{below}
use Rattle.fs_rules.specs.Numbers.{kept_at, IsNumber}
use Rattle.fs_rules.specs.Slots as rules
use Rattle.mini_tx.specs.FlatMemory.{Flat}
use Rattle.fs_image.specs.Owners.{Owners, Chain, Block}
use Rattle.fs_image.specs.Parts.{inode_of, is_stored, live_inode, slot_of, HoldsBlock}
use Rattle.fs_image.specs.Places.{block_bytes}
use Rattle.fs_image.specs.Records.{NameFiles}
use Rattle.fs_image.specs.Stands.{Shows, ShowsFile}
use Rattle.node_cache.specs.declared.entry.Entry.{Entry}
use Rattle.node_cache.specs.declared.entry.HeldGroup.{HeldGroup}
use Rattle.node_cache.specs.declared.held.Held.{Held}
use Rattle.node_cache.specs.declared.want.Want.TheVariants as want
use Rattle.node_cache.specs.Cached.{held_of}
use Rattle.plan_rules.specs.Matched.{IsOwnFile}
use Rattle.plan_rules.specs.Names.{group_steps}
use Rattle.plan_rules.specs.Steps.{is_held, wanted_in}
use Rattle.plan_rules.specs.Told.{at_record, dir_groups, found, group_of}
use Rattle.plan_rules.specs.Works.{IsWorkSet}
use Rattle.plan_rules.proofs.SearchLemmas.{found_there}
use Rattle.plan_looks.specs.Held.{group_in}
use Rattle.plan_looks.proofs.LookLemmas.{group_is_held, slots_are}
use Rattle.read_laws.proofs.FoundLemmas.{found_all, named_is}
use Rattle.read_laws.proofs.GroupLemmas.{HoldsSlots, group_is}
use Rattle.read_laws.proofs.OwnLemmas.{says_shown}

some_there : {X : Type 0} (o : Option X) → is_some o ≡ true → (x : X) × (o ≡ Some x)
some_there None is = absurd cc
some_there (Some x) is = (x, refl)

-- a directory's slots name no file 0
pub no_zero : (t : PlainTree) (slots : List (Option TreeEntry)) → IsGood t → AreSlots t slots → NameFiles slots
no_zero t slots good are i e is =
    let live = some_there (table.get t.files e.file) (are.names i e is).1 in
    let number = (good.files e.file live.0 live.1).number in
    let n = number.is in
    λ zero_is. omega (arith, n, zero_is)

module _ (held : Held) (flat : Flat) (t : PlainTree) (o : Owners) (work : IsWorkSet held) (same : held.geometry ≡ t.geometry) (shows : Shows flat t o) (good : IsGood t)
    (n parent : ℕ) (d : File) (slots : List (Option TreeEntry)) (there_is : table.get t.files n ≡ Some d) (content : d.content ≡ Directory slots parent)
    (there : is_held held (want.Inode n) ≡ true) (own : IsOwnFile t.geometry flat o held n) where
  pub in_order : (d.size ≡ 4096 * (length slots / 15)) × AreSlots t slots
  in_order =
      let is = subst (λ (c : Content). IsInOrder t n d c) content (good.files n d there_is).content in (is.0, is.1)

  -- the record is that of the directory
  pub says_dir : {A : Type 0} (other : A) (said : Attrs → A) → at_record held n other said ≡ said (live_inode d (o.place n (Chain 0)))
  says_dir other said =
      says_shown held flat t o work same shows n there own other said
      ∙ ap (λ (p : Option File). said (inode_of p (kept_at t n) (o.place n (Chain 0)))) there_is

  parent_live : (c : Content) → d.content ≡ c → c ≡ Directory slots parent → (live_inode d (o.place n (Chain 0))).parent ≡ parent
  parent_live c is dir = ap (λ (x : Content). unwrap_or (parent_of x) 0) (is ∙ dir)

  pub parent_told : at_record held n None (λ a. Some a.parent) ≡ Some parent
  parent_told = says_dir None (λ a. Some a.parent) ∙ ap Some (parent_live d.content refl content)

  pub groups_told : at_record held n 0 dir_groups ≡ (length slots / 15 + 63) / 64
  groups_told =
      let kind : (live_inode d (o.place n (Chain 0))).kind ≡ 2 = ap kind_of content in
      let size = in_order.0 in
      let count : d.size / 4096 ≡ length slots / 15 = omega (arith, size) in
      says_dir 0 dir_groups ∙ ap (λ k. (cond (k == 2) (d.size / 4096) 0 + 63) / 64) kind ∙ ap (λ b. (b + 63) / 64) count

  -- the parts of the directory
  lies : IsNumber t.geometry n
  lies = (good.files n d there_is).number

  shown : ShowsFile flat t (o.place n) lies.memory lies.inode (Some d)
  shown =
      subst (λ (p : Option File). ShowsFile flat t (o.place n) lies.memory lies.inode p) there_is
      (subst (λ k. ShowsFile flat t (o.place k) lies.memory lies.inode (table.get t.files k)) (sym lies.is) (shows.files lies.memory lies.inode lies.there.0 lies.there.1))

  holds_slots : HoldsSlots t.geometry flat (o.place n) slots
  holds_slots =
      let whole = in_order.1.whole in
      record {
        there = λ i. shown.there (Block i) ∙ ap (λ (c : Content). is_stored c i) content;
        holds = λ i p is. subst (λ (c : Content). HoldsBlock c i (block_bytes t.geometry flat p)) content (shown.holds d (Block i) p refl is);
        whole = omega (arith, whole);
      }

  -- a group that is held has the slots of the directory
  pub group_own : (g : ℕ) → is_held held (want.Slots n g) ≡ true → group_of held n g ≡ map slot_of (take 960 (drop (960 * g) slots))
  group_own g is =
      let entry = some_there (held_of n held.entries) there in
      let e = entry.0 in
      let found_in : group_in held n g ≡ find (λ s. s.group == g) e.groups = ap (λ (p : Option Entry). option_and_then (λ x. find (λ s. s.group == g) x.groups) p) entry.1 in
      let one = some_there (group_in held n g) (sym (group_is_held held n g) ∙ is) in
      let s = one.0 in
      let at = found_there (λ (x : HeldGroup). x.group == g) s e.groups (sym found_in ∙ one.1) in
      let number : s.group ≡ g = eqb-true s.group g at.2 in
      slots_are held n s g one.1
      ∙ group_is t.geometry flat (o.place n) slots holds_slots s ((own e entry.1).groups at.0 s at.1)
      ∙ ap (λ k. map slot_of (take 960 (drop (960 * k) slots))) number

  -- a name is found as in the tree, where no part of the search is wanted
  pub found_told : (name : List ℕ) → wanted_in held (group_steps held n (list_any (blocks.has_name name)) 0 (at_record held n 0 dir_groups)) ≡ None
      → found held n name ≡ rules.file_named slots name
  found_told name none =
      let groups = (length slots / 15 + 63) / 64 in
      let whole = in_order.1.whole in
      let none_here : wanted_in held (group_steps held n (list_any (blocks.has_name name)) 0 groups) ≡ None =
      subst (λ k. wanted_in held (group_steps held n (list_any (blocks.has_name name)) 0 k) ≡ None) groups_told none in
      ap (λ k. option_map (λ (s : Slot). s.number) (find (blocks.has_name name) (flat_map (group_of held n) (below k)))) groups_told
      ∙ ap (option_map (λ (s : Slot). s.number)) (found_all held n slots groups group_own (omega (arith, whole)) (blocks.has_name name) none_here)
      ∙ named_is name slots (no_zero t slots good in_order.1)
