-- The order of each procedure.
use Rattle.std.proofs.Common.{◌≡◌, ℕ, zero, suc, ◌+◌, ◌-◌, ◌%◌, ◌<◌, min, true, false, cond, Bool, IsTrue, List, [], ◌∷◌, ◌++◌, map, Option, Some, None, refl, sym, subst, ◌∙◌, arith}
use Rattle.std.specs.Prelude.{◌==◌, ◌&&◌, not, bytes_eq, nat_lt, flat_map, is_none, is_some, option_and_then, option_map}
use Rattle.std.specs.Option.{option_map_or}
use Rattle.std.specs.List.{AllByRecursion, list_any}
use Rattle.std.proofs.lemmas.Bool.{eqb-true}
use Rattle.std.proofs.lemmas.List.Elements.{recursion_from_All}
use Rattle.rpc_msg.specs.declared.cred.Cred.{Cred}
use Rattle.nfs_proto.specs.declared.call.Call.{Call}
use Rattle.nfs_proto.specs.declared.call.Call.TheVariants as call
use Rattle.nfs_proto.specs.declared.handle.Handle.{Handle}
use Rattle.nfs_proto.specs.declared.sattr.Sattr.{Sattr}
use Rattle.fs_layout.specs.declared.attrs.Attrs.{Attrs}
use Rattle.fs_rules.specs.declared.file.File.{File}
use Rattle.fs_rules.specs.Arguments.{directories_of, handles_of, is_dot, is_dot_dot, is_dots, looked_up, name_check, names_of}
use Rattle.fs_rules.specs.Attributes.{set_attr_checks, sets_something}
use Rattle.fs_rules.specs.File.{is_directory}
use Rattle.fs_rules.specs.Handle.{handle, number_in}
use Rattle.fs_rules.specs.Lists.{below}
use Rattle.fs_rules.specs.Making.{existing_checks, new_checks}
use Rattle.fs_rules.specs.Reading.{read_checks, read_dir_checks, read_link_checks}
use Rattle.fs_rules.specs.Statuses.{Check, fails_where, exist, notdir, nospc}
use Rattle.fs_rules.specs.Writing.{is_nothing, write_checks}
use Rattle.fs_checks.specs.declared.removal.Removal.{Removal}
use Rattle.fs_checks.specs.declared.removal.Removal.TheVariants as removal
use Rattle.fs_checks.specs.declared.facts.Facts.{Facts}
use Rattle.fs_checks.specs.declared.kind.Kind.{Kind}
use Rattle.fs_checks.specs.declared.kind.Kind.TheVariants as kind
use Rattle.fs_checks.specs.Facts.{bare, facts_by, kind_by}
use Rattle.fs_checks.specs.Naming.{link_row, way_row}
use Rattle.fs_checks.specs.Removals.{removal_row}
use Rattle.node_cache.specs.declared.entry.Entry.{Entry}
use Rattle.node_cache.specs.declared.held.Held.{Held}
use Rattle.node_cache.specs.Cached.{held_of}
use Rattle.plan_rules.specs.declared.look.Look.TheVariants.{Record, BlockBits, InodeBits}
use Rattle.plan_rules.specs.Blocks.{chain_steps, is_given_up_on}
use Rattle.plan_rules.specs.Changes.{Changes, change_steps, freeing_on, gets_name, nothing, reads, resizes, writes}
use Rattle.plan_rules.specs.Names.{is_on_way, leads_up, name_steps, parent_of, parent_steps, record_steps, target}
use Rattle.plan_rules.specs.Orders.{Moving, access_check, changes_parent, create_steps, directory_check, existing_steps, handle_check, handle_steps, is_last, link_changes, lookup_steps, loses_name, make_dir_changes, move_changes, move_steps, new_name_steps, order, over_checks, own_steps, rename_steps, removal_steps, sym_link_changes, way_steps}
use Rattle.plan_rules.specs.Room.{Need, needs_maps, needs_steps, new_number, number_maps, number_steps, room_maps, taken_on, turned}
use Rattle.plan_rules.specs.Steps.{Step, Looks, Checks}
use Rattle.plan_rules.specs.Told.{memory_at, is_number, at_handle, at_record, file_at, file_of, found, free_number, free_on}
use Rattle.plan_rules.specs.Works.{IsWorkSet}
use Rattle.want_laws.specs.Laws.{WantsAreTold}
use Rattle.want_laws.proofs.PartLemmas.{all_below, chains_tell, entry_fits, found_number, new_is_number, record_tells, slots_tell, turned_within}
use Rattle.want_laws.proofs.TellLemmas.{Tells, always, check_then, checks_tell, each_tells, look_tells, nothing_tells, told_want, where_tells}

-- what is said of a file that is there, or another thing
said_tells : {X : Type 0} (held : Held) (said : X → List Step) (other : List Step) (p : Option X) → ((x : X) → p ≡ Some x → Tells held (said x)) → (p ≡ None → Tells held other)
    → Tells held (option_map_or said p other)
said_tells held said other None some none = none refl
said_tells held said other (Some x) some none = some x refl

-- ---- the record of a directory

kind_two : (n : ℕ) → kind_by n ≡ Some kind.Directory → n ≡ 2
kind_two n is = go (n == 1) (n == 2) (n == 5) refl is
  where
    go : (a b c : Bool) → (n == 2) ≡ b → cond a (Some kind.Regular) (cond b (Some kind.Directory) (cond c (Some kind.Link) None)) ≡ Some kind.Directory → n ≡ 2
    go true b c test is = absurd cc
    go false true c test is = eqb-true n 2 test
    go false false true test is = absurd cc
    go false false false test is = absurd cc

no_directory : (b : Bool) (f : File) → is_directory f.content ≡ false → option_map_or (λ (g : File). is_directory g.content) (cond b (Some f) None) false ≡ true → ⊥
no_directory true f other is = let never : false ≡ true = sym other ∙ is in absurd cc
no_directory false f other is = absurd cc

dir_kind : (a : Attrs) (test : File → Bool) (k : Option Kind) → kind_by a.kind ≡ k
    → option_map_or (λ (f : File). is_directory f.content) (option_and_then (λ f. cond (test f) (Some f) None) (option_map bare (option_map (λ kind. let x : Facts = record {
      kind = kind;
      mode = a.mode;
      links = a.links;
      uid = a.uid;
      gid = a.gid;
      size = a.size;
      generation = a.generation;
      change = a.change;
      atime = record { sec = a.atime_sec; usec = a.atime_usec };
      mtime = record { sec = a.mtime_sec; usec = a.mtime_usec };
      ctime = record { sec = a.ctime_sec; usec = a.ctime_usec };
    } in x) k))) false ≡ true → a.kind ≡ 2
dir_kind a test None is told = absurd cc
dir_kind a test (Some kind.Regular) is told = absurd (no_directory (test _) _ refl told)
dir_kind a test (Some kind.Directory) is told = kind_two a.kind is
dir_kind a test (Some kind.Link) is told = absurd (no_directory (test _) _ refl told)

passed_true : (b : Bool) → fails_where notdir (not b) ≡ None → b ≡ true
passed_true true is = refl
passed_true false is = absurd cc

both_tests : (a b : Bool) → a && b ≡ true → (a ≡ true) × (b ≡ true)
both_tests true b is = (refl, is)
both_tests false b is = absurd cc

module _ (held : Held) (work : IsWorkSet held) where
  -- ---- changes

  maps_tell : (at left : ℕ) → Tells held (number_maps held at left)
  unfolding number_maps
  maps_tell at zero = nothing_tells held
  maps_tell at (suc left) =
      look_tells held (InodeBits (turned held at)) _ (turned_within held work at)
      (λ here. where_tells held (is_some (free_number held (turned held at))) [] (number_maps held (at + 1) left) (λ is. nothing_tells held) (λ is. maps_tell (at + 1) left))

  number_tells : (start : ℕ) → Tells held (number_steps held start)
  number_tells start =
      always held (number_maps held start held.geometry.memories) (Checks (fails_where nospc (is_none (new_number held start))) ∷ record_steps (new_number held start))
      (maps_tell start held.geometry.memories)
      (check_then held (fails_where nospc (is_none (new_number held start))) (record_steps (new_number held start))
      (λ passes. record_tells held work (new_number held start) (λ m is. new_is_number held work start m is)))

  room_tells : (free : ℕ → ℕ) (at left need : ℕ) → Tells held (room_maps held free at left need)
  unfolding room_maps
  room_tells free at zero need = nothing_tells held
  room_tells free at (suc left) need =
      where_tells held (nat_lt 0 need) (Looks (BlockBits (turned held at)) ∷ room_maps held free (at + 1) left (need - free (turned held at))) []
      (λ is. look_tells held (BlockBits (turned held at)) _ (turned_within held work at) (λ here. room_tells free (at + 1) left (need - free (turned held at)))) (λ is. nothing_tells held)

  needs_tell : (free : ℕ → ℕ) (needs : List Need) → Tells held (needs_maps held free needs)
  unfolding needs_maps
  needs_tell free [] = nothing_tells held
  needs_tell free (n ∷ needs) =
      always held (room_maps held free n.home held.geometry.memories n.count) (needs_maps held (λ m. free m - taken_on held free m n.home held.geometry.memories n.count) needs)
      (room_tells free n.home held.geometry.memories n.count) (needs_tell (λ m. free m - taken_on held free m n.home held.geometry.memories n.count) needs)

  freeing_tells : (c : Changes) (m : ℕ) → m < held.geometry.memories → Tells held (freeing_on held c m)
  freeing_tells c m less =
      always held (cond (list_any (is_given_up_on held m) c.given_up) (Looks (BlockBits m) ∷ []) []) (cond (list_any (λ n. memory_at n == m) c.freed) (Looks (InodeBits m) ∷ []) [])
      (where_tells held (list_any (is_given_up_on held m) c.given_up) (Looks (BlockBits m) ∷ []) [] (λ is. look_tells held (BlockBits m) [] less (λ here. nothing_tells held)) (λ is. nothing_tells held))
      (where_tells held (list_any (λ n. memory_at n == m) c.freed) (Looks (InodeBits m) ∷ []) [] (λ is. look_tells held (InodeBits m) [] less (λ here. nothing_tells held)) (λ is. nothing_tells held))

  freed_by : (c : Changes) (ms : List ℕ) → AllByRecursion (λ m. m < held.geometry.memories) ms → Tells held (flat_map (freeing_on held c) ms)
  freed_by c [] all = nothing_tells held
  freed_by c (m ∷ ms) all = always held (freeing_on held c m) (flat_map (freeing_on held c) ms) (freeing_tells c m all.0) (freed_by c ms all.1)

  last_check : (c : Check) → Tells held (Checks c ∷ [])
  last_check c = check_then held c [] (λ passes. nothing_tells held)

  pub changes_tell : (start : ℕ) (c : Changes) → Tells held (change_steps held start c)
  changes_tell start c =
      check_then held _ _ (λ a. check_then held _ _ (λ b. check_then held _ _ (λ d.
      always held (flat_map (chain_steps held) c.touched) _ (each_tells held (chain_steps held) (chains_tell held work) c.touched)
      (always held (cond c.makes (number_steps held start) []) _ (where_tells held c.makes (number_steps held start) [] (λ is. number_tells start) (λ is. nothing_tells held))
      (always held (flat_map (freeing_on held c) (below held.geometry.memories)) (needs_steps held c.needs)
      (freed_by c (below held.geometry.memories) (all_below held.geometry.memories held.geometry.memories (omega arith)))
      (always held (needs_maps held (free_on held) c.needs) _ (needs_tell (free_on held) c.needs) (last_check _)))))))

  -- ---- names

  pub found_tells : (n : ℕ) (name : List ℕ) → Tells held (record_steps (found held n name))
  found_tells n name = record_tells held work (found held n name) (λ m is. found_number held work n name m is)

  name_tells : (n : ℕ) (name : List ℕ) → Tells held (name_steps held n name)
  name_tells n name = slots_tell held work n _

  new_name_tells : (n : ℕ) (name : List ℕ) → Tells held (new_name_steps held n name)
  new_name_tells n name = check_then held _ _ (λ passes. always held (name_steps held n name) _ (name_tells n name) (last_check _))

  -- ---- the parent of a directory

  some_is : (x y : ℕ) → ◌≡◌ {A = Option ℕ} (Some x) (Some y) → x ≡ y
  some_is x y is = cc

  parent_by : (n m : ℕ) (p : Option Entry) → held_of n held.entries ≡ p → option_map_or (λ e. Some e.attrs.parent) p None ≡ Some m
      → option_map_or (λ e. e.attrs.kind) p 0 ≡ 2 → IsTrue (is_number held.geometry m)
  parent_by n m None here is kind = absurd cc
  parent_by n m (Some e) here is kind =
      subst (λ k. IsTrue (is_number held.geometry k)) (some_is e.attrs.parent m is) ((entry_fits held work n e here).attrs.parent kind)

  entry_kind : (name : List ℕ) (p : Option Entry)
      → option_map_or (λ (f : File). is_directory f.content) (option_and_then (λ f. cond (bytes_eq name (handle (number_in name) f.generation)) (Some f) None)
      (option_map_or (λ e. option_map bare (facts_by e.attrs)) p None)) false ≡ true → option_map_or (λ e. e.attrs.kind) p 0 ≡ 2
  entry_kind name None is = absurd cc
  entry_kind name (Some e) is = dir_kind e.attrs (λ f. bytes_eq name (handle (number_in name) f.generation)) (kind_by e.attrs.kind) refl is

  -- the parent of a directory that a handle names
  parent_number : (name : List ℕ) (m : ℕ) → directory_check held name ≡ None → at_record held (number_in name) None (λ a. Some a.parent) ≡ Some m → IsTrue (is_number held.geometry m)
  parent_number name m passes is =
      parent_by (number_in name) m (held_of (number_in name) held.entries) refl is
      (entry_kind name (held_of (number_in name) held.entries) (passed_true (at_handle held name false (λ n f. is_directory f.content)) passes))

  -- ---- what a handle names

  handle_tells : (name : List ℕ) (said : ℕ → File → List Step) → ((n : ℕ) (f : File) → Tells held (said n f)) → Tells held (at_handle held name [] said)
  handle_tells name said each = said_tells held (said (number_in name)) [] (file_of held name) (λ f is. each (number_in name) f) (λ is. nothing_tells held)

  checks_then : (cs : List Check) (steps : List Step) → Tells held steps → Tells held (map Checks cs ++ steps)
  checks_then cs steps rest = always held (map Checks cs) steps (checks_tell held cs) rest

  -- ---- LOOKUP

  target_by : (dir name : List ℕ) (b c : Bool) → IsTrue (is_number held.geometry (number_in dir)) → directory_check held dir ≡ None → (m : ℕ)
      → cond b (Some (number_in dir)) (cond c (at_record held (number_in dir) None (λ a. Some a.parent)) (found held (number_in dir) name)) ≡ Some m → IsTrue (is_number held.geometry m)
  target_by dir name true c number passes m is = subst (λ k. IsTrue (is_number held.geometry k)) (some_is (number_in dir) m is) number
  target_by dir name false true number passes m is = parent_number dir m passes is
  target_by dir name false false number passes m is = found_number held work (number_in dir) name m is

  lookup_tells : (dir name : List ℕ) → IsTrue (is_number held.geometry (number_in dir)) → directory_check held dir ≡ None → Tells held (lookup_steps held (number_in dir) name)
  lookup_tells dir name number passes =
      always held (cond (is_dots name) [] (name_steps held (number_in dir) name)) _
      (where_tells held (is_dots name) [] (name_steps held (number_in dir) name) (λ is. nothing_tells held) (λ is. name_tells (number_in dir) name))
      (check_then held _ _ (λ there. record_tells held work (target held (number_in dir) name) (λ m is. target_by dir name (is_dot name) (is_dot_dot name) number passes m is)))

  -- ---- CREATE, REMOVE and RMDIR

  existing_tells : (start m : ℕ) (set : Sattr) (cred : Cred) → IsTrue (is_number held.geometry m) → Tells held (existing_steps held start set cred m)
  existing_tells start m set cred number =
      look_tells held (Record m) _ number
      (λ here. said_tells held _ _ (file_at held m) (λ f is. checks_then (existing_checks f set cred) _ (changes_tell start _)) (λ is. last_check (Some exist)))

  create_tells : (start n : ℕ) (set : Sattr) (cred : Cred) (name : List ℕ) → Tells held (create_steps held start set cred n name)
  create_tells start n set cred name =
      check_then held _ _ (λ passes. always held (name_steps held n name) _ (name_tells n name)
      (said_tells held (existing_steps held start set cred) _ (found held n name) (λ m is. existing_tells start m set cred (found_number held work n name m is))
      (λ is. checks_then (new_checks set) _ (changes_tell start (record (gets_name held n) { makes = true })))))

  removed_tells : (start n m : ℕ) (r : Removal) (p : Option Entry) (said : Attrs → List Step) → ((a : Attrs) → Tells held (said a)) → Tells held (option_map_or (λ e. said e.attrs) p [])
  removed_tells start n m r None said each = nothing_tells held
  removed_tells start n m r (Some e) said each = each e.attrs

  removal_tells : (start n : ℕ) (r : Removal) (name : List ℕ) → Tells held (removal_steps held start r n name)
  removal_tells start n r name =
      check_then held _ _ (λ passes. always held (name_steps held n name) _ (name_tells n name)
      (check_then held _ _ (λ there. always held (record_steps (found held n name)) _ (found_tells n name)
      (said_tells held _ [] (found held n name)
      (λ m is. removed_tells start n m r (held_of m held.entries) _ (λ a. checks_then (removal_row r (a.kind == 2) (nat_lt 0 a.names)) _ (changes_tell start (loses_name (n ∷ m ∷ []) m (is_last r a))))) (λ is. nothing_tells held)))))

  -- ---- RENAME

  parents_tell : (n left : ℕ) → Tells held (parent_steps held n left)
  unfolding parent_steps
  parents_tell n zero = nothing_tells held
  parents_tell n (suc left) =
      where_tells held _ (Looks (Record (parent_of held n)) ∷ parent_steps held (parent_of held n) left) []
      (λ is. look_tells held (Record (parent_of held n)) _ (both_tests (is_number held.geometry (parent_of held n)) _ (both_tests (not (n == 1)) _ is).1).0
      (λ here. parents_tell (parent_of held n) left)) (λ is. nothing_tells held)

  move_tells : (start : ℕ) (m : Moving) → Tells held (move_steps held start m)
  move_tells start m =
      where_tells held (option_map_or (λ r. r == m.source) m.replaced false) [] _ (λ is. nothing_tells held)
      (λ is. checks_then (option_map_or (over_checks held m) m.replaced []) _
      (always held (way_steps held m) _
      (where_tells held (changes_parent held m) _ [] (λ far. always held (parent_steps held m.to 200) _ (parents_tell m.to 200) (checks_tell held (way_row (leads_up held m.to 200) (is_on_way held m.source m.to 200)))) (λ near. nothing_tells held))
      (changes_tell start (move_changes held m))))

  rename_tells : (start from to : ℕ) (from_name to_name : List ℕ) → Tells held (rename_steps held start from from_name to to_name)
  rename_tells start from to from_name to_name =
      check_then held _ _ (λ passes. always held (name_steps held from from_name) _ (name_tells from from_name)
      (check_then held _ _ (λ there. always held (name_steps held to to_name) _ (name_tells to to_name)
      (always held (record_steps (found held from from_name)) _ (found_tells from from_name)
      (always held (record_steps (found held to to_name)) _ (found_tells to to_name)
      (said_tells held _ [] (found held from from_name) (λ s is. move_tells start (record { from = from; to = to; source = s; replaced = found held to to_name })) (λ is. nothing_tells held)))))))

  -- ---- all procedures

  -- but for LOOKUP, whose parent is one of a directory
  abbrev IsOther : Call → Type 0
  IsOther c = (dir : Handle) (name : List ℕ) → c ≡ call.Lookup dir name → ⊥

  own_tells : (start : ℕ) (c : Call) (cred : Cred) → IsOther c → Tells held (own_steps held start c cred)
  own_tells start call.Null cred look = nothing_tells held
  own_tells start (call.GetAttr file) cred look = nothing_tells held
  own_tells start (call.SetAttr file set) cred look = handle_tells file.0 _ (λ n f. checks_then (set_attr_checks f set cred) _ (changes_tell start (cond (sets_something set) (resizes held n f set.size) nothing)))
  own_tells start call.Root cred look = nothing_tells held
  own_tells start (call.Lookup dir name) cred look = absurd (look dir name refl)
  own_tells start (call.ReadLink file) cred look = handle_tells file.0 _ (λ n f. checks_then (read_link_checks f) _ (changes_tell start (reads n (nat_lt 0 f.size))))
  own_tells start (call.Read file offset count total) cred look = handle_tells file.0 _ (λ n f. checks_then (read_checks f cred) _ (changes_tell start (reads n (nat_lt 0 (min count (min 8192 (f.size - offset)))))))
  own_tells start call.WriteCache cred look = nothing_tells held
  own_tells start (call.Write file begin offset total bytes) cred look = handle_tells file.0 _ (λ n f. checks_then (write_checks f cred offset bytes) _ (changes_tell start (cond (is_nothing bytes) nothing (writes held n offset bytes))))
  own_tells start (call.Create dir name set) cred look = create_tells start (number_in dir.0) set cred name
  own_tells start (call.Remove dir name) cred look = removal_tells start (number_in dir.0) removal.File name
  own_tells start (call.Rename from from_name to to_name) cred look = rename_tells start (number_in from.0) (number_in to.0) from_name to_name
  own_tells start (call.Link file dir name) cred look =
      handle_tells file.0 _ (λ m f. checks_then (link_row f (is_dots name)) _
      (always held (new_name_steps held (number_in dir.0) name) _ (new_name_tells (number_in dir.0) name) (changes_tell start (link_changes held m (number_in dir.0)))))
  own_tells start (call.SymLink dir name path set) cred look =
      always held (new_name_steps held (number_in dir.0) name) _ (new_name_tells (number_in dir.0) name) (check_then held _ _ (λ passes. changes_tell start (sym_link_changes held start (number_in dir.0))))
  own_tells start (call.MakeDir dir name set) cred look =
      always held (new_name_steps held (number_in dir.0) name) _ (new_name_tells (number_in dir.0) name) (changes_tell start (make_dir_changes held (number_in dir.0)))
  own_tells start (call.RemoveDir dir name) cred look = removal_tells start (number_in dir.0) removal.Directory name
  own_tells start (call.ReadDir dir cookie count) cred look =
      handle_tells dir.0 _ (λ n d. checks_then (read_dir_checks d cred) _ (slots_tell held work n (λ slots. false)))
  own_tells start (call.StatFs file) cred look = nothing_tells held

  handles_tell : (names : List (List ℕ)) → AllByRecursion (λ name. IsTrue (is_number held.geometry (number_in name))) names → Tells held (flat_map (handle_steps held) names)
  handles_tell [] all = nothing_tells held
  handles_tell (name ∷ names) all =
      always held (handle_steps held name) (flat_map (handle_steps held) names) (look_tells held (Record (number_in name)) _ all.0 (λ here. last_check (handle_check held name))) (handles_tell names all.1)

  -- ---- the whole order

  own_behind : (names : List (List ℕ)) (cs : List Check) (steps : List Step) → AllByRecursion (λ name. IsTrue (is_number held.geometry (number_in name))) names → Tells held steps
      → Tells held ((flat_map (handle_steps held) names ++ map Checks cs) ++ steps)
  own_behind names cs steps numbers rest =
      always held (flat_map (handle_steps held) names ++ map Checks cs) steps
      (always held (flat_map (handle_steps held) names) (map Checks cs) (handles_tell names numbers) (checks_tell held cs)) rest

  lookup_order_tells : (arrival : ℕ) (dir : Handle) (name : List ℕ) (cred : Cred) → IsTrue (is_number held.geometry (number_in dir.0)) → Tells held (order held arrival (call.Lookup dir name) cred)
  unfolding order
  lookup_order_tells arrival dir name cred number =
      look_tells held (Record (number_in dir.0)) _ number
      (λ here. check_then held (handle_check held dir.0) _ (λ live. check_then held (directory_check held dir.0) _ (λ is_dir. check_then held (name_check (looked_up dir.0 name)) _ (λ form.
      check_then held (access_check held cred (looked_up dir.0 name)) _ (λ access. lookup_tells dir.0 name number is_dir)))))

  other_order_tells : (arrival : ℕ) (c : Call) (cred : Cred) → AllByRecursion (λ name. IsTrue (is_number held.geometry (number_in name))) (handles_of c) → IsOther c → Tells held (order held arrival c cred)
  unfolding order
  other_order_tells arrival c cred numbers other =
      own_behind (handles_of c) (map (directory_check held) (directories_of c) ++ (map name_check (names_of c) ++ map (access_check held cred) (names_of c))) _ numbers
      (own_tells (arrival % held.geometry.memories) c cred other)

  pub order_tells : (arrival : ℕ) (c : Call) (cred : Cred) → AllByRecursion (λ name. IsTrue (is_number held.geometry (number_in name))) (handles_of c) → Tells held (order held arrival c cred)
  order_tells arrival (call.Lookup dir name) cred numbers = lookup_order_tells arrival dir name cred numbers.0
  order_tells arrival call.Null cred numbers = other_order_tells arrival call.Null cred numbers (λ d x is. absurd cc)
  order_tells arrival (call.GetAttr file) cred numbers = other_order_tells arrival (call.GetAttr file) cred numbers (λ d x is. absurd cc)
  order_tells arrival (call.SetAttr file set) cred numbers = other_order_tells arrival (call.SetAttr file set) cred numbers (λ d x is. absurd cc)
  order_tells arrival call.Root cred numbers = other_order_tells arrival call.Root cred numbers (λ d x is. absurd cc)
  order_tells arrival (call.ReadLink file) cred numbers = other_order_tells arrival (call.ReadLink file) cred numbers (λ d x is. absurd cc)
  order_tells arrival (call.Read file offset count total) cred numbers = other_order_tells arrival (call.Read file offset count total) cred numbers (λ d x is. absurd cc)
  order_tells arrival call.WriteCache cred numbers = other_order_tells arrival call.WriteCache cred numbers (λ d x is. absurd cc)
  order_tells arrival (call.Write file begin offset total bytes) cred numbers = other_order_tells arrival (call.Write file begin offset total bytes) cred numbers (λ d x is. absurd cc)
  order_tells arrival (call.Create dir name set) cred numbers = other_order_tells arrival (call.Create dir name set) cred numbers (λ d x is. absurd cc)
  order_tells arrival (call.Remove dir name) cred numbers = other_order_tells arrival (call.Remove dir name) cred numbers (λ d x is. absurd cc)
  order_tells arrival (call.Rename from from_name to to_name) cred numbers = other_order_tells arrival (call.Rename from from_name to to_name) cred numbers (λ d x is. absurd cc)
  order_tells arrival (call.Link file dir name) cred numbers = other_order_tells arrival (call.Link file dir name) cred numbers (λ d x is. absurd cc)
  order_tells arrival (call.SymLink dir name path set) cred numbers = other_order_tells arrival (call.SymLink dir name path set) cred numbers (λ d x is. absurd cc)
  order_tells arrival (call.MakeDir dir name set) cred numbers = other_order_tells arrival (call.MakeDir dir name set) cred numbers (λ d x is. absurd cc)
  order_tells arrival (call.RemoveDir dir name) cred numbers = other_order_tells arrival (call.RemoveDir dir name) cred numbers (λ d x is. absurd cc)
  order_tells arrival (call.ReadDir dir cookie count) cred numbers = other_order_tells arrival (call.ReadDir dir cookie count) cred numbers (λ d x is. absurd cc)
  order_tells arrival (call.StatFs file) cred numbers = other_order_tells arrival (call.StatFs file) cred numbers (λ d x is. absurd cc)

pub wants_are_told : WantsAreTold
wants_are_told held arrival c cred w work numbers is =
    told_want held (order held arrival c cred) w
    (order_tells held work arrival c cred (recursion_from_All (λ name. IsTrue (is_number held.geometry (number_in name))) (handles_of c) numbers)) is
