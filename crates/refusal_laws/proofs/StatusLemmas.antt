-- Each check of an order fails with a status that can be told.
use Rattle.std.proofs.Common.{◌≡◌, ℕ, zero, suc, ◌+◌, ◌-◌, ◌%◌, min, Bool, true, false, cond, List, [], ◌∷◌, ◌++◌, map, Option, Some, None, refl, subst}
use Rattle.std.specs.Prelude.{◌==◌, length, not, nat_lt, flat_map, is_none, is_some}
use Rattle.std.specs.Option.{option_map_or}
use Rattle.std.specs.List.{list_any}
use Rattle.rpc_msg.specs.declared.cred.Cred.{Cred}
use Rattle.nfs_proto.specs.declared.call.Call.{Call}
use Rattle.nfs_proto.specs.declared.call.Call.TheVariants as call
use Rattle.nfs_proto.specs.declared.sattr.Sattr.{Sattr}
use Rattle.nfs_proto.specs.Answers.{is_fault}
use Rattle.fs_dir.specs.declared.slot.Slot.{Slot}
use Rattle.fs_rules.specs.declared.file.File.{File}
use Rattle.fs_rules.specs.Arguments.{Named, directories_of, handles_of, is_dots, is_name_form, looked_up, taken, given, name_check, names_of}
use Rattle.fs_rules.specs.Attributes.{set_attr_checks, sets_something}
use Rattle.fs_rules.specs.Handle.{number_in}
use Rattle.fs_rules.specs.Lists.{below}
use Rattle.fs_rules.specs.Making.{existing_checks, new_checks}
use Rattle.fs_rules.specs.Reading.{read_checks, read_dir_checks, read_link_checks}
use Rattle.fs_rules.specs.Statuses.{Check, fails_where, exist, nametoolong, nospc}
use Rattle.fs_rules.specs.Writing.{is_nothing, write_checks}
use Rattle.fs_checks.specs.declared.removal.Removal.{Removal}
use Rattle.fs_checks.specs.declared.removal.Removal.TheVariants as removal
use Rattle.fs_checks.specs.Naming.{link_row, way_row}
use Rattle.fs_checks.specs.Removals.{dots_status, removal_row}
use Rattle.fs_laws.proofs.StatusLemmas.{HasStatus, HaveStatuses}
use Rattle.node_cache.specs.declared.entry.Entry.{Entry}
use Rattle.node_cache.specs.declared.held.Held.{Held}
use Rattle.node_cache.specs.Cached.{held_of}
use Rattle.plan_rules.specs.declared.look.Look.{Look}
use Rattle.plan_rules.specs.declared.look.Look.TheVariants.{Record, Chaining, Group, BlockBits, InodeBits}
use Rattle.plan_rules.specs.Blocks.{chain_steps, is_given_up_on}
use Rattle.plan_rules.specs.Changes.{Changes, change_steps, freeing_on, gets_name, nothing, reads, resizes, writes}
use Rattle.plan_rules.specs.Names.{group_steps, name_steps, parent_of, parent_steps, record_steps, slot_steps, target, is_on_way, leads_up}
use Rattle.plan_rules.specs.Orders.{Moving, access_check, changes_parent, create_steps, directory_check, existing_steps, handle_check, handle_steps, is_last, link_changes, lookup_steps, loses_name, make_dir_changes, move_changes, move_steps, new_name_steps, order, over_checks, own_steps, rename_steps, removal_steps, sym_link_changes, way_steps}
use Rattle.plan_rules.specs.Room.{Need, needs_maps, needs_steps, new_number, number_maps, number_steps, room_maps, taken_on, turned}
use Rattle.plan_rules.specs.Steps.{Step, Looks, Checks, refusal_in}
use Rattle.plan_rules.specs.Told.{at_handle, at_record, chains_of, dir_groups, file_at, file_of, found, free_number, free_on, group_of, memory_at}
use Rattle.refusal_laws.specs.Laws.{RefusalsAreTold}

-- ---- steps of which each check that fails can be told

unfoldable AreTold : List Step → Type 0
AreTold [] = Unit {0}
AreTold (Looks l ∷ steps) = AreTold steps
AreTold (Checks c ∷ steps) = HasStatus c × AreTold steps

fails : (s : ℕ) (test : Bool) → is_fault s ≡ true → HasStatus (fails_where s test)
fails s true is = is
fails s false is = tt

first_told : (steps : List Step) (status : ℕ) → AreTold steps → refusal_in steps ≡ Some status → is_fault status ≡ true
unfolding AreTold refusal_in
first_told [] status told is = absurd cc
first_told (Looks l ∷ steps) status told is = first_told steps status told is
first_told (Checks None ∷ steps) status told is = first_told steps status told.1 is
first_told (Checks (Some s) ∷ steps) status told is = let same : s ≡ status = cc in subst (λ k. is_fault k ≡ true) same told.0

nothing_told : AreTold []
unfolding AreTold
nothing_told = tt

look : (l : Look) (steps : List Step) → AreTold steps → AreTold (Looks l ∷ steps)
unfolding AreTold
look l steps rest = rest

check : (c : Check) (steps : List Step) → HasStatus c → AreTold steps → AreTold (Checks c ∷ steps)
unfolding AreTold
check c steps has rest = (has, rest)

both : (a b : List Step) → AreTold a → AreTold b → AreTold (a ++ b)
unfolding AreTold
both [] b first rest = rest
both (Looks l ∷ a) b first rest = both a b first rest
both (Checks c ∷ a) b first rest = (first.0, both a b first.1 rest)

row : (cs : List Check) → HaveStatuses cs → AreTold (map Checks cs)
unfolding AreTold
row [] have = tt
row (c ∷ cs) have = (have.0, row cs have.1)

row_then : (cs : List Check) (steps : List Step) → HaveStatuses cs → AreTold steps → AreTold (map Checks cs ++ steps)
row_then cs steps have rest = both (map Checks cs) steps (row cs have) rest

looks : (f : ℕ → Look) (ks : List ℕ) → AreTold (map (λ k. Looks (f k)) ks)
unfolding AreTold
looks f [] = tt
looks f (k ∷ ks) = looks f ks

either : (b : Bool) (steps others : List Step) → AreTold steps → AreTold others → AreTold (cond b steps others)
either true steps others first other = first
either false steps others first other = other

each : {X : Type 0} (f : X → List Step) → ((x : X) → AreTold (f x)) → (xs : List X) → AreTold (flat_map f xs)
each f told [] = nothing_told
each f told (x ∷ xs) = both (f x) (flat_map f xs) (told x) (each f told xs)

said : {X : Type 0} (f : X → List Step) (other : List Step) → ((x : X) → AreTold (f x)) → AreTold other → (p : Option X) → AreTold (option_map_or f p other)
said f other some none None = none
said f other some none (Some x) = some x

last : (c : Check) → HasStatus c → AreTold (Checks c ∷ [])
last c has = check c [] has nothing_told

-- ---- rows of checks

name_has : (n : Named) → is_fault n.unfit ≡ true → HasStatus (name_check n)
name_has n is = go (nat_lt 255 (length n.name)) (not (is_name_form n.name)) where
  go : (b c : Bool) → HasStatus (cond b (Some nametoolong) (fails_where n.unfit c))
  go true c = refl
  go false true = is
  go false false = tt

names_have : (c : Call) → HaveStatuses (map name_check (names_of c))
names_have call.Null = tt
names_have (call.GetAttr file) = tt
names_have (call.SetAttr file set) = tt
names_have call.Root = tt
names_have (call.Lookup dir name) = (name_has (looked_up dir.0 name) refl, tt)
names_have (call.ReadLink file) = tt
names_have (call.Read file offset count total) = tt
names_have call.WriteCache = tt
names_have (call.Write file begin offset total bytes) = tt
names_have (call.Create dir name set) = (name_has (given dir.0 name) refl, tt)
names_have (call.Remove dir name) = (name_has (taken dir.0 name) refl, tt)
names_have (call.Rename from from_name to to_name) = (name_has (taken from.0 from_name) refl, (name_has (given to.0 to_name) refl, tt))
names_have (call.Link file dir name) = (name_has (given dir.0 name) refl, tt)
names_have (call.SymLink dir name path set) = (name_has (given dir.0 name) refl, tt)
names_have (call.MakeDir dir name set) = (name_has (given dir.0 name) refl, tt)
names_have (call.RemoveDir dir name) = (name_has (taken dir.0 name) refl, tt)
names_have (call.ReadDir dir cookie count) = tt
names_have (call.StatFs file) = tt

have_map : {X : Type 0} (f : X → Check) → ((x : X) → HasStatus (f x)) → (xs : List X) → HaveStatuses (map f xs)
have_map f has [] = tt
have_map f has (x ∷ xs) = (has x, have_map f has xs)

set_attr_have : (f : File) (set : Sattr) (cred : Cred) → HaveStatuses (set_attr_checks f set cred)
unfolding set_attr_checks
set_attr_have f set cred =
    (fails 1 _ refl, (fails 1 _ refl, (fails 1 _ refl, (fails 21 _ refl, (fails 6 _ refl, (fails 13 _ refl, (fails 27 _ refl, tt)))))))

removal_has : (r : Removal) (is_dir in_use : Bool) → HaveStatuses (removal_row r is_dir in_use)
removal_has removal.File is_dir in_use = (fails 21 _ refl, tt)
removal_has removal.Directory is_dir in_use = (fails 20 _ refl, (fails 66 _ refl, tt))

dots_have : (r : Removal) (test : Bool) → HasStatus (fails_where (dots_status r) test)
dots_have removal.File test = fails 21 test refl
dots_have removal.Directory test = fails 13 test refl

over_have : (held : Held) (m : Moving) (p : Option ℕ) → HaveStatuses (option_map_or (over_checks held m) p [])
over_have held m None = tt
over_have held m (Some r) = (fails 20 _ refl, (fails 21 _ refl, (fails 66 _ refl, tt)))

module _ (held : Held) where
  -- ---- changes

  records : (p : Option ℕ) → AreTold (record_steps p)
  records None = nothing_told
  records (Some n) = look (Record n) [] nothing_told

  chains : (n : ℕ) → AreTold (chain_steps held n)
  chains n = looks (λ k. Chaining n k) (below (chains_of held n))

  maps : (at left : ℕ) → AreTold (number_maps held at left)
  unfolding number_maps
  maps at zero = nothing_told
  maps at (suc left) =
      look (InodeBits (turned held at)) _ (either (is_some (free_number held (turned held at))) [] (number_maps held (at + 1) left) nothing_told (maps (at + 1) left))

  number : (start : ℕ) → AreTold (number_steps held start)
  number start =
      both (number_maps held start held.geometry.memories) _ (maps start held.geometry.memories)
      (check (fails_where nospc (is_none (new_number held start))) _ (fails 28 _ refl) (records (new_number held start)))

  room : (free : ℕ → ℕ) (at left need : ℕ) → AreTold (room_maps held free at left need)
  unfolding room_maps
  room free at zero need = nothing_told
  room free at (suc left) need =
      either (nat_lt 0 need) (Looks (BlockBits (turned held at)) ∷ room_maps held free (at + 1) left (need - free (turned held at))) []
      (look (BlockBits (turned held at)) _ (room free (at + 1) left (need - free (turned held at)))) nothing_told

  needs : (free : ℕ → ℕ) (ns : List Need) → AreTold (needs_maps held free ns)
  unfolding needs_maps
  needs free [] = nothing_told
  needs free (n ∷ ns) =
      both (room_maps held free n.home held.geometry.memories n.count) (needs_maps held (λ m. free m - taken_on held free m n.home held.geometry.memories n.count) ns)
      (room free n.home held.geometry.memories n.count) (needs (λ m. free m - taken_on held free m n.home held.geometry.memories n.count) ns)

  freeing : (c : Changes) (m : ℕ) → AreTold (freeing_on held c m)
  freeing c m =
      both (cond (list_any (is_given_up_on held m) c.given_up) (Looks (BlockBits m) ∷ []) []) (cond (list_any (λ n. memory_at n == m) c.freed) (Looks (InodeBits m) ∷ []) [])
      (either (list_any (is_given_up_on held m) c.given_up) (Looks (BlockBits m) ∷ []) [] (look (BlockBits m) [] nothing_told) nothing_told)
      (either (list_any (λ n. memory_at n == m) c.freed) (Looks (InodeBits m) ∷ []) [] (look (InodeBits m) [] nothing_told) nothing_told)

  changes : (start : ℕ) (c : Changes) → AreTold (change_steps held start c)
  changes start c =
      check _ _ (fails 27 _ refl) (check _ _ (fails 28 _ refl) (check _ _ (fails 28 _ refl)
      (both (flat_map (chain_steps held) c.touched) _ (each (chain_steps held) chains c.touched)
      (both (cond c.makes (number_steps held start) []) _ (either c.makes (number_steps held start) [] (number start) nothing_told)
      (both (flat_map (freeing_on held c) (below held.geometry.memories)) (needs_steps held c.needs) (each (freeing_on held c) (freeing c) (below held.geometry.memories))
      (both (needs_maps held (free_on held) c.needs) _ (needs (free_on held) c.needs) (last _ (fails 28 _ refl))))))))

  -- ---- names

  groups : (n : ℕ) (ends : List Slot → Bool) (g left : ℕ) → AreTold (group_steps held n ends g left)
  unfolding group_steps
  groups n ends g zero = nothing_told
  groups n ends g (suc left) = look (Group n g) _ (either (ends (group_of held n g)) [] (group_steps held n ends (g + 1) left) nothing_told (groups n ends (g + 1) left))

  slots : (n : ℕ) (ends : List Slot → Bool) → AreTold (slot_steps held n ends)
  slots n ends =
      both (cond (nat_lt 0 (chains_of held n)) (Looks (Chaining n 0) ∷ []) []) (group_steps held n ends 0 (at_record held n 0 dir_groups))
      (either (nat_lt 0 (chains_of held n)) (Looks (Chaining n 0) ∷ []) [] (look (Chaining n 0) [] nothing_told) nothing_told)
      (groups n ends 0 (at_record held n 0 dir_groups))

  names : (n : ℕ) (name : List ℕ) → AreTold (name_steps held n name)
  names n name = slots n _

  new_name : (n : ℕ) (name : List ℕ) → AreTold (new_name_steps held n name)
  new_name n name = check _ _ (fails 17 _ refl) (both (name_steps held n name) _ (names n name) (last _ (fails 17 _ refl)))

  parents : (n left : ℕ) → AreTold (parent_steps held n left)
  unfolding parent_steps
  parents n zero = nothing_told
  parents n (suc left) =
      either _ (Looks (Record (parent_of held n)) ∷ parent_steps held (parent_of held n) left) []
      (look (Record (parent_of held n)) _ (parents (parent_of held n) left)) nothing_told

  -- ---- procedures

  handle_told : (name : List ℕ) (f : ℕ → File → List Step) → ((n : ℕ) (x : File) → AreTold (f n x)) → AreTold (at_handle held name [] f)
  handle_told name f told = said (f (number_in name)) [] (told (number_in name)) nothing_told (file_of held name)

  lookup : (n : ℕ) (name : List ℕ) → AreTold (lookup_steps held n name)
  lookup n name =
      both (cond (is_dots name) [] (name_steps held n name)) _ (either (is_dots name) [] (name_steps held n name) nothing_told (names n name))
      (check _ _ (fails 2 _ refl) (records (target held n name)))

  existing : (start : ℕ) (set : Sattr) (cred : Cred) (m : ℕ) → AreTold (existing_steps held start set cred m)
  existing start set cred m =
      look (Record m) _
      (said _ _ (λ f. row_then (existing_checks f set cred) _ (fails 17 _ refl, (fails 13 _ refl, (fails 27 _ refl, tt))) (changes start _)) (last (Some exist) refl) (file_at held m))

  create : (start n : ℕ) (set : Sattr) (cred : Cred) (name : List ℕ) → AreTold (create_steps held start set cred n name)
  create start n set cred name =
      check _ _ (fails 17 _ refl) (both (name_steps held n name) _ (names n name)
      (said (existing_steps held start set cred) _ (existing start set cred)
      (row_then (new_checks set) _ (fails 6 _ refl, (fails 27 _ refl, tt)) (changes start (record (gets_name held n) { makes = true }))) (found held n name)))

  removal_told : (start n : ℕ) (r : Removal) (name : List ℕ) → AreTold (removal_steps held start r n name)
  removal_told start n r name =
      check _ _ (dots_have r _) (both (name_steps held n name) _ (names n name)
      (check _ _ (fails 2 _ refl) (both (record_steps (found held n name)) _ (records (found held n name))
      (said _ [] (λ m. said {X = Entry} _ [] (λ e. row_then (removal_row r (e.attrs.kind == 2) (nat_lt 0 e.attrs.names)) _ (removal_has r _ _)
      (changes start (loses_name (n ∷ m ∷ []) m (is_last r e.attrs)))) nothing_told (held_of m held.entries)) nothing_told (found held n name)))))

  way : (m : Moving) → AreTold (way_steps held m)
  way m =
      either (changes_parent held m) _ []
      (both (parent_steps held m.to 200) _ (parents m.to 200) (row (way_row (leads_up held m.to 200) (is_on_way held m.source m.to 200)) (fails 63 _ refl, (fails 5 _ refl, tt)))) nothing_told

  move : (start : ℕ) (m : Moving) → AreTold (move_steps held start m)
  move start m =
      either (option_map_or (λ r. r == m.source) m.replaced false) [] _ nothing_told
      (row_then (option_map_or (over_checks held m) m.replaced []) _ (over_have held m m.replaced)
      (both (way_steps held m) _ (way m) (changes start (move_changes held m))))

  rename : (start from to : ℕ) (from_name to_name : List ℕ) → AreTold (rename_steps held start from from_name to to_name)
  rename start from to from_name to_name =
      check _ _ (fails 13 _ refl) (both (name_steps held from from_name) _ (names from from_name)
      (check _ _ (fails 2 _ refl) (both (name_steps held to to_name) _ (names to to_name)
      (both (record_steps (found held from from_name)) _ (records (found held from from_name))
      (both (record_steps (found held to to_name)) _ (records (found held to to_name))
      (said _ [] (λ s. move start (record { from = from; to = to; source = s; replaced = found held to to_name })) nothing_told (found held from from_name)))))))

  own : (start : ℕ) (c : Call) (cred : Cred) → AreTold (own_steps held start c cred)
  own start call.Null cred = nothing_told
  own start (call.GetAttr file) cred = nothing_told
  own start (call.SetAttr file set) cred =
      handle_told file.0 _ (λ n f. row_then (set_attr_checks f set cred) _ (set_attr_have f set cred) (changes start (cond (sets_something set) (resizes held n f set.size) nothing)))
  own start call.Root cred = nothing_told
  own start (call.Lookup dir name) cred = lookup (number_in dir.0) name
  own start (call.ReadLink file) cred =
      handle_told file.0 _ (λ n f. row_then (read_link_checks f) _ (fails 6 _ refl, tt) (changes start (reads n (nat_lt 0 f.size))))
  own start (call.Read file offset count total) cred =
      handle_told file.0 _ (λ n f. row_then (read_checks f cred) _ (fails 21 _ refl, (fails 6 _ refl, (fails 13 _ refl, tt)))
      (changes start (reads n (nat_lt 0 (min count (min 8192 (f.size - offset)))))))
  own start call.WriteCache cred = nothing_told
  own start (call.Write file begin offset total bytes) cred =
      handle_told file.0 _ (λ n f. row_then (write_checks f cred offset bytes) _ (fails 21 _ refl, (fails 6 _ refl, (fails 13 _ refl, (fails 27 _ refl, tt))))
      (changes start (cond (is_nothing bytes) nothing (writes held n offset bytes))))
  own start (call.Create dir name set) cred = create start (number_in dir.0) set cred name
  own start (call.Remove dir name) cred = removal_told start (number_in dir.0) removal.File name
  own start (call.Rename from from_name to to_name) cred = rename start (number_in from.0) (number_in to.0) from_name to_name
  own start (call.Link file dir name) cred =
      handle_told file.0 _ (λ m f. row_then (link_row f (is_dots name)) _ (fails 1 _ refl, (fails 17 _ refl, tt))
      (both (new_name_steps held (number_in dir.0) name) _ (new_name (number_in dir.0) name) (changes start (link_changes held m (number_in dir.0)))))
  own start (call.SymLink dir name path set) cred =
      both (new_name_steps held (number_in dir.0) name) _ (new_name (number_in dir.0) name)
      (check _ _ (fails 2 _ refl) (changes start (sym_link_changes held start (number_in dir.0))))
  own start (call.MakeDir dir name set) cred =
      both (new_name_steps held (number_in dir.0) name) _ (new_name (number_in dir.0) name) (changes start (make_dir_changes held (number_in dir.0)))
  own start (call.RemoveDir dir name) cred = removal_told start (number_in dir.0) removal.Directory name
  own start (call.ReadDir dir cookie count) cred =
      handle_told dir.0 _ (λ n d. row_then (read_dir_checks d cred) _ (fails 13 _ refl, tt) (slots n (λ slots. false)))
  own start (call.StatFs file) cred = nothing_told

  handles : (name : List ℕ) → AreTold (handle_steps held name)
  handles name = look (Record (number_in name)) _ (last (handle_check held name) (fails 70 _ refl))

  arguments : (c : Call) (cred : Cred) → AreTold (map Checks (map (directory_check held) (directories_of c) ++ (map name_check (names_of c) ++ map (access_check held cred) (names_of c))))
  arguments c cred = row _ (joined_have _ _ (have_map (directory_check held) (λ name. fails 20 _ refl) (directories_of c))
      (joined_have _ _ (names_have c) (have_map (access_check held cred) (λ n. fails 13 _ refl) (names_of c)))) where
        joined_have : (xs ys : List Check) → HaveStatuses xs → HaveStatuses ys → HaveStatuses (xs ++ ys)
        joined_have [] ys first rest = rest
        joined_have (x ∷ xs) ys first rest = (first.0, joined_have xs ys first.1 rest)

  all : (arrival : ℕ) (c : Call) (cred : Cred) → AreTold (order held arrival c cred)
  unfolding order
  all arrival c cred =
      both _ (own_steps held (arrival % held.geometry.memories) c cred)
      (both (flat_map (handle_steps held) (handles_of c)) _ (each (handle_steps held) handles (handles_of c)) (arguments c cred))
      (own (arrival % held.geometry.memories) c cred)

pub refusals_are_told : RefusalsAreTold
refusals_are_told held arrival c cred status is = first_told (order held arrival c cred) status (all held arrival c cred) is
