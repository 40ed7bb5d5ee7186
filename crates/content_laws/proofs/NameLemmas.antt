-- READDIR.
use Rattle.std.proofs.Common.{◌≡◌, ℕ, zero, suc, ◌+◌, ◌*◌, ◌/◌, ◌^◌, ◌<◌, ◌≤◌, true, false, cond, Bool, List, [], ◌∷◌, ◌++◌, length, take, drop, map, codes, Option, Some, None, refl, sym, ap, subst, ◌∙◌, arith}
use Rattle.std.specs.Prelude.{◌==◌, flat_map, not, unwrap_or}
use Rattle.std.specs.Option.{option_map_or}
use Rattle.std.proofs.lemmas.Bool.{ne_eqb}
use Rattle.std.proofs.lemmas.List.{drop-drop, drop_all, take-append-drop, map-append}
use Rattle.rpc_msg.specs.declared.cred.Cred.{Cred}
use Rattle.nfs_proto.specs.declared.answer.Answer.TheVariants.{Fault}
use Rattle.nfs_proto.specs.declared.call.Call.TheVariants.{ReadDir}
use Rattle.nfs_proto.specs.declared.dir_entry.DirEntry.{DirEntry}
use Rattle.nfs_proto.specs.declared.handle.Handle.{Handle}
use Rattle.nfs_proto.specs.declared.stamp.Stamp.{Stamp}
use Rattle.fs_dir.specs.declared.slot.Slot.{Slot}
use Rattle.fs_rules.specs.declared.content.Content.{Content}
use Rattle.fs_rules.specs.declared.content.Content.TheVariants.{Regular, Directory, Link}
use Rattle.fs_rules.specs.declared.entry.Entry.{Entry as TreeEntry}
use Rattle.fs_rules.specs.declared.file.File.{File}
use Rattle.fs_rules.specs.declared.plain_tree.PlainTree.{PlainTree}
use Rattle.fs_rules.specs.Access.{may}
use Rattle.fs_rules.specs.Arguments as rules
use Rattle.fs_rules.specs.File.{is_directory, parent_of, slots_of}
use Rattle.fs_rules.specs.Handle.{number_in}
use Rattle.fs_rules.specs.Lists.{below}
use Rattle.fs_rules.specs.Reading.{names_answer, read_dir_answer, read_dir_checks}
use Rattle.fs_rules.specs.Slots.{entries_behind, entries_from, entries_of}
use Rattle.fs_rules.specs.Statuses.{fails_where, first_failure, acces, notdir, stale}
use Rattle.fs_checks.specs.Rows.{read_dir_row}
use Rattle.fs_checks.proofs.FactsLemmas.{list_looks}
use Rattle.mini_tx.specs.FlatMemory.{Flat, reads}
use Rattle.fs_image.specs.Owners.{Owners, Chain}
use Rattle.fs_image.specs.Parts.{live_inode, slot_of}
use Rattle.fs_image.specs.Records.{NameFiles}
use Rattle.fs_image.proofs.ContentLemmas.{tail_names}
use Rattle.node_cache.specs.declared.held.Held.{Held}
use Rattle.node_cache.specs.declared.want.Want.{Want}
use Rattle.node_cache.specs.declared.want.Want.TheVariants as want
use Rattle.plan_rules.specs.Names.{group_steps, list_steps}
use Rattle.plan_rules.specs.Orders.{order}
use Rattle.plan_rules.specs.Steps.{Checks, is_held, wanted_in, refusal_in}
use Rattle.plan_rules.specs.Told as told
use Rattle.plan_rules.specs.Told.{at_record, dir_groups, group_of}
use Rattle.plan_looks.specs.Names.{first_steps, groups_from}
use Rattle.plan_looks.proofs.NameLemmas.{all_groups}
use Rattle.plan_forms.specs.declared.plan.Reading.{Reading}
use Rattle.plan_forms.specs.Forms.{said}
use Rattle.read_laws.specs.Answers.{ready}
use Rattle.read_laws.specs.Laws.{AnswersAs, IsPlannedOver}
use Rattle.read_laws.proofs.AttrLemmas.{look_held}
use Rattle.read_laws.proofs.NamedLemmas.{group_own, groups_told, in_order, no_zero, says_dir}
use Rattle.read_laws.proofs.StepLemmas.{behind, first_refuses_none, joined_refuse_none, search_refuses_none}
use Rattle.content_laws.specs.Answers.{entries_in, names_by, names_from, next_cookie, read_dir_by}
use Rattle.content_laws.specs.Laws.{ReadDirAnswers}
use Rattle.content_laws.proofs.FileLemmas as file
use Rattle.content_laws.proofs.FileLemmas.{IsFileCall, file_answers}

abbrev none_ends : List Slot → Bool
none_ends slots = false

-- ---- the names in slots are those of the tree

some_listed : (cookie : ℕ) (e : TreeEntry) (slots : List Slot) (b : Bool) → b ≡ true
    → cond b (record { fileid = e.file; name = e.name; cookie = cookie } ∷ names_from (next_cookie cookie) slots) (names_from (next_cookie cookie) slots)
    ≡ record { fileid = e.file; name = e.name; cookie = cookie } ∷ names_from (next_cookie cookie) slots
some_listed cookie e slots true is = refl
some_listed cookie e slots false is = absurd cc

names_are : (i : ℕ) (slots : List (Option TreeEntry)) → NameFiles slots → i + length slots < 2 ^ 31 → names_from (i + 3) (map slot_of slots) ≡ entries_from i slots
unfolding names_from entries_from
names_are i [] names small = refl
names_are i (None ∷ slots) names small =
    let next : next_cookie (i + 3) ≡ i + 1 + 3 = omega (arith, small) in
    ap (λ c. names_from c (map slot_of slots)) next ∙ names_are (i + 1) slots (tail_names None slots names) (omega (arith, small))
names_are i (Some e ∷ slots) names small =
    let next : next_cookie (i + 3) ≡ i + 1 + 3 = omega (arith, small) in
    some_listed (i + 3) e (map slot_of slots) (not (e.file == 0)) (ap not (ne_eqb e.file 0 (names 0 e refl)))
    ∙ ap (λ (es : List DirEntry). record { fileid = e.file; name = e.name; cookie = i + 3 } ∷ es)
    (ap (λ c. names_from c (map slot_of slots)) next ∙ names_are (i + 1) slots (tail_names (Some e) slots names) (omega (arith, small)))

entries_are : (n parent : ℕ) (slots : List (Option TreeEntry)) → NameFiles slots → length slots < 2 ^ 31 → entries_in n parent (map slot_of slots) ≡ entries_of n parent slots
unfolding entries_of
entries_are n parent slots names small =
    ap (λ (es : List DirEntry). record { fileid = n; name = codes "."; cookie = 1 } ∷ record { fileid = parent; name = codes ".."; cookie = 2 } ∷ es)
    (names_are 0 slots names (omega (arith, small)))

-- ---- all groups

module _ (held : Held) (n : ℕ) (slots : List (Option TreeEntry)) (groups : ℕ)
    (own : (g : ℕ) → is_held held (want.Slots n g) ≡ true → group_of held n g ≡ map slot_of (take 960 (drop (960 * g) slots)))
    (few : length slots ≤ 960 * groups) where
  abbrev rest_of : ℕ → List Slot
  rest_of g = map slot_of (drop (960 * g) slots)

  next_rest : (g : ℕ) → rest_of g ≡ map slot_of (take 960 (drop (960 * g) slots)) ++ rest_of (g + 1)
  next_rest g =
      let some = drop (960 * g) slots in
      let place : 960 * g + 960 ≡ 960 * (g + 1) = omega arith in
      ap (map slot_of) (sym (take-append-drop 960 some)) ∙ map-append slot_of (take 960 some) (drop 960 some)
      ∙ ap (λ xs. map slot_of (take 960 some) ++ map slot_of xs) (drop-drop 960 (960 * g) slots ∙ ap (λ k. drop k slots) place)

  look_rest : (b : Bool) (w : Want) (rest : Option Want) → cond b rest (Some w) ≡ None → rest ≡ None
  look_rest true w rest is = is
  look_rest false w rest is = absurd cc

  walk : (g left : ℕ) → g + left ≡ groups → wanted_in held (group_steps held n none_ends g left) ≡ None → groups_from held n g left ≡ rest_of g
  unfolding groups_from group_steps wanted_in
  walk g zero all none = sym (ap (map slot_of) (drop_all (960 * g) slots (omega (arith, all, few))))
  walk g (suc left) all none =
      let there = look_held (is_held held (want.Slots n g)) (want.Slots n g) _ none in
      let rest = look_rest (is_held held (want.Slots n g)) (want.Slots n g) _ none in
      ap (λ xs. xs ++ groups_from held n (g + 1) left) (own g there)
      ∙ ap (λ xs. map slot_of (take 960 (drop (960 * g) slots)) ++ xs) (walk (g + 1) left (omega (arith, all)) rest)
      ∙ sym (next_rest g)

  pub all_slots : wanted_in held (group_steps held n none_ends 0 groups) ≡ None → flat_map (group_of held n) (below groups) ≡ map slot_of slots
  all_slots none = sym (all_groups held n groups) ∙ walk 0 groups (omega arith) none

-- ---- the directory

dir_by : (cred : Cred) (f : File) (c : Content) → f.content ≡ c → first_failure (read_dir_row f cred) ≡ None
    → (slots : List (Option TreeEntry)) × (parent : ℕ) × (f.content ≡ Directory slots parent)
unfolding first_failure
dir_by cred f (Regular bs) is passes = absurd (let fails = subst (λ (x : Content). first_failure (fails_where notdir (not (is_directory x)) ∷ fails_where acces (not (may f cred 4)) ∷ []) ≡ None) is passes in cc)
dir_by cred f (Directory slots parent) is passes = (slots, parent, is)
dir_by cred f (Link bs) is passes = absurd (let fails = subst (λ (x : Content). first_failure (fails_where notdir (not (is_directory x)) ∷ fails_where acces (not (may f cred 4)) ∷ []) ≡ None) is passes in cc)

module _ (held : Held) (flat : Flat) (t : PlainTree) (o : Owners) (arrival : ℕ) (cred : Cred) (now : Stamp) (start : ℕ) (dir : Handle) (cookie count : ℕ)
    (over : IsPlannedOver held flat t o arrival (ReadDir dir cookie count) cred) where
  abbrev n : ℕ
  n = number_in dir.0

  list_refuses : refusal_in (list_steps held n) ≡ None
  list_refuses =
      joined_refuse_none (first_steps held n) (group_steps held n none_ends 0 (at_record held n 0 dir_groups)) (first_refuses_none held n)
      (search_refuses_none held n none_ends 0 (at_record held n 0 dir_groups))

  dir_call : IsFileCall held t arrival (ReadDir dir cookie count) cred dir
  unfolding order rules.argument_checks
  dir_call =
      record {
        rest = λ p. Checks (fails_where notdir (not (option_map_or (λ (f : File). is_directory f.content) p false)))
            ∷ option_map_or (λ (d : File). map Checks (read_dir_checks d cred) ++ list_steps held n) p [];
        order_is = refl;
        row = λ f. read_dir_row f cred;
        more = λ f. list_steps held n;
        rest_is = λ f. refl;
        alike = list_looks cred;
        passes = λ f. list_refuses;
        checks = λ p. fails_where notdir (not (option_map_or (λ (f : File). is_directory f.content) p false)) ∷ option_map_or (λ (d : File). read_dir_checks d cred) p [];
        checks_are = refl;
        row_is = λ f. refl;
      }

  groups_none : wanted_in held (list_steps held n) ≡ None → wanted_in held (group_steps held n none_ends 0 (at_record held n 0 dir_groups)) ≡ None
  groups_none none =
      sym (behind held (first_steps held n) (group_steps held n none_ends 0 (at_record held n 0 dir_groups)) none (first_refuses_none held n)).wanted ∙ none

  names_are_told : file.AnswersHere held flat t o arrival (ReadDir dir cookie count) cred now start dir over dir_call refl (read_dir_by held n cookie count)
  unfolding read_dir_answer dir_call
  names_are_told d live passes none =
      let there = file.there held flat t o arrival (ReadDir dir cookie count) cred now start dir over dir_call refl in
      let own = file.own held flat t o arrival (ReadDir dir cookie count) cred now start dir over dir_call refl in
      let there_is = file.there_is held flat t o arrival (ReadDir dir cookie count) cred now start dir over dir_call refl d live in
      let is = dir_by cred d d.content refl passes in
      let slots = is.0 in
      let parent = is.1 in
      let says = says_dir held flat t o over.work over.same over.shows over.good n parent d slots there_is is.2 there own in
      let order = in_order held flat t o over.work over.same over.shows over.good n parent d slots there_is is.2 there own in
      let whole = order.1.whole in
      let few = order.1.few in
      let groups = (length slots / 15 + 63) / 64 in
      let told_groups : at_record held n 0 dir_groups ≡ groups = groups_told held flat t o over.work over.same over.shows over.good n parent d slots there_is is.2 there own in
      let none_here : wanted_in held (group_steps held n none_ends 0 groups) ≡ None =
      subst (λ k. wanted_in held (group_steps held n none_ends 0 k) ≡ None) told_groups (groups_none none) in
      let slots_are : told.slots_of held n ≡ map slot_of slots =
      ap (λ k. flat_map (group_of held n) (below k)) told_groups
      ∙ all_slots held n slots groups (group_own held flat t o over.work over.same over.shows over.good n parent d slots there_is is.2 there own) (omega (arith, whole)) none_here in
      let names = no_zero t slots over.good order.1 in
      let parent_is : (live_inode d (o.place n (Chain 0))).parent ≡ parent = ap (λ (c : Content). unwrap_or (parent_of c) 0) is.2 in
      ap (λ (p : Option File). option_map_or (λ (f : File). read_dir_answer n f cookie count) p (Fault stale)) live
      ∙ ap (λ (c : Content). names_answer count (entries_behind cookie (entries_of n (unwrap_or (parent_of c) n) (slots_of c)))) is.2
      ∙ ap (λ (es : List DirEntry). names_answer count (entries_behind cookie es)) (sym (entries_are n parent slots names (omega (arith, few))))
      ∙ ap (λ (xs : List Slot). names_answer count (entries_behind cookie (entries_in n parent xs))) (sym slots_are)
      ∙ ap (λ p. names_answer count (entries_behind cookie (entries_in n p (told.slots_of held n)))) (sym parent_is)
      ∙ ap (λ (r : Reading). said r.form (reads r.items flat)) (sym (says (ready (Fault stale)) (names_by held n cookie count)))

  pub read_dir_as : AnswersAs held flat t arrival (ReadDir dir cookie count) cred now start (read_dir_by held n cookie count)
  read_dir_as = file_answers held flat t o arrival (ReadDir dir cookie count) cred now start dir over dir_call refl (read_dir_by held n cookie count) names_are_told

pub read_dir_answers : ReadDirAnswers
read_dir_answers held flat t o arrival cred now start dir cookie count over = read_dir_as held flat t o arrival cred now start dir cookie count over
