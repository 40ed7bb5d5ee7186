-- LOOKUP.
use Rattle.std.proofs.Common.{◌≡◌, ℕ, true, false, cond, Bool, List, [], ◌∷◌, ◌++◌, map, Option, Some, None, refl, sym, ap, subst, ◌∙◌}
use Rattle.std.specs.Prelude.{◌==◌, ◌||◌, not, is_none, is_some, option_map}
use Rattle.std.specs.Option.{option_map_or}
use Rattle.std.specs.FinMap as table
use Rattle.std.specs.List.{list_any, AllByRecursion}
use Rattle.std.proofs.lemmas.List.Elements.{recursion_from_All}
use Rattle.rpc_msg.specs.declared.cred.Cred.{Cred}
use Rattle.nfs_proto.specs.declared.answer.Answer.{Answer}
use Rattle.nfs_proto.specs.declared.answer.Answer.TheVariants.{Fault, Found}
use Rattle.nfs_proto.specs.declared.call.Call.{Call}
use Rattle.nfs_proto.specs.declared.call.Call.TheVariants.{Lookup}
use Rattle.nfs_proto.specs.declared.fattr.Fattr.{Fattr}
use Rattle.nfs_proto.specs.declared.handle.Handle.{Handle}
use Rattle.nfs_proto.specs.declared.stamp.Stamp.{Stamp}
use Rattle.fs_layout.specs.declared.attrs.Attrs.{Attrs}
use Rattle.fs_layout.specs.declared.reference.Reference.{Reference}
use Rattle.fs_dir.specs.Slots as blocks
use Rattle.fs_rules.specs.declared.content.Content.{Content}
use Rattle.fs_rules.specs.declared.content.Content.TheVariants.{Regular, Directory, Link}
use Rattle.fs_rules.specs.declared.entry.Entry.{Entry as TreeEntry}
use Rattle.fs_rules.specs.declared.file.File.{File}
use Rattle.fs_rules.specs.declared.kept.Kept.{Kept}
use Rattle.fs_rules.specs.declared.plain_tree.PlainTree.{PlainTree}
use Rattle.fs_rules.specs.Access.{is_allowed, may}
use Rattle.fs_rules.specs.Arguments as rules
use Rattle.fs_rules.specs.Arguments.{is_dot, is_dot_dot, is_dots, looked_up, name_check}
use Rattle.fs_rules.specs.File.{fattr_of, is_directory, kind_of, parent_of, slots_of}
use Rattle.fs_rules.specs.Good.{IsGood}
use Rattle.fs_rules.specs.Handle.{handle, number_in}
use Rattle.fs_rules.specs.Numbers.{kept_at}
use Rattle.fs_rules.specs.Reading as reading
use Rattle.fs_rules.specs.Slots as names
use Rattle.fs_rules.specs.Respond.{Responded, answer_of, own_checks}
use Rattle.fs_rules.specs.Statuses.{Check, fails_where, first_failure, acces, noent, notdir, stale}
use Rattle.fs_checks.specs.Facts.{kind_in, nothing_of}
use Rattle.mini_tx.specs.FlatMemory.{Flat, reads}
use Rattle.plan_forms.specs.Forms.{said}
use Rattle.fs_image.specs.Stands.{Shows}
use Rattle.plan_rules.specs.Works.{IsWorkSet}
use Rattle.fs_image.specs.Owners.{Owners, Chain}
use Rattle.fs_image.specs.Parts.{inode_of, live_inode}
use Rattle.node_cache.specs.declared.held.Held.{Held}
use Rattle.node_cache.specs.declared.want.Want.TheVariants as want
use Rattle.plan_rules.specs.declared.look.Look.{Look}
use Rattle.plan_rules.specs.declared.look.Look.TheVariants.{Record}
use Rattle.plan_rules.specs.Laws.{GoAlike}
use Rattle.plan_rules.specs.Matched.{IsOwnFile, IsOwnLook}
use Rattle.plan_rules.specs.Names.{group_steps, name_steps, record_steps, target}
use Rattle.plan_rules.specs.Orders.{order, lookup_steps}
use Rattle.plan_rules.specs.Steps.{Step, Looks, Checks, is_held, wanted_in, looks_in, refusal_in}
use Rattle.plan_rules.specs.Told.{at_record, dir_groups, file_of, found}
use Rattle.plan_rules.proofs.OrderLemmas.{orders_go_on}
use Rattle.plan_looks.specs.Names.{first_steps}
use Rattle.read_laws.specs.Answers.{fattr_by, found_by, lookup_by}
use Rattle.read_laws.specs.Laws.{AnswersAs, IsPlannedOver, LookupAnswers}
use Rattle.read_laws.proofs.AttrLemmas.{look_held}
use Rattle.read_laws.proofs.NamedLemmas.{found_told, parent_told}
use Rattle.read_laws.proofs.OwnLemmas.{fattr_live, handle_told, named_there, plain, says_shown}
use Rattle.read_laws.proofs.RuleLemmas.{answers, before_some, in_row, refuses}
use Rattle.read_laws.proofs.StepLemmas.{behind, checks_refuse, first_refuses_none, front_wants_none, joined_refuse_none, later, search_refuses_none}

-- ---- the checks of a name and its directory, over what may be a file

abbrev row : Cred → List ℕ → List ℕ → Option File → List Check
row cred dir name p =
    fails_where stale (not (is_some p))
    ∷ fails_where notdir (not (option_map_or (λ (f : File). is_directory f.content) p false))
    ∷ name_check (looked_up dir name)
    ∷ fails_where acces (not (option_map_or (λ (f : File). may f cred 1) p false))
    ∷ []

directory_plain : (f : File) (c : Content) → f.content ≡ c → is_directory (plain f).content ≡ is_directory f.content
directory_plain f (Regular bs) is = rw is refl
directory_plain f (Directory slots parent) is = rw is refl
directory_plain f (Link bs) is = rw is refl

kind_plain : (c : Content) → kind_of (nothing_of (kind_in c)) ≡ kind_of c
kind_plain (Regular bs) = refl
kind_plain (Directory slots parent) = refl
kind_plain (Link bs) = refl

may_plain : (cred : Cred) (f : File) → may (plain f) cred 1 ≡ may f cred 1
may_plain cred f = ap (λ k. is_allowed k f.mode f.uid f.gid cred 1) (kind_plain f.content)

row_plain : (cred : Cred) (dir name : List ℕ) (p : Option File) → row cred dir name (option_map plain p) ≡ row cred dir name p
row_plain cred dir name None = refl
row_plain cred dir name (Some f) =
    ap (λ b. fails_where stale false ∷ fails_where notdir (not b) ∷ name_check (looked_up dir name) ∷ fails_where acces (not (may (plain f) cred 1)) ∷ []) (directory_plain f f.content refl)
    ∙ ap (λ b. fails_where stale false ∷ fails_where notdir (not (is_directory f.content)) ∷ name_check (looked_up dir name) ∷ fails_where acces (not b) ∷ []) (may_plain cred f)

-- where they pass there is a directory
dir_by : (cred : Cred) (dir name : List ℕ) (f : File) (c : Content) → f.content ≡ c → first_failure (row cred dir name (Some f)) ≡ None
    → (slots : List (Option TreeEntry)) × (parent : ℕ) × (f.content ≡ Directory slots parent)
unfolding first_failure
dir_by cred dir name f (Regular bs) is passes = absurd (let fails = subst (λ (x : Content). first_failure (fails_where stale false ∷ fails_where notdir (not (is_directory x)) ∷ name_check (looked_up dir name) ∷ fails_where acces (not (may f cred 1)) ∷ []) ≡ None) is passes in cc)
dir_by cred dir name f (Directory slots parent) is passes = (slots, parent, is)
dir_by cred dir name f (Link bs) is passes = absurd (let fails = subst (λ (x : Content). first_failure (fails_where stale false ∷ fails_where notdir (not (is_directory x)) ∷ name_check (looked_up dir name) ∷ fails_where acces (not (may f cred 1)) ∷ []) ≡ None) is passes in cc)

there_by : (cred : Cred) (dir name : List ℕ) (p : Option File) → first_failure (row cred dir name p) ≡ None → (f : File) × (p ≡ Some f)
unfolding first_failure
there_by cred dir name None passes = absurd cc
there_by cred dir name (Some f) passes = (f, refl)

-- ---- the file that is found

live_kind : (c : Content) → (kind_of c == 0) ≡ false
live_kind (Regular bs) = refl
live_kind (Directory slots parent) = refl
live_kind (Link bs) = refl

found_shown : (t : PlainTree) (m : ℕ) → IsGood t → (p : Option File) → table.get t.files m ≡ p → (kept : Kept) (first : Option Reference)
    → (λ (a : Attrs). cond (a.kind == 0) (Fault stale) (Found (record { 0 = handle m a.generation }) (fattr_by m a))) (inode_of p kept first)
    ≡ option_map_or (λ f. Found (record { 0 = handle m f.generation }) (fattr_of m f)) p (Fault stale)
found_shown t m good None is kept first = refl
found_shown t m good (Some f) is kept first =
    ap (λ b. cond b (Fault stale) (Found (record { 0 = handle m f.generation }) (fattr_by m (live_inode f first)))) (live_kind f.content)
    ∙ ap (λ (a : Fattr). Found (record { 0 = handle m f.generation }) a) (fattr_live t m f good is first)

-- ---- the search and what comes behind it

look_skipped : (l : Look) (steps : List Step) → refusal_in (Looks l ∷ steps) ≡ refusal_in steps
unfolding refusal_in
look_skipped l steps = refl

-- what comes behind the search
abbrev behind_search : Option ℕ → List Step
behind_search found = Checks (fails_where noent (is_none found)) ∷ record_steps found

behind_decides : (found : Option ℕ) → refusal_in (behind_search found) ≡ first_failure (fails_where noent (is_none found) ∷ [])
unfolding refusal_in first_failure
behind_decides None = refl
behind_decides (Some m) = refl

behind_held : (held : Held) (m : ℕ) → wanted_in held (behind_search (Some m)) ≡ None → is_held held (want.Inode m) ≡ true
unfolding wanted_in
behind_held held m none = look_held (is_held held (want.Inode m)) (want.Inode m) _ none

behind_looks : (m : ℕ) → looks_in (behind_search (Some m)) ≡ Record m ∷ []
unfolding looks_in
behind_looks m = refl

search_by : (held : Held) (n : ℕ) (name : List ℕ) (b : Bool) → refusal_in (cond b [] (name_steps held n name)) ≡ None
unfolding refusal_in
search_by held n name true = refl
search_by held n name false =
    joined_refuse_none (first_steps held n) (group_steps held n (list_any (blocks.has_name name)) 0 (at_record held n 0 dir_groups)) (first_refuses_none held n)
    (search_refuses_none held n (list_any (blocks.has_name name)) 0 (at_record held n 0 dir_groups))

or_false : (a b : Bool) → a ≡ false → b ≡ false → a || b ≡ false
or_false a b first second = ap (λ x. x || b) first ∙ second

module _ (held : Held) (flat : Flat) (t : PlainTree) (o : Owners) (work : IsWorkSet held) (same : held.geometry ≡ t.geometry) (shows : Shows flat t o) (good : IsGood t)
    (n parent : ℕ) (d : File) (slots : List (Option TreeEntry)) (there_is : table.get t.files n ≡ Some d) (content : d.content ≡ Directory slots parent)
    (there : is_held held (want.Inode n) ≡ true) (own : IsOwnFile t.geometry flat o held n) (name : List ℕ)
    (none : wanted_in held (lookup_steps held n name) ≡ None) where
  abbrev search : List Step
  search = cond (is_dots name) [] (name_steps held n name)

  search_none : wanted_in held search ≡ None
  search_none = front_wants_none held search (behind_search (target held n name)) none

  pub on_search : GoAlike held (search ++ behind_search (target held n name)) (behind_search (target held n name)) (looks_in search)
  on_search = behind held search (behind_search (target held n name)) none (search_by held n name (is_dots name))

  groups_none : is_dots name ≡ false → wanted_in held (group_steps held n (list_any (blocks.has_name name)) 0 (at_record held n 0 dir_groups)) ≡ None
  groups_none plain_name =
      let groups = group_steps held n (list_any (blocks.has_name name)) 0 (at_record held n 0 dir_groups) in
      let all : wanted_in held (first_steps held n ++ groups) ≡ None = ap (λ b. wanted_in held (cond b [] (name_steps held n name))) (sym plain_name) ∙ search_none in
      sym (behind held (first_steps held n) groups all (first_refuses_none held n)).wanted ∙ all

  target_by : (b c : Bool) → (b ≡ false → c ≡ false → found held n name ≡ names.file_named slots name)
      → cond b (Some n) (cond c (at_record held n None (λ a. Some a.parent)) (found held n name)) ≡ cond b (Some n) (cond c (Some parent) (names.file_named slots name))
  target_by true c same_name = refl
  target_by false true same_name = parent_told held flat t o work same shows good n parent d slots there_is content there own
  target_by false false same_name = same_name refl refl

  -- the name names the file of the tree
  pub target_told : target held n name ≡ reading.target n d name
  unfolding reading.target
  target_told =
      target_by (is_dot name) (is_dot_dot name)
      (λ no_dot no_dots. found_told held flat t o work same shows good n parent d slots there_is content there own name (groups_none (or_false (is_dot name) (is_dot_dot name) no_dot no_dots)))
      ∙ ap (λ (c : Content). cond (is_dot name) (Some n) (cond (is_dot_dot name) (parent_of c) (names.file_named (slots_of c) name))) (sym content)

-- ---- the steps

module _ (held : Held) (flat : Flat) (t : PlainTree) (o : Owners) (arrival : ℕ) (cred : Cred) (now : Stamp) (start : ℕ) (dir : Handle) (name : List ℕ)
    (over : IsPlannedOver held flat t o arrival (Lookup dir name) cred) where
  abbrev n : ℕ
  n = number_in dir.0

  abbrev call : Call
  call = Lookup dir name

  abbrev front : List Step
  front = Looks (Record n) ∷ map Checks (row cred dir.0 name (file_of held dir.0))

  abbrev rest : List Step
  rest = lookup_steps held n name

  order_is : order held arrival call cred ≡ front ++ rest
  unfolding order
  order_is = refl

  none_wanted : wanted_in held (front ++ rest) ≡ None
  none_wanted = ap (wanted_in held) (sym order_is) ∙ over.wanted

  all_own : AllByRecursion (IsOwnLook t.geometry flat o held) (looks_in (front ++ rest))
  all_own =
      subst (λ (ss : List Step). AllByRecursion (IsOwnLook t.geometry flat o held) (looks_in ss)) order_is
      (recursion_from_All (IsOwnLook t.geometry flat o held) (looks_in (order held arrival call cred)) over.own)

  held_there : is_held held (want.Inode n) ≡ true
  unfolding wanted_in
  held_there = look_held (is_held held (want.Inode n)) (want.Inode n) _ none_wanted

  own_file : IsOwnFile t.geometry flat o held n
  unfolding looks_in
  own_file = all_own.0

  told : row cred dir.0 name (file_of held dir.0) ≡ row cred dir.0 name (rules.file_of t dir.0)
  told =
      ap (row cred dir.0 name) (handle_told held flat t o over.work over.same over.shows dir.0 held_there own_file)
      ∙ row_plain cred dir.0 name (rules.file_of t dir.0)

  argument_row : rules.argument_checks t call cred ≡ row cred dir.0 name (rules.file_of t dir.0)
  unfolding rules.argument_checks
  argument_row = refl

  front_refusal : refusal_in front ≡ first_failure (row cred dir.0 name (rules.file_of t dir.0))
  front_refusal =
      look_skipped (Record n) (map Checks (row cred dir.0 name (file_of held dir.0))) ∙ checks_refuse (row cred dir.0 name (file_of held dir.0)) ∙ ap first_failure told

  -- ---- a check of the arguments fails

  fails_alike : (status : ℕ) → refusal_in front ≡ Some status
      → (refusal_in (order held arrival call cred) ≡ Some status) × (first_failure (rules.argument_checks t call cred ++ own_checks t call cred) ≡ Some status)
  fails_alike status fails = (
    ap refusal_in order_is ∙ (orders_go_on.refused held front rest status (front_wants_none held front rest none_wanted) fails).2,
    before_some (rules.argument_checks t call cred) (own_checks t call cred) status (ap first_failure argument_row ∙ sym front_refusal ∙ fails),
  )

  -- ---- they pass

  module _ (passed : refusal_in front ≡ None) where
    row_passes : first_failure (row cred dir.0 name (rules.file_of t dir.0)) ≡ None
    row_passes = sym front_refusal ∙ passed

    abbrev live : (f : File) × (rules.file_of t dir.0 ≡ Some f)
    live = there_by cred dir.0 name (rules.file_of t dir.0) row_passes

    abbrev d : File
    d = live.0

    abbrev parts : (slots : List (Option TreeEntry)) × (parent : ℕ) × (d.content ≡ Directory slots parent)
    parts = dir_by cred dir.0 name d d.content refl (subst (λ (p : Option File). first_failure (row cred dir.0 name p) ≡ None) live.1 row_passes)

    on : GoAlike held (front ++ rest) rest (looks_in front)
    on = behind held front rest none_wanted passed

    rest_none : wanted_in held rest ≡ None
    rest_none = sym on.wanted ∙ none_wanted

    there_is : table.get t.files n ≡ Some d
    there_is = named_there t dir.0 d live.1

    abbrev found_here : Option ℕ
    found_here = target held n name

    same_target : found_here ≡ reading.target n d name
    same_target =
        target_told held flat t o over.work over.same over.shows over.good n parts.1 d parts.0 there_is parts.2 held_there own_file name rest_none

    onward : GoAlike held rest (behind_search found_here) (looks_in (cond (is_dots name) [] (name_steps held n name)))
    onward = on_search held flat t o over.work over.same over.shows over.good n parts.1 d parts.0 there_is parts.2 held_there own_file name rest_none

    refusal_is : refusal_in (order held arrival call cred) ≡ first_failure (fails_where noent (is_none found_here) ∷ [])
    refusal_is = ap refusal_in order_is ∙ on.refusal ∙ onward.refusal ∙ behind_decides found_here

    own_row : own_checks t call cred ≡ fails_where noent (is_none (reading.target n d name)) ∷ []
    own_row = ap (λ (p : Option File). option_map_or (λ (f : File). reading.lookup_checks n f name) p []) live.1

    rules_decide : first_failure (rules.argument_checks t call cred ++ own_checks t call cred) ≡ first_failure (fails_where noent (is_none found_here) ∷ [])
    rules_decide =
        in_row (rules.argument_checks t call cred) (own_checks t call cred) (ap first_failure argument_row ∙ row_passes) ∙ ap first_failure own_row
        ∙ ap (λ (p : Option ℕ). first_failure (fails_where noent (is_none p) ∷ [])) (sym same_target)

    some_found : (p : Option ℕ) → first_failure (fails_where noent (is_none p) ∷ []) ≡ None → (m : ℕ) × (p ≡ Some m)
    unfolding first_failure
    some_found None passes = absurd cc
    some_found (Some m) passes = (m, refl)

    answer_is : (m : ℕ) → found_here ≡ Some m → answer_of t call ≡ said (lookup_by held n name).form (reads (lookup_by held n name).items flat)
    unfolding reading.lookup_answer
    answer_is m is =
        let tail_none : wanted_in held (behind_search found_here) ≡ None = sym onward.wanted ∙ rest_none in
        let m_held = behind_held held m (subst (λ (p : Option ℕ). wanted_in held (behind_search p) ≡ None) is tail_none) in
        let own_rest = later (IsOwnLook t.geometry flat o held) (looks_in front) (looks_in rest) (subst (λ (ls : List Look). AllByRecursion (IsOwnLook t.geometry flat o held) ls) on.looks all_own) in
        let own_tail = later (IsOwnLook t.geometry flat o held) (looks_in (cond (is_dots name) [] (name_steps held n name))) (looks_in (behind_search found_here))
        (subst (λ (ls : List Look). AllByRecursion (IsOwnLook t.geometry flat o held) ls) onward.looks own_rest) in
        let m_own : AllByRecursion (IsOwnLook t.geometry flat o held) (Record m ∷ []) =
        subst (λ (ls : List Look). AllByRecursion (IsOwnLook t.geometry flat o held) ls) (ap (λ (p : Option ℕ). looks_in (behind_search p)) is ∙ behind_looks m) own_tail in
        ap (λ (p : Option File). option_map_or (λ (f : File). reading.lookup_answer t n f name) p (Fault stale)) live.1
        ∙ ap (λ (p : Option ℕ). option_map_or (reading.found_at t) p (Fault noent)) (sym same_target ∙ is)
        ∙ sym (found_shown t m over.good (table.get t.files m) refl (kept_at t m) (o.place m (Chain 0)))
        ∙ sym (says_shown held flat t o over.work over.same over.shows m m_held m_own.0 (Fault stale)
        (λ a. cond (a.kind == 0) (Fault stale) (Found (record { 0 = handle m a.generation }) (fattr_by m a))))
        ∙ ap (λ (p : Option ℕ). option_map_or (found_by held) p (Fault noent)) (sym is)

  refused_by : (p : Option ℕ) → refusal_in front ≡ p → (status : ℕ) → refusal_in (order held arrival call cred) ≡ Some status
      → first_failure (rules.argument_checks t call cred ++ own_checks t call cred) ≡ Some status
  refused_by None passed status fails = rules_decide passed ∙ sym (refusal_is passed) ∙ fails
  refused_by (Some other) failed status fails = let both = fails_alike other failed in both.1 ∙ sym both.0 ∙ fails

  answers_by : (p : Option ℕ) → refusal_in front ≡ p → refusal_in (order held arrival call cred) ≡ None
      → (first_failure (rules.argument_checks t call cred ++ own_checks t call cred) ≡ None)
      × (answer_of t call ≡ said (lookup_by held n name).form (reads (lookup_by held n name).items flat))
  answers_by None passed passes =
      let found_m = some_found passed (target held n name) (sym (refusal_is passed) ∙ passes) in
      (rules_decide passed ∙ sym (refusal_is passed) ∙ passes, answer_is passed found_m.0 found_m.1)
  answers_by (Some other) failed passes =
      let both = fails_alike other failed in let never : ◌≡◌ {A = Option ℕ} (Some other) None = sym both.0 ∙ passes in absurd cc

  pub lookup_as : AnswersAs held flat t arrival call cred now start (lookup_by held n name)
  lookup_as =
      record {
        refused = λ status fails. refuses t call cred now start refl status (refused_by (refusal_in front) refl status fails);
        answers = λ passes. (let is = answers_by (refusal_in front) refl passes in
            answers t call cred now start refl is.0 ∙ ap (λ (a : Answer). let r : Responded = record { answer = a; tree = t; made = None } in r) is.1);
      }

pub lookup_answers : LookupAnswers
lookup_answers held flat t o arrival cred now start dir name over = lookup_as held flat t o arrival cred now start dir name over
