-- What respond is for RENAME.
use Rattle.std.proofs.Common.{◌≡◌, ◌≢◌, inl, inr, ℕ, ◌+◌, ◌-◌, ◌/◌, ◌^◌, ◌<◌, ◌≤◌, Bool, true, false, cond, ltb, List, [], ◌∷◌, ◌++◌, length, Option, Some, None, refl, sym, ap, subst, ◌∙◌, arith}
use Rattle.std.specs.Prelude.{not, ◌||◌, ◌&&◌, ◌==◌, nat_lt, is_some, is_none, option_and_then}
use Rattle.std.specs.Option.{option_map_or, option_or}
use Rattle.std.specs.List.{list_any}
use Rattle.std.proofs.lemmas.Bool.{not-false, eqb-true, eqb-false, ltb-false}
use Rattle.std.specs.FinMap.{get}
use Rattle.rpc_msg.specs.declared.cred.Cred.{Cred}
use Rattle.nfs_proto.specs.declared.answer.Answer.TheVariants.{Plain}
use Rattle.nfs_proto.specs.declared.call.Call.{Call}
use Rattle.nfs_proto.specs.declared.call.Call.TheVariants.{Rename}
use Rattle.nfs_proto.specs.declared.handle.Handle.{Handle}
use Rattle.nfs_proto.specs.declared.stamp.Stamp.{Stamp}
use Rattle.fs_rules.specs.declared.content.Content.{Content}
use Rattle.fs_rules.specs.declared.content.Content.TheVariants.{Regular, Link, Directory}
use Rattle.fs_rules.specs.declared.entry.Entry.{Entry}
use Rattle.fs_rules.specs.declared.file.File.{File}
use Rattle.fs_rules.specs.declared.plain_tree.PlainTree.{PlainTree}
use Rattle.fs_rules.specs.Lists.{below}
use Rattle.fs_rules.specs.Handle.{number_in}
use Rattle.fs_rules.specs.File.{used, slots_of, is_directory, chains_up_to, last_of}
use Rattle.fs_rules.specs.Slots.{file_named, is_in_use, put_name, take_name}
use Rattle.fs_rules.specs.Numbers.{free_blocks}
use Rattle.fs_rules.specs.Statuses.{Check, first_failure, fbig, nospc}
use Rattle.fs_rules.specs.Arguments.{file_of, at_number, argument_checks, is_dots}
use Rattle.fs_rules.specs.Edits.{Edit, Changed, Freed, edited, first_made, limits, used_at, is_spent}
use Rattle.fs_rules.specs.Making.{renamed}
use Rattle.fs_rules.specs.Names.{Move, is_same, replaces, leads_to, move_checks, with_parent, one_where, received, directory_edits, replaced_edits, move_edits, named_file, move_of, rename_checks, rename_edits, without_name, unlinked, loses_link}
use Rattle.fs_rules.specs.Good.{IsGood}
use Rattle.fs_rules.specs.Respond.{own_checks, move_by, edits_of, decided, respond}
use Rattle.fs_laws.proofs.StatusLemmas.{ArePassed, passed, not_so}
use Rattle.fs_laws.proofs.WholeLemmas.{IsWhole, whole_from_good, some_of, named_in}
use Rattle.fs_laws.proofs.DirLemmas.{IsDir, dir_content, dir_list, dir_links, renamed_dir}
use Rattle.fs_laws.proofs.LinkLemmas.{plain_content, IsFile, file_apart, IsNamedFile, named_file_of, IsEmptyDir, empty_none, dir_parent}
use Rattle.fs_laws.proofs.MoveLemmas.{around_here}
use Rattle.fs_laws.proofs.ReplaceLemmas.{IsSource, turned_content, source_kind, source_apart}
use Rattle.fs_laws.proofs.RenameLemmas.{moving, named_by, one_dir, way_around}
use Rattle.fs_checks.specs.Rows.{pair_row}
use Rattle.fs_edits.specs.declared.replaced.Replaced.TheVariants.{Nothing, LosesLink, IsFreed}
use Rattle.fs_decisions.specs.Steps.{refused}
use Rattle.fs_decisions.specs.Limits.{used_by, grown_limits}
use Rattle.fs_decisions.specs.Renaming.{source_row, is_same_number, is_dir_at, replaced_is, over_row, kind_check, chain_row, move_check, spent_by, CanRise, fate_of, replaced_at, links_after, plan_of, MayMove}
use Rattle.fs_decisions.specs.Limits.{is_spent_at}
use Rattle.fs_edits.specs.Moving.{CanReplace}
use Rattle.fs_decisions.proofs.RowLemmas.{behind_none, no_limits, named_there}
use Rattle.fs_decisions.proofs.ChangeLemmas.{arguments_fail, check_fails, limit_fails, all_pass}
use Rattle.fs_decisions.proofs.TakeLemmas.{IsLight, light_freed, light_changed, light_dir, length_taken}
use Rattle.fs_decisions.proofs.RemoveLemmas.{light_loses, spent_loses}
use Rattle.fs_decisions.proofs.PairLemmas.{pair_there}
use Rattle.fs_decisions.proofs.GrowthLemmas.{AreLight, limits_grown, or_none}

-- ---- checks

first_append : (xs ys : List Check) → first_failure (xs ++ ys) ≡ option_or (first_failure xs) (first_failure ys)
unfolding first_failure
first_append [] ys = refl
first_append (Some s ∷ xs) ys = refl
first_append (None ∷ xs) ys = first_append xs ys

-- checks that ask whether a directory goes across
across_by : (x deep above : Bool) → first_failure (cond (x && deep) (Some 63) None ∷ cond (x && above) (Some 5) None ∷ [])
    ≡ cond x (first_failure (cond deep (Some 63) None ∷ cond above (Some 5) None ∷ [])) None
unfolding first_failure
across_by true deep above = refl
across_by false deep above = refl

-- checks of the file that is replaced, where there is one
over_by : (D : Bool) (o : Option (ℕ × File))
    → first_failure (
    cond (D && option_map_or (λ r. not (is_directory r.1.content)) o false) (Some 20) None
    ∷ cond (not D && option_map_or (λ r. is_directory r.1.content) o false) (Some 21) None
    ∷ cond (option_map_or (λ r. is_in_use (slots_of r.1.content)) o false) (Some 66) None
    ∷ [])
    ≡ option_map_or (λ r. first_failure (over_row D r.1)) o None
unfolding first_failure
over_by true None = refl
over_by false None = refl
over_by D (Some r) = refl

-- the names are in form, and the first is there or not
source_first : (dots : Bool) (o : Option ℕ) (m : Option Move) (rest : List Check) (status : ℕ) → (o ≡ None → m ≡ None)
    → first_failure (cond dots (Some 13) None ∷ cond (not (is_some o)) (Some 2) None ∷ []) ≡ Some status
    → first_failure (cond dots (Some 13) None ∷ cond (is_none m) (Some 2) None ∷ rest) ≡ Some status
unfolding first_failure
source_first true o m rest status none h = h
source_first false None m rest status none h = ap (λ (k : Option Move). first_failure (None ∷ cond (is_none k) (Some 2) None ∷ rest)) (none refl) ∙ h
source_first false (Some s) m rest status none h = absurd cc

front : (dots : Bool) → dots ≡ false → first_failure (cond dots (Some 13) None ∷ None ∷ []) ≡ None
unfolding first_failure
front true is = absurd cc
front false is = refl

or_twice : (x y : Bool) → (x || (x || y)) ≡ (x || y)
or_twice true y = refl
or_twice false y = refl

-- a file that is turned to another parent uses as many blocks
used_turned : (b : ℕ) (c : Content) → used (with_parent b c) ≡ used c
used_turned b (Regular blocks) = refl
used_turned b (Directory slots parent) = refl
used_turned b (Link blocks) = refl

-- links that a directory takes along, where it goes across
along_by : (D same : Bool) → one_where (D && not same) ≡ cond same 0 (one_where D)
along_by true true = refl
along_by true false = refl
along_by false true = refl
along_by false false = refl

-- limits that are not passed
none_fails : (spent l k u : Bool) → cond spent (Some fbig) (cond (l || (k || u)) (Some nospc) None) ≡ None → k ≡ false
none_fails true l k u is = absurd cc
none_fails false true k u is = absurd cc
none_fails false false true u is = absurd cc
none_fails false false false u is = refl

one_at_most : (D : Bool) → one_where D ≤ 1
one_at_most true = omega arith
one_at_most false = omega arith

-- ---- the file of a name

module _ (t : PlainTree) (d : File) (name : List ℕ) where
  -- what is said of it and its number
  at_named : {A : Type 0} (x : A) (said : ℕ → File → A) → option_map_or (λ r. said r.0 r.1) (named_file t d name) x ≡ option_map_or (λ n. at_number t n x (said n)) (file_named (slots_of d.content) name) x
  at_named {A} x said = go (file_named (slots_of d.content) name) where
    at : (n : ℕ) (o : Option File) → option_map_or (λ (r : ℕ × File). said r.0 r.1) (option_map_or (λ f. Some (n, f)) o None) x ≡ option_map_or (said n) o x
    at n None = refl
    at n (Some f) = refl

    go : (o : Option ℕ) → option_map_or (λ (r : ℕ × File). said r.0 r.1) (option_and_then (λ n. at_number t n None (λ f. Some (n, f))) o) x ≡ option_map_or (λ n. at_number t n x (said n)) o x
    go None = refl
    go (Some n) = at n (get t.files n)

-- ---- the call

module _ (t : PlainTree) (from : Handle) (from_name : List ℕ) (to : Handle) (to_name : List ℕ) (cred : Cred) where
  -- a check of the arguments fails
  pub rename_argument : (now : Stamp) (start status : ℕ) → first_failure (argument_checks t (Rename from from_name to to_name) cred) ≡ Some status
      → respond t (Rename from from_name to to_name) cred now start ≡ refused t status
  rename_argument now start status is = arguments_fail t (Rename from from_name to to_name) cred now start status is

  module _ (c d : File) (there_c : file_of t from.0 ≡ Some c) (there_d : file_of t to.0 ≡ Some d) (row : first_failure (pair_row c from_name d to_name cred) ≡ None) where
    abbrev a : ℕ
    a = number_in from.0

    abbrev b : ℕ
    b = number_in to.0

    abbrev call : Call
    call = Rename from from_name to to_name

    arguments : first_failure (argument_checks t call cred) ≡ None
    arguments = pair_there t from from_name to to_name cred c d there_c there_d ∙ row

    moves : move_by t from.0 from_name to.0 to_name ≡ move_of t a c from_name b d to_name
    moves =
        ap (λ (o : Option File). option_map_or (λ c. option_map_or (λ d. move_of t a c from_name b d to_name) (file_of t to.0) None) o None) there_c
        ∙ ap (λ (o : Option File). option_map_or (λ d. move_of t a c from_name b d to_name) o None) there_d

    own : first_failure (own_checks t call cred) ≡ first_failure (rename_checks t (move_of t a c from_name b d to_name) from_name to_name)
    own = ap (λ (m : Option Move). first_failure (rename_checks t m from_name to_name)) moves

    -- a name is out of form, or the first is not there
    pub rename_unnamed : (now : Stamp) (start status : ℕ) → first_failure (source_row from_name to_name (file_named (slots_of c.content) from_name)) ≡ Some status → respond t call cred now start ≡ refused t status
    unfolding rename_checks
    rename_unnamed now start status is =
        check_fails t call cred now start arguments status
        (own ∙ source_first (is_dots from_name || is_dots to_name) (file_named (slots_of c.content) from_name) (move_of t a c from_name b d to_name) _ status
        (λ none. ap (λ (o : Option ℕ). option_map_or (λ (s : ℕ × File). Some (moving a c from_name b d to_name s.0 s.1 (named_file t d to_name))) (option_and_then (λ n. at_number t n None (λ f. Some (n, f))) o) None) none) is)

    module _ (good : IsGood t) (s : ℕ) (named : file_named (slots_of c.content) from_name ≡ Some s)
        (source : first_failure (source_row from_name to_name (file_named (slots_of c.content) from_name)) ≡ None) where
      abbrev replaced : Option ℕ
      replaced = file_named (slots_of d.content) to_name

      whole : IsWhole t
      whole = whole_from_good t good

      rows : ArePassed (pair_row c from_name d to_name cred)
      rows = passed (pair_row c from_name d to_name cred) row

      c_dir : is_directory c.content ≡ true
      c_dir = not-false (is_directory c.content) (not_so 20 (not (is_directory c.content)) rows.0)

      d_dir : is_directory d.content ≡ true
      d_dir = not-false (is_directory d.content) (not_so 20 (not (is_directory d.content)) rows.1.0)

      abbrev up : ℕ
      up = (dir_content c.content c_dir).0

      abbrev parent : ℕ
      parent = (dir_content d.content d_dir).0

      first : IsDir t a c up
      first = record { there = named_there t from.0 c there_c; content = (dir_content c.content c_dir).1 }

      second : IsDir t b d parent
      second = record { there = named_there t to.0 d there_d; content = (dir_content d.content d_dir).1 }

      -- how many links and slots the second directory has
      pub to_limits : (d.links ≤ 32000) × ((is_directory d.content ≡ true) × (length (slots_of d.content) ≤ 7650))
      to_limits = ((good.files b d second.there).links, (d_dir, (dir_list t b d parent whole second).few))

      here : IsNamedFile t a c from_name s
      here = named_file_of t a c up from_name s whole first named

      abbrev f : File
      f = (some_of (get t.files s) here.lives).0

      f_there : get t.files s ≡ Some f
      f_there = (some_of (get t.files s) here.lives).1

      abbrev m : Move
      m = moving a c from_name b d to_name s f (named_file t d to_name)

      found : named_file t c from_name ≡ Some (s, f)
      found =
          ap (λ (o : Option ℕ). option_and_then (λ n. at_number t n None (λ f. Some (n, f))) o) named
          ∙ ap (λ (o : Option File). option_map_or (λ f. Some (s, f)) o None) f_there

      move_is : move_of t a c from_name b d to_name ≡ Some m
      move_is = ap (λ (o : Option (ℕ × File)). option_map_or (λ (s : ℕ × File). Some (moving a c from_name b d to_name s.0 s.1 (named_file t d to_name))) o None) found

      edits_are : (now : Stamp) (start : ℕ) → edits_of t call cred now start ≡ move_edits now m
      edits_are now start = ap (rename_edits now) (moves ∙ move_is)

      own_is : first_failure (own_checks t call cred) ≡ first_failure (cond (is_same m) [] (move_checks t m))
      unfolding rename_checks
      own_is =
          own
          ∙ ap (λ (o : Option Move). first_failure (rename_checks t o from_name to_name)) move_is
          ∙ behind_none (cond (is_dots from_name || is_dots to_name) (Some 13) None ∷ None ∷ []) (cond (is_same m) [] (move_checks t m))
          (front (is_dots from_name || is_dots to_name) (not_so 13 (is_dots from_name || is_dots to_name) (passed (source_row from_name to_name (file_named (slots_of c.content) from_name)) source).0))

      same_is : is_same m ≡ is_same_number s replaced
      same_is = go replaced refl where
        go : (o : Option ℕ) → replaced ≡ o → option_map_or (λ (r : ℕ × File). r.0 == s) (option_and_then (λ n. at_number t n None (λ g. Some (n, g))) o) false ≡ option_map_or (λ n. n == s) o false
        go None is = refl
        go (Some n) is =
            ap (λ (q : Option File). option_map_or (λ (r : ℕ × File). r.0 == s) (option_map_or (λ g. Some (n, g)) q None) false)
            (some_of (get t.files n) (named_file_of t b d parent to_name n whole second is).lives).1

      -- both names are of one file
      pub rename_same : (now : Stamp) (start : ℕ) → is_same_number s replaced ≡ true → respond t call cred now start ≡ record { answer = Plain; tree = t; made = None }
      unfolding move_edits first_failure edited first_made
      rename_same now start same =
          let is : is_same m ≡ true = same_is ∙ same in
          let none : edits_of t call cred now start ≡ [] = edits_are now start ∙ ap (λ (k : Bool). cond k [] (directory_edits now m ++ (Changed s (record f { content = with_parent b f.content }) ∷ replaced_edits m))) is in
          all_pass t call cred now start arguments (own_is ∙ ap (λ (b : Bool). first_failure (cond b [] (move_checks t m))) is)
          (ap (λ (es : List Edit). first_failure (limits t start es)) none ∙ no_limits t start)
          ∙ ap (λ (es : List Edit). decided None t call now es) none

      module _ (other : is_same_number s replaced ≡ false) where
        apart_same : is_same m ≡ false
        apart_same = same_is ∙ other

        at_source : is_dir_at t s ≡ is_directory f.content
        at_source = ap (λ (o : Option File). option_map_or (λ f. is_directory f.content) o false) f_there

        -- what a test says of the file that is replaced
        replaces_is : (test : File → Bool) → replaces m test ≡ replaced_is t replaced test
        replaces_is test = at_named t d to_name false (λ n. test)

        checks_are : first_failure (move_checks t m) ≡ move_check t a b s replaced
        checks_are =
            let D = is_directory f.content in
            let deep = not (leads_to t 200 b 1) in
            let above = list_any (λ moves. leads_to t moves b s) (below 201) in
            let kinds : first_failure (
            cond (D && replaces m (λ r. not (is_directory r.content))) (Some 20) None
            ∷ cond (not D && replaces m (λ r. is_directory r.content)) (Some 21) None
            ∷ cond (replaces m (λ r. is_in_use (slots_of r.content))) (Some 66) None
            ∷ []) ≡ kind_check t s replaced =
            over_by D (named_file t d to_name)
            ∙ at_named t d to_name None (λ n r. first_failure (over_row D r))
            ∙ ap (λ (D : Bool). option_map_or (λ n. at_number t n None (λ r. first_failure (over_row D r))) replaced None) (sym at_source) in
            let row : List Check =
            cond (D && replaces m (λ r. not (is_directory r.content))) (Some 20) None
            ∷ cond (not D && replaces m (λ r. is_directory r.content)) (Some 21) None
            ∷ cond (replaces m (λ r. is_in_use (slots_of r.content))) (Some 66) None
            ∷ [] in
            let back : List Check = cond ((D && not (a == b)) && deep) (Some 63) None ∷ cond ((D && not (a == b)) && above) (Some 5) None ∷ [] in
            first_append row back
            ∙ ap (λ (k : Check). option_or k (first_failure back)) kinds
            ∙ ap (option_or (kind_check t s replaced)) (across_by (D && not (a == b)) deep above)
            ∙ ap (λ (D : Bool). option_or (kind_check t s replaced) (cond (D && not (a == b)) (first_failure (chain_row t b s)) None)) (sym at_source)

        own_moves : first_failure (own_checks t call cred) ≡ move_check t a b s replaced
        own_moves = own_is ∙ ap (λ (b : Bool). first_failure (cond b [] (move_checks t m))) apart_same ∙ checks_are

        -- the file may not be moved
        pub rename_refused : (now : Stamp) (start status : ℕ) → move_check t a b s replaced ≡ Some status → respond t call cred now start ≡ refused t status
        rename_refused now start status is = check_fails t call cred now start arguments status (own_moves ∙ is)

        module _ (checked : move_check t a b s replaced ≡ None) where
          all_checked : ArePassed (move_checks t m)
          all_checked = passed (move_checks t m) (checks_are ∙ checked)

          -- ---- the limits

          abbrev e : Entry
          e = record { name = to_name; file = s }

          abbrev turned : File
          turned = record f { content = with_parent b f.content }

          abbrev lost : ℕ
          lost = one_where (replaces m (λ r. is_directory r.content))

          f_slots : length (slots_of f.content) ≤ 7650
          f_slots = elim (source_kind t s f f_there) [
            | inl file ↦ let none : length (slots_of f.content) ≡ 0 = ap length (plain_content f.content file.plain).slots in omega (arith, none)
            | inr own ↦ (dir_list t s f own.0 whole own.1).few
          ]

          turned_light : IsLight t (Changed s turned)
          turned_light =
              let same : length (slots_of turned.content) ≡ length (slots_of f.content) = ap length (turned_content b f.content).slots in
              light_changed t s f turned f_there (good.files s f f_there).links (subst (λ (k : ℕ). k ≤ 7650) (sym same) f_slots) (used_turned b f.content)

          tail_light : AreLight t (replaced_edits m)
          tail_light = go (named_file t d to_name) refl where
            by : (r : ℕ × File) → named_file t d to_name ≡ Some r → (k : Bool) → is_directory r.1.content ≡ k → AreLight t ((cond k (Freed r.0 r.1) (loses_link r.0 r.1)) ∷ [])
            by r is true dir = (light_freed t r.0 r.1, tt)
            by r is false dir = (light_loses t r.0 r.1 good (record { there = (named_by t d to_name r is).there; plain = dir }), tt)

            go : (o : Option (ℕ × File)) → named_file t d to_name ≡ o → AreLight t (option_map_or (λ r. (cond (is_directory r.1.content) (Freed r.0 r.1) (loses_link r.0 r.1)) ∷ []) o [])
            go None is = tt
            go (Some r) is = by r is (is_directory r.1.content) refl

          tail_spent : list_any is_spent (replaced_edits m) ≡ replaced_is t replaced (λ r. r.change == 2 ^ 64 - 1)
          tail_spent = go (named_file t d to_name) ∙ at_named t d to_name false (λ n r. r.change == 2 ^ 64 - 1) where
            by : (r : ℕ × File) (k : Bool) → list_any is_spent ((cond k (Freed r.0 r.1) (loses_link r.0 r.1)) ∷ []) ≡ (r.1.change == 2 ^ 64 - 1)
            by r true = or_none (r.1.change == 2 ^ 64 - 1)
            by r false = or_none (is_spent (loses_link r.0 r.1)) ∙ spent_loses r.0 r.1

            go : (o : Option (ℕ × File)) → list_any is_spent (option_map_or (λ r. (cond (is_directory r.1.content) (Freed r.0 r.1) (loses_link r.0 r.1)) ∷ []) o []) ≡ option_map_or (λ r. r.1.change == 2 ^ 64 - 1) o false
            go None = refl
            go (Some r) = by r (is_directory r.1.content)

          source_spent : is_spent_at t s ≡ (f.change == 2 ^ 64 - 1)
          source_spent = ap (λ (o : Option File). option_map_or (λ f. f.change == 2 ^ 64 - 1) o false) f_there

          abbrev rest_spent : Bool
          rest_spent = (f.change == 2 ^ 64 - 1) || list_any is_spent (replaced_edits m)

          rest_is : rest_spent ≡ (is_spent_at t s || replaced_is t replaced (λ r. r.change == 2 ^ 64 - 1))
          rest_is = ap (λ (b : Bool). (f.change == 2 ^ 64 - 1) || b) tail_spent ∙ ap (λ (b : Bool). b || replaced_is t replaced (λ r. r.change == 2 ^ 64 - 1)) (sym source_spent)

          links_are : links_after t a b s replaced d ≡ d.links + cond (a == b) 0 (one_where (is_directory f.content)) - lost
          links_are =
              ap (λ (D : Bool). d.links + one_where (D && not (a == b)) - one_where (replaced_is t replaced (λ r. is_directory r.content))) at_source
              ∙ ap (λ (k : ℕ). d.links + k - one_where (replaced_is t replaced (λ r. is_directory r.content))) (along_by (is_directory f.content) (a == b))
              ∙ ap (λ (r : Bool). d.links + cond (a == b) 0 (one_where (is_directory f.content)) - one_where r) (sym (replaces_is (λ r. is_directory r.content)))

          -- the second directory afterwards
          grown : (spent : Bool) (g : File) (slots : List (Option Entry)) → g.content ≡ Directory slots parent → length slots ≡ length (received m)
              → cond spent (Some fbig) (cond (ltb 32000 g.links || (ltb 7650 (length (slots_of g.content)) || ltb (free_blocks t) (used g.content - used_at t b))) (Some nospc) None)
              ≡ grown_limits t spent g.links d (length (received m))
          grown spent g slots content size =
              let count : length (slots_of g.content) ≡ length (received m) = ap (λ (c : Content). length (slots_of c)) content ∙ size in
              let uses : used g.content ≡ used_by (length (received m)) = ap used content ∙ ap (λ (k : ℕ). k / 15 + chains_up_to (last_of (k / 15))) size in
              let old : used_at t b ≡ used d.content = ap (λ (o : Option File). option_map_or (λ f. used f.content) o 0) second.there in
              ap (λ (k : ℕ). cond spent (Some fbig) (cond (ltb 32000 g.links || (ltb 7650 k || ltb (free_blocks t) (used g.content - used_at t b))) (Some nospc) None)) count
              ∙ ap (λ (k : ℕ). cond spent (Some fbig) (cond (ltb 32000 g.links || (ltb 7650 (length (received m)) || ltb (free_blocks t) (k - used_at t b))) (Some nospc) None)) uses
              ∙ ap (λ (k : ℕ). cond spent (Some fbig) (cond (ltb 32000 g.links || (ltb 7650 (length (received m)) || ltb (free_blocks t) (used_by (length (received m)) - k))) (Some nospc) None)) old

          edits_by : (now : Stamp) → move_edits now m ≡ directory_edits now m ++ (Changed s turned ∷ replaced_edits m)
          unfolding move_edits
          edits_by now = ap (λ (b : Bool). cond b [] (directory_edits now m ++ (Changed s turned ∷ replaced_edits m))) apart_same

          -- the limits where light edits stand before it
          limits_with : (start : ℕ) (pre : List Edit) (g : File) (slots : List (Option Entry)) → AreLight t pre → g.content ≡ Directory slots parent → length slots ≡ length (received m)
              → list_any is_spent (pre ++ Changed b g ∷ Changed s turned ∷ replaced_edits m) ≡ spent_by t c d s replaced
              → first_failure (limits t start (pre ++ Changed b g ∷ Changed s turned ∷ replaced_edits m)) ≡ grown_limits t (spent_by t c d s replaced) g.links d (length (received m))
          limits_with start pre g slots light content size spent =
              limits_grown t start pre (Changed s turned ∷ replaced_edits m) b g light (turned_light, tail_light)
              ∙ grown (list_any is_spent (pre ++ Changed b g ∷ Changed s turned ∷ replaced_edits m)) g slots content size
              ∙ ap (λ (k : Bool). grown_limits t k g.links d (length (received m))) spent

          limits_by : (now : Stamp) (start : ℕ) (same : Bool) → (a == b) ≡ same
              → first_failure (limits t start ((cond same
              (Changed b (unlinked lost (renamed now (take_name (received m) from_name) d)) ∷ [])
              (Changed a (unlinked (one_where (is_directory f.content)) (without_name now from_name c))
              ∷ Changed b (unlinked lost (record (renamed now (received m) d) { links = d.links + one_where (is_directory f.content) }))
              ∷ []))
              ++ (Changed s turned ∷ replaced_edits m)))
              ≡ grown_limits t (spent_by t c d s replaced) (d.links + cond same 0 (one_where (is_directory f.content)) - lost) d (length (received m))
          limits_by now start true is =
              let slots = take_name (received m) from_name in
              let g : File = unlinked lost (renamed now slots d) in
              let one : c ≡ d = one_dir t a c up b d parent first second (eqb-true a b is) in
              let spent : ((d.change == 2 ^ 64 - 1) || rest_spent) ≡ spent_by t c d s replaced =
              ap (λ (k : Bool). (d.change == 2 ^ 64 - 1) || k) rest_is
              ∙ sym (or_twice (d.change == 2 ^ 64 - 1) (is_spent_at t s || replaced_is t replaced (λ r. r.change == 2 ^ 64 - 1)))
              ∙ ap (λ (k : File). (k.change == 2 ^ 64 - 1) || ((d.change == 2 ^ 64 - 1) || (is_spent_at t s || replaced_is t replaced (λ r. r.change == 2 ^ 64 - 1)))) (sym one) in
              limits_with start [] g slots tt (renamed_dir now slots d parent second.content).content (length_taken (received m) from_name) spent
              ∙ ap (λ (k : ℕ). grown_limits t (spent_by t c d s replaced) (k - lost) d (length (received m))) (let same : d.links ≡ d.links + 0 = omega arith in same)
          limits_by now start false is =
              let x = Changed a (unlinked (one_where (is_directory f.content)) (without_name now from_name c)) in
              let g : File = unlinked lost (record (renamed now (received m) d) { links = d.links + one_where (is_directory f.content) }) in
              let spent : ((c.change == 2 ^ 64 - 1) || ((d.change == 2 ^ 64 - 1) || rest_spent)) ≡ spent_by t c d s replaced =
              ap (λ (k : Bool). (c.change == 2 ^ 64 - 1) || ((d.change == 2 ^ 64 - 1) || k)) rest_is in
              limits_with start (x ∷ []) g (received m) (light_dir now t a c up from_name (one_where (is_directory f.content)) good first, tt)
              (renamed_dir now (received m) d parent second.content).content refl spent

          limits_are : (now : Stamp) (start : ℕ) → first_failure (limits t start (edits_of t call cred now start)) ≡ grown_limits t (spent_by t c d s replaced) (links_after t a b s replaced d) d (length (received m))
          limits_are now start =
              ap (λ (es : List Edit). first_failure (limits t start es)) (edits_are now start ∙ edits_by now)
              ∙ limits_by now start (a == b) refl
              ∙ ap (λ (k : ℕ). grown_limits t (spent_by t c d s replaced) k d (length (received m))) (sym links_are)

          -- a limit is passed
          pub rename_limited : (now : Stamp) (start status : ℕ) → grown_limits t (spent_by t c d s replaced) (links_after t a b s replaced d) d (length (put_name (slots_of d.content) e)) ≡ Some status
              → respond t call cred now start ≡ refused t status
          rename_limited now start status is = limit_fails t call cred now start arguments (own_moves ∙ checked) status (limits_are now start ∙ is)

          -- ---- the plan

          is_source : IsSource t a s f
          is_source = record { there = f_there; not_root = here.not_root; named = here.names }

          from_apart : s ≢ a
          from_apart = source_apart t a s f c up whole is_source first

          to_apart : s ≢ b
          to_apart = go (a == b) refl where
            go : (same : Bool) → (a == b) ≡ same → s ≢ b
            go true is = subst (λ k. s ≢ k) (eqb-true a b is) from_apart
            go false is = elim (source_kind t s f f_there) [
              | inl file ↦ file_apart t s b f d parent file second
              | inr own ↦ λ at.
                  let around = way_around (record { sec = 0; usec = 0 }) t 0 a c up from_name b d parent to_name s f (named_file t d to_name) all_checked f_there (eqb-false a b is) own.0 (dir_parent t s f own.0 own.1) in
                  around_here t b s (around.never 0 (omega arith)) (sym at)
            ]

          -- the file that is replaced
          module _ (rises : (n : ℕ) (r : File) → replaced ≡ Some n → get t.files n ≡ Some r → r.change < 2 ^ 64 - 1) (r : ℕ × File) (is : named_file t d to_name ≡ Some r) where
            here_r : IsNamedFile t b d to_name r.0
            here_r = named_file_of t b d parent to_name r.0 whole second (named_by t d to_name r is).named

            there_r : get t.files r.0 ≡ Some r.1
            there_r = (named_by t d to_name r is).there

            can_rise : r.1.change < 2 ^ 64 - 1
            can_rise = rises r.0 r.1 (named_by t d to_name r is).named there_r

            not_source : r.0 ≢ s
            not_source = eqb-false r.0 s (ap (λ (o : Option (ℕ × File)). option_map_or (λ r. r.0 == s) o false) (sym is) ∙ apart_same)

            abbrev edits_of_it : Bool → Bool → List Edit
            edits_of_it k l = (cond k (Freed r.0 r.1) (cond l (Changed r.0 (unlinked 1 r.1)) (Freed r.0 r.1))) ∷ []

            edits_is : replaced_edits m ≡ edits_of_it (is_directory r.1.content) (nat_lt 1 r.1.links)
            edits_is = ap (λ (o : Option (ℕ × File)). option_map_or (λ r. (cond (is_directory r.1.content) (Freed r.0 r.1) (loses_link r.0 r.1)) ∷ []) o []) is

            file : is_directory r.1.content ≡ false → IsFile t r.0 r.1
            file plain = record { there = there_r; plain = plain }

            -- it is neither of the directories
            others : (k : Bool) → is_directory r.1.content ≡ k → (r.0 ≢ a) × (r.0 ≢ b)
            others false plain = (file_apart t r.0 a r.1 c up (file plain) first, file_apart t r.0 b r.1 d parent (file plain) second)
            others true dir =
                let content = dir_content r.1.content dir in
                let used' : is_in_use (slots_of r.1.content) ≡ false =
                sym (ap (λ (o : Option (ℕ × File)). option_map_or (λ r. is_in_use (slots_of r.1.content)) o false) is) ∙ not_so 66 (replaces m (λ r. is_in_use (slots_of r.content))) all_checked.1.1.0 in
                let empty : IsEmptyDir t r.0 r.1 content.0 = record { dir = record { there = there_r; content = content.1 }; empty = used' } in (
                  λ at. (let x : 1 ≤ named_in t r.0 s = subst (λ k. 1 ≤ named_in t k s) (sym at) here.names in omega (arith, x, empty_none t r.0 s r.1 content.0 empty)),
                  λ at. (let x : 1 ≤ named_in t r.0 r.0 = subst (λ k. 1 ≤ named_in t k r.0) (sym at) here_r.names in omega (arith, x, empty_none t r.0 r.0 r.1 content.0 empty)),
                )

            apart : (r.0 ≢ a) × (r.0 ≢ b)
            apart = others (is_directory r.1.content) refl

            fated : (k l : Bool) → is_directory r.1.content ≡ k → replaced_edits m ≡ edits_of_it k l → CanReplace t.files m (cond (k || not l) (IsFreed r.0) (LosesLink r.0))
            fated true l dir es = (r.1, there_r, apart.0, apart.1, not_source, can_rise, es)
            fated false false plain es = (r.1, there_r, apart.0, apart.1, not_source, can_rise, es)
            fated false true plain es =
                let some : 1 ≤ r.1.links = (plain_content r.1.content plain).named r.1 (whole.own r.0 r.1 there_r).content in
                (r.1, there_r, apart.0, apart.1, not_source, record { rises = can_rise; some = some }, es)

          replacing : (rises : (n : ℕ) (r : File) → replaced ≡ Some n → get t.files n ≡ Some r → r.change < 2 ^ 64 - 1) → CanReplace t.files m (replaced_at t replaced)
          replacing rises = subst (CanReplace t.files m) (at_named t d to_name Nothing fate_of) (go (named_file t d to_name) refl) where
            go : (o : Option (ℕ × File)) → named_file t d to_name ≡ o → CanReplace t.files m (option_map_or (λ r. fate_of r.0 r.1) o Nothing)
            go None is = ap (λ (o : Option (ℕ × File)). option_map_or (λ r. (cond (is_directory r.1.content) (Freed r.0 r.1) (loses_link r.0 r.1)) ∷ []) o []) is
            go (Some r) is = fated rises r is (is_directory r.1.content) (nat_lt 1 r.1.links) refl (edits_is rises r is)

          -- nothing forbids it
          pub may_move : (now : Stamp) (start : ℕ) → grown_limits t (spent_by t c d s replaced) (links_after t a b s replaced d) d (length (put_name (slots_of d.content) e)) ≡ None
              → CanRise t c d s replaced → MayMove t from from_name to to_name cred now start (plan_of t a b d s replaced)
          may_move now start none rises =
              let slots = length (put_name (slots_of d.content) e) in
              let room = none_fails (spent_by t c d s replaced) (ltb 32000 (links_after t a b s replaced d)) (ltb 7650 slots) (ltb (free_blocks t) (used_by slots - used d.content)) none in
              let own_links : c.links ≡ 2 + _ = dir_links t a c up whole first in
              record {
                move = m;
                other = apart_same;
                can = record {
                  names = (refl, refl);
                  numbers = (refl, refl, refl);
                  along = ap one_where at_source;
                  links = links_are;
                  from = first.there;
                  to = second.there;
                  source = f_there;
                  apart = (from_apart, to_apart);
                  directory = d_dir;
                  from_room = record { few = (dir_list t a c up whole first).few };
                  from_can = record { rises = rises.from; some = (let most = one_at_most (is_directory f.content) in omega (arith, own_links, most)) };
                  to_room = ltb-false 7650 slots room;
                  to_rises = rises.to;
                  source_rises = rises.source f f_there;
                };
                replacing = replacing rises.gone;
                answers =
                    all_pass t call cred now start arguments (own_moves ∙ checked) (limits_are now start ∙ none)
                    ∙ ap (λ (es : List Edit). decided None t call now es) (edits_are now start);
              }
