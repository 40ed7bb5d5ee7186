-- What respond is for LINK.
use Rattle.std.proofs.Common.{◌≡◌, ℕ, ◌+◌, ◌-◌, ◌^◌, ◌<◌, ◌≤◌, Bool, true, false, cond, eqb, ltb, List, [], ◌∷◌, length, Option, Some, None, refl, sym, ap, ◌∙◌, arith}
use Rattle.std.specs.Prelude.{not, is_some, ◌||◌, sum_by}
use Rattle.std.specs.Option.{option_map_or}
use Rattle.std.proofs.lemmas.Bool.{not-false, le-ltb, ltb-false}
use Rattle.std.proofs.lemmas.List.Sums.{sum_by-cons}
use Rattle.std.specs.FinMap.{get}
use Rattle.rpc_msg.specs.declared.cred.Cred.{Cred}
use Rattle.nfs_proto.specs.declared.call.Call.TheVariants.{Link}
use Rattle.nfs_proto.specs.declared.handle.Handle.{Handle}
use Rattle.nfs_proto.specs.declared.stamp.Stamp.{Stamp}
use Rattle.fs_rules.specs.declared.content.Content.{Content}
use Rattle.fs_rules.specs.declared.content.Content.TheVariants.{Directory}
use Rattle.fs_rules.specs.declared.entry.Entry.{Entry}
use Rattle.fs_rules.specs.declared.file.File.{File}
use Rattle.fs_rules.specs.declared.plain_tree.PlainTree.{PlainTree}
use Rattle.fs_rules.specs.Handle.{number_in}
use Rattle.fs_rules.specs.File.{used, slots_of, is_directory}
use Rattle.fs_rules.specs.Slots.{put_name}
use Rattle.fs_rules.specs.Numbers.{free_blocks}
use Rattle.fs_rules.specs.Statuses.{first_failure, stale, fbig, nospc}
use Rattle.fs_rules.specs.Arguments.{file_of, argument_checks}
use Rattle.fs_rules.specs.Edits.{Edit, Changed, limits, rise, used_at}
use Rattle.fs_rules.specs.Making.{with_name, linked}
use Rattle.fs_rules.specs.Names.{link_checks, link_edits}
use Rattle.fs_rules.specs.Good.{IsGood}
use Rattle.fs_rules.specs.Respond.{own_checks, edits_of, decided, respond}
use Rattle.fs_laws.proofs.StatusLemmas.{passed, not_so}
use Rattle.fs_laws.proofs.WholeLemmas.{whole_from_good}
use Rattle.fs_laws.proofs.DirLemmas.{IsDir, dir_content, dir_list, renamed_dir}
use Rattle.fs_laws.proofs.LinkLemmas.{plain_content, IsFile, file_apart}
use Rattle.fs_decisions.specs.Steps.{refused, named, named_row}
use Rattle.fs_checks.specs.Rows.{directory_row}
use Rattle.fs_decisions.specs.Linking.{link_limits, MayLink}
use Rattle.fs_decisions.specs.Limits.{used_by}
use Rattle.fs_decisions.proofs.RowLemmas.{named_there}
use Rattle.fs_decisions.proofs.DirectoryLemmas.{named_there as row_there}
use Rattle.fs_decisions.proofs.ChangeLemmas.{arguments_fail, check_fails, limit_fails, all_pass}

-- ---- the limits

by_tests : (a b dl l s fs u : Bool) → dl ≡ false → fs ≡ false
    → first_failure (cond (a || (b || false)) (Some fbig) None ∷ cond (dl || (l || false)) (Some nospc) None ∷ cond (s || (fs || false)) (Some nospc) None ∷ None ∷ cond u (Some nospc) None ∷ [])
    ≡ cond (a || b) (Some fbig) (cond (l || (s || u)) (Some nospc) None)
unfolding first_failure
by_tests true b dl l s fs u p q = refl
by_tests false true dl l s fs u p q = refl
by_tests false false true l s fs u p q = absurd cc
by_tests false false false true s fs u p q = refl
by_tests false false false false true fs u p q = refl
by_tests false false false false false true u p q = absurd cc
by_tests false false false false false false true p q = refl
by_tests false false false false false false false p q = refl

-- limits that are not passed
none_fails : (c l s u : Bool) → cond c (Some fbig) (cond (l || (s || u)) (Some nospc) None) ≡ None → (l ≡ false) × (s ≡ false)
none_fails true l s u is = absurd cc
none_fails false true s u is = absurd cc
none_fails false false true u is = absurd cc
none_fails false false false u is = (refl, refl)

-- ---- the call

module _ (t : PlainTree) (file dir : Handle) (name : List ℕ) (cred : Cred) (now : Stamp) (start : ℕ) where
  -- the handle of the file names none
  pub link_absent : file_of t file.0 ≡ None → respond t (Link file dir name) cred now start ≡ refused t stale
  unfolding argument_checks first_failure
  link_absent none =
      arguments_fail t (Link file dir name) cred now start stale
      (ap (λ (o : Option File). first_failure (cond (not (is_some o)) (Some stale) None ∷ named_row t cred (named dir.0 name 13))) none)

  module _ (f : File) (there_f : file_of t file.0 ≡ Some f) where
    arguments_are : first_failure (argument_checks t (Link file dir name) cred) ≡ first_failure (named_row t cred (named dir.0 name 13))
    unfolding argument_checks first_failure
    arguments_are = ap (λ (o : Option File). first_failure (cond (not (is_some o)) (Some stale) None ∷ named_row t cred (named dir.0 name 13))) there_f

    -- another check of the arguments fails
    pub link_argument : (status : ℕ) → first_failure (named_row t cred (named dir.0 name 13)) ≡ Some status → respond t (Link file dir name) cred now start ≡ refused t status
    link_argument status is = arguments_fail t (Link file dir name) cred now start status (arguments_are ∙ is)

    module _ (d : File) (there_d : file_of t dir.0 ≡ Some d) (row : first_failure (named_row t cred (named dir.0 name 13)) ≡ None) where
      abbrev n : ℕ
      n = number_in dir.0

      abbrev m : ℕ
      m = number_in file.0

      abbrev e : Entry
      e = record { name = name; file = number_in file.0 }

      arguments : first_failure (argument_checks t (Link file dir name) cred) ≡ None
      arguments = arguments_are ∙ row

      own : first_failure (own_checks t (Link file dir name) cred) ≡ first_failure (link_checks f d name)
      own =
          ap (λ (o : Option File). first_failure (option_map_or (λ f. option_map_or (λ d. link_checks f d name) (file_of t dir.0) []) o [])) there_f
          ∙ ap (λ (o : Option File). first_failure (option_map_or (λ d. link_checks f d name) o [])) there_d

      -- a check of the procedure fails
      pub link_refused : (status : ℕ) → first_failure (link_checks f d name) ≡ Some status → respond t (Link file dir name) cred now start ≡ refused t status
      link_refused status is = check_fails t (Link file dir name) cred now start arguments status (own ∙ is)

      is_dir : is_directory d.content ≡ true
      is_dir =
          let checks = passed (directory_row d cred (named dir.0 name 13)) (sym (row_there t cred (named dir.0 name 13) d there_d) ∙ row) in
          not-false (is_directory d.content) (not_so 20 (not (is_directory d.content)) checks.0)

      live : get t.files n ≡ Some d
      live = named_there t dir.0 d there_d

      abbrev parent : ℕ
      parent = (dir_content d.content is_dir).0

      at_dir : IsDir t n d parent
      at_dir = record { there = live; content = (dir_content d.content is_dir).1 }

      -- how many slots it has
      pub link_slots : IsGood t → (is_directory d.content ≡ true) × (length (slots_of d.content) ≤ 7650)
      link_slots good = (is_dir, (dir_list t n d parent (whole_from_good t good) at_dir).few)

      module _ (good : IsGood t) (checked : first_failure (link_checks f d name) ≡ None) where
        plain : is_directory f.content ≡ false
        unfolding link_checks
        plain = not_so 1 (is_directory f.content) (passed (link_checks f d name) checked).0

        is_file : IsFile t m f
        is_file = record { there = named_there t file.0 f there_f; plain = plain }

        edits : edits_of t (Link file dir name) cred now start ≡ Changed n (with_name now name m d) ∷ Changed m (linked f) ∷ []
        unfolding link_edits
        edits =
            ap (λ (o : Option File). option_map_or (λ f. option_map_or (λ d. link_edits m f n d name now) (file_of t dir.0) []) o []) there_f
            ∙ ap (λ (o : Option File). option_map_or (λ d. link_edits m f n d name now) o []) there_d

        content : (with_name now name m d).content ≡ Directory (put_name (slots_of d.content) e) parent
        content = (renamed_dir now (put_name (slots_of d.content) e) d parent at_dir.content).content

        rises : sum_by (rise t) (Changed n (with_name now name m d) ∷ Changed m (linked f) ∷ []) ≡ used_by (length (put_name (slots_of d.content) e)) - used d.content
        rises =
            let first = sum_by-cons (rise t) (Changed n (with_name now name m d)) (Changed m (linked f) ∷ []) in
            let second = sum_by-cons (rise t) (Changed m (linked f)) [] in
            let old : used_at t n ≡ used d.content = ap (λ (o : Option File). option_map_or (λ f. used f.content) o 0) live in
            let same : used_at t m ≡ used f.content = ap (λ (o : Option File). option_map_or (λ f. used f.content) o 0) is_file.there in
            let after : used (with_name now name m d).content ≡ used_by (length (put_name (slots_of d.content) e)) = ap used content in
            let grown : used (with_name now name m d).content - used_at t n ≡ used_by (length (put_name (slots_of d.content) e)) - used d.content =
            ap (λ (u : ℕ). u - used_at t n) after ∙ ap (λ (u : ℕ). used_by (length (put_name (slots_of d.content) e)) - u) old in
            let still : used f.content - used_at t m ≡ 0 = omega (arith, same) in
            omega (arith, first, second, grown, still)

        limits_are : first_failure (limits t start (edits_of t (Link file dir name) cred now start)) ≡ link_limits t f d (length (put_name (slots_of d.content) e))
        unfolding limits
        limits_are =
            let total = sum_by (rise t) (Changed n (with_name now name m d) ∷ Changed m (linked f) ∷ []) in
            let none : length (slots_of f.content) ≡ 0 = ap length (plain_content f.content plain).slots in
            ap (λ (es : List Edit). first_failure (limits t start es)) edits
            ∙ by_tests (eqb d.change (2 ^ 64 - 1)) (eqb f.change (2 ^ 64 - 1)) (ltb 32000 d.links) (ltb 32000 (f.links + 1)) (ltb 7650 (length (slots_of (with_name now name m d).content)))
            (ltb 7650 (length (slots_of f.content))) (ltb (free_blocks t) total) (le-ltb 32000 d.links (good.files n d live).links) (le-ltb 7650 (length (slots_of f.content)) (omega (arith, none)))
            ∙ ap (λ (k : ℕ). cond (eqb d.change (2 ^ 64 - 1) || eqb f.change (2 ^ 64 - 1)) (Some fbig) (cond (ltb 32000 (f.links + 1) || (ltb 7650 k || ltb (free_blocks t) total)) (Some nospc) None))
            (ap (λ (c : Content). length (slots_of c)) content)
            ∙ ap (λ (r : ℕ). cond (eqb d.change (2 ^ 64 - 1) || eqb f.change (2 ^ 64 - 1)) (Some fbig)
            (cond (ltb 32000 (f.links + 1) || (ltb 7650 (length (put_name (slots_of d.content) e)) || ltb (free_blocks t) r)) (Some nospc) None))
            rises

        -- a limit is passed
        pub link_limited : (status : ℕ) → link_limits t f d (length (put_name (slots_of d.content) e)) ≡ Some status → respond t (Link file dir name) cred now start ≡ refused t status
        link_limited status is = limit_fails t (Link file dir name) cred now start arguments (own ∙ checked) status (limits_are ∙ is)

        -- nothing forbids it
        pub may_link : link_limits t f d (length (put_name (slots_of d.content) e)) ≡ None → d.change < 2 ^ 64 - 1 → f.change < 2 ^ 64 - 1 → MayLink t file dir name cred now start
        may_link none dir_rises file_rises =
            let slots = length (put_name (slots_of d.content) e) in
            let tests = none_fails (eqb d.change (2 ^ 64 - 1) || eqb f.change (2 ^ 64 - 1)) (ltb 32000 (f.links + 1)) (ltb 7650 slots) (ltb (free_blocks t) (used_by slots - used d.content)) none in
            let few : f.links + 1 ≤ 32000 = ltb-false 32000 (f.links + 1) tests.0 in
            record {
              d = d;
              f = f;
              gives = record {
                dir = live;
                file = is_file.there;
                apart = file_apart t m n f d parent is_file at_dir;
                directory = is_dir;
                room = ltb-false 7650 slots tests.1;
                dir_rises = dir_rises;
                file_can = record { rises = file_rises; few = omega (arith, few) };
              };
              answers =
                  all_pass t (Link file dir name) cred now start arguments (own ∙ checked) (limits_are ∙ none)
                  ∙ ap (λ (es : List Edit). decided None t (Link file dir name) now es) edits;
            }
