-- What respond is for CREATE.
use Rattle.std.proofs.Common.{◌≡◌, ◌≢◌, ℕ, ◌+◌, ◌*◌, ◌^◌, ◌<◌, arith, subst, Bool, true, false, cond, eqb, List, [], ◌∷◌, ◌++◌, Option, Some, None, refl, sym, ap, ◌∙◌}
use Rattle.std.specs.Prelude.{not, ◌&&◌, IsSome}
use Rattle.std.specs.Ordering.{nat_cmp}
use Rattle.std.specs.Option.{option_map_or}
use Rattle.std.specs.FinMap.{get, insert, empty, get-empty, len-empty}
use Rattle.sfs_base.proofs.MapLemmas.{get_past_insert, greatest_has}
use Rattle.rpc_msg.specs.declared.cred.Cred.{Cred}
use Rattle.nfs_proto.specs.declared.answer.Answer.{Answer}
use Rattle.nfs_proto.specs.declared.call.Call.TheVariants.{Create}
use Rattle.nfs_proto.specs.declared.handle.Handle.{Handle}
use Rattle.nfs_proto.specs.declared.sattr.Sattr.{Sattr}
use Rattle.nfs_proto.specs.declared.stamp.Stamp.{Stamp}
use Rattle.fs_rules.specs.declared.content.Content.{Content}
use Rattle.fs_rules.specs.declared.content.Content.TheVariants.{Regular, Link, Directory}
use Rattle.fs_rules.specs.declared.file.File.{File}
use Rattle.fs_rules.specs.declared.plain_tree.PlainTree.{PlainTree}
use Rattle.fs_rules.specs.Handle.{number_in}
use Rattle.fs_rules.specs.File.{BlockMap, used, greatest, chains_up_to, kind_of, is_directory, slots_of}
use Rattle.fs_rules.specs.Slots.{file_named}
use Rattle.fs_rules.specs.Statuses.{Check, first_failure, stale, exist, acces, fbig}
use Rattle.fs_rules.specs.Arguments.{file_of, argument_checks, is_dots}
use Rattle.fs_rules.specs.Attributes.{is_set, is_too_large, with_attributes}
use Rattle.fs_rules.specs.Access.{may}
use Rattle.fs_rules.specs.Edits.{Edit, Changed, Made, changed_at, edited, first_made, limits}
use Rattle.fs_rules.specs.Making.{new_number, size_alone, create_checks, create_checks_by, create_edits, create_edits_by, existing_checks, existing_edits, new_checks, new_regular, with_name}
use Rattle.fs_rules.specs.Reading.{found_at}
use Rattle.fs_rules.specs.Respond.{Responded, own_checks, edits_of, answer_of, decided, respond, checks}
use Rattle.fs_decisions.specs.Steps.{refused, named, named_row}
use Rattle.fs_tree.specs.Creating.{existing_of, found_by}
use Rattle.fs_edits.specs.Giving.{receiving}
use Rattle.fs_decisions.proofs.RowLemmas.{behind_none, before_some, named_there}
use Rattle.fs_decisions.proofs.ChangeLemmas.{arguments_fail, check_fails}
use Rattle.fs_tree.specs.NewFiles.{Makes, regular_of}
use Rattle.fs_tree.proofs.MadeLemmas.{still_named, looked_up_found}
use Rattle.fs_tree.proofs.NewNameLemmas.{row_directory}
use Rattle.fs_tree.proofs.ToldLemmas.{told_new}

-- rows of checks that decide alike, before others
same_front : (a b more : List Check) → first_failure a ≡ first_failure b → first_failure (a ++ more) ≡ first_failure (b ++ more)
same_front a b more same = go (first_failure b) refl where
  go : (c : Check) → first_failure b ≡ c → first_failure (a ++ more) ≡ first_failure (b ++ more)
  go None is = behind_none a more (same ∙ is) ∙ sym (behind_none b more is)
  go (Some s) is = before_some a more s (same ∙ is) ∙ sym (before_some b more s is)

-- checks of which none fails begin with such
none_front : (a more : List Check) → first_failure (a ++ more) ≡ None → first_failure a ≡ None
none_front a more none = go (first_failure a) refl where
  go : (c : Check) → first_failure a ≡ c → c ≡ None
  go None is = refl
  go (Some s) is = absurd (let both : ◌≡◌ {A = Check} (Some s) None = sym (before_some a more s is) ∙ none in cc)

-- a file that CREATE takes is no directory
takes_regular : (f : File) (set : Sattr) (cred : Cred) → first_failure (existing_checks f set cred) ≡ None → is_directory f.content ≡ false
unfolding first_failure
takes_regular f set cred none =
    go f.content (cond (is_set set.size && not (may f cred 2)) (Some acces) None ∷ cond (is_set set.size && is_too_large set.size) (Some fbig) None ∷ []) none
  where
    go : (c : Content) (more : List Check) → first_failure (cond (not (eqb (kind_of c) 1)) (Some exist) None ∷ more) ≡ None → is_directory c ≡ false
    go (Regular blocks) more h = refl
    go (Directory slots parent) more h = absurd cc
    go (Link blocks) more h = refl

module _ (t : PlainTree) (dir : Handle) (name : List ℕ) (set : Sattr) (cred : Cred) (now : Stamp) (start : ℕ) where
  -- a check of the arguments fails
  pub create_stopped : (status : ℕ) → first_failure (named_row t cred (named dir.0 name acces)) ≡ Some status → respond t (Create dir name set) cred now start ≡ refused t status
  unfolding argument_checks
  create_stopped status is = arguments_fail t (Create dir name set) cred now start status is

  module _ (d : File) (there : file_of t dir.0 ≡ Some d) (row : first_failure (named_row t cred (named dir.0 name acces)) ≡ None) where
    pub create_arguments : first_failure (argument_checks t (Create dir name set) cred) ≡ None
    unfolding argument_checks
    create_arguments = row

    own : own_checks t (Create dir name set) cred ≡ create_checks t d name set cred
    own = ap (λ (o : Option File). option_map_or (λ d. create_checks t d name set cred) o []) there

    edits : edits_of t (Create dir name set) cred now start ≡ create_edits t start (number_in dir.0) d name set cred now
    edits = ap (λ (o : Option File). option_map_or (λ d. create_edits t start (number_in dir.0) d name set cred now) o []) there

    -- "." and ".."
    dots_fail : is_dots name ≡ true → first_failure (create_checks t d name set cred) ≡ Some exist
    unfolding create_checks first_failure
    dots_fail is = ap (λ (b : Bool). first_failure (cond b (Some exist) None ∷ create_checks_by t (file_named (slots_of d.content) name) set cred)) is

    pub create_dots : is_dots name ≡ true → respond t (Create dir name set) cred now start ≡ refused t exist
    create_dots is = check_fails t (Create dir name set) cred now start create_arguments exist (ap first_failure own ∙ dots_fail is)

    module _ (plain : is_dots name ≡ false) where
      own_by : (o : Option ℕ) → file_named (slots_of d.content) name ≡ o → first_failure (own_checks t (Create dir name set) cred) ≡ first_failure (create_checks_by t o set cred)
      unfolding create_checks first_failure
      own_by o is =
          ap first_failure own
          ∙ ap (λ (b : Bool). first_failure (cond b (Some exist) None ∷ create_checks_by t (file_named (slots_of d.content) name) set cred)) plain
          ∙ ap (λ (o : Option ℕ). first_failure (create_checks_by t o set cred)) is

      edits_by : (o : Option ℕ) → file_named (slots_of d.content) name ≡ o
          → edits_of t (Create dir name set) cred now start ≡ create_edits_by t (new_number t start) o (number_in dir.0) d name set cred now
      unfolding create_edits
      edits_by o is = edits ∙ ap (λ (o : Option ℕ). create_edits_by t (new_number t start) o (number_in dir.0) d name set cred now) is

      -- ---- a new name

      module _ (absent : file_named (slots_of d.content) name ≡ None) where
        pub create_own : first_failure (own_checks t (Create dir name set) cred) ≡ first_failure (new_checks set)
        create_own = own_by None absent

        pub create_edits_are : edits_of t (Create dir name set) cred now start
            ≡ Changed (number_in dir.0) (with_name now name (new_number t start) d) ∷ Made (new_number t start) (new_regular t (new_number t start) now set cred) ∷ []
        create_edits_are = edits_by None absent

        pub create_refused : (status : ℕ) → first_failure (new_checks set) ≡ Some status → respond t (Create dir name set) cred now start ≡ refused t status
        create_refused status is = check_fails t (Create dir name set) cred now start create_arguments status (create_own ∙ is)

      -- ---- a name that is there

      module _ (m : ℕ) (f : File) (is : file_named (slots_of d.content) name ≡ Some m) (live : get t.files m ≡ Some f) (of_directory : is_directory d.content ≡ true) where
        abbrev es : List Edit
        es = existing_edits now set m f

        existing_own : first_failure (own_checks t (Create dir name set) cred) ≡ first_failure (existing_checks f set cred)
        existing_own = own_by (Some m) is ∙ ap (λ (o : Option File). first_failure (option_map_or (λ f. existing_checks f set cred) o [])) live

        existing_edits_are : edits_of t (Create dir name set) cred now start ≡ es
        existing_edits_are = edits_by (Some m) is ∙ ap (λ (o : Option File). option_map_or (existing_edits now set m) o []) live

        -- the directory is another file
        other : is_directory f.content ≡ false → number_in dir.0 ≢ m
        other regular same =
            let both : ◌≡◌ {A = Option File} (Some d) (Some f) = sym (named_there t dir.0 d there) ∙ ap (get t.files) same ∙ live in
            let kinds : is_directory d.content ≡ is_directory f.content = ap (λ (o : Option File). option_map_or (λ f. is_directory f.content) o false) both in
            absurd (let all : true ≡ false = sym of_directory ∙ kinds ∙ regular in cc)

        -- it is there afterwards
        dir_after : (b : Bool) → is_directory f.content ≡ false → file_of (edited now t (cond b (Changed m (with_attributes now (size_alone set) f) ∷ []) [])) dir.0 ≡ Some d
        unfolding edited
        dir_after false regular = there
        dir_after true regular =
            still_named t (record t { files = insert t.files m (changed_at now (with_attributes now (size_alone set) f)) }) dir.0 d d there (named_there t dir.0 d there)
            (get_past_insert t.files m (changed_at now (with_attributes now (size_alone set) f)) (number_in dir.0) (other regular) ∙ named_there t dir.0 d there) refl

        told : first_failure (existing_checks f set cred) ≡ None → answer_of (edited now t es) (Create dir name set) ≡ found_at (edited now t es) m
        told none = looked_up_found (edited now t es) dir.0 name d m (dir_after (is_set set.size) (takes_regular f set cred none)) plain is

        by_check : (c : Check) → first_failure (existing_checks f set cred ++ limits t start es) ≡ c → decided c t (Create dir name set) now es ≡ found_by c t m now es
        by_check (Some status) at = refl
        by_check None at =
            ap (λ (a : Answer). let r : Responded = record { answer = a; tree = edited now t es; made = first_made es } in r) (told (none_front (existing_checks f set cred) (limits t start es) at))

        existing : respond t (Create dir name set) cred now start ≡ found_by (first_failure (existing_checks f set cred ++ limits t start es)) t m now es
        unfolding respond checks
        existing =
            ap (λ (x : List Edit). decided (first_failure (argument_checks t (Create dir name set) cred ++ (own_checks t (Create dir name set) cred ++ limits t start x))) t (Create dir name set) now x) existing_edits_are
            ∙ ap (λ (c : Check). decided c t (Create dir name set) now es)
            (behind_none (argument_checks t (Create dir name set) cred) (own_checks t (Create dir name set) cred ++ limits t start es) create_arguments
            ∙ same_front (own_checks t (Create dir name set) cred) (existing_checks f set cred) (limits t start es) existing_own)
            ∙ by_check (first_failure (existing_checks f set cred ++ limits t start es)) refl

        pub create_existing : respond t (Create dir name set) cred now start ≡ existing_of t m set cred now start
        create_existing =
            existing
            ∙ sym (ap (λ (o : Option File). option_map_or (λ f. found_by (first_failure (existing_checks f set cred ++ limits t start (existing_edits now set m f))) t m now (existing_edits now set m f)) o (refused t stale)) live)

-- ---- a new regular file

-- no block uses none
none : BlockMap
none = empty

no_greatest : greatest none ≡ None
unfolding none
no_greatest = go (greatest empty) refl where
  go : (o : Option ℕ) → greatest empty ≡ o → o ≡ None
  go None is = refl
  go (Some g) is = absurd (let e : IsSome {T = List ℕ} None = subst IsSome (get-empty nat_cmp g) (greatest_has empty g is).0 in cc)

no_blocks : used (Regular none) ≡ 0
unfolding none
no_blocks = ap (λ (n : ℕ). n + chains_up_to (greatest empty)) (len-empty nat_cmp (List ℕ)) ∙ ap (λ (o : Option ℕ). 0 + chains_up_to o) no_greatest

pub regular_small : (set : Sattr) → 8 * used (regular_of set).content < 2 ^ 32
unfolding none
regular_small set = omega (arith, no_blocks)

-- a directory with no link more
none_more : (now : Stamp) (name : List ℕ) (m : ℕ) (d : File) → receiving now name m (d.links + 0) d ≡ with_name now name m d
none_more now name m d = ap (λ (l : ℕ). receiving now name m l d) (let same : d.links + 0 ≡ d.links = omega arith in same)

module _ (t : PlainTree) (dir : Handle) (name : List ℕ) (set : Sattr) (cred : Cred) (now : Stamp) (d : File) (there : file_of t dir.0 ≡ Some d)
    (row : first_failure (named_row t cred (named dir.0 name acces)) ≡ None) (plain : is_dots name ≡ false) (absent : file_named (slots_of d.content) name ≡ None)
    (checked : first_failure (new_checks set) ≡ None) where
  of_directory : is_directory d.content ≡ true
  of_directory = row_directory t cred (named dir.0 name acces) d there row

  -- CREATE makes it
  pub create_makes : Makes t (Create dir name set) cred now (number_in dir.0) d name (regular_of set)
  create_makes = record {
    arguments = create_arguments t dir name set cred now 0 d there row;
    own = create_own t dir name set cred now 0 d there row plain absent ∙ checked;
    edits = λ start. create_edits_are t dir name set cred now start d there row plain absent
        ∙ ap (λ (g : File). Changed (number_in dir.0) g ∷ Made (new_number t start) (new_regular t (new_number t start) now set cred) ∷ []) (sym (none_more now name (new_number t start) d));
    answers = λ m dead. told_new t dir name cred now d m there plain absent of_directory dead (d.links + 0) (new_regular t m now set cred);
  }
