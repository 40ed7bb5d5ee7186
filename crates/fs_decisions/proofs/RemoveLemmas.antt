-- What respond is for REMOVE and RMDIR.
use Rattle.std.proofs.Common.{◌≡◌, ◌≢◌, ◌⊎◌, inl, inr, ℕ, ◌-◌, ◌^◌, ◌<◌, ◌≤◌, Bool, true, false, cond, eqb, List, [], ◌∷◌, length, Option, Some, None, refl, sym, ap, subst, ◌∙◌, arith}
use Rattle.std.specs.Prelude.{nat_lt, not, ◌||◌}
use Rattle.std.specs.Option.{option_map_or}
use Rattle.std.proofs.lemmas.Bool.{not-false}
use Rattle.std.specs.FinMap.{get}
use Rattle.rpc_msg.specs.declared.cred.Cred.{Cred}
use Rattle.nfs_proto.specs.declared.call.Call.{Call}
use Rattle.nfs_proto.specs.declared.handle.Handle.{Handle}
use Rattle.nfs_proto.specs.declared.stamp.Stamp.{Stamp}
use Rattle.fs_rules.specs.declared.file.File.{File}
use Rattle.fs_rules.specs.declared.plain_tree.PlainTree.{PlainTree}
use Rattle.fs_rules.specs.Handle.{number_in}
use Rattle.fs_rules.specs.File.{slots_of, is_directory}
use Rattle.fs_rules.specs.Slots.{file_named, is_in_use}
use Rattle.fs_rules.specs.Statuses.{first_failure, fbig}
use Rattle.fs_rules.specs.Arguments.{file_of, at_number, argument_checks}
use Rattle.fs_rules.specs.Edits.{Edit, Changed, Freed, limits, is_spent}
use Rattle.fs_rules.specs.Names.{remove_checks, remove_edits, remove_edits_by, remove_dir_checks, remove_dir_edits, remove_dir_edits_by, without_name, unlinked, loses_link, one_where}
use Rattle.fs_rules.specs.Good.{IsGood}
use Rattle.fs_rules.specs.Respond.{own_checks, edits_of, decided, respond}
use Rattle.fs_laws.proofs.StatusLemmas.{passed, not_so}
use Rattle.fs_laws.proofs.WholeLemmas.{IsWhole, whole_from_good, some_of, named_in}
use Rattle.fs_laws.proofs.DirLemmas.{IsDir, dir_content, dir_list, dir_links}
use Rattle.fs_laws.proofs.LinkLemmas.{plain_content, IsFile, file_apart, IsNamedFile, named_file_of, IsEmptyDir, empty_none}
use Rattle.fs_checks.specs.declared.removal.Removal.{Removal}
use Rattle.fs_checks.specs.declared.removal.Removal.TheVariants as removal
use Rattle.fs_checks.specs.Rows.{directory_row}
use Rattle.fs_edits.specs.Taking.{lost, taken_edits}
use Rattle.fs_edits.proofs.TakingLemmas.{unlinked_none}
use Rattle.fs_decisions.specs.Steps.{refused, named, named_row}
use Rattle.fs_decisions.specs.Removing.{removal_of, named_is, removal_checks, MayRemove}
use Rattle.fs_decisions.proofs.RowLemmas.{named_there}
use Rattle.fs_decisions.proofs.DirectoryLemmas.{named_there as row_there}
use Rattle.fs_decisions.proofs.ChangeLemmas.{arguments_fail, check_fails, limit_fails, all_pass}
use Rattle.fs_decisions.proofs.TakeLemmas.{limits_roomy, IsLight, light_two, light_freed, light_changed, light_dir}

-- ---- a file that loses a name

pub light_loses : (t : PlainTree) (m : ℕ) (f : File) → IsGood t → IsFile t m f → IsLight t (loses_link m f)
light_loses t m f good file =
    elim (nat_lt 1 f.links) as (λ b. IsLight t (cond b (Changed m (unlinked 1 f)) (Freed m f))) [
      | true ↦
          let most : f.links ≤ 32000 = (good.files m f file.there).links in
          let none : length (slots_of f.content) ≡ 0 = ap length (plain_content f.content file.plain).slots in
          light_changed t m f (unlinked 1 f) file.there (omega (arith, most)) (omega (arith, none)) refl
      | false ↦ light_freed t m f
    ]

pub spent_loses : (m : ℕ) (f : File) → is_spent (loses_link m f) ≡ eqb f.change (2 ^ 64 - 1)
spent_loses m f = elim (nat_lt 1 f.links) as (λ b. is_spent (cond b (Changed m (unlinked 1 f)) (Freed m f)) ≡ eqb f.change (2 ^ 64 - 1)) [ true ↦ refl | false ↦ refl ]

-- whatever becomes of it: it is spent where its change number is
spent_lost : (m : ℕ) (f : File) → is_spent (lost m f) ≡ eqb f.change (2 ^ 64 - 1)
spent_lost m f = elim (is_directory f.content) as (λ b. is_spent (cond b (Freed m f) (loses_link m f)) ≡ eqb f.change (2 ^ 64 - 1)) [ true ↦ refl | false ↦ spent_loses m f ]

-- either change number has its last value
spent_two : (a b : Bool) → (a ≡ true) ⊎ (b ≡ true) → (a || (b || false)) ≡ true
spent_two true b either = refl
spent_two false true either = refl
spent_two false false (inl is) = absurd cc
spent_two false false (inr is) = absurd cc

spent_none : (a b : Bool) → a ≡ false → b ≡ false → (a || (b || false)) ≡ false
spent_none true b p q = absurd cc
spent_none false true p q = absurd cc
spent_none false false p q = refl

-- ---- the call

module _ (t : PlainTree) (r : Removal) (dir : Handle) (name : List ℕ) (cred : Cred) (now : Stamp) (start : ℕ) where
  abbrev call : Call
  call = removal_of r dir name

  arguments_are : (r : Removal) → first_failure (argument_checks t (removal_of r dir name) cred) ≡ first_failure (named_row t cred (named dir.0 name 2))
  unfolding argument_checks
  arguments_are removal.File = refl
  arguments_are removal.Directory = refl

  -- a check of the arguments fails
  pub removal_argument : (status : ℕ) → first_failure (named_row t cred (named dir.0 name 2)) ≡ Some status → respond t (removal_of r dir name) cred now start ≡ refused t status
  removal_argument status is = arguments_fail t call cred now start status (arguments_are r ∙ is)

  module _ (d : File) (there : file_of t dir.0 ≡ Some d) (row : first_failure (named_row t cred (named dir.0 name 2)) ≡ None) where
    abbrev n : ℕ
    n = number_in dir.0

    arguments : first_failure (argument_checks t call cred) ≡ None
    arguments = arguments_are r ∙ row

    own_are : (r : Removal) → first_failure (own_checks t (removal_of r dir name) cred) ≡ first_failure (removal_checks r t d name)
    unfolding remove_checks remove_dir_checks
    own_are removal.File = ap (λ (o : Option File). first_failure (option_map_or (λ d. remove_checks t d name) o [])) there
    own_are removal.Directory = ap (λ (o : Option File). first_failure (option_map_or (λ d. remove_dir_checks t d name) o [])) there

    -- a check of the procedure fails
    pub removal_refused : (status : ℕ) → first_failure (removal_checks r t d name) ≡ Some status → respond t (removal_of r dir name) cred now start ≡ refused t status
    removal_refused status is = check_fails t call cred now start arguments status (own_are r ∙ is)

    is_dir : is_directory d.content ≡ true
    is_dir =
        let checks = passed (directory_row d cred (named dir.0 name 2)) (sym (row_there t cred (named dir.0 name 2) d there) ∙ row) in
        not-false (is_directory d.content) (not_so 20 (not (is_directory d.content)) checks.0)

    module _ (good : IsGood t) (m : ℕ) (is : file_named (slots_of d.content) name ≡ Some m) (checked : first_failure (removal_checks r t d name) ≡ None) where
      whole : IsWhole t
      whole = whole_from_good t good

      live : get t.files n ≡ Some d
      live = named_there t dir.0 d there

      abbrev parent : ℕ
      parent = (dir_content d.content is_dir).0

      at_dir : IsDir t n d parent
      at_dir = record { there = live; content = (dir_content d.content is_dir).1 }

      is_file : IsNamedFile t n d name m
      is_file = named_file_of t n d parent name m whole at_dir is

      abbrev f : File
      f = (some_of (get t.files m) is_file.lives).0

      f_there : get t.files m ≡ Some f
      f_there = (some_of (get t.files m) is_file.lives).1

      -- what a test says of the file of the name
      at_name : (test : File → Bool) → named_is t d name test ≡ test f
      at_name test = ap (λ (o : Option ℕ). option_map_or (λ m. at_number t m false test) o false) is ∙ ap (λ (o : Option File). option_map_or test o false) f_there

      -- it is of the right kind
      abbrev IsFit : Removal → Type 0
      IsFit removal.File = is_directory f.content ≡ false
      IsFit removal.Directory = (is_directory f.content ≡ true) × (is_in_use (slots_of f.content) ≡ false)

      fit : (r : Removal) → first_failure (removal_checks r t d name) ≡ None → IsFit r
      fit removal.File checked =
          let third = (passed (removal_checks removal.File t d name) checked).1.1.0 in
          sym (at_name (λ f. is_directory f.content)) ∙ not_so 21 (named_is t d name (λ f. is_directory f.content)) third
      fit removal.Directory checked =
          let rest = (passed (removal_checks removal.Directory t d name) checked).1.1 in
          let tested = named_is t d name (λ f. is_directory f.content) in (
            sym (at_name (λ f. is_directory f.content)) ∙ not-false tested (not_so 20 (not tested) rest.0),
            sym (at_name (λ f. is_in_use (slots_of f.content))) ∙ not_so 66 (named_is t d name (λ f. is_in_use (slots_of f.content))) rest.1.0,
          )

      -- a file that is no directory
      file : is_directory f.content ≡ false → IsFile t m f
      file plain = record { there = f_there; plain = plain }

      -- a directory with no name in use
      module _ (f_dir : is_directory f.content ≡ true) (f_empty : is_in_use (slots_of f.content) ≡ false) where
        abbrev up : ℕ
        up = (dir_content f.content f_dir).0

        empty : IsEmptyDir t m f up
        empty = record { dir = record { there = f_there; content = (dir_content f.content f_dir).1 }; empty = f_empty }

        -- it does not name itself
        empty_apart : m ≢ n
        empty_apart same =
            let a : 1 ≤ named_in t m m = subst (λ k. 1 ≤ named_in t k m) (sym same) is_file.names in
            omega (arith, a, empty_none t m m f up empty)

        empty_linked : 1 ≤ f.links
        empty_linked = let links = dir_links t m f up whole empty.dir in omega (arith, links)

      apart : (r : Removal) → IsFit r → m ≢ n
      apart removal.File plain = file_apart t m n f d parent (file plain) at_dir
      apart removal.Directory k = empty_apart k.0 k.1

      linked : (r : Removal) → IsFit r → 1 ≤ f.links
      linked removal.File plain = (plain_content f.content plain).named f (whole.own m f f_there).content
      linked removal.Directory k = empty_linked k.0 k.1

      light : (r : Removal) → IsFit r → IsLight t (lost m f)
      light removal.File plain = subst (λ (b : Bool). IsLight t (cond b (Freed m f) (loses_link m f))) (sym plain) (light_loses t m f good (file plain))
      light removal.Directory k = subst (λ (b : Bool). IsLight t (cond b (Freed m f) (loses_link m f))) (sym k.0) (light_freed t m f)

      -- the directory has the link that a directory takes along
      spared : one_where (is_directory f.content) ≤ d.links
      spared =
          let links = dir_links t n d parent whole at_dir in
          elim (is_directory f.content) as (λ b. one_where b ≤ d.links) [ true ↦ omega (arith, links) | false ↦ omega arith ]

      -- the edits, by whether the file is a directory
      abbrev taken_by : Bool → List Edit
      taken_by b = Changed n (unlinked (one_where b) (without_name now name d)) ∷ cond b (Freed m f) (loses_link m f) ∷ []

      edits : (r : Removal) → IsFit r → edits_of t (removal_of r dir name) cred now start ≡ taken_edits now n name d m f
      unfolding remove_edits remove_dir_edits
      edits removal.File plain =
          ap (λ (o : Option File). option_map_or (λ d. remove_edits t n d name now) o []) there
          ∙ ap (λ (o : Option ℕ). remove_edits_by t o n d name now) is
          ∙ ap (λ (o : Option File). Changed n (without_name now name d) ∷ option_map_or (λ f. loses_link m f ∷ []) o []) f_there
          ∙ ap (λ (g : File). Changed n g ∷ loses_link m f ∷ []) (sym (unlinked_none (without_name now name d)))
          ∙ ap taken_by (sym plain)
      edits removal.Directory k =
          ap (λ (o : Option File). option_map_or (λ d. remove_dir_edits t n d name now) o []) there
          ∙ ap (λ (o : Option ℕ). remove_dir_edits_by t o n d name now) is
          ∙ ap (λ (o : Option File). Changed n (unlinked 1 (without_name now name d)) ∷ option_map_or (λ f. Freed m f ∷ []) o []) f_there
          ∙ ap taken_by (sym k.0)

      limits_are : first_failure (limits t start (edits_of t call cred now start)) ≡ cond (eqb d.change (2 ^ 64 - 1) || (is_spent (lost m f) || false)) (Some fbig) None
      limits_are =
          ap (λ (es : List Edit). first_failure (limits t start es)) (edits r (fit r checked))
          ∙ limits_roomy t start (taken_edits now n name d m f)
          (light_two t (Changed n (unlinked (one_where (is_directory f.content)) (without_name now name d))) (lost m f)
          (light_dir now t n d parent name (one_where (is_directory f.content)) good at_dir)
          (light r (fit r checked)))

      -- a change number has its last value
      pub removal_spent : (eqb d.change (2 ^ 64 - 1) ≡ true) ⊎ ((f : File) → get t.files m ≡ Some f → eqb f.change (2 ^ 64 - 1) ≡ true)
          → respond t (removal_of r dir name) cred now start ≡ refused t 27
      removal_spent either =
          limit_fails t call cred now start arguments (own_are r ∙ checked) 27
          (limits_are
          ∙ ap (λ (b : Bool). cond b (Some fbig) None)
          (spent_two (eqb d.change (2 ^ 64 - 1)) (is_spent (lost m f))
          (elim either [ inl is ↦ inl is | inr is ↦ inr (spent_lost m f ∙ is f f_there) ])))

      -- nothing forbids it
      pub may_remove : eqb d.change (2 ^ 64 - 1) ≡ false → d.change < 2 ^ 64 - 1
          → ((f : File) → get t.files m ≡ Some f → eqb f.change (2 ^ 64 - 1) ≡ false)
          → ((f : File) → get t.files m ≡ Some f → f.change < 2 ^ 64 - 1)
          → MayRemove t r dir name cred now start m
      may_remove dir_test dir_rises file_test file_rises = record {
        d = d;
        f = f;
        takes = record {
          dir = live;
          file = f_there;
          apart = apart r (fit r checked);
          room = record { few = (dir_list t n d parent whole at_dir).few };
          dir_can = record { rises = dir_rises; some = spared };
          file_can = record { rises = file_rises f f_there; some = linked r (fit r checked) };
        };
        answers =
            all_pass t call cred now start arguments (own_are r ∙ checked)
            (limits_are ∙ ap (λ (b : Bool). cond b (Some fbig) None)
            (spent_none (eqb d.change (2 ^ 64 - 1)) (is_spent (lost m f)) dir_test (spent_lost m f ∙ file_test f f_there)))
            ∙ ap (λ (es : List Edit). decided None t call now es) (edits r (fit r checked));
      }
