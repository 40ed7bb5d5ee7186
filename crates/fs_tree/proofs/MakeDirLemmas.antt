-- What respond is for MKDIR.
use Rattle.std.proofs.Common.{◌≡◌, ℕ, ◌+◌, Bool, true, false, cond, List, [], ◌∷◌, Option, Some, None, refl, ap, ◌∙◌}
use Rattle.std.specs.Prelude.{is_some, ◌||◌}
use Rattle.std.specs.Option.{option_map_or}
use Rattle.std.proofs.lemmas.Bool.{or_parts}
use Rattle.rpc_msg.specs.declared.cred.Cred.{Cred}
use Rattle.nfs_proto.specs.declared.call.Call.TheVariants.{MakeDir}
use Rattle.nfs_proto.specs.declared.handle.Handle.{Handle}
use Rattle.nfs_proto.specs.declared.sattr.Sattr.{Sattr}
use Rattle.nfs_proto.specs.declared.stamp.Stamp.{Stamp}
use Rattle.fs_rules.specs.declared.file.File.{File}
use Rattle.fs_rules.specs.declared.plain_tree.PlainTree.{PlainTree}
use Rattle.fs_rules.specs.Handle.{number_in}
use Rattle.fs_rules.specs.File.{slots_of}
use Rattle.fs_rules.specs.Slots.{file_named}
use Rattle.fs_rules.specs.Statuses.{first_failure, acces, exist}
use Rattle.fs_rules.specs.Arguments.{file_of, argument_checks, is_dots}
use Rattle.fs_rules.specs.Making.{new_number, make_dir_checks, make_dir_edits, new_directory}
use Rattle.fs_rules.specs.Respond.{respond, own_checks, edits_of}
use Rattle.fs_decisions.specs.Steps.{refused, named, named_row}
use Rattle.fs_tree.specs.NewFiles.{Makes, made_edits, directory_of}
use Rattle.fs_tree.proofs.ToldLemmas.{told_new}
use Rattle.fs_decisions.proofs.ChangeLemmas.{arguments_fail, check_fails}
use Rattle.fs_tree.proofs.NewNameLemmas.{row_directory}

-- ---- the call

single : (b : Bool) → first_failure (cond b (Some exist) None ∷ []) ≡ cond b (Some exist) None
unfolding first_failure
single true = refl
single false = refl

no_file : (o : Option ℕ) → is_some o ≡ false → o ≡ None
no_file None is = refl
no_file (Some n) is = absurd cc

module _ (t : PlainTree) (dir : Handle) (name : List ℕ) (set : Sattr) (cred : Cred) (now : Stamp) (start : ℕ) where
  -- a check of the arguments fails
  pub make_dir_stopped : (status : ℕ) → first_failure (named_row t cred (named dir.0 name acces)) ≡ Some status → respond t (MakeDir dir name set) cred now start ≡ refused t status
  unfolding argument_checks
  make_dir_stopped status is = arguments_fail t (MakeDir dir name set) cred now start status is

  module _ (d : File) (there : file_of t dir.0 ≡ Some d) (row : first_failure (named_row t cred (named dir.0 name acces)) ≡ None) where
    arguments_pass : first_failure (argument_checks t (MakeDir dir name set) cred) ≡ None
    unfolding argument_checks
    arguments_pass = row

    own : first_failure (own_checks t (MakeDir dir name set) cred) ≡ cond (is_dots name || is_some (file_named (slots_of d.content) name)) (Some exist) None
    unfolding make_dir_checks
    own =
        ap (λ (o : Option File). first_failure (option_map_or (λ d. make_dir_checks d name) o [])) there
        ∙ single (is_dots name || is_some (file_named (slots_of d.content) name))

    -- the name is there, or cannot be
    pub make_dir_taken : (is_dots name || is_some (file_named (slots_of d.content) name)) ≡ true → respond t (MakeDir dir name set) cred now start ≡ refused t exist
    make_dir_taken is = check_fails t (MakeDir dir name set) cred now start arguments_pass exist (own ∙ ap (λ (b : Bool). cond b (Some exist) None) is)

    module _ (free : (is_dots name || is_some (file_named (slots_of d.content) name)) ≡ false) where
      edits : edits_of t (MakeDir dir name set) cred now start
          ≡ made_edits t cred now (number_in dir.0) d name (directory_of (number_in dir.0) set) (new_number t start)
      unfolding make_dir_edits
      edits = ap (λ (o : Option File). option_map_or (λ d. make_dir_edits t start (number_in dir.0) d name set cred now) o []) there

      pub make_dir_own : first_failure (own_checks t (MakeDir dir name set) cred) ≡ None
      make_dir_own = own ∙ ap (λ (b : Bool). cond b (Some exist) None) free

-- MKDIR makes it
pub make_dir_makes : (t : PlainTree) (dir : Handle) (name : List ℕ) (set : Sattr) (cred : Cred) (now : Stamp) (d : File) → file_of t dir.0 ≡ Some d
    → first_failure (named_row t cred (named dir.0 name acces)) ≡ None → (is_dots name || is_some (file_named (slots_of d.content) name)) ≡ false
    → Makes t (MakeDir dir name set) cred now (number_in dir.0) d name (directory_of (number_in dir.0) set)
make_dir_makes t dir name set cred now d there row free =
    let parts = or_parts (is_dots name) (is_some (file_named (slots_of d.content) name)) free in
    record {
      arguments = arguments_pass t dir name set cred now 0 d there row;
      own = make_dir_own t dir name set cred now 0 d there row free;
      edits = λ start. edits t dir name set cred now start d there row free;
      answers = λ m dead. told_new t dir name cred now d m there parts.0 (no_file (file_named (slots_of d.content) name) parts.1) (row_directory t cred (named dir.0 name acces) d there row) dead
          (d.links + 1) (new_directory t m (number_in dir.0) now set cred);
    }
