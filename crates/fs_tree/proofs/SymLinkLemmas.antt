-- What respond is for SYMLINK.
use Rattle.std.proofs.Common.{◌≡◌, ℕ, ◌+◌, arith, Bool, true, false, cond, List, [], ◌∷◌, length, Option, Some, None, refl, sym, ap, ◌∙◌}
use Rattle.std.specs.Prelude.{is_some, ◌||◌, ◌==◌}
use Rattle.std.specs.Option.{option_map_or}
use Rattle.rpc_msg.specs.declared.cred.Cred.{Cred}
use Rattle.nfs_proto.specs.declared.call.Call.TheVariants.{SymLink}
use Rattle.nfs_proto.specs.declared.handle.Handle.{Handle}
use Rattle.nfs_proto.specs.declared.sattr.Sattr.{Sattr}
use Rattle.nfs_proto.specs.declared.stamp.Stamp.{Stamp}
use Rattle.fs_rules.specs.declared.file.File.{File}
use Rattle.fs_rules.specs.declared.plain_tree.PlainTree.{PlainTree}
use Rattle.fs_rules.specs.Handle.{number_in}
use Rattle.fs_rules.specs.File.{slots_of}
use Rattle.fs_rules.specs.Slots.{file_named}
use Rattle.fs_rules.specs.Statuses.{first_failure, acces, exist, noent}
use Rattle.fs_rules.specs.Arguments.{file_of, argument_checks, is_dots}
use Rattle.fs_rules.specs.Edits.{Changed, Made}
use Rattle.fs_rules.specs.Making.{with_name, new_number, sym_link_checks, sym_link_edits, new_link}
use Rattle.fs_rules.specs.Respond.{respond, own_checks, edits_of}
use Rattle.fs_decisions.specs.Steps.{refused, named, named_row}
use Rattle.fs_edits.specs.Giving.{receiving}
use Rattle.fs_tree.specs.NewFiles.{Makes, link_of}
use Rattle.fs_decisions.proofs.ChangeLemmas.{arguments_fail, check_fails}

-- ---- the call

double : (a b : Bool) → first_failure (cond a (Some exist) None ∷ cond b (Some noent) None ∷ []) ≡ cond a (Some exist) (cond b (Some noent) None)
unfolding first_failure
double true b = refl
double false true = refl
double false false = refl

no_file : (o : Option ℕ) → is_some o ≡ false → o ≡ None
no_file None is = refl
no_file (Some n) is = absurd cc

module _ (t : PlainTree) (dir : Handle) (name path : List ℕ) (set : Sattr) (cred : Cred) (now : Stamp) (start : ℕ) where
  -- a check of the arguments fails
  pub sym_link_stopped : (status : ℕ) → first_failure (named_row t cred (named dir.0 name acces)) ≡ Some status → respond t (SymLink dir name path set) cred now start ≡ refused t status
  unfolding argument_checks
  sym_link_stopped status is = arguments_fail t (SymLink dir name path set) cred now start status is

  module _ (d : File) (there : file_of t dir.0 ≡ Some d) (row : first_failure (named_row t cred (named dir.0 name acces)) ≡ None) where
    arguments_pass : first_failure (argument_checks t (SymLink dir name path set) cred) ≡ None
    unfolding argument_checks
    arguments_pass = row

    own : first_failure (own_checks t (SymLink dir name path set) cred)
        ≡ cond (is_dots name || is_some (file_named (slots_of d.content) name)) (Some exist) (cond (length path == 0) (Some noent) None)
    unfolding sym_link_checks
    own =
        ap (λ (o : Option File). first_failure (option_map_or (λ d. sym_link_checks d name path) o [])) there
        ∙ double (is_dots name || is_some (file_named (slots_of d.content) name)) (length path == 0)

    -- the name is there, or cannot be
    pub sym_link_taken : (is_dots name || is_some (file_named (slots_of d.content) name)) ≡ true → respond t (SymLink dir name path set) cred now start ≡ refused t exist
    sym_link_taken is = check_fails t (SymLink dir name path set) cred now start arguments_pass exist (own ∙ ap (λ (b : Bool). cond b (Some exist) (cond (length path == 0) (Some noent) None)) is)

    -- there is no path
    pub sym_link_empty : (is_dots name || is_some (file_named (slots_of d.content) name)) ≡ false → (length path == 0) ≡ true → respond t (SymLink dir name path set) cred now start ≡ refused t noent
    sym_link_empty free is =
        check_fails t (SymLink dir name path set) cred now start arguments_pass noent
        (own ∙ ap (λ (b : Bool). cond b (Some exist) (cond (length path == 0) (Some noent) None)) free ∙ ap (λ (b : Bool). cond b (Some noent) None) is)

    module _ (free : (is_dots name || is_some (file_named (slots_of d.content) name)) ≡ false) (some : (length path == 0) ≡ false) where
      edits : edits_of t (SymLink dir name path set) cred now start
          ≡ Changed (number_in dir.0) (with_name now name (new_number t start) d) ∷ Made (new_number t start) (new_link t (new_number t start) now path cred) ∷ []
      unfolding sym_link_edits
      edits = ap (λ (o : Option File). option_map_or (λ d. sym_link_edits t start (number_in dir.0) d name path cred now) o []) there

      sym_link_own : first_failure (own_checks t (SymLink dir name path set) cred) ≡ None
      sym_link_own = own ∙ ap (λ (b : Bool). cond b (Some exist) (cond (length path == 0) (Some noent) None)) free ∙ ap (λ (b : Bool). cond b (Some noent) None) some

-- a directory with no link more
none_more : (now : Stamp) (name : List ℕ) (m : ℕ) (d : File) → receiving now name m (d.links + 0) d ≡ with_name now name m d
none_more now name m d = ap (λ (l : ℕ). receiving now name m l d) (let same : d.links + 0 ≡ d.links = omega arith in same)

-- SYMLINK makes it
pub sym_link_makes : (t : PlainTree) (dir : Handle) (name path : List ℕ) (set : Sattr) (cred : Cred) (now : Stamp) (d : File) → file_of t dir.0 ≡ Some d
    → first_failure (named_row t cred (named dir.0 name acces)) ≡ None → (is_dots name || is_some (file_named (slots_of d.content) name)) ≡ false → (length path == 0) ≡ false
    → Makes t (SymLink dir name path set) cred now (number_in dir.0) d name (link_of path)
sym_link_makes t dir name path set cred now d there row free some = record {
  arguments = arguments_pass t dir name path set cred now 0 d there row;
  own = sym_link_own t dir name path set cred now 0 d there row free some;
  edits = λ start. edits t dir name path set cred now start d there row free some
      ∙ ap (λ (g : File). Changed (number_in dir.0) g ∷ Made (new_number t start) (new_link t (new_number t start) now path cred) ∷ []) (sym (none_more now name (new_number t start) d));
  answers = λ m dead. refl;
}
