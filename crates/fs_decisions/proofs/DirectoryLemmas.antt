-- The checks of the arguments of a call with one name.
use Rattle.std.proofs.Common.{◌≡◌, false, cond, List, [], ◌∷◌, Option, Some, None, ap}
use Rattle.std.specs.Prelude.{is_some, not}
use Rattle.std.specs.Option.{option_map_or}
use Rattle.rpc_msg.specs.declared.cred.Cred.{Cred}
use Rattle.fs_rules.specs.declared.file.File.{File}
use Rattle.fs_rules.specs.declared.plain_tree.PlainTree.{PlainTree}
use Rattle.fs_rules.specs.File.{is_directory}
use Rattle.fs_rules.specs.Access.{may}
use Rattle.fs_rules.specs.Statuses.{Check, first_failure, stale, notdir, acces}
use Rattle.fs_rules.specs.Arguments.{Named, file_of, name_check}
use Rattle.fs_decisions.specs.Steps.{named_row}
use Rattle.fs_checks.specs.Rows.{directory_row}

module _ (t : PlainTree) (cred : Cred) (n : Named) where
  row : Option File → List Check
  row o =
      cond (not (is_some o)) (Some stale) None
      ∷ cond (not (option_map_or (λ f. is_directory f.content) o false)) (Some notdir) None
      ∷ name_check n
      ∷ cond (not (option_map_or (λ f. may f cred n.bits) o false)) (Some acces) None
      ∷ []

  -- the handle names no file
  pub named_absent : file_of t n.dir ≡ None → first_failure (named_row t cred n) ≡ Some stale
  unfolding first_failure row
  named_absent is = ap (λ (o : Option File). first_failure (row o)) is

  -- the handle names a file
  pub named_there : (d : File) → file_of t n.dir ≡ Some d → first_failure (named_row t cred n) ≡ first_failure (directory_row d cred n)
  unfolding first_failure row
  named_there d is = ap (λ (o : Option File). first_failure (row o)) is
