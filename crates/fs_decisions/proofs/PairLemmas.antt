-- The checks of the arguments of RENAME.
use Rattle.std.proofs.Common.{◌≡◌, ℕ, false, cond, List, [], ◌∷◌, Option, Some, None, ap, ◌∙◌}
use Rattle.std.specs.Prelude.{is_some, not}
use Rattle.std.specs.Option.{option_map_or}
use Rattle.rpc_msg.specs.declared.cred.Cred.{Cred}
use Rattle.nfs_proto.specs.declared.call.Call.TheVariants.{Rename}
use Rattle.nfs_proto.specs.declared.handle.Handle.{Handle}
use Rattle.fs_rules.specs.declared.file.File.{File}
use Rattle.fs_checks.specs.Rows.{pair_row}
use Rattle.fs_rules.specs.declared.plain_tree.PlainTree.{PlainTree}
use Rattle.fs_rules.specs.File.{is_directory}
use Rattle.fs_rules.specs.Access.{may}
use Rattle.fs_rules.specs.Statuses.{Check, first_failure, stale, notdir, acces}
use Rattle.fs_rules.specs.Arguments.{taken, given, file_of, name_check, argument_checks}

module _ (t : PlainTree) (from : Handle) (from_name : List ℕ) (to : Handle) (to_name : List ℕ) (cred : Cred) where
  row : Option File → Option File → List Check
  row c d =
      cond (not (is_some c)) (Some stale) None
      ∷ cond (not (is_some d)) (Some stale) None
      ∷ cond (not (option_map_or (λ f. is_directory f.content) c false)) (Some notdir) None
      ∷ cond (not (option_map_or (λ f. is_directory f.content) d false)) (Some notdir) None
      ∷ name_check (taken [] from_name)
      ∷ name_check (given [] to_name)
      ∷ cond (not (option_map_or (λ f. may f cred 3) c false)) (Some acces) None
      ∷ cond (not (option_map_or (λ f. may f cred 3) d false)) (Some acces) None
      ∷ []

  -- the first handle names no file
  pub pair_no_from : file_of t from.0 ≡ None → first_failure (argument_checks t (Rename from from_name to to_name) cred) ≡ Some stale
  unfolding argument_checks first_failure row
  pair_no_from none = ap (λ (o : Option File). first_failure (row o (file_of t to.0))) none

  -- the second handle names no file
  pub pair_no_to : (c : File) → file_of t from.0 ≡ Some c → file_of t to.0 ≡ None → first_failure (argument_checks t (Rename from from_name to to_name) cred) ≡ Some stale
  unfolding argument_checks first_failure row
  pair_no_to c there none =
      ap (λ (o : Option File). first_failure (row o (file_of t to.0))) there
      ∙ ap (λ (o : Option File). first_failure (row (Some c) o)) none

  -- both name files
  pub pair_there : (c d : File) → file_of t from.0 ≡ Some c → file_of t to.0 ≡ Some d
      → first_failure (argument_checks t (Rename from from_name to to_name) cred) ≡ first_failure (pair_row c from_name d to_name cred)
  unfolding argument_checks first_failure row
  pair_there c d there_c there_d =
      ap (λ (o : Option File). first_failure (row o (file_of t to.0))) there_c
      ∙ ap (λ (o : Option File). first_failure (row (Some c) o)) there_d
