-- What LOOKUP goes through.
use Rattle.std.proofs.Common.{◌≡◌, ℕ, true, false, cond, List, [], ◌∷◌, ◌++◌, map, Option, Some, None, refl, ap, ◌∙◌}
use Rattle.std.specs.Prelude.{◌||◌, not}
use Rattle.std.specs.Option.{option_map_or}
use Rattle.rpc_msg.specs.declared.cred.Cred.{Cred}
use Rattle.fs_rules.specs.declared.file.File.{File}
use Rattle.fs_rules.specs.Access.{may}
use Rattle.fs_rules.specs.Arguments.{is_dot, is_dot_dot, is_dots, looked_up, name_check}
use Rattle.fs_rules.specs.File.{is_directory}
use Rattle.fs_rules.specs.Statuses.{fails_where, first_failure, acces, notdir, noent}
use Rattle.fs_checks.specs.Rows.{directory_row}
use Rattle.node_cache.specs.declared.held.Held.{Held}
use Rattle.plan_rules.specs.declared.look.Look.{Look}
use Rattle.plan_rules.specs.declared.look.Look.TheVariants.{Record}
use Rattle.plan_rules.specs.Names.{name_steps, target}
use Rattle.plan_rules.specs.Orders.{access_check, directory_check}
use Rattle.plan_rules.specs.Steps.{Looks, Checks}
use Rattle.plan_rules.specs.Told.{at_record, file_of, found}
use Rattle.plan_looks.specs.Goes.{GoesOn, IsRefused}
use Rattle.plan_looks.proofs.GoesLemmas.{checks_fail, checks_on}
use Rattle.plan_read.specs.Lookup.{behind_search}

-- the checks of the directory that a handle names
pub row_is : (held : Held) (dir name : List ℕ) (cred : Cred) (f : File) → file_of held dir ≡ Some f
    → first_failure (directory_check held dir ∷ name_check (looked_up dir name) ∷ access_check held cred (looked_up dir name) ∷ [])
    ≡ first_failure (directory_row f cred (looked_up [] name))
row_is held dir name cred f is =
    ap (λ (p : Option File). first_failure (fails_where notdir (not (option_map_or (λ g. is_directory g.content) p false)) ∷ name_check (looked_up dir name)
    ∷ fails_where acces (not (option_map_or (λ g. may g cred 1) p false)) ∷ [])) is

-- what the name names: the directory, its parent, or what is found
module _ (held : Held) (n : ℕ) (name : List ℕ) where
  pub is_itself : is_dot name ≡ true → (cond (is_dots name) [] (name_steps held n name) ≡ []) × (target held n name ≡ Some n)
  is_itself is = (
    ap (λ b. cond (b || is_dot_dot name) [] (name_steps held n name)) is,
    ap (λ b. cond b (Some n) (cond (is_dot_dot name) (at_record held n None (λ a. Some a.parent)) (found held n name))) is,
  )

  pub is_parent : is_dot name ≡ false → is_dot_dot name ≡ true
      → (cond (is_dots name) [] (name_steps held n name) ≡ []) × (target held n name ≡ at_record held n None (λ a. Some a.parent))
  is_parent other is = (
    ap (λ b. cond (b || is_dot_dot name) [] (name_steps held n name)) other ∙ ap (λ b. cond b [] (name_steps held n name)) is,
    ap (λ b. cond b (Some n) (cond (is_dot_dot name) (at_record held n None (λ a. Some a.parent)) (found held n name))) other
        ∙ ap (λ b. cond b (at_record held n None (λ a. Some a.parent)) (found held n name)) is,
  )

  pub is_found : is_dot name ≡ false → is_dot_dot name ≡ false
      → (cond (is_dots name) [] (name_steps held n name) ≡ name_steps held n name) × (target held n name ≡ found held n name)
  is_found other none = (
    ap (λ b. cond (b || is_dot_dot name) [] (name_steps held n name)) other ∙ ap (λ b. cond b [] (name_steps held n name)) none,
    ap (λ b. cond b (Some n) (cond (is_dot_dot name) (at_record held n None (λ a. Some a.parent)) (found held n name))) other
        ∙ ap (λ b. cond b (at_record held n None (λ a. Some a.parent)) (found held n name)) none,
  )

-- behind the search
pub some_behind : (held : Held) (m : ℕ) → behind_search (Some m) ≡ map Checks (None ∷ []) ++ (Looks (Record m) ∷ [])
some_behind held m = refl

pub check_passes : (held : Held) (old : List Look) → GoesOn held (map Checks (None ∷ [])) old old
unfolding first_failure
check_passes held old = checks_on held (None ∷ []) old refl

pub none_behind : (held : Held) (old : List Look) → IsRefused held (behind_search None) old old noent
unfolding first_failure
none_behind held old = checks_fail held (Some noent ∷ []) old noent refl
