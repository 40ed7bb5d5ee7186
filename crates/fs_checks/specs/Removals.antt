-- The checks of REMOVE and RMDIR, where they differ.
use Rattle.std.specs.Prelude.{ℕ, Bool, not, List, [], ◌∷◌}
use Rattle.fs_rules.specs.Statuses.{Check, fails_where, acces, isdir, notdir, notempty}
use Rattle.fs_checks.specs.declared.removal.Removal.{Removal}
use Rattle.fs_checks.specs.declared.removal.Removal.TheVariants as removal

-- the status where the name is "." or ".."
abbrev pub dots_status : Removal → ℕ
dots_status removal.File = isdir
dots_status removal.Directory = acces

-- REMOVE takes no directory away, and RMDIR one with no name in use
abbrev pub removal_row : Removal → Bool → Bool → List Check
removal_row removal.File is_dir in_use = fails_where isdir is_dir ∷ []
removal_row removal.Directory is_dir in_use = fails_where notdir (not is_dir) ∷ fails_where notempty in_use ∷ []
