-- The checks of one name of a call, and of one file, in a row.
use Rattle.std.specs.Prelude.{ℕ, not, if◌then◌else◌, Some, List, [], ◌∷◌}
use Rattle.rpc_msg.specs.declared.cred.Cred.{Cred}
use Rattle.fs_rules.specs.declared.file.File.{File}
use Rattle.fs_rules.specs.File.{is_directory, is_link}
use Rattle.fs_rules.specs.Access.{may}
use Rattle.fs_rules.specs.Arguments.{Named, name_check, taken, given}
use Rattle.fs_rules.specs.Reading.{read_dir_checks}
use Rattle.fs_rules.specs.Statuses.{Check, fails_where, notdir, acces, isdir, nxio}

-- a file is a directory
abbrev pub is_one : File → Check
is_one f = fails_where notdir (not (is_directory f.content))

-- a file is a regular one, which a directory and a link are not
abbrev pub regular_check : File → Check
regular_check f = if is_directory f.content then Some isdir else fails_where nxio (is_link f.content)

-- a name of a directory: this, the form of the name, and access
abbrev pub directory_row : File → Cred → Named → List Check
directory_row d cred n = is_one d ∷ name_check n ∷ fails_where acces (not (may d cred n.bits)) ∷ []

-- those of the two names, where the handles name the files c and d
abbrev pub pair_row : File → List ℕ → File → List ℕ → Cred → List Check
pair_row c from_name d to_name cred =
    fails_where notdir (not (is_directory c.content))
    ∷ fails_where notdir (not (is_directory d.content))
    ∷ name_check (taken [] from_name)
    ∷ name_check (given [] to_name)
    ∷ fails_where acces (not (may c cred 3))
    ∷ fails_where acces (not (may d cred 3))
    ∷ []

-- READDIR
abbrev pub read_dir_row : File → Cred → List Check
read_dir_row d cred = is_one d ∷ read_dir_checks d cred
