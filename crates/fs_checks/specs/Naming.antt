-- The checks of LINK and RENAME, of the files that they look at.
use Rattle.std.specs.Prelude.{Bool, not, ◌&&◌, List, [], ◌∷◌}
use Rattle.fs_rules.specs.declared.file.File.{File}
use Rattle.fs_rules.specs.File.{is_directory}
use Rattle.fs_rules.specs.Statuses.{Check, fails_where, perm, exist, isdir, notdir, notempty, nametoolong, io}

-- LINK gives the file f a name, which is taken or not
abbrev pub link_row : File → Bool → List Check
link_row f taken = fails_where perm (is_directory f.content) ∷ fails_where exist taken ∷ []

-- a directory, or another file, is moved over the file r, in which a name is in use or not
abbrev pub over_row : Bool → File → Bool → List Check
over_row is_dir r in_use =
    fails_where notdir (is_dir && not (is_directory r.content)) ∷ fails_where isdir (not is_dir && is_directory r.content) ∷ fails_where notempty in_use ∷ []

-- the chain of parents leads to the root, and the directory that is moved is on it
abbrev pub way_row : Bool → Bool → List Check
way_row leads above = fails_where nametoolong (not leads) ∷ fails_where io above ∷ []
