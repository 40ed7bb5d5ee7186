-- WRITE (RFC 1094, section 2.2.9).
use Rattle.std.specs.Prelude.{ℕ, ◌+◌, ◌==◌, max, Bool, not, ◌&&◌, if◌then◌else◌, List, [], ◌∷◌, length}
use Rattle.rpc_msg.specs.declared.cred.Cred.{Cred}
use Rattle.nfs_proto.specs.declared.stamp.Stamp.{Stamp}
use Rattle.fs_rules.specs.declared.content.Content.TheVariants.{Regular}
use Rattle.fs_rules.specs.declared.file.File.{File}
use Rattle.fs_rules.specs.File.{is_directory, is_link, blocks_of}
use Rattle.fs_rules.specs.Contents.{written}
use Rattle.fs_rules.specs.Access.{may}
use Rattle.fs_rules.specs.Attributes.{is_too_large}
use Rattle.fs_rules.specs.Statuses.{Check, fails_where, nxio, acces, isdir, fbig}
use Rattle.fs_rules.specs.Edits.{Edit, Changed}

-- whether there is no data
abbrev pub is_nothing : List ℕ → Bool
is_nothing bytes = length bytes == 0

-- no directory, no link, write access; data ends within the greatest size
abbrev pub write_checks : File → Cred → ℕ → List ℕ → List Check
write_checks f cred offset bytes =
    fails_where isdir (is_directory f.content)
    ∷ fails_where nxio (is_link f.content)
    ∷ fails_where acces (not (may f cred 2))
    ∷ fails_where fbig (not (is_nothing bytes) && is_too_large (offset + length bytes))
    ∷ []

-- the file after the bytes were written at an offset
unfoldable pub with_bytes : Stamp → ℕ → List ℕ → File → File
with_bytes now offset bytes f =
    record f { content = Regular (written (blocks_of f.content) offset bytes); size = max f.size (offset + length bytes); mtime = now }

unfoldable pub write_edits : Stamp → ℕ → List ℕ → ℕ → File → List Edit
write_edits now offset bytes n f = if is_nothing bytes then [] else Changed n (with_bytes now offset bytes f) ∷ []
