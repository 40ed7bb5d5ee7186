-- Mounting leads to the root.
use Rattle.std.specs.Prelude.{◌≡◌, ℕ, List, ◌++◌, Some}
use Rattle.std.specs.FinMap as table
use Rattle.sfs_xdr.specs.Items.{word, opaque}
use Rattle.mount_proto.specs.Mount.{exported, mounted}
use Rattle.fs_rules.specs.declared.file.File.{File}
use Rattle.fs_rules.specs.declared.plain_tree.PlainTree.{PlainTree}
use Rattle.fs_rules.specs.Handle.{handle}
use Rattle.fs_rules.specs.Arguments.{file_of}

-- the handle of the root
abbrev pub root : List ℕ
root = handle 1 1

-- what MNT of "/" answers is OK and that handle, and it names the root of a tree, in its first generation
abbrev pub TheRootIsMounted : Type 0
TheRootIsMounted =
    (mounted exported ≡ word 0 ++ opaque root)
    × ((t : PlainTree) (f : File) → table.get t.files 1 ≡ Some f → f.generation ≡ 1 → file_of t root ≡ Some f)
