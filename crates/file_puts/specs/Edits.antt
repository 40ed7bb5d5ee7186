-- That puts of files show the tree after edits.
use Rattle.std.specs.Prelude.{◌≡◌, ℕ, ◌<◌, true, List}
use Rattle.std.specs.List.{AllByRecursion}
use Rattle.nfs_proto.specs.declared.stamp.Stamp.{Stamp}
use Rattle.fs_layout.specs.Places.{number_of}
use Rattle.fs_rules.specs.declared.plain_tree.PlainTree.{PlainTree}
use Rattle.fs_rules.specs.Edits.{Edit, edited}
use Rattle.mini_tx.specs.FlatMemory.{Flat}
use Rattle.fs_image.specs.Edits.{are_of}
use Rattle.fs_image.specs.Owners.{Owners}
use Rattle.fs_image.specs.Stands.{Shows}
use Rattle.image_puts.specs.Only.{AreMapsOf, AreOwnersAfter, IsPutOf}
use Rattle.image_puts.specs.Puts.{IsPut, Put}
use Rattle.file_puts.specs.Files.{IsBitOf, IsFilePut}

-- puts are what edits make of the files that they are of: the record and the parts of each, and its bit; the maps and the owners
-- of blocks are those afterwards, and nothing is put into the records and blocks of other files
pub record AreEditPuts (now : Stamp) (t : PlainTree) (es : List Edit) (puts : List Put) (flat new : Flat) (o p : Owners) : Type 0 where
  pub put : IsPut t.geometry puts flat new
  pub only : AllByRecursion (IsPutOf es o) puts
  pub maps : AreMapsOf t.geometry es flat new p
  pub owners : AreOwnersAfter t.geometry es o p
  pub files : (m inode : ℕ) → m < t.geometry.memories → inode < t.geometry.inodes → are_of es (number_of m inode) ≡ true
      → IsFilePut t (edited now t es) puts flat (o.place (number_of m inode)) (p.place (number_of m inode)) m inode
  pub bits : (m inode : ℕ) → m < t.geometry.memories → inode < t.geometry.inodes → are_of es (number_of m inode) ≡ true
      → IsBitOf (edited now t es) new m inode

abbrev pub EditPutsAreShown : Type 0
EditPutsAreShown = (now : Stamp) (t : PlainTree) (es : List Edit) (puts : List Put) (flat new : Flat) (o p : Owners) → Shows flat t o
    → AreEditPuts now t es puts flat new o p → Shows new (edited now t es) p
