-- What images show of a file is what is read.
use Rattle.std.specs.Prelude.{◌≡◌, ℕ, Option, Some}
use Rattle.std.specs.FinMap as table
use Rattle.fs_layout.specs.declared.attrs.Attrs.{Attrs}
use Rattle.fs_layout.specs.declared.reference.Reference.{Reference}
use Rattle.fs_layout.specs.Inodes.{SpellsInode}
use Rattle.fs_layout.specs.Places.{number_of}
use Rattle.fs_rules.specs.declared.file.File.{File}
use Rattle.fs_rules.specs.declared.plain_tree.PlainTree.{PlainTree}
use Rattle.fs_rules.specs.Good.{IsGood}
use Rattle.mini_tx.specs.FlatMemory.{Flat}
use Rattle.fs_image.specs.Owners.{Part}
use Rattle.fs_image.specs.Places.{inode_bytes, block_bytes}
use Rattle.fs_image.specs.Stands.{ShowsFile}
use Rattle.fs_reader.specs.Files.{IsFileAt}
use Rattle.fs_reader.specs.Walk.{places}

-- the file of a record is this one, and its parts lie where the record and the blocks tell
pub record IsReadAsShown (flat : Flat) (t : PlainTree) (place : Part → Option Reference) (n : ℕ) (a : Attrs) (f : File) : Type 0 where
  pub file : IsFileAt (block_bytes t.geometry flat) n a f
  pub places_are : (x : Part) → place x ≡ places (block_bytes t.geometry flat) a.first x

-- a file of a good tree that is shown is the one of its record
abbrev pub ShownFilesAreRead : Type 0
ShownFilesAreRead = (flat : Flat) (t : PlainTree) (place : Part → Option Reference) (m inode : ℕ) (f : File) (a : Attrs) → IsGood t → table.get t.files (number_of m inode) ≡ Some f
    → ShowsFile flat t place m inode (Some f) → SpellsInode a (inode_bytes flat m inode) → IsReadAsShown flat t place (number_of m inode) a f
