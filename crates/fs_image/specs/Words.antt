-- What a tree's numbers are spelled as (docs/FORMATS.md, "Images").
use Rattle.std.specs.Prelude.{ℕ, Option}
use Rattle.std.specs.FinMap as table
use Rattle.fs_laws.specs.Words.{IsInWords}
use Rattle.fs_layout.specs.declared.reference.Reference.{Reference}
use Rattle.fs_layout.specs.Inodes.{SpellsInode, inode_words}
use Rattle.fs_layout.specs.References.{IsReference}
use Rattle.fs_layout.specs.Words.{spelled}
use Rattle.fs_rules.specs.declared.plain_tree.PlainTree.{PlainTree}
use Rattle.fs_rules.specs.Good.{IsGood}
use Rattle.fs_rules.specs.Numbers.{kept_at}
use Rattle.fs_image.specs.Parts.{inode_of}

-- each record of a good tree within its words has bytes, wherever its first chaining block lies
abbrev pub RecordsHaveBytes : Type 0
RecordsHaveBytes = (t : PlainTree) (n : ℕ) (first : Option Reference) → IsGood t → IsInWords t → IsReference first
    → SpellsInode (inode_of (table.get t.files n) (kept_at t n) first) (spelled (inode_words (inode_of (table.get t.files n) (kept_at t n) first)))
