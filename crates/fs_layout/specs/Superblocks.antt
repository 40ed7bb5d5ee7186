-- The first page of an image.
use Rattle.std.specs.Prelude.{◌≡◌, ℕ, List, [], ◌∷◌, ◌++◌, replicate}
use Rattle.fs_layout.specs.declared.superblock.Superblock.{Superblock}
use Rattle.fs_layout.specs.Words.{AreWords, spelled}

-- the mark "SFSB", the version, the index of the memory node, and the numbers of memory nodes, blocks and inodes
unfoldable pub superblock_words : Superblock → List ℕ
superblock_words s = 0x53465342 ∷ 1 ∷ s.memory ∷ s.memories ∷ s.blocks ∷ s.inodes ∷ []

-- the bytes are the page that tells this: its words, and zeros up to the page's end
pub record SpellsSuperblock (s : Superblock) (bytes : List ℕ) : Type 0 where
  pub words : AreWords (superblock_words s)
  pub bytes_are : bytes ≡ spelled (superblock_words s) ++ replicate 4072 0
