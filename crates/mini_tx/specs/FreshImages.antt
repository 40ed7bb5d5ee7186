-- The images of a cluster that was just formatted (docs/FORMATS.md, "Images"): page for page, so that what is not zero
-- is named beside the zeros around it.
use Rattle.std.specs.Prelude.{◌≡◌, ◌≤◌, ◌+◌, ◌-◌, ◌*◌, ◌/◌, ℕ, zero, suc, List, ◌∷◌, ◌++◌, length, map, replicate, None}
use Rattle.std.specs.List.{range_with_len}
use Rattle.fs_layout.specs.declared.attrs.Attrs.{Attrs}
use Rattle.fs_layout.specs.declared.layout.Layout.{Layout}
use Rattle.fs_layout.specs.declared.superblock.Superblock.{Superblock}
use Rattle.fs_layout.specs.Inodes.{inode_words}
use Rattle.fs_layout.specs.Places.{image_size}
use Rattle.fs_layout.specs.Superblocks.{superblock_words}
use Rattle.fs_layout.specs.Words.{spelled}
use Rattle.mini_tx.specs.declared.geometry.Geometry4.{Geometry4}
use Rattle.mini_tx.specs.declared.images.Images.{Images}

abbrev pub zeros : ℕ → List ℕ
zeros n = replicate n 0

-- the size of each image
abbrev pub layout_of : Geometry4 → Layout
layout_of g = record { blocks = g.blocks; inodes = g.inodes }

-- what the first page of memory node `index` tells
abbrev pub superblock_of : Geometry4 → ℕ → Superblock
superblock_of g index = record { memory = index; memories = g.memories; blocks = g.blocks; inodes = g.inodes }

-- the record of the root: a directory of mode 0777 with nothing in it, file 1, which is its own parent
abbrev pub root : Attrs
root =
    record {
      kind = 2;
      mode = 0x1ff;
      links = 2;
      uid = 0;
      gid = 0;
      size = 0;
      generation = 1;
      used = 0;
      change = 1;
      atime_sec = 0;
      atime_usec = 0;
      mtime_sec = 0;
      mtime_usec = 0;
      ctime_sec = 0;
      ctime_usec = 0;
      first = None;
      chains = 0;
      parent = 1;
      names = 0;
    }

-- the first page: the superblock, and zeros
unfoldable pub first_page : Geometry4 → ℕ → List ℕ
first_page g index = spelled (superblock_words (superblock_of g index)) ++ zeros 4072

-- the second page: no block is used, and no inode but the root's, which is the first of memory node 0
unfoldable pub second_page : ℕ → List ℕ
second_page zero = zeros 2048 ++ (0x80 ∷ zeros 2047)
second_page (suc index) = zeros 4096

-- the bytes of the pages of so many inode records
abbrev pub record_bytes : ℕ → ℕ
record_bytes inodes = 4096 * ((inodes + 31) / 32)

-- the inode records: all free and never used but the root's
unfoldable pub fresh_records : ℕ → ℕ → List ℕ
fresh_records inodes zero = spelled (inode_words root) ++ zeros (record_bytes inodes - 128)
fresh_records inodes (suc index) = zeros (record_bytes inodes)

-- the image of memory node `index`: its pages, and blocks of zeros
unfoldable pub fresh_image : Geometry4 → ℕ → List ℕ
fresh_image g index = first_page g index ++ (second_page index ++ (fresh_records g.inodes index ++ zeros (4096 * g.blocks)))

-- the images of all memory nodes
unfoldable pub fresh_images : Geometry4 → Images
fresh_images g = record { blocks = g.blocks; inodes = g.inodes; parts = map (fresh_image g) (range_with_len 0 g.memories) }

-- where there is an inode, they have the size of an image
abbrev pub FreshImagesHaveTheirSize : Type 0
FreshImagesHaveTheirSize = (g : Geometry4) (index : ℕ) → 1 ≤ g.inodes → length (fresh_image g index) ≡ image_size (layout_of g)
