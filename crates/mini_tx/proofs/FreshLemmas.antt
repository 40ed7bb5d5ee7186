-- The sizes of fresh images and of their pages.
use Rattle.std.proofs.Common.{◌≡◌, ◌≤◌, ◌+◌, ◌-◌, ◌*◌, ◌/◌, ℕ, zero, suc, List, ◌∷◌, ◌++◌, length, refl, sym, ap, ◌∙◌, arith}
use Rattle.std.proofs.lemmas.List.{length-append, length-replicate, replicate-append-replicate, append_assoc}
use Rattle.fs_layout.specs.Places.{image_size}
use Rattle.fs_layout.specs.Inodes.{inode_words}
use Rattle.fs_layout.specs.Superblocks.{superblock_words}
use Rattle.fs_layout.specs.Words.{spelled}
use Rattle.fs_layout.proofs.WordLemmas.{length-spelled}
use Rattle.fs_layout.proofs.RecordLemmas.{length-inode}
use Rattle.mini_tx.specs.declared.geometry.Geometry4.{Geometry4}
use Rattle.mini_tx.specs.FreshImages.{zeros, layout_of, superblock_of, root, first_page, second_page, record_bytes, fresh_records, fresh_image, FreshImagesHaveTheirSize}

length-zeros : (n : ℕ) → length (zeros n) ≡ n
length-zeros n = length-replicate {A = ℕ} n 0

pub length-first_page : (g : Geometry4) (index : ℕ) → length (first_page g index) ≡ 4096
unfolding first_page superblock_words
length-first_page g index =
    let words = superblock_words (superblock_of g index) in
    omega (arith, length-append (spelled words) (zeros 4072), length-spelled words, length-zeros 4072)

pub length-second_page : (index : ℕ) → length (second_page index) ≡ 4096
unfolding second_page
length-second_page zero =
    omega (arith, length-append (zeros 2048) (0x80 ∷ zeros 2047), length-zeros 2048, length-zeros 2047)
length-second_page (suc index) = length-zeros 4096

pub length-fresh_records : (inodes index : ℕ) → 1 ≤ inodes → length (fresh_records inodes index) ≡ record_bytes inodes
unfolding fresh_records
length-fresh_records inodes zero some =
    omega (arith, some, length-append (spelled (inode_words root)) (zeros (record_bytes inodes - 128)), length-inode root, length-zeros (record_bytes inodes - 128))
length-fresh_records inodes (suc index) some = length-zeros (record_bytes inodes)

pub length-fresh_image : FreshImagesHaveTheirSize
unfolding fresh_image
length-fresh_image g index some =
    let blocks : List ℕ = zeros (4096 * g.blocks) in
    let records = fresh_records g.inodes index in
    omega (
      arith,
      length-append (first_page g index) (second_page index ++ (records ++ blocks)),
      length-append (second_page index) (records ++ blocks),
      length-append records blocks,
      length-first_page g index,
      length-second_page index,
      length-fresh_records g.inodes index some,
      length-zeros (4096 * g.blocks),
    )

more_zeros : (m n : ℕ) → zeros m ++ zeros n ≡ zeros (m + n)
more_zeros m n = replicate-append-replicate m n 0

-- the image of memory node 0: its first two pages, the root's record, and zeros
pub fresh_image_first : (g : Geometry4) → 1 ≤ g.inodes
    → fresh_image g 0 ≡ first_page g 0 ++ (second_page 0 ++ (spelled (inode_words root) ++ zeros (image_size (layout_of g) - 8320)))
unfolding fresh_image fresh_records
fresh_image_first g some =
    let record_is : List ℕ = spelled (inode_words root) in
    let left = record_bytes g.inodes - 128 in
    let sum : left + 4096 * g.blocks ≡ image_size (layout_of g) - 8320 = omega (arith, some) in
    ap (λ (rest : List ℕ). first_page g 0 ++ (second_page 0 ++ rest))
    (append_assoc record_is (zeros left) (zeros (4096 * g.blocks)) ∙ ap (λ (rest : List ℕ). record_is ++ rest) (more_zeros left (4096 * g.blocks) ∙ ap zeros sum))

-- the image of any other memory node: its first page, and zeros
pub fresh_image_other : (g : Geometry4) (index : ℕ) → fresh_image g (suc index) ≡ first_page g (suc index) ++ zeros (image_size (layout_of g) - 4096)
unfolding fresh_image fresh_records second_page
fresh_image_other g index =
    let records = record_bytes g.inodes in
    let blocks = 4096 * g.blocks in
    let sum : 4096 + (records + blocks) ≡ image_size (layout_of g) - 4096 = omega arith in
    ap (λ (rest : List ℕ). first_page g (suc index) ++ rest)
    (ap (λ (rest : List ℕ). zeros 4096 ++ rest) (more_zeros records blocks) ∙ more_zeros 4096 (records + blocks) ∙ ap zeros sum)
