-- The bytes of a fresh image, in the order in which they are written.
use Rattle.std.proofs.Common.{◌≡◌, ◌≤◌, ◌-◌, ℕ, zero, suc, List, [], ◌∷◌, ◌++◌, sym, ap, ◌∙◌, append_assoc, arith}
use Rattle.fs_layout.specs.Inodes.{inode_words}
use Rattle.fs_layout.specs.Words.{spelled}
use Rattle.fs_layout.specs.Places.{image_size}
use Rattle.mini_tx.specs.declared.geometry.Geometry4.{Geometry4}
use Rattle.mini_tx.specs.FreshImages.{zeros, layout_of, root, first_page, second_page, fresh_image}
use Rattle.mini_tx.proofs.FreshLemmas.{fresh_image_first, fresh_image_other}

pub first_is : (g : Geometry4) (index n : ℕ) (page record_ : List ℕ) → index ≡ 0 → 1 ≤ g.inodes → page ≡ first_page g index → record_ ≡ spelled (inode_words root)
    → n ≡ image_size (layout_of g) - 8320
    → ((((page ++ zeros 2048) ++ 0x80 ∷ []) ++ zeros 2047) ++ record_) ++ zeros n ≡ fresh_image g index
unfolding second_page
first_is g zero n page record_ is some page-is record-is n-is =
    let back = append_assoc (((page ++ zeros 2048) ++ 0x80 ∷ []) ++ zeros 2047) record_ (zeros n) in
    let bits = append_assoc ((page ++ zeros 2048) ++ 0x80 ∷ []) (zeros 2047) (record_ ++ zeros n) in
    let mark = append_assoc (page ++ zeros 2048) (0x80 ∷ []) (zeros 2047 ++ (record_ ++ zeros n)) in
    let front = append_assoc page (zeros 2048) (0x80 ∷ (zeros 2047 ++ (record_ ++ zeros n))) in
    let second : zeros 2048 ++ (0x80 ∷ (zeros 2047 ++ (record_ ++ zeros n))) ≡ second_page 0 ++ (record_ ++ zeros n) =
    sym (append_assoc (zeros 2048) (0x80 ∷ zeros 2047) (record_ ++ zeros n)) in
    back ∙ (bits ∙ (mark ∙ (front ∙ (ap (λ (rest : List ℕ). page ++ rest) second
    ∙ (ap (λ (p : List ℕ). p ++ (second_page 0 ++ (record_ ++ zeros n))) page-is
    ∙ (ap (λ (r : List ℕ). first_page g 0 ++ (second_page 0 ++ (r ++ zeros n))) record-is
    ∙ (ap (λ (k : ℕ). first_page g 0 ++ (second_page 0 ++ (spelled (inode_words root) ++ zeros k))) n-is
    ∙ sym (fresh_image_first g some))))))))
first_is g (suc index) n page record_ is some page-is record-is n-is = absurd (omega arith)

pub other_is : (g : Geometry4) (index n : ℕ) (page : List ℕ) → 1 ≤ index → page ≡ first_page g index → n ≡ image_size (layout_of g) - 4096
    → page ++ zeros n ≡ fresh_image g index
other_is g zero n page some page-is n-is = absurd (omega arith)
other_is g (suc index) n page some page-is n-is =
    ap (λ (p : List ℕ). p ++ zeros n) page-is ∙ ap (λ (k : ℕ). first_page g (suc index) ++ zeros k) n-is ∙ sym (fresh_image_other g index)
