-- The regions of an image share no byte, and what a write leaves.
use Rattle.std.proofs.Common.{◌≡◌, ◌≤◌, ℕ, ◌+◌, ◌-◌, List, [], inl, inr, refl, sym, ap, ◌∙◌, arith}
use Rattle.std.specs.Prelude.{◌++◌, length, take, drop}
use Rattle.std.proofs.lemmas.Bool.{cases_order}
use Rattle.std.proofs.lemmas.List.{take-append-drop, length-append, length-take, length-drop, length-set, get_or-set_same, get_or-set_other}
use Rattle.mini_tx.specs.FlatMemory.{held_by, bytes_at, with_bytes}
use Rattle.fs_image.specs.Regions.{FirstPage, BlockMap, InodeMap, Record, Block, AreApart, RegionsAreApart, RegionsAreInside, NumbersAreApart, WritesStayApart}
use Rattle.fs_image.proofs.ByteLemmas.{bytes_past, bytes_within, bytes_whole}
use Rattle.fs_image.proofs.ContentLemmas.{drop_sum}

-- ---- regions

pub regions_are_apart : RegionsAreApart
regions_are_apart l FirstPage FirstPage ir is apart = absurd (apart refl)
regions_are_apart l FirstPage BlockMap ir is apart = inl (omega arith)
regions_are_apart l FirstPage InodeMap ir is apart = inl (omega arith)
regions_are_apart l FirstPage (Record i) ir is apart = inl (omega arith)
regions_are_apart l FirstPage (Block b) ir is apart = inl (omega arith)
regions_are_apart l BlockMap FirstPage ir is apart = inr (omega arith)
regions_are_apart l BlockMap BlockMap ir is apart = absurd (apart refl)
regions_are_apart l BlockMap InodeMap ir is apart = inl (omega arith)
regions_are_apart l BlockMap (Record i) ir is apart = inl (omega arith)
regions_are_apart l BlockMap (Block b) ir is apart = inl (omega arith)
regions_are_apart l InodeMap FirstPage ir is apart = inr (omega arith)
regions_are_apart l InodeMap BlockMap ir is apart = inr (omega arith)
regions_are_apart l InodeMap InodeMap ir is apart = absurd (apart refl)
regions_are_apart l InodeMap (Record i) ir is apart = inl (omega arith)
regions_are_apart l InodeMap (Block b) ir is apart = inl (omega arith)
regions_are_apart l (Record i) FirstPage ir is apart = inr (omega arith)
regions_are_apart l (Record i) BlockMap ir is apart = inr (omega arith)
regions_are_apart l (Record i) InodeMap ir is apart = inr (omega arith)
regions_are_apart l (Record i) (Record j) ir is apart = elim (cases_order i j) [
  | inl same ↦ absurd (apart (ap Record same))
  | inr rest ↦ elim rest [ inl less ↦ inl (omega (arith, less)) | inr more ↦ inr (omega (arith, more)) ]
]
regions_are_apart l (Record i) (Block b) ir is apart = inl (omega (arith, ir))
regions_are_apart l (Block b) FirstPage ir is apart = inr (omega arith)
regions_are_apart l (Block b) BlockMap ir is apart = inr (omega arith)
regions_are_apart l (Block b) InodeMap ir is apart = inr (omega arith)
regions_are_apart l (Block b) (Record i) ir is apart = inr (omega (arith, is))
regions_are_apart l (Block b) (Block c) ir is apart = elim (cases_order b c) [
  | inl same ↦ absurd (apart (ap Block same))
  | inr rest ↦ elim rest [ inl less ↦ inl (omega (arith, less)) | inr more ↦ inr (omega (arith, more)) ]
]

pub regions_are_inside : RegionsAreInside
regions_are_inside l FirstPage ir = omega arith
regions_are_inside l BlockMap ir = omega arith
regions_are_inside l InodeMap ir = omega arith
regions_are_inside l (Record i) ir = omega (arith, ir)
regions_are_inside l (Block b) ir = omega (arith, ir)

pub numbers_are_apart : NumbersAreApart
numbers_are_apart m inode other index within below same = (omega (arith, within, below, same), omega (arith, within, below, same))

-- ---- writes

module _ (image : List ℕ) (at : ℕ) (bytes : List ℕ) (within : at + length bytes ≤ length image) where
  front : length (take at image) ≡ at
  front = omega (arith, length-take at image, within)

  put_here : bytes_at (with_bytes image at bytes) at (length bytes) ≡ bytes
  put_here =
      bytes_past (take at image) (bytes ++ drop (at + length bytes) image) at 0 (length bytes) (omega (arith, front))
      ∙ bytes_within bytes (drop (at + length bytes) image) 0 (length bytes) (omega arith) ∙ bytes_whole bytes (length bytes) refl

  put_apart : (from n : ℕ) → AreApart at (length bytes) from n → bytes_at (with_bytes image at bytes) from n ≡ bytes_at image from n
  put_apart from n (inl behind) =
      let rest = from - at - length bytes in
      let sum : at + length bytes + rest ≡ from = omega (arith, behind) in
      bytes_past (take at image) (bytes ++ drop (at + length bytes) image) from (from - at) n (omega (arith, front, behind))
      ∙ bytes_past bytes (drop (at + length bytes) image) (from - at) rest n (omega (arith, behind))
      ∙ ap (take n) (sym (drop_sum (at + length bytes) rest image) ∙ ap (λ k. drop k image) sum)
  put_apart from n (inr before) =
      bytes_within (take at image) (bytes ++ drop (at + length bytes) image) from n (omega (arith, front, before))
      ∙ sym (bytes_within (take at image) (drop at image) from n (omega (arith, front, before)))
      ∙ ap (λ (xs : List ℕ). bytes_at xs from n) (take-append-drop at image)

  put_sized : length (with_bytes image at bytes) ≡ length image
  put_sized =
      omega (arith, within, front, length-append (take at image) (bytes ++ drop (at + length bytes) image), length-append bytes (drop (at + length bytes) image), length-drop (at + length bytes) image)

pub writes_stay_apart : WritesStayApart
writes_stay_apart flat m at bytes there within =
    let image = held_by flat m in
    let now = get_or-set_same flat m (with_bytes image at bytes) [] there in
    record {
      here = ap (λ (xs : List ℕ). bytes_at xs at (length bytes)) now ∙ put_here image at bytes within;
      apart = λ from n separate. ap (λ (xs : List ℕ). bytes_at xs from n) now ∙ put_apart image at bytes within from n separate;
      others = λ k other. get_or-set_other flat m k (with_bytes image at bytes) [] other;
      sized = ap length now ∙ put_sized image at bytes within;
      memories = length-set flat m (with_bytes image at bytes);
    }
