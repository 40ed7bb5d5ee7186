-- The tree that images stand for.
use Rattle.std.proofs.Common.{◌≡◌, ℕ, ◌+◌, ◌<◌, List, [], Some, inl, inr, length, get_or, sym, ap, subst, ◌∙◌, arith}
use Rattle.std.specs.Prelude.{replicate}
use Rattle.std.proofs.lemmas.Bool.{cases_lt}
use Rattle.std.proofs.lemmas.Option.{slice_get-get_or}
use Rattle.fs_image.proofs.OwnerLemmas.{some_same}
use Rattle.fs_image.specs.Places.{layout_of}
use Rattle.fs_image.specs.Stands.{IsImage, Stands}
use Rattle.fs_layout.specs.Places.{image_size}
use Rattle.fs_reader.specs.Numbers.{AreImages, IsNoTree, IsTreeRead}
use Rattle.fs_reader.specs.Sizes.{AreSized}
use Rattle.fs_rules.specs.declared.geometry.Geometry.{Geometry}
use Rattle.fs_rules.specs.declared.plain_tree.PlainTree.{PlainTree}
use Rattle.fs_rules.specs.Geometry.{IsWithinLimits}
use Rattle.fs_rules.specs.Good.{IsGood}
use Rattle.mini_tx.specs.FlatMemory.{Flat, held_by}
use Rattle.sfs_check.specs.Fillings.{IsFilled}

-- what a memory node holds is the element of the list
pub held_is : (flat : Flat) (m : ℕ) (bytes : List ℕ) → bytes ≡ get_or flat m bytes → m < length flat → held_by flat m ≡ bytes
held_is flat m bytes is there = some_same (held_by flat m) bytes (sym (slice_get-get_or flat m [] there) ∙ slice_get-get_or flat m bytes there ∙ ap Some (sym is))

pub image_from : (g : Geometry) (flat : Flat) (m : ℕ) → length (held_by flat m) ≡ image_size (layout_of g) → IsFilled g m (held_by flat m) → IsImage g flat m
image_from g flat m sized filled =
    record { sized = sized; superblock = filled.0; no_block = filled.1.0.0; no_inode = filled.1.0.1; no_record = filled.1.1 }

pub filled_from : (g : Geometry) (flat : Flat) (m : ℕ) → IsImage g flat m → IsFilled g m (held_by flat m)
filled_from g flat m image = (image.superblock, ((image.no_block, image.no_inode), image.no_record))

pub are_sized : (g : Geometry) (flat : Flat) → IsWithinLimits g → length flat ≡ g.memories → AreImages g flat → AreSized g flat
are_sized g flat limits memories images = record { limits = limits; memories = memories; sized = λ m below. (images m below).sized }

-- a tree that is read and good is the one
pub stands : (g : Geometry) (flat : Flat) (t : PlainTree) → IsTreeRead g flat t → IsGood t → Stands flat t
stands g flat t read good = record { good = good; owners = read.owners; shows = read.shows }

-- where it is not good, there is none
pub not_good : (g : Geometry) (flat : Flat) (t : PlainTree) → IsTreeRead g flat t → (IsGood t → ⊥) → IsNoTree g flat
not_good g flat t read not_it u same stands_it = not_it (subst IsGood (read.only u same stands_it) stands_it.good)

-- where an image is none, there is none
pub no_images : (g : Geometry) (flat : Flat) → (AreImages g flat → ⊥) → IsNoTree g flat
no_images g flat not_images u same stands_it = not_images (subst (λ (h : Geometry). AreImages h flat) same stands_it.shows.images)

pub zeros_from : (xs ys : List ℕ) (n : ℕ) → xs ≡ ys → length xs ≡ n → xs ≡ replicate (length xs) 0 → ys ≡ replicate n 0
zeros_from xs ys n same sized zeros = sym same ∙ zeros ∙ ap (λ (k : ℕ). replicate k 0) sized

pub zeros_to : (xs ys : List ℕ) (n : ℕ) → xs ≡ ys → length xs ≡ n → ys ≡ replicate n 0 → xs ≡ replicate (length xs) 0
zeros_to xs ys n same sized zeros = same ∙ zeros ∙ ap (λ (k : ℕ). replicate k 0) (sym sized)

pub images_more : (g : Geometry) (flat : Flat) (k : ℕ) → ((m : ℕ) → m < k → IsImage g flat m) → IsImage g flat k → (m : ℕ) → m < k + 1 → IsImage g flat m
images_more g flat k before here m less = elim (cases_lt m k) [
  | inl below ↦ before m below
  | inr not_below ↦ let same : k ≡ m = omega (arith, less, not_below) in subst (λ (q : ℕ). IsImage g flat q) same here
]
