-- What reading from a source gives.
use Rattle.std.specs.Prelude.{◌≡◌, ℕ, ◌<◌, Bool, true, false, List, [], ◌∷◌, length, Option, Some, None, Result, Ok, Err}
use Rattle.sfs_base.specs.declared.failed.Failed.{Failed}
use Rattle.fs_rules.specs.declared.geometry.Geometry.{Geometry}
use Rattle.schedule_text.specs.Stream.{Takes, IsAtEnd}
use Rattle.tree_command.specs.Input.{IsSplit, IsTooLong, AreParts, all_sizes, joined}

-- where what is left is told, it has this property
abbrev pub OfText : Option (List ℕ) → (List ℕ → Type 0) → Type 0
OfText left P = (text : List ℕ) → left ≡ Some text → P text

-- one byte, or the end
abbrev pub ReadsByte : Option (List ℕ) → Option (List ℕ) → Result (Option ℕ) Failed → Type 0
ReadsByte before now (Ok None) = IsAtEnd before × Takes before now []
ReadsByte before now (Ok (Some b)) = Takes before now (b ∷ [])
ReadsByte before now (Err e) = Unit {0}

-- the first line, behind whose end the rest is left
pub record IsHead (now : Option (List ℕ)) (line text : List ℕ) : Type 0 where
  pub behind : List ℕ
  pub left : now ≡ Some behind
  pub split : IsSplit text line behind

abbrev pub ReadsHead : Option (List ℕ) → Option (List ℕ) → Option (List ℕ) → Type 0
ReadsHead before now (Some line) = OfText before (IsHead now line)
ReadsHead before now None = OfText before IsTooLong

-- as many bytes as there were
abbrev pub Fills : Option (List ℕ) → Option (List ℕ) → List ℕ → List ℕ → Bool → Type 0
Fills before now old new true = (length new ≡ length old) × Takes before now new
Fills before now old new false = OfText before (λ text. length text < length old)

-- so many bytes
abbrev pub ReadsImage : Option (List ℕ) → Option (List ℕ) → ℕ → Option (List ℕ) → Type 0
ReadsImage before now size (Some image) = (length image ≡ size) × Takes before now image
ReadsImage before now size None = OfText before (λ text. length text < size)

-- the images of a cluster
abbrev pub ReadsParts : Option (List ℕ) → Option (List ℕ) → Geometry → Option (List (List ℕ)) → Type 0
ReadsParts before now g (Some parts) = AreParts g parts × Takes before now (joined parts)
ReadsParts before now g None = OfText before (λ text. length text < all_sizes g)
