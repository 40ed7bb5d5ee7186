-- Where the parts of a file lie once it took blocks.
use Rattle.std.specs.Prelude.{◌≡◌, ℕ, false, if◌then◌else◌, List, [], ◌∷◌, slice_get, Option, Some}
use Rattle.std.specs.List.{list_any}
use Rattle.fs_layout.specs.declared.reference.Reference.{Reference}
use Rattle.fs_image.specs.Owners.{Owners, Part, is_same_part}
use Rattle.image_puts.specs.Takes.{owners_after}
use Rattle.take_laws.specs.Takes.{AreParts, keep_all, takes_of}

-- the parts lie where they lay, and these in these blocks
unfoldable pub placed : List Part → List Reference → (Part → Option Reference) → Part → Option Reference
placed [] rs w = w
placed (x ∷ xs) [] w = w
placed (x ∷ xs) (r ∷ rs) w = placed xs rs (λ y. if is_same_part y x then Some r else w y)

pub record ArePlaced (parts : List Part) (rs : List Reference) (w : Part → Option Reference) : Type 0 where
  pub others : (x : Part) → list_any (is_same_part x) parts ≡ false → placed parts rs w x ≡ w x
  pub taken : AreParts parts → (i : ℕ) (x : Part) (r : Reference) → slice_get parts i ≡ Some x → slice_get rs i ≡ Some r → placed parts rs w x ≡ Some r

-- that is where the owners have them; each part that was taken lies in its block, and every other one where it lay
abbrev pub PartsArePlaced : Type 0
PartsArePlaced = (o : Owners) (n : ℕ) (parts : List Part) (rs : List Reference)
    → ((x : Part) → (owners_after keep_all (takes_of n parts rs) o).place n x ≡ placed parts rs (o.place n) x) × ArePlaced parts rs (o.place n)
