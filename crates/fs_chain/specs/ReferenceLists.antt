-- References, one behind the other.
use Rattle.std.specs.Prelude.{◌≡◌, ℕ, zero, suc, List, [], ◌∷◌, length, Option, Some, None}
use Rattle.std.specs.List.{flat_map}
use Rattle.std.specs.Int.{w32, from_be_bytes}
use Rattle.fs_layout.specs.declared.reference.Reference.{Reference}
use Rattle.fs_layout.specs.Words.{AreWords, spelled}
use Rattle.fs_layout.specs.References.{reference_words}

-- the words of references
unfoldable pub references_words : List (Option Reference) → List ℕ
references_words references = flat_map reference_words references

-- the bytes are these references, as many as a chaining block has
pub record SpellReferences (references : List (Option Reference)) (bytes : List ℕ) : Type 0 where
  pub sized : length references ≡ 510
  pub words : AreWords (references_words references)
  pub bytes_are : bytes ≡ spelled (references_words references)

-- the bytes are some reference, or none
pub record IsSpelledReference (bytes : List ℕ) : Type 0 where
  pub reference : Option Reference
  pub words : AreWords (reference_words reference)
  pub bytes_are : bytes ≡ spelled (reference_words reference)

-- the reference, or none, with these words: the memory node, and the block's number counted from 1
abbrev pub reference_in : ℕ → ℕ → Option Reference
reference_in memory zero = None
reference_in memory (suc block) = Some (record { memory = memory; block = block })

-- the references in bytes, of eight bytes each: what contracts see of the bytes that a chaining block keeps
unfoldable pub references_in : List ℕ → List (Option Reference)
references_in (a ∷ b ∷ c ∷ d ∷ e ∷ f ∷ g ∷ h ∷ bytes) =
    reference_in (from_be_bytes w32 (a ∷ b ∷ c ∷ d ∷ [])) (from_be_bytes w32 (e ∷ f ∷ g ∷ h ∷ [])) ∷ references_in bytes
references_in bytes = []
