-- References to blocks.
use Rattle.std.specs.Prelude.{ℕ, ◌+◌, ◌^◌, ◌<◌, List, [], ◌∷◌, Option, Some, None, IfSome}
use Rattle.fs_layout.specs.declared.reference.Reference.{Reference}

-- a block whose number, counted from 1, is a word
abbrev pub IsReference : Option Reference → Type 0
IsReference r = IfSome r (λ to. (to.memory < 2 ^ 32) × (to.block + 1 < 2 ^ 32))

-- the words of a reference: the memory node, and the block's number counted from 1; none is two zeros
abbrev pub reference_words : Option Reference → List ℕ
reference_words None = 0 ∷ 0 ∷ []
reference_words (Some to) = to.memory ∷ (to.block + 1) ∷ []
