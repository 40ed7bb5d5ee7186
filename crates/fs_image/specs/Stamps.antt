-- The stamp of a file: what a minitransaction compares to see that a file is as it was.
use Rattle.std.specs.Prelude.{◌≡◌, ℕ, ◌/◌, ◌%◌, ◌^◌, List, [], ◌∷◌}
use Rattle.fs_layout.specs.declared.attrs.Attrs.{Attrs}
use Rattle.fs_layout.specs.Inodes.{SpellsInode}
use Rattle.fs_layout.specs.Words.{spelled}
use Rattle.mini_tx.specs.FlatMemory.{bytes_at}

-- the generation, the blocks in use, and the change number with its high word first
abbrev pub stamp_words : Attrs → List ℕ
stamp_words a = a.generation ∷ a.used ∷ (a.change / 2 ^ 32) ∷ (a.change % 2 ^ 32) ∷ []

abbrev pub stamp : Attrs → List ℕ
stamp a = spelled (stamp_words a)

-- it is in the record: its bytes 24 to 39
abbrev pub StampIsInRecord : Type 0
StampIsInRecord = (a : Attrs) (bytes : List ℕ) → SpellsInode a bytes → bytes_at bytes 24 16 ≡ stamp a

-- records with one stamp have the same generation, blocks in use and change number
abbrev pub StampsTell : Type 0
StampsTell = (a b : Attrs) (bytes others : List ℕ) → SpellsInode a bytes → SpellsInode b others → stamp a ≡ stamp b
    → (a.generation ≡ b.generation) × (a.used ≡ b.used) × (a.change ≡ b.change)
