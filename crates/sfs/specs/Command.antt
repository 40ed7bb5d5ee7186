-- What the words of a command line ask for.
use Rattle.std.specs.Prelude.{ℕ, nat_le, if◌then◌else◌, List, [], ◌∷◌, codes, Option, Some, None}
use Rattle.std.specs.Str.{bytes_eq}
use Rattle.line_words.specs.Words.{number_of}
use Rattle.line_words.specs.Reading.{◌>>=◌, number_at, at_end}
use Rattle.sfs.specs.declared.command.Command.{Command}
use Rattle.sfs.specs.declared.command.Command.TheVariants.{Replay, Tree, Check, Make}
use Rattle.sfs.specs.declared.command.TheConstants.{MAX_ARRIVALS}

-- a schedule of so many arrivals, where there are not too many
abbrev pub few : ℕ → ℕ → Option Command
few seed count = if nat_le count MAX_ARRIVALS then Some (Make seed count) else None

-- the schedule of this number, with so many arrivals, where both are numbers
abbrev pub made_of : Option ℕ → Option ℕ → Option Command
made_of None count = None
made_of (Some seed) None = None
made_of (Some seed) (Some count) = few seed count

-- the command of one word
abbrev pub asked_alone : List ℕ → Option Command
asked_alone name =
    if bytes_eq name (codes "replay") then Some Replay else if bytes_eq name (codes "tree") then Some Tree else if bytes_eq name (codes "check") then Some Check else None

-- the command that the words are, by the bytes of each: `replay`, `tree`, `check`, or `make` with a number below 2 ^ 64 and a number of
-- arrivals
abbrev pub asked : List (List ℕ) → Option Command
asked [] = None
asked (name ∷ []) = asked_alone name
asked (name ∷ seed ∷ []) = None
asked (name ∷ seed ∷ count ∷ []) = if bytes_eq name (codes "make") then made_of (number_of 64 seed) (number_of 32 count) else None
asked (name ∷ seed ∷ count ∷ more ∷ rest) = None

-- the number below 2 ^ bits that all of some words are
unfoldable pub only_number : ℕ → List (List ℕ) → Option ℕ
only_number bits words = number_at bits words >>= λ r. at_end r.0 r.1
