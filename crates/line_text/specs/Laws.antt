-- What holds of every line of a transcript.
use Rattle.std.specs.Prelude.{◌≡◌, ℕ, ◌≤◌, ◌↔◌, List, length, Contains, Some}
use Rattle.line_text.specs.Grammar.{HasLineSpelling, spelling_of_line}
use Rattle.line_text.specs.Reading.{line_of}
use Rattle.line_text.specs.declared.line.Line.{Line}
use Rattle.line_words.specs.declared.limits.TheConstants.{MAX_LINE_BYTES}

-- reading takes exactly the spellings of lines, each for its line
abbrev pub LinesAreReadExactly : Type 0
LinesAreReadExactly = (text : List ℕ) (l : Line)
    → (line_of text ≡ Some l) ↔ (HasLineSpelling l × (text ≡ spelling_of_line l))

-- lines of the same spelling are equal
abbrev pub LinesHaveTheirOwnSpellings : Type 0
LinesHaveTheirOwnSpellings = (a b : Line) → HasLineSpelling a → HasLineSpelling b
    → spelling_of_line a ≡ spelling_of_line b → a ≡ b

-- the spelling of a line has no newline, and it is not too long
abbrev pub LinesAreLines : Type 0
LinesAreLines = (l : Line) → HasLineSpelling l
    → (¬ Contains (spelling_of_line l) 10) × (length (spelling_of_line l) ≤ MAX_LINE_BYTES)
