-- Reading words one by one from the left.
use Rattle.std.specs.Prelude.{◌≡◌, ℕ, ◌==◌, if◌then◌else◌, true, false, Bool, List, [], ◌∷◌, length, codes, Option, Some, None, IsSome, Result, Ok, Err}
use Rattle.std.specs.Option.{option_map}
use Rattle.std.specs.Str.{bytes_eq}
use Rattle.line_words.specs.Words.{number_of, bytes_of}
use Rattle.line_words.specs.declared.line_fault.LineFault.{LineFault}
use Rattle.line_words.specs.declared.line_fault.LineFault.TheVariants.{Bad, NoMemory}

-- the second step, where the first gave a value
infixl 10 ◌>>=◌
abbrev pub ◌>>=◌ : {A B : Type 0} → Option A → (A → Option B) → Option B
Some x >>= f = f x
None >>= f = None

-- the first word, and the words after it
abbrev pub word_at : List (List ℕ) → Option (List ℕ × List (List ℕ))
word_at [] = None
word_at (word ∷ rest) = Some (word, rest)

-- the number below 2 ^ bits that the first word spells, and the words after it
abbrev pub number_at : ℕ → List (List ℕ) → Option (ℕ × List (List ℕ))
number_at bits [] = None
number_at bits (word ∷ rest) = option_map (λ n. (n, rest)) (number_of bits word)

-- the words after the first, where that is this one
abbrev pub after_word : List ℕ → List (List ℕ) → Option (List (List ℕ))
after_word name [] = None
after_word name (word ∷ rest) = if bytes_eq word name then Some rest else None

-- the bytes that the last word spells
abbrev pub last_bytes : List (List ℕ) → Option (List ℕ)
last_bytes [] = None
last_bytes (word ∷ []) = bytes_of word
last_bytes (word ∷ next ∷ rest) = None

-- this value, where no word is left
abbrev pub at_end : {X : Type 0} → X → List (List ℕ) → Option X
at_end x [] = Some x
at_end x (word ∷ rest) = None

-- what follows the first step where it gave a value, and another reading where it gave none
abbrev pub either : {A B : Type 0} → Option A → (A → Option B) → Option B → Option B
either (Some x) f other = f x
either None f other = other

-- the one byte of a list
abbrev pub only_byte : List ℕ → Option ℕ
only_byte [] = None
only_byte (b ∷ []) = Some b
only_byte (b ∷ next ∷ rest) = None

-- the byte that a word of two digits spells
abbrev pub byte_of : List ℕ → Option ℕ
byte_of word = bytes_of word >>= only_byte

-- the byte that the last word spells
abbrev pub last_byte : List (List ℕ) → Option ℕ
last_byte [] = None
last_byte (word ∷ []) = byte_of word
last_byte (word ∷ next ∷ rest) = None

-- the same of a reader that takes no memory
abbrev pub AnswersBad : {X : Type 0} → Result X LineFault → Option X → Type 0
AnswersBad (Ok x) read = read ≡ Some x
AnswersBad (Err fault) read = (fault ≡ Bad) × (read ≡ None)

-- the first word was this one, and the words behind it are left; or it was not, and all are
abbrev pub Skips : List ℕ → List (List ℕ) → List (List ℕ) → Bool → Type 0
Skips name old new true = after_word name old ≡ Some new
Skips name old new false = (after_word name old ≡ None) × (new ≡ old)

-- a reader of words gave what reading gives of the words that were left, and the words after it are left
abbrev pub Gives : {X Y : Type 0} → (X → Y) → Result X LineFault → List (List ℕ) → Option (Y × List (List ℕ)) → Type 0
Gives view (Ok x) now read = read ≡ Some (view x, now)
Gives view (Err fault) now read = (fault ≡ Bad) × (read ≡ None)

-- the answer is what was read: it is Bad where nothing was, and there was no memory only for something
abbrev pub Answers : {X : Type 0} → Result X LineFault → Option X → Type 0
Answers (Ok x) read = read ≡ Some x
Answers (Err Bad) read = read ≡ None
Answers (Err NoMemory) read = IsSome read
