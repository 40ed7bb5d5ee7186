-- Readers that go through bytes from left to right.
use Rattle.std.specs.Prelude.{◌≡◌, ℕ, ◌<◌, List, ◌++◌, slice_index, Result, Ok, Err}

-- every element is a byte
abbrev pub IsBytes : List ℕ → Type 0
IsBytes bytes = (i : ℕ) → slice_index bytes i < 256

-- a call of a reader gave what reading gives of the bytes that were left: the value, and then what follows
-- it is left; or the fault, and then all is left as it was
abbrev pub Gives : {X Y E : Type 0} → (X → Y) → Result X E → List ℕ → List ℕ → Result (Y × List ℕ) E → Type 0
Gives view (Ok x) before now read = read ≡ Ok (view x, now)
Gives view (Err e) before now read = (read ≡ Err e) × (now ≡ before)

-- the ? of the logic: the second step, where the first gave a value
infixl 10 ◌>>=◌
abbrev pub ◌>>=◌ : {X Y E : Type 0} → Result X E → (X → Result Y E) → Result Y E
Ok x >>= f = f x
Err e >>= f = Err e

-- a reading function takes the spellings from the front and nothing else: what it gives was spelled there,
-- and what is spelled is given again, whatever follows it
pub record IsExact {X E : Type 0} (read : List ℕ → Result (X × List ℕ) E) (Spells : X → List ℕ → Type 0) : Type 0 where
  pub found : (bytes : List ℕ) (x : X) (rest : List ℕ) → IsBytes bytes → read bytes ≡ Ok (x, rest)
      → (item : List ℕ) × Spells x item × (bytes ≡ item ++ rest)
  pub again : (x : X) (item rest : List ℕ) → Spells x item → read (item ++ rest) ≡ Ok (x, rest)
