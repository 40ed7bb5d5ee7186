-- Values that are spelled as items one behind another: their grammar, and what reading them gives.
use Rattle.std.specs.Prelude.{◌≡◌, ◌<◌, ◌≤◌, ◌^◌, ℕ, zero, suc, Bool, nat_le, if◌then◌else◌, List, [], ◌∷◌, ◌++◌, length, Result, Ok, Err}
use Rattle.sfs_base.specs.Reading.{◌>>=◌}
use Rattle.sfs_xdr.specs.Items.{word, boolean, IsOpaque, IsOpaqueVar}
use Rattle.sfs_xdr.specs.Reading.{word_of, boolean_of, opaque_of, opaque_max_of}

-- ---- what reading gives

-- the value that the bytes begin with and what follows it, or that they begin with none
abbrev pub Reading : Type 0 → Type 0
Reading X = List ℕ → Result (X × List ℕ) (Unit {0})

-- a reader that tells one fault from another, where that does not matter
unfoldable pub plainly : {X E : Type 0} → Result X E → Result X (Unit {0})
plainly (Ok x) = Ok x
plainly (Err e) = Err tt

abbrev pub number_item : Reading ℕ
number_item bytes = plainly (word_of bytes)

abbrev pub boolean_item : Reading Bool
boolean_item bytes = plainly (boolean_of bytes)

-- so many bytes
abbrev pub fixed_item : ℕ → Reading (List ℕ)
fixed_item n bytes = plainly (opaque_of n bytes)

-- at most so many bytes, behind their length
abbrev pub text_item : ℕ → Reading (List ℕ)
text_item max bytes = plainly (opaque_max_of max bytes)

-- a value and another behind it
abbrev pub both_of : {X Y E : Type 0} → (List ℕ → Result (X × List ℕ) E) → (List ℕ → Result (Y × List ℕ) E) → List ℕ → Result ((X × Y) × List ℕ) E
both_of first second bytes = do
  x ← first bytes
  y ← second x.1
  Ok ((x.0, y.0), y.1)

-- a value that is made of another
abbrev pub made_of : {X Y : Type 0} → (X → Y) → Reading X → Reading Y
made_of make read bytes = do
  x ← read bytes
  Ok (make x.0, x.1)

-- a value that passes a test
abbrev pub tested_of : {X : Type 0} → (X → Bool) → Reading X → Reading X
tested_of test read bytes = do
  x ← read bytes
  if test x.0 then Ok x else Err tt

-- so many values one behind another
unfoldable pub many_of : {X : Type 0} → Reading X → ℕ → Reading (List X)
many_of read zero bytes = Ok ([], bytes)
many_of read (suc n) bytes = do
  x ← read bytes
  xs ← many_of read n x.1
  Ok (x.0 ∷ xs.0, xs.1)

-- at most so many values, behind their number
unfoldable pub counted_of : {X : Type 0} → ℕ → Reading X → Reading (List X)
counted_of max read bytes = do
  n ← number_item bytes
  if nat_le n.0 max then many_of read n.0 n.1 else Err tt

-- ---- the grammar

-- an item and another behind it
infixr 5 ◌⟫◌
pub record ◌⟫◌ (First Second : List ℕ → Type 0) (item : List ℕ) : Type 0 where
  pub front : List ℕ
  pub back : List ℕ
  pub first : First front
  pub second : Second back
  pub spelled : item ≡ front ++ back

abbrev pub IsNumber : ℕ → List ℕ → Type 0
IsNumber n item = (n < 2 ^ 32) × (item ≡ word n)

abbrev pub IsBoolean : Bool → List ℕ → Type 0
IsBoolean b item = item ≡ boolean b

-- so many bytes
abbrev pub IsFixed : ℕ → List ℕ → List ℕ → Type 0
IsFixed n bytes item = (length bytes ≡ n) × IsOpaque bytes item

-- at most so many bytes, behind their length
abbrev pub IsText : ℕ → List ℕ → List ℕ → Type 0
IsText max bytes item = (length bytes ≤ max) × IsOpaqueVar bytes item

-- values one behind another
abbrev pub Many : {X : Type 0} → (X → List ℕ → Type 0) → List X → List ℕ → Type 0
Many Spells [] item = item ≡ []
Many Spells (x ∷ xs) item = (Spells x ⟫ Many Spells xs) item

-- at most so many values, behind their number
abbrev pub IsCounted : {X : Type 0} → ℕ → (X → List ℕ → Type 0) → List X → List ℕ → Type 0
IsCounted max Spells xs item = (length xs ≤ max) × (IsNumber (length xs) ⟫ Many Spells xs) item
