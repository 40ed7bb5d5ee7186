-- What a minitransaction compares, reads and writes (Aguilera et al., "Sinfonia", SOSP 2007, section 3.1).
use Rattle.std.specs.Prelude.{◌≡◌, ◌+◌, ℕ, List, [], ◌∷◌, ◌≤◌, ◌<◌, length, take, drop, set, get_or, All, None}
use Rattle.std.specs.List.{splice}
use Rattle.mini_tx.specs.declared.item.Item.{Item}
use Rattle.mini_tx.specs.declared.item.Item.TheVariants as item
use Rattle.mini_tx.specs.Minitransactions.{memory_of, place_of, bytes_of, refusal}

-- the flat memory: what each memory node holds, in their order
abbrev pub Flat : Type 0
Flat = List (List ℕ)

-- what this memory node holds
abbrev pub held_by : Flat → ℕ → List ℕ
held_by flat memory = get_or flat memory []

-- so many bytes from a place on
abbrev pub bytes_at : List ℕ → ℕ → ℕ → List ℕ
bytes_at image at len = take len (drop at image)

-- the image with these bytes from a place on
abbrev pub with_bytes : List ℕ → ℕ → List ℕ → List ℕ
with_bytes image at bytes = splice image at (at + length bytes) bytes

-- the bytes of a compare item stand at its place; the others compare nothing
abbrev pub ItemMatches : Flat → Item → Type 0
ItemMatches flat (item.Compare memory at bytes) = bytes_at (held_by flat memory) at (length bytes) ≡ bytes
ItemMatches flat (item.Read memory at len) = Unit {0}
ItemMatches flat (item.Write memory at bytes) = Unit {0}

-- each compare item's bytes stand at its place
abbrev pub Matches : List Item → Flat → Type 0
Matches items flat = All (ItemMatches flat) items

-- the bytes of the read items, in their order
abbrev pub reads : List Item → Flat → List (List ℕ)
reads [] flat = []
reads (item.Compare memory at bytes ∷ items) flat = reads items flat
reads (item.Read memory at len ∷ items) flat = bytes_at (held_by flat memory) at len ∷ reads items flat
reads (item.Write memory at bytes ∷ items) flat = reads items flat

-- the flat memory with the write items in place
abbrev pub after : List Item → Flat → Flat
after [] flat = flat
after (item.Compare memory at bytes ∷ items) flat = after items flat
after (item.Read memory at len ∷ items) flat = after items flat
after (item.Write memory at bytes ∷ items) flat = after items (set flat memory (with_bytes (held_by flat memory) at bytes))

-- an item lies within what its memory node holds
pub record IsWithin (flat : Flat) (i : Item) : Type 0 where
  pub there : memory_of i < length flat
  pub ends : place_of i + bytes_of i ≤ length (held_by flat (memory_of i))

-- what is refused by nothing over so many memory nodes of one size lies within them
abbrev pub ValidItemsLieWithin : Type 0
ValidItemsLieWithin = (items : List Item) (flat : Flat) (size : ℕ) → refusal items (length flat) size ≡ None → All (λ image. length image ≡ size) flat → All (IsWithin flat) items
