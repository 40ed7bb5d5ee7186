-- The bytes of an image, cell by cell, and what writes leave of them.
use Rattle.std.proofs.Common.{◌≡◌, ℕ, zero, suc, ◌+◌, ◌-◌, ◌<◌, ◌≤◌, nat_lt, false, cond, ◌&&◌, List, [], ◌∷◌, ◌++◌, map, take, drop, get_or, length, Option, Some, None, unwrap_or, inl, inr, refl, sym, ap, subst, ◌∙◌, arith}
use Rattle.std.specs.Prelude.{nat_le}
use Rattle.std.specs.List.{AllByRecursion}
use Rattle.std.proofs.lemmas.Bool.{cases_lt, lt-ltb, le-ltb, le-leb, lt-leb, and_from, and_left, and_right}
use Rattle.std.proofs.lemmas.List.{length-append, length-take, length-drop, drop_more, get_or_append_left, get_or-append_right, get_or-take, get_or-drop}
use Rattle.mini_tx.specs.declared.item.Item.{Item}
use Rattle.mini_tx.specs.declared.item.Item.TheVariants.{Compare, Read, Write}
use Rattle.mini_tx.specs.declared.placed_item.PlacedItem.{PlacedItem}
use Rattle.mini_tx.specs.declared.write_at.WriteAt.{WriteAt}
use Rattle.mini_tx.specs.FlatMemory.{with_bytes}
use Rattle.mini_tx.specs.Minitransactions.{place_of, bytes_of}
use Rattle.mem_rules.specs.Fit.{IsInside, IsWriteInside}
use Rattle.mem_rules.specs.Items.{written, write_before, writes_of}
use Rattle.tx_rules.specs.Mini.{In}
use Rattle.mem_laws.specs.Cells.{cells_from, byte_in, later, written_in}
use Rattle.mem_laws.proofs.CellLemmas.{in_from}
use Rattle.mem_laws.proofs.WantLemmas.{IsImage, AreWithin}

-- ---- cell by cell

pub map_alike : (f g : ℕ → ℕ) (xs : List ℕ) → ((a : ℕ) → In a xs → f a ≡ g a) → map f xs ≡ map g xs
map_alike f g [] same = refl
map_alike f g (x ∷ xs) same =
    let one : f x ≡ g x = same x (inl refl) in
    let rest = map_alike f g xs (λ a h. same a (inr h)) in
    ap (λ b. b ∷ map f xs) one ∙ ap (λ bs. g x ∷ bs) rest

pub bytes_of_cells : (bytes : List ℕ) → IsImage bytes (λ a. get_or bytes a 0)
bytes_of_cells bytes at zero fits = refl
bytes_of_cells bytes at (suc n) fits =
    ap (take (suc n)) (drop_more bytes at 0 (omega (arith, fits))) ∙ ap (λ bs. get_or bytes at 0 ∷ bs) (bytes_of_cells bytes (at + 1) n (omega (arith, fits)))

head_same : (a b : ℕ) → a ∷ [] ≡ b ∷ [] → a ≡ b
head_same a b e = cc

pub cell_is : (bytes : List ℕ) (image : ℕ → ℕ) → IsImage bytes image → (a : ℕ) → a < length bytes → image a ≡ get_or bytes a 0
cell_is bytes image is a below =
    head_same (image a) (get_or bytes a 0) (sym (is a 1 (omega (arith, below))) ∙ bytes_of_cells bytes a 1 (omega (arith, below)))

-- ---- one write

module _ (image : List ℕ) (w : WriteAt) (fits : w.at + length w.bytes ≤ length image) where
  parts : List ℕ
  parts = take w.at image ++ (w.bytes ++ drop (w.at + length w.bytes) image)

  pub length_with : length (with_bytes image w.at w.bytes) ≡ length image
  length_with =
      omega (
        arith,
        fits,
        length-append (take w.at image) (w.bytes ++ drop (w.at + length w.bytes) image),
        length-append w.bytes (drop (w.at + length w.bytes) image),
        length-take w.at image,
        length-drop (w.at + length w.bytes) image,
      )

  front_length : length (take w.at image) ≡ w.at
  front_length = omega (arith, fits, length-take w.at image)

  outside : (a : ℕ) → (nat_le w.at a && nat_lt a (w.at + length w.bytes)) ≡ false → unwrap_or (byte_in w a) (get_or image a 0) ≡ get_or image a 0
  outside a is = ap (λ b. unwrap_or (cond b (Some (get_or w.bytes (a - w.at) 0)) None) (get_or image a 0)) is

  pub byte_is : (a : ℕ) → get_or (with_bytes image w.at w.bytes) a 0 ≡ unwrap_or (byte_in w a) (get_or image a 0)
  byte_is a = elim (cases_lt a w.at) [
    | inl below ↦
        get_or_append_left (take w.at image) (w.bytes ++ drop (w.at + length w.bytes) image) 0 a (omega (arith, below, front_length))
        ∙ get_or-take w.at image a 0 below ∙ sym (outside a (and_left (nat_le w.at a) (nat_lt a (w.at + length w.bytes)) (lt-leb w.at a below)))
    | inr low ↦
        get_or-append_right (take w.at image) (w.bytes ++ drop (w.at + length w.bytes) image) w.at a 0 front_length low
        ∙ elim (cases_lt a (w.at + length w.bytes)) [
          | inl below ↦
              get_or_append_left w.bytes (drop (w.at + length w.bytes) image) 0 (a - w.at) (omega (arith, below, low))
              ∙ sym (ap (λ b. unwrap_or (cond b (Some (get_or w.bytes (a - w.at) 0)) None) (get_or image a 0))
              (and_from (nat_le w.at a) (nat_lt a (w.at + length w.bytes)) (le-leb w.at a low) (lt-ltb a (w.at + length w.bytes) below)))
          | inr high ↦
              let e : (w.at + length w.bytes) + ((a - w.at) - length w.bytes) ≡ a = omega (arith, high, low) in
              get_or-append_right w.bytes (drop (w.at + length w.bytes) image) (length w.bytes) (a - w.at) 0 refl (omega (arith, high, low))
              ∙ get_or-drop (w.at + length w.bytes) image ((a - w.at) - length w.bytes) 0 ∙ ap (λ i. get_or image i 0) e
              ∙ sym (outside a (and_right (nat_le w.at a) (nat_lt a (w.at + length w.bytes)) (le-ltb a (w.at + length w.bytes) high)))
        ]
  ]

-- ---- all writes

abbrev pub AreWritesWithin : ℕ → List WriteAt → Type 0
AreWritesWithin size writes = AllByRecursion (IsWriteInside size) writes

-- writes of a size are those of an equal one
pub same_size : (writes : List WriteAt) (a b : ℕ) → a ≡ b → AreWritesWithin a writes → AreWritesWithin b writes
same_size writes a b e = subst (λ size. AreWritesWithin size writes) e

pub length_written : (writes : List WriteAt) (image : List ℕ) → AreWritesWithin (length image) writes → length (written image writes) ≡ length image
length_written [] image within = refl
length_written (w ∷ writes) image within =
    let same = length_with image w within.0.1 in
    length_written writes (with_bytes image w.at w.bytes) (same_size writes (length image) (length (with_bytes image w.at w.bytes)) (sym same) within.1) ∙ same

last_counts : (last first : Option ℕ) (b : ℕ) → unwrap_or last (unwrap_or first b) ≡ unwrap_or (later first last) b
last_counts None first b = refl
last_counts (Some x) first b = refl

pub bytes_are : (writes : List WriteAt) (image : List ℕ) → AreWritesWithin (length image) writes → (a : ℕ)
    → get_or (written image writes) a 0 ≡ unwrap_or (written_in writes a) (get_or image a 0)
bytes_are [] image within a = refl
bytes_are (w ∷ writes) image within a =
    let same = length_with image w within.0.1 in
    bytes_are writes (with_bytes image w.at w.bytes) (same_size writes (length image) (length (with_bytes image w.at w.bytes)) (sym same) within.1) a
    ∙ ap (unwrap_or (written_in writes a)) (byte_is image w within.0.1 a) ∙ last_counts (written_in writes a) (byte_in w a) (get_or image a 0)

-- after writes the bytes are those of the cells with these writes
pub image_after : (writes : List WriteAt) (bytes : List ℕ) (image : ℕ → ℕ) → IsImage bytes image → AreWritesWithin (length bytes) writes
    → IsImage (written bytes writes) (λ a. unwrap_or (written_in writes a) (image a))
image_after writes bytes image is within at n fits =
    bytes_of_cells (written bytes writes) at n fits
    ∙ map_alike (λ a. get_or (written bytes writes) a 0) (λ a. unwrap_or (written_in writes a) (image a)) (cells_from at n)
    (λ a h. let r = in_from at n a h in
    bytes_are writes bytes within a
    ∙ ap (unwrap_or (written_in writes a)) (sym (cell_is bytes image is a (omega (arith, r, fits, length_written writes bytes within)))))

-- the write items of items that lie within an image
pub writes_within : (size : ℕ) (items : List PlacedItem) → AreWithin size items → AreWritesWithin size (writes_of items)
writes_within size [] within = tt
writes_within size (p ∷ items) within = go p.item (writes_within size items within.1) within.0
  where
    go : (it : Item) → AreWritesWithin size (writes_of items) → IsInside size (place_of it) (bytes_of it) → AreWritesWithin size (write_before it (writes_of items))
    go (Compare memory at bytes) rest inside = rest
    go (Read memory at n) rest inside = rest
    go (Write memory at bytes) rest inside = (inside, rest)
