-- The first compare item that differs, and what is read.
use Rattle.std.proofs.Common.{◌≡◌, ℕ, ◌+◌, ◌≤◌, ◌==◌, Bool, true, false, not, cond, ◌&&◌, List, [], ◌∷◌, ◌++◌, map, length, Option, Some, refl, sym, ap, ◌∙◌}
use Rattle.std.specs.Prelude.{option_map}
use Rattle.std.specs.List.{AllByRecursion}
use Rattle.mini_tx.specs.declared.item.Item.{Item}
use Rattle.mini_tx.specs.declared.item.Item.TheVariants.{Compare, Read, Write}
use Rattle.mini_tx.specs.declared.placed_item.PlacedItem.{PlacedItem}
use Rattle.mini_tx.specs.FlatMemory.{bytes_at}
use Rattle.mini_tx.specs.Minitransactions.{place_of, bytes_of}
use Rattle.mem_rules.specs.declared.difference.Difference.{Difference}
use Rattle.mem_rules.specs.Fit.{IsInside}
use Rattle.mem_rules.specs.Items.{are_same, differs, first_difference, reads_of}
use Rattle.mem_rules.specs.Items as node
use Rattle.tx_rules.specs.Mini.{Want}
use Rattle.tx_actors.specs.Node.{first_mismatch}
use Rattle.mem_laws.specs.Cells.{cells_from, wants_from, wants_before, wants_of, read_cells, read_before}

-- the bytes from a place on are those of its cells
abbrev pub IsImage : List ℕ → (ℕ → ℕ) → Type 0
IsImage bytes image = (at n : ℕ) → at + n ≤ length bytes → bytes_at bytes at n ≡ map image (cells_from at n)

abbrev pub AreWithin : ℕ → List PlacedItem → Type 0
AreWithin size items = AllByRecursion (λ (p : PlacedItem). IsInside size (place_of p.item) (bytes_of p.item)) items

-- the cells of one compare item, before others
scan : (item at : ℕ) (bytes : List ℕ) (others : List Want) (image : ℕ → ℕ)
    → first_mismatch (wants_from item at bytes ++ others) image
    ≡ cond (are_same (map image (cells_from at (length bytes))) bytes) (first_mismatch others image) (Some item)
scan item at [] others image = refl
scan item at (b ∷ bytes) others image = go (image at == b) (scan item (at + 1) bytes others image)
  where
    same : Bool
    same = are_same (map image (cells_from (at + 1) (length bytes))) bytes

    go : (x : Bool) → first_mismatch (wants_from item (at + 1) bytes ++ others) image ≡ cond same (first_mismatch others image) (Some item)
        → cond x (first_mismatch (wants_from item (at + 1) bytes ++ others) image) (Some item) ≡ cond (x && same) (first_mismatch others image) (Some item)
    go true rest = rest
    go false rest = refl

-- the place of a difference
abbrev pub place_found : Option Difference → Option ℕ
place_found d = option_map (λ (x : Difference). x.place) d

module _ (bytes : List ℕ) (image : ℕ → ℕ) (is : IsImage bytes image) where
  -- one item before others
  step : (it : Item) (place : ℕ) (kept : List ℕ) (items : List PlacedItem) → IsInside (length bytes) (place_of it) (bytes_of it)
      → first_mismatch (wants_of items) image ≡ place_found (first_difference bytes items)
      → first_mismatch (wants_before place it (wants_of items)) image
      ≡ place_found (cond (differs bytes it) (Some (record { place = place; kept = kept })) (first_difference bytes items))
  step (Compare memory at wanted) place kept items inside rest =
      scan place at wanted (wants_of items) image
      ∙ ap (λ (xs : List ℕ). cond (are_same xs wanted) (first_mismatch (wants_of items) image) (Some place)) (sym (is at (length wanted) inside.1))
      ∙ go (are_same (bytes_at bytes at (length wanted)) wanted)
    where
      go : (b : Bool) → cond b (first_mismatch (wants_of items) image) (Some place)
          ≡ place_found (cond (not b) (Some (record { place = place; kept = kept })) (first_difference bytes items))
      go true = rest
      go false = refl
  step (Read memory at n) place kept items inside rest = rest
  step (Write memory at written) place kept items inside rest = rest

  pub mismatch_is : (items : List PlacedItem) → AreWithin (length bytes) items → first_mismatch (wants_of items) image ≡ place_found (first_difference bytes items)
  mismatch_is [] within = refl
  mismatch_is (p ∷ items) within = step p.item p.place (bytes_at bytes (place_of p.item) (bytes_of p.item)) items within.0 (mismatch_is items within.1)

  -- ---- what is read

  read_is : (it : Item) (others cells : List (List ℕ)) → IsInside (length bytes) (place_of it) (bytes_of it) → others ≡ map (map image) cells
      → node.read_before bytes it others ≡ map (map image) (read_before it cells)
  read_is (Compare memory at wanted) others cells inside e = e
  read_is (Read memory at n) others cells inside e =
      ap (λ (x : List ℕ). x ∷ others) (is at n inside.1) ∙ ap (λ (xs : List (List ℕ)). map image (cells_from at n) ∷ xs) e
  read_is (Write memory at written) others cells inside e = e

  pub reads_are : (items : List PlacedItem) → AreWithin (length bytes) items → reads_of bytes items ≡ map (map image) (read_cells items)
  reads_are [] within = refl
  reads_are (p ∷ items) within = read_is p.item (reads_of bytes items) (read_cells items) within.0 (reads_are items within.1)
