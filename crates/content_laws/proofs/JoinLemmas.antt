-- The bytes of a file are those of its blocks, one after another.
use Rattle.std.proofs.Common.{◌≡◌, ℕ, zero, suc, ◌+◌, ◌-◌, ◌*◌, ◌/◌, ◌%◌, ◌<◌, ◌≤◌, ◌⊎◌, inl, inr, true, false, cond, Bool, List, [], ◌∷◌, ◌++◌, length, take, drop, replicate, map, Option, Some, None, refl, sym, ap, ◌∙◌, arith}
use Rattle.std.specs.Prelude.{◌==◌, flat_map, get_or}
use Rattle.std.specs.Option.{option_map_or}
use Rattle.std.proofs.lemmas.Bool.{cases_lt, eqb-true}
use Rattle.std.proofs.lemmas.Bool.Decides.{nat_tests}
use Rattle.std.proofs.lemmas.List.{drop-drop, drop-take, take-take, length-take, length-drop, length-replicate, get_or-take, get_or-drop, get_or-replicate, get_or_past}
use Rattle.fs_layout.specs.declared.reference.Reference.{Reference}
use Rattle.fs_layout.specs.Places.{block_place}
use Rattle.fs_content.specs.Pieces.{block_at, piece}
use Rattle.fs_content.proofs.IndexLemmas.{made_is, made_same, made_split}
use Rattle.fs_content.proofs.PartLemmas.{part_in_block, part_none, part_split}
use Rattle.fs_rules.specs.declared.geometry.Geometry.{Geometry}
use Rattle.fs_rules.specs.Contents.{part, touched}
use Rattle.fs_rules.specs.File.{BlockMap}
use Rattle.fs_rules.specs.Lists.{below}
use Rattle.fs_image.specs.Owners.{Block}
use Rattle.fs_image.specs.Places.{block_bytes, layout_of}
use Rattle.mini_tx.specs.declared.item.Item.{Item}
use Rattle.mini_tx.specs.FlatMemory.{Flat, held_by, bytes_at, reads}
use Rattle.node_cache.specs.declared.held.Held.{Held}
use Rattle.plan_rules.specs.Told.{place_of}
use Rattle.plan_forms.specs.declared.form.Piece.{Piece}
use Rattle.plan_forms.specs.declared.form.Piece.TheVariants.{Zeros, Read}
use Rattle.plan_forms.specs.Forms.{joined, joined_from, piece_bytes}
use Rattle.content_laws.specs.Answers.{start_in, bytes_in, bytes_read, reads_at, piece_at, part_reads, part_pieces}

-- ---- pieces, where one more was read first

one_read : (r : List ℕ) (rs : List (List ℕ)) (at : ℕ) (ps : List Piece) → joined_from (r ∷ rs) (suc at) ps ≡ joined_from rs at ps
unfolding joined_from
one_read r rs at [] = refl
one_read r rs at (Zeros count ∷ ps) =
    let sum : suc at + 0 ≡ suc (at + 0) = omega arith in
    ap (λ xs. replicate count 0 ++ xs) (ap (λ k. joined_from (r ∷ rs) k ps) sum ∙ one_read r rs (at + 0) ps)
one_read r rs at (Read ∷ ps) =
    let sum : suc at + 1 ≡ suc (at + 1) = omega arith in
    ap (λ xs. piece_bytes rs at Read ++ xs) (ap (λ k. joined_from (r ∷ rs) k ps) sum ∙ one_read r rs (at + 1) ps)

-- ---- indices from one on

abbrev from_on : ℕ → ℕ → List ℕ
from_on i m = map (λ k. i + k) (below m)

first_on : (i m : ℕ) → from_on i (suc m) ≡ i ∷ from_on (i + 1) m
unfolding below
first_on i m =
    let sum : suc m ≡ 1 + m = omega arith in
    let here : i + 0 ≡ i = omega arith in
    ap (from_on i) sum ∙ made_split (λ k. i + k) 1 m ∙ ap (λ k. k ∷ map (λ j. i + (1 + j)) (below m)) here
    ∙ ap (λ ks. i ∷ ks) (made_same (λ j. i + (1 + j)) (λ j. i + 1 + j) m (λ j lt. (let same : i + (1 + j) ≡ i + 1 + j = omega arith in same)))

-- ---- pieces of blocks

piece_within : (block : List ℕ) (from count : ℕ) → from + count ≤ length block → take count (drop from block) ≡ piece block from count
unfolding piece
piece_within block from count small =
    made_is (λ i. get_or block (from + i) 0) count 0 (take count (drop from block)) (omega (arith, small, length-take count (drop from block), length-drop from block))
    (λ i lt. get_or-take count (drop from block) i 0 lt ∙ get_or-drop from block i 0)

-- behind the end of a block
piece_behind : (from count : ℕ) → piece [] from count ≡ replicate count 0
unfolding piece
piece_behind from count =
    let none : List ℕ = [] in
    sym (made_is (λ i. get_or none (from + i) 0) count 0 (replicate count 0) (length-replicate {A = ℕ} count 0)
    (λ i lt. get_or-replicate count i 0 0 lt ∙ sym (get_or_past none (from + i) 0 (omega arith))))

-- ---- what is stored at an index, and what is read of it

-- the blocks of a file lie at these places
pub record LieAt (g : Geometry) (flat : Flat) (place : ℕ → Option Reference) (blocks : BlockMap) : Type 0 where
  pub stored : (i : ℕ) (r : Reference) → place i ≡ Some r → (block_at blocks i ≡ block_bytes g flat r) × (length (block_bytes g flat r) ≡ 4096)
  pub holes : (i : ℕ) → place i ≡ None → block_at blocks i ≡ []

module _ (g : Geometry) (flat : Flat) (blocks : BlockMap) (offset count i : ℕ) where
  abbrev start : ℕ
  start = start_in offset i

  abbrev len : ℕ
  len = bytes_in offset count i

  -- what a piece gives
  abbrev given : Option Reference → List ℕ
  given q = option_map_or (λ r. bytes_at (held_by flat r.memory) (block_place (layout_of g) r.block + start) len) q (replicate len 0)

  cut_of : (image : List ℕ) (at : ℕ) → length (bytes_at image at 4096) ≡ 4096 → start + len ≤ 4096 → piece (bytes_at image at 4096) start len ≡ bytes_at image (at + start) len
  cut_of image at long small =
      let block = bytes_at image at 4096 in
      let whole : 4096 ≡ start + (4096 - start) = omega (arith, small) in
      sym (piece_within block start len (omega (arith, long, small)))
      ∙ ap (λ k. take len (drop start (take k (drop at image)))) whole
      ∙ ap (take len) (drop-take start (4096 - start) (drop at image))
      ∙ take-take len (4096 - start) (drop start (drop at image)) (omega (arith, small))
      ∙ ap (take len) (drop-drop start at image)

  -- it is the file's
  piece_is : (place : ℕ → Option Reference) → LieAt g flat place blocks → (q : Option Reference) → place i ≡ q → start + len ≤ 4096 → given q ≡ piece (block_at blocks i) start len
  piece_is place lie None is small = sym (piece_behind start len) ∙ ap (λ b. piece b start len) (sym (lie.holes i is))
  piece_is place lie (Some r) is small =
      let at = lie.stored i r is in
      sym (cut_of (held_by flat r.memory) (block_place (layout_of g) r.block) at.1 small) ∙ ap (λ b. piece b start len) (sym at.0)

  -- one piece, and those behind it
  one_more : (q : Option Reference) (items : List Item) (ps : List Piece)
      → joined_from (reads (option_map_or (λ r. bytes_read g offset count i r ∷ []) q [] ++ items) flat) 0 (option_map_or (λ r. Read) q (Zeros len) ∷ ps)
      ≡ given q ++ joined_from (reads items flat) 0 ps
  unfolding joined_from
  one_more None items ps = refl
  one_more (Some r) items ps =
      ap (λ xs. bytes_at (held_by flat r.memory) (block_place (layout_of g) r.block + start) len ++ xs)
      (one_read (bytes_at (held_by flat r.memory) (block_place (layout_of g) r.block + start) len) (reads items flat) 0 ps)

-- ---- all pieces

module _ (held : Held) (n : ℕ) (flat : Flat) (blocks : BlockMap) (offset count : ℕ) (lie : LieAt held.geometry flat (λ i. place_of held n (Block i)) blocks) where
  abbrev end : ℕ
  end = offset + count

  -- where the bytes from a block on begin
  abbrev place : ℕ → ℕ
  place i = 4096 * i + start_in offset i

  abbrev rest_of : ℕ → ℕ → List ℕ
  rest_of i m = joined_from (reads (flat_map (reads_at held n offset count) (from_on i m)) flat) 0 (map (piece_at held n offset count) (from_on i m))

  rest_more : (i m : ℕ) → rest_of i (suc m) ≡ given held.geometry flat blocks offset count i (place_of held n (Block i)) ++ rest_of (i + 1) m
  rest_more i m =
      ap (λ ks. joined_from (reads (flat_map (reads_at held n offset count) ks) flat) 0 (map (piece_at held n offset count) ks)) (first_on i m)
      ∙ one_more held.geometry flat blocks offset count i (place_of held n (Block i)) (flat_map (reads_at held n offset count) (from_on (i + 1) m))
      (map (piece_at held n offset count) (from_on (i + 1) m))

  rest_none : (i : ℕ) → rest_of i 0 ≡ []
  unfolding joined_from below
  rest_none i = refl

  same_part : (a b k l : ℕ) → k ≡ l → (a ≡ b) ⊎ (k ≡ 0) → part blocks a k ≡ part blocks b l
  same_part a b k l same (inl at) = ap (λ p. part blocks p k) at ∙ ap (part blocks b) same
  same_part a b k l same (inr none) =
      ap (part blocks a) none ∙ part_none blocks a ∙ sym (part_none blocks b) ∙ ap (part blocks b) (sym none ∙ same)

  next_place : (i : ℕ) → offset < 4096 * (i + 1) → 4096 * i < end → (place i + bytes_in offset count i ≡ place (i + 1)) ⊎ (end - place (i + 1) ≡ 0)
  next_place i near far = elim (cases_lt (4096 * (i + 1)) end) [
    | inl more ↦ inl (omega (arith, near, far, more))
    | inr last ↦ inr (omega (arith, near, far, last))
  ]

  turned : (i : ℕ) → (place i + bytes_in offset count i ≡ place (i + 1)) ⊎ (end - place (i + 1) ≡ 0)
      → (place (i + 1) ≡ place i + bytes_in offset count i) ⊎ (end - place (i + 1) ≡ 0)
  turned i (inl same) = inl (sym same)
  turned i (inr none) = inr none

  walk : (i m : ℕ) → i + m ≡ (end + 4095) / 4096 → (0 < m → offset < 4096 * (i + 1)) → rest_of i m ≡ part blocks (place i) (end - place i)
  walk i zero all near =
      let past : end - place i ≡ 0 = omega (arith, all) in
      rest_none i ∙ sym (part_none blocks (place i)) ∙ ap (part blocks (place i)) (sym past)
  walk i (suc m) all near =
      let here : offset < 4096 * (i + 1) = near (omega arith) in
      let far : 4096 * i < end = omega (arith, all) in
      let len = bytes_in offset count i in
      let small : start_in offset i + len ≤ 4096 = omega (arith, here) in
      let inside : place i % 4096 + len ≤ 4096 = omega (arith, here) in
      let index : place i / 4096 ≡ i = omega (arith, here) in
      let in_it : place i % 4096 ≡ start_in offset i = omega (arith, here) in
      let sum : end - place i ≡ len + (end - place (i + 1)) = omega (arith, here, far) in
      rest_more i m
      ∙ ap (λ xs. xs ++ rest_of (i + 1) m)
      (piece_is held.geometry flat blocks offset count i (λ j. place_of held n (Block j)) lie (place_of held n (Block i)) refl small
      ∙ ap (λ j. piece (block_at blocks j) (start_in offset i) len) (sym index) ∙ ap (λ s. piece (block_at blocks (place i / 4096)) s len) (sym in_it)
      ∙ sym (part_in_block blocks (place i) len inside))
      ∙ ap (λ xs. part blocks (place i) len ++ xs) (walk (i + 1) m (omega (arith, all)) (λ some. omega (arith, here)))
      ∙ ap (λ xs. part blocks (place i) len ++ xs) (same_part (place (i + 1)) (place i + len) (end - place (i + 1)) (end - place (i + 1)) refl (turned i (next_place i here far)))
      ∙ sym (part_split blocks (place i) len (end - place (i + 1)))
      ∙ ap (part blocks (place i)) (sym sum)

  joined_by : (b : Bool) → (count == 0) ≡ b → b ≡ false
      → joined (map (piece_at held n offset count) (cond b [] (from_on (offset / 4096) ((offset + count - 1) / 4096 + 1 - offset / 4096))))
      (reads (flat_map (reads_at held n offset count) (cond b [] (from_on (offset / 4096) ((offset + count - 1) / 4096 + 1 - offset / 4096)))) flat)
      ≡ part blocks offset count
  joined_by true is other = absurd cc
  joined_by false is other =
      let more : 0 < count = grind (arith, nat_tests, is) in
      let i = offset / 4096 in
      let at : place i ≡ offset = omega arith in
      let sized : end - place i ≡ count = omega arith in
      walk i ((offset + count - 1) / 4096 + 1 - i) (omega (arith, more)) (λ any. omega arith)
      ∙ ap (λ p. part blocks p (end - place i)) at ∙ ap (part blocks offset) sized

  -- what is joined of the reads are the bytes of the file
  pub joined_part : (count == 0) ≡ false → joined (part_pieces held n offset count) (reads (part_reads held n offset count) flat) ≡ part blocks offset count
  unfolding touched
  joined_part some = joined_by (count == 0) refl some

-- of no bytes nothing is read
none_by : (held : Held) (n : ℕ) (flat : Flat) (blocks : BlockMap) (offset count : ℕ) (b : Bool) → b ≡ true → count ≡ 0 → (ks : List ℕ)
    → joined (map (piece_at held n offset count) (cond b [] ks)) (reads (flat_map (reads_at held n offset count) (cond b [] ks)) flat) ≡ part blocks offset count
unfolding joined_from
none_by held n flat blocks offset count true is none ks = sym (ap (part blocks offset) none ∙ part_none blocks offset)
none_by held n flat blocks offset count false is none ks = absurd cc

pub joined_none : (held : Held) (n : ℕ) (flat : Flat) (blocks : BlockMap) (offset count : ℕ) → (count == 0) ≡ true
    → joined (part_pieces held n offset count) (reads (part_reads held n offset count) flat) ≡ part blocks offset count
unfolding touched
joined_none held n flat blocks offset count none =
    none_by held n flat blocks offset count (count == 0) none (eqb-true count 0 none) (map (λ k. offset / 4096 + k) (below ((offset + count - 1) / 4096 + 1 - offset / 4096)))
