-- What stands at each index after bytes were written.
use Rattle.std.proofs.Common.{◌≡◌, ◌≢◌, ℕ, zero, suc, ◌+◌, ◌-◌, ◌*◌, ◌/◌, ◌%◌, ◌<◌, ◌≤◌, ◌⊎◌, inl, inr, true, false, cond, List, [], ◌∷◌, ◌++◌, Option, Some, length, take, drop, min, get_or, refl, sym, ap, ◌∙◌, arith, length-append, length-take, length-drop}
use Rattle.std.specs.Prelude.{nat_lt, nat_le, ◌&&◌, ◌==◌, unwrap_or}
use Rattle.std.specs.FinMap.{get, insert}
use Rattle.std.proofs.lemmas.List.{get_or_append_left, get_or-append_right, get_or-take, get_or-drop}
use Rattle.std.proofs.lemmas.Bool.{cases_lt, cases_eq}
use Rattle.std.proofs.lemmas.Bool.Decides.{nat_tests}
use Rattle.sfs_base.proofs.MapLemmas.{get_inserted, get_past_insert, same_look_ups}
use Rattle.fs_rules.specs.File.{BlockMap}
use Rattle.fs_rules.specs.Lists.{below}
use Rattle.fs_rules.specs.Contents.{byte_at, byte_after, block_after, touched, store, written}
use Rattle.fs_content.specs.Pieces.{block_at, piece, from_on}
use Rattle.fs_content.proofs.IndexLemmas.{made_same, made_more, made_is}
use Rattle.fs_content.proofs.PieceLemmas.{length_piece, get_piece}
use Rattle.fs_content.proofs.PartLemmas.{byte_of}

-- ---- the blocks that are stored

store_append : (block : ℕ → List ℕ) (ks js : List ℕ) (m : BlockMap) → store block (ks ++ js) m ≡ store block js (store block ks m)
unfolding store
store_append block [] js m = refl
store_append block (k ∷ ks) js m = store_append block ks js (insert m k (block k))

module _ (block : ℕ → List ℕ) (first : ℕ) (m : BlockMap) where
  pub store_none : store block (from_on first 0) m ≡ m
  unfolding store below
  store_none = refl

  pub store_more : (n : ℕ) → store block (from_on first (suc n)) m ≡ insert (store block (from_on first n) m) (first + n) (block (first + n))
  unfolding store
  store_more n = ap (λ ks. store block ks m) (made_more (λ k. first + k) n) ∙ store_append block (from_on first n) ((first + n) ∷ []) m

  -- an index among them
  pub get_stored : (n q : ℕ) → first ≤ q → q < first + n → get (store block (from_on first n) m) q ≡ Some (block q)
  get_stored zero q low high = absurd (omega arith)
  get_stored (suc n) q low high = ap (λ b. get b q) (store_more n) ∙ go (λ lt. get_stored n q low lt) (cases_eq q (first + n)) where
    go : (q < first + n → get (store block (from_on first n) m) q ≡ Some (block q)) → (q ≡ first + n) ⊎ (q ≡ first + n → ⊥)
        → get (insert (store block (from_on first n) m) (first + n) (block (first + n))) q ≡ Some (block q)
    go so_far (inl e) = get_inserted (store block (from_on first n) m) (first + n) (block (first + n)) q e ∙ ap (λ k. Some (block k)) (sym e)
    go so_far (inr ne) = get_past_insert (store block (from_on first n) m) (first + n) (block (first + n)) q ne ∙ so_far (omega arith)

  -- and any other
  pub get_unstored : (n q : ℕ) → (q < first) ⊎ (first + n ≤ q) → get (store block (from_on first n) m) q ≡ get m q
  get_unstored zero q out = ap (λ b. get b q) store_none
  get_unstored (suc n) q out =
      ap (λ b. get b q) (store_more n)
      ∙ get_past_insert (store block (from_on first n) m) (first + n) (block (first + n)) q (apart out)
      ∙ get_unstored n q (less out) where
        apart : (q < first) ⊎ (first + suc n ≤ q) → q ≢ first + n
        apart (inl h) = λ e. omega arith
        apart (inr h) = λ e. omega arith

        less : (q < first) ⊎ (first + suc n ≤ q) → (q < first) ⊎ (first + n ≤ q)
        less (inl h) = inl h
        less (inr h) = inr (omega arith)

-- ---- the bytes after a write

module _ (blocks : BlockMap) (offset : ℕ) (bytes : List ℕ) where
  pub byte_written : (place : ℕ) → offset ≤ place → place < offset + length bytes → byte_after blocks offset bytes place ≡ get_or bytes (place - offset) 0
  byte_written place low high =
      ap (λ b. cond b (get_or bytes (place - offset) 0) (byte_at blocks place))
      (let is : (nat_le offset place && nat_lt place (offset + length bytes)) ≡ true = grind (arith, nat_tests) in is)

  pub byte_before : (place : ℕ) → place < offset → byte_after blocks offset bytes place ≡ byte_at blocks place
  byte_before place low =
      ap (λ b. cond b (get_or bytes (place - offset) 0) (byte_at blocks place))
      (let is : (nat_le offset place && nat_lt place (offset + length bytes)) ≡ false = grind (arith, nat_tests) in is)

  pub byte_behind : (place : ℕ) → offset + length bytes ≤ place → byte_after blocks offset bytes place ≡ byte_at blocks place
  byte_behind place high =
      ap (λ b. cond b (get_or bytes (place - offset) 0) (byte_at blocks place))
      (let is : (nat_le offset place && nat_lt place (offset + length bytes)) ≡ false = grind (arith, nat_tests) in is)

  -- how many blocks lie on the way
  abbrev pub span : ℕ → ℕ
  span n = (offset + n - 1) / 4096 + 1 - offset / 4096

  pub written_some : length bytes ≢ 0 → written blocks offset bytes ≡ store (block_after blocks offset bytes) (from_on (offset / 4096) (span (length bytes))) blocks
  unfolding written touched
  written_some some =
      ap (λ b. store (block_after blocks offset bytes) (cond b [] (from_on (offset / 4096) (span (length bytes)))) blocks)
      (let is : (length bytes == 0) ≡ false = grind (arith, nat_tests) in is)

  pub written_none : length bytes ≡ 0 → written blocks offset bytes ≡ blocks
  unfolding written touched store
  written_none none =
      ap (λ b. store (block_after blocks offset bytes) (cond b [] (from_on (offset / 4096) (span (length bytes)))) blocks)
      (let is : (length bytes == 0) ≡ true = grind (arith, nat_tests) in is)

  -- the blocks in which the bytes lie
  pub get_touched : (q : ℕ) → length bytes ≢ 0 → offset / 4096 ≤ q → 4096 * q < offset + length bytes → get (written blocks offset bytes) q ≡ Some (block_after blocks offset bytes q)
  get_touched q some low high =
      ap (λ b. get b q) (written_some some)
      ∙ get_stored (block_after blocks offset bytes) (offset / 4096) blocks (span (length bytes)) q low (omega arith)

  -- and all others
  pub get_untouched : (q : ℕ) → (length bytes ≡ 0) ⊎ ((q < offset / 4096) ⊎ (offset + length bytes ≤ 4096 * q)) → get (written blocks offset bytes) q ≡ get blocks q
  get_untouched q out = go (cases_eq (length bytes) 0) where
    apart : length bytes ≢ 0 → (length bytes ≡ 0) ⊎ ((q < offset / 4096) ⊎ (offset + length bytes ≤ 4096 * q)) → (q < offset / 4096) ⊎ (offset / 4096 + span (length bytes) ≤ q)
    apart some (inl none) = absurd (some none)
    apart some (inr (inl low)) = inl low
    apart some (inr (inr high)) = inr (omega arith)

    go : (length bytes ≡ 0) ⊎ (length bytes ≡ 0 → ⊥) → get (written blocks offset bytes) q ≡ get blocks q
    go (inl none) = ap (λ b. get b q) (written_none none)
    go (inr some) =
        ap (λ b. get b q) (written_some some)
        ∙ get_unstored (block_after blocks offset bytes) (offset / 4096) blocks (span (length bytes)) q (apart some out)

-- the byte at a place of a block
pub byte_in_block : (blocks : BlockMap) (index i : ℕ) → i < 4096 → byte_at blocks (4096 * index + i) ≡ get_or (block_at blocks index) i 0
byte_in_block blocks index i lt =
    byte_of (get blocks ((4096 * index + i) / 4096)) ((4096 * index + i) % 4096)
    ∙ ap (λ k. get_or (block_at blocks k) ((4096 * index + i) % 4096) 0) (let e : (4096 * index + i) / 4096 ≡ index = omega arith in e)
    ∙ ap (λ k. get_or (block_at blocks index) k 0) (let e : (4096 * index + i) % 4096 ≡ i = omega arith in e)

-- ---- block by block

-- the first block of a write, and the rest
module _ (blocks : BlockMap) (offset count index : ℕ) (bytes here rest block : List ℕ)
    (first : index ≡ offset / 4096) (some : length bytes ≢ 0) (counted : count ≡ min (4096 - offset % 4096) (length bytes))
    (front : here ≡ take count bytes) (back : rest ≡ drop count bytes)
    (made : block ≡ piece (block_at blocks index) 0 (offset % 4096) ++ here ++ piece (block_at blocks index) (offset % 4096 + length here) (4096 - (offset % 4096 + length here))) where
  length_here : length here ≡ count
  length_here = omega (arith, ap (length {A = ℕ}) front, length-take count bytes)

  length_rest : length rest ≡ length bytes - count
  length_rest = ap (length {A = ℕ}) back ∙ length-drop count bytes

  abbrev from : ℕ
  from = offset % 4096

  abbrev old : List ℕ
  old = block_at blocks index

  abbrev front_of : List ℕ
  front_of = piece old 0 from

  abbrev back_of : List ℕ
  back_of = piece old (from + length here) (4096 - (from + length here))

  within : from + count ≤ 4096
  within = omega arith

  length_front : length front_of ≡ from
  length_front = length_piece old 0 from

  length_block : length block ≡ 4096
  length_block =
      omega (
        arith,
        ap (length {A = ℕ}) made,
        length-append (front_of ++ here) back_of,
        length-append front_of here,
        length_front,
        length_here,
        length_piece old (from + length here) (4096 - (from + length here)),
      )

  -- the bytes of the new block: before those that are written, these, and behind them
  element_before : (i : ℕ) → i < from → get_or block i 0 ≡ byte_after blocks offset bytes (4096 * index + i)
  element_before i lt =
      ap (λ (xs : List ℕ). get_or xs i 0) made
      ∙ get_or_append_left (front_of ++ here) back_of 0 i (omega (arith, length-append front_of here, length_front))
      ∙ get_or_append_left front_of here 0 i (omega (arith, length_front))
      ∙ get_piece old 0 from i lt
      ∙ ap (λ k. get_or old k 0) (let e : 0 + i ≡ i = omega arith in e)
      ∙ sym (byte_before blocks offset bytes (4096 * index + i) (omega arith) ∙ byte_in_block blocks index i (omega arith))

  element_here : (i : ℕ) → from ≤ i → i < from + count → get_or block i 0 ≡ byte_after blocks offset bytes (4096 * index + i)
  element_here i low high =
      ap (λ (xs : List ℕ). get_or xs i 0) made
      ∙ get_or_append_left (front_of ++ here) back_of 0 i (omega (arith, length-append front_of here, length_front, length_here))
      ∙ get_or-append_right front_of here from i 0 length_front low
      ∙ ap (λ (xs : List ℕ). get_or xs (i - from) 0) front
      ∙ get_or-take count bytes (i - from) 0 (omega arith)
      ∙ ap (λ k. get_or bytes k 0) (let e : i - from ≡ 4096 * index + i - offset = omega arith in e)
      ∙ sym (byte_written blocks offset bytes (4096 * index + i) (omega arith) (omega arith))

  element_behind : (i : ℕ) → from + count ≤ i → i < 4096 → get_or block i 0 ≡ byte_after blocks offset bytes (4096 * index + i)
  element_behind i low high =
      ap (λ (xs : List ℕ). get_or xs i 0) made
      ∙ get_or-append_right (front_of ++ here) back_of (from + length here) i 0 (omega (arith, length-append front_of here, length_front)) (omega (arith, length_here))
      ∙ get_piece old (from + length here) (4096 - (from + length here)) (i - (from + length here)) (omega (arith, length_here))
      ∙ ap (λ k. get_or old k 0) (let e : from + length here + (i - (from + length here)) ≡ i = omega (arith, length_here) in e)
      ∙ sym (byte_behind blocks offset bytes (4096 * index + i) (omega arith) ∙ byte_in_block blocks index i high)

  element : (i : ℕ) → i < 4096 → get_or block i 0 ≡ byte_after blocks offset bytes (4096 * index + i)
  element i lt = go (cases_lt i from) (cases_lt i (from + count)) where
    go : (i < from) ⊎ (from ≤ i) → (i < from + count) ⊎ (from + count ≤ i) → get_or block i 0 ≡ byte_after blocks offset bytes (4096 * index + i)
    go (inl h) k = element_before i h
    go (inr h) (inl k) = element_here i h k
    go (inr h) (inr k) = element_behind i k lt

  pub block_made : block ≡ block_after blocks offset bytes index
  unfolding block_after
  block_made = made_is (λ i. byte_after blocks offset bytes (4096 * index + i)) 4096 0 block length_block element

  -- a later block is the same, whether the first was stored before or not
  later_byte : (q i : ℕ) → index < q → i < 4096 → count ≡ 4096 - from
      → byte_after (insert blocks index block) (offset + count) rest (4096 * q + i) ≡ byte_after blocks offset bytes (4096 * q + i)
  later_byte q i after lt whole = go (cases_lt (4096 * q + i) (offset + length bytes)) where
    place : ℕ
    place = 4096 * q + i

    go : (4096 * q + i < offset + length bytes) ⊎ (offset + length bytes ≤ 4096 * q + i)
        → byte_after (insert blocks index block) (offset + count) rest (4096 * q + i) ≡ byte_after blocks offset bytes (4096 * q + i)
    go (inl h) =
        byte_written (insert blocks index block) (offset + count) rest (4096 * q + i) (omega arith) (omega (arith, length_rest))
        ∙ ap (λ (xs : List ℕ). get_or xs (4096 * q + i - (offset + count)) 0) back
        ∙ get_or-drop count bytes (4096 * q + i - (offset + count)) 0
        ∙ ap (λ k. get_or bytes k 0) (let e : count + (4096 * q + i - (offset + count)) ≡ 4096 * q + i - offset = omega arith in e)
        ∙ sym (byte_written blocks offset bytes (4096 * q + i) (omega arith) h)
    go (inr h) =
        byte_behind (insert blocks index block) (offset + count) rest (4096 * q + i) (omega (arith, length_rest))
        ∙ byte_in_block (insert blocks index block) q i lt
        ∙ ap (λ (o : Option (List ℕ)). get_or (unwrap_or o []) i 0) (get_past_insert blocks index block q (let ne : q ≢ index = λ e. omega arith in ne))
        ∙ sym (byte_in_block blocks q i lt)
        ∙ sym (byte_behind blocks offset bytes (4096 * q + i) h)

  later_block : (q : ℕ) → index < q → count ≡ 4096 - from → block_after (insert blocks index block) (offset + count) rest q ≡ block_after blocks offset bytes q
  unfolding block_after
  later_block q after whole =
      made_same (λ i. byte_after (insert blocks index block) (offset + count) rest (4096 * q + i)) (λ i. byte_after blocks offset bytes (4096 * q + i)) 4096
      (λ i lt. later_byte q i after lt whole)

  abbrev stepped : BlockMap
  stepped = written (insert blocks index block) (offset + count) rest

  same_first : (q : ℕ) → q ≡ index → get stepped q ≡ get (written blocks offset bytes) q
  same_first q is =
      get_untouched (insert blocks index block) (offset + count) rest q (out (cases_eq (length rest) 0))
      ∙ get_inserted blocks index block q is ∙ ap Some (block_made ∙ ap (block_after blocks offset bytes) (sym is))
      ∙ sym (get_touched blocks offset bytes q some (omega arith) (omega arith)) where
        out : (length rest ≡ 0) ⊎ (length rest ≡ 0 → ⊥) → (length rest ≡ 0) ⊎ ((q < (offset + count) / 4096) ⊎ (offset + count + length rest ≤ 4096 * q))
        out (inl h) = inl h
        out (inr h) = inr (inl (omega (arith, length_rest)))

  same_before : (q : ℕ) → q < index → get stepped q ≡ get (written blocks offset bytes) q
  same_before q lt =
      get_untouched (insert blocks index block) (offset + count) rest q (inr (inl (omega arith)))
      ∙ get_past_insert blocks index block q (let ne : q ≢ index = λ e. omega arith in ne)
      ∙ sym (get_untouched blocks offset bytes q (inr (inl (omega arith))))

  same_later : (q : ℕ) → index < q → get stepped q ≡ get (written blocks offset bytes) q
  same_later q after = go (cases_lt (4096 * q) (offset + length bytes)) where
    go : (4096 * q < offset + length bytes) ⊎ (offset + length bytes ≤ 4096 * q) → get stepped q ≡ get (written blocks offset bytes) q
    go (inl h) =
        let whole : count ≡ 4096 - from = omega arith in
        get_touched (insert blocks index block) (offset + count) rest q (let ne : length rest ≢ 0 = λ e. omega (arith, length_rest) in ne) (omega arith) (omega (arith, length_rest))
        ∙ ap Some (later_block q after whole)
        ∙ sym (get_touched blocks offset bytes q some (omega arith) h)
    go (inr h) =
        get_untouched (insert blocks index block) (offset + count) rest q (inr (inr (omega (arith, length_rest))))
        ∙ get_past_insert blocks index block q (let ne : q ≢ index = λ e. omega arith in ne)
        ∙ sym (get_untouched blocks offset bytes q (inr (inr h)))

  pub written_step : written (insert blocks index block) (offset + count) rest ≡ written blocks offset bytes
  written_step = same_look_ups stepped (written blocks offset bytes) (λ q. go q (cases_eq q index) (cases_lt q index)) where
    go : (q : ℕ) → (q ≡ index) ⊎ (q ≡ index → ⊥) → (q < index) ⊎ (index ≤ q) → get stepped q ≡ get (written blocks offset bytes) q
    go q (inl e) k = same_first q e
    go q (inr ne) (inl lt) = same_before q lt
    go q (inr ne) (inr le) = same_later q (omega arith)
