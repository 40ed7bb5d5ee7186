-- How long the bytes of a file are that are joined of reads of the right lengths.
use Rattle.std.proofs.Common.{◌≡◌, ℕ, zero, suc, ◌+◌, ◌-◌, ◌*◌, ◌/◌, ◌<◌, ◌≤◌, true, false, cond, Bool, List, [], ◌∷◌, ◌++◌, length, replicate, map, Option, Some, None, refl, sym, ap, ◌∙◌, arith, length-append}
use Rattle.std.specs.Prelude.{◌==◌, flat_map}
use Rattle.std.specs.Option.{option_map_or}
use Rattle.std.proofs.lemmas.Bool.Decides.{nat_tests}
use Rattle.std.proofs.lemmas.List.{length-replicate}
use Rattle.fs_content.proofs.IndexLemmas.{made_same, made_split}
use Rattle.fs_layout.specs.declared.reference.Reference.{Reference}
use Rattle.fs_rules.specs.Contents.{touched}
use Rattle.fs_rules.specs.Lists.{below}
use Rattle.fs_image.specs.Owners.{Block}
use Rattle.mini_tx.specs.declared.item.Item.{Item}
use Rattle.mini_tx.specs.Minitransactions.{bytes_of}
use Rattle.node_cache.specs.declared.held.Held.{Held}
use Rattle.plan_rules.specs.Fetched.{AreReads, read_items}
use Rattle.plan_rules.specs.Told.{place_of}
use Rattle.plan_forms.specs.declared.form.Piece.{Piece}
use Rattle.plan_forms.specs.declared.form.Piece.TheVariants.{Zeros, Read}
use Rattle.plan_forms.specs.Forms.{joined, joined_from, piece_bytes}
use Rattle.content_laws.specs.Answers.{start_in, bytes_in, bytes_read, reads_at, piece_at, part_reads, part_pieces}

-- pieces, where one more was read first
one_read : (r : List ℕ) (rs : List (List ℕ)) (at : ℕ) (ps : List Piece) → joined_from (r ∷ rs) (suc at) ps ≡ joined_from rs at ps
unfolding joined_from
one_read r rs at [] = refl
one_read r rs at (Zeros count ∷ ps) =
    let sum : suc at + 0 ≡ suc (at + 0) = omega arith in
    ap (λ xs. replicate count 0 ++ xs) (ap (λ k. joined_from (r ∷ rs) k ps) sum ∙ one_read r rs (at + 0) ps)
one_read r rs at (Read ∷ ps) =
    let sum : suc at + 1 ≡ suc (at + 1) = omega arith in
    ap (λ xs. piece_bytes rs at Read ++ xs) (ap (λ k. joined_from (r ∷ rs) k ps) sum ∙ one_read r rs (at + 1) ps)

-- indices from one on
abbrev from_on : ℕ → ℕ → List ℕ
from_on i m = map (λ k. i + k) (below m)

first_on : (i m : ℕ) → from_on i (suc m) ≡ i ∷ from_on (i + 1) m
unfolding below
first_on i m =
    let sum : suc m ≡ 1 + m = omega arith in
    let here : i + 0 ≡ i = omega arith in
    ap (from_on i) sum ∙ made_split (λ k. i + k) 1 m ∙ ap (λ k. k ∷ map (λ j. i + (1 + j)) (below m)) here
    ∙ ap (λ ks. i ∷ ks) (made_same (λ j. i + (1 + j)) (λ j. i + 1 + j) m (λ j lt. (let same : i + (1 + j) ≡ i + 1 + j = omega arith in same)))

module _ (held : Held) (n offset count : ℕ) where
  -- reads as long as these blocks have bytes, and how long what is joined of them is
  abbrev AreFor : List ℕ → List (List ℕ) → Type 0
  AreFor ks rs = AreReads (flat_map (reads_at held n offset count) ks) rs

  abbrev long : List ℕ → List (List ℕ) → ℕ
  long ks rs = length (joined_from rs 0 (map (piece_at held n offset count) ks))

  -- one block more
  one_more : (i : ℕ) (items : List Item) (ps : List Piece) (len : ℕ) (q : Option Reference) (rs : List (List ℕ))
      → AreReads (option_map_or (λ r. bytes_read held.geometry offset count i r ∷ []) q [] ++ items) rs
      → ((tail : List (List ℕ)) → AreReads items tail → length (joined_from tail 0 ps) ≡ len)
      → length (joined_from rs 0 (option_map_or (λ r. Read) q (Zeros (bytes_in offset count i)) ∷ ps)) ≡ bytes_in offset count i + len
  unfolding joined_from
  one_more i items ps len None rs sized rest =
      let tail = rest rs sized in
      omega (arith, tail, length-append (replicate (bytes_in offset count i) 0) (joined_from rs 0 ps), length-replicate {A = ℕ} (bytes_in offset count i) 0)
  one_more i items ps len (Some r) [] sized rest = absurd cc
  one_more i items ps len (Some r) (b ∷ bs) sized rest =
      let here : length b ≡ bytes_in offset count i = cc in
      let others : AreReads items bs = cc in
      let tail = rest bs others in
      let same : length (joined_from (b ∷ bs) 1 ps) ≡ length (joined_from bs 0 ps) = ap length (one_read b bs 0 ps) in
      omega (arith, here, tail, same, length-append b (joined_from (b ∷ bs) 1 ps))

  abbrev end : ℕ
  end = offset + count

  abbrev place : ℕ → ℕ
  place i = 4096 * i + start_in offset i

  walk : (i m : ℕ) (rs : List (List ℕ)) → i + m ≡ (end + 4095) / 4096 → (0 < m → offset < 4096 * (i + 1)) → AreFor (from_on i m) rs → long (from_on i m) rs ≡ end - place i
  unfolding joined_from below
  walk i zero rs all near sized = omega (arith, all)
  walk i (suc m) rs all near sized =
      let here : offset < 4096 * (i + 1) = near (omega arith) in
      let far : 4096 * i < end = omega (arith, all) in
      let sum : end - place i ≡ bytes_in offset count i + (end - place (i + 1)) = omega (arith, here, far) in
      let more : AreFor (i ∷ from_on (i + 1) m) rs = sized ∙ ap (λ ks. map bytes_of (read_items (flat_map (reads_at held n offset count) ks))) (first_on i m) in
      ap (λ ks. long ks rs) (first_on i m)
      ∙ one_more i (flat_map (reads_at held n offset count) (from_on (i + 1) m)) (map (piece_at held n offset count) (from_on (i + 1) m)) (end - place (i + 1))
      (place_of held n (Block i)) rs more (λ tail fits. walk (i + 1) m tail (omega (arith, all)) (λ some. omega (arith, here)) fits)
      ∙ sym sum

  joined_by : (rs : List (List ℕ)) (b : Bool) → (count == 0) ≡ b → AreFor (cond b [] (from_on (offset / 4096) ((offset + count - 1) / 4096 + 1 - offset / 4096))) rs
      → long (cond b [] (from_on (offset / 4096) ((offset + count - 1) / 4096 + 1 - offset / 4096))) rs ≤ count
  unfolding joined_from
  joined_by rs true is sized = omega arith
  joined_by rs false is sized =
      let more : 0 < count = grind (arith, nat_tests, is) in
      let i = offset / 4096 in
      let at : place i ≡ offset = omega arith in
      let whole = walk i ((offset + count - 1) / 4096 + 1 - i) rs (omega (arith, more)) (λ any. omega arith) sized in
      omega (arith, at, whole)

  -- no more than was asked for
  pub joined_sized : (rs : List (List ℕ)) → AreReads (part_reads held n offset count) rs → length (joined (part_pieces held n offset count) rs) ≤ count
  unfolding touched
  joined_sized rs sized = joined_by rs (count == 0) refl sized
