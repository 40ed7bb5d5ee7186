-- What is copied from one block.
use Rattle.std.proofs.Common.{◌≡◌, ℕ, ◌+◌, ◌-◌, ◌<◌, ◌≤◌, ◌⊎◌, inl, inr, List, ◌++◌, length, take, drop, min, replicate, get_or, sym, ap, ◌∙◌, arith, append_assoc, length-append, length-take, length-drop}
use Rattle.std.proofs.lemmas.Bool.{cases_lt}
use Rattle.std.proofs.lemmas.List.{take_all, length-replicate, get_or_append_left, get_or-append_right, get_or-take, get_or-drop, get_or-replicate, get_or_past}
use Rattle.fs_content.specs.Pieces.{piece}
use Rattle.fs_content.proofs.IndexLemmas.{length_made, get_made, made_is}

pub length_piece : (block : List ℕ) (from count : ℕ) → length (piece block from count) ≡ count
unfolding piece
length_piece block from count = length_made (λ i. get_or block (from + i) 0) count

pub get_piece : (block : List ℕ) (from count i : ℕ) → i < count → get_or (piece block from count) i 0 ≡ get_or block (from + i) 0
unfolding piece
get_piece block from count i lt = get_made (λ i. get_or block (from + i) 0) count i 0 lt

-- what is stored of it, and zeros behind
module _ (block : List ℕ) (from count s e : ℕ) (end : e ≡ min (length block) (from + count)) (start : s ≡ min from e) where
  length_stored : length (take (e - s) (drop s block)) ≡ e - s
  length_stored = omega (arith, length-take (e - s) (drop s block), length-drop s block)

  element : (i : ℕ) → i < count → get_or (take (e - s) (drop s block) ++ replicate (count - (e - s)) 0) i 0 ≡ get_or block (from + i) 0
  element i lt = go (cases_lt i (e - s)) where
    go : (i < e - s) ⊎ (e - s ≤ i) → get_or (take (e - s) (drop s block) ++ replicate (count - (e - s)) 0) i 0 ≡ get_or block (from + i) 0
    go (inl h) =
        get_or_append_left (take (e - s) (drop s block)) (replicate (count - (e - s)) 0) 0 i (omega (arith, length_stored))
        ∙ get_or-take (e - s) (drop s block) i 0 h ∙ get_or-drop s block i 0 ∙ ap (λ k. get_or block (k + i) 0) (let same : s ≡ from = omega arith in same)
    go (inr h) =
        get_or-append_right (take (e - s) (drop s block)) (replicate (count - (e - s)) 0) (e - s) i 0 length_stored h
        ∙ get_or-replicate (count - (e - s)) (i - (e - s)) 0 0 (omega arith)
        ∙ sym (get_or_past block (from + i) 0 (omega arith))

  piece_stored : take (e - s) (drop s block) ++ replicate (count - (e - s)) 0 ≡ piece block from count
  unfolding piece
  piece_stored =
      made_is (λ i. get_or block (from + i) 0) count 0 (take (e - s) (drop s block) ++ replicate (count - (e - s)) 0)
      (omega (arith, length_stored, length-append (take (e - s) (drop s block)) (replicate (count - (e - s)) 0), length-replicate {A = ℕ} (count - (e - s)) 0))
      element

  -- at the end of other bytes
  pub piece_appended : (old mid new : List ℕ) (a n filled : ℕ) → length old ≡ a → filled ≡ a + count → mid ≡ old ++ take (e - s) (drop s block)
      → n ≡ a + length (take (e - s) (drop s block)) → new ≡ take filled mid ++ replicate (filled - n) 0 → new ≡ old ++ piece block from count
  piece_appended old mid new a n filled long full is len made =
      made
      ∙ ap (λ xs. xs ++ replicate (filled - n) 0) (take_all filled mid (omega (arith, ap (length {A = ℕ}) is, length-append old (take (e - s) (drop s block)), length_stored)) ∙ is)
      ∙ append_assoc old (take (e - s) (drop s block)) (replicate (filled - n) 0)
      ∙ ap (λ k. old ++ (take (e - s) (drop s block) ++ replicate k 0)) (let same : filled - n ≡ count - (e - s) = omega (arith, length_stored) in same)
      ∙ ap (λ xs. old ++ xs) piece_stored
