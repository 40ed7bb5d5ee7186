-- A part of a file, piece by piece.
use Rattle.std.proofs.Common.{◌≡◌, ℕ, ◌+◌, ◌/◌, ◌%◌, ◌<◌, ◌≤◌, List, [], ◌++◌, Option, Some, None, get_or, refl, sym, ap, ◌∙◌, arith}
use Rattle.std.specs.Prelude.{unwrap_or}
use Rattle.std.specs.Option.{option_map_or}
use Rattle.std.specs.FinMap.{get}
use Rattle.fs_rules.specs.File.{BlockMap}
use Rattle.fs_rules.specs.Lists.{below}
use Rattle.fs_rules.specs.Contents.{byte_at, part}
use Rattle.fs_content.specs.Pieces.{block_at, piece}
use Rattle.fs_content.proofs.IndexLemmas.{made_same, made_split}

-- a place further on in the same block
pub same_block : (place i : ℕ) → place % 4096 + i < 4096 → (place + i) / 4096 ≡ place / 4096
same_block place i lt = omega arith

pub further_in_block : (place i : ℕ) → place % 4096 + i < 4096 → (place + i) % 4096 ≡ place % 4096 + i
further_in_block place i lt = omega arith

-- the byte of a block, or 0
pub byte_of : (o : Option (List ℕ)) (k : ℕ) → option_map_or (λ block. get_or block k 0) o 0 ≡ get_or (unwrap_or o []) k 0
byte_of None k = refl
byte_of (Some block) k = refl

module _ (blocks : BlockMap) where
  pub part_none : (from : ℕ) → part blocks from 0 ≡ []
  unfolding part below
  part_none from = refl

  pub part_split : (from n m : ℕ) → part blocks from (n + m) ≡ part blocks from n ++ part blocks (from + n) m
  unfolding part
  part_split from n m =
      made_split (λ i. byte_at blocks (from + i)) n m
      ∙ ap (λ xs. part blocks from n ++ xs)
      (made_same (λ i. byte_at blocks (from + (n + i))) (λ i. byte_at blocks (from + n + i)) m (λ i lt. ap (byte_at blocks) (let e : from + (n + i) ≡ from + n + i = omega arith in e)))

  -- within one block
  pub part_in_block : (place count : ℕ) → place % 4096 + count ≤ 4096 → part blocks place count ≡ piece (block_at blocks (place / 4096)) (place % 4096) count
  unfolding part piece
  part_in_block place count within =
      made_same (λ i. byte_at blocks (place + i)) (λ i. get_or (block_at blocks (place / 4096)) (place % 4096 + i) 0) count (λ i lt.
      let small : place % 4096 + i < 4096 = omega arith in
      byte_of (get blocks ((place + i) / 4096)) ((place + i) % 4096)
      ∙ ap (λ k. get_or (block_at blocks k) ((place + i) % 4096) 0) (same_block place i small)
      ∙ ap (λ k. get_or (block_at blocks (place / 4096)) k 0) (further_in_block place i small))

  -- one piece more
  pub part_more : (offset n m k : ℕ) (xs ys block : List ℕ) → xs ≡ part blocks offset n → block ≡ block_at blocks ((offset + n) / 4096)
      → ys ≡ xs ++ piece block ((offset + n) % 4096) m → (offset + n) % 4096 + m ≤ 4096 → k ≡ n + m → ys ≡ part blocks offset k
  part_more offset n m k xs ys block so_far here more within sum =
      more ∙ ap (λ zs. zs ++ piece block ((offset + n) % 4096) m) so_far
      ∙ ap (λ b. part blocks offset n ++ piece b ((offset + n) % 4096) m) here
      ∙ ap (λ zs. part blocks offset n ++ zs) (sym (part_in_block (offset + n) m within))
      ∙ sym (part_split offset n m) ∙ ap (part blocks offset) (sym sum)
