-- A cluster that was just formatted stands for the fresh tree.
use Rattle.std.proofs.Common.{◌≡◌, ◌≢◌, ◌≤◌, ℕ, zero, suc, ◌+◌, ◌-◌, ◌*◌, ◌<◌, true, false, List, [], ◌∷◌, Option, Some, None, inl, inr, refl, sym, ap, subst, ◌∙◌, arith}
use Rattle.std.specs.Prelude.{◌/◌, ◌%◌, ◌^◌, length, replicate, slice_index, slice_set, not, ◌==◌}
use Rattle.std.specs.Prelude.{◌&&◌, nat_lt, is_some, unwrap_or}
use Rattle.std.specs.Int.Bits.{and_zero_l}
use Rattle.std.specs.List.{range_with_len}
use Rattle.std.specs.Ordering.{nat_cmp}
use Rattle.std.specs.FinMap as table
use Rattle.std.specs.FinMap.{FinMap, get-empty}
use Rattle.std.proofs.lemmas.Bool.{cases_lt, le-ltb}
use Rattle.std.proofs.lemmas.Option.{none-some}
use Rattle.std.proofs.lemmas.List.{length-map, length-replicate, get_or-replicate, get_or_past}
use Rattle.std.proofs.lemmas.List.FromFn.{get_or-map-range_with_len, length-range_with_len}
use Rattle.fs_layout.specs.Inodes.{inode_words, free_inode, SpellsInode}
use Rattle.fs_layout.specs.Words.{AreWords, spelled}
use Rattle.fs_layout.specs.Superblocks.{superblock_words}
use Rattle.fs_layout.proofs.WordLemmas.{AreWords-set, words_items, zeros_are_words}
use Rattle.fs_layout.proofs.RecordLemmas.{length-inode}
use Rattle.fs_bitmap.specs.Bits.{has_bit, is_used}
use Rattle.fs_layout.specs.Places.{record_at, block_place, number_of}
use Rattle.fs_rules.specs.declared.file.File.{File}
use Rattle.fs_rules.specs.declared.geometry.Geometry.{Geometry}
use Rattle.fs_rules.specs.declared.kept.Kept.{Kept}
use Rattle.fs_rules.specs.Fresh.{fresh, fresh_root}
use Rattle.fs_rules.specs.Geometry.{IsWithinLimits}
use Rattle.fs_rules.specs.Numbers.{kept_at}
use Rattle.fs_laws.proofs.EditLemmas.{get_here, get_apart}
use Rattle.fs_laws.proofs.FreshLemmas.{fresh_good}
use Rattle.mini_tx.specs.FlatMemory.{Flat, held_by, bytes_at}
use Rattle.mini_tx.specs.FreshImages.{zeros, root, first_page as fresh_first, second_page, record_bytes, fresh_records, fresh_image}
use Rattle.mini_tx.proofs.FreshLemmas.{length-first_page, length-second_page, length-fresh_records, length-fresh_image}
use Rattle.fs_image.proofs.ByteLemmas.{bytes_past, bytes_within, bytes_zeros, bytes_whole}
use Rattle.fs_image.specs.Owners.{Part, Chain, Block, Owners}
use Rattle.fs_image.specs.Parts.{inode_of, has_part_of}
use Rattle.fs_image.specs.Places.{layout_of, block_map, inode_map, inode_bytes}
use Rattle.fs_image.specs.Stands.{IsImage, ShowsFile, Stands}
use Rattle.fs_image.specs.Fresh.{geometry4, fresh_memory, FreshStands}

-- ---- bits of zeros

zero_bit : (k : ℕ) → has_bit 0 k ≡ false
unfolding has_bit
zero_bit k = ap (λ b. not (b == 0)) (and_zero_l (128 / 2 ^ k))

index_zeros : (n i : ℕ) → slice_index (zeros n) i ≡ 0
index_zeros n i = elim (cases_lt i n) [
  | inl below ↦ get_or-replicate n i 0 0 below
  | inr past ↦ get_or_past (zeros n) i 0 (omega (arith, past, length-replicate {A = ℕ} n 0))
]

no_bit : (n k : ℕ) → is_used (zeros n) k ≡ false
no_bit n k = ap (λ b. has_bit b (k % 8)) (index_zeros n (k / 8)) ∙ zero_bit (k % 8)

-- of the byte whose highest bit alone is 1
one_bit : (j : ℕ) → j < 7 → has_bit 0x80 (suc j) ≡ false
unfolding has_bit
one_bit zero below = refl
one_bit (suc zero) below = refl
one_bit (suc (suc zero)) below = refl
one_bit (suc (suc (suc zero))) below = refl
one_bit (suc (suc (suc (suc zero)))) below = refl
one_bit (suc (suc (suc (suc (suc zero))))) below = refl
one_bit (suc (suc (suc (suc (suc (suc zero)))))) below = refl
one_bit (suc (suc (suc (suc (suc (suc (suc j))))))) below = absurd (omega (arith, below))

-- the map of the inodes of memory node 0: the first bit alone is used
abbrev pub first_map : List ℕ
first_map = 0x80 ∷ zeros 2047

first_used : is_used first_map 0 ≡ true
unfolding has_bit
first_used = refl

others_unused : (k : ℕ) → 1 ≤ k → is_used first_map k ≡ false
others_unused k some = go (k / 8) refl
  where
    go : (i : ℕ) → k / 8 ≡ i → is_used first_map k ≡ false
    go zero here =
        let last : k % 8 ≡ suc (k % 8 - 1) = omega (arith, some, here) in
        ap (λ i. has_bit (slice_index first_map i) (k % 8)) here ∙ ap (has_bit 0x80) last ∙ one_bit (k % 8 - 1) (omega arith)
    go (suc i) here = ap (λ i. has_bit (slice_index first_map i) (k % 8)) here ∙ ap (λ b. has_bit b (k % 8)) (index_zeros 2047 i) ∙ zero_bit (k % 8)

-- ---- records

free_words : inode_words (free_inode 0 0) ≡ replicate 32 0
unfolding inode_words
free_words = refl

spelled_zeros : (n : ℕ) → spelled (replicate n 0) ≡ zeros (4 * n)
unfolding spelled
spelled_zeros zero = refl
spelled_zeros (suc n) =
    let more : 4 * suc n ≡ suc (suc (suc (suc (4 * n)))) = omega arith in
    ap (λ (bytes : List ℕ). 0 ∷ 0 ∷ 0 ∷ 0 ∷ bytes) (spelled_zeros n) ∙ sym (ap zeros more)

root_words : AreWords (inode_words root)
unfolding inode_words
root_words =
    let none : List ℕ = replicate 32 0 in
    let kind : List ℕ = slice_set none 0 2 in
    let mode : List ℕ = slice_set kind 1 0x1ff in
    let links : List ℕ = slice_set mode 2 2 in
    let generation : List ℕ = slice_set links 6 1 in
    let change : List ℕ = slice_set generation 9 1 in
    AreWords-set change 19 1 (AreWords-set generation 9 1 (AreWords-set links 6 1 (AreWords-set mode 2 2 (AreWords-set kind 1 0x1ff (AreWords-set none 0 2 (zeros_are_words 32)
    (omega arith)) (omega arith)) (omega arith)) (omega arith)) (omega arith)) (omega arith)

root_spelled : SpellsInode root (spelled (inode_words root))
unfolding inode_words
root_spelled =
    record {
      fields = record { kind = inr (inr (inl refl)); mode = omega arith; first = tt; free = λ none. absurd (omega (arith, none)); no_directory = λ other. absurd (other refl) };
      words = root_words;
      bytes_are = refl;
    }

free_spelled : SpellsInode (free_inode 0 0) (zeros 128)
free_spelled =
    record {
      fields = record { kind = inl refl; mode = omega arith; first = tt; free = λ none. refl; no_directory = λ other. (refl, refl) };
      words = subst AreWords (sym free_words) (zeros_are_words 32);
      bytes_are = sym (ap spelled free_words ∙ spelled_zeros 32);
    }

page_spelled : (m memories blocks inodes : ℕ) → m < 2 ^ 32 → memories < 2 ^ 32 → blocks < 2 ^ 32 → inodes < 2 ^ 32
    → AreWords (superblock_words (record { memory = m; memories = memories; blocks = blocks; inodes = inodes }))
unfolding superblock_words
page_spelled m memories blocks inodes wm wn wb wi =
    (words_items (superblock_words (record { memory = m; memories = memories; blocks = blocks; inodes = inodes }))).2
    (omega arith, (omega arith, (wm, (wn, (wb, (wi, tt))))))

-- ---- the parts of an image

module _ (g : Geometry) (limits : IsWithinLimits g) where
  abbrev records : ℕ → List ℕ
  records m = fresh_records g.inodes m

  abbrev size : ℕ
  size = record_bytes g.inodes

  image_is : (m : ℕ) → m < g.memories → held_by (fresh_memory g) m ≡ fresh_image (geometry4 g) m
  image_is m below = get_or-map-range_with_len (fresh_image (geometry4 g)) 0 g.memories m m [] below (omega arith)

  first_part : (m : ℕ) → bytes_at (fresh_image (geometry4 g) m) 0 4096 ≡ fresh_first (geometry4 g) m
  unfolding fresh_image
  first_part m =
      let sized = length-first_page (geometry4 g) m in
      bytes_within (fresh_first (geometry4 g) m) _ 0 4096 (omega (arith, sized)) ∙ bytes_whole (fresh_first (geometry4 g) m) 4096 (sym sized)

  second_part : (m at len : ℕ) → at + len ≤ 4096 → bytes_at (fresh_image (geometry4 g) m) (4096 + at) len ≡ bytes_at (second_page m) at len
  unfolding fresh_image
  second_part m at len within =
      bytes_past (fresh_first (geometry4 g) m) _ (4096 + at) at len (omega (arith, length-first_page (geometry4 g) m))
      ∙ bytes_within (second_page m) _ at len (omega (arith, within, length-second_page m))

  record_part : (m at len : ℕ) → at + len ≤ size → bytes_at (fresh_image (geometry4 g) m) (8192 + at) len ≡ bytes_at (records m) at len
  unfolding fresh_image
  record_part m at len within =
      bytes_past (fresh_first (geometry4 g) m) _ (8192 + at) (4096 + at) len (omega (arith, length-first_page (geometry4 g) m))
      ∙ bytes_past (second_page m) _ (4096 + at) at len (omega (arith, length-second_page m))
      ∙ bytes_within (records m) _ at len (omega (arith, within, length-fresh_records g.inodes m limits.inodes.0))

  -- behind the root's record, and of other memory nodes, there are zeros
  zero_part : (m at len : ℕ) → (m ≡ 0 → 128 ≤ at) → at + len ≤ size → bytes_at (records m) at len ≡ zeros len
  unfolding fresh_records
  zero_part zero at len past within =
      let behind = past refl in
      bytes_past (spelled (inode_words root)) _ at (at - 128) len (omega (arith, behind, length-inode root)) ∙ bytes_zeros (size - 128) (at - 128) len (omega (arith, behind, within))
  zero_part (suc m) at len past within = bytes_zeros size at len within

  root_part : bytes_at (records 0) 0 128 ≡ spelled (inode_words root)
  unfolding fresh_records
  root_part = bytes_within (spelled (inode_words root)) _ 0 128 (omega (arith, length-inode root)) ∙ bytes_whole (spelled (inode_words root)) 128 (sym (length-inode root))

  -- the maps
  block_part : (m : ℕ) → bytes_at (second_page m) 0 2048 ≡ zeros 2048
  unfolding second_page
  block_part zero = bytes_within (zeros 2048) (0x80 ∷ zeros 2047) 0 2048 (omega (arith, length-replicate {A = ℕ} 2048 0)) ∙ bytes_zeros 2048 0 2048 (omega arith)
  block_part (suc m) = bytes_zeros 4096 0 2048 (omega arith)

  inode_part : bytes_at (second_page 0) 2048 2048 ≡ first_map
  unfolding second_page
  inode_part =
      bytes_past (zeros 2048) first_map 2048 0 2048 (omega (arith, length-replicate {A = ℕ} 2048 0))
      ∙ bytes_whole first_map 2048 (omega (arith, length-replicate {A = ℕ} 2047 0))

  inode_others : (m : ℕ) → bytes_at (second_page (suc m)) 2048 2048 ≡ zeros 2048
  unfolding second_page
  inode_others m = bytes_zeros 4096 2048 2048 (omega arith)

  -- ---- the memory shows the fresh tree

  abbrev flat : Flat
  flat = fresh_memory g

  abbrev nobody : Owners
  nobody = record { owner = λ p. None; place = λ n x. None }

  block_map_is : (m : ℕ) → m < g.memories → block_map flat m ≡ zeros 2048
  block_map_is m below = ap (λ (image : List ℕ). bytes_at image 4096 2048) (image_is m below) ∙ second_part m 0 2048 (omega arith) ∙ block_part m

  -- the inode map of memory node 0 has the root's bit, and that of another one none
  inode_map_first : 0 < g.memories → inode_map flat 0 ≡ first_map
  inode_map_first below = ap (λ (image : List ℕ). bytes_at image 6144 2048) (image_is 0 below) ∙ second_part 0 2048 2048 (omega arith) ∙ inode_part

  inode_unused : (m k : ℕ) → m < g.memories → (m ≡ 0 → 1 ≤ k) → is_used (inode_map flat m) k ≡ false
  inode_unused zero k below past = ap (λ (map : List ℕ). is_used map k) (inode_map_first below) ∙ others_unused k (past refl)
  inode_unused (suc m) k below past =
      ap (λ (map : List ℕ). is_used map k)
      (ap (λ (image : List ℕ). bytes_at image 6144 2048) (image_is (suc m) below) ∙ second_part (suc m) 2048 2048 (omega arith) ∙ inode_others m)
      ∙ no_bit 2048 k

  images : (m : ℕ) → m < g.memories → IsImage g flat m
  unfolding fresh_first
  images m below =
      record {
        sized = ap length (image_is m below) ∙ length-fresh_image (geometry4 g) m limits.inodes.0;
        superblock = record {
          words = page_spelled m g.memories g.blocks g.inodes (omega (arith, below, limits.memories)) (omega (arith, limits.memories)) (omega (arith, limits.blocks)) (omega (arith, limits.inodes));
          bytes_are = ap (λ (image : List ℕ). bytes_at image 0 4096) (image_is m below) ∙ first_part m;
        };
        no_block = λ k past within. ap (λ (map : List ℕ). is_used map k) (block_map_is m below) ∙ no_bit 2048 k;
        no_inode = λ k past within. inode_unused m k below (λ first. omega (arith, past, limits.inodes));
        no_record =
            let len = block_place (layout_of g) 0 - record_at g.inodes in
            ap (λ (image : List ℕ). bytes_at image (record_at g.inodes) len) (image_is m below)
            ∙ record_part m (128 * g.inodes) len (omega (arith, limits.inodes)) ∙ zero_part m (128 * g.inodes) len (λ first. omega (arith, limits.inodes)) (omega (arith, limits.inodes));
      }

  abbrev files : FinMap nat_cmp File
  files = (fresh g).files

  kept_none : (n : ℕ) → kept_at (fresh g) n ≡ record { generation = 0; change = 0 }
  kept_none n = ap (λ (o : Option Kept). unwrap_or o (record { generation = 0; change = 0 })) (get-empty nat_cmp n)

  no_file : (n : ℕ) → n ≢ 1 → table.get files n ≡ None
  no_file n apart = get_apart table.empty 1 fresh_root n apart ∙ get-empty nat_cmp n

  root_there : (x : Part) → false ≡ has_part_of (Some fresh_root) x
  root_there (Chain k) = not_below_zero k
    where
      not_below_zero : (k : ℕ) → false ≡ nat_lt k 0
      not_below_zero k = sym (le-ltb k 0 (omega arith))
  root_there (Block index) = sym (le-ltb index 0 (omega arith))

  root_shown : 0 < g.memories → ShowsFile flat (fresh g) (λ x. None) 0 0 (table.get files 1)
  root_shown below =
      let is : table.get files 1 ≡ Some fresh_root = get_here table.empty 1 fresh_root in
      record {
        record_is =
            subst (λ (f : Option File). SpellsInode (inode_of f (kept_at (fresh g) 1) None) (inode_bytes flat 0 0)) (sym is)
            (subst (SpellsInode root) (sym (ap (λ (image : List ℕ). bytes_at image 8192 128) (image_is 0 below) ∙ record_part 0 0 128 (omega (arith, limits.inodes)) ∙ root_part)) root_spelled);
        there = λ x. root_there x ∙ ap (λ (f : Option File). has_part_of f x) (sym is);
        holds = λ f x r live none. absurd (none-some r none);
        bit = ap (λ (map : List ℕ). is_used map 0) (inode_map_first below) ∙ first_used
            ∙ ap (λ (f : Option File). not (not (is_some f) && (nat_lt (kept_at (fresh g) 1).generation (2 ^ 32 - 1) && nat_lt (kept_at (fresh g) 1).change (2 ^ 64 - 1)))) (sym is);
      }

  other_shown : (m inode : ℕ) → m < g.memories → inode < g.inodes → number_of m inode ≢ 1 → (m ≡ 0 → 1 ≤ inode)
      → ShowsFile flat (fresh g) (λ x. None) m inode (table.get files (number_of m inode))
  other_shown m inode below within apart past =
      let is : table.get files (number_of m inode) ≡ None = no_file (number_of m inode) apart in
      record {
        record_is =
            subst (λ (f : Option File). SpellsInode (inode_of f (kept_at (fresh g) (number_of m inode)) None) (inode_bytes flat m inode)) (sym is)
            (subst (λ (k : Kept). SpellsInode (inode_of None k None) (inode_bytes flat m inode)) (sym (kept_none (number_of m inode)))
            (subst (SpellsInode (free_inode 0 0))
            (sym (ap (λ (image : List ℕ). bytes_at image (record_at inode) 128) (image_is m below) ∙ record_part m (128 * inode) 128 (omega (arith, within))
            ∙ zero_part m (128 * inode) 128 (λ first. omega (arith, past first)) (omega (arith, within)))) free_spelled));
        there = λ x. ap (λ (f : Option File). has_part_of f x) (sym is);
        holds = λ f x r live none. absurd (none-some r none);
        bit = inode_unused m inode below past ∙ sym (
            ap (λ (f : Option File). not (not (is_some f) && (nat_lt (kept_at (fresh g) (number_of m inode)).generation (2 ^ 32 - 1) && nat_lt (kept_at (fresh g) (number_of m inode)).change (2 ^ 64 - 1)))) is
            ∙ ap (λ (k : Kept). not (nat_lt k.generation (2 ^ 32 - 1) && nat_lt k.change (2 ^ 64 - 1))) (kept_none (number_of m inode)));
      }

  fresh_shown : (m inode : ℕ) → m < g.memories → inode < g.inodes → ShowsFile flat (fresh g) (λ x. None) m inode (table.get files (number_of m inode))
  fresh_shown zero zero below within = root_shown below
  fresh_shown zero (suc inode) below within = other_shown 0 (suc inode) below within (λ one. omega (arith, one)) (λ first. omega arith)
  fresh_shown (suc m) inode below within = other_shown (suc m) inode below within (λ one. omega (arith, one)) (λ first. omega (arith, first))

  pub fresh_shows : Stands flat (fresh g)
  fresh_shows =
      record {
        good = fresh_good g limits;
        owners = nobody;
        shows = record {
          memories = length-map (range_with_len 0 g.memories) (fresh_image (geometry4 g)) ∙ length-range_with_len 0 g.memories;
          images = images;
          inverse = record { owned = λ n x p none. absurd (none-some p none); placed = λ n x p none. absurd (none-some _ none) };
          inside = λ n x p none. absurd (none-some p none);
          files = fresh_shown;
          bits = λ p block. ap (λ (map : List ℕ). is_used map p.block) (block_map_is p.memory block.memory) ∙ no_bit 2048 p.block;
        };
      }

pub fresh_stands : FreshStands
fresh_stands g limits = fresh_shows g limits
