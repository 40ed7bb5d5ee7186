-- What files contain stays in order: bytes that are written, and a size that is set.
use Rattle.std.proofs.Common.{◌≡◌, ◌≢◌, ℕ, zero, suc, ◌+◌, ◌-◌, ◌*◌, ◌/◌, ◌%◌, ◌<◌, ◌≤◌, Bool, true, false, cond, ◌&&◌, eqb, List, [], ◌∷◌, length, map, take, replicate, get_or, Option, Some, None, ◌⊎◌, inl, inr, refl, sym, ap, subst, ◌∙◌, arith}
use Rattle.std.specs.Prelude.{nat_lt, nat_le, max, IsSome, slice_index}
use Rattle.std.specs.List.{All, AllByRecursion}
use Rattle.std.specs.Option.{option_map_or}
use Rattle.std.specs.Ordering.{nat_cmp, eq_by_cmp}
use Rattle.std.specs.Cmp.{nat_cmp_total}
use Rattle.std.specs.FinMap as table
use Rattle.std.specs.FinMap.{get-insert, get-empty}
use Rattle.std.proofs.lemmas.Bool.{cases_lt, ltb-true, ltb-false}
use Rattle.std.proofs.lemmas.Bool.Decides.{nat_tests}
use Rattle.std.proofs.lemmas.List.{length-map, length-append, length-take-le, length-replicate, get_or-map, get_or_past, get_or_push, get_or_append_left, get_or-append_right, get_or-replicate}
use Rattle.std.proofs.lemmas.List.Elements.{All-map, recursion_from_All}
use Rattle.sfs_base.specs.Reading.{IsBytes}
use Rattle.sfs_base.proofs.ReadingLemmas.{IsBytes-append, IsBytes-take}
use Rattle.sfs_base.proofs.MapLemmas.{get_retain}
use Rattle.fs_rules.specs.Lists.{below}
use Rattle.fs_rules.specs.File.{BlockMap}
use Rattle.fs_rules.specs.Contents.{byte_at, byte_after, block_after, touched, store, written, zeroed_from, blocks_below, cut, resized}
use Rattle.fs_rules.specs.Good.{IsStored}
use Rattle.fs_laws.proofs.ToldLemmas.{length_below}

-- ---- numbers below

pub get_below : (n i d : ℕ) → i < n → get_or (below n) i d ≡ i
unfolding below
get_below zero i d h = absurd (omega arith)
get_below (suc n) i d h =
    elim (cases_lt i n) [
      | inl lt ↦ get_or_append_left (below n) (n ∷ []) d i (omega (arith, length_below n)) ∙ get_below n i d lt
      | inr ge ↦ get_or_push (below n) n d i (omega (arith, length_below n)) ∙ (let e : n ≡ i = omega arith in e)
    ]

-- ---- bytes

-- a byte of a file is one
byte_below : (size : ℕ) (blocks : BlockMap) → IsStored size blocks → (place : ℕ) → byte_at blocks place < 256
byte_below size blocks stored place = go (table.get blocks (place / 4096)) refl where
  go : (o : Option (List ℕ)) → table.get blocks (place / 4096) ≡ o → option_map_or (λ (b : List ℕ). slice_index b (place % 4096)) o 0 < 256
  go None is = omega arith
  go (Some b) is = (stored.whole (place / 4096) b is).1 (place % 4096)

-- and past the size it is zero
byte_past : (size : ℕ) (blocks : BlockMap) → IsStored size blocks → (place : ℕ) → size ≤ place → byte_at blocks place ≡ 0
byte_past size blocks stored place le = go (table.get blocks (place / 4096)) refl where
  go : (o : Option (List ℕ)) → table.get blocks (place / 4096) ≡ o → option_map_or (λ (b : List ℕ). slice_index b (place % 4096)) o 0 ≡ 0
  go None is = refl
  go (Some b) is = stored.zeros (place / 4096) (place % 4096) b is (omega arith)

-- what there is of a map
some_of : {X : Type 0} (o : Option X) → IsSome o → (x : X) × (o ≡ Some x)
some_of None h = absurd cc
some_of (Some x) h = (x, refl)

-- a block that is stored in a map, or one of those that are stored now
store_has : (block : ℕ → List ℕ) (P : ℕ → Type 0) (ks : List ℕ) → AllByRecursion P ks → (blocks : BlockMap) (q : ℕ) (v : List ℕ)
    → table.get (store block ks blocks) q ≡ Some v → (P q × (v ≡ block q)) ⊎ (table.get blocks q ≡ Some v)
unfolding store
store_has block P [] all blocks q v h = inr h
store_has block P (k ∷ ks) all blocks q v h = elim (store_has block P ks all.1 (table.insert blocks k (block k)) q v h) [
  | inl new ↦ inl new
  | inr old ↦ go (eq_by_cmp nat_cmp q k) refl (sym (get-insert nat_cmp_total blocks k (block k) q) ∙ old)
] where
  go : (b : Bool) → eq_by_cmp nat_cmp q k ≡ b → cond b (Some (block k)) (table.get blocks q) ≡ Some v → (P q × (v ≡ block q)) ⊎ (table.get blocks q ≡ Some v)
  go true is e =
      let same : q ≡ k = grind (arith, nat_tests) in
      inl (subst P (sym same) all.0, (let v_is : block k ≡ v = cc in sym v_is) ∙ ap block (sym same))
  go false is e = inr e

-- ---- WRITE

touched_at : (offset n k : ℕ) → 1 ≤ n → k < (offset + n - 1) / 4096 + 1 - offset / 4096 → 4096 * (offset / 4096 + k) < offset + n
touched_at offset n k pos h = omega arith

touched_below : (offset n : ℕ) → AllByRecursion (λ k. 4096 * k < offset + n) (touched offset n)
unfolding touched
touched_below offset n = go (eqb n 0) refl where
  count : ℕ
  count = (offset + n - 1) / 4096 + 1 - offset / 4096

  each : 1 ≤ n → All (λ k. 4096 * (offset / 4096 + k) < offset + n) (below ((offset + n - 1) / 4096 + 1 - offset / 4096))
  each pos k d h =
      let lt : k < (offset + n - 1) / 4096 + 1 - offset / 4096 = omega (arith, length_below ((offset + n - 1) / 4096 + 1 - offset / 4096)) in
      subst (λ (x : ℕ). 4096 * (offset / 4096 + x) < offset + n) (sym (get_below ((offset + n - 1) / 4096 + 1 - offset / 4096) k d lt)) (touched_at offset n k pos lt)

  go : (b : Bool) → eqb n 0 ≡ b
      → AllByRecursion (λ k. 4096 * k < offset + n) (cond b [] (map (λ k. offset / 4096 + k) (below ((offset + n - 1) / 4096 + 1 - offset / 4096))))
  go true is = tt
  go false is =
      let pos : 1 ≤ n = grind (arith, nat_tests) in
      recursion_from_All (λ k. 4096 * k < offset + n) (map (λ k. offset / 4096 + k) (below ((offset + n - 1) / 4096 + 1 - offset / 4096)))
      (All-map (λ k. 4096 * k < offset + n) (λ k. offset / 4096 + k) (below ((offset + n - 1) / 4096 + 1 - offset / 4096)) (each pos))

module _ (size : ℕ) (blocks : BlockMap) (stored : IsStored size blocks) (offset : ℕ) (bytes : List ℕ) (fit : IsBytes bytes) where
  after_below : (place : ℕ) → byte_after blocks offset bytes place < 256
  after_below place = elim (nat_le offset place && nat_lt place (offset + length bytes)) as (λ b. cond b (slice_index bytes (place - offset)) (byte_at blocks place) < 256) [
    | true ↦ fit (place - offset)
    | false ↦ byte_below size blocks stored place
  ]

  after_past : (place : ℕ) → size ≤ place → offset + length bytes ≤ place → byte_after blocks offset bytes place ≡ 0
  after_past place le behind =
      let e : (nat_le offset place && nat_lt place (offset + length bytes)) ≡ false = grind (arith, nat_tests) in
      ap (λ b. cond b (slice_index bytes (place - offset)) (byte_at blocks place)) e ∙ byte_past size blocks stored place le

  after_length : (n k : ℕ) → length (map (λ i. byte_after blocks offset bytes (4096 * k + i)) (below n)) ≡ n
  after_length n k = length-map (below n) (λ i. byte_after blocks offset bytes (4096 * k + i)) ∙ length_below n

  after_at : (n k i : ℕ) → i < n → get_or (map (λ i. byte_after blocks offset bytes (4096 * k + i)) (below n)) i 0 ≡ byte_after blocks offset bytes (4096 * k + i)
  after_at n k i lt =
      get_or-map (λ i. byte_after blocks offset bytes (4096 * k + i)) (below n) i 0 0 (omega (arith, length_below n))
      ∙ ap (λ (x : ℕ). byte_after blocks offset bytes (4096 * k + x)) (get_below n i 0 lt)

  after_bytes : (n k : ℕ) → IsBytes (map (λ i. byte_after blocks offset bytes (4096 * k + i)) (below n))
  after_bytes n k i = elim (cases_lt i n) [
    | inl lt ↦ subst (λ (x : ℕ). x < 256) (sym (after_at n k i lt)) (after_below (4096 * k + i))
    | inr ge ↦ subst (λ (x : ℕ). x < 256) (sym (get_or_past (map (λ i. byte_after blocks offset bytes (4096 * k + i)) (below n)) i 0 (omega (arith, after_length n k)))) (omega arith)
  ]

  after_zeros : (n k i : ℕ) → size ≤ 4096 * k + i → offset + length bytes ≤ 4096 * k + i
      → get_or (map (λ i. byte_after blocks offset bytes (4096 * k + i)) (below n)) i 0 ≡ 0
  after_zeros n k i le behind = elim (cases_lt i n) [
    | inl lt ↦ after_at n k i lt ∙ after_past (4096 * k + i) le behind
    | inr ge ↦ get_or_past (map (λ i. byte_after blocks offset bytes (4096 * k + i)) (below n)) i 0 (omega (arith, after_length n k))
  ]

  -- bytes that are written leave a file's blocks in order
  pub written_stored : IsStored (max size (offset + length bytes)) (written blocks offset bytes)
  unfolding written block_after
  written_stored = record {
    below = λ k there. let v = some_of _ there in elim (has k v.0 v.1) [
      | inl new ↦ omega (arith, new.0)
      | inr old ↦ omega (arith, stored.below k (subst IsSome (sym old) refl))
    ];
    whole = λ k v is. elim (has k v is) [
      | inl new ↦ subst (λ (b : List ℕ). (length b ≡ 4096) × IsBytes b) (sym new.1) (after_length 4096 k, after_bytes 4096 k)
      | inr old ↦ stored.whole k v old
    ];
    zeros = λ k i v is past. elim (has k v is) [
      | inl new ↦ subst (λ (b : List ℕ). slice_index b i ≡ 0) (sym new.1) (after_zeros 4096 k i (omega arith) (omega arith))
      | inr old ↦ stored.zeros k i v old (omega arith)
    ];
  } where
    has : (k : ℕ) (v : List ℕ) → table.get (store (block_after blocks offset bytes) (touched offset (length bytes)) blocks) k ≡ Some v
        → ((4096 * k < offset + length bytes) × (v ≡ block_after blocks offset bytes k)) ⊎ (table.get blocks k ≡ Some v)
    has = store_has (block_after blocks offset bytes) (λ k. 4096 * k < offset + length bytes) (touched offset (length bytes)) (touched_below offset (length bytes)) blocks

-- nothing is stored, and that is in order
pub empty_stored : IsStored 0 table.empty
empty_stored = record {
  below = λ k there. absurd (let e : IsSome {T = List ℕ} None = subst IsSome (get-empty nat_cmp k) there in cc);
  whole = λ k v is. absurd (let e : ◌≡◌ {A = Option (List ℕ)} None (Some v) = sym (get-empty nat_cmp k) ∙ is in cc);
  zeros = λ k i v is past. absurd (let e : ◌≡◌ {A = Option (List ℕ)} None (Some v) = sym (get-empty nat_cmp k) ∙ is in cc);
}

-- ---- a new size

zeros_at : (n i : ℕ) → get_or {A = ℕ} (replicate n 0) i 0 ≡ 0
zeros_at n i = elim (cases_lt i n) [
  | inl lt ↦ get_or-replicate {A = ℕ} n i 0 0 lt
  | inr ge ↦ get_or_past {X = ℕ} (replicate n 0) i 0 (omega (arith, length-replicate {A = ℕ} n 0))
]

-- a block whose end is zeroed
record IsZeroed (at : ℕ) (block : List ℕ) : Type 0 where
  size : length block ≡ 4096
  bytes : IsBytes block
  zeros : (i : ℕ) → at ≤ i → slice_index block i ≡ 0

zeroed : (at : ℕ) (block : List ℕ) → at ≤ 4096 → length block ≡ 4096 → IsBytes block → IsZeroed at (zeroed_from at block)
zeroed at block le whole bytes =
    let front : length (take at block) ≡ at = length-take-le at block (omega arith) in
    record {
      size = length-append (take at block) (replicate (length block - at) 0) ∙ omega (arith, length-replicate {A = ℕ} (length block - at) 0);
      bytes = IsBytes-append (take at block) (replicate (length block - at) 0) (IsBytes-take at block bytes)
          (λ i. subst (λ (x : ℕ). x < 256) (sym (zeros_at (length block - at) i)) (omega arith));
      zeros = λ i behind. get_or-append_right (take at block) (replicate (length block - at) 0) at i 0 front behind ∙ zeros_at (length block - at) (i - at);
    }

-- what a cut map has: a block that is kept as it was, or the last one, zeroed
record IsKept (size : ℕ) (blocks : BlockMap) (q : ℕ) (v : List ℕ) : Type 0 where
  below : 4096 * q < size
  there : table.get blocks q ≡ Some v

below_has : (size : ℕ) (blocks : BlockMap) (q : ℕ) (v : List ℕ) → table.get (blocks_below size blocks) q ≡ Some v → IsKept size blocks q v
below_has size blocks q v h = go (nat_lt (4096 * q) size) refl (sym (get_retain blocks (λ k. nat_lt (4096 * k) size) q) ∙ h) where
  go : (b : Bool) → nat_lt (4096 * q) size ≡ b → cond b (table.get blocks q) None ≡ Some v → IsKept size blocks q v
  go true is e = record { below = ltb-true (4096 * q) size is; there = e }
  go false is e = absurd cc

abbrev CutHas : ℕ → BlockMap → ℕ → List ℕ → Type 0
CutHas size blocks q v = ((q ≢ size / 4096) × IsKept size blocks q v)
    ⊎ ((q ≡ size / 4096) × ((w : List ℕ) × IsKept size blocks q w × (v ≡ zeroed_from (size % 4096) w)))

cut_has : (size : ℕ) (blocks : BlockMap) (q : ℕ) (v : List ℕ) → table.get (cut size blocks) q ≡ Some v → CutHas size blocks q v
unfolding cut
cut_has size blocks q v = go (table.get (blocks_below size blocks) (size / 4096)) refl where
  other : (q ≢ size / 4096) → table.get (blocks_below size blocks) q ≡ Some v → CutHas size blocks q v
  other apart e = inl (apart, below_has size blocks q v e)

  at : (w : List ℕ) → table.get (blocks_below size blocks) (size / 4096) ≡ Some w → (b : Bool) → eq_by_cmp nat_cmp q (size / 4096) ≡ b
      → cond b (Some (zeroed_from (size % 4096) w)) (table.get (blocks_below size blocks) q) ≡ Some v → CutHas size blocks q v
  at w is true same e =
      let q_is : q ≡ size / 4096 = grind (arith, nat_tests) in
      inr (q_is, (w, below_has size blocks q w (ap (table.get (blocks_below size blocks)) q_is ∙ is), (let v_is : zeroed_from (size % 4096) w ≡ v = cc in sym v_is)))
  at w is false same e = other (λ q_is. absurd (let yes' : eq_by_cmp nat_cmp q (size / 4096) ≡ true = grind (arith, nat_tests) in let f : true ≡ false = sym yes' ∙ same in cc)) e

  go : (o : Option (List ℕ)) → table.get (blocks_below size blocks) (size / 4096) ≡ o
      → table.get (option_map_or (λ block. table.insert (blocks_below size blocks) (size / 4096) (zeroed_from (size % 4096) block)) o (blocks_below size blocks)) q ≡ Some v
      → CutHas size blocks q v
  go None is h = other (λ q_is. absurd (let e : ◌≡◌ {A = Option (List ℕ)} None (Some v) = sym is ∙ sym (ap (table.get (blocks_below size blocks)) q_is) ∙ h in cc)) h
  go (Some w) is h = at w is (eq_by_cmp nat_cmp q (size / 4096)) refl
      (sym (get-insert nat_cmp_total (blocks_below size blocks) (size / 4096) (zeroed_from (size % 4096) w) q) ∙ h)

-- a smaller size leaves a file's blocks in order
pub cut_stored : (old size : ℕ) (blocks : BlockMap) → IsStored old blocks → IsStored size (cut size blocks)
cut_stored old size blocks stored = record {
  below = λ k there. let v = some_of _ there in elim (cut_has size blocks k v.0 v.1) [
    | inl kept ↦ kept.1.below
    | inr last ↦ last.1.1.below
  ];
  whole = λ k v is. elim (cut_has size blocks k v is) [
    | inl kept ↦ stored.whole k v kept.1.there
    | inr last ↦ let z = last_zeroed k v last in (z.size, z.bytes)
  ];
  zeros = λ k i v is past. elim (cut_has size blocks k v is) [
    | inl kept ↦
        let w = stored.whole k v kept.1.there in
        let apart = kept.0 in
        let below' = kept.1.below in
        get_or_past v i 0 (omega (arith, w.0))
    | inr last ↦ (last_zeroed k v last).zeros i (let same = last.0 in omega arith)
  ];
} where
  last_zeroed : (k : ℕ) (v : List ℕ) → (k ≡ size / 4096) × ((w : List ℕ) × IsKept size blocks k w × (v ≡ zeroed_from (size % 4096) w)) → IsZeroed (size % 4096) v
  last_zeroed k v last =
      let w = stored.whole k last.1.0 last.1.1.there in
      subst (IsZeroed (size % 4096)) (sym last.1.2) (zeroed (size % 4096) last.1.0 (omega arith) w.0 w.1)

-- blocks that are in order for a size are for a greater one
pub wider_stored : (old size : ℕ) (blocks : BlockMap) → IsStored old blocks → old ≤ size → IsStored size blocks
wider_stored old size blocks stored le = record {
  below = λ k there. omega (arith, stored.below k there);
  whole = stored.whole;
  zeros = λ k i v is past. stored.zeros k i v is (omega arith);
}

-- a size that is set leaves a file's blocks in order
pub resized_stored : (old size : ℕ) (blocks : BlockMap) → IsStored old blocks → IsStored size (resized old size blocks)
resized_stored old size blocks stored = go (nat_lt size old) refl where
  go : (b : Bool) → nat_lt size old ≡ b → IsStored size (cond b (cut size blocks) blocks)
  go true is = cut_stored old size blocks stored
  go false is = wider_stored old size blocks stored (ltb-false size old is)
