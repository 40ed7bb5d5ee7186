-- The blocks in use are as many as the tree uses.
use Rattle.std.proofs.Common.{◌≡◌, ◌≢◌, ℕ, zero, suc, ◌+◌, ◌*◌, ◌<◌, ◌≤◌, true, false, Bool, List, [], ◌∷◌, Option, Some, None, inl, inr, refl, sym, ap, ◌∙◌, arith}
use Rattle.std.specs.Prelude.{◌-◌, ◌/◌, ◌==◌, ◌&&◌, nat_lt, length, sum_by, is_some, if◌then◌else◌}
use Rattle.std.specs.Ordering.{nat_cmp}
use Rattle.std.specs.FinMap as table
use Rattle.std.specs.FinMap.{FinMap, get, remove, entries, get-empty, len-entries}
use Rattle.std.proofs.lemmas.Bool.{true≢false, cases_Bool, cases_eq, cases_order, and_parts, eqb-true, eq-eqb, ne_eqb, lt-ltb, le-ltb}
use Rattle.std.proofs.lemmas.Option.{none-some}
use Rattle.std.proofs.lemmas.List.Sums.{sum_by-cons}
use Rattle.sfs_base.proofs.MapLemmas.{get_removed, get_past_remove}
use Rattle.fs_layout.specs.declared.reference.Reference.{Reference}
use Rattle.fs_bitmap.specs.Bits.{is_used, free_below}
use Rattle.fs_rules.specs.declared.content.Content.{Content}
use Rattle.fs_rules.specs.declared.content.Content.TheVariants.{Regular, Link, Directory}
use Rattle.fs_rules.specs.declared.file.File.{File}
use Rattle.fs_rules.specs.declared.plain_tree.PlainTree.{PlainTree}
use Rattle.fs_rules.specs.File.{BlockMap, used}
use Rattle.fs_rules.specs.Good.{IsGood}
use Rattle.fs_rules.specs.Numbers.{used_in_all, free_blocks}
use Rattle.mini_tx.specs.FlatMemory.{Flat}
use Rattle.fs_image.specs.Owners.{Part, Chain, Block, Owned, Owners, is_same_part}
use Rattle.fs_image.specs.Parts.{chains_of, is_stored, has_part, has_part_of}
use Rattle.fs_image.specs.Places.{block_map}
use Rattle.fs_image.specs.Stands.{IsBlock, Shows}
use Rattle.fs_image.specs.Counts.{sum_below, free_bits, FreeBlocksAreFreeBits}
use Rattle.fs_image.proofs.OwnerLemmas.{same_part, part_same, some_same}
use Rattle.fs_image.proofs.ContentLemmas.{stored_chains}
use Rattle.fs_image.proofs.SumLemmas.{flag, sum_alike, sum_both, sum_none, sum_one, sum_same, entries_sum}

-- ---- how many blocks a content stores

lt_next : (k n : ℕ) → flag (nat_lt k (suc n)) ≡ flag (nat_lt k n) + flag (k == n)
lt_next k n = elim (cases_order k n) [
  | inl same ↦ ap flag (lt-ltb k (suc n) (omega (arith, same))) ∙ sums (nat_lt k n) (k == n) (le-ltb k n (omega (arith, same))) (eq-eqb k n same)
  | inr rest ↦ elim rest [
    | inl less ↦ ap flag (lt-ltb k (suc n) (omega (arith, less))) ∙ sums_first (nat_lt k n) (k == n) (lt-ltb k n less) (ne_eqb k n (λ same. omega (arith, same, less)))
    | inr more ↦ ap flag (le-ltb k (suc n) more) ∙ sums_none (nat_lt k n) (k == n) (le-ltb k n (omega (arith, more))) (ne_eqb k n (λ same. omega (arith, same, more)))
  ]
]
  where
    sums : (a b : Bool) → a ≡ false → b ≡ true → 1 ≡ flag a + flag b
    sums a b na nb = sym (ap (λ x. flag x + flag b) na ∙ ap (λ x. 0 + flag x) nb)

    sums_first : (a b : Bool) → a ≡ true → b ≡ false → 1 ≡ flag a + flag b
    sums_first a b na nb = sym (ap (λ x. flag x + flag b) na ∙ ap (λ x. 1 + flag x) nb)

    sums_none : (a b : Bool) → a ≡ false → b ≡ false → 0 ≡ flag a + flag b
    sums_none a b na nb = sym (ap (λ x. flag x + flag b) na ∙ ap (λ x. 0 + flag x) nb)

-- how many of the first numbers are below another
below_counted : (n m : ℕ) → m ≤ n → sum_below n (λ i. flag (nat_lt i m)) ≡ m
below_counted zero m within = omega (arith, within)
below_counted (suc n) m within = elim (cases_eq m (suc n)) [
  | inl last ↦ omega (arith, last, sum_alike n (λ i. flag (nat_lt i m)) (λ i. 1) (λ i below. ap flag (lt-ltb i m (omega (arith, below, last)))), sum_same n 1, ap flag (lt-ltb n m (omega (arith, last))))
  | inr less ↦ omega (arith, below_counted n m (omega (arith, within, less)), ap flag (le-ltb n m (omega (arith, within, less))))
]

ones : {X : Type 0} (es : List X) → sum_by (λ (e : X). 1) es ≡ length es
ones [] = refl
ones (e ∷ es) = sum_by-cons (λ e. 1) e es ∙ omega (arith, ones es)

module _ (bound : ℕ) where
  abbrev stored : BlockMap → ℕ
  stored m = sum_below bound (λ i. flag (is_some (get m i)))

  abbrev IsBelow : BlockMap → Type 0
  IsBelow m = (k : ℕ) → is_some (get m k) ≡ true → k < bound

  here_or_left : (m : BlockMap) (k : ℕ) (v : List ℕ) → get m k ≡ Some v → (i : ℕ) → flag (is_some (get m i)) ≡ flag (is_some (get (remove m k) i)) + flag (i == k)
  here_or_left m k v is i = elim (cases_eq i k) [
    | inl same ↦
        let here : flag (is_some (get m i)) ≡ 1 = ap (λ j. flag (is_some (get m j))) same ∙ ap (λ o. flag (is_some o)) is in
        let gone : flag (is_some (get (remove m k) i)) ≡ 0 = ap (λ o. flag (is_some o)) (get_removed m k i same) in
        omega (arith, here, gone, ap flag (eq-eqb i k same))
    | inr apart ↦
        let stays : flag (is_some (get (remove m k) i)) ≡ flag (is_some (get m i)) = ap (λ o. flag (is_some o)) (get_past_remove m k i apart) in
        omega (arith, stays, ap flag (ne_eqb i k apart))
  ]

  stays_below : (m : BlockMap) (k : ℕ) → IsBelow m → IsBelow (remove m k)
  stays_below m k below q there = elim (cases_eq q k) [
    | inl same ↦ absurd (true≢false (sym there ∙ ap is_some (get_removed m k q same)))
    | inr apart ↦ below q (sym (ap is_some (get_past_remove m k q apart)) ∙ there)
  ]

  one_fewer : (m : BlockMap) (k : ℕ) (v : List ℕ) → IsBelow m → get m k ≡ Some v → stored m ≡ stored (remove m k) + 1
  one_fewer m k v below is =
      let one : sum_below bound (λ i. flag (i == k)) ≡ flag (k == k) =
      sum_one bound k (λ i. flag (i == k)) (below k (ap is_some is)) (λ i under apart. ap flag (ne_eqb i k apart)) in
      omega (
        arith,
        sum_alike bound (λ i. flag (is_some (get m i))) (λ i. flag (is_some (get (remove m k) i)) + flag (i == k)) (λ i under. here_or_left m k v is i),
        sum_both bound (λ i. flag (is_some (get (remove m k) i))) (λ i. flag (i == k)),
        one,
        ap flag (eq-eqb k k refl),
      )

  none_stored : stored table.empty ≡ 0
  none_stored = sum_none bound (λ i. flag (is_some (get (table.empty {X = List ℕ} {R = nat_cmp}) i))) (λ i under. ap (λ o. flag (is_some o)) (get-empty nat_cmp i))

  map_stored : (m : BlockMap) → IsBelow m → stored m ≡ table.len m
  map_stored m below = entries_sum (λ e. 1) stored IsBelow none_stored stays_below one_fewer m below ∙ ones (entries m) ∙ sym (len-entries m)

-- the blocks that are stored, below the least index that no chaining block refers to
abbrev pub stored_of : Content → ℕ
stored_of c = sum_below (510 * chains_of c) (λ i. flag (is_stored c i))

within_bound : (c : Content) (i : ℕ) → is_stored c i ≡ true → i < 510 * chains_of c
within_bound c i is = omega (arith, stored_chains c i is)

pub stored_used : (c : Content) → stored_of c + chains_of c ≡ used c
stored_used (Regular blocks) = omega (arith, map_stored (510 * chains_of (Regular blocks)) blocks (within_bound (Regular blocks)))
stored_used (Link blocks) = omega (arith, map_stored (510 * chains_of (Link blocks)) blocks (within_bound (Link blocks)))
stored_used (Directory slots parent) =
    omega (arith, below_counted (510 * chains_of (Directory slots parent)) (length slots / 15) (all_within (length slots / 15) (λ i. within_bound (Directory slots parent) i)))
  where
    all_within : (n : ℕ) → ((i : ℕ) → nat_lt i n ≡ true → i < 510 * chains_of (Directory slots parent)) → n ≤ 510 * chains_of (Directory slots parent)
    all_within zero within = omega arith
    all_within (suc n) within = within n (lt-ltb n (suc n) (omega arith))

-- ---- sums over all blocks

-- what an owner adds where it is of a file
abbrev pub of_file : ℕ → (Part → ℕ) → Option Owned → ℕ
of_file n count None = 0
of_file n count (Some w) = if w.file == n then count w.part else 0

abbrev pub is_owned : ℕ → Part → Option Owned → Bool
is_owned n x None = false
is_owned n x (Some w) = (w.file == n) && is_same_part w.part x

abbrev pub chain_below : ℕ → Part → ℕ
chain_below n (Chain k) = flag (nat_lt k n)
chain_below n (Block i) = 0

abbrev pub block_below : ℕ → Part → ℕ
block_below n (Chain k) = 0
block_below n (Block i) = flag (nat_lt i n)

owned_is : (n : ℕ) (x : Part) (w : Option Owned) → is_owned n x w ≡ true → w ≡ Some (record { file = n; part = x })
owned_is n x None is = absurd (true≢false (sym is))
owned_is n x (Some w) is =
    let parts = and_parts (w.file == n) (is_same_part w.part x) is in
    λ i. Some (record { file = (eqb-true w.file n parts.0) i; part = (same_part w.part x parts.1) i })

it_is : (n : ℕ) (x : Part) → is_owned n x (Some (record { file = n; part = x })) ≡ true
it_is n x = ap (λ b. b && is_same_part x x) (eq-eqb n n refl) ∙ part_same x

next_chain : (n k : ℕ) (w : Option Owned) → of_file n (chain_below (suc k)) w ≡ of_file n (chain_below k) w + flag (is_owned n (Chain k) w)
next_chain n k None = refl
next_chain n k (Some w) = go (w.file == n) w.part
  where
    go : (b : Bool) (x : Part) → (if b then chain_below (suc k) x else 0) ≡ (if b then chain_below k x else 0) + flag (b && is_same_part x (Chain k))
    go true (Chain j) = lt_next j k
    go true (Block j) = refl
    go false (Chain j) = refl
    go false (Block j) = refl

next_block : (n k : ℕ) (w : Option Owned) → of_file n (block_below (suc k)) w ≡ of_file n (block_below k) w + flag (is_owned n (Block k) w)
next_block n k None = refl
next_block n k (Some w) = go (w.file == n) w.part
  where
    go : (b : Bool) (x : Part) → (if b then block_below (suc k) x else 0) ≡ (if b then block_below k x else 0) + flag (b && is_same_part x (Block k))
    go true (Chain j) = refl
    go true (Block j) = lt_next j k
    go false (Chain j) = refl
    go false (Block j) = refl

no_chain : (n : ℕ) (w : Option Owned) → of_file n (chain_below 0) w ≡ 0
no_chain n None = refl
no_chain n (Some w) = go (w.file == n) w.part
  where
    go : (b : Bool) (x : Part) → (if b then chain_below 0 x else 0) ≡ 0
    go true (Chain j) = ap flag (le-ltb j 0 (omega arith))
    go true (Block j) = refl
    go false x = refl

no_block : (n : ℕ) (w : Option Owned) → of_file n (block_below 0) w ≡ 0
no_block n None = refl
no_block n (Some w) = go (w.file == n) w.part
  where
    go : (b : Bool) (x : Part) → (if b then block_below 0 x else 0) ≡ 0
    go true (Chain j) = refl
    go true (Block j) = ap flag (le-ltb j 0 (omega arith))
    go false x = refl

-- what a map of files adds for an owner
abbrev pub in_files : FinMap nat_cmp File → Option Owned → ℕ
in_files m None = 0
in_files m (Some w) = flag (is_some (get m w.file))

module _ (flat : Flat) (t : PlainTree) (o : Owners) (shows : Shows flat t o) (good : IsGood t) where
  abbrev memories : ℕ
  memories = t.geometry.memories

  abbrev blocks : ℕ
  blocks = t.geometry.blocks

  abbrev at : ℕ → ℕ → Reference
  at m b = record { memory = m; block = b }

  -- the sum over all blocks of what their owners add
  abbrev over : (Option Owned → ℕ) → ℕ
  over w = sum_below memories (λ m. sum_below blocks (λ b. w (o.owner (at m b))))

  over_alike : (w v : Option Owned → ℕ) → ((p : Reference) → IsBlock t.geometry p → w (o.owner p) ≡ v (o.owner p)) → over w ≡ over v
  over_alike w v same =
      sum_alike memories _ _ (λ m below. sum_alike blocks (λ b. w (o.owner (at m b))) (λ b. v (o.owner (at m b))) (λ b within. same (at m b) (record { memory = below; block = within })))

  over_both : (w v : Option Owned → ℕ) → over (λ x. w x + v x) ≡ over w + over v
  over_both w v =
      sum_alike memories _ _ (λ m below. sum_both blocks (λ b. w (o.owner (at m b))) (λ b. v (o.owner (at m b))))
      ∙ sum_both memories (λ m. sum_below blocks (λ b. w (o.owner (at m b)))) (λ m. sum_below blocks (λ b. v (o.owner (at m b))))

  over_none : (w : Option Owned → ℕ) → ((p : Reference) → IsBlock t.geometry p → w (o.owner p) ≡ 0) → over w ≡ 0
  over_none w none =
      sum_none memories (λ m. sum_below blocks (λ b. w (o.owner (at m b))))
      (λ m below. sum_none blocks (λ b. w (o.owner (at m b))) (λ b within. none (at m b) (record { memory = below; block = within })))

  over_one : (w : Option Owned → ℕ) (r : Reference) → IsBlock t.geometry r → ((p : Reference) → IsBlock t.geometry p → p ≢ r → w (o.owner p) ≡ 0) → over w ≡ w (o.owner r)
  over_one w r block others =
      sum_one memories r.memory (λ m. sum_below blocks (λ b. w (o.owner (at m b)))) block.memory
      (λ m below apart. sum_none blocks (λ b. w (o.owner (at m b)))
      (λ b within. others (at m b) (record { memory = below; block = within }) (λ same. apart (ap (λ (p : Reference). p.memory) same))))
      ∙ sum_one blocks r.block (λ b. w (o.owner (at r.memory b))) block.block
      (λ b within apart. others (at r.memory b) (record { memory = block.memory; block = within }) (λ same. apart (ap (λ (p : Reference). p.block) same)))

  -- a part is held by one block where it has a place, and else by none
  one_place : (n : ℕ) (x : Part) (place : Option Reference) → o.place n x ≡ place → over (λ w. flag (is_owned n x w)) ≡ flag (is_some place)
  one_place n x None is =
      over_none (λ w. flag (is_owned n x w)) (λ p block. elim (cases_Bool (is_owned n x (o.owner p))) [
        | inl owns ↦ absurd (none-some p (sym is ∙ shows.inverse.placed n x p (owned_is n x (o.owner p) owns)))
        | inr not ↦ ap flag not
      ])
  one_place n x (Some r) is =
      over_one (λ w. flag (is_owned n x w)) r (shows.inside n x r is).1 (λ p block apart. elim (cases_Bool (is_owned n x (o.owner p))) [
        | inl owns ↦ absurd (apart (some_same p r (sym (shows.inverse.placed n x p (owned_is n x (o.owner p) owns)) ∙ is)))
        | inr not ↦ ap flag not
      ])
      ∙ ap (λ w. flag (is_owned n x w)) (shows.inverse.owned n x r is) ∙ ap flag (it_is n x)

  chains_over : (n k : ℕ) → over (of_file n (chain_below k)) ≡ sum_below k (λ i. flag (is_some (o.place n (Chain i))))
  chains_over n zero = over_none (of_file n (chain_below 0)) (λ p block. no_chain n (o.owner p))
  chains_over n (suc k) =
      omega (
        arith,
        over_alike (of_file n (chain_below (suc k))) (λ w. of_file n (chain_below k) w + flag (is_owned n (Chain k) w)) (λ p block. next_chain n k (o.owner p)),
        over_both (of_file n (chain_below k)) (λ w. flag (is_owned n (Chain k) w)),
        chains_over n k,
        one_place n (Chain k) (o.place n (Chain k)) refl,
      )

  blocks_over : (n k : ℕ) → over (of_file n (block_below k)) ≡ sum_below k (λ i. flag (is_some (o.place n (Block i))))
  blocks_over n zero = over_none (of_file n (block_below 0)) (λ p block. no_block n (o.owner p))
  blocks_over n (suc k) =
      omega (
        arith,
        over_alike (of_file n (block_below (suc k))) (λ w. of_file n (block_below k) w + flag (is_owned n (Block k) w)) (λ p block. next_block n k (o.owner p)),
        over_both (of_file n (block_below k)) (λ w. flag (is_owned n (Block k) w)),
        blocks_over n k,
        one_place n (Block k) (o.place n (Block k)) refl,
      )

  -- ---- one file

  module _ (n : ℕ) (f : File) (live : table.get t.files n ≡ Some f) where
    abbrev chains : ℕ
    chains = chains_of f.content

    there : (x : Part) → is_some (o.place n x) ≡ has_part f.content x
    there x =
        let number = (good.files n f live).number in
        ap (λ k. is_some (o.place k x)) number.is ∙ (shows.files number.memory number.inode number.there.0 number.there.1).there x
        ∙ ap (λ k. has_part_of (table.get t.files k) x) (sym number.is) ∙ ap (λ file. has_part_of file x) live

    -- each part that a block holds is a chaining block or a stored block
    a_part : (x : Part) → has_part f.content x ≡ true → 1 ≡ chain_below chains x + block_below (510 * chains) x
    a_part (Chain k) has = sym (ap (λ b. flag b + 0) has)
    a_part (Block i) has = sym (ap (λ b. 0 + flag b) (lt-ltb i (510 * chains) (within_bound f.content i has)))

    each_part : (p : Reference) (w : Option Owned) → o.owner p ≡ w
        → of_file n (λ x. 1) w ≡ of_file n (chain_below chains) w + of_file n (block_below (510 * chains)) w
    each_part p None is = refl
    each_part p (Some w) is = go (w.file == n) refl
      where
        go : (b : Bool) → (w.file == n) ≡ b
            → (if b then 1 else 0) ≡ (if b then chain_below chains w.part else 0) + (if b then block_below (510 * chains) w.part else 0)
        go true same =
            let file : w.file ≡ n = eqb-true w.file n same in
            a_part w.part (sym (there w.part) ∙ ap is_some (ap (λ k. o.place k w.part) (sym file) ∙ shows.inverse.placed w.file w.part p is))
        go false apart = refl

    file_over : over (of_file n (λ x. 1)) ≡ used f.content
    file_over =
        omega (
          arith,
          over_alike (of_file n (λ x. 1)) (λ w. of_file n (chain_below chains) w + of_file n (block_below (510 * chains)) w) (λ p block. each_part p (o.owner p) refl),
          over_both (of_file n (chain_below chains)) (of_file n (block_below (510 * chains))),
          chains_over n chains,
          blocks_over n (510 * chains),
          sum_alike chains (λ i. flag (is_some (o.place n (Chain i)))) (λ i. 1) (λ i below. ap flag (there (Chain i) ∙ lt-ltb i chains below)),
          sum_same chains 1,
          sum_alike (510 * chains) (λ i. flag (is_some (o.place n (Block i)))) (λ i. flag (is_stored f.content i)) (λ i below. ap flag (there (Block i))),
          stored_used f.content,
        )

  -- ---- all files

  -- files of the tree
  abbrev pub AreTheTrees : FinMap nat_cmp File → Type 0
  AreTheTrees m = (n : ℕ) (f : File) → get m n ≡ Some f → table.get t.files n ≡ Some f

  some_file : (file : Option File) → is_some file ≡ true → (f : File) × (file ≡ Some f)
  some_file None is = absurd (true≢false (sym is))
  some_file (Some f) is = (f, refl)

  stay_the_trees : (m : FinMap nat_cmp File) (k : ℕ) → AreTheTrees m → AreTheTrees (remove m k)
  stay_the_trees m k are n f is = elim (cases_eq n k) [
    | inl same ↦ absurd (none-some f (sym (get_removed m k n same) ∙ is))
    | inr apart ↦ are n f (sym (get_past_remove m k n apart) ∙ is)
  ]

  abbrev one_if : Bool → ℕ
  one_if b = if b then 1 else 0

  here_or_others : (m : FinMap nat_cmp File) (k : ℕ) (f : File) → get m k ≡ Some f → (w : Option Owned) → in_files m w ≡ in_files (remove m k) w + of_file k (λ x. 1) w
  here_or_others m k f is None = refl
  here_or_others m k f is (Some w) = elim (cases_eq w.file k) [
    | inl same ↦
        let here : flag (is_some (get m w.file)) ≡ 1 = ap (λ j. flag (is_some (get m j))) same ∙ ap (λ o. flag (is_some o)) is in
        let gone : flag (is_some (get (remove m k) w.file)) ≡ 0 = ap (λ o. flag (is_some o)) (get_removed m k w.file same) in
        let adds : of_file k (λ x. 1) (Some w) ≡ 1 = ap (λ (b : Bool). one_if b) (eq-eqb w.file k same) in
        omega (arith, here, gone, adds)
    | inr apart ↦
        let stays : flag (is_some (get (remove m k) w.file)) ≡ flag (is_some (get m w.file)) = ap (λ o. flag (is_some o)) (get_past_remove m k w.file apart) in
        let adds : of_file k (λ x. 1) (Some w) ≡ 0 = ap (λ (b : Bool). one_if b) (ne_eqb w.file k apart) in
        omega (arith, stays, adds)
  ]

  no_files : (w : Option Owned) → in_files table.empty w ≡ 0
  no_files None = refl
  no_files (Some w) = ap (λ (file : Option File). flag (is_some file)) (get-empty nat_cmp w.file)

  files_over : (m : FinMap nat_cmp File) → AreTheTrees m → over (in_files m) ≡ sum_by (λ e. used e.1.content) (entries m)
  files_over =
      entries_sum (λ e. used e.1.content) (λ m. over (in_files m)) AreTheTrees (over_none (in_files table.empty) (λ p block. no_files (o.owner p))) stay_the_trees
      (λ m k f are is. over_alike (in_files m) (λ w. in_files (remove m k) w + of_file k (λ x. 1) w) (λ p block. here_or_others m k f is (o.owner p))
      ∙ over_both (in_files (remove m k)) (of_file k (λ x. 1)) ∙ ap (λ n. over (in_files (remove m k)) + n) (file_over k f (are k f is)))

  -- the file of an owner is there
  owner_lives : (p : Reference) (w : Option Owned) → o.owner p ≡ w → flag (is_some w) ≡ in_files t.files w
  owner_lives p None is = refl
  owner_lives p (Some w) is =
      let place = shows.inverse.placed w.file w.part p is in
      let number = (shows.inside w.file w.part p place).0 in
      let has : has_part_of (table.get t.files w.file) w.part ≡ true =
      ap (λ k. has_part_of (table.get t.files k) w.part) number.is
      ∙ sym ((shows.files number.memory number.inode number.there.0 number.there.1).there w.part)
      ∙ ap (λ k. is_some (o.place k w.part)) (sym number.is) ∙ ap is_some place in
      sym (ap flag (lives (table.get t.files w.file) w.part has))
    where
      lives : (file : Option File) (x : Part) → has_part_of file x ≡ true → is_some file ≡ true
      lives None x has = has
      lives (Some f) x has = refl

  used_over : over (λ w. flag (is_some w)) ≡ used_in_all t
  used_over = over_alike (λ w. flag (is_some w)) (in_files t.files) (λ p block. owner_lives p (o.owner p) refl) ∙ files_over t.files (λ n f is. is)

  -- ---- the maps

  bits_of : (map : List ℕ) (n : ℕ) → free_below map n + sum_below n (λ b. flag (is_used map b)) ≡ n
  unfolding free_below
  bits_of map zero = refl
  bits_of map (suc n) = omega (arith, bits_of map n, one_bit (is_used map n))
    where
      one_bit : (b : Bool) → (if b then 0 else 1) + flag b ≡ 1
      one_bit true = refl
      one_bit false = refl

  all_bits : free_bits t.geometry flat + used_in_all t ≡ memories * blocks
  all_bits =
      let used : ℕ → ℕ = λ m. sum_below blocks (λ b. flag (is_used (block_map flat m) b)) in
      let free : ℕ → ℕ = λ m. free_below (block_map flat m) blocks in
      let owned : sum_below memories used ≡ over (λ w. flag (is_some w)) =
      sum_alike memories used _ (λ m below. sum_alike blocks (λ b. flag (is_used (block_map flat m) b)) (λ b. flag (is_some (o.owner (at m b))))
      (λ b within. ap flag (shows.bits (at m b) (record { memory = below; block = within })))) in
      let each : sum_below memories (λ m. free m + used m) ≡ memories * blocks =
      sum_alike memories (λ m. free m + used m) (λ m. blocks) (λ m below. bits_of (block_map flat m) blocks) ∙ sum_same memories blocks in
      joined (sum_below memories free) (sum_below memories used) (over (λ w. flag (is_some w))) (used_in_all t) (memories * blocks) (sym (sum_both memories free used) ∙ each) owned used_over
    where
      joined : (free used over all product : ℕ) → free + used ≡ product → used ≡ over → over ≡ all → free + all ≡ product
      joined free used over all product sum owned same = omega (arith, sum, owned, same)

  pub free_is : free_blocks t ≡ free_bits t.geometry flat
  free_is = less (free_bits t.geometry flat) (used_in_all t) (memories * blocks) all_bits
    where
      less : (free all product : ℕ) → free + all ≡ product → product - all ≡ free
      less free all product sum = omega (arith, sum)

pub free_blocks_are_free_bits : FreeBlocksAreFreeBits
free_blocks_are_free_bits flat t o shows good = free_is flat t o shows good
