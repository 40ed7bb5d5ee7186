-- The numbers of a cluster, read one by one.
use Rattle.std.proofs.Common.{◌≡◌, ◌≢◌, ℕ, ◌+◌, ◌-◌, ◌*◌, ◌<◌, ◌≤◌, true, List, [], ◌∷◌, get_or, Option, Some, None, inl, inr, refl, sym, ap, subst, ◌∙◌, arith}
use Rattle.std.specs.Prelude.{◌/◌, ◌%◌, ◌^◌, ◌++◌, ◌&&◌, nat_lt, is_some, unwrap_or, replicate, length, if◌then◌else◌, IfSome, IfErr, OnOk, Result, Ok, Err}
use Rattle.std.specs.Ordering.{nat_cmp}
use Rattle.std.specs.FinMap as table
use Rattle.std.specs.FinMap.{get-empty}
use Rattle.std.proofs.lemmas.Bool.{cases_Bool, cases_eq, cases_lt, true≢false, and_parts, ltb-true, lt-ltb}
use Rattle.std.proofs.lemmas.Option.{none-some}
use Rattle.sfs_base.proofs.MapLemmas.{get_inserted, get_past_insert}
use Rattle.fs_layout.specs.declared.attrs.Attrs.{Attrs}
use Rattle.fs_layout.specs.declared.reference.Reference.{Reference}
use Rattle.fs_layout.specs.Inodes.{SpellsInode, inode_words, free_inode}
use Rattle.fs_layout.specs.Places.{number_of}
use Rattle.fs_layout.specs.References.{reference_words}
use Rattle.fs_layout.specs.Words.{AreWords, spelled}
use Rattle.fs_layout.proofs.WordLemmas.{spelled-append, length-spelled, words_items}
use Rattle.fs_chain.specs.ReferenceLists.{references_words, references_in}
use Rattle.fs_chain.proofs.ReferencesLemmas.{length-spelled_reference}
use Rattle.fs_chain.proofs.BytesLemmas.{references_in_spelled}
use Rattle.fs_rules.specs.declared.file.File.{File}
use Rattle.fs_rules.specs.declared.geometry.Geometry.{Geometry}
use Rattle.fs_rules.specs.declared.kept.Kept.{Kept}
use Rattle.fs_rules.specs.declared.plain_tree.PlainTree.{PlainTree}
use Rattle.fs_rules.specs.Geometry.{IsWithinLimits}
use Rattle.fs_rules.specs.Numbers.{IsNumber}
use Rattle.mini_tx.specs.FlatMemory.{Flat, bytes_at}
use Rattle.fs_image.specs.Owners.{Part, Chain, Block}
use Rattle.fs_image.specs.Parts.{chains_of, has_part}
use Rattle.fs_image.specs.Places.{inode_bytes, block_bytes}
use Rattle.fs_image.proofs.ByteLemmas.{bytes_past, bytes_within, bytes_whole}
use Rattle.fs_image.proofs.ContentLemmas.{stored_chains}
use Rattle.fs_reader.specs.declared.tree_fault.TreeFault.{TreeFault}
use Rattle.fs_reader.specs.declared.tree_fault.TreeFault.TheVariants.{NoTree}
use Rattle.fs_reader.specs.Files.{IsFileAt, IsFileRead}
use Rattle.fs_reader.specs.Marks.{turn, Takes}
use Rattle.fs_reader.specs.Numbers.{first_in, is_number, place_of, nothing_kept, IsRecordAt, IsNumberRead, IsReadBelow, ReadsNumber, IsLiveRead, IsFreeRead}
use Rattle.fs_reader.specs.Trees.{TakesFiles}
use Rattle.fs_reader.specs.Walk.{chain_at, places}
use Rattle.fs_reader.proofs.MarkLemmas.{takes_nothing}
use Rattle.fs_reader.proofs.OwnerLemmas.{files_take}
use Rattle.fs_reader.proofs.WalkLemmas.{one_reference, none_behind, none_of_chain}

-- ---- the first chaining block that a record names

-- the words before it, and those behind it
before : Attrs → List ℕ
before a =
    a.kind ∷ a.mode ∷ a.links ∷ a.uid ∷ a.gid ∷ a.size ∷ a.generation ∷ a.used ∷ (a.change / 2 ^ 32) ∷ (a.change % 2 ^ 32)
    ∷ a.atime_sec ∷ a.atime_usec ∷ a.mtime_sec ∷ a.mtime_usec ∷ a.ctime_sec ∷ a.ctime_usec ∷ []

behind : Attrs → List ℕ
behind a = a.chains ∷ a.parent ∷ a.names ∷ replicate 11 0

in_parts : (a : Attrs) → inode_words a ≡ before a ++ (reference_words a.first ++ behind a)
unfolding inode_words before behind
in_parts a = refl

length-before : (a : Attrs) → length (before a) ≡ 16
unfolding before
length-before a = refl

words_here : (a : Attrs) (r : Option Reference) → AreWords (before a ++ (reference_words r ++ behind a)) → AreWords (reference_words r)
unfolding before behind
words_here a None words = (words_items (0 ∷ 0 ∷ [])).2 (words 16, (words 17, tt))
words_here a (Some r) words = (words_items (r.memory ∷ (r.block + 1) ∷ [])).2 (words 16, (words 17, tt))

pub first_is : (a : Attrs) (bytes : List ℕ) → SpellsInode a bytes → first_in bytes ≡ a.first
first_is a bytes spells =
    let rest : List ℕ = spelled (reference_words a.first ++ behind a) in
    let sized : length (spelled (before a)) ≡ 64 = omega (arith, length-spelled (before a), length-before a) in
    let eight : length (spelled (reference_words a.first)) ≡ 8 = length-spelled_reference a.first in
    let parts : bytes ≡ spelled (before a) ++ rest = spells.bytes_are ∙ ap spelled (in_parts a) ∙ spelled-append (before a) (reference_words a.first ++ behind a) in
    let front : bytes_at bytes 64 8 ≡ spelled (references_words (a.first ∷ [])) =
    ap (λ b. bytes_at b 64 8) parts ∙ bytes_past (spelled (before a)) rest 64 0 8 (omega (arith, sized))
    ∙ ap (λ b. bytes_at b 0 8) (spelled-append (reference_words a.first) (behind a)) ∙ bytes_within (spelled (reference_words a.first)) (spelled (behind a)) 0 8 (omega (arith, eight))
    ∙ bytes_whole (spelled (reference_words a.first)) 8 (sym eight) ∙ ap spelled (sym (one_reference a.first)) in
    let fits : AreWords (references_words (a.first ∷ [])) =
    subst AreWords (sym (one_reference a.first)) (words_here a a.first (subst AreWords (in_parts a) spells.words)) in
    ap (λ bs. get_or (references_in bs) 0 None) front ∙ ap (λ rs. get_or rs 0 None) (references_in_spelled (a.first ∷ []) fits)

-- ---- the places of a number

is_number_here : (g : Geometry) (m inode : ℕ) → m < g.memories → inode < g.inodes → g.inodes ≤ 16384 → is_number g (number_of m inode) ≡ true
is_number_here g m inode below within small =
    let memory : (number_of m inode - 1) / 16384 ≡ m = omega (arith, within, small) in
    let place : (number_of m inode - 1) % 16384 ≡ inode = omega (arith, within, small) in
    ap (λ b. b && (nat_lt ((number_of m inode - 1) / 16384) g.memories && nat_lt ((number_of m inode - 1) % 16384) g.inodes)) (lt-ltb 0 (number_of m inode) (omega arith))
    ∙ (λ i. nat_lt (memory i) g.memories && nat_lt (place i) g.inodes)
    ∙ ap (λ b. b && nat_lt inode g.inodes) (lt-ltb m g.memories below) ∙ lt-ltb inode g.inodes within

number_is : (g : Geometry) (n : ℕ) → is_number g n ≡ true → IsNumber g n
number_is g n is =
    let parts = and_parts (nat_lt 0 n) (nat_lt ((n - 1) / 16384) g.memories && nat_lt ((n - 1) % 16384) g.inodes) is in
    let both = and_parts (nat_lt ((n - 1) / 16384) g.memories) (nat_lt ((n - 1) % 16384) g.inodes) parts.1 in
    record {
      memory = (n - 1) / 16384;
      inode = (n - 1) % 16384;
      there = (ltb-true ((n - 1) / 16384) g.memories both.0, ltb-true ((n - 1) % 16384) g.inodes both.1);
      is = omega (arith, ltb-true 0 n parts.0);
    }

pub place_here : (g : Geometry) (flat : Flat) (m inode : ℕ) (a : Attrs) → m < g.memories → inode < g.inodes → g.inodes ≤ 16384 → SpellsInode a (inode_bytes flat m inode) → (x : Part)
    → place_of g flat (number_of m inode) x ≡ places (block_bytes g flat) a.first x
place_here g flat m inode a below within small spells x =
    let memory : (number_of m inode - 1) / 16384 ≡ m = omega (arith, within, small) in
    let place : (number_of m inode - 1) % 16384 ≡ inode = omega (arith, within, small) in
    ap (λ b. if b then places (block_bytes g flat) (first_in (inode_bytes flat ((number_of m inode - 1) / 16384) ((number_of m inode - 1) % 16384))) x else None)
    (is_number_here g m inode below within small)
    ∙ (λ i. places (block_bytes g flat) (first_in (inode_bytes flat (memory i) (place i))) x)
    ∙ ap (λ r. places (block_bytes g flat) r x) (first_is a (inode_bytes flat m inode) spells)

-- a part lies somewhere only where its number is of this cluster
pub place_number : (g : Geometry) (flat : Flat) (n : ℕ) (x : Part) (p : Reference) → place_of g flat n x ≡ Some p → IsNumber g n
place_number g flat n x p is = elim (cases_Bool (is_number g n)) [
  | inl number ↦ number_is g n number
  | inr not_number ↦ absurd (none-some p (sym (ap (λ b. if b then places (block_bytes g flat) (first_in (inode_bytes flat ((n - 1) / 16384) ((n - 1) % 16384))) x else None) not_number) ∙ is))
]

-- where no chaining block is named there is no part
pub none_first : (block : Reference → List ℕ) (first : Option Reference) → first ≡ None → (x : Part) → places block first x ≡ None
none_first block first none (Chain k) = let same : 0 + k ≡ k = omega arith in ap (chain_at block first) (sym same) ∙ none_behind block first 0 none k
none_first block first none (Block i) = let same : 0 + i / 510 ≡ i / 510 = omega arith in none_of_chain block first i (ap (chain_at block first) (sym same) ∙ none_behind block first 0 none (i / 510))

-- each part of a file is read at a turn of its chaining blocks
turns_within : (block : Reference → List ℕ) (n : ℕ) (a : Attrs) (f : File) → IsFileAt block n a f → (x : Part) (p : Reference) → places block a.first x ≡ Some p → turn x < 511 * a.chains
turns_within block n a f file x p is = go x (sym (file.content.there x) ∙ ap is_some is)
  where
    chains : chains_of f.content ≡ a.chains
    chains = ap (λ (b : Attrs). b.chains) file.attrs

    go : (x : Part) → has_part f.content x ≡ true → turn x < 511 * a.chains
    go (Chain k) has = let below = ltb-true k (chains_of f.content) has in omega (arith, below, chains)
    go (Block i) has = let below = stored_chains f.content i has in omega (arith, below, chains)

-- ---- one number more

module _ (g : Geometry) (limits : IsWithinLimits g) (flat : Flat) (start left : List ℕ) (t : PlainTree) where
  -- no number of this cluster
  pub gap_more : (n : ℕ) → (IsNumber g n → ⊥) → IsReadBelow g flat n start left t → IsReadBelow g flat (n + 1) start left t
  gap_more n not_number below =
      record {
        geometry = below.geometry;
        takes = files_take g (place_of g flat) n 0 start left left below.takes (takes_nothing g (place_of g flat n) left) (λ x p is. absurd (not_number (place_number g flat n x p is)));
        files = λ k f is. let b = below.files k f is in (b.0, omega (arith, b.1));
        freed = λ k e is. let b = below.freed k e is in (b.0, omega (arith, b.1));
        read = λ m inode lm li less. elim (cases_lt (number_of m inode) n) [
          | inl before_n ↦ below.read m inode lm li before_n
          | inr not_less ↦ absurd (not_number (record { memory = m; inode = inode; there = (lm, li); is = omega (arith, less, not_less) }))
        ];
      }

  module _ (m inode : ℕ) (lm : m < g.memories) (li : inode < g.inodes) (below : IsReadBelow g flat (number_of m inode) start left t) where
    abbrev n : ℕ
    n = number_of m inode

    number_here : IsNumber g n
    number_here = record { memory = m; inode = inode; there = (lm, li); is = refl }

    -- the tree has nothing of it yet
    no_file : (o : Option File) → table.get t.files n ≡ o → o ≡ None
    no_file None is = refl
    no_file (Some f) is = let b = below.files n f is in absurd (omega (arith, b.1))

    no_kept : (o : Option Kept) → table.get t.freed n ≡ o → o ≡ None
    no_kept None is = refl
    no_kept (Some k) is = let b = below.freed n k is in absurd (omega (arith, b.1))

    -- the numbers up to it are read, where it is and the ones before are as they were
    abbrev ReadAll : PlainTree → Type 0
    ReadAll u = (mm ii : ℕ) → mm < g.memories → ii < g.inodes → number_of mm ii < n + 1
        → IsNumberRead g flat mm ii (table.get u.files (number_of mm ii)) (table.get u.freed (number_of mm ii))

    read_all : (u : PlainTree) → IsNumberRead g flat m inode (table.get u.files n) (table.get u.freed n)
        → ((k : ℕ) → k ≢ n → table.get u.files k ≡ table.get t.files k) → ((k : ℕ) → k ≢ n → table.get u.freed k ≡ table.get t.freed k) → ReadAll u
    read_all u here files freed mm ii lmm lii less = elim (cases_lt (number_of mm ii) n) [
      | inl before_n ↦
          let other : number_of mm ii ≢ n = λ same. omega (arith, same, before_n) in
          let old = below.read mm ii lmm lii before_n in
          subst (λ o. IsNumberRead g flat mm ii o (table.get u.freed (number_of mm ii))) (sym (files (number_of mm ii) other))
          (subst (λ o. IsNumberRead g flat mm ii (table.get t.files (number_of mm ii)) o) (sym (freed (number_of mm ii) other)) old)
      | inr not_less ↦
          let memory : m ≡ mm = omega (arith, less, not_less, li, lii, limits.inodes.1) in
          let place : inode ≡ ii = omega (arith, less, not_less, li, lii, limits.inodes.1) in
          subst (λ (k : ℕ). IsNumberRead g flat mm k (table.get u.files (number_of mm k)) (table.get u.freed (number_of mm k))) place
          (subst (λ (k : ℕ). IsNumberRead g flat k inode (table.get u.files (number_of k inode)) (table.get u.freed (number_of k inode))) memory here)
    ]

    module _ (a : Attrs) (recorded : IsRecordAt flat m inode a) where
      place_is : place_of g flat n ≡ places (block_bytes g flat) a.first
      place_is = λ i x. (place_here g flat m inode a lm li limits.inodes.1 recorded.spelled x) i

      -- a live number
      module _ (new : List ℕ) (f : File) (read : IsFileRead g flat n a left new f) where
        abbrev with_file : PlainTree
        with_file = record t { files = table.insert t.files n f }

        takes_file : TakesFiles g (place_of g flat) (n + 1) start new
        takes_file =
            files_take g (place_of g flat) n (511 * a.chains) start left new below.takes
            (subst (λ (w : Part → Option Reference). Takes g w (511 * a.chains) left new) (sym place_is) read.takes)
            (λ x p is. turns_within (block_bytes g flat) n a f read.file x p (ap (λ w. w x) (sym place_is) ∙ is))

        file_here : IsNumberRead g flat m inode (Some f) None
        file_here =
            record {
              attrs = a;
              recorded = recorded;
              record_is = read.file.attrs;
              file_is = λ h is. subst (IsFileAt (block_bytes g flat) n a) (ap (λ o. unwrap_or o f) is) read.file;
              live = λ h is. refl;
              more = λ k is. absurd (none-some k is);
            }

        files_of : (k : ℕ) (h : File) → table.get with_file.files k ≡ Some h → IsNumber g k × (k < n + 1)
        files_of k h is = elim (cases_eq k n) [
          | inl same ↦ (subst (IsNumber g) (sym same) number_here, omega (arith, same))
          | inr other ↦ let b = below.files k h (sym (get_past_insert t.files n f k other) ∙ is) in (b.0, omega (arith, b.1))
        ]

        live_here : IsReadBelow g flat (n + 1) start new with_file
        live_here =
            record {
              geometry = below.geometry;
              takes = takes_file;
              files = files_of;
              freed = λ k e is. let b = below.freed k e is in (b.0, omega (arith, b.1));
              read = read_all with_file
                  (subst (λ o. IsNumberRead g flat m inode o (table.get t.freed n)) (sym (get_inserted t.files n f n refl))
                  (subst (λ o. IsNumberRead g flat m inode (Some f) o) (sym (no_kept (table.get t.freed n) refl)) file_here))
                  (λ k other. get_past_insert t.files n f k other) (λ k other. refl);
            }

      -- a free number
      module _ (free : a.kind ≡ 0) where
        free_is : a ≡ free_inode a.generation a.change
        free_is = recorded.spelled.fields.free free

        takes_free : TakesFiles g (place_of g flat) (n + 1) start left
        takes_free =
            files_take g (place_of g flat) n 0 start left left below.takes (takes_nothing g (place_of g flat n) left)
            (λ x p is. absurd (none-some p (sym (ap (λ w. w x) place_is ∙ none_first (block_bytes g flat) a.first (ap (λ (b : Attrs). b.first) free_is) x) ∙ is)))

        kept_here : (kept : Option Kept) → (unwrap_or kept nothing_kept).generation ≡ a.generation → (unwrap_or kept nothing_kept).change ≡ a.change
            → ((k : Kept) → kept ≡ Some k → k.generation ≡ 0 → k.change ≡ 0 → ⊥) → IsNumberRead g flat m inode None kept
        kept_here kept generation change more =
            record {
              attrs = a;
              recorded = recorded;
              record_is = (λ i. free_inode (generation i) (change i)) ∙ sym free_is;
              file_is = λ h is. absurd (none-some h is);
              live = λ h is. absurd (none-some h is);
              more = more;
            }

        free_here : (u : PlainTree) → u.geometry ≡ g → u.files ≡ t.files → ((k : ℕ) (e : Kept) → table.get u.freed k ≡ Some e → IsNumber g k × (k < n + 1))
            → ((k : ℕ) → k ≢ n → table.get u.freed k ≡ table.get t.freed k) → IsNumberRead g flat m inode None (table.get u.freed n) → IsReadBelow g flat (n + 1) start left u
        free_here u geometry files freed others here =
            record {
              geometry = geometry;
              takes = takes_free;
              files = λ k f is. let b = below.files k f (ap (λ x. table.get x k) (sym files) ∙ is) in (b.0, omega (arith, b.1));
              freed = freed;
              read = read_all u (subst (λ o. IsNumberRead g flat m inode o (table.get u.freed n)) (sym (ap (λ x. table.get x n) files ∙ no_file (table.get t.files n) refl)) here)
                  (λ k other. ap (λ x. table.get x k) files) others;
            }

        abbrev kept_of : Kept
        kept_of = record { generation = a.generation; change = a.change }

        with_kept : (a.generation ≡ 0 → a.change ≡ 0 → ⊥) → IsReadBelow g flat (n + 1) start left (record t { freed = table.insert t.freed n kept_of })
        with_kept more =
            free_here (record t { freed = table.insert t.freed n kept_of }) below.geometry refl
            (λ k e is. elim (cases_eq k n) [
              | inl same ↦ (subst (IsNumber g) (sym same) number_here, omega (arith, same))
              | inr other ↦ let b = below.freed k e (sym (get_past_insert t.freed n kept_of k other) ∙ is) in (b.0, omega (arith, b.1))
            ])
            (λ k other. get_past_insert t.freed n kept_of k other)
            (subst (λ o. IsNumberRead g flat m inode None o) (sym (get_inserted t.freed n kept_of n refl))
            (kept_here (Some kept_of) refl refl (λ k is generation change.
            more (ap (λ o. (unwrap_or o kept_of).generation) is ∙ generation) (ap (λ o. (unwrap_or o kept_of).change) is ∙ change))))

        with_none : a.generation ≡ 0 → a.change ≡ 0 → IsReadBelow g flat (n + 1) start left t
        with_none generation change =
            free_here t below.geometry refl (λ k e is. let b = below.freed k e is in (b.0, omega (arith, b.1))) (λ k other. refl)
            (subst (λ o. IsNumberRead g flat m inode None o) (sym (no_kept (table.get t.freed n) refl))
            (kept_here None (sym generation) (sym change) (λ k is. absurd (none-some k is))))

        pub free_more : (u : PlainTree) → IsFreeRead n a t u → IsReadBelow g flat (n + 1) start left u
        free_more u (inl same) = subst (IsReadBelow g flat (n + 1) start left) (sym same.0) (with_none same.1 same.2)
        free_more u (inr more) = subst (IsReadBelow g flat (n + 1) start left) (sym more.0) (with_kept more.1)

      pub live_more : (new : List ℕ) (u : PlainTree) → IsLiveRead g flat n a left t new u → IsReadBelow g flat (n + 1) start new u
      live_more new u read = subst (IsReadBelow g flat (n + 1) start new) (sym read.tree_is) (live_here new read.file read.read)

-- before the first number
pub nothing_below : (g : Geometry) (flat : Flat) (marks : List ℕ) (t : PlainTree) → t.geometry ≡ g → t.files ≡ table.empty → t.freed ≡ table.empty → IsReadBelow g flat (0 + 1) marks marks t
nothing_below g flat marks t geometry files freed =
    let none : (n : ℕ) (x : Part) (p : Reference) → n < 0 + 1 → place_of g flat n x ≡ Some p → ⊥ =
    (λ n x p below is. let number = place_number g flat n x p is in omega (arith, below, number.is)) in
    record {
      geometry = geometry;
      takes = record {
        inside = λ n x p below is. absurd (none n x p below is);
        marked = λ n x p below is. absurd (none n x p below is);
        taken = λ n x p below is. absurd (none n x p below is);
        found = λ bit was gone. absurd (true≢false (sym was ∙ gone));
        kept = λ bit is. is;
        once = λ n m x y p below too is also. absurd (none n x p below is);
      };
      files = λ k f is. absurd (none-some f (sym (ap (λ m. table.get m k) files ∙ get-empty nat_cmp k) ∙ is));
      freed = λ k e is. absurd (none-some e (sym (ap (λ m. table.get m k) freed ∙ get-empty nat_cmp k) ∙ is));
      read = λ m inode lm li below. absurd (omega (arith, below));
    }

-- ---- the same, as the code has it

pub of_some : {A : Type 0} (P : A → Type 0) (o : Option A) (a : A) → o ≡ Some a → IfSome o P → P a
of_some P o a is holds = subst (λ x. IfSome x P) is holds

pub ok_then : {T E P Q : Type 0} (r : Result T E) → (P → Q) → OnOk r P → OnOk r Q
ok_then (Ok x) f holds = f holds
ok_then (Err e) f holds = tt

pub none_then : {T P Q : Type 0} (r : Result T TreeFault) → (P → Q) → IfErr r (λ fault. fault ≡ NoTree → P) → IfErr r (λ fault. fault ≡ NoTree → Q)
none_then (Ok x) f holds = tt
none_then (Err e) f holds = λ is. f (holds is)

pub live_reads : (g : Geometry) → IsWithinLimits g → (flat : Flat) (m inode : ℕ) → m < g.memories → inode < g.inodes → (a : Attrs) → IsRecordAt flat m inode a → (left : List ℕ) (t : PlainTree)
    (new : List ℕ) (u : PlainTree) → IsLiveRead g flat (number_of m inode) a left t new u → ReadsNumber g flat (number_of m inode) left t new u
live_reads g limits flat m inode lm li a at left t new u read start below = live_more g limits flat start left t m inode lm li below a at new u read

pub free_reads : (g : Geometry) → IsWithinLimits g → (flat : Flat) (m inode : ℕ) → m < g.memories → inode < g.inodes → (a : Attrs) → IsRecordAt flat m inode a → (left : List ℕ) (t : PlainTree)
    → a.kind ≡ 0 → (u : PlainTree) → IsFreeRead (number_of m inode) a t u → ReadsNumber g flat (number_of m inode) left t left u
free_reads g limits flat m inode lm li a at left t free u read start below = free_more g limits flat start left t m inode lm li below a at free u read

pub gap_reads : (g : Geometry) → IsWithinLimits g → (flat : Flat) (n : ℕ) → 1 ≤ n → g.inodes ≤ (n - 1) % 16384 → (left : List ℕ) (t : PlainTree) → ReadsNumber g flat n left t left t
gap_reads g limits flat n first past left t start below =
    gap_more g limits flat start left t n (λ number. omega (arith, first, past, number.is, number.there.1, limits.inodes.1)) below
