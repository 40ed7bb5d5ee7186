-- The parts of a file, read one by one.
use Rattle.std.proofs.Common.{◌≡◌, ◌≢◌, ◌⊎◌, ℕ, ◌+◌, ◌-◌, ◌*◌, ◌<◌, ◌≤◌, true, false, List, length, map, Option, Some, None, inl, inr, refl, sym, ap, subst, ◌∙◌, arith}
use Rattle.std.specs.Prelude.{◌/◌, nat_lt, is_some, unwrap_or, option_map}
use Rattle.std.proofs.lemmas.Bool.{cases_lt, cases_order, true≢false, ltb-true, lt-ltb, le-ltb}
use Rattle.std.proofs.lemmas.Option.{none-some}
use Rattle.fs_layout.specs.declared.reference.Reference.{Reference}
use Rattle.fs_bitmap.specs.Bits.{is_used}
use Rattle.fs_rules.specs.declared.content.Content.{Content}
use Rattle.fs_rules.specs.declared.content.Content.TheVariants.{Regular, Link, Directory}
use Rattle.fs_rules.specs.declared.geometry.Geometry.{Geometry}
use Rattle.fs_rules.specs.File.{slots_of}
use Rattle.fs_rules.specs.Geometry.{IsWithinLimits}
use Rattle.mini_tx.specs.FlatMemory.{Flat}
use Rattle.fs_image.specs.Owners.{Part, Chain, Block}
use Rattle.fs_image.specs.Parts.{chains_of, is_stored, has_part, slot_of, slots_at, HoldsBlock, HoldsChain, Holds}
use Rattle.fs_image.specs.Places.{block_bytes}
use Rattle.fs_image.specs.Records.{IsSet, NameFiles}
use Rattle.fs_image.specs.Stands.{IsBlock}
use Rattle.fs_image.proofs.ContentLemmas.{IsWhole, content_one}
use Rattle.fs_reader.specs.Contents.{IsPut, CanPut, IsContentAt, IsOfKind, IsReadTo, IsClaimed}
use Rattle.fs_reader.specs.Marks.{bit_of, turn}
use Rattle.fs_reader.specs.Walk.{chain_at, places}
use Rattle.fs_reader.proofs.MarkLemmas.{takes_none, takes_one}
use Rattle.fs_reader.proofs.PutLemmas.{HasPut, has_put}
use Rattle.fs_reader.proofs.WalkLemmas.{none_behind, none_of_chain}

same_kind : (a b c : Content) → IsOfKind a b → IsOfKind b c → IsOfKind a c
same_kind a b c ab bc = record { kind = ab.kind ∙ bc.kind; parent = ab.parent ∙ bc.parent }

-- a block of this turn, or of one before
block_turns : (i j turns : ℕ) → turn (Block i) ≡ turns → turn (Block j) < turns + 1 → (turn (Block j) < turns) ⊎ (j ≡ i)
block_turns i j turns now before = elim (cases_lt (turn (Block j)) turns) [
  | inl earlier ↦ inl earlier
  | inr not ↦ inr (omega (arith, now, before, not))
]

module _ (g : Geometry) (limits : IsWithinLimits g) (flat : Flat) (place : Part → Option Reference) (turns : ℕ) (empty : Content) (start left : List ℕ) (c : Content)
    (read : IsReadTo g flat place turns empty start left c)
  where
    -- ---- a chaining block

    module _ (k : ℕ) (now : turn (Chain k) ≡ turns) where
      no_block : (i : ℕ) → turn (Block i) < turns + 1 → turn (Block i) < turns
      no_block i before = omega (arith, now, before)

      pub read_chain : (p : Reference) (new : List ℕ) → place (Chain k) ≡ Some p → IsBlock g p → is_used left (bit_of p) ≡ true → IsSet left new (bit_of p) false
          → IsReadTo g flat place (turns + 1) empty start new c
      read_chain p new at inside marked set =
          record {
            takes = takes_one g limits place turns start left read.takes (Chain k) now p at new inside marked set;
            there = λ i before. read.there i (no_block i before);
            beyond = λ i behind. read.beyond i (omega (arith, behind));
            holds = λ i r before is. read.holds i r (no_block i before) is;
            sized = read.sized;
            names = read.names;
            kind = read.kind;
          }

    -- ---- a block that is not stored

    pub read_none : (i : ℕ) → turn (Block i) ≡ turns → place (Block i) ≡ None → IsReadTo g flat place (turns + 1) empty start left c
    read_none i now none =
        record {
          takes = takes_none g limits place turns start left read.takes (Block i) now none;
          there = there;
          beyond = λ j behind. read.beyond j (omega (arith, behind));
          holds = λ j r before is. elim (block_turns i j turns now before) [
            | inl less ↦ read.holds j r less is
            | inr same ↦ absurd (none-some r (sym none ∙ ap (λ (q : ℕ). place (Block q)) (sym same) ∙ is))
          ];
          sized = read.sized;
          names = read.names;
          kind = read.kind;
        }
      where
        there : (j : ℕ) → turn (Block j) < turns + 1 → is_some (place (Block j)) ≡ is_stored c j
        there j before = elim (block_turns i j turns now before) [
          | inl less ↦ read.there j less
          | inr same ↦ ap is_some (ap (λ (q : ℕ). place (Block q)) same ∙ none) ∙ sym (read.beyond j (omega (arith, now, ap (λ (q : ℕ). turn (Block q)) same)))
        ]

    -- ---- a stored block

    module _ (i : ℕ) (now : turn (Block i) ≡ turns) (p : Reference) (at : place (Block i) ≡ Some p) where
      module _ (new : List ℕ) (d : Content) (inside : IsBlock g p) (marked : is_used left (bit_of p) ≡ true) (set : IsSet left new (bit_of p) false)
          (put : IsPut c i (block_bytes g flat p) d)
        where
          has : HasPut c i (block_bytes g flat p) d
          has = has_put c i (block_bytes g flat p) d read.names put

          earlier : (j : ℕ) → turn (Block j) < turns → j ≢ i
          earlier j less same = omega (arith, less, now, ap (λ (q : ℕ). turn (Block q)) same)

          later : (j : ℕ) → turns + 1 ≤ turn (Block j) → j ≢ i
          later j behind same = omega (arith, behind, now, ap (λ (q : ℕ). turn (Block q)) same)

          there : (j : ℕ) → turn (Block j) < turns + 1 → is_some (place (Block j)) ≡ is_stored d j
          there j before = elim (block_turns i j turns now before) [
            | inl less ↦ read.there j less ∙ sym (has.other j (earlier j less))
            | inr same ↦ ap is_some (ap (λ (q : ℕ). place (Block q)) same ∙ at) ∙ sym (ap (is_stored d) same ∙ has.here)
          ]

          holds : (j : ℕ) (r : Reference) → turn (Block j) < turns + 1 → place (Block j) ≡ Some r → HoldsBlock d j (block_bytes g flat r)
          holds j r before is = elim (block_turns i j turns now before) [
            | inl less ↦ has.others j (block_bytes g flat r) (earlier j less) (sym (read.there j less) ∙ ap is_some is) (read.holds j r less is)
            | inr same ↦
                let r_is : p ≡ r = ap (λ x. unwrap_or x p) (sym at ∙ ap (λ (q : ℕ). place (Block q)) (sym same) ∙ is) in
                subst (λ (q : ℕ). HoldsBlock d q (block_bytes g flat r)) (sym same) (subst (λ (q : Reference). HoldsBlock d i (block_bytes g flat q)) r_is has.holds)
          ]

          pub read_block : IsReadTo g flat place (turns + 1) empty start new d
          read_block =
              record {
                takes = takes_one g limits place turns start left read.takes (Block i) now p at new inside marked set;
                there = there;
                beyond = λ j behind. has.other j (later j behind) ∙ read.beyond j (omega (arith, behind));
                holds = holds;
                sized = has.sized;
                names = has.names;
                kind = same_kind empty c d read.kind has.kind;
              }

      -- a block of a content that is claimed can be put
      module _ (n : ℕ) (d : Content) (claim : IsClaimed g flat n place empty start d) where
        stored : (e : Content) → ((x : Part) → is_some (place x) ≡ has_part e x) → is_stored e i ≡ true
        stored e there = sym (there (Block i)) ∙ ap is_some at

        gap : (m many : ℕ) → nat_lt i many ≡ true → ((j : ℕ) → turn (Block j) < turns → is_some (place (Block j)) ≡ nat_lt j m)
            → ((j : ℕ) → is_some (place (Block j)) ≡ nat_lt j many) → nat_lt i m ≡ false → m ≡ i
        gap m many within there all beyond = elim (cases_order m i) [
          | inl same ↦ same
          | inr rest ↦ elim rest [
            | inl less ↦
                absurd (true≢false (sym (lt-ltb m many (omega (arith, less, ltb-true i many within))) ∙ sym (all m) ∙ there m (omega (arith, less, now)) ∙ le-ltb m m (omega arith)))
            | inr above ↦ absurd (true≢false (sym (lt-ltb i m above) ∙ beyond))
          ]
        ]

        can : (e f : Content) → IsReadTo g flat place turns empty start left e → IsOfKind e f → IsContentAt (block_bytes g flat) n place f → CanPut e i (block_bytes g flat p)
        can (Regular b) f re kind content = tt
        can (Link b) f re kind content = tt
        can (Directory xs q) (Regular b) re kind content = absurd (omega (arith, kind.kind))
        can (Directory xs q) (Link b) re kind content = absurd (omega (arith, kind.kind))
        can (Directory xs q) (Directory ys r) re kind content =
            let m : length xs / 15 ≡ i =
            gap (length xs / 15) (length ys / 15) (stored (Directory ys r) content.there) re.there (λ j. content.there (Block j)) (re.beyond i (omega (arith, now))) in
            (omega (arith, m, re.sized), map slot_of (slots_at ys i), content.holds (Block i) p at)

        pub can_put : CanPut c i (block_bytes g flat p)
        can_put = can c d read (record { kind = sym read.kind.kind ∙ claim.kind.kind; parent = sym read.kind.parent ∙ claim.kind.parent }) claim.content

-- ---- all parts were read

-- the record by which contents are compared
whole : (c : Content) → length (slots_of c) ≡ 15 * (length (slots_of c) / 15) → NameFiles (slots_of c) → IsWhole c
whole c sized names = record { sized = sized; names = names }

module _ (g : Geometry) (flat : Flat) (first : Option Reference) (n chains : ℕ) (empty : Content) (start left : List ℕ) (c : Content)
    (read : IsReadTo g flat (places (block_bytes g flat) first) (511 * chains) empty start left c)
    (held : (k : ℕ) → k < chains → (r : Reference) × (chain_at (block_bytes g flat) first k ≡ Some r) × HoldsChain (places (block_bytes g flat) first) n k (block_bytes g flat r))
    (last : chain_at (block_bytes g flat) first chains ≡ None)
  where
    abbrev block : Reference → List ℕ
    block = block_bytes g flat

    abbrev place : Part → Option Reference
    place = places block first

    none_past : (k : ℕ) → chains ≤ k → chain_at block first k ≡ None
    none_past k behind =
        let rest : chains + (k - chains) ≡ k = omega (arith, behind) in
        ap (chain_at block first) (sym rest) ∙ none_behind block first chains last (k - chains)

    block_there : (i : ℕ) → is_some (place (Block i)) ≡ is_stored c i
    block_there i = elim (cases_lt (i / 510) chains) [
      | inl within ↦ read.there i (omega (arith, within))
      | inr behind ↦ ap is_some (none_of_chain block first i (none_past (i / 510) behind)) ∙ sym (read.beyond i (omega (arith, behind)))
    ]

    block_holds : (i : ℕ) (r : Reference) → place (Block i) ≡ Some r → HoldsBlock c i (block r)
    block_holds i r is = elim (cases_lt (i / 510) chains) [
      | inl within ↦ read.holds i r (omega (arith, within)) is
      | inr behind ↦ absurd (none-some r (sym (none_of_chain block first i (none_past (i / 510) behind)) ∙ is))
    ]

    chain_there : (k : ℕ) → is_some (place (Chain k)) ≡ nat_lt k chains
    chain_there k = elim (cases_lt k chains) [
      | inl within ↦ let h = held k within in ap is_some h.1 ∙ sym (lt-ltb k chains within)
      | inr behind ↦ ap is_some (none_past k behind) ∙ sym (le-ltb k chains behind)
    ]

    chain_holds_at : (k : ℕ) (r : Reference) → place (Chain k) ≡ Some r → HoldsChain place n k (block r)
    chain_holds_at k r is = elim (cases_lt k chains) [
      | inl within ↦
          let h = held k within in
          let same : h.0 ≡ r = ap (λ x. unwrap_or x h.0) (sym h.1 ∙ is) in
          subst (λ (q : Reference). HoldsChain place n k (block q)) same h.2
      | inr behind ↦ absurd (none-some r (sym (none_past k behind) ∙ is))
    ]

    -- where the chaining blocks are as many as the content needs, it lies there
    pub content_at : chains_of c ≡ chains → chains ≤ 8 → IsContentAt block n place c
    content_at many few = record { there = there; holds = holds; sized = read.sized; names = read.names; few = omega (arith, many, few) }
      where
        there : (x : Part) → is_some (place x) ≡ has_part c x
        there (Chain k) = chain_there k ∙ ap (nat_lt k) (sym many)
        there (Block i) = block_there i

        holds : (x : Part) (r : Reference) → place x ≡ Some r → Holds place n c x (block r)
        holds (Chain k) r is = chain_holds_at k r is
        holds (Block i) r is = block_holds i r is

    found : (e : Content) → ((i : ℕ) → is_some (place (Block i)) ≡ is_stored e i) → ((i : ℕ) (r : Reference) → place (Block i) ≡ Some r → HoldsBlock e i (block r)) → (i : ℕ) (o : Option Reference)
        → place (Block i) ≡ o → (is_some (option_map block o) ≡ is_stored e i) × ((bytes : List ℕ) → option_map block o ≡ Some bytes → HoldsBlock e i bytes)
    found e there holds i None is = (sym (ap is_some is) ∙ there i, λ bytes none. absurd (none-some bytes none))
    found e there holds i (Some r) is = (sym (ap is_some is) ∙ there i, λ bytes same. subst (λ b. HoldsBlock e i b) (ap (λ x. unwrap_or x bytes) same) (holds i r is))

    -- a content that is claimed is the one that was read
    pub content_is : (d : Content) → IsClaimed g flat n place empty start d → c ≡ d
    content_is d claim =
        content_one (λ i. option_map block (place (Block i))) c d (whole c read.sized read.names) (whole d claim.content.sized claim.content.names)
        (λ i. found c block_there block_holds i (place (Block i)) refl)
        (λ i. found d (λ j. claim.content.there (Block j)) (λ j r is. claim.content.holds (Block j) r is) i (place (Block i)) refl)
        (sym read.kind.kind ∙ claim.kind.kind) (ap (λ o. unwrap_or o 0) (sym read.kind.parent ∙ claim.kind.parent))
