-- The places of a file's parts are those that its chaining blocks tell.
use Rattle.std.proofs.Common.{◌≡◌, ℕ, zero, suc, ◌+◌, ◌*◌, ◌<◌, true, false, List, [], ◌∷◌, take, drop, get_or, Option, Some, None, inl, inr, refl, sym, ap, subst, ◌∙◌, arith}
use Rattle.std.specs.Prelude.{◌/◌, ◌%◌, ◌++◌, nat_lt, slice_get, is_some, option_and_then}
use Rattle.std.proofs.lemmas.Bool.{cases_Bool, true≢false, ltb-true, lt-ltb}
use Rattle.std.proofs.lemmas.List.{take_at, take-take}
use Rattle.std.proofs.lemmas.Option.{get_or_from_slice_get, slice_get-get_or}
use Rattle.fs_layout.specs.declared.reference.Reference.{Reference}
use Rattle.fs_layout.specs.Words.{AreWords, spelled}
use Rattle.fs_layout.specs.References.{reference_words}
use Rattle.fs_layout.proofs.WordLemmas.{spelled-append}
use Rattle.fs_chain.specs.declared.chain_block.ChainBlock.{ChainBlock}
use Rattle.fs_chain.specs.Chains.{SpellsChain}
use Rattle.fs_chain.specs.ReferenceLists.{references_words, references_in}
use Rattle.fs_chain.proofs.ChainLemmas.{chain_parts}
use Rattle.fs_chain.proofs.ReferencesLemmas.{AreWords-before, length-spelled_reference, references-cons, references_none}
use Rattle.fs_chain.proofs.BytesLemmas.{references_in_spelled, references_only}
use Rattle.fs_rules.specs.declared.content.Content.{Content}
use Rattle.fs_image.specs.Owners.{Part, Chain, Block}
use Rattle.fs_image.specs.Parts.{chains_of, is_stored, has_part, Holds, HoldsChain}
use Rattle.fs_image.proofs.ContentLemmas.{stored_chains}
use Rattle.fs_reader.specs.Walk.{next_in, reference_in, chain_at, places}

-- ---- what a chaining block tells

pub one_reference : (r : Option Reference) → references_words (r ∷ []) ≡ reference_words r
one_reference r = references-cons r [] ∙ ap (λ ws. reference_words r ++ ws) references_none ∙ append_none (reference_words r)
  where
    append_none : (xs : List ℕ) → xs ++ [] ≡ xs
    append_none [] = refl
    append_none (x ∷ xs) = ap (λ ys. x ∷ ys) (append_none xs)

pub next_is : (c : ChainBlock) (bytes : List ℕ) → SpellsChain c bytes → next_in bytes ≡ c.next
next_is c bytes spells =
    let parts = chain_parts c bytes spells in
    let eight : take 8 bytes ≡ spelled (references_words (c.next ∷ [])) =
    sym (take-take 8 16 bytes (omega arith)) ∙ ap (take 8) (parts.front ∙ spelled-append (reference_words c.next) (c.file ∷ c.index ∷ []))
    ∙ take_at (spelled (reference_words c.next)) (spelled (c.file ∷ c.index ∷ [])) 8 (length-spelled_reference c.next)
    ∙ ap spelled (sym (one_reference c.next)) in
    let fits : AreWords (references_words (c.next ∷ [])) =
    subst AreWords (sym (one_reference c.next)) (AreWords-before (reference_words c.next) (c.file ∷ c.index ∷ []) parts.front_words) in
    ap (λ bs. get_or (references_in bs) 0 None) eight ∙ ap (λ rs. get_or rs 0 None) (references_in_spelled (c.next ∷ []) fits)

pub reference_is : (c : ChainBlock) (bytes : List ℕ) (j : ℕ) → SpellsChain c bytes → reference_in bytes j ≡ get_or c.references j None
reference_is c bytes j spells = ap (λ rs. get_or rs j None) (references_only c.references (drop 16 bytes) (chain_parts c bytes spells).back)

-- ---- the places are a file's

some_is : {A : Type 0} (o : Option A) → is_some o ≡ true → (x : A) × (o ≡ Some x)
some_is None some = absurd (true≢false (sym some))
some_is (Some x) some = (x, refl)

pub none_is : {A : Type 0} (o : Option A) → is_some o ≡ false → o ≡ None
none_is None none = refl
none_is (Some x) none = absurd (true≢false none)

-- a chaining block at an index of the walk leads on to the next one, and to the blocks that it refers to
module _ (block : Reference → List ℕ) (first : Option Reference) (k : ℕ) (r : Reference) (c : ChainBlock) (at : chain_at block first k ≡ Some r) (spells : SpellsChain c (block r)) where
  pub walk_next : chain_at block first (k + 1) ≡ c.next
  walk_next =
      let next : k + 1 ≡ suc k = omega arith in
      ap (chain_at block first) next ∙ ap (λ o. option_and_then (λ q. next_in (block q)) o) at ∙ next_is c (block r) spells

  pub walk_refers : (j : ℕ) → j < 510 → slice_get c.references j ≡ Some (places block first (Block (510 * k + j)))
  walk_refers j below =
      let one : (510 * k + j) / 510 ≡ k = omega (arith, below) in
      let place : (510 * k + j) % 510 ≡ j = omega (arith, below) in
      slice_get-get_or c.references j None (omega (arith, below, spells.sized))
      ∙ ap Some (sym (reference_is c (block r) j spells)
      ∙ sym (ap (λ o. option_and_then (λ q. reference_in (block q) j) o) at)
      ∙ (λ i. option_and_then (λ q. reference_in (block q) ((sym place) i)) (chain_at block first ((sym one) i))))

  -- it is the one that a file has there
  pub chain_holds : (n : ℕ) → c.file ≡ n → c.index ≡ k → HoldsChain (places block first) n k (block r)
  chain_holds n file index =
      record {
        chain = c;
        spelled = spells;
        next = sym walk_next;
        file = file;
        index_is = index;
        references = walk_refers;
      }

-- behind the last chaining block there is none
pub none_behind : (block : Reference → List ℕ) (first : Option Reference) (chains : ℕ) → chain_at block first chains ≡ None → (k : ℕ) → chain_at block first (chains + k) ≡ None
none_behind block first chains none zero = let same : chains + 0 ≡ chains = omega arith in ap (chain_at block first) same ∙ none
none_behind block first chains none (suc k) =
    let next : chains + suc k ≡ suc (chains + k) = omega arith in
    ap (chain_at block first) next ∙ ap (λ o. option_and_then (λ q. next_in (block q)) o) (none_behind block first chains none k)

-- a block whose chaining block is not there is not there
pub none_of_chain : (block : Reference → List ℕ) (first : Option Reference) (i : ℕ) → chain_at block first (i / 510) ≡ None → places block first (Block i) ≡ None
none_of_chain block first i none = ap (λ o. option_and_then (λ q. reference_in (block q) (i % 510)) o) none

module _ (block : Reference → List ℕ) (first : Option Reference) (n : ℕ) (v : Part → Option Reference) (c : Content)
    (there : (x : Part) → is_some (v x) ≡ has_part c x) (holds : (x : Part) (r : Reference) → v x ≡ Some r → Holds v n c x (block r)) (same : v (Chain 0) ≡ first)
  where
    past : (k : ℕ) → v (Chain k) ≡ None → v (Chain (k + 1)) ≡ None
    past k none = none_is (v (Chain (k + 1))) (there (Chain (k + 1)) ∙ not_next (chains_of c) k (sym (there (Chain k)) ∙ ap is_some none))
      where
        not_next : (chains k : ℕ) → nat_lt k chains ≡ false → nat_lt (k + 1) chains ≡ false
        not_next chains k not = elim (cases_Bool (nat_lt (k + 1) chains)) [
          | inl is ↦ absurd (true≢false (sym (lt-ltb k chains (omega (arith, ltb-true (k + 1) chains is))) ∙ not))
          | inr is_not ↦ is_not
        ]

    chain_step : (k : ℕ) (o : Option Reference) → v (Chain k) ≡ o → v (Chain (k + 1)) ≡ option_and_then (λ r. next_in (block r)) o
    chain_step k None is = past k is
    chain_step k (Some r) is =
        let h : HoldsChain v n k (block r) = holds (Chain k) r is in
        sym h.next ∙ sym (next_is h.chain (block r) h.spelled)

    pub chains_are : (k : ℕ) → v (Chain k) ≡ chain_at block first k
    chains_are zero = same
    chains_are (suc k) =
        let next : suc k ≡ k + 1 = omega arith in
        ap (λ (j : ℕ). v (Chain j)) next ∙ chain_step k (v (Chain k)) refl ∙ ap (λ o. option_and_then (λ r. next_in (block r)) o) (chains_are k)

    block_step : (i : ℕ) (o : Option Reference) → v (Chain (i / 510)) ≡ o → v (Block i) ≡ option_and_then (λ r. reference_in (block r) (i % 510)) o
    block_step i None is = none_is (v (Block i)) (there (Block i) ∙ (elim (cases_Bool (is_stored c i)) [
      | inl stored ↦ absurd (true≢false (sym (lt-ltb (i / 510) (chains_of c) (stored_chains c i stored)) ∙ sym (there (Chain (i / 510))) ∙ ap is_some is))
      | inr not ↦ not
    ]))
    block_step i (Some r) is =
        let h : HoldsChain v n (i / 510) (block r) = holds (Chain (i / 510)) r is in
        let at : 510 * (i / 510) + i % 510 ≡ i = omega arith in
        ap (λ (j : ℕ). v (Block j)) (sym at)
        ∙ sym (get_or_from_slice_get h.chain.references (i % 510) (v (Block (510 * (i / 510) + i % 510))) None (h.references (i % 510) (omega arith)))
        ∙ sym (reference_is h.chain (block r) (i % 510) h.spelled)

    blocks_are : (i : ℕ) → v (Block i) ≡ places block first (Block i)
    blocks_are i = block_step i (v (Chain (i / 510))) refl ∙ ap (λ o. option_and_then (λ r. reference_in (block r) (i % 510)) o) (chains_are (i / 510))

    -- whatever places show a content, they are those of the walk
    pub places_are : (x : Part) → v x ≡ places block first x
    places_are (Chain k) = chains_are k
    places_are (Block i) = blocks_are i
