-- A file is read back from its record, along its chaining blocks: what one memory shows is one file.
use Rattle.std.proofs.Common.{◌≡◌, ℕ, zero, suc, ◌+◌, ◌*◌, ◌<◌, true, false, List, Option, Some, None, inl, inr, refl, sym, ap, subst, ◌∙◌, arith}
use Rattle.std.specs.Prelude.{◌/◌, ◌%◌, nat_lt, slice_get, is_some, unwrap_or, option_map}
use Rattle.std.proofs.lemmas.Bool.{cases_Bool, true≢false, ltb-true, lt-ltb}
use Rattle.std.proofs.lemmas.Option.{none-some}
use Rattle.fs_layout.specs.declared.attrs.Attrs.{Attrs}
use Rattle.fs_layout.specs.declared.reference.Reference.{Reference}
use Rattle.fs_chain.specs.declared.chain_block.ChainBlock.{ChainBlock}
use Rattle.fs_chain.proofs.ChainLemmas.{chain_one}
use Rattle.fs_rules.specs.declared.content.Content.{Content}
use Rattle.fs_rules.specs.declared.file.File.{File}
use Rattle.fs_rules.specs.File.{kind_of, parent_of}
use Rattle.fs_image.specs.Owners.{Part, Chain, Block}
use Rattle.fs_image.specs.Parts.{chains_of, is_stored, has_part, live_inode, Holds, HoldsChain, HoldsBlock}
use Rattle.fs_image.proofs.ContentLemmas.{stored_chains, IsWhole, content_one}

-- what blocks hold of a content, by the places of its parts
pub record IsShown (block : Reference → List ℕ) (n : ℕ) (place : Part → Option Reference) (c : Content) : Type 0 where
  pub there : (x : Part) → is_some (place x) ≡ has_part c x
  pub holds : (x : Part) (r : Reference) → place x ≡ Some r → Holds place n c x (block r)

some_is : {A : Type 0} (o : Option A) → is_some o ≡ true → (x : A) × (o ≡ Some x)
some_is None some = absurd (true≢false (sym some))
some_is (Some x) some = (x, refl)

none_is : {A : Type 0} (o : Option A) → is_some o ≡ false → o ≡ None
none_is None none = refl
none_is (Some x) none = absurd (true≢false none)

-- a stored block is where its place is
found_at : {block : Reference → List ℕ} {n : ℕ} (place : Part → Option Reference) (c : Content) → IsShown block n place c → (i : ℕ) (o : Option Reference) → place (Block i) ≡ o
    → (is_some (option_map block o) ≡ is_stored c i) × ((bytes : List ℕ) → option_map block o ≡ Some bytes → HoldsBlock c i bytes)
found_at place c shown i None is = (sym (ap is_some is) ∙ shown.there (Block i), λ bytes none. absurd (none-some bytes none))
found_at {block} place c shown i (Some r) is =
    (sym (ap is_some is) ∙ shown.there (Block i), λ bytes same. subst (λ b. HoldsBlock c i b) (ap (λ x. unwrap_or x bytes) same) (shown.holds (Block i) r is))

module _ (block : Reference → List ℕ) (n : ℕ) (w v : Part → Option Reference) (c d : Content) (cs : IsShown block n w c) (ds : IsShown block n v d) where
  -- a part behind the last chaining block has none
  past : (place : Part → Option Reference) (e : Content) → IsShown block n place e → (k : ℕ) → place (Chain k) ≡ None → place (Chain (k + 1)) ≡ None
  past place e shown k none =
      none_is (place (Chain (k + 1))) (shown.there (Chain (k + 1)) ∙ not_next (chains_of e) k (sym (shown.there (Chain k)) ∙ ap is_some none))
    where
      not_next : (chains k : ℕ) → nat_lt k chains ≡ false → nat_lt (k + 1) chains ≡ false
      not_next chains k not = elim (cases_Bool (nat_lt (k + 1) chains)) [
        | inl is ↦ absurd (true≢false (sym (lt-ltb k chains (omega (arith, ltb-true (k + 1) chains is))) ∙ not))
        | inr is_not ↦ is_not
      ]

  -- what two chaining blocks in one place say is the same
  next_same : (k : ℕ) (bytes : List ℕ) → HoldsChain w n k bytes → HoldsChain v n k bytes → w (Chain (k + 1)) ≡ v (Chain (k + 1))
  next_same k bytes hw hv = sym hw.next ∙ ap (λ (x : ChainBlock). x.next) (chain_one hw.chain hv.chain bytes hw.spelled hv.spelled) ∙ hv.next

  reference_same : (k j : ℕ) (bytes : List ℕ) → HoldsChain w n k bytes → HoldsChain v n k bytes → j < 510 → w (Block (510 * k + j)) ≡ v (Block (510 * k + j))
  reference_same k j bytes hw hv within =
      some_same (sym (hw.references j within) ∙ ap (λ (x : ChainBlock). slice_get x.references j) (chain_one hw.chain hv.chain bytes hw.spelled hv.spelled) ∙ hv.references j within)
    where
      some_same : {a b : Option Reference} → Some a ≡ Some b → a ≡ b
      some_same {a} {b} same = ap (λ x. unwrap_or x a) same

  module _ (first : w (Chain 0) ≡ v (Chain 0)) where
    step : (k : ℕ) (o : Option Reference) → w (Chain k) ≡ o → v (Chain k) ≡ o → w (Chain (k + 1)) ≡ v (Chain (k + 1))
    step k None is too = past w c cs k is ∙ sym (past v d ds k too)
    step k (Some r) is too = next_same k (block r) (cs.holds (Chain k) r is) (ds.holds (Chain k) r too)

    pub chains_same : (k : ℕ) → w (Chain k) ≡ v (Chain k)
    chains_same zero = first
    chains_same (suc k) =
        let next : k + 1 ≡ suc k = omega arith in
        subst (λ (j : ℕ). w (Chain j) ≡ v (Chain j)) next (step k (w (Chain k)) refl (sym (chains_same k)))

    -- a block whose chaining block is not there is not stored
    not_stored : (place : Part → Option Reference) (e : Content) → IsShown block n place e → (i : ℕ) → place (Chain (i / 510)) ≡ None → place (Block i) ≡ None
    not_stored place e shown i none = elim (cases_Bool (is_stored e i)) [
      | inl is ↦ absurd (true≢false (sym (lt-ltb (i / 510) (chains_of e) (stored_chains e i is)) ∙ sym (shown.there (Chain (i / 510))) ∙ ap is_some none))
      | inr is_not ↦ none_is (place (Block i)) (shown.there (Block i) ∙ is_not)
    ]

    block_step : (i : ℕ) (o : Option Reference) → w (Chain (i / 510)) ≡ o → v (Chain (i / 510)) ≡ o → w (Block i) ≡ v (Block i)
    block_step i None is too = not_stored w c cs i is ∙ sym (not_stored v d ds i too)
    block_step i (Some r) is too =
        let at : 510 * (i / 510) + i % 510 ≡ i = omega arith in
        subst (λ (j : ℕ). w (Block j) ≡ v (Block j)) at
        (reference_same (i / 510) (i % 510) (block r) (cs.holds (Chain (i / 510)) r is) (ds.holds (Chain (i / 510)) r too) (omega arith))

    pub blocks_same : (i : ℕ) → w (Block i) ≡ v (Block i)
    blocks_same i = block_step i (w (Chain (i / 510))) refl (sym (chains_same (i / 510)))

    pub contents_same : IsWhole c → IsWhole d → kind_of c ≡ kind_of d → unwrap_or (parent_of c) 0 ≡ unwrap_or (parent_of d) 0 → c ≡ d
    contents_same wc wd kind parent =
        content_one (λ i. option_map block (w (Block i))) c d wc wd (λ i. found_at w c cs i (w (Block i)) refl)
        (λ i. found_at v d ds i (w (Block i)) (sym (blocks_same i))) kind parent

-- a record and what is held at its places are of one file
pub file_one : (block : Reference → List ℕ) (n : ℕ) (w v : Part → Option Reference) (f g : File) → IsShown block n w f.content → IsShown block n v g.content
    → IsWhole f.content → IsWhole g.content → live_inode f (w (Chain 0)) ≡ live_inode g (v (Chain 0)) → f ≡ g
file_one block n w v f g fs gs wf wg same =
    let first : w (Chain 0) ≡ v (Chain 0) = ap (λ (a : Attrs). a.first) same in
    let kind : kind_of f.content ≡ kind_of g.content = ap (λ (a : Attrs). a.kind) same in
    let parent : unwrap_or (parent_of f.content) 0 ≡ unwrap_or (parent_of g.content) 0 = ap (λ (a : Attrs). a.parent) same in
    let content : f.content ≡ g.content = contents_same block n w v f.content g.content fs gs first wf wg kind parent in
    λ i. record {
      content = content i;
      mode = (ap (λ (a : Attrs). a.mode) same) i;
      links = (ap (λ (a : Attrs). a.links) same) i;
      uid = (ap (λ (a : Attrs). a.uid) same) i;
      gid = (ap (λ (a : Attrs). a.gid) same) i;
      size = (ap (λ (a : Attrs). a.size) same) i;
      generation = (ap (λ (a : Attrs). a.generation) same) i;
      change = (ap (λ (a : Attrs). a.change) same) i;
      atime = record { sec = (ap (λ (a : Attrs). a.atime_sec) same) i; usec = (ap (λ (a : Attrs). a.atime_usec) same) i };
      mtime = record { sec = (ap (λ (a : Attrs). a.mtime_sec) same) i; usec = (ap (λ (a : Attrs). a.mtime_usec) same) i };
      ctime = record { sec = (ap (λ (a : Attrs). a.ctime_sec) same) i; usec = (ap (λ (a : Attrs). a.ctime_usec) same) i };
    }
