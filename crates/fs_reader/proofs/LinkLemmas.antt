-- The chaining blocks of a file, read one by one.
use Rattle.std.proofs.Common.{◌≡◌, ℕ, ◌+◌, ◌*◌, ◌<◌, true, false, List, Option, Some, None, inl, inr, refl, sym, ap, subst, ◌∙◌, arith}
use Rattle.std.specs.Prelude.{is_some}
use Rattle.std.proofs.lemmas.Bool.{cases_lt, true≢false, lt-ltb}
use Rattle.fs_layout.specs.declared.reference.Reference.{Reference}
use Rattle.fs_bitmap.specs.Bits.{is_used}
use Rattle.fs_chain.specs.declared.chain_block.ChainBlock.{ChainBlock}
use Rattle.fs_rules.specs.declared.content.Content.{Content}
use Rattle.fs_rules.specs.declared.geometry.Geometry.{Geometry}
use Rattle.fs_rules.specs.Geometry.{IsWithinLimits}
use Rattle.mini_tx.specs.FlatMemory.{Flat}
use Rattle.fs_image.specs.Owners.{Chain}
use Rattle.fs_image.specs.Parts.{chains_of, HoldsChain}
use Rattle.fs_image.specs.Places.{block_bytes}
use Rattle.fs_image.specs.Records.{IsSet}
use Rattle.fs_image.specs.Stands.{IsBlock}
use Rattle.fs_reader.specs.Contents.{ReadsTo, IsNoneClaimed, Refers}
use Rattle.fs_reader.specs.Links.{IsLinkAt, IsLinkRead, IsNoLinkClaimed, ReadsLinks, IsNoChainClaimed}
use Rattle.fs_reader.specs.Marks.{bit_of}
use Rattle.fs_reader.specs.Walk.{chain_at, places}
use Rattle.fs_reader.proofs.MarkLemmas.{takes_can}
use Rattle.fs_reader.proofs.ReadLemmas.{read_chain}
use Rattle.fs_reader.proofs.WalkLemmas.{walk_next, walk_refers, chain_holds}

module _ (g : Geometry) (limits : IsWithinLimits g) (flat : Flat) (n index : ℕ) (from : Option Reference) (left : List ℕ) (c : Content) where
  -- ---- one chaining block

  pub link_read : (at : Reference) (chain : ChainBlock) (mid new : List ℕ) (d : Content) → from ≡ Some at → IsBlock g at → is_used left (bit_of at) ≡ true → IsSet left mid (bit_of at) false
      → IsLinkAt g flat n index at chain → ReadsTo g flat (λ place. Refers place index chain.references) (511 * index + 1) (511 * (index + 1)) mid c new d
      → IsLinkRead g flat n index from left c new d chain.next
  link_read at chain mid new d is inside marked set link reads =
      record {
        at = at;
        from_is = is;
        chain = chain;
        link = link;
        next_is = refl;
        reads = λ place empty start links read.
            reads place empty start links.refers (read_chain g limits flat place (511 * index) empty start left c read index refl at mid (links.lies ∙ is) inside marked set);
      }

  -- none is there
  pub none_there : from ≡ None → IsNoLinkClaimed g flat n index from left c
  none_there none place empty start d lies below read claim =
      true≢false (sym (lt-ltb index (chains_of d) below) ∙ sym (claim.content.there (Chain index)) ∙ ap is_some (lies ∙ none))

  module _ (at : Reference) (is : from ≡ Some at) where
    -- it is not marked
    pub not_marked : (IsBlock g at → is_used left (bit_of at) ≡ true → ⊥) → IsNoLinkClaimed g flat n index from left c
    not_marked not place empty start d lies below read claim =
        not (claim.marks.inside (Chain index) at (lies ∙ is)) (takes_can g limits place (511 * index) start left read.takes (Chain index) refl at (lies ∙ is) claim.marks)

    -- it is no chaining block of the file
    pub no_link : ((e : ChainBlock) → IsLinkAt g flat n index at e → ⊥) → IsNoLinkClaimed g flat n index from left c
    no_link not place empty start d lies below read claim =
        let h : HoldsChain place n index (block_bytes g flat at) = claim.content.holds (Chain index) at (lies ∙ is) in
        not h.chain (record { spelled = h.spelled; file = h.file; index_is = h.index_is })

    -- what it refers to is not claimed
    pub not_referred : (chain : ChainBlock) (mid : List ℕ) → IsBlock g at → is_used left (bit_of at) ≡ true → IsSet left mid (bit_of at) false
        → ((e : ChainBlock) → IsLinkAt g flat n index at e → chain ≡ e) → IsNoneClaimed g flat (λ place. Refers place index chain.references) (511 * index + 1) mid c
        → IsNoLinkClaimed g flat n index from left c
    not_referred chain mid inside marked set only not place empty start d lies below read claim =
        let h : HoldsChain place n index (block_bytes g flat at) = claim.content.holds (Chain index) at (lies ∙ is) in
        let same : chain ≡ h.chain = only h.chain (record { spelled = h.spelled; file = h.file; index_is = h.index_is }) in
        not n place empty start d (subst (λ (e : ChainBlock). Refers place index e.references) (sym same) h.references)
        (read_chain g limits flat place (511 * index) empty start left c read index refl at mid (lies ∙ is) inside marked set) claim

-- ---- all of them

module _ (g : Geometry) (flat : Flat) (n : ℕ) (first : Option Reference) (before : List ℕ) (b : Content) where
  pub no_links : ReadsLinks g flat n first 0 before b before b first
  no_links empty start read = record { read = read; held = λ k below. absurd (omega (arith, below)); behind_is = refl }

  module _ (k : ℕ) (left : List ℕ) (c : Content) (next : Option Reference) (reads : ReadsLinks g flat n first k before b left c next) where
    pub more_links : (new : List ℕ) (d : Content) (behind : Option Reference) → IsLinkRead g flat n k next left c new d behind → ReadsLinks g flat n first (k + 1) before b new d behind
    more_links new d behind link empty start read =
        let a = reads empty start read in
        let at : chain_at (block_bytes g flat) first k ≡ Some link.at = a.behind_is ∙ link.from_is in
        let holds : HoldsChain (places (block_bytes g flat) first) n k (block_bytes g flat link.at) =
        chain_holds (block_bytes g flat) first k link.at link.chain at link.link.spelled n link.link.file link.link.index_is in
        record {
          read = link.reads (places (block_bytes g flat) first) empty start (record { lies = a.behind_is; refers = walk_refers (block_bytes g flat) first k link.at link.chain at link.link.spelled }) a.read;
          held = λ j below. elim (cases_lt j k) [
            | inl less ↦ a.held j less
            | inr not ↦
                let same : k ≡ j = omega (arith, below, not) in
                subst (λ (i : ℕ). (r : Reference) × (chain_at (block_bytes g flat) first i ≡ Some r) × HoldsChain (places (block_bytes g flat) first) n i (block_bytes g flat r)) same
                (link.at, at, holds)
          ];
          behind_is = walk_next (block_bytes g flat) first k link.at link.chain at link.link.spelled ∙ sym link.next_is;
        }

    pub links_end : (chains : ℕ) → k ≡ chains → ReadsLinks g flat n first chains before b left c next
    links_end chains end = subst (λ (m : ℕ). ReadsLinks g flat n first m before b left c next) end reads

    pub not_links : (chains : ℕ) → k < chains → IsNoLinkClaimed g flat n k next left c → IsNoChainClaimed g flat n first chains before b
    not_links chains below not empty start d many read claim =
        let a = reads empty start read in
        not (places (block_bytes g flat) first) empty start d a.behind_is (omega (arith, below, many)) a.read claim
