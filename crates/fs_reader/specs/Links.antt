-- The chaining blocks of a file, read one by one.
use Rattle.std.specs.Prelude.{◌≡◌, ℕ, ◌+◌, ◌*◌, ◌<◌, List, Option, Some}
use Rattle.fs_layout.specs.declared.reference.Reference.{Reference}
use Rattle.fs_chain.specs.declared.chain_block.ChainBlock.{ChainBlock}
use Rattle.fs_chain.specs.Chains.{SpellsChain}
use Rattle.fs_rules.specs.declared.content.Content.{Content}
use Rattle.fs_rules.specs.declared.geometry.Geometry.{Geometry}
use Rattle.mini_tx.specs.FlatMemory.{Flat}
use Rattle.fs_image.specs.Owners.{Part, Chain}
use Rattle.fs_image.specs.Parts.{chains_of, HoldsChain}
use Rattle.fs_image.specs.Places.{block_bytes}
use Rattle.fs_reader.specs.Contents.{IsReadTo, IsClaimed, ReadsTo, Refers}
use Rattle.fs_reader.specs.Walk.{chain_at, places}

-- a block is the chaining block of a file with this index
pub record IsLinkAt (g : Geometry) (flat : Flat) (n index : ℕ) (at : Reference) (c : ChainBlock) : Type 0 where
  pub spelled : SpellsChain c (block_bytes g flat at)
  pub file : c.file ≡ n
  pub index_is : c.index ≡ index

-- the chaining block with this index lies at a place, and names its references and the next one
pub record Links (index : ℕ) (at : Option Reference) (references : List (Option Reference)) (place : Part → Option Reference) : Type 0 where
  pub lies : place (Chain index) ≡ at
  pub refers : Refers place index references

-- a chaining block was read, and all that it refers to
pub record IsLinkRead (g : Geometry) (flat : Flat) (n index : ℕ) (from : Option Reference) (left : List ℕ) (c : Content) (new : List ℕ) (d : Content) (next : Option Reference) : Type 0 where
  pub at : Reference
  pub from_is : from ≡ Some at
  pub chain : ChainBlock
  pub link : IsLinkAt g flat n index at chain
  pub next_is : next ≡ chain.next
  pub reads : ReadsTo g flat (Links index from chain.references) (511 * index) (511 * (index + 1)) left c new d

-- no content is claimed that has a chaining block with this index there
abbrev pub IsNoLinkClaimed : Geometry → Flat → ℕ → ℕ → Option Reference → List ℕ → Content → Type 0
IsNoLinkClaimed g flat n index from left c = (place : Part → Option Reference) (empty : Content) (start : List ℕ) (d : Content) → place (Chain index) ≡ from → index < chains_of d
    → IsReadTo g flat place (511 * index) empty start left c → IsClaimed g flat n place empty start d → ⊥

-- ---- all of them

-- so many chaining blocks were read from the first one on, and this is the place of the one behind them
pub record AreLinksRead (g : Geometry) (flat : Flat) (n : ℕ) (first : Option Reference) (chains : ℕ) (empty : Content) (start left : List ℕ) (c : Content) (behind : Option Reference) : Type 0 where
  pub read : IsReadTo g flat (places (block_bytes g flat) first) (511 * chains) empty start left c
  pub held : (k : ℕ) → k < chains → (r : Reference) × (chain_at (block_bytes g flat) first k ≡ Some r) × HoldsChain (places (block_bytes g flat) first) n k (block_bytes g flat r)
  pub behind_is : chain_at (block_bytes g flat) first chains ≡ behind

-- where nothing was read before, they are read
abbrev pub ReadsLinks : Geometry → Flat → ℕ → Option Reference → ℕ → List ℕ → Content → List ℕ → Content → Option Reference → Type 0
ReadsLinks g flat n first chains left c new d behind = (empty : Content) (start : List ℕ) → IsReadTo g flat (places (block_bytes g flat) first) 0 empty start left c
    → AreLinksRead g flat n first chains empty start new d behind

-- no content is claimed that has so many
abbrev pub IsNoChainClaimed : Geometry → Flat → ℕ → Option Reference → ℕ → List ℕ → Content → Type 0
IsNoChainClaimed g flat n first chains left c = (empty : Content) (start : List ℕ) (d : Content) → chains_of d ≡ chains
    → IsReadTo g flat (places (block_bytes g flat) first) 0 empty start left c → IsClaimed g flat n (places (block_bytes g flat) first) empty start d → ⊥
