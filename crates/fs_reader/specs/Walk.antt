-- Where the parts of a file lie, as its record and its chaining blocks say.
use Rattle.std.specs.Prelude.{ℕ, zero, suc, ◌/◌, ◌%◌, List, take, drop, get_or, Option, None, option_and_then}
use Rattle.fs_layout.specs.declared.reference.Reference.{Reference}
use Rattle.fs_chain.specs.ReferenceLists.{references_in}
use Rattle.fs_image.specs.Owners.{Part, Chain, Block}

-- the next chaining block that the bytes of one name, and the reference of this index that they have
abbrev pub next_in : List ℕ → Option Reference
next_in bytes = get_or (references_in (take 8 bytes)) 0 None

abbrev pub reference_in : List ℕ → ℕ → Option Reference
reference_in bytes index = get_or (references_in (drop 16 bytes)) index None

-- the chaining block with this index, from the first one on
abbrev pub chain_at : (Reference → List ℕ) → Option Reference → ℕ → Option Reference
chain_at block first zero = first
chain_at block first (suc k) = option_and_then (λ r. next_in (block r)) (chain_at block first k)

-- where each part of a file lies whose first chaining block is there
abbrev pub places : (Reference → List ℕ) → Option Reference → Part → Option Reference
places block first (Chain k) = chain_at block first k
places block first (Block i) = option_and_then (λ r. reference_in (block r) (i % 510)) (chain_at block first (i / 510))
