-- Chaining blocks.
use Rattle.std.specs.Prelude.{◌≡◌, ℕ, ◌++◌, List, [], ◌∷◌, length, Option}
use Rattle.fs_layout.specs.declared.reference.Reference.{Reference}
use Rattle.fs_layout.specs.Words.{AreWords, spelled}
use Rattle.fs_layout.specs.References.{IsReference, reference_words}
use Rattle.fs_chain.specs.declared.chain_block.ChainBlock.{ChainBlock}
use Rattle.fs_chain.specs.ReferenceLists.{references_words}

-- the words with which a chaining block begins: the next one, the file's number, and its index in the list
abbrev pub header_words : Option Reference → ℕ → ℕ → List ℕ
header_words next file index = reference_words next ++ (file ∷ index ∷ [])

-- the words of a chaining block
abbrev pub chain_words : ChainBlock → List ℕ
chain_words c = header_words c.next c.file c.index ++ references_words c.references

-- a chaining block that can be written: the references that it keeps always can
abbrev pub IsChain : ChainBlock → Type 0
IsChain c = IsReference c.next

-- the bytes are this chaining block
pub record SpellsChain (c : ChainBlock) (bytes : List ℕ) : Type 0 where
  pub sized : length c.references ≡ 510
  pub words : AreWords (chain_words c)
  pub bytes_are : bytes ≡ spelled (chain_words c)
