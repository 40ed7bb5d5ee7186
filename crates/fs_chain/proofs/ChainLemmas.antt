-- Chaining blocks and the bytes that spell them.
use Rattle.std.proofs.Common.{◌≡◌, ℕ, List, [], ◌∷◌, ◌++◌, length, get_or, take, drop, Option, Some, None, refl, sym, ap, subst, ◌∙◌, arith}
use Rattle.std.proofs.lemmas.List.{take_at, drop_at, length-append}
use Rattle.fs_layout.specs.declared.reference.Reference.{Reference}
use Rattle.fs_layout.specs.Words.{AreWords, spelled}
use Rattle.fs_layout.specs.References.{reference_words}
use Rattle.fs_layout.proofs.WordLemmas.{spelled-append, length-spelled, words_one}
use Rattle.fs_layout.proofs.RecordLemmas.{length-reference, reference_front}
use Rattle.fs_chain.specs.declared.chain_block.ChainBlock.{ChainBlock}
use Rattle.fs_chain.specs.declared.chain_block.Header.{Header}
use Rattle.fs_chain.specs.Chains.{header_words, SpellsChain}
use Rattle.fs_chain.specs.ReferenceLists.{references_words, SpellReferences}
use Rattle.fs_chain.specs.Laws.{ChainsHaveOneValue}
use Rattle.fs_chain.proofs.ReferencesLemmas.{AreWords-before, AreWords-behind, AreWords-append, length-references, references_one}

-- ---- headers

length-header_words : (next : Option Reference) (file index : ℕ) → length (header_words next file index) ≡ 4
length-header_words next file index = omega (arith, length-append (reference_words next) (file ∷ index ∷ []), length-reference next)

pub length-header : (next : Option Reference) (file index : ℕ) → length (spelled (header_words next file index)) ≡ 16
length-header next file index = omega (arith, length-spelled (header_words next file index), length-header_words next file index)

-- headers with the same words are the same
pub record OneHeader (next other : Option Reference) (file last index end : ℕ) : Type 0 where
  pub next_is : next ≡ other
  pub file_is : file ≡ last
  pub index_is : index ≡ end

pub header_one : (next other : Option Reference) (file last index end : ℕ) → header_words next file index ≡ header_words other last end → OneHeader next other file last index end
header_one next other file last index end e =
    let parts = reference_front next other (file ∷ index ∷ []) (last ∷ end ∷ []) e in
    let rest : file ∷ index ∷ [] ≡ last ∷ end ∷ [] = parts.1 in
    record { next_is = parts.0; file_is = cc; index_is = cc }

-- a header by its fields
unfoldable pub header_by : Option Reference → ℕ → ℕ → Header
header_by next file index = record { next = next; file = file; index = index }

header_by_fields : (h : Header) → header_by h.next h.file h.index ≡ h
unfolding header_by
header_by_fields h = refl

-- a header's words, one by one
pub record HeaderCells (words : List ℕ) (next : Option Reference) (file index : ℕ) : Type 0 where
  pub next_words : reference_words next ≡ get_or words 0 0 ∷ get_or words 1 0 ∷ []
  pub file_word : get_or words 2 0 ≡ file
  pub index_word : get_or words 3 0 ≡ index

cells : (next : Option Reference) (file index : ℕ) → HeaderCells (header_words next file index) next file index
cells None file index = record { next_words = refl; file_word = refl; index_word = refl }
cells (Some r) file index = record { next_words = refl; file_word = refl; index_word = refl }

pub header_cells : (words : List ℕ) (h : Header) → words ≡ header_words h.next h.file h.index → HeaderCells words h.next h.file h.index
header_cells words h e = subst (λ (ws : List ℕ). HeaderCells ws h.next h.file h.index) (sym e) (cells h.next h.file h.index)

pub header_same : (h : Header) (next : Option Reference) (file index : ℕ) → next ≡ h.next → file ≡ h.file → index ≡ h.index → header_by next file index ≡ h
header_same h next file index p q r =
    let same : header_by next file index ≡ header_by h.next h.file h.index = cc in
    same ∙ header_by_fields h

-- the header with words that were read is the one with these words
pub header_only : (bytes words : List ℕ) (h : Header) → AreWords words → bytes ≡ spelled words → AreWords (header_words h.next h.file h.index)
    → bytes ≡ spelled (header_words h.next h.file h.index) → words ≡ header_words h.next h.file h.index
header_only bytes words h fits are others spell = words_one words (header_words h.next h.file h.index) fits others (sym are ∙ spell)

-- ---- chaining blocks

abbrev pub header_in : ChainBlock → Header
header_in c = record { next = c.next; file = c.file; index = c.index }

-- the header of a chaining block, and the references behind it
pub record ChainParts (c : ChainBlock) (bytes : List ℕ) : Type 0 where
  pub sized : length bytes ≡ 4096
  pub front : take 16 bytes ≡ spelled (header_words c.next c.file c.index)
  pub front_words : AreWords (header_words c.next c.file c.index)
  pub back : SpellReferences c.references (drop 16 bytes)

pub chain_parts : (c : ChainBlock) (bytes : List ℕ) → SpellsChain c bytes → ChainParts c bytes
chain_parts c bytes h =
    let front = header_words c.next c.file c.index in
    let back = references_words c.references in
    let parts : bytes ≡ spelled front ++ spelled back = h.bytes_are ∙ spelled-append front back in
    record {
      sized = omega (arith, ap (length {A = ℕ}) parts, length-append (spelled front) (spelled back), length-header c.next c.file c.index, length-spelled back, length-references c.references, h.sized);
      front = ap (take 16) parts ∙ take_at (spelled front) (spelled back) 16 (length-header c.next c.file c.index);
      front_words = AreWords-before front back h.words;
      back = record {
        sized = h.sized;
        words = AreWords-behind front back h.words;
        bytes_are = ap (drop 16) parts ∙ drop_at (spelled front) (spelled back) 16 (length-header c.next c.file c.index);
      };
    }

-- a chaining block by its fields
unfoldable pub chain_by : Option Reference → ℕ → ℕ → List (Option Reference) → ChainBlock
chain_by next file index references = record { next = next; file = file; index = index; references = references }

pub chain_by_fields : (c : ChainBlock) → chain_by c.next c.file c.index c.references ≡ c
unfolding chain_by
chain_by_fields c = refl

-- a header and references behind it are a chaining block
pub chain_found : (front back : List ℕ) (next : Option Reference) (file index : ℕ) (references : List (Option Reference)) → AreWords (header_words next file index)
    → front ≡ spelled (header_words next file index) → SpellReferences references back → SpellsChain (chain_by next file index references) (front ++ back)
unfolding chain_by
chain_found front back next file index references fits are rest =
    let head = header_words next file index in
    let tail = references_words references in
    record {
      sized = rest.sized;
      words = AreWords-append head tail fits rest.words;
      bytes_are = ap (λ (f : List ℕ). f ++ back) are ∙ ap (λ (b : List ℕ). spelled head ++ b) rest.bytes_are ∙ sym (spelled-append head tail);
    }

-- a chaining block with the only header and the only references is the only one
pub chain_same : (c : ChainBlock) (next : Option Reference) (file index : ℕ) (references : List (Option Reference)) → next ≡ c.next → file ≡ c.file → index ≡ c.index
    → references ≡ c.references → chain_by next file index references ≡ c
chain_same c next file index references p q r s =
    let same : chain_by next file index references ≡ chain_by c.next c.file c.index c.references = cc in
    same ∙ chain_by_fields c

pub chain_one : ChainsHaveOneValue
chain_one c d bytes first second =
    let p = chain_parts c bytes first in
    let q = chain_parts d bytes second in
    let one = header_one c.next d.next c.file d.file c.index d.index
    (words_one (header_words c.next c.file c.index) (header_words d.next d.file d.index) p.front_words q.front_words (sym p.front ∙ q.front)) in
    let next = one.next_is in
    let file = one.file_is in
    let index = one.index_is in
    let references : c.references ≡ d.references =
    references_one c.references d.references (words_one (references_words c.references) (references_words d.references) p.back.words q.back.words (sym p.back.bytes_are ∙ q.back.bytes_are)) in
    let same : chain_by c.next c.file c.index c.references ≡ chain_by d.next d.file d.index d.references = cc in
    sym (chain_by_fields c) ∙ same ∙ chain_by_fields d
