use Rattle.std.proofs.Common.{◌≡◌, ℕ, ◌++◌, List, Some, None, take, take-append-drop, refl, ap, subst, sym, ◌∙◌}
use Rattle.fs_chain.specs.Chains.{SpellsChain}
use Rattle.fs_chain.specs.ReferenceLists.{SpellReferences}
use Rattle.fs_chain.specs.declared.chain_block.Header.{Header}
use Rattle.fs_chain.proofs.ReferencesLemmas.{none_some, some_one}
use Rattle.fs_chain.proofs.ChainLemmas.{header_in, chain_by, chain_parts, chain_found, chain_same}
use Rattle.fs_chain.proofs.chain_block.read_chain.Goals as goal

pub returns-then-bytes-ne-BLOCK_BYTES-clause-only : goal.returns-then-bytes-ne-BLOCK_BYTES-clause-only
returns-then-bytes-ne-BLOCK_BYTES-clause-only c = λ d h. absurd (c.if-bytes-ne-BLOCK_BYTES.true (chain_parts d c.args.bytes.now h).sized)

pub returns-in_err-next-clause-only : goal.returns-in_err-next-clause-only
returns-in_err-next-clause-only c = λ d h.
    let p = chain_parts d c.args.bytes.now h in
    let there = c.in_err-next.ensures.only (header_in d) p.front_words (c.split_at.ensures.front ∙ p.front) in
    absurd (none_some None (header_in d) there refl)

pub returns-in_err-read-clause-only : goal.returns-in_err-read-clause-only
returns-in_err-read-clause-only c = λ d h.
    let p = chain_parts d c.args.bytes.now h in
    let there = c.in_err-read.ensures.only d.references (subst (SpellReferences d.references) (sym c.split_at.ensures.back) p.back) in
    absurd (none_some None d.references there refl)

pub returns-clause-found : goal.returns-clause-found
unfolding chain_by
returns-clause-found c =
    let h = c.in_ok-next.field-0 in
    let front = c.split_at.result.0.now in
    let back = c.split_at.result.1.now in
    let whole : front ++ back ≡ c.args.bytes.now =
    ap (λ (f : List ℕ). f ++ back) c.split_at.ensures.front ∙ ap (λ (b : List ℕ). take 16 c.args.bytes.now ++ b) c.split_at.ensures.back ∙ take-append-drop 16 c.args.bytes.now in
    subst (SpellsChain (chain_by h.next h.file h.index c.in_ok-read.field-0)) whole
    (chain_found front back h.next h.file h.index c.in_ok-read.field-0 c.in_ok-next.ensures.found.0 c.in_ok-next.ensures.found.1 c.in_ok-read.ensures.found)

pub returns-clause-only : goal.returns-clause-only
unfolding chain_by
returns-clause-only c = λ d h.
    let head = c.in_ok-next.field-0 in
    let p = chain_parts d c.args.bytes.now h in
    let header : head ≡ header_in d = some_one (Some head) head (header_in d) refl (c.in_ok-next.ensures.only (header_in d) p.front_words (c.split_at.ensures.front ∙ p.front)) in
    let references : c.in_ok-read.field-0 ≡ d.references =
    some_one (Some c.in_ok-read.field-0) c.in_ok-read.field-0 d.references refl (c.in_ok-read.ensures.only d.references (subst (SpellReferences d.references) (sym c.split_at.ensures.back) p.back)) in
    ap Some (chain_same d head.next head.file head.index c.in_ok-read.field-0 (ap (λ (g : Header). g.next) header) (ap (λ (g : Header). g.file) header)
    (ap (λ (g : Header). g.index) header) references)
