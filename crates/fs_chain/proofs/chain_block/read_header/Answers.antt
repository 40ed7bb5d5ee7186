use Rattle.std.proofs.Common.{◌≡◌, ℕ, Some, ap, ◌∙◌, length}
use Rattle.fs_chain.proofs.ReferencesLemmas.{none_some, some_one, ok_some}
use Rattle.fs_chain.proofs.ChainLemmas.{length-header, header_by, header_cells, header_only, header_same}
use Rattle.fs_chain.proofs.chain_block.read_header.Goals as goal

pub returns-in_err-words-clause-only : goal.returns-in_err-words-clause-only
returns-in_err-words-clause-only c = λ h fits spell. absurd (c.in_err-words.ensures.none (ap (length {A = ℕ}) spell ∙ length-header h.next h.file h.index))

pub returns-in_err-ok-clause-only : goal.returns-in_err-ok-clause-only
returns-in_err-ok-clause-only c = λ h fits spell.
    let cells = header_cells c.in_ok-words.words h (header_only c.args.bytes.now c.in_ok-words.words h c.in_ok-words.ensures.found.0 c.in_ok-words.ensures.found.1 fits spell) in
    let there = c.from_words.ensures.only h.next cells.next_words in
    absurd (none_some c.ok.result h.next (ok_some c.from_words.result c.ok.result h.next there c.ok.ensures.value) c.in_err-ok.was)

pub returns-clause-only : goal.returns-clause-only
unfolding header_by
returns-clause-only c = λ h fits spell.
    let cells = header_cells c.in_ok-words.words h (header_only c.args.bytes.now c.in_ok-words.words h c.in_ok-words.ensures.found.0 c.in_ok-words.ensures.found.1 fits spell) in
    let there = c.from_words.ensures.only h.next cells.next_words in
    let next : c.in_ok-ok.field-0 ≡ h.next =
    some_one c.ok.result c.in_ok-ok.field-0 h.next c.in_ok-ok.was (ok_some c.from_words.result c.ok.result h.next there c.ok.ensures.value) in
    ap Some (header_same h c.in_ok-ok.field-0 _ _ next cells.file_word cells.index_word)
