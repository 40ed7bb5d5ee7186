use Rattle.std.proofs.Common.{get_or, take, drop, ap, sym, ◌∙◌, arith}
use Rattle.std.proofs.lemmas.Bool.{true≢false}
use Rattle.fs_dir.proofs.SlotLemmas.{two_cells, head_is, head_allowed, zeros_behind, slot_found}
use Rattle.fs_dir.proofs.slot.parts_of.Goals as goal

pub returns-then-not-is_head-clause-none : goal.returns-then-not-is_head-clause-none
returns-then-not-is_head-clause-none c = λ s h.
    let head = head_is c.args.bytes.now c.in_ok-words.words s h c.in_ok-words.ensures.found.0 (sym c.split_at.ensures.front ∙ c.in_ok-words.ensures.found.1) in
    absurd (true≢false (sym (c.is_head.ensures.1 (head_allowed c.in_ok-words.words s h.fits.is head)) ∙ c.if-not-is_head.true))

pub returns-then-are_zeros-clause-found : goal.returns-then-are_zeros-clause-found
returns-then-are_zeros-clause-found c =
    let words = c.in_ok-words.words in
    let allowed = c.is_head.ensures.0 c.if-not-is_head.false in
    slot_found c.args.bytes.now words c.split_at-2.result.0.now c.split_at-2.result.1.now (get_or words 0 0) (get_or words 1 0) (λ i. omega (arith, c.type_inv.bytes i)) c.requires
    c.in_ok-words.ensures.found.0 (two_cells words (omega arith)) (sym c.split_at.ensures.front ∙ c.in_ok-words.ensures.found.1) allowed.0 allowed.1
    (c.split_at-2.ensures.front ∙ ap (take (get_or words 1 0)) c.split_at.ensures.back) (c.split_at-2.ensures.back ∙ ap (drop (get_or words 1 0)) c.split_at.ensures.back)
    (c.are_zeros.ensures.0 c.if-are_zeros.true)

pub returns-else-are_zeros-clause-none : goal.returns-else-are_zeros-clause-none
returns-else-are_zeros-clause-none c = λ s h.
    let words = c.in_ok-words.words in
    let head = head_is c.args.bytes.now words s h c.in_ok-words.ensures.found.0 (sym c.split_at.ensures.front ∙ c.in_ok-words.ensures.found.1) in
    let zeros = zeros_behind s c.args.bytes.now words c.split_at-2.result.1.now h head (c.split_at-2.ensures.back ∙ ap (drop (get_or words 1 0)) c.split_at.ensures.back) in
    absurd (true≢false (sym (c.are_zeros.ensures.1 zeros) ∙ c.if-are_zeros.false))
