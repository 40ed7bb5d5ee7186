use Rattle.std.proofs.Common.{◌≡◌, ℕ, ap, sym, ◌∙◌, length, replicate, arith}
use Rattle.std.proofs.lemmas.Bool.{true≢false}
use Rattle.fs_layout.proofs.RecordLemmas.{length-superblock, superblock_back, superblock_only, superblock_found}
use Rattle.fs_layout.proofs.superblock.read_superblock.Goals as goal

pub returns-then-bytes-ne-BLOCK_BYTES-clause-only : goal.returns-then-bytes-ne-BLOCK_BYTES-clause-only
returns-then-bytes-ne-BLOCK_BYTES-clause-only c = λ s h. absurd (c.if-bytes-ne-BLOCK_BYTES.true (length-superblock s c.args.bytes.now h))

pub returns-in_ok-read_words-clause-found : goal.returns-in_ok-read_words-clause-found
returns-in_ok-read_words-clause-found c =
    superblock_found c.args.bytes.now c.in_ok-read_words.field-0 c.split_at.result.1.now c.superblock_of.result c.in_ok-read_words.ensures.found.0
    (sym c.split_at.ensures.front ∙ c.in_ok-read_words.ensures.found.1) (sym c.split_at.ensures.back) (omega arith) (c.are_zeros.ensures.0 c.if-are_zeros.true)
    c.superblock_of.ensures.found

pub returns-in_ok-read_words-clause-only : goal.returns-in_ok-read_words-clause-only
returns-in_ok-read_words-clause-only c =
    superblock_only c.args.bytes.now c.in_ok-read_words.field-0 c.superblock_of.result c.in_ok-read_words.ensures.found.0
    (sym c.split_at.ensures.front ∙ c.in_ok-read_words.ensures.found.1) c.superblock_of.ensures.only

pub returns-else-are_zeros-clause-only : goal.returns-else-are_zeros-clause-only
returns-else-are_zeros-clause-only c = λ s h.
    let zeros = c.split_at.result.1.now in
    let back : zeros ≡ replicate 4072 0 = c.split_at.ensures.back ∙ superblock_back s c.args.bytes.now h in
    let sized : 4072 ≡ length zeros = omega arith in
    absurd (true≢false (sym (c.are_zeros.ensures.1 (back ∙ ap (λ (n : ℕ). replicate n 0) sized)) ∙ c.if-are_zeros.false))
