use Rattle.std.proofs.Common.{sym, ◌∙◌, arith}
use Rattle.std.proofs.lemmas.Bool.{true≢false}
use Rattle.fs_dir.proofs.BlockLemmas.{block_parts, block_zeros, answer_found, answer_bad}
use Rattle.fs_dir.proofs.block.read_slots.Goals as goal

pub returns-then-bytes-ne-BLOCK_BYTES-clause-bad : goal.returns-then-bytes-ne-BLOCK_BYTES-clause-bad
returns-then-bytes-ne-BLOCK_BYTES-clause-bad c = λ _ slots h. c.if-bytes-ne-BLOCK_BYTES.true (block_parts slots c.args.bytes.now h).sized

pub returns-then-are_zeros-clause-found : goal.returns-then-are_zeros-clause-found
returns-then-are_zeros-clause-found c =
    answer_found c.args.bytes.now c.split_at.result.0.now c.split_at.result.1.now c.read_all.result c.split_at.ensures.front c.split_at.ensures.back (omega arith)
    (c.are_zeros.ensures.0 c.if-are_zeros.true) c.read_all.ensures.found

pub returns-then-are_zeros-clause-bad : goal.returns-then-are_zeros-clause-bad
returns-then-are_zeros-clause-bad c = answer_bad c.args.bytes.now c.split_at.result.0.now c.read_all.result c.split_at.ensures.front c.read_all.ensures.bad

pub returns-else-are_zeros-clause-bad : goal.returns-else-are_zeros-clause-bad
returns-else-are_zeros-clause-bad c = λ _ slots h.
    let zeros = block_zeros slots c.args.bytes.now c.split_at.result.1.now h c.split_at.ensures.back in
    true≢false (sym (c.are_zeros.ensures.1 zeros) ∙ c.if-are_zeros.false)
