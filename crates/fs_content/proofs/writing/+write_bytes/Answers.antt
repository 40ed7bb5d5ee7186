use Rattle.std.proofs.Common.{◌≡◌, ◌≢◌, ◌+◌, ◌-◌, ◌%◌, ℕ, List, ◌++◌, length, refl, sym, ap, ◌∙◌, arith}
use Rattle.std.proofs.lemmas.Bool.Decides.{nat_tests}
use Rattle.fs_rules.specs.Contents.{written}
use Rattle.fs_content.specs.Pieces.{piece}
use Rattle.fs_content.proofs.WrittenLemmas.{written_none, written_step}
use Rattle.fs_content.proofs.writing.+write_bytes.Goals as goal

pub returns-then-is_empty-clause-ok : goal.returns-then-is_empty-clause-ok
returns-then-is_empty-clause-ok t c = sym (written_none c.args.blocks.now c.args.offset c.args.bytes.now (let e : length c.args.bytes.now ≡ 0 = grind (arith, nat_tests, c.is_empty.ensures) in e))

pub returns-in-Ok-clause-ok : goal.returns-in-Ok-clause-ok
returns-in-Ok-clause-ok t c =
    let some : length c.args.bytes.now ≢ 0 = grind (arith, nat_tests, c.is_empty.ensures) in
    let from : ℕ = c.args.offset % 4096 in
    let here : List ℕ = c.split_at.result.0.now in
    c.in-Ok.ensures.ok
    ∙ ap (λ b. written b (c.args.offset + c.min-count.result) c.split_at.result.1.now) c.in_ok-before.ensures.ok
    ∙ written_step c.args.blocks.now c.args.offset c.min-count.result _ c.args.bytes.now here c.split_at.result.1.now c.in_ok-block.block refl some c.min-count.ensures
    c.split_at.ensures.front c.split_at.ensures.back
    (c.in_ok-block.ensures ∙ ap (λ b. piece b 0 from ++ here ++ piece b (from + length here) (4096 - (from + length here))) c.stored_block.ensures)
