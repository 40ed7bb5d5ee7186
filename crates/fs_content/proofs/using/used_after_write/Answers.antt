use Rattle.std.proofs.Common.{ℕ, List, Some, None, ◌≡◌, ◌≢◌, ◌+◌, ◌-◌, ◌/◌, max, length, refl, sym, ap, ◌∙◌, arith}
use Rattle.std.specs.Option.{option_map_or}
use Rattle.std.specs.FinMap.{len}
use Rattle.fs_rules.specs.File.{greatest}
use Rattle.fs_rules.specs.Contents.{block_after, store, written}
use Rattle.fs_content.specs.Pieces.{from_on}
use Rattle.fs_content.proofs.WrittenLemmas.{written_some}
use Rattle.fs_content.proofs.UsedLemmas.{greatest_written, used_sum, used_unchanged}
use Rattle.fs_content.proofs.using.used_after_write.Goals as goal

pub returns-in-Some : goal.returns-in-Some
returns-in-Some c =
    let b = c.args.blocks.now in
    let o : ℕ = c.args.offset in
    let bytes : List ℕ = c.args.bytes.now in
    let some : length bytes ≢ 0 = λ e. omega (arith, c.in-Some.ensures.0) in
    let last : (o + c.in-Some.further) / 4096 ≡ (o + length bytes - 1) / 4096 = ap (λ n. n / 4096) (omega (arith, c.in-Some.ensures.0, c.in-Some.ensures.1)) in
    used_sum (written b o bytes) c.stored_after.result c.chains_up_to.result (Some c.greatest_with-greatest.result)
    (c.stored_after.ensures.exact (block_after b o bytes)
    ∙ ap (λ k. len (store (block_after b o bytes) (from_on (o / 4096) (k + 1 - o / 4096)) b)) last
    ∙ sym (ap (λ m. len m) (written_some b o bytes some)))
    (greatest_written b o bytes some
    ∙ ap Some (ap (λ l. option_map_or (λ index. max index l) (greatest b) l) (sym last) ∙ sym c.greatest_with-greatest.ensures))
    c.chains_up_to.ensures.exact

pub returns-in-Some-last_key : goal.returns-in-Some-last_key
returns-in-Some-last_key c =
    used_unchanged c.args.blocks.now c.args.offset c.args.bytes.now _ (omega (arith, c.in-None.ensures))
    (used_sum c.args.blocks.now c.len.result c.chains_up_to-in-Some-last_key.result (Some c.in-Some-last_key.greatest) c.len.ensures.len
    (sym c.in-Some-last_key.ensures) c.chains_up_to-in-Some-last_key.ensures.exact)

pub returns-in-None-last_key : goal.returns-in-None-last_key
returns-in-None-last_key c =
    used_unchanged c.args.blocks.now c.args.offset c.args.bytes.now _ (omega (arith, c.in-None.ensures))
    ((let e : c.len-in-None-last_key.result ≡ c.len-in-None-last_key.result + 0 = omega arith in e)
    ∙ used_sum c.args.blocks.now c.len-in-None-last_key.result 0 None c.len-in-None-last_key.ensures.len (sym c.in-None-last_key.ensures) refl)
