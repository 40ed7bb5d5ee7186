use Rattle.std.proofs.Common.{List, ℕ, refl, ap, ◌∙◌, ◌/◌, ◌%◌}
use Rattle.std.specs.Option.{option_map_or}
use Rattle.std.specs.FinMap.{get, insert}
use Rattle.sfs_base.proofs.MapLemmas.{get_inserted, insert_over, where_some}
use Rattle.fs_rules.specs.Contents.{zeroed_from}
use Rattle.fs_content.proofs.sizes.zero_rest.Goals as goal

pub returns-in-Some : goal.returns-in-Some
returns-in-Some c =
    let m = c.args.blocks.now in
    let k : ℕ = c.args.size / 4096 in
    let at : ℕ = c.args.size % 4096 in
    where_some c.replace-in-Some.result c.new.result
    (c.replace-in-Some.ensures.before ∙ ap (λ b. get b k) c.in-Some.ensures.some ∙ get_inserted m k c.new.result k refl)
    c.replace-in-Some.ensures.some
    ∙ ap (λ b. insert b k c.zeroed.result) c.in-Some.ensures.some
    ∙ insert_over m k c.new.result c.zeroed.result
    ∙ ap (insert m k) c.zeroed.ensures
    ∙ ap (λ o. option_map_or (λ (block : List ℕ). insert m k (zeroed_from at block)) o m) c.in-Some.ensures.before
