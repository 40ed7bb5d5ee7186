use Rattle.std.proofs.Common.{◌≡◌, true, cond, List, ℕ, sym, ap, ◌∙◌, ◌/◌, ◌%◌, arith}
use Rattle.std.specs.Prelude.{nat_lt}
use Rattle.std.specs.Option.{option_map_or}
use Rattle.std.specs.FinMap.{get, insert}
use Rattle.std.proofs.lemmas.Bool.Decides.{nat_tests}
use Rattle.fs_rules.specs.Contents.{cut, zeroed_from}
use Rattle.fs_content.proofs.sizes.resize.Goals as goal

pub returns-then-new-old : goal.returns-then-new-old
unfolding cut
returns-then-new-old c =
    let smaller : nat_lt c.args.new c.args.old ≡ true = grind (arith, nat_tests, c.if-new-old.true) in
    c.zero_rest.ensures
    ∙ ap (λ b. option_map_or (λ (block : List ℕ). insert b (c.args.new / 4096) (zeroed_from (c.args.new % 4096) block)) (get b (c.args.new / 4096)) b) c.remove_behind.ensures
    ∙ sym (ap (λ b. cond b (cut c.args.new c.args.blocks.now) c.args.blocks.now) smaller)
