use Rattle.std.proofs.Common.{ℕ, rules, not, ◌==◌}
use Rattle.std.proofs.lemmas.Fn.{filter_same}
use Rattle.tx_recover.proofs.work.without.Goals as goal

pub returns : goal.returns
returns c =
    let left = filter_same _ (λ (n : ℕ). not (n == c.args.from)) _ (λ x b q called. search rules) _ _ c.retain.ensures.filtered in
    cc
