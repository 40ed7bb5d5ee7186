use Rattle.std.proofs.Common.{ℕ, rules, not, ◌==◌}
use Rattle.std.proofs.lemmas.Fn.{filter_same}
use Rattle.grant_ledger.proofs.places.take_out.Goals as goal

pub returns : goal.returns
returns c =
    let left = filter_same _ (λ (n : ℕ). not (n == c.args.memory)) _ (λ x b q called. search rules) _ _ c.retain.ensures.filtered in
    cc
