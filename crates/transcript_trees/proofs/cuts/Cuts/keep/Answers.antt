use Rattle.std.proofs.Common.{◌≡◌, ℕ, length, ◌<◌, ◌≤◌, sym, subst}
use Rattle.transcript_book.proofs.PostLemmas.{not_numbered}
use Rattle.transcript_trees.specs.Kept.{with_tree}
use Rattle.transcript_trees.proofs.cuts.Cuts.keep.Goals as goal

pub returns-in_default : goal.returns-in_default
returns-in_default c =
    let many : c.len.result ≡ length c.args.self.now.trees.items = cc in
    sym (not_numbered c.args.self.now.trees.items c.args.number (with_tree c.args.tree) (subst (λ (n : ℕ). 0 < c.args.number → c.args.number ≤ n → ⊥) many c.in_default.ensures.none))
