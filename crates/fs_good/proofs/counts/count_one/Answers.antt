use Rattle.std.proofs.Common.{◌+◌, ℕ, sym, subst}
use Rattle.fs_good.specs.Counts.{IsCapped, count_in}
use Rattle.fs_good.proofs.CountLemmas.{count_inserted, count_past}
use Rattle.fs_good.proofs.counts.count_one.Goals as goal

pub returns-clause-here : goal.returns-clause-here
returns-clause-here c =
    subst (λ (k : ℕ). IsCapped k (count_in c.args.counts.now c.args.number + 1)) (sym (count_inserted c.args.counts.now c.insert.new.self c.args.number c.one_more-more.result c.in_ok-insert.ensures.ok))
    (subst (λ (k : ℕ). IsCapped c.one_more-more.result (k + 1)) c.count_of.ensures c.one_more-more.ensures)

pub returns-clause-others : goal.returns-clause-others
returns-clause-others c = λ n other. count_past c.args.counts.now c.insert.new.self c.args.number c.one_more-more.result n c.in_ok-insert.ensures.ok other
