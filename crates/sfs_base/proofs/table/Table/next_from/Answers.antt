use Rattle.std.proofs.Common.{◌≤◌, ap, subst, sym, ◌∙◌}
use Rattle.std.specs.Prelude.{IsSome}
use Rattle.std.specs.FinMap.{get}
use Rattle.sfs_base.proofs.TableLemmas.{on_none, range_first, range_least, range_none}
use Rattle.sfs_base.proofs.table.Table.next_from.Goals as goal

pub returns-in_err-next-clause-none : goal.returns-in_err-next-clause-none
returns-in_err-next-clause-none g c =
    on_none c.from_residual.result (λ q le. ap (λ m. get m q) (sym c.self.view_is)
    ∙ range_none c.self.inside.entries c.args.at c.range.result (c.range.ensures.in_range tt) c.in_err-next.ensures.steps.0 q le)

pub returns-clause-there : goal.returns-clause-there
returns-clause-there g c =
    subst (λ m. (c.args.at ≤ c.in_ok-next.next.now) × IsSome (get m c.in_ok-next.next.now)) c.self.view_is
    (range_first c.self.inside.entries c.args.at c.range.result (c.in_ok-next.next.now, c.in_ok-next.field-0-1.now) c.next.new.self
    (c.range.ensures.in_range tt) c.in_ok-next.ensures.steps)

pub returns-clause-least : goal.returns-clause-least
returns-clause-least g c q le lt =
    ap (λ m. get m q) (sym c.self.view_is)
    ∙ range_least c.self.inside.entries c.args.at c.range.result (c.in_ok-next.next.now, c.in_ok-next.field-0-1.now) c.next.new.self
    (c.range.ensures.in_range tt) c.in_ok-next.ensures.steps q le lt
