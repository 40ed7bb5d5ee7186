use Rattle.std.proofs.Common.{refl, sym, ap, ◌∙◌}
use Rattle.std.specs.FinMap.{get}
use Rattle.sfs_base.proofs.MapLemmas.{get_inserted, get_past_insert}
use Rattle.fs_good.proofs.reached.note_parent.Goals as goal

pub returns-in_ok-insert-clause-here : goal.returns-in_ok-insert-clause-here
returns-in_ok-insert-clause-here c =
    ap (λ m. get m c.args.number) c.in_ok-insert.ensures.ok ∙ get_inserted c.args.parents.now c.args.number c.in-Some.parent c.args.number refl ∙ sym c.in-Some.is ∙ c.parent_at.ensures

pub returns-in_ok-insert-clause-others : goal.returns-in_ok-insert-clause-others
returns-in_ok-insert-clause-others c = λ n other.
    ap (λ m. get m n) c.in_ok-insert.ensures.ok ∙ get_past_insert c.args.parents.now c.args.number c.in-Some.parent n other
