use Rattle.std.proofs.Common.{refl, sym, subst, ◌∙◌}
use Rattle.std.specs.FinMap.{entries}
use Rattle.std.proofs.lemmas.Bool.{true≢false}
use Rattle.fs_rules.specs.Good.{IsGoodKept}
use Rattle.fs_good.proofs.LoopLemmas.{Left, is_no, left_not, left_none}
use Rattle.fs_good.proofs.shape.is_freed.Goals as goal

pub returns-then-not-is_kept : goal.returns-then-not-is_kept
returns-then-not-is_kept c =
    is_no (left_not (λ e. IsGoodKept c.args.tree.now e.0 e.1) c.args.tree.now.freed (c.in-Some.number.now, c.in-Some.kept.now) c.next.new.self
    (subst (λ es. Left (λ e. IsGoodKept c.args.tree.now e.0 e.1) es (entries c.args.tree.now.freed)) c.in-Some.ensures.steps c.loop-number.invariant)
    (λ holds. true≢false (sym (c.is_kept.ensures.1 holds) ∙ c.if-not-is_kept.true)))

pub returns : goal.returns
returns c = (
  λ _. left_none (λ e. IsGoodKept c.args.tree.now e.0 e.1) c.args.tree.now.freed
      (subst (λ es. Left (λ e. IsGoodKept c.args.tree.now e.0 e.1) es (entries c.args.tree.now.freed)) c.in-None.ensures.steps.0 c.loop-number.invariant),
  λ _. refl,
)
