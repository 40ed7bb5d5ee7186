use Rattle.std.proofs.Common.{refl, sym, subst, ◌∙◌}
use Rattle.std.specs.FinMap.{entries}
use Rattle.std.proofs.lemmas.Bool.{true≢false}
use Rattle.fs_good.specs.Places.{IsInPlace}
use Rattle.fs_good.proofs.LoopLemmas.{Left, is_no, left_not, left_none}
use Rattle.fs_good.proofs.place.are_in_place.Goals as goal

pub returns-then-not-is_in_place : goal.returns-then-not-is_in_place
returns-then-not-is_in_place c =
    is_no (left_not (λ e. IsInPlace c.args.tree.now e.0 e.1) c.args.tree.now.files (c.in-Some.number.now, c.in-Some.file.now) c.next.new.self
    (subst (λ es. Left (λ e. IsInPlace c.args.tree.now e.0 e.1) es (entries c.args.tree.now.files)) c.in-Some.ensures.steps c.loop-number.invariant)
    (λ holds. true≢false (sym (c.is_in_place.ensures.1 holds) ∙ c.if-not-is_in_place.true)))

pub returns : goal.returns
returns c = (
  λ _. left_none (λ e. IsInPlace c.args.tree.now e.0 e.1) c.args.tree.now.files
      (subst (λ es. Left (λ e. IsInPlace c.args.tree.now e.0 e.1) es (entries c.args.tree.now.files)) c.in-None.ensures.steps.0 c.loop-number.invariant),
  λ _. refl,
)
