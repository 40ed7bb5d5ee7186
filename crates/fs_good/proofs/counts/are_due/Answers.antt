use Rattle.std.proofs.Common.{◌≡◌, refl, sym, subst, ◌∙◌}
use Rattle.std.specs.FinMap.{entries}
use Rattle.std.proofs.lemmas.Bool.{true≢false}
use Rattle.fs_laws.proofs.WholeLemmas.{due_of}
use Rattle.fs_good.specs.Counts.{count_in}
use Rattle.fs_good.proofs.LoopLemmas.{Left, is_no, left_not, left_none}
use Rattle.fs_good.proofs.counts.are_due.Goals as goal

pub returns-then-not-is_due : goal.returns-then-not-is_due
returns-then-not-is_due c =
    is_no (left_not (λ e. count_in c.args.counts.now e.0 ≡ due_of e.0 e.1 e.1.content) c.args.tree.now.files (c.in-Some.number.now, c.in-Some.file.now) c.next.new.self
    (subst (λ es. Left (λ e. count_in c.args.counts.now e.0 ≡ due_of e.0 e.1 e.1.content) es (entries c.args.tree.now.files)) c.in-Some.ensures.steps c.loop-number.invariant)
    (λ holds. true≢false (sym (c.is_due.ensures.1 holds) ∙ c.if-not-is_due.true)))

pub returns : goal.returns
returns c = (
  λ _. left_none (λ e. count_in c.args.counts.now e.0 ≡ due_of e.0 e.1 e.1.content) c.args.tree.now.files
      (subst (λ es. Left (λ e. count_in c.args.counts.now e.0 ≡ due_of e.0 e.1 e.1.content) es (entries c.args.tree.now.files)) c.in-None.ensures.steps.0 c.loop-number.invariant),
  λ _. refl,
)
