use Rattle.std.proofs.Common.{◌+◌, ℕ, ap, subst, ◌∙◌}
use Rattle.std.specs.Prelude.{sum_by}
use Rattle.std.proofs.lemmas.List.Sums.{sum_by-cons}
use Rattle.fs_rules.specs.declared.file.File.{File}
use Rattle.fs_rules.specs.File.{used}
use Rattle.fs_rules.specs.Numbers.{used_in_all}
use Rattle.fs_good.specs.Counts.{IsCapped}
use Rattle.fs_good.proofs.CountLemmas.{capped_rest}
use Rattle.fs_good.proofs.shape.used_up_to_cap.Goals as goal

pub loop-file-preserved : goal.loop-file-preserved
loop-file-preserved c =
    capped_rest c.loop-file.used (used c.in-Some.file.now.content) (sum_by (λ (e : ℕ × File). used e.1.content) c.next.new.self) c.added-used.result (used_in_all c.args.tree.now)
    (subst (λ (k : ℕ). IsCapped (c.loop-file.used + k) (used_in_all c.args.tree.now))
    (ap (sum_by (λ (e : ℕ × File). used e.1.content)) c.in-Some.ensures.steps ∙ sum_by-cons (λ (e : ℕ × File). used e.1.content) (c.in-Some.field-0-0.now, c.in-Some.file.now) c.next.new.self)
    c.loop-file.invariant)
    (subst (λ (k : ℕ). IsCapped c.added-used.result (c.loop-file.used + k)) c.used.ensures c.added-used.ensures)
