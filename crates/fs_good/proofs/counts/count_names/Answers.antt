use Rattle.std.proofs.Common.{◌+◌, ℕ, inl, ap, subst, ◌∙◌, arith}
use Rattle.std.specs.Prelude.{sum_by, count_by}
use Rattle.std.proofs.lemmas.List.Sums.{sum_by-cons}
use Rattle.fs_rules.specs.declared.file.File.{File}
use Rattle.fs_rules.specs.File.{slots_of}
use Rattle.fs_rules.specs.Good.{names_file, naming_slots}
use Rattle.fs_good.specs.Counts.{IsCapped, count_in}
use Rattle.fs_good.proofs.CountLemmas.{capped_rest, count_none, capped_end}
use Rattle.fs_good.proofs.counts.count_names.Goals as goal

pub loop-file-init : goal.loop-file-init
loop-file-init c = λ n.
    let none = count_none _ n c.new-counts.ensures in
    let all = ap (sum_by (λ (e : ℕ × File). count_by (names_file n) (slots_of e.1.content))) (c.into_iter-file-iterator.ensures.into_iter_gives ∙ c.iter-file-items.ensures.entries) in
    inl (omega (arith, none, all))

pub loop-file-preserved : goal.loop-file-preserved
loop-file-preserved c = λ n.
    capped_rest (count_in c.loop-file.counts n) (count_by (names_file n) (slots_of c.in-Some.file.now.content))
    (sum_by (λ (e : ℕ × File). count_by (names_file n) (slots_of e.1.content)) c.next.new.self) (count_in c.count_file.new.counts n) (naming_slots c.args.tree.now n)
    (subst (λ (k : ℕ). IsCapped (count_in c.loop-file.counts n + k) (naming_slots c.args.tree.now n))
    (ap (sum_by (λ (e : ℕ × File). count_by (names_file n) (slots_of e.1.content))) c.in-Some.ensures.steps
    ∙ sum_by-cons (λ (e : ℕ × File). count_by (names_file n) (slots_of e.1.content)) (c.in-Some.field-0-0.now, c.in-Some.file.now) c.next.new.self)
    (c.loop-file.invariant n))
    (c.in_ok-count_file.ensures n)

pub returns : goal.returns
returns c = λ n. capped_end (count_in c.loop-file.counts n) (naming_slots c.args.tree.now n)
    (subst (λ es. IsCapped (count_in c.loop-file.counts n + sum_by (λ (e : ℕ × File). count_by (names_file n) (slots_of e.1.content)) es) (naming_slots c.args.tree.now n)) c.in-None.ensures.steps.0
    (c.loop-file.invariant n))
