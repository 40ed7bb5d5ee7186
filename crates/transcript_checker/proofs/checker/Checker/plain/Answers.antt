use Rattle.std.proofs.Common.{◌≡◌, true, false, sym, ◌∙◌}
use Rattle.transcript_checker.proofs.JudgeLemmas.{refuted, plain_decides, plain_judged}
use Rattle.transcript_checker.proofs.checker.Checker.plain.Goals as goal

pub returns-then-not-branch : goal.returns-then-not-branch
returns-then-not-branch c o schedule n book stands goes =
    let is : c.in_ok-may_stand.field-0 ≡ false = cc (c.if-not-branch.true) in
    refuted _ (plain_decides o schedule n book c.args.self.now c.args.line.now stands goes c.requires.kind) (sym (c.in_ok-may_stand.ensures {u = tt}) ∙ is)

pub returns : goal.returns
returns c o schedule n book stands goes =
    let is : c.in_ok-may_stand.field-0 ≡ true = cc (c.if-not-branch.false) in
    plain_judged o schedule n book c.args.self.now c.note.new.facts c.args.line.now stands goes c.requires.kind (sym (c.in_ok-may_stand.ensures {u = tt}) ∙ is) (c.in_ok-note.ensures {u = tt})
