use Rattle.std.proofs.Common.{◌≡◌, ℕ, List, Option, true, false, Some, None, refl, sym, ap, ◌∙◌, subst}
use Rattle.transcript_rules.specs.Book.{with_numbered}
use Rattle.transcript_trees.specs.Kept.{with_reply}
use Rattle.transcript_checker.specs.Answers.{Changed}
use Rattle.transcript_checker.proofs.TreeJudgeLemmas.{came_there, may_point, point_judged}
use Rattle.transcript_checker.proofs.checker.Checker.point.Goals as goal

pub returns : goal.returns
returns c o schedule n book stands goes =
    let may : c.may_point.result ≡ true = cc (c.if-not-may_point.false) in
    let t = may_point o schedule n book c.args.self.now stands goes c.args.line.now c.args.point c.args.number c.args.made c.requires.line (sym c.may_point.ensures ∙ may) in
    let did = c.in_ok-reply.ensures {u = tt} in
    let changed = subst (λ (r : Option (List ℕ)). Changed book.trees t.1.0 c.args.number c.args.made c.change.new.trees r) c.in-Some.is
    (did.change book.trees t.1.0 stands.kept (came_there o schedule n book c.args.self.now stands goes c.args.number t.1.0 t.1.1)) in
    point_judged o schedule n book c.args.self.now stands goes c.args.line.now c.args.point c.args.number c.args.made c.in-Some.reply c.note.new.facts _ t c.requires.line changed (c.in_ok-note.ensures {u = tt}) did.reach refl refl refl (c.make.ensures ∙ ap (λ m. with_numbered c.args.self.now.replies m (with_reply c.in-Some.reply)) c.from.ensures)
