use Rattle.std.proofs.Common.{◌≡◌, true, false, refl, sym, ap, ◌∙◌}
use Rattle.transcript_rules.specs.Book.{with_numbered}
use Rattle.transcript_trees.specs.Kept.{with_tree}
use Rattle.transcript_checker.proofs.TreeJudgeLemmas.{cut_judged}
use Rattle.transcript_checker.proofs.checker.Checker.cut.Goals as goal

pub returns : goal.returns
returns c o schedule n book stands goes =
    let may : c.may_cut.result ≡ true = cc (c.if-not-may_cut.false) in
    cut_judged o schedule n book c.args.self.now stands goes c.args.line.now c.args.number c.args.at c.in_ok-tree.tree c.note.new.facts _ c.requires.line (sym c.may_cut.ensures ∙ may)
    (c.in_ok-tree.ensures {u = tt} book.trees stands.kept) (c.in_ok-note.ensures {u = tt}) refl refl refl refl (c.keep.ensures ∙ ap (λ m. with_numbered c.args.self.now.cuts.trees.items m (with_tree c.in_ok-tree.tree)) c.from.ensures)
