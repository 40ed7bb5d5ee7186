use Rattle.std.proofs.Common.{◌≡◌, true, false, refl, sym, ◌∙◌}
use Rattle.transcript_checker.proofs.TreeJudgeLemmas.{list_outcome}
use Rattle.transcript_checker.proofs.checker.Checker.list.Goals as goal

pub returns : goal.returns
returns c o schedule n book stands goes =
    list_outcome o schedule n book c.args.self.now stands goes c.args.line.now c.args.text.now c.note.new.facts c.take-first.result c.take-first.new.self _ c.requires.line
    (let under : c.is_under.result ≡ true = cc (c.if-not-is_under.false) in sym c.is_under.ensures ∙ under) (c.in_ok-note.ensures {u = tt}) c.take-first.ensures.items c.take-first.ensures.last
    refl refl refl refl refl c.is_reply.result (sym c.is_reply.ensures)
