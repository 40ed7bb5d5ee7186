use Rattle.std.proofs.Common.{◌≡◌, ◌&&◌, true, false, refl, sym, ap, ◌∙◌}
use Rattle.transcript_rules.specs.Book.{numbered}
use Rattle.transcript_trees.specs.Kept.{lines_of}
use Rattle.transcript_checker.proofs.TreeJudgeLemmas.{other_count, mount_judged}
use Rattle.transcript_checker.proofs.checker.Checker.mount.Goals as goal

pub returns-then-len-lines : goal.returns-then-len-lines
returns-then-len-lines c o schedule n book stands goes =
    other_count o schedule n book c.args.self.now stands goes c.args.number c.args.lines c.len.result c.in_ok-listing.listing (c.in_ok-listing.ensures {u = tt} ∙ ap (λ m. lines_of (numbered c.args.self.now.cuts.trees.items m)) c.from.ensures) c.len.ensures c.if-len-lines.true

pub returns : goal.returns
returns c o schedule n book stands goes =
    let may : c.may_mount.result ≡ true = cc (c.if-not-may_mount.false) in
    mount_judged o schedule n book c.args.self.now stands goes c.args.line.now c.args.number c.args.lines c.in_ok-listing.listing c.note.new.facts _ c.requires.line (sym c.may_mount.ensures ∙ may)
    (c.in_ok-listing.ensures {u = tt} ∙ ap (λ m. lines_of (numbered c.args.self.now.cuts.trees.items m)) c.from.ensures) (sym c.len.ensures ∙ c.if-len-lines.false) (c.in_ok-note.ensures {u = tt}) (ap (λ ls. record c.note.new.facts { owed = ls }) c.of.ensures) refl refl refl refl
