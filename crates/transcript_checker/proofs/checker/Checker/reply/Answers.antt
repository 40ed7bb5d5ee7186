use Rattle.std.proofs.Common.{◌≡◌, true, false, Some, None, refl, sym, ap, ◌∙◌, subst}
use Rattle.std.proofs.Common.{List}
use Rattle.transcript_rules.specs.declared.arrival.Arrival.{Arrival}
use Rattle.transcript_trees.specs.Kept.{AreReplies}
use Rattle.transcript_checker.proofs.TreeJudgeLemmas.{came_there, no_reply, may_reply, within, other_bytes, reply_judged, replies_there}
use Rattle.transcript_checker.proofs.checker.Checker.reply.Goals as goal

pub returns-then-not-branch : goal.returns-then-not-branch
returns-then-not-branch c o schedule n book stands goes =
    let is : c.in_ok-may_reply.field-0 ≡ false = cc (c.if-not-branch.true) in
    no_reply o schedule n book c.args.self.now stands goes c.args.line.now c.args.number c.args.at c.args.bytes.now c.requires.line (sym (c.in_ok-may_reply.ensures {u = tt}) ∙ is)

pub returns-then-not-branch-2 : goal.returns-then-not-branch-2
returns-then-not-branch-2 c o schedule n book stands goes =
    let may : c.in_ok-may_reply.field-0 ≡ true = cc (c.if-not-branch.false) in
    let t = may_reply o schedule n book c.args.self.now stands goes c.args.line.now c.args.number c.args.at c.args.bytes.now c.requires.line (sym (c.in_ok-may_reply.ensures {u = tt}) ∙ may) in
    let did = c.in_ok-has_bytes.ensures {u = tt} in
    let bytes = did.has book.trees t.1.0 stands.kept (replies_there o schedule n book c.args.self.now stands goes) (came_there o schedule n book c.args.self.now stands goes c.args.number t.1.0 t.1.1)
    (within o schedule n book c.args.self.now stands goes c.args.number c.args.at t.1.0 t.1.1 t.1.2) in
    other_bytes o schedule n book c.args.self.now stands goes c.args.number c.args.at c.args.bytes.now t.1.0 c.has_bytes.new.trees c.in_ok-has_bytes.field-0 t.1.1 bytes (cc (c.if-not-branch-2.true))

pub returns : goal.returns
returns c o schedule n book stands goes =
    let may : c.in_ok-may_reply.field-0 ≡ true = cc (c.if-not-branch.false) in
    let t = may_reply o schedule n book c.args.self.now stands goes c.args.line.now c.args.number c.args.at c.args.bytes.now c.requires.line (sym (c.in_ok-may_reply.ensures {u = tt}) ∙ may) in
    let did = c.in_ok-has_bytes.ensures {u = tt} in
    let bytes = did.has book.trees t.1.0 stands.kept (replies_there o schedule n book c.args.self.now stands goes) (came_there o schedule n book c.args.self.now stands goes c.args.number t.1.0 t.1.1)
    (within o schedule n book c.args.self.now stands goes c.args.number c.args.at t.1.0 t.1.1 t.1.2) in
    reply_judged o schedule n book c.args.self.now stands goes c.args.line.now c.args.number c.args.at c.args.bytes.now c.in_ok-has_bytes.field-0 c.note.new.facts _ t c.requires.line bytes (cc (c.if-not-branch-2.false))
    (c.in_ok-note.ensures {u = tt}) did.oldest refl refl refl refl
