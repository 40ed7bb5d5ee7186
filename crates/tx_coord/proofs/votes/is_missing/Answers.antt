use Rattle.std.proofs.Common.{sym, ap, not, ◌&&◌, ◌∙◌}
use Rattle.tx_coord.specs.Rules.{has_granted, is_in, participants_of}
use Rattle.tx_coord.proofs.MissingLemmas.{is_in_missing}
use Rattle.tx_coord.proofs.votes.is_missing.Goals as goal

pub returns-then-is_among : goal.returns-then-is_among
returns-then-is_among c =
    let among = sym (ap (is_in c.args.from) c.participants.ensures) ∙ sym c.is_among.ensures ∙ c.if-is_among.true in
    ap not (c.has_granted.ensures ∙ ap (λ grants. has_granted grants c.args.from) c.as_slice.ensures.value)
    ∙ ap (λ b. b && not (has_granted c.args.running.now.grants c.args.from)) (sym among)
    ∙ is_in_missing c.args.running.now.grants c.args.from (participants_of c.args.running.now.mini)

pub returns-else-is_among : goal.returns-else-is_among
returns-else-is_among c =
    let among = sym (ap (is_in c.args.from) c.participants.ensures) ∙ sym c.is_among.ensures ∙ c.if-is_among.false in
    c.if-is_among.false
    ∙ ap (λ b. b && not (has_granted c.args.running.now.grants c.args.from)) (sym among)
    ∙ is_in_missing c.args.running.now.grants c.args.from (participants_of c.args.running.now.mini)
