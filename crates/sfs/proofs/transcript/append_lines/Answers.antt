use Rattle.std.proofs.Common.{◌≡◌, ◌+◌, ◌∷◌, [], ◌++◌, take, List, ℕ, sym, ap, ◌∙◌, append_assoc, arith}
use Rattle.std.proofs.lemmas.List.{append-nil}
use Rattle.line_text.specs.Grammar.{spelling_of_line}
use Rattle.sfs.specs.Legal.{text_of}
use Rattle.sfs.proofs.BookLemmas.{text-more}
use Rattle.sfs.proofs.transcript.append_lines.Goals as goal

pub loop-line-init : goal.loop-line-init
unfolding text_of
loop-line-init c = sym (append-nil c.args.text.now.items)

pub loop-line-preserved : goal.loop-line-preserved
loop-line-preserved c =
    let more = text-more c.args.lines.now c.loop-line.line-index c.line-item.result (omega (arith, c.loop-line-test.true)) in
    let spelled = spelling_of_line c.line-item.result in
    let front = text_of (take c.loop-line.line-index c.args.lines.now) in
    let at_place : front ++ (spelled ++ 10 ∷ []) ≡ text_of (take (c.loop-line.line-index + 1) c.args.lines.now) = grind (arith, more, c.line-item.is) in
    (c.in_ok-push.ensures {u = tt}).items
    ∙ ap (λ (t : List ℕ). t ++ 10 ∷ []) ((c.in_ok-append_out.ensures {u = tt}).ok ∙ ap (λ (t : List ℕ). t ++ spelled) c.loop-line.invariant ∙ append_assoc c.args.text.now.items front spelled)
    ∙ append_assoc c.args.text.now.items (front ++ spelled) (10 ∷ [])
    ∙ ap (λ (t : List ℕ). c.args.text.now.items ++ t) (append_assoc front spelled (10 ∷ []) ∙ at_place)
