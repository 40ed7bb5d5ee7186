-- What was copied to the front of the piece is the front of what was left.
use Rattle.std.proofs.Common.{◌≡◌, ℕ, ◌+◌, ◌-◌, ◌≤◌, List, ◌++◌, length, take, drop, sym, ap, ◌∙◌, arith, rules}
use Rattle.std.proofs.lemmas.List.{drop-drop, length-drop, length-take-le, take_at, take_rest, take-append-drop}
use Rattle.schedule_text.proofs.StreamLemmas.{Takes-front}
use Rattle.schedule_text.proofs.plan_source.PlanSourceSource.read.Goals as goal

-- a front of what is left, copied over the front of a piece, and the rest are what is left
front-copied : (bytes copied into : List ℕ) (at n : ℕ) → n ≤ length bytes - at
    → copied ≡ take n (take (length bytes - at) (drop at bytes))
    → drop at bytes ≡ take n (copied ++ into) ++ drop (at + n) bytes
front-copied bytes copied into at n fits same =
    let whole : copied ≡ take n (drop at bytes) = same ∙ ap (take n) (take_rest bytes at) in
    let fits-left : n ≤ length (drop at bytes) = omega (arith, length-drop at bytes) in
    let size : length copied ≡ n = ap length whole ∙ length-take-le n (drop at bytes) fits-left in
    let front : take n (copied ++ into) ≡ take n (drop at bytes) = take_at copied into n size ∙ whole in
    rw front
    (sym (take-append-drop n (drop at bytes)) ∙ ap (λ (r : List ℕ). take n (drop at bytes) ++ r) (drop-drop n at bytes))

pub returns-clause-given : goal.returns-clause-given
returns-clause-given c = Takes-front _ _ _ (
    let fits : c.min-n.result ≤ length c.self.inside.bytes - c.self.inside.at = omega arith in
    rw (← c.self.view_is) (front-copied c.self.inside.bytes c.copy_from_slice.new.self _ c.self.inside.at c.min-n.result fits (search rules)))
