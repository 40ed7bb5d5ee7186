-- The bytes of a piece from one place up to another.
use Rattle.std.proofs.Common.{◌≡◌, ℕ, ◌+◌, ◌-◌, ◌≤◌, List, length, take, drop, ap, ◌∙◌, arith}
use Rattle.std.proofs.lemmas.List.{length-take, length-drop, take-take, drop-take, drop-drop}

-- how many they are
pub length_window : (piece : List ℕ) (from to : ℕ) → from ≤ to → to ≤ length piece → length (take (to - from) (drop from piece)) ≡ to - from
length_window piece from to low high = omega (arith, length-take (to - from) (drop from piece), length-drop from piece)

-- the first of them
pub window_front : (piece : List ℕ) (from to count : ℕ) → count ≤ to - from → take count (take (to - from) (drop from piece)) ≡ take count (drop from piece)
window_front piece from to count fits = take-take count (to - from) (drop from piece) fits

-- and the others
pub window_rest : (piece : List ℕ) (from to count : ℕ) → count ≤ to - from → drop count (take (to - from) (drop from piece)) ≡ take (to - (from + count)) (drop (from + count) piece)
window_rest piece from to count fits =
    ap (λ (n : ℕ). drop count (take n (drop from piece))) (omega arith)
    ∙ drop-take count (to - (from + count)) (drop from piece)
    ∙ ap (take (to - (from + count))) (drop-drop count from piece)

pub ruleset windows = (length_window, window_front, window_rest)
