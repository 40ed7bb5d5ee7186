-- A list of three parts, whose middle is taken out.
use Rattle.std.proofs.Common.{◌≡◌, ◌<◌, ◌≤◌, ◌+◌, ◌-◌, ℕ, zero, suc, List, [], ◌∷◌, ◌++◌, length, take, drop, refl, ap, ◌∙◌, arith}
use Rattle.std.specs.List.{slice_range, insert, remove}
use Rattle.std.proofs.Math.Seq.{take-append_seam, drop-append_seam}
use Rattle.lock_table.specs.declared.lock.Lock.{Lock}

drop_past : (front : List Lock) (x : Lock) (ys : List Lock) → drop (suc (length front)) (front ++ x ∷ ys) ≡ ys
drop_past [] x ys = refl
drop_past (l ∷ front) x ys = drop_past front x ys

removed_at : (front : List Lock) (x : Lock) (ys : List Lock) → remove (front ++ x ∷ ys) (length front) ≡ front ++ ys
removed_at front x ys =
    ap (λ (a : List Lock). a ++ drop (suc (length front)) (front ++ x ∷ ys)) (take-append_seam front (x ∷ ys))
    ∙ ap (λ (b : List Lock). front ++ b) (drop_past front x ys)

next_dropped : (i : ℕ) (middle rest : List Lock) → i < length middle → (x : Lock) × (drop i middle ++ rest ≡ x ∷ (drop (i + 1) middle ++ rest))
next_dropped i [] rest below = absurd (omega (arith, below))
next_dropped zero (x ∷ middle) rest below = (x, refl)
next_dropped (suc i) (x ∷ middle) rest below =
    let later = next_dropped i middle rest (omega (arith, below)) in
    let same : suc (i + 1) ≡ suc i + 1 = omega arith in
    (later.0, later.1 ∙ ap (λ (n : ℕ). later.0 ∷ (drop n (x ∷ middle) ++ rest)) same)

pub one_removed : (front middle rest : List Lock) (i : ℕ) → i < length middle → remove (front ++ (drop i middle ++ rest)) (length front) ≡ front ++ (drop (i + 1) middle ++ rest)
one_removed front middle rest i below =
    let next = next_dropped i middle rest below in
    ap (λ (xs : List Lock). remove (front ++ xs) (length front)) next.1 ∙ removed_at front next.0 (drop (i + 1) middle ++ rest)

none_left : (i : ℕ) (middle : List Lock) → length middle ≤ i → drop i middle ≡ []
none_left zero [] all = refl
none_left (suc i) [] all = refl
none_left zero (x ∷ middle) all = absurd (omega (arith, all))
none_left (suc i) (x ∷ middle) all = none_left i middle (omega (arith, all))

pub all_removed : (front middle rest : List Lock) (i : ℕ) → length middle ≤ i → front ++ (drop i middle ++ rest) ≡ front ++ rest
all_removed front middle rest i all = ap (λ (xs : List Lock). front ++ (xs ++ rest)) (none_left i middle all)

pub middle_is : (front middle rest : List Lock) (from to : ℕ) → from ≡ length front → to ≡ length front + length middle → slice_range (front ++ (middle ++ rest)) from to ≡ middle
middle_is front middle rest from to begins ends =
    let many : to - length front ≡ length middle = omega (arith, ends) in
    ap (λ (n : ℕ). take (to - n) (drop n (front ++ (middle ++ rest)))) begins
    ∙ ap (λ (ys : List Lock). take (to - length front) ys) (drop-append_seam front (middle ++ rest))
    ∙ ap (λ (n : ℕ). take n (middle ++ rest)) many
    ∙ take-append_seam middle rest

pub inserted_at : (front rest : List Lock) (x : Lock) → insert (front ++ rest) (length front) x ≡ front ++ x ∷ rest
inserted_at front rest x =
    ap (λ (a : List Lock). a ++ x ∷ drop (length front) (front ++ rest)) (take-append_seam front rest)
    ∙ ap (λ (b : List Lock). front ++ x ∷ b) (drop-append_seam front rest)
