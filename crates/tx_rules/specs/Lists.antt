-- Tests of lists of numbers.
use Rattle.std.specs.Prelude.{ℕ, ◌==◌, Bool, true, false, ◌&&◌, ◌||◌, List, [], ◌∷◌}

-- whether a number stands in the list
abbrev pub is_in : ℕ → List ℕ → Bool
is_in n [] = false
is_in n (x ∷ xs) = (n == x) || is_in n xs

-- whether each number of the first list stands in the second
abbrev pub all_in : List ℕ → List ℕ → Bool
all_in [] ys = true
all_in (x ∷ xs) ys = is_in x ys && all_in xs ys

-- whether the lists have a common number
abbrev pub overlap : List ℕ → List ℕ → Bool
overlap [] ys = false
overlap (x ∷ xs) ys = is_in x ys || overlap xs ys
