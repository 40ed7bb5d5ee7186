-- What is written part by part is the whole.
use Rattle.std.proofs.Common.{◌≡◌, ℕ, List, ◌++◌, ap, ◌∙◌, append_assoc}

pub two_parts : (old mid new a b : List ℕ) → mid ≡ old ++ a → new ≡ mid ++ b → new ≡ old ++ (a ++ b)
two_parts old mid new a b first second = second ∙ ap (λ (m : List ℕ). m ++ b) first ∙ append_assoc old a b

pub three_parts : (old m n new a b c : List ℕ) → m ≡ old ++ a → n ≡ m ++ b → new ≡ n ++ c → new ≡ old ++ (a ++ (b ++ c))
three_parts old m n new a b c first second third = two_parts old m new a (b ++ c) first (two_parts m n new b c second third)

pub four_parts : (old m n o new a b c d : List ℕ) → m ≡ old ++ a → n ≡ m ++ b → o ≡ n ++ c → new ≡ o ++ d → new ≡ old ++ (a ++ (b ++ (c ++ d)))
four_parts old m n o new a b c d first second third fourth = two_parts old m new a (b ++ (c ++ d)) first (three_parts m n o new b c d second third fourth)
