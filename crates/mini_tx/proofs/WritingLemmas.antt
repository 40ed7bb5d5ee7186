-- What is written part by part is the whole.
use Rattle.std.proofs.Common.{◌≡◌, ℕ, List, ◌++◌, ap, ◌∙◌, append_assoc}

pub two_parts : (old mid new a b : List ℕ) → mid ≡ old ++ a → new ≡ mid ++ b → new ≡ old ++ (a ++ b)
two_parts old mid new a b first second = second ∙ ap (λ (m : List ℕ). m ++ b) first ∙ append_assoc old a b
