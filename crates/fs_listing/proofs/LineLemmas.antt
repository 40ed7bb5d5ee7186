-- Words that are written behind each other.
use Rattle.std.proofs.Common.{◌≡◌, ℕ, List, [], ◌∷◌, ◌++◌, map, sym, ap, append-nil}
use Rattle.std.specs.List.{flat_map}
use Rattle.fs_listing.specs.Listing.{spaced}
use Rattle.fs_listing.specs.Words.{text_of}
use Rattle.fs_listing.specs.declared.word.Word.{Word}

-- a line is its first word, and each further word behind a space
pub spaced-cons : (first : List ℕ) (words : List Word)
    → spaced (first ∷ map text_of words) ≡ first ++ flat_map (λ word. 32 ∷ text_of word) words
unfolding spaced
spaced-cons first [] = sym (append-nil first)
spaced-cons first (word ∷ words) =
    ap (λ (text : List ℕ). first ++ 32 ∷ text) (spaced-cons (text_of word) words)
