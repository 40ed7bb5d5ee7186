-- The words so far stand behind the first, each behind a space.
use Rattle.std.proofs.Common.{◌≡◌, ◌∷◌, ◌++◌, take}
use Rattle.std.specs.List.{flat_map}
use Rattle.fs_listing.specs.Words.{text_of}
use Rattle.fs_listing.proofs.line.line_of.Given as goal

abbrev pub invariant-loop-word : goal.invariant-loop-word
invariant-loop-word l = l.text.items ≡ l.first ++ flat_map (λ word. 32 ∷ text_of word) (take l.word-index l.others)
