use Rattle.std.proofs.Common.{ℕ, ap, sym, ◌∙◌, length}
use Rattle.fs_layout.specs.References.{reference_words}
use Rattle.fs_layout.proofs.WordLemmas.{words_one}
use Rattle.fs_chain.proofs.ReferencesLemmas.{length-spelled_reference, two_cells}
use Rattle.fs_chain.proofs.spelling.reference_of.Goals as goal

pub returns-in_default-clause-only : goal.returns-in_default-clause-only
returns-in_default-clause-only c = λ r fits spell. absurd (c.in_default.ensures.none (ap (length {A = ℕ}) spell ∙ length-spelled_reference r))

pub returns-clause-only : goal.returns-clause-only
returns-clause-only c = λ r fits spell.
    c.from_words.ensures.only r
    (two_cells c.in-Some.words r (words_one c.in-Some.words (reference_words r) c.in-Some.ensures.found.0 fits (sym c.in-Some.ensures.found.1 ∙ spell)))
