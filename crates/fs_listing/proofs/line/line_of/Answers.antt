use Rattle.std.proofs.Common.{List, ◌∷◌, ◌++◌, sym, ap, ◌∙◌, take_all}
use Rattle.std.specs.List.{flat_map}
use Rattle.fs_listing.specs.Words.{text_of}
use Rattle.fs_listing.specs.declared.word.Word.{Word}
use Rattle.fs_listing.proofs.LineLemmas.{spaced-cons}
use Rattle.fs_listing.proofs.line.line_of.Goals as goal

pub returns : goal.returns
returns c =
    let first = c.args.first.now in
    let others = c.args.others.now in
    c.from.ensures
    ∙ c.loop-word.invariant
    ∙ ap (λ (written : List Word). first ++ flat_map (λ word. 32 ∷ text_of word) written) (take_all c.loop-word.word-index others c.loop-word-test.false)
    ∙ sym (spaced-cons first others)
