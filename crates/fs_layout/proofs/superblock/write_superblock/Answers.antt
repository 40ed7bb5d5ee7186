use Rattle.std.proofs.Common.{rules, ◌≡◌, ℕ, List, ◌++◌, ap, subst, ◌∙◌, length, replicate, arith}
use Rattle.fs_layout.specs.Words.{AreWords, spelled}
use Rattle.fs_layout.specs.Superblocks.{superblock_words}
use Rattle.fs_layout.proofs.superblock.write_superblock.Goals as goal

pub returns : goal.returns
returns c =
    let fits : AreWords c.words_of.result = search rules in
    let sized : length c.split_at_mut-header.result.1.now ≡ 4072 = omega arith in
    let back : c.fill.new.self ≡ replicate 4072 0 = c.fill.ensures.after (λ y e. e) ∙ ap (λ (n : ℕ). replicate n 0) sized in
    record {
      words = subst AreWords c.words_of.ensures fits;
      bytes_are = ap (λ (f : List ℕ). f ++ c.fill.new.self) (c.write_words.ensures ∙ ap spelled c.words_of.ensures) ∙ ap (λ (b : List ℕ). spelled (superblock_words c.args.s.now) ++ b) back;
    }
