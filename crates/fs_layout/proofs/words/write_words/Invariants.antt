use Rattle.std.proofs.Common.{◌≡◌, ◌*◌, take}
use Rattle.fs_layout.specs.Words.{spelled}
use Rattle.fs_layout.proofs.words.write_words.Given as goal

abbrev pub invariant-loop-index : goal.invariant-loop-index
invariant-loop-index l = take (4 * l.index) l.into ≡ spelled (take l.index l.words)
