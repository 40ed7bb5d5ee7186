use Rattle.std.proofs.Common.{◌≡◌, ◌*◌, take, length}
use Rattle.fs_layout.specs.Words.{AreWords, spelled}
use Rattle.fs_layout.proofs.words.read_words.Given as goal

abbrev pub invariant-loop-index : goal.invariant-loop-index
invariant-loop-index g l =
    record {
      sized : length l.word-items ≡ g.row.N;
      words : AreWords l.word-items;
      read : spelled (take l.index l.word-items) ≡ take (4 * l.index) l.bytes;
    }
