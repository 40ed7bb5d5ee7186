use Rattle.std.proofs.Common.{◌≡◌, ◌++◌, take}
use Rattle.sfs_xdr.specs.Items.{words}
use Rattle.sfs_xdr.proofs.numbers.write_words.Given as goal

abbrev pub invariant-loop-number : goal.invariant-loop-number
invariant-loop-number l = l.writer ≡ l.initial.writer ++ words (take l.number-index l.numbers)
