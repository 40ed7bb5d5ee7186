use Rattle.std.proofs.Common.{◌≡◌, ◌++◌, drop}
use Rattle.std.specs.List.{flat_map}
use Rattle.sfs_xdr.specs.Items.{word}
use Rattle.node_disk.proofs.first_page.spelled.Given as goal

-- the words so far, and those that are left
abbrev pub invariant-loop-number : goal.invariant-loop-number
invariant-loop-number l = l.writer ++ flat_map word (drop l.number-index l.words) ≡ flat_map word l.words
