use Rattle.std.proofs.Common.{◌≡◌, ◌-◌, length}
use Rattle.sfs_xdr.specs.CodecLemmas.{prefixed}
use Rattle.nfs_proto.specs.Answers.{entries_within}
use Rattle.nfs_proto.proofs.answer_reader.read_entries.Given as goal

-- the names so far and those that are left to read are the whole
abbrev pub invariant-loop : goal.invariant-loop
invariant-loop l = prefixed l.entries (entries_within (l.most - l.counter) l.reader) ≡ entries_within (length l.fn.reader) l.fn.reader
