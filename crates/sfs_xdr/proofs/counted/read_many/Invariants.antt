use Rattle.std.proofs.Common.{◌≡◌, ◌-◌}
use Rattle.sfs_xdr.specs.Codec.{many_of}
use Rattle.sfs_xdr.specs.CodecLemmas.{prefixed}
use Rattle.sfs_xdr.proofs.counted.read_many.Given as goal

-- the values so far and those that are left to read are the whole
abbrev pub invariant-loop : goal.invariant-loop
invariant-loop g l =
    prefixed l.values (many_of g.C.Codec.read_of (l.count - l.counter) l.reader) ≡ many_of g.C.Codec.read_of l.fn.count l.fn.reader
