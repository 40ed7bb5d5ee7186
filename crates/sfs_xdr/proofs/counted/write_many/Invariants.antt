use Rattle.std.proofs.Common.{◌≡◌, ◌++◌, drop}
use Rattle.std.specs.List.{flat_map, AllByRecursion}
use Rattle.sfs_xdr.proofs.counted.write_many.Given as goal

-- what is written and what is left to write are the whole
abbrev pub invariant-loop-value : goal.invariant-loop-value
invariant-loop-value g l =
    let c = g.C.Codec in
    record {
      written : l.writer ++ flat_map c.spelling (drop l.value-index l.values) ≡ l.fn.writer ++ flat_map c.spelling l.values;
      fits : AllByRecursion c.fits (drop l.value-index l.values);
    }
