use Rattle.std.proofs.Common.{◌≡◌, ◌++◌, drop, map}
use Rattle.mem_rules.specs.Records.{unboxed}
use Rattle.mem_rules.specs.Rules.{named}
use Rattle.mem_rules.proofs.records.named.Given as goal

-- what was named, and what is left to name
abbrev pub invariant-loop-record : goal.invariant-loop-record
invariant-loop-record l = l.ids ++ map named (unboxed (drop l.record-index l.kept)) ≡ map named (unboxed l.kept)
