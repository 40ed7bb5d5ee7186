use Rattle.std.proofs.Common.{◌≡◌, ◌++◌, drop}
use Rattle.std.specs.List.{flat_map}
use Rattle.tx_coord.specs.Rules.{decides}
use Rattle.tx_coord.proofs.decisions.decides_again.Given as goal

-- the messages so far, and those that are left
abbrev pub invariant-loop-decided : goal.invariant-loop-decided
invariant-loop-decided l = l.posts ++ flat_map decides (drop l.decided-index l.finishing) ≡ flat_map decides l.finishing
