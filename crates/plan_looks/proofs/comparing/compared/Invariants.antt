use Rattle.std.proofs.Common.{◌≡◌, ◌++◌, drop, map, flat_map}
use Rattle.plan_rules.specs.Compared.{compares, firsts, items_of, subject_of}
use Rattle.plan_looks.proofs.comparing.compared.Given as goal

-- what is compared so far, and what the rest adds
abbrev pub invariant-loop-look : goal.invariant-loop-look
invariant-loop-look l =
    compares l.held l.looks ≡ l.items ++ flat_map (items_of l.held l.looks) (firsts (map subject_of l.firsts) (map subject_of (drop l.look-index l.looks)))
