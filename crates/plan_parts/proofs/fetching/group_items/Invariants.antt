use Rattle.std.proofs.Common.{◌≡◌, ◌+◌, ◌*◌, ◌++◌, flat_map}
use Rattle.fs_image.specs.Owners.{Block}
use Rattle.fs_rules.specs.Lists.{below}
use Rattle.plan_rules.specs.Compared.{stamp_items}
use Rattle.plan_rules.specs.Fetched.{part_read}
use Rattle.plan_parts.proofs.fetching.group_items.Given as goal

-- the stamp, and the reads of the blocks so far
abbrev pub invariant-loop-index : goal.invariant-loop-index
invariant-loop-index l =
    l.items ≡ stamp_items l.held l.number ++ flat_map (λ j. part_read l.held l.number (Block (64 * l.group + j))) (below l.index)
