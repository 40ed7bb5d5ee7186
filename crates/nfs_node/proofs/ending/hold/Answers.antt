use Rattle.std.proofs.Common.{ap, Err, ◌∙◌}
use Rattle.nfs_node.specs.Progress.{kept, damaged}
use Rattle.nfs_node.proofs.ending.hold.Goals as goal

pub returns-in-Ok : goal.returns-in-Ok
returns-in-Ok c = kept c.keep.new.held c.in-Ok.ensures.ok

pub returns-in-Err-Damaged : goal.returns-in-Err-Damaged
returns-in-Err-Damaged c =
    damaged c.in-Err-Damaged.memory c.in-Err-Damaged.at (c.keep.ensures.damaged c.in-Err-Damaged.memory c.in-Err-Damaged.at (c.in-Err-Damaged.is ∙ ap Err c.in-Err-Damaged.field-0-is))
