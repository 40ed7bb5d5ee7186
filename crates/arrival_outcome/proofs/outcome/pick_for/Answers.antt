use Rattle.std.proofs.Common.{None}
use Rattle.std.specs.Prelude.{◌%◌}
use Rattle.arrival_outcome.proofs.RulesLemmas.{others_make_nothing, none_picked}
use Rattle.arrival_outcome.proofs.outcome.pick_for.Goals as goal

pub returns-in_default : goal.returns-in_default
returns-in_default c cred now =
    none_picked c.args.tree.now c.args.call.now cred now (c.args.arrival % c.args.tree.now.geometry.memories) None
    (others_make_nothing c.args.call.now c.in_default.not-Create c.in_default.not-SymLink c.in_default.not-MakeDir)
