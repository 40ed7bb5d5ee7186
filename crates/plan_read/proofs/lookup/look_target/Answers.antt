use Rattle.std.proofs.Common.{cond, [], sym, ◌∙◌}
use Rattle.fs_rules.specs.Arguments.{is_dots}
use Rattle.fs_rules.specs.Handle.{number_in}
use Rattle.plan_rules.specs.Names.{name_steps}
use Rattle.plan_looks.proofs.GoesLemmas.{go_nowhere, goes_same}
use Rattle.plan_read.proofs.LookupLemmas.{is_itself, is_parent}
use Rattle.plan_read.proofs.lookup.look_target.Goals as goal

pub returns-then-is_dot-clause-goes : goal.returns-then-is_dot-clause-goes
returns-then-is_dot-clause-goes c =
    let held = c.args.held.now in
    let n = number_in c.args.dir.now.0 in
    let name = c.args.name.now in
    goes_same held (cond (is_dots name) [] (name_steps held n name)) [] c.args.looks.now c.args.looks.now
    ((is_itself held n name (sym c.is_dot.ensures ∙ c.if-is_dot.true)).0) (go_nowhere held c.args.looks.now)

pub returns-then-is_dot_dot-clause-goes : goal.returns-then-is_dot_dot-clause-goes
returns-then-is_dot_dot-clause-goes c =
    let held = c.args.held.now in
    let n = number_in c.args.dir.now.0 in
    let name = c.args.name.now in
    goes_same held (cond (is_dots name) [] (name_steps held n name)) [] c.args.looks.now c.args.looks.now
    ((is_parent held n name (sym c.is_dot.ensures ∙ c.if-is_dot.false) (sym c.is_dot_dot.ensures ∙ c.if-is_dot_dot.true)).0) (go_nowhere held c.args.looks.now)
