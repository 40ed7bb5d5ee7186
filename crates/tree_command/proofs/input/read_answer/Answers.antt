use Rattle.std.proofs.Common.{sym, ap, subst, ◌∙◌}
use Rattle.tree_command.specs.Input.{cluster_in}
use Rattle.tree_command.specs.Reading.{ReadsHead}
use Rattle.tree_command.proofs.CommandLemmas.{headed_all, headless}
use Rattle.tree_command.proofs.input.read_answer.Goals as goal

pub returns-in_default-2-clause-says : goal.returns-in_default-2-clause-says
returns-in_default-2-clause-says g c =
    let before = g.S.Source.left c.args.input.now in
    let now = g.S.Source.left c.read_head.new.input in
    let read = subst (ReadsHead before now) c.in-Some.is (c.in_ok-line.ensures {u = tt}).head in
    headless before now c.in-Some.line read (sym c.in_default-2.is ∙ (c.in_ok-geometry.ensures {u = tt}).exact ∙ ap cluster_in c.as_slice.ensures.value)

pub returns-clause-says : goal.returns-clause-says
returns-clause-says g c =
    let before = g.S.Source.left c.args.input.now in
    let now = g.S.Source.left c.read_head.new.input in
    let read = subst (ReadsHead before now) c.in-Some.is (c.in_ok-line.ensures {u = tt}).head in
    headed_all before now c.in-Some.line c.in-Some-2.geometry c.read_behind.result read
    (sym c.in-Some-2.is ∙ (c.in_ok-geometry.ensures {u = tt}).exact ∙ ap cluster_in c.as_slice.ensures.value) c.read_behind.ensures.says
