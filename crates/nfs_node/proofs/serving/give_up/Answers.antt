use Rattle.std.proofs.Common.{◌≡◌, Some}
use Rattle.nfs_node.proofs.EventLemmas.{given_up_of}
use Rattle.nfs_node.proofs.ProgressLemmas.{if_ok}
use Rattle.nfs_node.proofs.serving.give_up.Goals as goal

pub returns-clause-exact : goal.returns-clause-exact
returns-clause-exact g c =
    let node = c.args.state.now in
    let r = c.unwrap-running.result in
    let runs : node.running ≡ Some r = cc (c.take.ensures.value, c.unwrap-running.ensures) in
    if_ok c.end_with.result c.end_with.ensures.next
    (λ outputs is. given_up_of g.P.Planner.plans node r runs c.end_with.new.state outputs c.take.new.self c.take.ensures.after is)
