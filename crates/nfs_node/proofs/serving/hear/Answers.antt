use Rattle.std.proofs.Common.{◌≡◌, sym, ap, ◌∙◌}
use Rattle.nfs_service.specs.Needs.{needs_files}
use Rattle.nfs_service.specs.Reply.{heard}
use Rattle.nfs_node.proofs.EventLemmas.{arrives_admitted, arrives_foreign, arrives_silent, arrives_told}
use Rattle.nfs_node.proofs.ProgressLemmas.{if_ok}
use Rattle.nfs_node.proofs.serving.hear.Goals as goal

pub returns-in-Silent-clause-exact : goal.returns-in-Silent-clause-exact
returns-in-Silent-clause-exact g c =
    if_ok c.only.result c.only.ensures
    (λ outputs is. arrives_silent g.P.Planner.plans c.args.state.now c.args.id c.args.now (heard c.args.bytes.now) (sym c.in_ok-request.ensures.exact ∙ c.in-Silent.is) outputs is)

pub returns-in-Told-clause-exact : goal.returns-in-Told-clause-exact
returns-in-Told-clause-exact g c =
    if_ok c.only-in-Told.result c.only-in-Told.ensures
    (λ outputs is. arrives_told g.P.Planner.plans c.args.state.now c.args.id c.args.now (heard c.args.bytes.now) c.in-Told.bytes
    (sym c.in_ok-request.ensures.exact ∙ c.in-Told.is) outputs is)

pub returns-then-needs-clause-exact : goal.returns-then-needs-clause-exact
returns-then-needs-clause-exact g c =
    let heard_so : heard c.args.bytes.now ≡ c.in_ok-request.request = sym c.in_ok-request.ensures.exact in
    if_ok c.admit.result c.admit.ensures.admitted
    (λ outputs is. arrives_admitted g.P.Planner.plans c.args.state.now c.args.id c.args.now (heard c.args.bytes.now) c.in-Asked.xid c.in-Asked.call c.in-Asked.cred
    (heard_so ∙ c.in-Asked.is) (ap (needs_files c.args.state.now.geometry) heard_so ∙ sym c.needs_files-needs.ensures ∙ c.if-needs.true) c.admit.new.state outputs is)

pub returns-else-needs-clause-exact : goal.returns-else-needs-clause-exact
returns-else-needs-clause-exact g c =
    let heard_so : heard c.args.bytes.now ≡ c.in_ok-request.request = sym c.in_ok-request.ensures.exact in
    if_ok c.refuse.result c.refuse.ensures
    (λ outputs is. arrives_foreign g.P.Planner.plans c.args.state.now c.args.id c.args.now (heard c.args.bytes.now) c.in-Asked.xid c.in-Asked.call c.in-Asked.cred
    (heard_so ∙ c.in-Asked.is) (ap (needs_files c.args.state.now.geometry) heard_so ∙ sym c.needs_files-needs.ensures ∙ c.if-needs.false) outputs is)
