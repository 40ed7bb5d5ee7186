use Rattle.std.proofs.Common.{◌++◌, List, map, subst}
use Rattle.std.proofs.lemmas.Result.{on_ok_weaker}
use Rattle.tx_coord.specs.declared.outgoing.Outgoing.{Outgoing}
use Rattle.story_rules.specs.Steps.{sent_by}
use Rattle.cluster_steps.proofs.own_step.resend.Goals as goal

pub returns : goal.returns
returns g c =
    on_ok_weaker c.post_all.result
    (λ each d there posted stands.
    subst (λ (out : List Outgoing). g.L.Link.stands c.post_all.new.link (posted ++ map (sent_by c.args.n) out)) (c.in_ok-posts.ensures d there) (each posted stands))
    c.post_all.ensures
