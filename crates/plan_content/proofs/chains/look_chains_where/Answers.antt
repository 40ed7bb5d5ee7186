use Rattle.std.proofs.Common.{[], ap}
use Rattle.plan_looks.proofs.GoesLemmas.{go_nowhere, goes_same}
use Rattle.content_laws.specs.Chains.{chains_where}
use Rattle.plan_content.proofs.chains.look_chains_where.Goals as goal

pub returns-else-some : goal.returns-else-some
returns-else-some c =
    let held = c.args.held.now in
    goes_same held (chains_where held c.args.number c.args.some) [] c.args.looks.now c.args.looks.now
    (ap (λ b. chains_where held c.args.number b) c.if-some.false) (go_nowhere held c.args.looks.now)
