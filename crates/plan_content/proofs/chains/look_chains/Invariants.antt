use Rattle.plan_looks.specs.Goes.{GoesOn}
use Rattle.content_laws.proofs.StepLemmas.{chains_below}
use Rattle.plan_content.proofs.chains.look_chains.Given as goal

-- those below the index were looked at
abbrev pub invariant-loop-index : goal.invariant-loop-index
invariant-loop-index l = GoesOn l.held (chains_below l.number l.index) l.initial.looks l.looks
