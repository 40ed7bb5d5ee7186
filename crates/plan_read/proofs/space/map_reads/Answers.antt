use Rattle.std.proofs.Common.{[], ◌∷◌, ◌++◌, sym, ap, ◌∙◌}
use Rattle.read_laws.specs.Answers.{map_read}
use Rattle.plan_read.proofs.PlanLemmas.{reads_none, reads_more}
use Rattle.plan_read.proofs.space.map_reads.Goals as goal

pub loop-memory-init : goal.loop-memory-init
loop-memory-init c = c.new-items.ensures ∙ sym (reads_none (map_read c.args.geometry.now))

pub loop-memory-preserved : goal.loop-memory-preserved
loop-memory-preserved c =
    let f = map_read c.args.geometry.now in
    (c.in_ok-push.ensures {u = tt}).ok ∙ ap (λ i. c.loop-memory.items ++ i ∷ []) c.map_read.ensures ∙ ap (λ is. is ++ f c.loop-memory.memory ∷ []) c.loop-memory.invariant
    ∙ sym (reads_more f c.loop-memory.memory)
