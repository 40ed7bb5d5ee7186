use Rattle.std.proofs.Common.{ap, ◌∙◌}
use Rattle.disk_model.specs.Crash.{History}
use Rattle.mem_node.proofs.FreshLemmas.{fresh_sound}
use Rattle.mem_node.proofs.fresh_node.fresh_node.Goals as goal

pub returns-in-Ok-empty_log-clause-sound : goal.returns-in-Ok-empty_log-clause-sound
returns-in-Ok-empty_log-clause-sound g c ready =
    let laid = c.in_default.ensures.fresh ready in
    fresh_sound g.D.Disk.tells g.D.Disk.history g.D.Disk.health c.args.setup c.in-Ok.memory.setup (g.D.Disk.history c.lay_fresh.new.disk).now.content c.in-Ok-empty_log.log _
    laid.0 (c.in_default.ensures.half ready) (c.in-Ok-empty_log.ensures.base ∙ c.log_at.ensures) c.in-Ok.ensures.setup c.in-Ok.ensures.state
    (ap (λ (h : History). h.now.content) (c.in-Ok-empty_log.ensures.same laid.1.speaks)) (c.in-Ok-empty_log.ensures.entries laid.1)
