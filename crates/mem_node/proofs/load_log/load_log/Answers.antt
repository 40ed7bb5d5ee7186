use Rattle.std.proofs.Common.{◌≡◌, ℕ, subst, ◌∙◌, inr}
use Rattle.disk_model.specs.Calls.{IsReady}
use Rattle.disk_model.specs.Crash.{History}
use Rattle.disk_model.specs.Health.{Fell, Passed}
use Rattle.disk_model.specs.LogBytes as log
use Rattle.mem_node.specs.Disk.{IsUnfit, IsBrokenLog}
use Rattle.node_disk.specs.Half.{log_at}
use Rattle.mem_node.proofs.LoadLemmas.{replay_refused}
use Rattle.mem_node.proofs.load_log.load_log.Goals as goal

pub returns-in-Ok-clause-refused : goal.returns-in-Ok-clause-refused
returns-in-Ok-clause-refused g c =
    let content = (g.D.Disk.history c.args.disk).now.content in
    let base = c.log_at-base.result in
    let is : base ≡ log_at c.args.stored.half = c.log_at-base.ensures in
    replay_refused c.replayed.result c.in-Ok.log.disk (IsUnfit c.args.setup base c.args.stored.image.items c.in-Ok.entries)
    (λ at. IsReady g.D.Disk.tells g.D.Disk.history g.D.Disk.health c.args.disk → IsBrokenLog c.args.setup content c.args.stored.half c.args.stored.image.items at)
    (λ d. Fell 0 (g.D.Disk.health c.args.disk) (g.D.Disk.health d)) (λ d. Passed 0 (g.D.Disk.health c.args.disk) (g.D.Disk.health d)) ⊥ c.in-Ok.ensures.passed
    (λ at unfit ready.
    let there = (c.in-Ok.ensures.entries ready).stands in
    let own = subst (λ (n : ℕ). log.StandsFor (g.D.Disk.history c.in-Ok.log.disk).now.content n c.in-Ok.entries) (c.in-Ok.ensures.base ∙ is) there in
    inr (
      c.in-Ok.entries,
      subst (λ (h : History). log.StandsFor h.now.content (log_at c.args.stored.half) c.in-Ok.entries) (c.in-Ok.ensures.same ready.speaks).1 own,
      subst (λ (n : ℕ). IsUnfit c.args.setup n c.args.stored.image.items c.in-Ok.entries at) is unfit,
    ))
    c.replayed.ensures.disk c.replayed.ensures.refused
