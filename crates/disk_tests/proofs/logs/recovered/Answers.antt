use Rattle.std.proofs.Common.{ℕ, sym, subst, ◌∙◌}
use Rattle.disk_model.specs.Crash.{History, LeavesOnly}
use Rattle.disk_model.specs.LogBytes.{StandsFor}
use Rattle.gate_log.specs.Append.{IsAppending}
use Rattle.gate_log.proofs.LawLemmas.{recovered_is}
use Rattle.disk_tests.proofs.logs.recovered.Goals as goal

pub returns-in-Ok : goal.returns-in-Ok
returns-in-Ok g c entries based log =
    let own = c.args.log in
    let before = g.D.Disk.history own.disk in
    let failed = c.into_disk-disk.result in
    let appending = IsAppending own.extent.base entries c.args.entry.now before.now.content in
    recovered_is g.D.Disk.tells g.D.Disk.history g.D.Disk.health own.disk failed c.restart.new.self c.args.choice _ own.extent.base entries c.in-Ok.entries c.args.entry.now
    (subst (λ (d : g.row.D.Denot). LeavesOnly before (g.D.Disk.history d) appending) (sym c.into_disk-disk.ensures) (c.append-answer.ensures.any_moment entries log))
    c.in_ok-restart.ensures
    (subst g.D.Disk.tells (sym c.into_disk-disk.ensures) (c.append-answer.ensures.still log.ready.speaks))
    (λ ready.
    let found = (c.in-Ok.ensures.entries ready).stands in
    let same = (c.in-Ok.ensures.same ready.speaks).1 in
    subst (λ (h : History). StandsFor h.now.content own.extent.base c.in-Ok.entries) same
    (subst (λ (n : ℕ). StandsFor (g.D.Disk.history c.in-Ok._log.disk).now.content n c.in-Ok.entries) (c.in-Ok.ensures.base ∙ sym based) found))
