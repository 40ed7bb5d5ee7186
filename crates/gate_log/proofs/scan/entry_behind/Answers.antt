use Rattle.std.proofs.Common.{◌+◌, drop, sym, subst}
use Rattle.disk_model.specs.Crash.{Holds}
use Rattle.gate_log.proofs.ScanLemmas.{holds_drop, holds_take}
use Rattle.gate_log.proofs.scan.entry_behind.Goals as goal

pub returns-then-size-read-clause-held : goal.returns-then-size-read-clause-held
returns-then-size-read-clause-held g c speaks holds =
    let content = (g.D.Disk.history c.args.disk.now).now.content in
    subst (Holds content (c.args.gate + 5)) (sym c.in_ok-from_slice.ensures)
    (holds_take content (c.args.gate + 5) _ (drop 5 c.args.read.now) (holds_drop content c.args.gate 5 c.args.read.now holds))
