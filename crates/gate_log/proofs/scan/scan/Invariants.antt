use Rattle.std.proofs.Common.{◌≡◌, ◌-◌, ◌^◌, ◌<◌, length}
use Rattle.disk_model.specs.Health.{Passed, IsLive, Speaks}
use Rattle.disk_model.specs.LogBytes.{log_bytes}
use Rattle.gate_log.specs.Window.{IsCurrent}
use Rattle.gate_log.proofs.ScanLemmas.{IsRead}
use Rattle.gate_log.proofs.scan.scan.Given as goal

abbrev pub invariant-loop-window : goal.invariant-loop-window
invariant-loop-window g l = record {
  within : l.end < 2 ^ 32;
  ends : l.end ≡ length (log_bytes l.entries);
  passed : Passed 0 (g.D.Disk.health l.fn.disk) (g.D.Disk.health l.disk);
  live : IsLive 0 (g.D.Disk.health l.fn.disk);
  still : Speaks g.D.Disk.tells g.D.Disk.health l.fn.disk → Speaks g.D.Disk.tells g.D.Disk.health l.disk;
  kept : Speaks g.D.Disk.tells g.D.Disk.health l.fn.disk → g.D.Disk.history l.disk ≡ g.D.Disk.history l.fn.disk;
  current : Speaks g.D.Disk.tells g.D.Disk.health l.fn.disk → IsCurrent (g.D.Disk.history l.fn.disk).now.content l.window;
  read : Speaks g.D.Disk.tells g.D.Disk.health l.fn.disk → IsRead (g.D.Disk.history l.fn.disk).now.content l.base l.end l.entries;
}

abbrev pub decreases-loop-window : goal.decreases-loop-window
decreases-loop-window g l = 2 ^ 32 - l.end
