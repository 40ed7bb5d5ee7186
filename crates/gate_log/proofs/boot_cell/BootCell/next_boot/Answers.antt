use Rattle.std.proofs.Common.{◌+◌, ◌<◌, ◌^◌, ap, ◌∙◌, arith}
use Rattle.disk_model.proofs.HealthLemmas.{fell_first, fell_behind, passed_both}
use Rattle.gate_log.specs.Boot.{boot_disk_of, place_of}
use Rattle.gate_log.proofs.BootLemmas.{boot_first, boot_second, boot_given, boot_read, elsewhere_last}
use Rattle.gate_log.proofs.boot_cell.BootCell.next_boot.Goals as goal

pub returns-in_err-stored-clause-any_moment : goal.returns-in_err-stored-clause-any_moment
returns-in_err-stored-clause-any_moment g c ready = boot_read (g.D.Disk.history (boot_disk_of c.args.self.now)) (g.D.Disk.history c.read_boot.new.disk)
    (c.in_err-stored.ensures.kept ready.speaks) ready.safe

pub returns-then-stored-clause-any_moment : goal.returns-then-stored-clause-any_moment
returns-then-stored-clause-any_moment g c ready = boot_read (g.D.Disk.history (boot_disk_of c.args.self.now)) (g.D.Disk.history c.read_boot.new.disk)
    (c.in_ok-stored.ensures.kept ready.speaks) ready.safe

pub returns-in_err-write_through-clause-any_moment : goal.returns-in_err-write_through-clause-any_moment
returns-in_err-write_through-clause-any_moment g c ready =
    let before = g.D.Disk.history (boot_disk_of c.args.self.now) in
    let read = g.D.Disk.history c.read_boot.new.disk in
    let first = g.D.Disk.history c.write_through.new.disk in
    let stored = c.in_ok-stored.stored in
    let told-now = c.in_ok-stored.ensures.hands.speaks ready.speaks in
    let leaves = boot_first before read first stored.side stored.boot c.place.result c.to_be_bytes.result (c.in_ok-stored.ensures.kept ready.speaks)
    (c.in_ok-stored.ensures.found ready.speaks) ready.safe (c.place.ensures ∙ ap place_of c.other-other.ensures) c.to_be_bytes.ensures (c.in_err-write_through.ensures.any_moment told-now) in
    leaves

pub returns-in_err-write_through-clause-elsewhere : goal.returns-in_err-write_through-clause-elsewhere
returns-in_err-write_through-clause-elsewhere g c ready =
    let before = g.D.Disk.history (boot_disk_of c.args.self.now) in
    let read = g.D.Disk.history c.read_boot.new.disk in
    let first = g.D.Disk.history c.write_through.new.disk in
    let stored = c.in_ok-stored.stored in
    let told-now = c.in_ok-stored.ensures.hands.speaks ready.speaks in
    let leaves = boot_first before read first stored.side stored.boot c.place.result c.to_be_bytes.result (c.in_ok-stored.ensures.kept ready.speaks)
    (c.in_ok-stored.ensures.found ready.speaks) ready.safe (c.place.ensures ∙ ap place_of c.other-other.ensures) c.to_be_bytes.ensures (c.in_err-write_through.ensures.any_moment told-now) in
    elsewhere_last before first leaves

pub returns-in_err-write_through-clause-failed : goal.returns-in_err-write_through-clause-failed
returns-in_err-write_through-clause-failed g c failed =
    let before = g.D.Disk.health (boot_disk_of c.args.self.now) in
    let read = g.D.Disk.health c.read_boot.new.disk in
    let first = g.D.Disk.health c.write_through.new.disk in
    fell_first 2 4 before first (omega arith) (fell_behind 0 2 before read first c.in_ok-stored.ensures.hands.passed c.in_err-write_through.ensures.hands.fell)

pub returns-in_err-write_through-2-clause-any_moment : goal.returns-in_err-write_through-2-clause-any_moment
returns-in_err-write_through-2-clause-any_moment g c ready =
    let before = g.D.Disk.history (boot_disk_of c.args.self.now) in
    let read = g.D.Disk.history c.read_boot.new.disk in
    let first = g.D.Disk.history c.write_through.new.disk in
    let stored = c.in_ok-stored.stored in
    let told-now = c.in_ok-stored.ensures.hands.speaks ready.speaks in
    let second = g.D.Disk.history c.write_through-2.new.disk in
    let told-first = c.in_ok-write_through.ensures.hands.speaks told-now in
    let fits : stored.boot + 1 < 2 ^ 64 = omega arith in
    let leaves = boot_second before read first stored.side stored.boot c.place.result c.to_be_bytes.result (c.in_ok-stored.ensures.kept ready.speaks)
    (c.in_ok-stored.ensures.found ready.speaks) ready.safe (c.place.ensures ∙ ap place_of c.other-other.ensures) c.to_be_bytes.ensures second c.selector.result fits
    (c.in_ok-write_through.ensures.any_moment told-now) (c.in_ok-write_through.ensures.ok told-now) (c.in_err-write_through-2.ensures.any_moment told-first) in
    leaves

pub returns-in_err-write_through-2-clause-elsewhere : goal.returns-in_err-write_through-2-clause-elsewhere
returns-in_err-write_through-2-clause-elsewhere g c ready =
    let before = g.D.Disk.history (boot_disk_of c.args.self.now) in
    let read = g.D.Disk.history c.read_boot.new.disk in
    let first = g.D.Disk.history c.write_through.new.disk in
    let stored = c.in_ok-stored.stored in
    let told-now = c.in_ok-stored.ensures.hands.speaks ready.speaks in
    let second = g.D.Disk.history c.write_through-2.new.disk in
    let told-first = c.in_ok-write_through.ensures.hands.speaks told-now in
    let fits : stored.boot + 1 < 2 ^ 64 = omega arith in
    let leaves = boot_second before read first stored.side stored.boot c.place.result c.to_be_bytes.result (c.in_ok-stored.ensures.kept ready.speaks)
    (c.in_ok-stored.ensures.found ready.speaks) ready.safe (c.place.ensures ∙ ap place_of c.other-other.ensures) c.to_be_bytes.ensures second c.selector.result fits
    (c.in_ok-write_through.ensures.any_moment told-now) (c.in_ok-write_through.ensures.ok told-now) (c.in_err-write_through-2.ensures.any_moment told-first) in
    elsewhere_last before second leaves

pub returns-in_err-write_through-2-clause-failed : goal.returns-in_err-write_through-2-clause-failed
returns-in_err-write_through-2-clause-failed g c failed =
    let before = g.D.Disk.health (boot_disk_of c.args.self.now) in
    let read = g.D.Disk.health c.read_boot.new.disk in
    let first = g.D.Disk.health c.write_through.new.disk in
    let second = g.D.Disk.health c.write_through-2.new.disk in
    fell_behind 2 2 before first second (passed_both 0 2 before read first c.in_ok-stored.ensures.hands.passed c.in_ok-write_through.ensures.hands.passed)
    c.in_err-write_through-2.ensures.hands.fell

pub returns-clause-ok : goal.returns-clause-ok
returns-clause-ok g c ready =
    let before = g.D.Disk.history (boot_disk_of c.args.self.now) in
    let read = g.D.Disk.history c.read_boot.new.disk in
    let first = g.D.Disk.history c.write_through.new.disk in
    let stored = c.in_ok-stored.stored in
    let told-now = c.in_ok-stored.ensures.hands.speaks ready.speaks in
    let second = g.D.Disk.history c.write_through-2.new.disk in
    let told-first = c.in_ok-write_through.ensures.hands.speaks told-now in
    let fits : stored.boot + 1 < 2 ^ 64 = omega arith in
    boot_given before read first stored.side stored.boot c.place.result c.to_be_bytes.result (c.in_ok-stored.ensures.kept ready.speaks)
    (c.in_ok-stored.ensures.found ready.speaks) ready.safe (c.place.ensures ∙ ap place_of c.other-other.ensures) c.to_be_bytes.ensures second c.selector.result fits
    (c.in_ok-write_through.ensures.any_moment told-now) (c.in_ok-write_through.ensures.ok told-now)
    (c.selector.ensures ∙ c.other-other.ensures) (c.in_ok-write_through-2.ensures.ok told-first)

pub returns-clause-any_moment : goal.returns-clause-any_moment
returns-clause-any_moment g c ready =
    let before = g.D.Disk.history (boot_disk_of c.args.self.now) in
    let read = g.D.Disk.history c.read_boot.new.disk in
    let first = g.D.Disk.history c.write_through.new.disk in
    let stored = c.in_ok-stored.stored in
    let told-now = c.in_ok-stored.ensures.hands.speaks ready.speaks in
    let second = g.D.Disk.history c.write_through-2.new.disk in
    let told-first = c.in_ok-write_through.ensures.hands.speaks told-now in
    let fits : stored.boot + 1 < 2 ^ 64 = omega arith in
    let leaves = boot_second before read first stored.side stored.boot c.place.result c.to_be_bytes.result (c.in_ok-stored.ensures.kept ready.speaks)
    (c.in_ok-stored.ensures.found ready.speaks) ready.safe (c.place.ensures ∙ ap place_of c.other-other.ensures) c.to_be_bytes.ensures second c.selector.result fits
    (c.in_ok-write_through.ensures.any_moment told-now) (c.in_ok-write_through.ensures.ok told-now) (c.in_ok-write_through-2.ensures.any_moment told-first) in
    leaves
