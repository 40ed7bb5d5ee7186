use Rattle.std.proofs.Common.{◌≡◌, ◌+◌, ◌^◌, ◌<◌, sym, ◌∙◌, length, false, rules}
use Rattle.std.specs.Prelude.{is_err}
use Rattle.gate_log.proofs.LogLemmas.{append_leaves, append_safe, append_stands, append_ends, not_err}
use Rattle.gate_log.proofs.log.Log.append.Goals as goal

pub returns-then-is_err-clause-any_moment : goal.returns-then-is_err-clause-any_moment
returns-then-is_err-clause-any_moment g c entries log =
    let own = c.args.self.now in
    let fits : own.extent.end + 5 + length c.args.entry.now < 2 ^ 32 = search rules in
    append_leaves (g.D.Disk.history own.disk) (g.D.Disk.history c.open_behind.new.disk) own.extent.base own.extent.end entries c.args.entry.now c.deref.result.now
    log.ready.safe log.stands log.ends fits (c.deref.ensures.value ∙ c.in_ok-bytes.ensures) (c.open_behind.ensures.any_moment log.ready.speaks)

pub returns-clause-appended : goal.returns-clause-appended
returns-clause-appended g c entries log =
    let own = c.args.self.now in
    let fits : own.extent.end + 5 + length c.args.entry.now < 2 ^ 32 = search rules in
    let sealed-is = c.deref.ensures.value ∙ c.in_ok-bytes.ensures in
    let passed : is_err c.open_behind.result ≡ false = sym c.is_err.ensures.value ∙ c.if-is_err.false in
    let last = not_err _ c.open_behind.result passed c.open_behind.ensures.ok log.ready.speaks in
    record {
      ready = record {
        speaks = not_err _ c.open_behind.result passed c.open_behind.ensures.hands.speaks log.ready.speaks;
        safe = append_safe (g.D.Disk.history own.disk) (g.D.Disk.history c.open_behind.new.disk) own.extent.base own.extent.end entries c.args.entry.now c.deref.result.now
            log.ready.safe log.stands log.ends fits sealed-is last;
      };
      fine = log.fine;
      stands = append_stands (g.D.Disk.history own.disk) (g.D.Disk.history c.open_behind.new.disk) own.extent.base own.extent.end entries c.args.entry.now c.deref.result.now
          log.ready.safe log.stands log.ends fits sealed-is last;
      ends = append_ends (g.D.Disk.history own.disk) (g.D.Disk.history c.open_behind.new.disk) own.extent.base own.extent.end entries c.args.entry.now c.deref.result.now
          log.ready.safe log.stands log.ends fits sealed-is;
    }

pub returns-clause-any_moment : goal.returns-clause-any_moment
returns-clause-any_moment g c entries log =
    let own = c.args.self.now in
    let fits : own.extent.end + 5 + length c.args.entry.now < 2 ^ 32 = search rules in
    append_leaves (g.D.Disk.history own.disk) (g.D.Disk.history c.open_behind.new.disk) own.extent.base own.extent.end entries c.args.entry.now c.deref.result.now
    log.ready.safe log.stands log.ends fits (c.deref.ensures.value ∙ c.in_ok-bytes.ensures) (c.open_behind.ensures.any_moment log.ready.speaks)
