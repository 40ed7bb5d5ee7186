use Rattle.std.proofs.Common.{◌+◌, refl, sym, subst}
use Rattle.disk_model.specs.Crash.{History, Holds}
use Rattle.disk_model.proofs.HealthLemmas.{speaks_passed}
use Rattle.gate_log.proofs.ScanLemmas.{entry_found, holds_seen}
use Rattle.gate_log.proofs.scan.next_entry.Goals as goal

pub returns-in-Closed-clause-found : goal.returns-in-Closed-clause-found
returns-in-Closed-clause-found g c speaks current =
    let content = (g.D.Disk.history c.args.disk.now).now.content in
    let gate = c.args.base + c.args.end in
    c.in-Closed.ensures.stands content gate (subst (Holds content gate) (sym c.from-read.ensures)
    (holds_seen content c.reach.new.self gate (c.in_ok-reach.ensures.current speaks current)))

pub returns-in-Damaged-clause-reads : goal.returns-in-Damaged-clause-reads
returns-in-Damaged-clause-reads g c =
    let content = (g.D.Disk.history c.args.disk.now).now.content in
    let gate = c.args.base + c.args.end in
    record {
      still = c.in_ok-reach.ensures.reads.still;
      kept = c.in_ok-reach.ensures.reads.kept;
      passed = tt;
      refused = (
        c.in_ok-reach.ensures.reads.passed,
        (
          refl,
          λ speaks current.
              c.in-Damaged.ensures.stands content gate (subst (Holds content gate) (sym c.from-read.ensures)
              (holds_seen content c.reach.new.self gate (c.in_ok-reach.ensures.current speaks current))),
        ),
      );
    }

pub returns-in_ok-entry_behind-in-Open-clause-found : goal.returns-in_ok-entry_behind-in-Open-clause-found
returns-in_ok-entry_behind-in-Open-clause-found g c speaks current =
    let content = (g.D.Disk.history c.args.disk.now).now.content in
    let gate = c.args.base + c.args.end in
    let entry = c.in_ok-entry_behind-in-Open.field-0 in
    let reads = c.in_ok-reach.ensures.reads in
    let holds = subst (Holds content gate) (sym c.from-read.ensures)
    (holds_seen content c.reach.new.self gate (c.in_ok-reach.ensures.current speaks current)) in
    let stands = c.in-Open.ensures.stands content gate holds in
    let told = speaks_passed g.D.Disk.tells g.D.Disk.health 0 c.args.disk.now c.reach.new.disk reads.passed reads.still speaks in
    let body : Holds content (gate + 5) entry = subst (λ (h : History). Holds h.now.content (gate + 5) entry) (reads.kept speaks)
    (c.in_ok-entry_behind-in-Open.ensures.held told (subst (λ (h : History). Holds h.now.content gate c.from-read.result.now) (sym (reads.kept speaks)) holds)) in
    entry_found content gate (gate + 5) c.in-Open.length entry stands.0 stands.1 refl body c.in_ok-entry_behind-in-Open.ensures.long
