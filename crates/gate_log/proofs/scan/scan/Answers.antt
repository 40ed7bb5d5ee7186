use Rattle.std.proofs.Common.{◌≡◌, ◌+◌, ◌^◌, ◌<◌, ℕ, List, [], ◌∷◌, ◌++◌, length, Some, sym, ap, subst, ◌∙◌, arith}
use Rattle.disk_model.specs.Crash.{History}
use Rattle.disk_model.specs.LogBytes.{log_bytes}
use Rattle.disk_model.proofs.HealthLemmas.{passed_both, speaks_passed}
use Rattle.gate_log.specs.Scan.{IsNextEntry, EntryEndsBelow}
use Rattle.gate_log.specs.Window.{IsCurrent}
use Rattle.gate_log.proofs.LogLemmas.{length-log_bytes-more}
use Rattle.gate_log.proofs.ScanLemmas.{IsRead, read_more}
use Rattle.gate_log.proofs.scan.scan.Goals as goal

pub loop-window-preserved : goal.loop-window-preserved
loop-window-preserved g c =
    let so_far = c.loop-window.invariant in
    let entry = c.in-Some.entry in
    let next = c.in_ok-entry.ensures in
    let fits : c.loop-window.end + 5 + length entry < 2 ^ 32 = subst (EntryEndsBelow c.loop-window.end) c.in-Some.is next.below in
    let sum : c.loop-window.end + (5 + c.len.result) ≡ c.loop-window.end + 5 + length entry = omega arith in
    let more : c.push.new.self ≡ c.loop-window.entries ++ entry ∷ [] = c.in_ok-push.ensures.ok in
    record {
      within = omega arith;
      ends = sum ∙ omega (arith, length-log_bytes-more c.loop-window.entries entry) ∙ ap (λ (es : List (List ℕ)). length (log_bytes es)) (sym more);
      passed = passed_both 0 0 (g.D.Disk.health c.args.disk.now) (g.D.Disk.health c.loop-window.disk) (g.D.Disk.health c.next_entry.new.disk) so_far.passed next.reads.passed;
      live = so_far.live;
      still = λ speaks. speaks_passed g.D.Disk.tells g.D.Disk.health 0 c.loop-window.disk c.next_entry.new.disk next.reads.passed next.reads.still (so_far.still speaks);
      kept = λ speaks. next.reads.kept (so_far.still speaks) ∙ so_far.kept speaks;
      current = λ speaks. subst (λ (h : History). IsCurrent h.now.content c.next_entry.new.window) (so_far.kept speaks) (next.current (so_far.still speaks)
          (subst (λ (h : History). IsCurrent h.now.content c.loop-window.window) (sym (so_far.kept speaks)) (so_far.current speaks)));
      read = λ speaks.
          let content = (g.D.Disk.history c.args.disk.now).now.content in
          let found = subst (IsNextEntry (g.D.Disk.history c.loop-window.disk).now.content (c.args.base + c.loop-window.end)) c.in-Some.is (next.found (so_far.still speaks)
          (subst (λ (h : History). IsCurrent h.now.content c.loop-window.window) (sym (so_far.kept speaks)) (so_far.current speaks))) in
          let there = subst (λ (h : History). IsNextEntry h.now.content (c.args.base + c.loop-window.end) (Some entry)) (so_far.kept speaks) found in
          let read = read_more content c.args.base c.loop-window.end c.loop-window.entries entry (so_far.read speaks) there in
          subst (λ (es : List (List ℕ)). IsRead content c.args.base (c.loop-window.end + (5 + c.len.result)) es) (sym more)
          (subst (λ (n : ℕ). IsRead content c.args.base n (c.loop-window.entries ++ entry ∷ [])) (sym sum) read);
    }
