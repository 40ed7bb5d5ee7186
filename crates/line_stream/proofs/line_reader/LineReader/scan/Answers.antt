use Rattle.std.proofs.Common.{refl}
use Rattle.line_stream.proofs.LineLemmas.{kept, not_kept, scanned_line, scanned_long, scanned_more, scanned_too_long}
use Rattle.line_stream.proofs.line_reader.LineReader.scan.Goals as goal

pub returns-then-not-branch : goal.returns-then-not-branch
returns-then-not-branch c =
    scanned_long c.args.self.now c.pending-pending.result.now c.in-Some.at c.pending-pending.ensures (c.in-Some.ensures {u = tt})
    (not_kept c.args.self.now c.keep.new.self c.in-Some.at c.in_ok-keep-in-Some.field-0 c.if-not-branch.true (c.in_ok-keep-in-Some.ensures {u = tt}))

pub returns-then-not-branch-2 : goal.returns-then-not-branch-2
returns-then-not-branch-2 c =
    scanned_too_long c.args.self.now c.pending-pending.result.now _ c.pending-pending.ensures refl (c.in-None.ensures {u = tt})
    (not_kept c.args.self.now c.keep-in-None.new.self _ c.in_ok-keep-in-None.field-0 c.if-not-branch-2.true (c.in_ok-keep-in-None.ensures {u = tt}))

pub returns-else-not-branch : goal.returns-else-not-branch
returns-else-not-branch c =
    scanned_line c.args.self.now c.keep.new.self c.skip.new.self c.pending-pending.result.now c.in-Some.at c.pending-pending.ensures (c.in-Some.ensures {u = tt})
    (kept c.args.self.now c.keep.new.self c.in-Some.at c.in_ok-keep-in-Some.field-0 c.if-not-branch.false (c.in_ok-keep-in-Some.ensures {u = tt})) c.skip.ensures

pub returns-else-not-branch-2 : goal.returns-else-not-branch-2
returns-else-not-branch-2 c =
    scanned_more c.args.self.now c.keep-in-None.new.self c.pending-pending.result.now _ c.pending-pending.ensures refl (c.in-None.ensures {u = tt})
    (kept c.args.self.now c.keep-in-None.new.self _ c.in_ok-keep-in-None.field-0 c.if-not-branch-2.false (c.in_ok-keep-in-None.ensures {u = tt}))
