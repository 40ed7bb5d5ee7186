-- The lines so far are legal, and the checker is where they leave it.
use Rattle.std.proofs.Common.{◌≤◌, length}
use Rattle.transcript_rules.specs.Opening.{fresh_opening}
use Rattle.transcript_rules.specs.Book.{Book}
use Rattle.transcript_next.specs.Nexts.{scheduled}
use Rattle.transcript_checker.specs.Standing.{Stands}
use Rattle.transcript_check.proofs.CheckLemmas.{AreJudged}
use Rattle.transcript_check.proofs.judging.check_from.Given as goal

abbrev pub invariant-loop-index : goal.invariant-loop-index
invariant-loop-index l =
    (book : Book) × AreJudged (scheduled l.events) l.fn.geometry l.lines l.index book × Stands (fresh_opening l.fn.geometry) (scheduled l.events) l.index book l.checker
