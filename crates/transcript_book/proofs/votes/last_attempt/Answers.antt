use Rattle.transcript_book.proofs.VoteLemmas.{attempt_found, attempt_passed, no_attempt}
use Rattle.std.proofs.Common.{sym, ◌∙◌}
use Rattle.transcript_book.proofs.votes.last_attempt.Goals as goal

pub returns-then-is_attempt : goal.returns-then-is_attempt
returns-then-is_attempt c = attempt_found c.args.node c.args.now c.args.posts.now c.loop-end.end _ c.loop-end-test.true c.loop-end.invariant (sym c.is_attempt.ensures ∙ c.if-is_attempt.true)

pub loop-end-preserved : goal.loop-end-preserved
loop-end-preserved c = attempt_passed c.args.node c.args.now c.args.posts.now c.loop-end.end _ c.loop-end-test.true c.loop-end.invariant (sym c.is_attempt.ensures ∙ c.if-is_attempt.false)

pub returns : goal.returns
returns c = no_attempt c.args.node c.args.now c.args.posts.now c.loop-end.end c.loop-end-test.false c.loop-end.invariant.1
