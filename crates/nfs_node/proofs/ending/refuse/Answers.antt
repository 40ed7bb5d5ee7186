use Rattle.std.proofs.Common.{ap, ◌∙◌}
use Rattle.node_rules.specs.End.{cause_of}
use Rattle.nfs_node.proofs.ProgressLemmas.{again_of, failed_of}
use Rattle.nfs_node.proofs.ending.refuse.Goals as goal

pub returns-then-work-lt-MAX_FAILURES-clause-refused : goal.returns-then-work-lt-MAX_FAILURES-clause-refused
returns-then-work-lt-MAX_FAILURES-clause-refused c =
    again_of c.args.work c.args.places.now c.args.memory c.args.vote.now c.in_ok-work.work c.in_ok-work.ensures.work c.if-work-lt-MAX_FAILURES.true

pub returns-else-work-lt-MAX_FAILURES-clause-refused : goal.returns-else-work-lt-MAX_FAILURES-clause-refused
returns-else-work-lt-MAX_FAILURES-clause-refused c =
    failed_of c.args.work c.args.places.now c.args.memory c.args.vote.now c.in_ok-work.work c.in_ok-work.ensures.work c.requires.few c.if-work-lt-MAX_FAILURES.false
    c.cause_of.result (c.cause_of.ensures ∙ ap (cause_of c.args.memory c.args.vote.now) c.as_slice.ensures.value)
