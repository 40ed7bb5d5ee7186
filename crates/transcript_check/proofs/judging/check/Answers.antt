use Rattle.std.proofs.Common.{◌≡◌, None, sym, ◌∙◌}
use Rattle.transcript_next.specs.Nexts.{scheduled}
use Rattle.transcript_check.proofs.CheckLemmas.{refused_verdict, whole_holds}
use Rattle.transcript_check.proofs.judging.check.Goals as goal

pub returns-in-None-clause-verdict : goal.returns-in-None-clause-verdict
returns-in-None-clause-verdict c = rw c.refused_at_once.ensures (refused_verdict (scheduled c.args.events.now) c.args.lines.now (sym c.cluster_of.ensures ∙ c.in-None.is))

pub returns-in-None-clause-holds : goal.returns-in-None-clause-holds
returns-in-None-clause-holds c whole =
    whole_holds (scheduled c.args.events.now) c.args.lines.now _ (rw c.refused_at_once.ensures (refused_verdict (scheduled c.args.events.now) c.args.lines.now (sym c.cluster_of.ensures ∙ c.in-None.is))) whole
