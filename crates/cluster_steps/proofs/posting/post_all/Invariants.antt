use Rattle.std.proofs.Common.{◌≡◌, ◌<◌, ◌^◌, ◌++◌, List, length, map}
use Rattle.mini_tx.specs.declared.posted.Posted.{Posted}
use Rattle.story_rules.specs.Steps.{sent_by}
use Rattle.cluster_steps.proofs.posting.post_all.Given as goal

-- what was posted and what is left are all
abbrev pub invariant-loop-outgoing : goal.invariant-loop-outgoing
invariant-loop-outgoing g l = record {
  life : (g.L.Link.shown l.link).count < 2 ^ 62;
  posts : (posted : List Posted) → g.L.Link.stands l.initial.link posted
      → (front : List Posted) × (g.L.Link.stands l.link front × (front ++ map (sent_by l.n) l.queue ≡ posted ++ map (sent_by l.n) l.initial.queue));
}

abbrev pub decreases-loop-outgoing : goal.decreases-loop-outgoing
decreases-loop-outgoing g l = length l.queue
