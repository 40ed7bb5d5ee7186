use Rattle.std.proofs.Common.{◌≡◌, ◌++◌, drop, map, take}
use Rattle.std.specs.List.{flat_map}
use Rattle.tx_recover.specs.declared.work.Work.{Work}
use Rattle.tx_recover.specs.Rules.{answered}
use Rattle.tx_recover.proofs.tasks.answer_all.Given as goal

-- those before the index have heard it, and those from it on are as they were; the messages so far, and those that are left
abbrev pub invariant-loop-work : goal.invariant-loop-work
invariant-loop-work l =
    (l.work-items ≡ map (λ (w : Work). (answered l.from l.id l.ok w).now) (take l.work-index l.initial.work-items) ++ drop l.work-index l.initial.work-items)
    × (l.posts ++ flat_map (λ (w : Work). (answered l.from l.id l.ok w).posts) (drop l.work-index l.initial.work-items)
    ≡ flat_map (λ (w : Work). (answered l.from l.id l.ok w).posts) l.initial.work-items)
