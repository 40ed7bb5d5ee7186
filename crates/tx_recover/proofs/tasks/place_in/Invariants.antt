use Rattle.std.proofs.Common.{◌≡◌, ◌+◌, drop}
use Rattle.tx_recover.specs.Rules.{place_in}
use Rattle.tx_recover.proofs.tasks.place_in.Given as goal

-- those so far, and the further ones
abbrev pub invariant-loop-work : goal.invariant-loop-work
invariant-loop-work l = (l.before + place_in l.id (drop l.work-index l.works) ≡ place_in l.id l.works) × (l.before ≡ l.work-index)
