use Rattle.std.proofs.Common.{◌≡◌, drop}
use Rattle.tx_recover.specs.Rules.{quiet, with_all}
use Rattle.tx_recover.proofs.recoverer.Recoverer.take_up_all.Given as goal

-- what is left to be named makes of what was made so far what all of it makes
abbrev pub invariant-loop-kept : goal.invariant-loop-kept
invariant-loop-kept l =
    (with_all (record { now = l.self.works; posts = l.posts }) (drop l.kept-index l.ids) ≡ with_all (quiet l.initial.self.works) l.ids)
    × (l.self.is_spent ≡ l.initial.self.is_spent)
