use Rattle.std.proofs.Common.{ℕ, ◌+◌, ◌<◌, None, get_or, nat_lt}
use Rattle.plan_rules.specs.Fits.{IsFitReference}
use Rattle.plan_parts.proofs.fit_chain.are_fit.Given as goal

-- those so far are fit
abbrev pub invariant-loop-nth : goal.invariant-loop-nth
invariant-loop-nth l = (j : ℕ) → j < l.nth → IsFitReference l.geometry (get_or l.references j None) (nat_lt (l.first + j) l.blocks)
