use Rattle.std.proofs.Common.{◌-◌, inl, inr, arith}
use Rattle.link_model.specs.PassLemmas.{Passes, passes, passes_none}
use Rattle.link_model.proofs.sim_link.SimLink.pass.Goals as goal
use Rattle.link_model.proofs.sim_link.SimLink.pass.Goals.{else-k-gt0-via-then-k-gt0+else-k-len, else-k-gt0-via-else-k-gt0}

there : (c : goal.After-self-1) → Passes c.args.self.now.places.items c.pass_at-self.new.places.items c.args.k
there c = passes c.args.self.now.places.items c.pass_at-self.new.places.items (c.args.k - 1) c.args.k (omega (arith, c.if-k-gt0.true)) c.pass_at-self.ensures.places

none : (c : goal.Joined-else-k-gt0) → Passes c.args.self.now.places.items c.args.self.now.places.items c.args.k
none c = passes_none c.args.self.now.places.items c.args.k (elim c.else-k-gt0.branch [
  | else-k-gt0-via-then-k-gt0+else-k-len w ↦ inr (omega (arith, w.if-k-gt0.true, w.if-k-len.false, w.len.ensures))
  | else-k-gt0-via-else-k-gt0 w ↦ inl (omega (arith, w.if-k-gt0.false))
])

pub returns-then-k-len-clause-passed : goal.returns-then-k-len-clause-passed
returns-then-k-len-clause-passed c = (there c).0

pub returns-then-k-len-clause-there : goal.returns-then-k-len-clause-there
returns-then-k-len-clause-there c = (there c).1

pub returns-then-k-len-clause-posted : goal.returns-then-k-len-clause-posted
returns-then-k-len-clause-posted c = (there c).2

pub returns-else-k-gt0-clause-passed : goal.returns-else-k-gt0-clause-passed
returns-else-k-gt0-clause-passed c = (none c).0
