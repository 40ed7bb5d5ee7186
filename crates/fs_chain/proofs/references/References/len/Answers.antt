use Rattle.std.proofs.Common.{length, ap, sym, ◌∙◌}
use Rattle.fs_chain.proofs.references.References.len.Goals as goal

pub returns-clause-sized : goal.returns-clause-sized
returns-clause-sized c = ap length (sym c.self.view_is) ∙ c.self.invariant.sized
