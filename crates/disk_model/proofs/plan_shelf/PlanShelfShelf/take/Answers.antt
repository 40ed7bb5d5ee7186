use Rattle.std.proofs.Common.{arith, inl, refl}
use Rattle.std.proofs.lemmas.Grind.{common_steps}
use Rattle.disk_model.proofs.plan_shelf.PlanShelfShelf.take.Goals as goal

pub returns-then-next_fails-clause-planned : goal.returns-then-next_fails-clause-planned
returns-then-next_fails-clause-planned c = (λ failed. inl (rw (← c.self.view_is) (c.next_fails.ensures.named.0 c.if-next_fails.true)), λ any. refl)

pub returns-in-Some-clause-rests : goal.returns-in-Some-clause-rests
returns-in-Some-clause-rests c told = c.requires told c.in-Some.disk (grind (arith, common_steps))

pub returns-in-Some-clause-taken : goal.returns-in-Some-clause-taken
returns-in-Some-clause-taken c j = grind (arith, common_steps)
