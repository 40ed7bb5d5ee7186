use Rattle.std.proofs.Common.{arith}
use Rattle.link_model.specs.SlotLemmas.{least_of, none_waits_of}
use Rattle.link_model.proofs.queue.LocalLinkLink.lowest.Goals as goal

pub returns-then-self-len-clause-least : goal.returns-then-self-len-clause-least
returns-then-self-len-clause-least c = least_of c.args.self.now.gone c.args.self.now.slots.items c.args.self.now.first c.args.self.now.least
    (let long = c.args.self.now.slots.ok.0 in omega (arith, c.if-self-len.true, c.len.ensures, long))

pub returns-else-self-len-clause-none : goal.returns-else-self-len-clause-none
returns-else-self-len-clause-none c = none_waits_of c.args.self.now.gone c.args.self.now.slots.items c.args.self.now.first c.args.self.now.least
    (let long = c.args.self.now.slots.ok.0 in omega (arith, c.if-self-len.false, c.len.ensures, long))
