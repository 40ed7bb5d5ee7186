use Rattle.std.proofs.Common.{arith}
use Rattle.link_model.specs.SlotLemmas.{low_none, index_at, past_none}
use Rattle.link_model.proofs.local_link.LocalLink.index.Goals as goal

pub returns-then-k-self-clause-none : goal.returns-then-k-self-clause-none
returns-then-k-self-clause-none c = low_none c.args.self.now.gone c.args.k c.args.self.now.slots.items c.if-k-self.true

pub returns-then-index-len-clause-some : goal.returns-then-index-len-clause-some
returns-then-index-len-clause-some c = (index_at c.args.self.now.gone c.args.k (omega (arith, c.if-k-self.false)), (let long = c.args.self.now.slots.ok.0 in omega (arith, c.if-index-len.true, c.len.ensures, long)))

pub returns-else-index-len-clause-none : goal.returns-else-index-len-clause-none
returns-else-index-len-clause-none c = past_none c.args.self.now.gone c.args.k c.args.self.now.slots.items (omega (arith, c.if-k-self.false))
    (let long = c.args.self.now.slots.ok.0 in omega (arith, c.if-index-len.false, c.len.ensures, long))
