use Rattle.std.proofs.Common.{arith}
use Rattle.link_model.specs.SlotLemmas.{loses, still_there, but_lost}
use Rattle.link_model.proofs.local_link.LocalLink.pass.Goals as goal

pub first_after-self-requires : goal.first_after-self-requires
first_after-self-requires c = but_lost c.args.self.now.slots.items c.lose_at.new.slots.items c.args.self.now.first c.args.index c.args.self.now.least
    c.requires.there c.lose_at.ensures

pub invariant_of-self : goal.invariant_of-self
invariant_of-self c = record {
  least = c.first_after-self.ensures;
  few = let long = (loses c.args.self.now.gone c.args.k c.args.index c.args.self.now.slots.items c.lose_at.new.slots.items c.requires.at c.requires.there c.lose_at.ensures).long in let few = c.args.self.now.few in omega (arith, long, few);
}

pub returns-clause-passed : goal.returns-clause-passed
returns-clause-passed c = (loses c.args.self.now.gone c.args.k c.args.index c.args.self.now.slots.items c.lose_at.new.slots.items c.requires.at c.requires.there c.lose_at.ensures).passed

pub returns-clause-stands : goal.returns-clause-stands
returns-clause-stands c = (loses c.args.self.now.gone c.args.k c.args.index c.args.self.now.slots.items c.lose_at.new.slots.items c.requires.at c.requires.there c.lose_at.ensures).stands

pub returns-clause-there : goal.returns-clause-there
returns-clause-there c = still_there c.args.self.now.gone c.args.k c.args.index c.args.self.now.slots.items c.lose_at.new.slots.items c.requires.at c.requires.there c.lose_at.ensures
