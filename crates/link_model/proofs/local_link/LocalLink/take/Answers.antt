use Rattle.std.proofs.Common.{arith}
use Rattle.link_model.specs.SlotLemmas.{gives, but_given}
use Rattle.link_model.proofs.local_link.LocalLink.take.Goals as goal

pub first_after-self-requires : goal.first_after-self-requires
first_after-self-requires c = but_given c.args.self.now.slots.items c.take_at-given.new.slots.items c.args.self.now.first c.args.index c.args.self.now.least
    c.requires.there c.take_at-given.ensures.slots

pub invariant_of-self : goal.invariant_of-self
invariant_of-self c = record {
  least = c.first_after-self.ensures;
  few = let long = (gives c.args.self.now.gone c.args.k c.args.index c.args.self.now.slots.items c.take_at-given.new.slots.items c.requires.at c.requires.there c.take_at-given.ensures.slots).long in let few = c.args.self.now.few in omega (arith, long, few);
}

pub returns-clause-passed : goal.returns-clause-passed
returns-clause-passed c = (gives c.args.self.now.gone c.args.k c.args.index c.args.self.now.slots.items c.take_at-given.new.slots.items c.requires.at c.requires.there c.take_at-given.ensures.slots).passed

pub returns-clause-stands : goal.returns-clause-stands
returns-clause-stands c = (gives c.args.self.now.gone c.args.k c.args.index c.args.self.now.slots.items c.take_at-given.new.slots.items c.requires.at c.requires.there c.take_at-given.ensures.slots).stands
