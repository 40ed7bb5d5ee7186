use Rattle.std.proofs.Common.{◌≡◌, suc, length, ap, arith}
use Rattle.link_model.specs.SlotLemmas.{gone_alike, gone_of, first_down}
use Rattle.link_model.proofs.local_link.LocalLink.let_go.Goals as goal

pub returns-then-begins_given-clause-alike : goal.returns-then-begins_given-clause-alike
returns-then-begins_given-clause-alike c = gone_alike c.args.self.now.gone c.args.self.now.slots.items c.drop_first.new.slots.items c.drop_first.ensures

pub returns-then-begins_given-clause-stands : goal.returns-then-begins_given-clause-stands
returns-then-begins_given-clause-stands c = λ posted of_. gone_of posted c.args.self.now.gone c.args.self.now.slots.items c.drop_first.new.slots.items c.drop_first.ensures of_

pub invariant_of-self : goal.invariant_of-self
invariant_of-self c = record {
  least = first_down c.args.self.now.slots.items c.drop_first.new.slots.items c.args.self.now.first c.drop_first.ensures c.args.self.now.least;
  few =
      let long : length c.args.self.now.slots.items ≡ suc (length c.drop_first.new.slots.items) = ap (λ ss. length ss) c.drop_first.ensures in
      let few = c.args.self.now.few in omega (arith, long, few);
}
