use Rattle.std.proofs.Common.{arith, ap, ◌∙◌}
use Rattle.node_cache.specs.Cached.{Cached, held_of, but_for}
use Rattle.node_cache.proofs.KeptLemmas.{held_is, left_are, left_are_keyed, left_are_no_more}
use Rattle.node_cache.proofs.cache.Cache.get.Goals as goal

pub invariant_of-self : goal.invariant_of-self
invariant_of-self c =
    rw c.pop.ensures.entries (record {
      keyed = left_are_keyed c.args.number c.self.inside.files.entries c.self.invariant.keyed;
      cap = c.self.invariant.cap;
      few = let less = left_are_no_more c.args.number c.self.inside.files.entries in let few = c.self.invariant.few in omega (arith, less, few);
      places = c.self.invariant.places;
    })

pub returns-clause-gives : goal.returns-clause-gives
returns-clause-gives c =
    c.pop.ensures.value ∙ held_is c.args.number c.self.inside.files.entries c.self.invariant.keyed
    ∙ ap (λ (k : Cached). held_of c.args.number k.files) c.self.view_is

pub returns-clause-after : goal.returns-clause-after
returns-clause-after c =
    rw c.pop.ensures.entries
    (ap (λ files. record { files = files; maps = c.self.inside.maps }) (left_are c.args.number c.self.inside.files.entries c.self.invariant.keyed)
    ∙ ap (λ (k : Cached). record { files = but_for c.args.number k.files; maps = k.maps }) c.self.view_is)
