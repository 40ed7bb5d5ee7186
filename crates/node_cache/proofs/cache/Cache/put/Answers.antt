use Rattle.std.proofs.Common.{ap, ◌∙◌}
use Rattle.std.specs.Option.{option_map}
use Rattle.node_cache.specs.Cached.{Cached, put_first, pushed_out}
use Rattle.node_cache.proofs.KeptLemmas.{put_is, put_is_keyed, put_is_few, out_is}
use Rattle.node_cache.proofs.cache.Cache.put.Goals as goal

pub invariant_of-self-2 : goal.invariant_of-self-2
invariant_of-self-2 c =
    rw c.in_ok-out.ensures.entries (record {
      keyed = put_is_keyed c.self.inside.files c.args.entry c.self.invariant.keyed c.self.invariant.cap c.self.invariant.few;
      cap = c.self.invariant.cap;
      few = put_is_few c.self.inside.files c.args.entry c.self.invariant.keyed c.self.invariant.cap c.self.invariant.few;
      places = c.self.invariant.places;
    })

pub returns-clause-gives : goal.returns-clause-gives
returns-clause-gives c =
    c.without_key.ensures ∙ ap (λ o. option_map (λ e. e.1) o) c.in_ok-out.ensures.old
    ∙ out_is c.self.inside.files c.args.entry c.self.invariant.keyed c.self.invariant.cap c.self.invariant.few
    ∙ ap (λ (k : Cached). pushed_out c.args.entry k.files) c.self.view_is

pub returns-clause-after : goal.returns-clause-after
returns-clause-after c =
    rw c.in_ok-out.ensures.entries
    (ap (λ files. record { files = files; maps = c.self.inside.maps })
    (put_is c.self.inside.files c.args.entry c.self.invariant.keyed c.self.invariant.cap c.self.invariant.few)
    ∙ ap (λ (k : Cached). record { files = put_first c.args.entry k.files; maps = k.maps }) c.self.view_is)
