use Rattle.std.proofs.Common.{◌≡◌, None, sym, ap, ◌∙◌}
use Rattle.node_cache.specs.Cached.{Cached}
use Rattle.node_rules.specs.Stock.{Stock, map_in, with_map}
use Rattle.std.specs.Option.{option_map}
use Rattle.node_parts.proofs.MoveLemmas.{set_none}
use Rattle.node_parts.proofs.moving.take_map.Goals as goal

pub returns-in-None : goal.returns-in-None
returns-in-None c =
    let none : map_in c.args.cache.now c.args.memory ≡ None = sym c.get_map.ensures.gives ∙ c.in-None.is in
    let same : c.get_map.new.self ≡ c.args.cache.now =
    c.get_map.ensures.after ∙ ap (λ maps. let x : Cached = record c.args.cache.now { maps = maps } in x) (set_none c.args.cache.now.maps c.args.memory none) in (
      ap (option_map (with_map (record { held = c.args.held.now; cache = c.args.cache.now }) c.args.memory)) none,
      ap (λ x. let s : Stock = record { held = c.args.held.now; cache = x } in s) same,
    )
