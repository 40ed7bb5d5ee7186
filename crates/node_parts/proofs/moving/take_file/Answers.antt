use Rattle.std.proofs.Common.{◌≡◌, None, sym, ap, ◌∙◌}
use Rattle.std.specs.Option.{option_map}
use Rattle.node_cache.specs.Cached.{Cached, held_of}
use Rattle.node_rules.specs.Stock.{Stock, with_file}
use Rattle.node_parts.proofs.MoveLemmas.{but_for_none}
use Rattle.node_parts.proofs.moving.take_file.Goals as goal

pub returns-in-None-clause-moves : goal.returns-in-None-clause-moves
returns-in-None-clause-moves c =
    let none : held_of c.args.number c.args.cache.now.files ≡ None = sym c.get.ensures.gives ∙ c.in-None.is in
    let same : c.get.new.self ≡ c.args.cache.now =
    c.get.ensures.after ∙ ap (λ files. let x : Cached = record c.args.cache.now { files = files } in x) (but_for_none c.args.number c.args.cache.now.files none) in (
      ap (option_map (with_file (record { held = c.args.held.now; cache = c.args.cache.now }) c.args.number)) none,
      ap (λ x. let s : Stock = record { held = c.args.held.now; cache = x } in s) same,
    )
