-- What a look adds to the comparisons.
use Rattle.std.specs.Prelude.{◌≡◌, ◌∷◌, ◌++◌, List, flat_map, map}
use Rattle.mini_tx.specs.declared.item.Item.{Item}
use Rattle.node_cache.specs.declared.held.Held.{Held}
use Rattle.plan_rules.specs.declared.look.Look.{Look}
use Rattle.plan_rules.specs.declared.look.Subject.{Subject}
use Rattle.plan_rules.specs.Compared.{firsts, items_of, subject_of}

-- what is compared so far with what a look and those behind it add is what is compared then with what those behind it add
abbrev pub AddsFirst : Held → List Look → Look → List Item → List Item → List Look → List Look → Type 0
AddsFirst held looks l items more seen new =
    (rest : List Subject) → items ++ flat_map (items_of held looks) (firsts (map subject_of seen) (subject_of l ∷ rest))
    ≡ more ++ flat_map (items_of held looks) (firsts (map subject_of new) rest)
