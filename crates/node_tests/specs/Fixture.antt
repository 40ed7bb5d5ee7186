-- What the tests speak of: the first memory node of a cluster of two, and what it is asked.
use Rattle.std.specs.Prelude.{◌<◌, List, [], ◌∷◌}
use Rattle.mini_tx.specs.declared.placed_item.PlacedItem.{PlacedItem}
use Rattle.mini_tx.specs.declared.tx_id.TxId.{TxId}
use Rattle.mem_rules.specs.declared.setup.Setup.{Setup}
use Rattle.mem_rules.specs.Fit.{IsFitPrepare}

abbrev pub pair : Setup
pair = record { geometry = record { nodes = 2; memories = 2; blocks = 1; inodes = 1 }; index = 0 }

-- items of a prepare of both memory nodes, and of one of which it is the one participant
abbrev pub AreFitItems : List PlacedItem → Type 0
AreFitItems items = (id : TxId) → id.coord < 2 → IsFitPrepare pair id (0 ∷ 1 ∷ []) items
