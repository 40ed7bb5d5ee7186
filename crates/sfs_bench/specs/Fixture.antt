-- What timings speak of: the first memory node of a cluster of one or of two, and what it may be asked.
use Rattle.std.specs.Prelude.{◌≡◌, ◌<◌, List, [], ◌∷◌}
use Rattle.mini_tx.specs.declared.message.Message.{Message}
use Rattle.mini_tx.specs.declared.placed_item.PlacedItem.{PlacedItem}
use Rattle.mini_tx.specs.declared.tx_id.TxId.{TxId}
use Rattle.mem_rules.specs.declared.setup.Setup.{Setup}
use Rattle.mem_rules.specs.Fit.{IsFitPrepare, IsFitMessage, IsOfTransactions}

abbrev pub lone : Setup
lone = record { geometry = record { nodes = 1; memories = 1; blocks = 1; inodes = 1 }; index = 0 }

abbrev pub pair : Setup
pair = record { geometry = record { nodes = 2; memories = 2; blocks = 1; inodes = 1 }; index = 0 }

-- items of a prepare of which it is the one participant
abbrev pub AreFitItems : List PlacedItem → Type 0
AreFitItems items = (id : TxId) → id.coord ≡ 0 → IsFitPrepare lone id (0 ∷ []) items

-- items of a prepare of both memory nodes
abbrev pub AreFitForBoth : List PlacedItem → Type 0
AreFitForBoth items = (id : TxId) → id.coord < 2 → IsFitPrepare pair id (0 ∷ 1 ∷ []) items

-- a message that it may be sent
abbrev pub IsAsked : Message → Type 0
IsAsked message = IsFitMessage lone message × IsOfTransactions message

abbrev pub IsAskedOfBoth : Message → Type 0
IsAskedOfBoth message = IsFitMessage pair message × IsOfTransactions message
