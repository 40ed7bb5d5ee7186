-- The order of identifiers and of cuts.
use Rattle.std.specs.Prelude.{◌==◌, ◌&&◌, ◌||◌, Bool, nat_lt}
use Rattle.mini_tx.specs.declared.cut_id.CutId.{CutId}
use Rattle.mini_tx.specs.declared.tx_id.TxId.{TxId}

-- one identifier comes before another: by coordinator, then by boot number, then by the number within it
abbrev pub precedes : TxId → TxId → Bool
precedes a b = nat_lt a.coord b.coord || ((a.coord == b.coord) && (nat_lt a.boot b.boot || ((a.boot == b.boot) && nat_lt a.seq b.seq)))

abbrev pub is_same : TxId → TxId → Bool
is_same a b = (a.coord == b.coord) && ((a.boot == b.boot) && (a.seq == b.seq))

-- one cut comes before another: by boot number, then by the number within it
abbrev pub cut_precedes : CutId → CutId → Bool
cut_precedes a b = nat_lt a.boot b.boot || ((a.boot == b.boot) && nat_lt a.seq b.seq)

abbrev pub is_same_cut : CutId → CutId → Bool
is_same_cut a b = (a.boot == b.boot) && (a.seq == b.seq)
