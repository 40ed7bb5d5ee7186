-- The order of identifiers and of cuts, as tests.
use Rattle.std.specs.Prelude.{◌==◌, ◌&&◌, ◌||◌, Bool, nat_lt}
use Rattle.mini_tx.specs.declared.cut_id.CutId.{CutId}
pub use Rattle.lock_table.specs.Order.{precedes, is_same}

-- one cut comes before another: by boot number, then by the number within it
abbrev pub cut_precedes : CutId → CutId → Bool
cut_precedes a b = nat_lt a.boot b.boot || ((a.boot == b.boot) && nat_lt a.seq b.seq)

abbrev pub is_same_cut : CutId → CutId → Bool
is_same_cut a b = (a.boot == b.boot) && (a.seq == b.seq)
