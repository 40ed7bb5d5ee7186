use Rattle.std.proofs.Common.{◌+◌, sym, subst, arith}
use Rattle.fs_reader.proofs.MapLemmas.{HoldMaps, maps_more}
use Rattle.fs_reader.proofs.tree.maps_of.Goals as goal

pub loop-part-preserved : goal.loop-part-preserved
loop-part-preserved c =
    subst (HoldMaps c.args.parts.now (c.loop-part.part-index + 1)) (sym c.in_ok-extend_from_slice.ensures.items)
    (maps_more c.args.parts.now c.loop-part.part-index c.loop-part.maps.items c.part-item.result c.block_map.result.now c.part-item.is (omega arith) c.block_map.ensures.value c.block_map.ensures.len
    c.loop-part.invariant)
