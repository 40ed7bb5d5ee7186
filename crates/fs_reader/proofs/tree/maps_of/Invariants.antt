-- The maps of the images so far stand one behind the other.
use Rattle.fs_reader.proofs.MapLemmas.{HoldMaps}
use Rattle.fs_reader.proofs.tree.maps_of.Given as goal

abbrev pub invariant-loop-part : goal.invariant-loop-part
invariant-loop-part l = HoldMaps l.parts l.part-index l.maps.items
