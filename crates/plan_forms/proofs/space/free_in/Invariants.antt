use Rattle.std.proofs.Common.{◌≡◌, ◌*◌, ◌≤◌, take}
use Rattle.plan_forms.specs.Forms.{free_in}
use Rattle.plan_forms.proofs.space.free_in.Given as goal

abbrev pub invariant-loop-map : goal.invariant-loop-map
invariant-loop-map l = record {
  counted : l.free ≡ free_in l.blocks (take l.map-index l.maps);
  few : l.free ≤ 16384 * l.map-index;
}
