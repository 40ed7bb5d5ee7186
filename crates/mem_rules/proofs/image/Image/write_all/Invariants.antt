use Rattle.std.proofs.Common.{◌≡◌, drop, length}
use Rattle.mem_rules.specs.Items.{written}
use Rattle.mem_rules.proofs.image.Image.write_all.Given as goal

-- the writes that are left make of the image what all make of the first, and it has its size
abbrev pub invariant-loop-write : goal.invariant-loop-write
invariant-loop-write l = record {
  rest : written l.self (drop l.write-index l.writes) ≡ written l.fn.self l.writes;
  sized : length l.self ≡ length l.fn.self;
}
