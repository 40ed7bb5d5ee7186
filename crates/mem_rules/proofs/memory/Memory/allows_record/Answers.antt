use Rattle.std.proofs.Common.{◌≡◌, true, false, sym, ◌∙◌}
use Rattle.mem_rules.proofs.HolderLemmas.{inside_nonempty}
use Rattle.mem_rules.proofs.memory.Memory.allows_record.Goals as goal
use Rattle.mem_rules.proofs.memory.Memory.allows_record.Goals.{then-are_there, else-are_there}

pub are_locked-requires : goal.are_locked-requires
are_locked-requires c = elim c.if-are_there.branch [
  | then-are_there w ↦ inside_nonempty _ c.args.ranges.now (w.are_in_place.ensures.0 (sym w.value-is ∙ c.if-are_in_place.true)).0
  | else-are_there w ↦ let e : false ≡ true = sym w.if-are_there.false ∙ sym w.value-is ∙ c.if-are_in_place.true in absurd cc
]
