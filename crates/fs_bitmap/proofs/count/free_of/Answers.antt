use Rattle.std.proofs.Common.{◌∙◌, arith}
use Rattle.fs_bitmap.proofs.ByteLemmas.{some_zeros_are_free, free_in_byte_le}
use Rattle.fs_bitmap.proofs.count.free_of.Goals as goal

pub returns-clause-exact : goal.returns-clause-exact
returns-clause-exact c = c.count_zeros.ensures.value ∙ some_zeros_are_free c.args.byte c.args.bits (omega arith) c.requires

pub returns-clause-small : goal.returns-clause-small
returns-clause-small c =
    let exact = c.count_zeros.ensures.value ∙ some_zeros_are_free c.args.byte c.args.bits (omega arith) c.requires in
    omega (arith, exact, free_in_byte_le c.args.byte c.args.bits)
