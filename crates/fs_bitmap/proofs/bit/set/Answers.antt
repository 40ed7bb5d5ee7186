use Rattle.std.proofs.Common.{ℕ, ◌/◌, ◌%◌, get_or, sym, ap, ◌∙◌, arith}
use Rattle.fs_bitmap.specs.Bits.{has_bit}
use Rattle.fs_bitmap.proofs.ByteLemmas.{or_same, or_other, not_has_same, not_has_other}
use Rattle.fs_bitmap.proofs.MapLemmas.{set_changed, set_others}
use Rattle.fs_bitmap.proofs.bit.set.Goals as goal
use Rattle.fs_bitmap.proofs.bit.set.Goals.{then-on, else-on}

pub returns-clause-changed : goal.returns-clause-changed
returns-clause-changed c =
    let bit = c.args.bit in
    let byte = get_or c.args.map.now (bit / 8) 0 in
    set_changed c.args.map.now bit c.if-on.byte c.args.on (omega arith)
    (elim c.if-on.branch [
      | then-on w ↦ ap (λ (b : ℕ). has_bit b (bit % 8)) w.byte-is ∙ or_same byte (bit % 8) (omega arith) ∙ sym w.if-on.true
      | else-on w ↦ ap (λ (b : ℕ). has_bit b (bit % 8)) w.byte-is ∙ not_has_same byte (bit % 8) (omega arith) ∙ sym w.if-on.false
    ])

pub returns-clause-others : goal.returns-clause-others
returns-clause-others c =
    let bit = c.args.bit in
    let byte = get_or c.args.map.now (bit / 8) 0 in
    set_others c.args.map.now bit c.if-on.byte (omega arith)
    (λ j h other.
    elim c.if-on.branch [
      | then-on w ↦ ap (λ (b : ℕ). has_bit b j) w.byte-is ∙ or_other byte (bit % 8) j (omega arith) h other
      | else-on w ↦ ap (λ (b : ℕ). has_bit b j) w.byte-is ∙ not_has_other byte (bit % 8) j (omega arith) h other
    ])
