use Rattle.std.proofs.Common.{◌≡◌, ◌<◌, ℕ, ap, subst, sym, ◌∙◌, true, arith}
use Rattle.fs_bitmap.specs.Bits.{has_bit}
use Rattle.fs_bitmap.proofs.ByteLemmas.{first_is_free}
use Rattle.fs_bitmap.proofs.lowest.first_free.Goals as goal

pub returns-clause-within : goal.returns-clause-within
returns-clause-within c = subst (λ (n : ℕ). n < 8) (sym c.leading_ones.ensures) (first_is_free c.args.byte (omega arith) c.requires).0

pub returns-clause-free : goal.returns-clause-free
returns-clause-free c = ap (has_bit c.args.byte) c.leading_ones.ensures ∙ (first_is_free c.args.byte (omega arith) c.requires).1

pub returns-clause-before : goal.returns-clause-before
returns-clause-before c =
    subst (λ (n : ℕ). (k : ℕ) → k < n → has_bit c.args.byte k ≡ true) (sym c.leading_ones.ensures) (first_is_free c.args.byte (omega arith) c.requires).2
