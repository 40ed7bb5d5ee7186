-- Two digits spell a byte, and nothing else does.
use Rattle.std.proofs.Common.{refl, sym, ◌∙◌, arith}
use Rattle.line_words.proofs.BytesLemmas.{no_byte_of_length, two_digits}
use Rattle.line_words.proofs.words.byte_of.Goals as goal

pub returns-then-word-ne2 : goal.returns-then-word-ne2
returns-then-word-ne2 c = sym (no_byte_of_length c.args.word.now (λ is. c.if-word-ne2.true is))

pub unwrap-requires : goal.unwrap-requires
unwrap-requires c =
    let spells = two_digits c.args.word.now (omega (arith, c.if-word-ne2.false)) (sym c.is_lower_hex.ensures ∙ c.if-not-is_lower_hex.false) in
    let value = rw spells.decoded at c.decode_to_slice.ensures.value in
    rw value.0 refl
