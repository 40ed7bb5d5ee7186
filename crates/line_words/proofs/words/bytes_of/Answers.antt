-- Where the digits were refused, the word spells no bytes, or memory was missing for them.
use Rattle.std.proofs.Common.{sym, ◌∙◌, arith}
use Rattle.std.proofs.lemmas.Result.{err_from_is_err_and}
use Rattle.line_words.proofs.BytesLemmas.{bytes_of-refused}
use Rattle.line_words.proofs.words.bytes_of.Goals as goal

pub returns-in_err-decode : goal.returns-in_err-decode
returns-in_err-decode c =
    let passed = err_from_is_err_and c.from_residual.result c.from_residual.ensures.1 in
    let refused = c.in_err-decode.ensures in
    rw (passed.1, passed.2)
    (bytes_of-refused c.args.word.now c.in_err-decode.field-0.0 (omega arith) (omega arith)
    (sym c.is_lower_hex.ensures ∙ c.if-not-is_lower_hex.false) refused.err (λ odd. cc (refused.odd odd)))
