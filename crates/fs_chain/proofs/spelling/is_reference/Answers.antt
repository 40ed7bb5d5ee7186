use Rattle.std.proofs.Common.{arith}
use Rattle.fs_chain.proofs.BytesLemmas.{words_of_eight, reference_told}
use Rattle.fs_chain.proofs.spelling.is_reference.Goals as goal

pub returns : goal.returns
returns c =
    let m = c.from_be_bytes-memory.result in
    let p = c.from_be_bytes-place.result in
    let bytes = c.args.bytes.now in
    reference_told m p bytes (omega arith) (omega arith)
    (words_of_eight bytes m p c.requires (λ k. omega (arith, c.type_inv.bytes k)) c.from_be_bytes-memory.ensures c.from_be_bytes-place.ensures)
