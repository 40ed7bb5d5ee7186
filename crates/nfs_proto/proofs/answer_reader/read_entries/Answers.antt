use Rattle.std.proofs.Common.{◌≡◌, ◌-◌, ◌+◌, length, Ok, true, false, sym, ap, ◌∙◌, arith}
use Rattle.std.proofs.lemmas.Result.{err_from_is_err_and}
use Rattle.sfs_xdr.specs.Codec.{boolean_item}
use Rattle.nfs_proto.proofs.EntryLemmas.{entries_more, entries_end, entries_cut, entries_bad, entries_spent}
use Rattle.nfs_proto.proofs.answer_reader.read_entries.Goals as goal

pub returns-in_err-read-clause-malformed : goal.returns-in_err-read-clause-malformed
returns-in_err-read-clause-malformed c = λ h.
    let p = err_from_is_err_and c.from_residual.result c.from_residual.ensures.1 in
    let n = length c.rest-most.result.now in
    sym c.loop.invariant
    ∙ entries_cut c.loop.entries (n - c.loop.counter) (n - (c.loop.counter + 1)) c.loop.reader (omega (arith, c.loop-test.true))
    (c.in_err-read.ensures.malformed (cc (h, p.1, p.2)))

pub returns-then-not-branch-clause-found : goal.returns-then-not-branch-clause-found
returns-then-not-branch-clause-found c =
    let n = length c.rest-most.result.now in
    let read : boolean_item c.loop.reader ≡ Ok (false, c.read.new.reader) =
    (c.in_ok-read.ensures {u = tt}).found ∙ ap (λ b. Ok (b, c.read.new.reader)) c.if-not-branch.true in
    sym c.loop.invariant ∙ entries_end c.loop.entries (n - c.loop.counter) (n - (c.loop.counter + 1)) c.loop.reader c.read.new.reader (omega (arith, c.loop-test.true)) read

pub returns-in_err-read-2-clause-malformed : goal.returns-in_err-read-2-clause-malformed
returns-in_err-read-2-clause-malformed c = λ h.
    let p = err_from_is_err_and c.from_residual-in_err-read-2.result c.from_residual-in_err-read-2.ensures.1 in
    let n = length c.rest-most.result.now in
    let read : boolean_item c.loop.reader ≡ Ok (true, c.read.new.reader) =
    (c.in_ok-read.ensures {u = tt}).found ∙ ap (λ b. Ok (b, c.read.new.reader)) c.if-not-branch.false in
    sym c.loop.invariant
    ∙ entries_bad c.loop.entries (n - c.loop.counter) (n - (c.loop.counter + 1)) c.loop.reader c.read.new.reader (omega (arith, c.loop-test.true)) read
    (c.in_err-read-2.ensures.malformed (cc (h, p.1, p.2)))

pub loop-preserved : goal.loop-preserved
loop-preserved c =
    let n = length c.rest-most.result.now in
    let read : boolean_item c.loop.reader ≡ Ok (true, c.read.new.reader) =
    (c.in_ok-read.ensures {u = tt}).found ∙ ap (λ b. Ok (b, c.read.new.reader)) c.if-not-branch.false in
    rw ((c.in_ok-push.ensures {u = tt}).ok)
    (sym (entries_more c.loop.entries (n - c.loop.counter) (n - (c.loop.counter + 1)) c.loop.reader c.read.new.reader c.read-in-loop.new.reader c.in_ok-read-2.field-0
    (omega (arith, c.loop-test.true)) read ((c.in_ok-read-2.ensures {u = tt}).found)) ∙ c.loop.invariant)

pub returns-clause-malformed : goal.returns-clause-malformed
returns-clause-malformed c = λ same.
    sym c.loop.invariant ∙ entries_spent c.loop.entries (length c.rest-most.result.now - c.loop.counter) c.loop.reader (omega (arith, c.loop-test.false))
