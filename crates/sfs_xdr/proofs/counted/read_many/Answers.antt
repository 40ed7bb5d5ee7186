use Rattle.std.proofs.Common.{◌≡◌, ℕ, ◌-◌, ◌+◌, sym, ap, ◌∙◌, arith}
use Rattle.std.proofs.lemmas.Result.{err_from_is_err_and}
use Rattle.sfs_xdr.specs.Codec.{many_of}
use Rattle.sfs_xdr.specs.CodecLemmas.{prefixed_none, prefixed_step, prefixed_stop, prefixed_done}
use Rattle.sfs_xdr.proofs.counted.read_many.Goals as goal

-- nothing is taken off
whole : (n : ℕ) → n - 0 ≡ n
whole n = omega arith

pub loop-init : goal.loop-init
loop-init g c =
    rw c.new-values.ensures
    (prefixed_none (many_of g.C.Codec.read_of (c.args.count - 0) c.args.reader.now)
    ∙ ap (λ k. many_of g.C.Codec.read_of k c.args.reader.now) (whole c.args.count))

pub returns-in_err-value-clause-malformed : goal.returns-in_err-value-clause-malformed
returns-in_err-value-clause-malformed g c = λ h.
    let p = err_from_is_err_and c.from_residual.result c.from_residual.ensures.1 in
    sym c.loop.invariant
    ∙ prefixed_stop g.C.Codec.read_of c.loop.values (c.args.count - c.loop.counter) (c.args.count - (c.loop.counter + 1)) c.loop.reader (c.in_err-value.ensures.malformed (cc (h, p.1, p.2))) (omega (arith, c.loop-test.true))

pub loop-preserved : goal.loop-preserved
loop-preserved g c =
    rw ((c.in_ok-push.ensures {u = tt}).ok)
    (sym (prefixed_step g.C.Codec.read_of c.loop.values (c.args.count - c.loop.counter) (c.args.count - (c.loop.counter + 1)) c.in_ok-value.value c.loop.reader c.read.new.reader
    ((c.in_ok-value.ensures).found) (omega (arith, c.loop-test.true))) ∙ c.loop.invariant)

pub returns-clause-found : goal.returns-clause-found
returns-clause-found g c =
    sym c.loop.invariant ∙ prefixed_done g.C.Codec.read_of c.loop.values (c.args.count - c.loop.counter) c.loop.reader (omega (arith, c.loop-test.false))
