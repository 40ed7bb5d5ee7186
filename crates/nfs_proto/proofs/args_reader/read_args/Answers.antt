use Rattle.std.proofs.Common.{Err, sym, ap, ◌∙◌, arith}
use Rattle.nfs_proto.specs.Arguments.{args_of}
use Rattle.nfs_proto.proofs.ArgumentLemmas.{args_found, args_garbage, args_past, garbage_is}
use Rattle.nfs_proto.proofs.args_reader.read_args.Goals as goal

pub returns-then-procedure-gt-LAST_PROCEDURE-clause-no_procedure : goal.returns-then-procedure-gt-LAST_PROCEDURE-clause-no_procedure
returns-then-procedure-gt-LAST_PROCEDURE-clause-no_procedure c = λ same. args_past c.args.procedure c.args.args.now c.if-procedure-gt-LAST_PROCEDURE.true

pub returns-in-Ok-clause-found : goal.returns-in-Ok-clause-found
returns-in-Ok-clause-found c =
    ap (args_of c.args.procedure) (sym c.new-reader.ensures)
    ∙ args_found c.args.procedure c.new-reader.result c.in-Ok.call c.read_arguments.new.reader ((c.in-Ok.ensures {u = tt}).found)

pub returns-in-Err-clause-garbage : goal.returns-in-Err-clause-garbage
returns-in-Err-clause-garbage c = λ same.
    let is = garbage_is c.in-Err.fault (cc (same, c.from.ensures)) in
    ap (args_of c.args.procedure) (sym c.new-reader.ensures)
    ∙ args_garbage c.args.procedure c.new-reader.result (omega (arith, c.if-procedure-gt-LAST_PROCEDURE.false))
    ((c.in-Err.ensures {u = tt}).malformed (ap (λ f. Err f) is))
