use Rattle.std.proofs.Common.{List, Option, Err, sym, ap, ◌∙◌}
use Rattle.nfs_proto.specs.declared.form.Form.{Form}
use Rattle.nfs_proto.specs.Answers.{answer_of, answered_by, result_of, value_of}
use Rattle.nfs_proto.proofs.ArgumentLemmas.{garbage_is}
use Rattle.nfs_proto.proofs.answer_reader.read_answer.Goals as goal

pub returns-in_default-clause-no_procedure : goal.returns-in_default-clause-no_procedure
unfolding answer_of
returns-in_default-clause-no_procedure c = λ same. ap (λ (o : Option Form). answered_by o c.args.bytes.now) (sym c.of.ensures ∙ c.in_default.is)

pub returns-in-Ok-clause-found : goal.returns-in-Ok-clause-found
unfolding answer_of
returns-in-Ok-clause-found c =
    ap (λ (o : Option Form). answered_by o c.args.bytes.now) (sym c.of.ensures ∙ c.in-Some.is)
    ∙ ap (λ (b : List _). value_of (result_of c.in-Some.form b)) (sym c.new-reader.ensures)
    ∙ ap value_of ((c.in-Ok.ensures {u = tt}).found)

pub returns-in-Err-clause-garbage : goal.returns-in-Err-clause-garbage
unfolding answer_of
returns-in-Err-clause-garbage c = λ same.
    let is = garbage_is c.in-Err.fault (cc (same, c.from.ensures)) in
    ap (λ (o : Option Form). answered_by o c.args.bytes.now) (sym c.of.ensures ∙ c.in-Some.is)
    ∙ ap (λ (b : List _). value_of (result_of c.in-Some.form b)) (sym c.new-reader.ensures)
    ∙ ap value_of ((c.in-Err.ensures {u = tt}).malformed (ap (λ f. Err f) is))
