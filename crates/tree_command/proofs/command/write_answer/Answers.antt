use Rattle.std.proofs.lemmas.Result.{err_from_is_err_and}
use Rattle.tree_command.proofs.WriteLemmas.{nothing_written}
use Rattle.tree_command.proofs.command.write_answer.Goals as goal

pub returns-in_err-line-in-Faulty-clause-front : goal.returns-in_err-line-in-Faulty-clause-front
returns-in_err-line-in-Faulty-clause-front g c =
    let p = err_from_is_err_and c.from_residual-in_err-line-in-Faulty.result c.from_residual-in_err-line-in-Faulty.ensures.1 in
    nothing_written _ _ c.from_residual-in_err-line-in-Faulty.result p.0 p.1
