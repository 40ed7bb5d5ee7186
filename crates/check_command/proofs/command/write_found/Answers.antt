use Rattle.std.proofs.lemmas.Result.{err_from_is_err_and}
use Rattle.check_command.proofs.CommandLemmas.{nothing_written}
use Rattle.check_command.proofs.command.write_found.Goals as goal

pub returns-in_err-text-clause-front : goal.returns-in_err-text-clause-front
returns-in_err-text-clause-front g c =
    let p = err_from_is_err_and c.from_residual.result c.from_residual.ensures.1 in
    nothing_written _ _ c.from_residual.result p.0 p.1
