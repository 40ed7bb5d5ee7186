use Rattle.std.proofs.lemmas.Result.{err_from_is_err_and}
use Rattle.tree_command.proofs.WriteLemmas.{nothing_written}
use Rattle.tree_command.proofs.listing.write_file.Goals as goal

pub returns-in_err-append_file-clause-front : goal.returns-in_err-append_file-clause-front
returns-in_err-append_file-clause-front g c =
    let p = err_from_is_err_and c.from_residual.result c.from_residual.ensures.1 in
    nothing_written _ _ c.from_residual.result p.0 p.1
