use Rattle.std.proofs.Common.{sym, ◌∙◌}
use Rattle.std.proofs.lemmas.Bool.{true≢false}
use Rattle.std.proofs.lemmas.Result.{err_from_is_err_and}
use Rattle.fs_reader.proofs.FileLemmas.{file_read, not_told, no_content_no_file}
use Rattle.fs_reader.proofs.file.read_file.Goals as goal

pub returns-in_err-content-clause-none : goal.returns-in_err-content-clause-none
returns-in_err-content-clause-none c =
    let p = err_from_is_err_and c.from_residual.result c.from_residual.ensures.1 in
    rw (p.1, p.2) (λ is.
    no_content_no_file c.args.geometry.now c.args.parts.now c.args.number c.args.attrs.now c.args.left.now (c.in_err-content.ensures.none is))

pub returns-then-is_told-clause-ok : goal.returns-then-is_told-clause-ok
returns-then-is_told-clause-ok c =
    file_read c.args.geometry.now c.args.parts.now c.args.number c.args.attrs.now c.args.left.now c.read_content.new.left c.in_ok-content.content c.in_ok-content.ensures.ok
    (c.is_told.ensures.0 c.if-is_told.true) c.file_of.result c.file_of.ensures

pub returns-else-is_told-clause-none : goal.returns-else-is_told-clause-none
returns-else-is_told-clause-none c = λ _.
    not_told c.args.geometry.now c.args.parts.now c.args.number c.args.attrs.now c.args.left.now c.read_content.new.left c.in_ok-content.content c.in_ok-content.ensures.ok
    (λ told. true≢false (sym (c.is_told.ensures.1 told) ∙ c.if-is_told.false))
