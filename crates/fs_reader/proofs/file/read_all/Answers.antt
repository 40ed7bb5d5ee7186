use Rattle.std.proofs.Common.{sym, ◌∙◌}
use Rattle.std.proofs.lemmas.Bool.{true≢false}
use Rattle.std.proofs.lemmas.Result.{err_from_is_err_and}
use Rattle.fs_reader.proofs.FileLemmas.{not_linked, not_all, content_read}
use Rattle.fs_reader.proofs.file.read_all.Goals as goal

pub returns-in_err-behind-clause-none : goal.returns-in_err-behind-clause-none
returns-in_err-behind-clause-none c =
    let p = err_from_is_err_and c.from_residual.result c.from_residual.ensures.1 in
    rw (p.1, p.2) (λ is.
    not_linked c.args.geometry.now c.args.parts.now c.args.number c.args.attrs.now c.args.left.now c.empty_content-content.result c.empty_content-content.ensures (c.in_err-behind.ensures.none is))

pub returns-then-is_all-clause-ok : goal.returns-then-is_all-clause-ok
returns-then-is_all-clause-ok c =
    let told = c.is_all.ensures.0 c.if-is_all.true in
    content_read c.args.geometry.now c.args.parts.now c.args.number c.args.attrs.now c.args.left.now c.empty_content-content.result c.empty_content-content.ensures c.read_links.new.left
    c.read_links.new.content c.in_ok-behind.behind c.in_ok-behind.ensures.ok told.0 told.1 c.requires.few

pub returns-else-is_all-clause-none : goal.returns-else-is_all-clause-none
returns-else-is_all-clause-none c = λ _.
    not_all c.args.geometry.now c.args.parts.now c.args.number c.args.attrs.now c.args.left.now c.empty_content-content.result c.empty_content-content.ensures c.read_links.new.left
    c.read_links.new.content c.in_ok-behind.behind c.in_ok-behind.ensures.ok (λ told. true≢false (sym (c.is_all.ensures.1 told) ∙ c.if-is_all.false))
