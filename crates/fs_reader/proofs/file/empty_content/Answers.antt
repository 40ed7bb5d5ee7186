use Rattle.std.proofs.Common.{sym, ◌∙◌}
use Rattle.std.proofs.lemmas.Bool.{true≢false}
use Rattle.fs_reader.proofs.FileLemmas.{empty_directory, empty_link, empty_regular}
use Rattle.fs_reader.proofs.file.empty_content.Goals as goal

pub returns-then-is_directory : goal.returns-then-is_directory
returns-then-is_directory c = empty_directory c.args.attrs.now c.directory_of.result (c.is_directory.ensures.0 c.if-is_directory.true) c.directory_of.ensures

pub returns-then-is_link : goal.returns-then-is_link
returns-then-is_link c = empty_link c.args.attrs.now c.link_of.result c.requires.fields (c.is_link.ensures.0 c.if-is_link.true) c.link_of.ensures

pub returns-else-is_link : goal.returns-else-is_link
returns-else-is_link c =
    empty_regular c.args.attrs.now c.regular_of.result c.requires.fields c.requires.live (λ two. true≢false (sym (c.is_directory.ensures.1 two) ∙ c.if-is_directory.false))
    (λ five. true≢false (sym (c.is_link.ensures.1 five) ∙ c.if-is_link.false)) c.regular_of.ensures
