use Rattle.std.proofs.Common.{sym, ap, ◌∙◌}
use Rattle.std.specs.Result.{result_ok}
use Rattle.std.proofs.lemmas.Option.{none-some}
use Rattle.std.proofs.lemmas.Result.{err_from_is_err_and}
use Rattle.fs_reader.specs.Numbers.{IsRecordAt}
use Rattle.fs_reader.proofs.NumberLemmas.{of_some, ok_then, none_then, live_reads, free_reads}
use Rattle.fs_reader.proofs.TreeLemmas.{no_record, no_live}
use Rattle.fs_reader.proofs.numbers.read_one.Goals as goal

pub returns-in_err-attrs-clause-none : goal.returns-in_err-attrs-clause-none
returns-in_err-attrs-clause-none c =
    let p = err_from_is_err_and c.from_residual.result c.from_residual.ensures.1 in
    rw (p.1, p.2) (λ is.
    no_record c.args.geometry.now c.args.parts.now c.args.memory c.args.inode c.args.left.now c.args.tree.now c.requires.memory c.requires.inode
    (λ a at. none-some a (sym (c.ok_or.ensures.ok_part ∙ ap result_ok c.in_err-attrs.was) ∙ c.record_of.ensures.only a at)))

pub returns-then-attrs-ne-FREE-clause-ok : goal.returns-then-attrs-ne-FREE-clause-ok
returns-then-attrs-ne-FREE-clause-ok c =
    let at = of_some (IsRecordAt c.args.parts.now c.args.memory c.args.inode) c.record_of.result c.in_ok-attrs.attrs (c.ok_or.ensures.ok_part ∙ ap result_ok c.in_ok-attrs.was) c.record_of.ensures.found in
    ok_then c.read_live.result
    (live_reads c.args.geometry.now c.requires.images.limits c.args.parts.now c.args.memory c.args.inode c.requires.memory c.requires.inode c.in_ok-attrs.attrs at c.args.left.now c.args.tree.now
    c.read_live.new.left c.read_live.new.tree)
    c.read_live.ensures.ok

pub returns-then-attrs-ne-FREE-clause-none : goal.returns-then-attrs-ne-FREE-clause-none
returns-then-attrs-ne-FREE-clause-none c =
    let at = of_some (IsRecordAt c.args.parts.now c.args.memory c.args.inode) c.record_of.result c.in_ok-attrs.attrs (c.ok_or.ensures.ok_part ∙ ap result_ok c.in_ok-attrs.was) c.record_of.ensures.found in
    none_then c.read_live.result
    (λ none. no_live c.args.geometry.now c.args.parts.now c.args.memory c.args.inode c.args.left.now c.args.tree.now c.requires.memory c.requires.inode c.in_ok-attrs.attrs at
    c.if-attrs-ne-FREE.true none)
    c.read_live.ensures.none

pub returns-in_ok-keep-clause-ok : goal.returns-in_ok-keep-clause-ok
returns-in_ok-keep-clause-ok c =
    let at = of_some (IsRecordAt c.args.parts.now c.args.memory c.args.inode) c.record_of.result c.in_ok-attrs.attrs (c.ok_or.ensures.ok_part ∙ ap result_ok c.in_ok-attrs.was) c.record_of.ensures.found in
    free_reads c.args.geometry.now c.requires.images.limits c.args.parts.now c.args.memory c.args.inode c.requires.memory c.requires.inode c.in_ok-attrs.attrs at c.args.left.now c.args.tree.now
    c.if-attrs-ne-FREE.false c.keep.new.tree c.in_ok-keep.ensures
