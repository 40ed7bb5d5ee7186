use Rattle.std.proofs.Common.{refl, sym, ap, ◌∙◌}
use Rattle.std.specs.FinMap.{get, insert, remove}
use Rattle.sfs_base.proofs.MapLemmas.{get_inserted, insert_back, remove_back, where_some}
use Rattle.fs_content.proofs.writing.take_back.Goals as goal

pub returns-in-Some : goal.returns-in-Some
returns-in-Some c m block is before =
    where_some c.replace.result block (c.replace.ensures.before ∙ ap (λ b. get b c.args.index) is ∙ get_inserted m c.args.index block c.args.index refl) c.replace.ensures.some
    ∙ ap (λ b. insert b c.args.index c.in-Some.block) is ∙ insert_back m c.args.index _ block (sym before ∙ c.in-Some.is)

pub returns-in-None : goal.returns-in-None
returns-in-None c m block is before =
    c.remove.ensures.removed ∙ ap (λ b. remove b c.args.index) is ∙ remove_back m c.args.index block (sym before ∙ c.in-None.is)
