use Rattle.std.proofs.Common.{ap, ◌∙◌}
use Rattle.std.specs.FinMap.{get}
use Rattle.fs_rules.specs.declared.plain_tree.PlainTree.{PlainTree}
use Rattle.fs_edits.proofs.take.take_last.Goals as goal

pub take_from-requires : goal.take_from-requires
take_from-requires c =
    let d = c.requires.0 in
    let f = c.requires.1 in
    let can = c.requires.2 in
    (d, ap (λ (u : PlainTree). get u.files c.args.number) ((c.in_ok-keep.ensures {u = tt}).ok f can.file) ∙ can.dir, can.room, can.dir_can)
