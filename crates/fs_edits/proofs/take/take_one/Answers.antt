use Rattle.std.proofs.Common.{◌≡◌, Some, ap, ◌∙◌}
use Rattle.std.specs.FinMap.{get}
use Rattle.sfs_base.proofs.MapLemmas.{get_past_insert}
use Rattle.fs_rules.specs.declared.file.File.{File}
use Rattle.fs_rules.specs.declared.plain_tree.PlainTree.{PlainTree}
use Rattle.fs_rules.specs.Edits.{Changed, changed_at, edit, edited}
use Rattle.fs_rules.specs.Names.{without_name, unlinked}
use Rattle.fs_edits.proofs.TakingLemmas.{unlinked_none}
use Rattle.fs_edits.proofs.take.take_one.Goals as goal

pub take_link-requires : goal.take_link-requires
take_link-requires c =
    let d = c.requires.0 in
    let f = c.requires.1 in
    let can = c.requires.2 in (
      f,
      ap (λ (u : PlainTree). get u.files c.args.file) (c.take_from.ensures d can.dir)
          ∙ get_past_insert c.args.tree.now.files c.args.number (changed_at c.args.now (unlinked 0 (without_name c.args.now c.args.name.now d))) c.args.file can.apart
          ∙ can.file,
      can.file_can,
    )

pub returns : goal.returns
unfolding edited
returns c d f can =
    let t = c.args.tree.now in
    let w = without_name c.args.now c.args.name.now d in
    let mid = c.take_from.ensures d can.dir in
    let there : get c.take_from.new.tree.files c.args.file ≡ Some f =
    ap (λ (u : PlainTree). get u.files c.args.file) mid ∙ get_past_insert t.files c.args.number (changed_at c.args.now (unlinked 0 w)) c.args.file can.apart ∙ can.file in
    c.take_link.ensures f there
    ∙ ap (λ (u : PlainTree). edit c.args.now u (Changed c.args.file (unlinked 1 f)))
    (mid ∙ ap (λ (g : File). edit c.args.now t (Changed c.args.number g)) (unlinked_none w))
