use Rattle.std.proofs.Common.{sym, ap, subst, ◌∙◌}
use Rattle.std.specs.FinMap.{get}
use Rattle.fs_rules.specs.declared.plain_tree.PlainTree.{PlainTree}
use Rattle.fs_rules.specs.Edits.{edit, Changed}
use Rattle.fs_rules.specs.Names.{unlinked}
use Rattle.fs_edits.specs.declared.replaced.Replaced.TheVariants.{LosesLink}
use Rattle.fs_edits.specs.Moving.{CanReplace}
use Rattle.fs_edits.proofs.MovingLemmas.{moved_else, over_link}
use Rattle.fs_edits.proofs.moving.carry_over.Goals as goal

pub take_link-requires : goal.take_link-requires
take_link-requires c =
    let t = c.args.tree.now in
    let m = c.requires.moves.0 in
    let r : CanReplace t.files m (LosesLink c.in-LosesLink.number) = subst (CanReplace t.files m) c.in-LosesLink.is c.requires.moves.2 in
    let left = (c.in_ok-move_name-in-LosesLink.ensures {u = tt}).ok m c.requires.moves.1 in (
      r.0,
      ap (λ (u : PlainTree). get u.files c.in-LosesLink.number) left ∙ moved_else c.args.now t m c.in-LosesLink.number r.2 r.3 r.4 ∙ r.1,
      r.5,
    )

pub returns-in_ok-move_name-in-LosesLink-clause-ok : goal.returns-in_ok-move_name-in-LosesLink-clause-ok
returns-in_ok-move_name-in-LosesLink-clause-ok c m can replacing =
    let t = c.args.tree.now in
    let r : CanReplace t.files m (LosesLink c.in-LosesLink.number) = subst (CanReplace t.files m) c.in-LosesLink.is replacing in
    let left = (c.in_ok-move_name-in-LosesLink.ensures {u = tt}).ok m can in
    let there = ap (λ (u : PlainTree). get u.files c.in-LosesLink.number) left ∙ moved_else c.args.now t m c.in-LosesLink.number r.2 r.3 r.4 ∙ r.1 in
    c.take_link.ensures r.0 there
    ∙ ap (λ (u : PlainTree). edit c.args.now u (Changed c.in-LosesLink.number (unlinked 1 r.0))) left
    ∙ sym (over_link c.args.now t m c.in-LosesLink.number r.0 r.6)
