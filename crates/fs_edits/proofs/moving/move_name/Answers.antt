use Rattle.std.proofs.Common.{◌≡◌, Some, sym, ap, subst, ◌∙◌}
use Rattle.std.specs.FinMap.{get}
use Rattle.fs_rules.specs.declared.plain_tree.PlainTree.{PlainTree}
use Rattle.fs_rules.specs.Edits.{edited}
use Rattle.fs_rules.specs.Names.{directory_edits}
use Rattle.fs_edits.specs.Moving.{CanMove}
use Rattle.fs_edits.proofs.MovingLemmas.{left_else, turned_is}
use Rattle.fs_edits.proofs.moving.move_name.Goals as goal

pub set_parent-requires : goal.set_parent-requires
set_parent-requires c =
    let t = c.args.tree.now in
    let m = c.requires.0 in
    let can = c.requires.1 in
    let named : CanMove t.files c.args.plan m c.args.from_name.now c.in_ok-name.name = subst (CanMove t.files c.args.plan m c.args.from_name.now) (sym (c.in_ok-name.ensures {u = tt})) can in
    let left = (c.in_ok-change_directories.ensures {u = tt}).ok m named in (
      m.source_file,
      ap (λ (u : PlainTree). get u.files c.args.plan.source) left
          ∙ ap (get (edited c.args.now t (directory_edits c.args.now m)).files) can.numbers.2
          ∙ left_else c.args.now t m m.source can.apart.0 can.apart.1 ∙ can.source,
      can.source_rises,
    )

pub returns-clause-ok : goal.returns-clause-ok
returns-clause-ok c m can =
    let t = c.args.tree.now in
    let named : CanMove t.files c.args.plan m c.args.from_name.now c.in_ok-name.name = subst (CanMove t.files c.args.plan m c.args.from_name.now) (sym (c.in_ok-name.ensures {u = tt})) can in
    let left = (c.in_ok-change_directories.ensures {u = tt}).ok m named in
    let there : get c.change_directories.new.tree.files c.args.plan.source ≡ Some m.source_file =
    ap (λ (u : PlainTree). get u.files c.args.plan.source) left
    ∙ ap (get (edited c.args.now t (directory_edits c.args.now m)).files) can.numbers.2
    ∙ left_else c.args.now t m m.source can.apart.0 can.apart.1 ∙ can.source in
    turned_is c.args.now t m c.args.plan c.args.from_name.now c.args.to_name.now can c.change_directories.new.tree c.set_parent.new.tree left (c.set_parent.ensures m.source_file there)
