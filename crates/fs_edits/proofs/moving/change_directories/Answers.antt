use Rattle.std.proofs.Common.{◌≡◌, Some, sym, ap, subst, ◌∙◌}
use Rattle.std.specs.FinMap.{get}
use Rattle.sfs_base.proofs.MapLemmas.{get_past_insert}
use Rattle.fs_rules.specs.declared.plain_tree.PlainTree.{PlainTree}
use Rattle.fs_rules.specs.Edits.{changed_at}
use Rattle.fs_edits.specs.Giving.{receiving}
use Rattle.fs_edits.specs.Taking.{CanLose}
use Rattle.fs_edits.proofs.MovingLemmas.{on_ok, within_is, across_is}
use Rattle.fs_edits.proofs.moving.change_directories.Goals as goal

pub returns-then-plan-clause-ok : goal.returns-then-plan-clause-ok
returns-then-plan-clause-ok c m can =
    let t = c.args.tree.now in
    on_ok c.exchange.result (within_is c.args.now t c.args.plan m c.args.from_name.now c.args.entry can c.requires.source c.exchange.new.tree c.if-plan.true)
    (c.exchange.ensures.ok m.to_dir (ap (get t.files) can.numbers.1 ∙ can.to))

pub take_from-requires : goal.take_from-requires
take_from-requires c =
    let t = c.args.tree.now in
    let m = c.requires.moves.0 in
    let can = c.requires.moves.1 in
    let put = (c.in_ok-put_entry.ensures {u = tt}).ok m.to_dir (ap (get t.files) can.numbers.1 ∙ can.to) in (
      m.from_dir,
      ap (λ (u : PlainTree). get u.files c.args.plan.from) put
          ∙ get_past_insert t.files c.args.plan.to (changed_at c.args.now (receiving c.args.now c.args.entry.name c.args.entry.file c.args.plan.links m.to_dir)) c.args.plan.from c.if-plan.false
          ∙ ap (get t.files) can.numbers.0 ∙ can.from,
      can.from_room,
      subst (λ k. CanLose k m.from_dir) (sym can.along) can.from_can,
    )

pub returns-clause-ok : goal.returns-clause-ok
returns-clause-ok c m can =
    let t = c.args.tree.now in
    let put = (c.in_ok-put_entry.ensures {u = tt}).ok m.to_dir (ap (get t.files) can.numbers.1 ∙ can.to) in
    let there : get c.put_entry.new.tree.files c.args.plan.from ≡ Some m.from_dir =
    ap (λ (u : PlainTree). get u.files c.args.plan.from) put
    ∙ get_past_insert t.files c.args.plan.to (changed_at c.args.now (receiving c.args.now c.args.entry.name c.args.entry.file c.args.plan.links m.to_dir)) c.args.plan.from c.if-plan.false
    ∙ ap (get t.files) can.numbers.0 ∙ can.from in
    across_is c.args.now t c.args.plan m c.args.from_name.now c.args.entry can c.requires.source c.put_entry.new.tree c.take_from.new.tree c.if-plan.false put (c.take_from.ensures m.from_dir there)
