use Rattle.std.proofs.Common.{◌≡◌, List, ℕ, sym, ap, ◌∙◌}
use Rattle.std.specs.Ordering.{nat_cmp}
use Rattle.std.specs.FinMap.{FinMap, get, insert}
use Rattle.sfs_base.proofs.MapLemmas.{get_past_insert}
use Rattle.fs_rules.specs.declared.file.File.{File}
use Rattle.fs_rules.specs.declared.plain_tree.PlainTree.{PlainTree}
use Rattle.fs_rules.specs.Edits.{changed_at}
use Rattle.fs_edits.specs.Giving.{receiving}
use Rattle.fs_edits.proofs.MakingLemmas.{where_err, where_ok, apart, can_take, taken_back, made_so}
use Rattle.fs_edits.proofs.make.make_file.Goals as goal

pub put_entry-requires : goal.put_entry-requires
put_entry-requires c =
    let room = c.requires.room in (
      room.0,
      can_take c.args.tree.now c.insert.new.self c.args.parent c.args.number room.0 c.args.file c.args.name.now c.in_ok-name.name
          room.1 c.requires.free ((c.in_ok-insert.ensures {u = tt}).ok) (c.in_ok-name.ensures {u = tt}),
    )

pub returns-then-is_err-clause-err : goal.returns-then-is_err-clause-err
returns-then-is_err-clause-err c =
    taken_back c.args.tree.now c.put_entry.new.tree c.args.number c.args.file c.insert.new.self c.remove.new.self
    c.requires.free ((c.in_ok-insert.ensures {u = tt}).ok)
    (where_err c.put_entry.result (sym c.is_err.ensures.value ∙ c.if-is_err.true) c.put_entry.ensures.err) c.remove.ensures.removed

pub returns-clause-ok : goal.returns-clause-ok
returns-clause-ok c d there =
    let t = c.args.tree.now in
    let n = c.args.parent in
    let m = c.args.number in
    let other = apart t n m d there c.requires.free in
    let put = (c.in_ok-insert.ensures {u = tt}).ok in
    let between : get c.insert.new.self n ≡ get t.files n = ap (λ (x : FinMap nat_cmp File). get x n) put ∙ get_past_insert t.files m c.args.file n other in
    made_so c.args.now t c.put_entry.new.tree n m (receiving c.args.now c.args.name.now m c.args.links d) c.args.file c.insert.new.self c.remove-2.new.self other put
    (where_ok c.put_entry.result (sym c.is_err.ensures.value ∙ c.if-is_err.false) (c.put_entry.ensures.ok d (between ∙ there))
    ∙ ap (λ (x : List ℕ). let u : PlainTree = record t { files = insert c.insert.new.self n (changed_at c.args.now (receiving c.args.now x m c.args.links d)) } in u) (c.in_ok-name.ensures {u = tt}))
    c.remove-2.ensures.removed
