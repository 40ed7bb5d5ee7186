use Rattle.std.proofs.Common.{◌≡◌, Some, refl, sym, ap, ◌∙◌}
use Rattle.std.specs.FinMap.{insert}
use Rattle.fs_rules.specs.declared.file.File.{File}
use Rattle.fs_rules.specs.declared.plain_tree.PlainTree.{PlainTree}
use Rattle.fs_rules.specs.Edits.{changed_at}
use Rattle.fs_edits.specs.Blank.{blank}
use Rattle.fs_edits.specs.Giving.{receiving}
use Rattle.fs_edits.proofs.PutLemmas.{one_file, put_again, put_same, still_there}
use Rattle.fs_edits.proofs.make.put_entry.Goals as goal

pub put_back-requires : goal.put_back-requires
put_back-requires c = still_there c.args.tree.now c.take_out-dir.new.tree c.args.parent blank c.take_out-dir.ensures.tree

pub put_back-requires-in-Err : goal.put_back-requires-in-Err
put_back-requires-in-Err c = still_there c.args.tree.now c.take_out-dir.new.tree c.args.parent blank c.take_out-dir.ensures.tree

pub returns-in-Ok-clause-ok : goal.returns-in-Ok-clause-ok
returns-in-Ok-clause-ok c d there =
    let t = c.args.tree.now in
    let n = c.args.parent in
    let is : c.in-Ok.dir ≡ changed_at c.args.now (receiving c.args.now c.args.entry.name c.args.entry.file c.args.links d) =
    (c.in-Ok.ensures {u = tt}).ok
    ∙ ap (λ (f : File). changed_at c.args.now (receiving c.args.now c.args.entry.name c.args.entry.file c.args.links f)) (one_file t n n d c.take_out-dir.result refl there (sym c.take_out-dir.ensures.file)) in
    put_again t c.take_out-dir.new.tree c.put_back.new.tree n blank c.in-Ok.dir c.take_out-dir.ensures.tree c.put_back.ensures
    ∙ ap (λ (g : File). let u : PlainTree = record t { files = insert t.files n g } in u) is

pub returns-in-Err-clause-err : goal.returns-in-Err-clause-err
returns-in-Err-clause-err c =
    put_same c.args.tree.now c.take_out-dir.new.tree c.put_back-in-Err.new.tree c.args.parent blank c.in-Err.dir c.take_out-dir.ensures.tree c.put_back-in-Err.ensures
    (c.take_out-dir.ensures.file ∙ ap Some (sym ((c.in-Err.ensures {u = tt}).err)))
