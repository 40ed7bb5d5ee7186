use Rattle.std.proofs.Common.{Some, sym, ap, ◌∙◌, refl}
use Rattle.fs_rules.specs.declared.file.File.{File}
use Rattle.fs_edits.specs.Blank.{blank}
use Rattle.fs_edits.specs.Moving.{exchanged}
use Rattle.fs_edits.proofs.PutLemmas.{put_back, put_same, one_file, still_there}
use Rattle.fs_edits.proofs.moving.exchange.Goals as goal

pub put-requires-clause-there : goal.put-requires-clause-there
put-requires-clause-there c = still_there c.args.tree.now c.take_out-dir.new.tree c.args.number blank c.take_out-dir.ensures.tree

pub put_back-requires : goal.put_back-requires
put_back-requires c = still_there c.args.tree.now c.take_out-dir.new.tree c.args.number blank c.take_out-dir.ensures.tree

pub returns-in-Ok-clause-ok : goal.returns-in-Ok-clause-ok
returns-in-Ok-clause-ok c d there =
    let t = c.args.tree.now in
    let n = c.args.number in
    put_back c.args.now t c.take_out-dir.new.tree c.put.new.tree n n blank (exchanged c.args.now c.args.entry c.args.old_name.now c.args.links d) c.in-Ok.dir refl c.take_out-dir.ensures.tree
    ((c.in-Ok.ensures {u = tt}).ok ∙ ap (λ (f : File). exchanged c.args.now c.args.entry c.args.old_name.now c.args.links f) (one_file t n n d c.take_out-dir.result refl there (sym c.take_out-dir.ensures.file)))
    c.put.ensures

pub returns-in-Err-clause-err : goal.returns-in-Err-clause-err
returns-in-Err-clause-err c =
    put_same c.args.tree.now c.take_out-dir.new.tree c.put_back.new.tree c.args.number blank c.in-Err.dir c.take_out-dir.ensures.tree c.put_back.ensures
    (c.take_out-dir.ensures.file ∙ ap Some (sym ((c.in-Err.ensures {u = tt}).err)))
