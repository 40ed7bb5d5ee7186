use Rattle.std.proofs.Common.{sym, ap, refl}
use Rattle.fs_rules.specs.Names.{unlinked}
use Rattle.fs_edits.specs.Blank.{blank}
use Rattle.fs_edits.proofs.PutLemmas.{put_back, one_file, still_there}
use Rattle.fs_edits.proofs.take.take_link.Goals as goal

pub put-requires-clause-there : goal.put-requires-clause-there
put-requires-clause-there c = still_there c.args.tree.now c.take_out-file.new.tree c.args.number blank c.take_out-file.ensures.tree

pub returns : goal.returns
returns c f there =
    let t = c.args.tree.now in
    let n = c.args.number in
    put_back c.args.now t c.take_out-file.new.tree c.put.new.tree n n blank (unlinked 1 f) (unlinked 1 c.take_out-file.result) refl c.take_out-file.ensures.tree
    (ap (unlinked 1) (one_file t n n f c.take_out-file.result refl there (sym c.take_out-file.ensures.file))) c.put.ensures
