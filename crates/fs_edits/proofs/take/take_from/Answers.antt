use Rattle.std.proofs.Common.{sym, ap, ◌∙◌, refl}
use Rattle.fs_rules.specs.declared.file.File.{File}
use Rattle.fs_rules.specs.Names.{without_name, unlinked}
use Rattle.fs_edits.specs.Blank.{blank}
use Rattle.fs_edits.proofs.PutLemmas.{put_back, one_file, still_there}
use Rattle.fs_edits.proofs.take.take_from.Goals as goal

pub put-requires-clause-there : goal.put-requires-clause-there
put-requires-clause-there c = still_there c.args.tree.now c.take_out-dir.new.tree c.args.number blank c.take_out-dir.ensures.tree

pub returns : goal.returns
returns c d there =
    let t = c.args.tree.now in
    let n = c.args.number in
    put_back c.args.now t c.take_out-dir.new.tree c.put.new.tree n n blank (unlinked c.args.links (without_name c.args.now c.args.name.now d)) c.without_name-dir.result refl c.take_out-dir.ensures.tree
    (c.without_name-dir.ensures ∙ ap (λ (f : File). unlinked c.args.links (without_name c.args.now c.args.name.now f)) (one_file t n n d c.take_out-dir.result refl there (sym c.take_out-dir.ensures.file)))
    c.put.ensures
