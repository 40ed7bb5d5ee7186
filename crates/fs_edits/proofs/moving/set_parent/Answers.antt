use Rattle.std.proofs.Common.{◌≡◌, sym, ap, ◌∙◌, refl}
use Rattle.fs_rules.specs.declared.content.Content.{Content}
use Rattle.fs_rules.specs.declared.file.File.{File}
use Rattle.fs_rules.specs.Names.{with_parent}
use Rattle.fs_edits.specs.Blank.{blank}
use Rattle.fs_edits.proofs.PutLemmas.{put_back, one_file, still_there}
use Rattle.fs_edits.proofs.moving.set_parent.Goals as goal

pub put-requires-clause-there : goal.put-requires-clause-there
put-requires-clause-there c = still_there c.args.tree.now c.take_out-file.new.tree c.args.number blank c.take_out-file.ensures.tree

pub returns : goal.returns
returns c f there =
    let t = c.args.tree.now in
    let n = c.args.number in
    let file = c.take_out-file.result in
    let turned : File = record f { content = with_parent c.args.parent f.content } in
    let changed : File = record file { content = c.with_parent-content.result } in
    let is : changed ≡ turned =
    ap (λ (x : Content). let g : File = record file { content = x } in g) c.with_parent-content.ensures
    ∙ ap (λ (g : File). let h : File = record g { content = with_parent c.args.parent g.content } in h) (one_file t n n f file refl there (sym c.take_out-file.ensures.file)) in
    put_back c.args.now t c.take_out-file.new.tree c.put.new.tree n n blank turned changed refl c.take_out-file.ensures.tree is c.put.ensures
