use Rattle.std.proofs.Common.{[], ◌∷◌, ◌++◌, sym, ap, ◌∙◌}
use Rattle.std.proofs.lemmas.Result.{on_ok_weaker}
use Rattle.sfs_xdr.specs.Items.{words, opaque, opaque_var}
use Rattle.nfs_proto.specs.declared.call.Call.{Call}
use Rattle.nfs_proto.specs.Types.{sattr_words}
use Rattle.nfs_proto.specs.Arguments.{arguments_spelling}
use Rattle.nfs_proto.proofs.WritingLemmas.{three_parts, four_parts}
use Rattle.nfs_proto.proofs.args_writer.write_arguments.Goals as goal

-- the parts of a call's arguments are written one behind another
pub returns-in_ok-write_words-in-Write : goal.returns-in_ok-write_words-in-Write
returns-in_ok-write_words-in-Write c =
    let w = c.in-Write in
    on_ok_weaker c.write-in-Write-2.result (λ last.
    three_parts c.args.writer.now c.write-in-Write.new.writer c.write_words-in-Write.new.writer c.write-in-Write-2.new.writer
    (opaque w.file.0) (words (w.begin ∷ w.offset ∷ w.total ∷ [])) (opaque_var w.bytes)
    (c.in_ok-write-in-Write.ensures {u = tt}) (c.in_ok-write_words-in-Write.ensures {u = tt}) last
    ∙ ap (λ (call : Call). c.args.writer.now ++ arguments_spelling call) (sym w.is)) c.write-in-Write-2.ensures

pub returns-in_ok-write-in-Create-2 : goal.returns-in_ok-write-in-Create-2
returns-in_ok-write-in-Create-2 c =
    let w = c.in-Create in
    on_ok_weaker c.write-in-Create-3.result (λ last.
    three_parts c.args.writer.now c.write-in-Create.new.writer c.write-in-Create-2.new.writer c.write-in-Create-3.new.writer
    (opaque w.dir.0) (opaque_var w.name) (words (sattr_words w.set))
    (c.in_ok-write-in-Create.ensures {u = tt}) (c.in_ok-write-in-Create-2.ensures {u = tt}) last
    ∙ ap (λ (call : Call). c.args.writer.now ++ arguments_spelling call) (sym w.is)) c.write-in-Create-3.ensures

pub returns-in_ok-write-in-MakeDir-2 : goal.returns-in_ok-write-in-MakeDir-2
returns-in_ok-write-in-MakeDir-2 c =
    let w = c.in-MakeDir in
    on_ok_weaker c.write-in-MakeDir-3.result (λ last.
    three_parts c.args.writer.now c.write-in-MakeDir.new.writer c.write-in-MakeDir-2.new.writer c.write-in-MakeDir-3.new.writer
    (opaque w.dir.0) (opaque_var w.name) (words (sattr_words w.set))
    (c.in_ok-write-in-MakeDir.ensures {u = tt}) (c.in_ok-write-in-MakeDir-2.ensures {u = tt}) last
    ∙ ap (λ (call : Call). c.args.writer.now ++ arguments_spelling call) (sym w.is)) c.write-in-MakeDir-3.ensures

pub returns-in_ok-write-in-SymLink-3 : goal.returns-in_ok-write-in-SymLink-3
returns-in_ok-write-in-SymLink-3 c =
    let w = c.in-SymLink in
    on_ok_weaker c.write-in-SymLink-4.result (λ last.
    four_parts c.args.writer.now c.write-in-SymLink.new.writer c.write-in-SymLink-2.new.writer c.write-in-SymLink-3.new.writer c.write-in-SymLink-4.new.writer
    (opaque w.dir.0) (opaque_var w.name) (opaque_var w.path) (words (sattr_words w.set))
    (c.in_ok-write-in-SymLink.ensures {u = tt}) (c.in_ok-write-in-SymLink-2.ensures {u = tt}) (c.in_ok-write-in-SymLink-3.ensures {u = tt}) last
    ∙ ap (λ (call : Call). c.args.writer.now ++ arguments_spelling call) (sym w.is)) c.write-in-SymLink-4.ensures
