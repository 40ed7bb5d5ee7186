use Rattle.std.proofs.Common.{◌++◌, sym, ap, ◌∙◌}
use Rattle.std.proofs.lemmas.Result.{on_ok_weaker}
use Rattle.sfs_xdr.specs.Items.{word, words, opaque, opaque_var}
use Rattle.nfs_proto.specs.declared.answer.Answer.{Answer}
use Rattle.nfs_proto.specs.Types.{fattr_words}
use Rattle.nfs_proto.specs.Answers.{answer_spelling}
use Rattle.nfs_proto.proofs.WritingLemmas.{two_parts, three_parts}
use Rattle.nfs_proto.proofs.answer_writer.write_result.Goals as goal

-- the parts of a result are written one behind another
pub returns-in_ok-u32-in-Attr : goal.returns-in_ok-u32-in-Attr
returns-in_ok-u32-in-Attr c =
    let w = c.in-Attr in
    on_ok_weaker c.write.result (λ last.
    two_parts c.args.writer.now c.u32-in-Attr.new.self c.write.new.writer (word 0) (words (fattr_words w.attr)) ((c.in_ok-u32-in-Attr.ensures {u = tt}).ok) last
    ∙ ap (λ (a : Answer). c.args.writer.now ++ answer_spelling a) (sym w.is)) c.write.ensures

pub returns-in_ok-write-in-Found : goal.returns-in_ok-write-in-Found
returns-in_ok-write-in-Found c =
    let w = c.in-Found in
    on_ok_weaker c.write-in-Found-2.result (λ last.
    three_parts c.args.writer.now c.u32-in-Found.new.self c.write-in-Found.new.writer c.write-in-Found-2.new.writer (word 0) (opaque w.file.0) (words (fattr_words w.attr))
    ((c.in_ok-u32-in-Found.ensures {u = tt}).ok) (c.in_ok-write-in-Found.ensures {u = tt}) last
    ∙ ap (λ (a : Answer). c.args.writer.now ++ answer_spelling a) (sym w.is)) c.write-in-Found-2.ensures

pub returns-in_ok-write-in-Part : goal.returns-in_ok-write-in-Part
returns-in_ok-write-in-Part c =
    let w = c.in-Part in
    on_ok_weaker c.write-in-Part-2.result (λ last.
    three_parts c.args.writer.now c.u32-in-Part.new.self c.write-in-Part.new.writer c.write-in-Part-2.new.writer (word 0) (words (fattr_words w.attr)) (opaque_var w.bytes)
    ((c.in_ok-u32-in-Part.ensures {u = tt}).ok) (c.in_ok-write-in-Part.ensures {u = tt}) last
    ∙ ap (λ (a : Answer). c.args.writer.now ++ answer_spelling a) (sym w.is)) c.write-in-Part-2.ensures
