use Rattle.std.proofs.Common.{◌++◌, sym, ap, ◌∙◌}
use Rattle.std.proofs.lemmas.Result.{on_ok_weaker}
use Rattle.sfs_xdr.specs.Items.{word, opaque_var}
use Rattle.mini_tx.specs.declared.vote.Vote.{Vote}
use Rattle.mini_tx.specs.EntryGrammar.{vote_spelling}
use Rattle.mini_tx.proofs.WritingLemmas.{two_parts}
use Rattle.mini_tx.proofs.vote.VoteCodec.write.Goals as goal

pub returns-in_ok-u32-in-Mismatch : goal.returns-in_ok-u32-in-Mismatch
returns-in_ok-u32-in-Mismatch c =
    let w = c.in-Mismatch in
    on_ok_weaker c.write_mismatch.result (λ last.
    two_parts c.args.writer.now c.u32-in-Mismatch.new.self c.write_mismatch.new.writer (word 1) (word w.item ++ opaque_var w.kept)
    ((c.in_ok-u32-in-Mismatch.ensures {u = tt}).ok) last
    ∙ ap (λ (v : Vote). c.args.writer.now ++ vote_spelling v) (sym w.is)) c.write_mismatch.ensures
