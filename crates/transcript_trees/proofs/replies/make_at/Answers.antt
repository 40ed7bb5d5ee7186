use Rattle.std.proofs.Common.{length, refl}
use Rattle.std.proofs.lemmas.Option.{slice_get_read}
use Rattle.transcript_book.proofs.PostLemmas.{set_numbered_at}
use Rattle.transcript_trees.specs.Kept.{with_reply}
use Rattle.transcript_trees.proofs.replies.make_at.Goals as goal

pub returns : goal.returns
returns c =
    let made = c.args.made.now.items in
    set_numbered_at made c.args.index (with_reply c.args.reply) c.index_mut.result.now (slice_get_read made (length made) c.args.index c.index_mut.result.now refl c.requires c.index_mut.ensures.value)
