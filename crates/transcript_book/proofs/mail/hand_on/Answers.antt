use Rattle.std.proofs.Common.{refl, ◌∙◌, ap, length}
use Rattle.std.specs.Prelude.{slice_set}
use Rattle.std.proofs.lemmas.Option.{slice_get_read}
use Rattle.transcript_rules.specs.declared.post.Post.{Post}
use Rattle.transcript_rules.specs.Next.{handed_among}
use Rattle.transcript_book.proofs.PostLemmas.{set_numbered_at}
use Rattle.transcript_book.proofs.mail.hand_on.Goals as goal

pub returns : goal.returns
returns c =
    let posts = c.args.posts.now.items in
    ap (λ (p : Post). slice_set posts c.args.index p) c.handed.ensures
    ∙ set_numbered_at posts c.args.index (handed_among c.args.down.now c.args.under) c.index-post.result.now
    (slice_get_read posts (length posts) c.args.index c.index-post.result.now refl c.requires c.index-post.ensures)
