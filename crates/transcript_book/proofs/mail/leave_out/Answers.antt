use Rattle.std.proofs.Common.{refl, ◌∙◌, ap, length}
use Rattle.std.specs.Prelude.{slice_set}
use Rattle.std.proofs.lemmas.Option.{slice_get_read}
use Rattle.transcript_rules.specs.declared.post.Post.{Post}
use Rattle.transcript_rules.specs.Next.{left_out}
use Rattle.transcript_book.proofs.PostLemmas.{set_numbered_at}
use Rattle.transcript_book.proofs.mail.leave_out.Goals as goal

pub returns : goal.returns
returns c =
    let posts = c.args.posts.now.items in
    ap (λ (p : Post). slice_set posts c.args.index p) c.heard_in.ensures
    ∙ set_numbered_at posts c.args.index (left_out) c.index-post.result.now
    (slice_get_read posts (length posts) c.args.index c.index-post.result.now refl c.requires c.index-post.ensures)
