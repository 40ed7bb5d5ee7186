use Rattle.std.proofs.Common.{length, refl}
use Rattle.std.proofs.lemmas.Option.{slice_get_read}
use Rattle.transcript_book.proofs.PostLemmas.{set_numbered_at}
use Rattle.transcript_trees.specs.Kept.{with_tree}
use Rattle.transcript_trees.proofs.cuts.keep_at.Goals as goal

pub returns : goal.returns
returns c =
    let trees = c.args.trees.now.items in
    set_numbered_at trees c.args.index (with_tree c.args.tree) c.index_mut.result.now (slice_get_read trees (length trees) c.args.index c.index_mut.result.now refl c.requires c.index_mut.ensures.value)
