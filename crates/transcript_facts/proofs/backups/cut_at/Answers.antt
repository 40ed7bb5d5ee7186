use Rattle.std.proofs.Common.{length, refl}
use Rattle.std.proofs.lemmas.Option.{slice_get_read}
use Rattle.transcript_book.proofs.PostLemmas.{set_numbered_at}
use Rattle.transcript_facts.specs.Facts.{with_cut}
use Rattle.transcript_facts.proofs.backups.cut_at.Goals as goal

pub returns : goal.returns
returns c =
    let told = c.args.told.now.items in
    set_numbered_at told c.args.index (with_cut c.args.at) c.index_mut.result.now (slice_get_read told (length told) c.args.index c.index_mut.result.now refl c.requires c.index_mut.ensures.value)
