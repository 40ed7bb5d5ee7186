use Rattle.std.proofs.Common.{length, refl, ap, ◌∙◌}
use Rattle.std.specs.Prelude.{slice_set}
use Rattle.std.proofs.lemmas.Option.{slice_get_read}
use Rattle.transcript_rules.specs.declared.backup.Backup.{Backup}
use Rattle.transcript_book.proofs.PostLemmas.{set_numbered_at}
use Rattle.transcript_facts.specs.Facts.{with_done}
use Rattle.transcript_facts.proofs.backups.end_at.Goals as goal

pub returns : goal.returns
returns c =
    let told = c.args.told.now.items in
    ap (λ (b : Backup). slice_set told c.args.index b) c.finish.ensures
    ∙ set_numbered_at told c.args.index with_done c.index_mut.result.now (slice_get_read told (length told) c.args.index c.index_mut.result.now refl c.requires c.index_mut.ensures.value)
