use Rattle.std.proofs.Common.{length, refl, ap, ◌∙◌}
use Rattle.std.specs.Prelude.{slice_set}
use Rattle.std.proofs.lemmas.Option.{slice_get_read}
use Rattle.transcript_rules.specs.declared.arrival.Arrival.{Arrival}
use Rattle.transcript_rules.specs.Next.{lost_at}
use Rattle.transcript_book.proofs.PostLemmas.{set_numbered_at}
use Rattle.transcript_book.proofs.arrivals.lose_one_at.Goals as goal

pub returns : goal.returns
returns c =
    let told = c.args.told.now.items in
    ap (λ (a : Arrival). slice_set told c.args.index a) c.lose.ensures
    ∙ set_numbered_at told c.args.index (lost_at c.args.node) c.index_mut.result.now (slice_get_read told (length told) c.args.index c.index_mut.result.now refl c.requires c.index_mut.ensures.value)
