use Rattle.std.proofs.Common.{length, arith}
use Rattle.fs_bitmap.proofs.MapLemmas.{lowest_at, full_used}
use Rattle.fs_bitmap.proofs.lowest.lowest_of_all.Goals as goal

pub returns-then-index-map-clause-found : goal.returns-then-index-map-clause-found
returns-then-index-map-clause-found c =
    lowest_at c.args.map.now (length c.args.map.now) c.full_bytes-index.result c.first_free.result c.if-index-map.true c.first_free.ensures.within c.full_bytes-index.ensures.full
    c.first_free.ensures.free c.first_free.ensures.before

pub returns-else-index-map-clause-none : goal.returns-else-index-map-clause-none
returns-else-index-map-clause-none c = λ k h. full_used c.args.map.now c.full_bytes-index.result c.full_bytes-index.ensures.full k (omega arith)
