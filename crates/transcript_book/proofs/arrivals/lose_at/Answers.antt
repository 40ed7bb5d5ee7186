use Rattle.std.proofs.Common.{◌≡◌, ℕ, ◌<◌, ◌≤◌, List, length, subst, arith}
use Rattle.transcript_rules.specs.declared.arrival.Arrival.{Arrival}
use Rattle.transcript_rules.specs.Next.{lost_at}
use Rattle.transcript_book.proofs.OpenLemmas.{swept, swept_all}
use Rattle.transcript_book.proofs.arrivals.lose_at.Goals as goal

below : (i n : ℕ) (xs ys : List Arrival) → i < n → n ≡ length xs → xs ≡ ys → i < length ys
below i n xs ys low is same = subst (λ (zs : List Arrival). i < length zs) same (omega (arith, low, is))

past : (i n : ℕ) (xs ys : List Arrival) → n ≤ i → n ≡ length xs → xs ≡ ys → length ys ≤ i
past i n xs ys high is same = subst (λ (zs : List Arrival). length zs ≤ i) same (omega (arith, high, is))

pub loop-index-preserved : goal.loop-index-preserved
loop-index-preserved c =
    swept (lost_at c.args.node) c.args.told.now.items c.loop-index.told.items c.lose_one_at.new.told.items c.loop-index.index (below c.loop-index.index c.count-count.result c.deref.result.now c.args.told.now.items c.loop-index-test.true c.count-count.ensures c.deref.ensures.value) c.loop-index.invariant c.lose_one_at.ensures

pub returns : goal.returns
returns c = swept_all (lost_at c.args.node) c.args.told.now.items c.loop-index.told.items c.loop-index.index (past c.loop-index.index c.count-count.result c.deref.result.now c.args.told.now.items c.loop-index-test.false c.count-count.ensures c.deref.ensures.value) c.loop-index.invariant.1
