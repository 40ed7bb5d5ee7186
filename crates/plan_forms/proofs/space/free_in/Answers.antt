use Rattle.std.proofs.Common.{◌≡◌, ◌+◌, ◌≤◌, get_or, List, ℕ, take, arith, sym, ap, ◌∙◌}
use Rattle.std.proofs.lemmas.List.Sums.{sum_by_more}
use Rattle.fs_bitmap.specs.Bits.{free_below}
use Rattle.fs_bitmap.proofs.MapLemmas.{free_below_le}
use Rattle.plan_forms.specs.Forms.{free_in}
use Rattle.plan_forms.proofs.space.free_in.Goals as goal

-- one map tells no more free blocks than a memory node has
few_more : (c : goal.After-count_free-free) → c.count_free-free.result ≤ 16384
few_more c =
    let few = free_below_le c.as_slice.result.now c.args.blocks in
    omega (arith, few, c.count_free-free.ensures, c.requires.small)

pub overflow_add-free : goal.overflow_add-free
overflow_add-free c = let few = few_more c in omega (arith, few)

pub loop-map-preserved : goal.loop-map-preserved
loop-map-preserved c =
    let few = few_more c in
    let bits : List ℕ → ℕ = λ map. free_below map c.args.blocks in
    let more = sum_by_more bits c.args.maps.now c.loop-map.map-index c.map-item.result c.loop-map-test.true in
    let here : c.count_free-free.result ≡ bits (get_or c.args.maps.now c.loop-map.map-index c.map-item.result) =
    c.count_free-free.ensures ∙ ap bits (c.as_slice.ensures.value ∙ c.map-item.is) in
    record {
      counted = ap (λ n. n + c.count_free-free.result) c.loop-map.invariant.counted ∙ ap (λ n. free_in c.args.blocks (take c.loop-map.map-index c.args.maps.now) + n) here ∙ sym more;
      few = omega (arith, few);
    }
