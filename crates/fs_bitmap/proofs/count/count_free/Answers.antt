use Rattle.std.proofs.Common.{◌≡◌, ℕ, ◌+◌, ◌*◌, ◌/◌, ◌%◌, get_or, sym, ap, ◌∙◌, arith, length-take}
use Rattle.fs_bitmap.specs.Bits.{free_below, free_in_byte}
use Rattle.fs_bitmap.proofs.ByteLemmas.{zeros_are_free}
use Rattle.fs_bitmap.proofs.MapLemmas.{free_none, free_next, free_more, free_below_le}
use Rattle.fs_bitmap.proofs.count.count_free.Goals as goal

pub loop-byte-init : goal.loop-byte-init
loop-byte-init c = sym (free_none c.args.map.now)

pub overflow_add-free : goal.overflow_add-free
overflow_add-free c =
    omega (arith, c.loop-byte.invariant, free_below_le c.args.map.now (8 * c.loop-byte.byte-index), c.count_zeros-free.ensures.bound, length-take (c.args.bits / 8) c.args.map.now)

pub loop-byte-preserved : goal.loop-byte-preserved
loop-byte-preserved c =
    free_next c.args.map.now c.loop-byte.byte-index (c.args.bits / 8) c.loop-byte.free c.count_zeros-free.result (omega (arith, length-take (c.args.bits / 8) c.args.map.now)) c.loop-byte.invariant
    (c.count_zeros-free.ensures.value ∙ zeros_are_free _ (omega arith))

pub overflow_add-result : goal.overflow_add-result
overflow_add-result c =
    omega (arith, c.loop-byte.invariant, free_below_le c.args.map.now (8 * c.loop-byte.byte-index), c.free_of.ensures.small, length-take (c.args.bits / 8) c.args.map.now)

pub returns-else-rest-eq0 : goal.returns-else-rest-eq0
returns-else-rest-eq0 c =
    let map = c.args.map.now in
    let whole = c.args.bits / 8 in
    let rest = c.args.bits % 8 in
    let last : c.loop-byte.byte-index ≡ whole = omega (arith, length-take whole map) in
    let front : c.loop-byte.free ≡ free_below map (8 * whole) = c.loop-byte.invariant ∙ ap (λ (i : ℕ). free_below map (8 * i)) last in
    let all : 8 * whole + rest ≡ c.args.bits = omega arith in
    let more = free_more map whole rest (omega arith) in
    let sum : c.loop-byte.free + c.free_of.result ≡ free_below map (8 * whole) + free_in_byte (get_or map whole 0) rest = omega (arith, front, c.free_of.ensures.exact) in
    sum ∙ sym more ∙ ap (free_below map) all
