use Rattle.std.proofs.Common.{◌*◌, ◌≤◌, List, ℕ, length, take, ◌++◌, sym, ap, subst, ◌∙◌}
use Rattle.fs_bitmap.specs.Bits.{free_below}
use Rattle.plan_room.specs.Picked.{free_blocks, on_memory}
use Rattle.plan_room.proofs.RoomLemmas.{count_there, free_there, is_there, wide}
use Rattle.plan_room.proofs.room.look_map.Goals as goal

pub push_lowest-requires : goal.push_lowest-requires
push_lowest-requires c =
    let held = c.args.held.now in
    let m = c.args.memory in
    let there = is_there held m c.args.looks.now c.look_block_bits.new.looks ((c.in_ok-bits.ensures {u = tt}).goes) in
    subst (λ (bits : List ℕ). held.geometry.blocks ≤ 8 * length bits) (sym ((c.in_ok-bits.ensures {u = tt}).gives)) (wide held m c.requires.work there)

pub count_free-requires : goal.count_free-requires
count_free-requires c =
    let held = c.args.held.now in
    let m = c.args.memory in
    let there = is_there held m c.args.looks.now c.look_block_bits.new.looks ((c.in_ok-bits.ensures {u = tt}).goes) in
    subst (λ (bits : List ℕ). held.geometry.blocks ≤ 8 * length bits) (sym ((c.in_ok-bits.ensures {u = tt}).gives)) (wide held m c.requires.work there)

pub returns-clause-gives : goal.returns-clause-gives
returns-clause-gives c =
    let held = c.args.held.now in
    let m = c.args.memory in
    let there = is_there held m c.args.looks.now c.look_block_bits.new.looks ((c.in_ok-bits.ensures {u = tt}).goes) in
    let blocks = held.geometry.blocks in
    let same = ap (λ (bits : List ℕ). free_blocks bits blocks) ((c.in_ok-bits.ensures {u = tt}).gives) ∙ sym (free_there held m there) in
    (c.in_ok-push_lowest.ensures {u = tt}) ∙ ap (λ (bs : List ℕ). c.args.places.now ++ on_memory m (take c.args.need bs)) same

pub returns-clause-free : goal.returns-clause-free
returns-clause-free c =
    let held = c.args.held.now in
    let m = c.args.memory in
    let there = is_there held m c.args.looks.now c.look_block_bits.new.looks ((c.in_ok-bits.ensures {u = tt}).goes) in
    c.count_free.ensures ∙ ap (λ (bits : List ℕ). free_below bits held.geometry.blocks) ((c.in_ok-bits.ensures {u = tt}).gives) ∙ sym (count_there held m there)
