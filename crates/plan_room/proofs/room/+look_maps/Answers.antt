use Rattle.std.proofs.Common.{◌≡◌, ◌+◌, ◌-◌, [], ◌∷◌, ◌++◌, List, take, sym, ap, subst, ◌∙◌, append_assoc}
use Rattle.std.proofs.lemmas.List.{append-nil}
use Rattle.std.proofs.lemmas.Result.{err_from_is_err_and, on_ok_weaker}
use Rattle.fs_layout.specs.declared.reference.Reference.{Reference}
use Rattle.plan_rules.specs.declared.look.Look.TheVariants.{BlockBits}
use Rattle.plan_rules.specs.Room.{room_maps, turned}
use Rattle.plan_rules.specs.Steps.{Step, Looks}
use Rattle.plan_rules.specs.Told.{free_on}
use Rattle.plan_looks.specs.Goes.{Goes}
use Rattle.plan_looks.proofs.GoesLemmas.{go_nowhere, goes_behind, goes_same, same_steps, stops_at}
use Rattle.plan_room.specs.Picked.{free_of, on_memory, picked_from}
use Rattle.plan_room.proofs.PickLemmas.{none_needed}
use Rattle.plan_room.proofs.RoomLemmas.{maps_front, no_maps, no_memory, no_need, picked_front}
use Rattle.plan_room.proofs.room.+look_maps.Goals as goal

pub returns-then-left-eq0-clause-goes : goal.returns-then-left-eq0-clause-goes
returns-then-left-eq0-clause-goes t c =
    let held = c.args.held.now in
    goes_same held (room_maps held (free_on held) c.args.at c.args.left c.args.need) [] c.args.looks.now c.args.looks.now
    (ap (λ l. room_maps held (free_on held) c.args.at l c.args.need) c.if-left-eq0.true ∙ no_maps held c.args.at c.args.need) (go_nowhere held c.args.looks.now)

pub returns-then-left-eq0-clause-gives : goal.returns-then-left-eq0-clause-gives
returns-then-left-eq0-clause-gives t c =
    let held = c.args.held.now in
    sym (append-nil c.args.places.now)
    ∙ ap (λ (rs : List Reference). c.args.places.now ++ rs) (sym (ap (λ l. picked_from held c.args.at l c.args.need) c.if-left-eq0.true ∙ no_memory held c.args.at c.args.need))

pub returns-then-need-eq0-clause-goes : goal.returns-then-need-eq0-clause-goes
returns-then-need-eq0-clause-goes t c =
    let held = c.args.held.now in
    goes_same held (room_maps held (free_on held) c.args.at c.args.left c.args.need) [] c.args.looks.now c.args.looks.now
    (ap (λ k. room_maps held (free_on held) c.args.at c.args.left k) c.if-need-eq0.true ∙ no_need held c.args.at c.args.left) (go_nowhere held c.args.looks.now)

pub returns-then-need-eq0-clause-gives : goal.returns-then-need-eq0-clause-gives
returns-then-need-eq0-clause-gives t c =
    let held = c.args.held.now in
    sym (append-nil c.args.places.now)
    ∙ ap (λ (rs : List Reference). c.args.places.now ++ rs) (sym (ap (λ k. picked_from held c.args.at c.args.left k) c.if-need-eq0.true ∙ none_needed held c.args.at c.args.left))

pub returns-in_err-free-clause-goes : goal.returns-in_err-free-clause-goes
returns-in_err-free-clause-goes t c =
    let held = c.args.held.now in
    let m = turned held c.args.at in
    let p = err_from_is_err_and c.from_residual.result c.from_residual.ensures.1 in
    let one : List Step = Looks (BlockBits m) ∷ [] in
    let rest : List Step = room_maps held (free_on held) (c.args.at + 1) (c.args.left - 1) (c.args.need - free_on held m) in
    same_steps held (room_maps held (free_on held) c.args.at c.args.left c.args.need) (one ++ rest) c.args.looks.now c.look_map.new.looks c.from_residual.result
    (maps_front held c.args.at c.args.left c.args.need c.if-left-eq0.false c.if-need-eq0.false)
    (stops_at held one rest c.args.looks.now c.look_map.new.looks c.in_err-free.field-0.0 p.0 c.from_residual.result p.1 p.2 ((c.in_err-free.ensures {u = tt}).goes))

pub returns-clause-goes : goal.returns-clause-goes
returns-clause-goes t c =
    let held = c.args.held.now in
    let m = turned held c.args.at in
    let one : List Step = Looks (BlockBits m) ∷ [] in
    let left_over = c.args.need - free_on held m in
    let rest : List Step = room_maps held (free_on held) (c.args.at + 1) (c.args.left - 1) left_over in
    let less : c.saturating_sub.result ≡ left_over = c.saturating_sub.ensures ∙ ap (λ f. c.args.need - f) ((c.in_ok-free.ensures {u = tt}).free) in
    let behind : Goes held rest c.look_map.new.looks c.look_maps.new.looks c.look_maps.result =
    subst (λ k. Goes held (room_maps held (free_on held) (c.args.at + 1) (c.args.left - 1) k) c.look_map.new.looks c.look_maps.new.looks c.look_maps.result) less c.look_maps.ensures.goes in
    same_steps held (room_maps held (free_on held) c.args.at c.args.left c.args.need) (one ++ rest) c.args.looks.now c.look_maps.new.looks c.look_maps.result
    (maps_front held c.args.at c.args.left c.args.need c.if-left-eq0.false c.if-need-eq0.false)
    (goes_behind held one rest c.args.looks.now c.look_map.new.looks c.look_maps.new.looks c.look_maps.result ((c.in_ok-free.ensures {u = tt}).goes) behind)

pub returns-clause-gives : goal.returns-clause-gives
returns-clause-gives t c =
    let held = c.args.held.now in
    let m = turned held c.args.at in
    let left_over = c.args.need - free_on held m in
    let less : c.saturating_sub.result ≡ left_over = c.saturating_sub.ensures ∙ ap (λ f. c.args.need - f) ((c.in_ok-free.ensures {u = tt}).free) in
    let here = on_memory m (take c.args.need (free_of held m)) in
    on_ok_weaker c.look_maps.result
    (λ rest. rest ∙ ap (λ (rs : List Reference). rs ++ picked_from held (c.args.at + 1) (c.args.left - 1) c.saturating_sub.result) ((c.in_ok-free.ensures {u = tt}).gives)
    ∙ ap (λ k. (c.args.places.now ++ here) ++ picked_from held (c.args.at + 1) (c.args.left - 1) k) less
    ∙ append_assoc c.args.places.now here (picked_from held (c.args.at + 1) (c.args.left - 1) left_over)
    ∙ ap (λ (rs : List Reference). c.args.places.now ++ rs) (sym (picked_front held c.args.at c.args.left c.args.need c.if-left-eq0.false)))
    c.look_maps.ensures.gives
