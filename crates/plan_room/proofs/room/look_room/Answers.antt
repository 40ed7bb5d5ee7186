use Rattle.std.proofs.Common.{[], ◌∷◌, ◌++◌, List, Result, Ok, Err, arith}
use Rattle.std.proofs.lemmas.Result.{err_from_is_err_and}
use Rattle.fs_layout.specs.declared.reference.Reference.{Reference}
use Rattle.plan_rules.specs.Room.{Need, needs_steps, room_maps}
use Rattle.plan_rules.specs.Steps.{Step, Checks}
use Rattle.plan_rules.specs.Told.{free_on}
use Rattle.plan_looks.specs.declared.stop.Stop.{Stop}
use Rattle.plan_looks.specs.declared.stop.Stop.TheVariants.{Refused}
use Rattle.plan_looks.proofs.GoesLemmas.{checks_fail, checks_on, goes_behind, same_steps, stops_at}
use Rattle.plan_room.proofs.RoomLemmas.{counted, has_room, needs_is, no_room, room_check}
use Rattle.plan_room.proofs.room.look_room.Goals as goal

pub returns-in_err-look_maps-clause-goes : goal.returns-in_err-look_maps-clause-goes
returns-in_err-look_maps-clause-goes c =
    let held = c.args.held.now in
    let needs : List Need = record { home = c.args.home; count = c.args.need } ∷ [] in
    let front = room_maps held (free_on held) c.args.home held.geometry.memories c.args.need in
    let check : List Step = Checks (room_check held c.args.need) ∷ [] in
    let p = err_from_is_err_and c.from_residual.result c.from_residual.ensures.1 in
    same_steps held (needs_steps held needs) (front ++ check) c.args.looks.now c.look_maps.new.looks c.from_residual.result (needs_is held c.args.home c.args.need)
    (stops_at held front check c.args.looks.now c.look_maps.new.looks c.in_err-look_maps.field-0.0 p.0 c.from_residual.result p.1 p.2 ((c.in_err-look_maps.ensures {u = tt}).goes))

pub returns-then-len-need-clause-goes : goal.returns-then-len-need-clause-goes
returns-then-len-need-clause-goes c =
    let held = c.args.held.now in
    let needs : List Need = record { home = c.args.home; count = c.args.need } ∷ [] in
    let front = room_maps held (free_on held) c.args.home held.geometry.memories c.args.need in
    let check : List Step = Checks (room_check held c.args.need) ∷ [] in
    let mid = c.look_maps.new.looks in
    let sized = counted held c.args.home c.args.need c.new-places.result c.look_maps.new.places c.len.result c.requires.home c.new-places.ensures ((c.in_ok-look_maps.ensures {u = tt}).gives) c.len.ensures in
    let less = c.if-len-need.true in
    let fails = no_room held c.args.need (omega (arith, sized, less)) in
    let refused : Result (List Reference) Stop = Err (Refused (record { 0 = 28 })) in
    same_steps held (needs_steps held needs) (front ++ check) c.args.looks.now mid refused (needs_is held c.args.home c.args.need)
    (goes_behind held front check c.args.looks.now mid mid refused ((c.in_ok-look_maps.ensures {u = tt}).goes) (checks_fail held (room_check held c.args.need ∷ []) mid 28 fails))

pub returns-clause-goes : goal.returns-clause-goes
returns-clause-goes c =
    let held = c.args.held.now in
    let needs : List Need = record { home = c.args.home; count = c.args.need } ∷ [] in
    let front = room_maps held (free_on held) c.args.home held.geometry.memories c.args.need in
    let check : List Step = Checks (room_check held c.args.need) ∷ [] in
    let mid = c.look_maps.new.looks in
    let sized = counted held c.args.home c.args.need c.new-places.result c.look_maps.new.places c.len.result c.requires.home c.new-places.ensures ((c.in_ok-look_maps.ensures {u = tt}).gives) c.len.ensures in
    let enough = c.if-len-need.false in
    let passes = has_room held c.args.need (omega (arith, sized, enough)) in
    let done : Result (List Reference) Stop = Ok [] in
    same_steps held (needs_steps held needs) (front ++ check) c.args.looks.now mid done (needs_is held c.args.home c.args.need)
    (goes_behind held front check c.args.looks.now mid mid done ((c.in_ok-look_maps.ensures {u = tt}).goes) (checks_on held (room_check held c.args.need ∷ []) mid passes))

pub returns-clause-all : goal.returns-clause-all
returns-clause-all c =
    let held = c.args.held.now in
    let sized = counted held c.args.home c.args.need c.new-places.result c.look_maps.new.places c.len.result c.requires.home c.new-places.ensures ((c.in_ok-look_maps.ensures {u = tt}).gives) c.len.ensures in
    let enough = c.if-len-need.false in
    let length_is = c.len.ensures in
    omega (arith, sized, enough, length_is)
