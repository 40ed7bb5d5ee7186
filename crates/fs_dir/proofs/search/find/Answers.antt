use Rattle.std.proofs.Common.{◌^◌, ◌<◌, ◌≤◌, sym, position, arith}
use Rattle.fs_dir.specs.Slots.{has_name}
use Rattle.fs_dir.proofs.SearchLemmas.{none_before, none_at_all, narrow_found, narrow_none}
use Rattle.fs_dir.proofs.search.find.Goals as goal

pub returns-in_err-first_with_name-clause-none : goal.returns-in_err-first_with_name-clause-none
returns-in_err-first_with_name-clause-none c = rw c.from_residual.ensures (λ k s below here. none_at_all (has_name c.args.name.now) c.args.slots.now k s (sym c.in_err-first_with_name.ensures) here)

pub returns-clause-found : goal.returns-clause-found
returns-clause-found c =
    narrow_found c.narrowed.result (position (has_name c.args.name.now) c.args.slots.now) c.in_ok-first_with_name.field-0 (sym c.in_ok-first_with_name.ensures) c.narrowed.ensures.found

pub returns-clause-none : goal.returns-clause-none
returns-clause-none c =
    let index = c.in_ok-first_with_name.field-0 in
    narrow_none c.narrowed.result (2 ^ 32 ≤ index) _
    (λ late k s below here. let before : k < index = omega arith in none_before (has_name c.args.name.now) c.args.slots.now index k s (sym c.in_ok-first_with_name.ensures) before here)
    c.narrowed.ensures.none
