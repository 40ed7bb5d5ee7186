use Rattle.std.proofs.Common.{◌^◌, ◌<◌, ◌≤◌, not, sym, position, arith}
use Rattle.std.proofs.lemmas.Bool.{not-false}
use Rattle.fs_dir.specs.Slots.{in_use}
use Rattle.fs_dir.proofs.SearchLemmas.{none_before, none_at_all, narrow_found, narrow_none}
use Rattle.fs_dir.proofs.search.lowest_empty.Goals as goal

pub returns-in_err-first_empty-clause-none : goal.returns-in_err-first_empty-clause-none
returns-in_err-first_empty-clause-none c = rw c.from_residual.ensures (λ k s below here. not-false _ (none_at_all (λ s. not (in_use s)) c.args.slots.now k s (sym c.in_err-first_empty.ensures) here))

pub returns-clause-found : goal.returns-clause-found
returns-clause-found c =
    narrow_found c.narrowed.result (position (λ s. not (in_use s)) c.args.slots.now) c.in_ok-first_empty.field-0 (sym c.in_ok-first_empty.ensures) c.narrowed.ensures.found

pub returns-clause-none : goal.returns-clause-none
returns-clause-none c =
    let index = c.in_ok-first_empty.field-0 in
    narrow_none c.narrowed.result (2 ^ 32 ≤ index) _
    (λ late k s below here. let before : k < index = omega arith in not-false _ (none_before (λ s. not (in_use s)) c.args.slots.now index k s (sym c.in_ok-first_empty.ensures) before here))
    c.narrowed.ensures.none
