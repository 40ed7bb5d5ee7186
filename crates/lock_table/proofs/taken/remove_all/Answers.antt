use Rattle.std.proofs.Common.{ℕ, List, ◌++◌, drop, ap, ◌∙◌, arith}
use Rattle.std.specs.List.{remove}
use Rattle.lock_table.specs.declared.lock.Lock.{Lock}
use Rattle.lock_table.proofs.PartLemmas.{one_removed, all_removed}
use Rattle.lock_table.proofs.taken.remove_all.Goals as goal

pub remove-requires : goal.remove-requires
remove-requires c = omega (arith, c.loop.invariant.fewer, c.requires, c.loop-test.true)

pub loop-preserved : goal.loop-preserved
loop-preserved c = record {
  left = λ front middle rest is begins many.
      c.remove.ensures.items
      ∙ ap (λ (xs : List Lock). remove xs c.args.from) (c.loop.invariant.left front middle rest is begins many)
      ∙ ap (λ (n : ℕ). remove (front ++ (drop c.loop.counter middle ++ rest)) n) begins
      ∙ one_removed front middle rest c.loop.counter (omega (arith, many, c.loop-test.true));
  fewer = omega (arith, c.remove.ensures.len, c.loop.invariant.fewer);
  capacity = c.remove.ensures.capacity ∙ c.loop.invariant.capacity;
}

pub returns-clause-left : goal.returns-clause-left
returns-clause-left c =
    λ front middle rest is begins many.
    c.loop.invariant.left front middle rest is begins many ∙ all_removed front middle rest c.loop.counter (omega (arith, many, c.loop-test.false))

pub returns-clause-fewer : goal.returns-clause-fewer
returns-clause-fewer c = omega (arith, c.loop.invariant.fewer)
