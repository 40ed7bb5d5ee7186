use Rattle.std.proofs.Common.{length, ◌≡◌, ◌<◌, ◌≤◌, sym, ap, ◌∙◌, arith}
use Rattle.std.specs.Prelude.{slice_set}
use Rattle.tx_coord.specs.Votes.{Granted}
use Rattle.tx_coord.specs.Rules.{first_read, without_first}
use Rattle.tx_coord.proofs.ReadLemmas.{taken, none_taken}
use Rattle.tx_coord.proofs.gathered.take_read.Goals as goal

pub returns-then-grant-memory-clause-gives : goal.returns-then-grant-memory-clause-gives
returns-then-grant-memory-clause-gives c =
    let test = c.loop-index-test.true in
    let same = c.loop-index.auto.grants in
    let below : c.loop-index.index < length c.loop-index.grants = omega (arith, test, same) in
    let is : c.index-grants-index.result.memory ≡ c.args.memory = ap (λ (g : Granted). g.memory) (c.index-grants-index.is ∙ sym c.grant.view_is) ∙ c.if-grant-memory.true in
    let it = taken c.args.memory c.loop-index.index c.args.grants.now c.loop-index.grants c.index-grants-index.result c.loop-index.invariant below c.index-grants-index.is is in
    c.take_first.ensures.gives ∙ ap first_read (sym c.index-grants-index.is) ∙ it.0

pub returns-then-grant-memory-clause-leaves : goal.returns-then-grant-memory-clause-leaves
returns-then-grant-memory-clause-leaves c =
    let test = c.loop-index-test.true in
    let same = c.loop-index.auto.grants in
    let below : c.loop-index.index < length c.loop-index.grants = omega (arith, test, same) in
    let is : c.index-grants-index.result.memory ≡ c.args.memory = ap (λ (g : Granted). g.memory) (c.index-grants-index.is ∙ sym c.grant.view_is) ∙ c.if-grant-memory.true in
    let it = taken c.args.memory c.loop-index.index c.args.grants.now c.loop-index.grants c.index-grants-index.result c.loop-index.invariant below c.index-grants-index.is is in
    ap (λ g. slice_set c.loop-index.grants c.loop-index.index g) (c.take_first.ensures.leaves ∙ ap without_first (sym c.index-grants-index.is)) ∙ it.1

pub returns-clause-gives : goal.returns-clause-gives
returns-clause-gives c =
    let test = c.loop-index-test.false in
    let same = c.loop-index.auto.grants in
    let over : length c.loop-index.grants ≤ c.loop-index.index = omega (arith, test, same) in
    c.new.ensures ∙ (none_taken c.args.memory c.loop-index.index c.args.grants.now c.loop-index.grants c.loop-index.invariant over).0

pub returns-clause-leaves : goal.returns-clause-leaves
returns-clause-leaves c =
    let test = c.loop-index-test.false in
    let same = c.loop-index.auto.grants in
    let over : length c.loop-index.grants ≤ c.loop-index.index = omega (arith, test, same) in
    (none_taken c.args.memory c.loop-index.index c.args.grants.now c.loop-index.grants c.loop-index.invariant over).1
