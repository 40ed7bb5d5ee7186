use Rattle.std.proofs.Common.{sym, ◌∙◌, arith}
use Rattle.std.specs.Prelude.{nat_le}
use Rattle.node_cache.specs.declared.entry.Entry.{Entry}
use Rattle.node_parts.proofs.EntryLemmas.{some_at, none_at}
use Rattle.node_parts.proofs.moving.place_of.Goals as goal

pub returns-in-Some-clause-exact : goal.returns-in-Some-clause-exact
returns-in-Some-clause-exact c =
    (some_at (λ (e : Entry). nat_le c.args.number e.number) c.args.entries.now c.in-Some.at (sym c.first_from.ensures ∙ c.in-Some.is)).0

pub returns-in-Some-clause-inside : goal.returns-in-Some-clause-inside
returns-in-Some-clause-inside c =
    let there = (some_at (λ (e : Entry). nat_le c.args.number e.number) c.args.entries.now c.in-Some.at (sym c.first_from.ensures ∙ c.in-Some.is)).1 in
    omega (arith, there)

pub returns-in-None-clause-exact : goal.returns-in-None-clause-exact
returns-in-None-clause-exact c =
    none_at (λ (e : Entry). nat_le c.args.number e.number) c.args.entries.now (sym c.first_from.ensures ∙ c.in-None.is)
