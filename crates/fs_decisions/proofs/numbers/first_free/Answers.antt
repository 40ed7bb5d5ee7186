use Rattle.std.proofs.Common.{ℕ, ◌+◌, ◌%◌, ◌∙◌, sym, List}
use Rattle.std.specs.Prelude.{flat_map}
use Rattle.fs_rules.specs.Lists.{below}
use Rattle.fs_rules.specs.Numbers.{is_free, numbers_of}
use Rattle.fs_decisions.proofs.NumberLemmas.{one_node, none_more, found, find_no_node}
use Rattle.fs_decisions.proofs.numbers.first_free.Goals as goal

pub loop-k-init : goal.loop-k-init
loop-k-init c = find_no_node (is_free c.args.tree.now) (λ k. numbers_of c.args.tree.now.geometry ((c.args.start + k) % c.args.tree.now.geometry.memories))

pub returns-in-Some : goal.returns-in-Some
returns-in-Some c =
    let t = c.args.tree.now in
    let part : ℕ → List ℕ = λ k. numbers_of t.geometry ((c.args.start + k) % t.geometry.memories) in
    sym (found (is_free t) (λ n. flat_map part (below n)) part (one_node part) c.loop-k.k t.geometry.memories c.in-Some.number
    c.loop-k-test.true c.loop-k.invariant (sym c.in-Some.ensures))

pub loop-k-preserved : goal.loop-k-preserved
loop-k-preserved c =
    let t = c.args.tree.now in
    let part : ℕ → List ℕ = λ k. numbers_of t.geometry ((c.args.start + k) % t.geometry.memories) in
    none_more (is_free t) (λ n. flat_map part (below n)) part (one_node part) c.loop-k.k
    c.loop-k.invariant (sym c.lowest_free.ensures ∙ c.in_default.is)
