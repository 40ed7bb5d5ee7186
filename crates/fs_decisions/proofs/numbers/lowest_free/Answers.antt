use Rattle.std.proofs.Common.{[], ◌∷◌, map, sym, ◌∙◌, arith}
use Rattle.fs_rules.specs.Lists.{below}
use Rattle.fs_rules.specs.Numbers.{is_free, number_of}
use Rattle.fs_decisions.proofs.NumberLemmas.{one_number, longer}
use Rattle.fs_decisions.proofs.numbers.lowest_free.Goals as goal

pub returns-in-Some : goal.returns-in-Some
returns-in-Some c =
    let t = c.args.tree.now in
    let numbers = number_of c.args.memory in
    let least = c.min-given.ensures in
    sym (longer (is_free t) (λ n. map numbers (below n)) (λ n. numbers n ∷ []) (one_number numbers) c.min-given.result t.geometry.inodes c.in-Some.number
    (omega (arith, least)) (sym c.lowest_freed.ensures ∙ c.in-Some.is))
