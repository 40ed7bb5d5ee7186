use Rattle.std.proofs.Common.{◌≡◌, ◌+◌, ◌-◌, ◌*◌, ◌≤◌, true, false, [], ◌∷◌, Some, map, sym, ap, ◌∙◌, arith}
use Rattle.fs_rules.specs.Lists.{below}
use Rattle.fs_rules.specs.Numbers.{is_free, number_of}
use Rattle.fs_decisions.proofs.NumberLemmas.{one_number, none_more, found, find_one, find_none, find_zero}
use Rattle.fs_decisions.proofs.GivenLemmas.{upto_freed}
use Rattle.fs_decisions.proofs.numbers.lowest_freed.Goals as goal

pub loop-inode-init : goal.loop-inode-init
loop-inode-init c = (omega arith, find_zero (is_free c.args.tree.now) (number_of c.args.memory))

pub returns-in_default : goal.returns-in_default
returns-in_default c =
    sym (upto_freed c.args.tree.now c.args.memory c.args.given c.loop-inode.inode c.args.given c.requires.given c.loop-inode.invariant.0 (omega arith) c.loop-inode.invariant.1
    (λ q low high. (c.in_default.ensures {u = tt}).none q low))

pub returns-then-freed-first : goal.returns-then-freed-first
returns-then-freed-first c =
    sym (upto_freed c.args.tree.now c.args.memory c.args.given c.loop-inode.inode c.args.given c.requires.given c.loop-inode.invariant.0 (omega arith) c.loop-inode.invariant.1
    (λ q low high. (c.in-Some.ensures {u = tt}).least q low (omega arith)))

pub returns-then-is_free : goal.returns-then-is_free
returns-then-is_free c =
    let t = c.args.tree.now in
    let numbers = number_of c.args.memory in
    let above = (c.in-Some.ensures {u = tt}).there.0 in
    let i = c.in-Some.freed - (16384 * c.args.memory + 1) in
    let is : numbers i ≡ c.in-Some.freed = omega (arith, above) in
    let here : is_free t (numbers i) ≡ true = ap (is_free t) is ∙ sym c.is_free.ensures ∙ c.if-is_free.true in
    ap Some (sym is)
    ∙ sym (found (is_free t) (λ n. map numbers (below n)) (λ n. numbers n ∷ []) (one_number numbers) i c.args.given (numbers i) (omega (arith, above))
    (upto_freed t c.args.memory c.args.given c.loop-inode.inode i c.requires.given (omega (arith, above)) (omega (arith, above)) c.loop-inode.invariant.1
    (λ q low high. (c.in-Some.ensures {u = tt}).least q low (omega (arith, above))))
    (find_one (is_free t) (numbers i) here))

pub loop-inode-preserved : goal.loop-inode-preserved
loop-inode-preserved c =
    let t = c.args.tree.now in
    let numbers = number_of c.args.memory in
    let above = (c.in-Some.ensures {u = tt}).there.0 in
    let i = c.in-Some.freed - (16384 * c.args.memory + 1) in
    let is : numbers i ≡ c.in-Some.freed = omega (arith, above) in
    let here : is_free t (numbers i) ≡ false = ap (is_free t) is ∙ sym c.is_free.ensures ∙ c.if-is_free.false in
    let few : i + 1 ≤ c.args.given = omega (arith, above) in (
      few,
      none_more (is_free t) (λ n. map numbers (below n)) (λ n. numbers n ∷ []) (one_number numbers) i
          (upto_freed t c.args.memory c.args.given c.loop-inode.inode i c.requires.given (omega (arith, above)) (omega (arith, above)) c.loop-inode.invariant.1
          (λ q low high. (c.in-Some.ensures {u = tt}).least q low (omega (arith, above))))
          (find_none (is_free t) (numbers i) here),
    )
