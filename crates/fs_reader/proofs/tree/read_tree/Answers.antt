use Rattle.std.proofs.Common.{◌+◌, List, ℕ, refl, subst, sym, ap, ◌∙◌, arith}
use Rattle.std.specs.Prelude.{length}
use Rattle.std.proofs.lemmas.Bool.{true≢false}
use Rattle.std.proofs.lemmas.Result.{err_from_is_err_and}
use Rattle.fs_bitmap.specs.Bits.{is_used}
use Rattle.fs_reader.specs.Numbers.{IsReadBelow}
use Rattle.fs_reader.proofs.TreeLemmas.{tree_read, marks_left}
use Rattle.fs_reader.proofs.NumberLemmas.{nothing_below}
use Rattle.fs_reader.proofs.tree.read_tree.Goals as goal

pub loop-before-init : goal.loop-before-init
loop-before-init c =
    (c.in_ok-left.ensures.sized, nothing_below c.args.geometry.now c.args.parts.now c.in_ok-left.left.items _ refl c.new.ensures c.new-2.ensures)

pub returns-in_err-read_number-clause-none : goal.returns-in_err-read_number-clause-none
returns-in_err-read_number-clause-none c =
    let p = err_from_is_err_and c.from_residual-in_err-read_number.result c.from_residual-in_err-read_number.ensures.1 in
    rw (p.1, p.2) (λ is. c.in_err-read_number.ensures.none is c.in_ok-left.left.items c.in_ok-left.ensures.ok
    (subst (λ (l : List ℕ). IsReadBelow c.args.geometry.now c.args.parts.now (c.loop-before.before + 1) c.in_ok-left.left.items l c.loop-before.tree) (sym c.deref_mut.ensures.value) c.loop-before.invariant.1))

pub returns-then-is_none_left-clause-ok : goal.returns-then-is_none_left-clause-ok
returns-then-is_none_left-clause-ok c =
    tree_read c.args.geometry.now c.args.parts.now c.loop-before.tree (c.loop-before.before + 1) c.in_ok-left.left.items c.loop-before.left.items c.requires.sized c.requires.images
    c.in_ok-left.ensures.ok c.loop-before.invariant.1 (omega arith)
    (λ bit small.
    ap (λ l. is_used l bit) (sym c.deref.ensures.value) ∙ c.is_none_left.ensures.0 c.if-is_none_left.true bit (omega (arith, small, ap length c.deref.ensures.value, c.loop-before.invariant.0)))

pub returns-clause-none : goal.returns-clause-none
returns-clause-none c = λ is.
    marks_left c.args.geometry.now c.args.parts.now (c.loop-before.before + 1) c.in_ok-left.left.items c.loop-before.left.items c.loop-before.tree c.in_ok-left.ensures.ok c.loop-before.invariant.1
    (omega arith)
    (λ none.
    true≢false
    (sym (c.is_none_left.ensures.1 (λ bit small. ap (λ l. is_used l bit) c.deref.ensures.value ∙ none bit (omega (arith, small, ap length c.deref.ensures.value, c.loop-before.invariant.0))))
    ∙ c.if-is_none_left.false))
