use Rattle.std.proofs.Common.{◌≡◌, ◌∙◌, sym, true, false, [], ◌∷◌, map}
use Rattle.fs_rules.specs.Lists.{below}
use Rattle.fs_rules.specs.Numbers.{is_free, number_of}
use Rattle.fs_decisions.proofs.NumberLemmas.{one_number, none_more, found, find_one, find_none}
use Rattle.fs_decisions.proofs.numbers.lowest_unused.Goals as goal

pub loop-inode-init : goal.loop-inode-init
loop-inode-init c = c.requires.none

pub returns-then-is_free : goal.returns-then-is_free
returns-then-is_free c =
    let t = c.args.tree.now in
    let numbers = number_of c.args.memory in
    let here : is_free t (numbers c.loop-inode.inode) ≡ true = sym c.is_free.ensures ∙ c.if-is_free.true in
    sym (found (is_free t) (λ n. map numbers (below n)) (λ n. numbers n ∷ []) (one_number numbers) c.loop-inode.inode t.geometry.inodes (numbers c.loop-inode.inode)
    c.loop-inode-test.true c.loop-inode.invariant (find_one (is_free t) (numbers c.loop-inode.inode) here))

pub loop-inode-preserved : goal.loop-inode-preserved
loop-inode-preserved c =
    let t = c.args.tree.now in
    let numbers = number_of c.args.memory in
    let here : is_free t (numbers c.loop-inode.inode) ≡ false = sym c.is_free.ensures ∙ c.if-is_free.false in
    none_more (is_free t) (λ n. map numbers (below n)) (λ n. numbers n ∷ []) (one_number numbers) c.loop-inode.inode
    c.loop-inode.invariant (find_none (is_free t) (numbers c.loop-inode.inode) here)
