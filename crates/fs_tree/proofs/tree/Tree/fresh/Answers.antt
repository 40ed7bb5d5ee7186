use Rattle.std.proofs.Common.{◌≡◌, refl, sym, ap, subst, ◌∙◌, rules}
use Rattle.std.specs.Ordering.{nat_cmp}
use Rattle.std.specs.FinMap.{FinMap, get}
use Rattle.sfs_base.proofs.MapLemmas.{get_inserted}
use Rattle.fs_rules.specs.declared.file.File.{File}
use Rattle.fs_decisions.proofs.GivenLemmas.{given_live}
use Rattle.fs_rules.specs.declared.plain_tree.PlainTree.{PlainTree}
use Rattle.fs_rules.specs.Good.{IsGood}
use Rattle.fs_rules.specs.Fresh.{fresh}
use Rattle.fs_laws.proofs.FreshLemmas.{fresh_good}
use Rattle.fs_tree.proofs.tree.Tree.fresh.Goals as goal

pub invariant_of-result : goal.invariant_of-result
invariant_of-result c =
    let made : PlainTree = record { geometry = c.args.geometry; files = c.insert.new.self; freed = c.new.result } in
    let is : made ≡ fresh c.args.geometry = search rules in
    (subst IsGood (sym is) (fresh_good c.args.geometry c.requires), c.count.ensures made (c.none-given.ensures made) (given_live made 1 c.fresh_root.result (ap (λ (m : FinMap nat_cmp File). get m 1) ((c.in_ok-insert.ensures {u = tt}).ok) ∙ get_inserted c.new-files.result 1 c.fresh_root.result 1 refl)))

pub returns-clause-good : goal.returns-clause-good
returns-clause-good c =
    let made : PlainTree = record { geometry = c.args.geometry; files = c.insert.new.self; freed = c.new.result } in
    let is : made ≡ fresh c.args.geometry = search rules in
    subst IsGood (sym is) (fresh_good c.args.geometry c.requires)
