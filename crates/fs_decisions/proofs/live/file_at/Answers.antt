use Rattle.std.proofs.Common.{◌≡◌, ℕ, Bor, Option, Some, None, sym}
use Rattle.std.specs.Prelude.{IfSome}
use Rattle.std.specs.Option.{option_copied}
use Rattle.std.specs.FinMap.{get}
use Rattle.fs_rules.specs.declared.file.File.{File}
use Rattle.fs_rules.specs.declared.plain_tree.PlainTree.{PlainTree}
use Rattle.fs_rules.specs.Good.{IsGood}
use Rattle.fs_decisions.specs.Steps.{Fits}
use Rattle.fs_decisions.proofs.RowLemmas.{file_fits}
use Rattle.fs_decisions.proofs.live.file_at.Goals as goal

-- what was found in a good tree fits
found_fits : (t : PlainTree) (n : ℕ) (o : Option (Bor File)) → IsGood t → option_copied o ≡ get t.files n → IfSome o (λ f. Fits f.now)
found_fits t n (Some f) good is = file_fits t n f.now good (sym is)
found_fits t n None good is = tt

pub returns-clause-fits : goal.returns-clause-fits
returns-clause-fits c = found_fits c.args.tree.now c.args.number c.get.result c.requires c.get.ensures
