use Rattle.std.proofs.Common.{sym, arith}
use Rattle.sfs_base.proofs.TableLemmas.{on_none}
use Rattle.sfs_base.proofs.MapLemmas.{greatest_has, greatest_none}
use Rattle.fs_content.proofs.SizeLemmas.{below_all}
use Rattle.fs_content.proofs.sizes.last_behind.Goals as goal

pub returns-in_err-last-clause-none : goal.returns-in_err-last-clause-none
returns-in_err-last-clause-none c =
    on_none c.from_residual.result (below_all c.args.size c.args.blocks.now (λ q le. greatest_none c.args.blocks.now (sym c.in_err-last.ensures) q))

pub returns-then-begin-size-clause-none : goal.returns-then-begin-size-clause-none
returns-then-begin-size-clause-none c =
    below_all c.args.size c.args.blocks.now (λ q le. (greatest_has c.args.blocks.now c.in_ok-last.last (sym c.in_ok-last.ensures)).1 q (omega arith))

pub returns-clause-some : goal.returns-clause-some
returns-clause-some c = (omega arith, (greatest_has c.args.blocks.now c.in_ok-last.last (sym c.in_ok-last.ensures)).0)
