use Rattle.std.proofs.Common.{◌≡◌, ◌-◌, ℕ, subst, arith}
use Rattle.std.specs.Prelude.{◌/◌, ◌%◌, OnOk, IfErr}
use Rattle.fs_layout.specs.Places.{number_of}
use Rattle.fs_reader.specs.declared.tree_fault.TreeFault.TheVariants.{NoTree}
use Rattle.fs_reader.specs.Numbers.{ReadsNumber, IsNoneBelow}
use Rattle.fs_reader.proofs.NumberLemmas.{gap_reads}
use Rattle.fs_reader.proofs.numbers.read_number.Goals as goal

pub returns-then-inode-geometry-clause-none : goal.returns-then-inode-geometry-clause-none
returns-then-inode-geometry-clause-none c =
    let same : number_of ((c.args.number - 1) / 16384) ((c.args.number - 1) % 16384) ≡ c.args.number = omega (arith, c.requires.first) in
    subst (λ (k : ℕ). IfErr c.read_one.result (λ fault. fault ≡ NoTree → IsNoneBelow c.args.geometry.now c.args.parts.now k c.args.left.now c.args.tree.now)) same c.read_one.ensures.none

pub returns-then-inode-geometry-clause-ok : goal.returns-then-inode-geometry-clause-ok
returns-then-inode-geometry-clause-ok c =
    let same : number_of ((c.args.number - 1) / 16384) ((c.args.number - 1) % 16384) ≡ c.args.number = omega (arith, c.requires.first) in
    subst (λ (k : ℕ). OnOk c.read_one.result (ReadsNumber c.args.geometry.now c.args.parts.now k c.args.left.now c.args.tree.now c.read_one.new.left c.read_one.new.tree)) same c.read_one.ensures.ok

pub returns-else-inode-geometry-clause-ok : goal.returns-else-inode-geometry-clause-ok
returns-else-inode-geometry-clause-ok c =
    gap_reads c.args.geometry.now c.requires.images.limits c.args.parts.now c.args.number c.requires.first (omega arith) c.args.left.now c.args.tree.now
