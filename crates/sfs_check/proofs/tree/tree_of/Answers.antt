use Rattle.std.proofs.Common.{◌≡◌, List, ℕ, subst}
use Rattle.std.specs.Prelude.{IfErr}
use Rattle.fs_reader.specs.declared.tree_fault.TreeFault.TheVariants.{NoTree}
use Rattle.fs_reader.specs.Numbers.{IsNoTree}
use Rattle.sfs_check.specs.Geometries.{geometry_of}
use Rattle.sfs_check.proofs.tree.tree_of.Goals as goal

pub returns-clause-none : goal.returns-clause-none
returns-clause-none c =
    subst (λ (flat : List (List ℕ)). IfErr c.tree_in.result (λ fault. fault ≡ NoTree → IsNoTree (geometry_of c.args.geometry) flat)) c.as_slice.ensures.value c.tree_in.ensures.none
