-- A file that loses links.
use Rattle.std.proofs.Common.{◌≡◌, ℕ, ◌-◌, Bool, cond, List, [], ◌∷◌, sym, ap, subst, arith}
use Rattle.nfs_proto.specs.declared.stamp.Stamp.{Stamp}
use Rattle.fs_rules.specs.declared.file.File.{File}
use Rattle.fs_rules.specs.declared.plain_tree.PlainTree.{PlainTree}
use Rattle.fs_rules.specs.File.{is_directory}
use Rattle.fs_rules.specs.Edits.{Changed, Freed}
use Rattle.fs_rules.specs.Names.{without_name, unlinked, loses_link, one_where}
use Rattle.fs_edits.specs.Taking.{CanTake, taken_edits}

-- a file that loses no link
pub unlinked_none : (f : File) → unlinked 0 f ≡ f
unlinked_none f = ap (λ (k : ℕ). let g : File = record f { links = k } in g) (let same : f.links - 0 ≡ f.links = omega arith in same)

-- the edits of a name that is taken, by whether its file is a directory
pub taken_as : (now : Stamp) (n : ℕ) (name : List ℕ) (d : File) (m : ℕ) (f : File) (k : Bool) → is_directory f.content ≡ k
    → Changed n (unlinked (one_where k) (without_name now name d)) ∷ cond k (Freed m f) (loses_link m f) ∷ [] ≡ taken_edits now n name d m f
taken_as now n name d m f k is = ap (λ (b : Bool). Changed n (unlinked (one_where b) (without_name now name d)) ∷ cond b (Freed m f) (loses_link m f) ∷ []) (sym is)

-- so the one link that a directory takes along, and none
pub can_take_as : (t : PlainTree) (n m : ℕ) (d f : File) (k : Bool) → is_directory f.content ≡ k → CanTake t n m (one_where (is_directory f.content)) d f → CanTake t n m (one_where k) d f
can_take_as t n m d f k is can = subst (λ (b : Bool). CanTake t n m (one_where b) d f) is can
