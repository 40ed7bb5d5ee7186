-- The tree with which a cluster begins is a file system.
use Rattle.std.proofs.Common.{◌≡◌, ℕ, Bool, true, false, cond, List, [], ◌∷◌, Option, Some, None, refl, sym, ap, ◌∙◌, arith}
use Rattle.std.specs.Prelude.{is_some, sum_by, count_by, option_and_then}
use Rattle.std.specs.Ordering.{nat_cmp, eq_by_cmp}
use Rattle.std.specs.Cmp.{nat_cmp_total}
use Rattle.std.specs.List.Sorted.{IsStrictlySortedBy}
use Rattle.std.specs.FinMap.{FinMap, get, insert, empty, entries, get-insert, get-empty, nat_cmp-IsAntisymmetric}
use Rattle.sfs_base.proofs.TableLemmas.{entries-from_entries}
use Rattle.fs_rules.specs.declared.file.File.{File}
use Rattle.fs_rules.specs.declared.kept.Kept.{Kept}
use Rattle.fs_rules.specs.declared.geometry.Geometry.{Geometry}
use Rattle.fs_rules.specs.Geometry.{IsWithinLimits}
use Rattle.fs_rules.specs.File.{used, slots_of, parent_of}
use Rattle.fs_rules.specs.Good.{IsGoodFile, IsPlaced, AreSlots, naming_slots, names_file, ancestor}
use Rattle.fs_rules.specs.Fresh.{fresh, fresh_root}
use Rattle.fs_laws.specs.Laws.{FreshIsGood}

-- the files of the fresh tree
abbrev files : FinMap nat_cmp File
files = insert empty 1 fresh_root

-- the root is the only one
at_number : (n : ℕ) → get files n ≡ cond (eq_by_cmp nat_cmp n 1) (Some fresh_root) None
at_number n = get-insert nat_cmp_total empty 1 fresh_root n ∙ ap (cond (eq_by_cmp nat_cmp n 1) (Some fresh_root)) (get-empty nat_cmp n)

pub at_root : get files 1 ≡ Some fresh_root
at_root = at_number 1

-- a file of the fresh tree is the root
chosen : (n : ℕ) (b : Bool) (f : File) → cond b (Some fresh_root) None ≡ Some f → (b ≡ true) × (f ≡ fresh_root)
chosen n true f e = (refl, cc)
chosen n false f e = absurd cc

-- a comparison that answers so is of equal numbers
same_number : (n m : ℕ) → eq_by_cmp nat_cmp n m ≡ true → n ≡ m
same_number n m e = grind (arith, nat_cmp-IsAntisymmetric n m)

only_root : (n : ℕ) (f : File) → get files n ≡ Some f → (n ≡ 1) × (f ≡ fresh_root)
only_root n f e =
    let c = chosen n (eq_by_cmp nat_cmp n 1) f (sym (at_number n) ∙ e) in
    (same_number n 1 c.0, c.1)

-- the entries of the fresh tree
only_entry : entries files ≡ (1, fresh_root) ∷ []
unfolding IsStrictlySortedBy
only_entry = entries-from_entries ((1, fresh_root) ∷ []) (tt, tt)

-- no slot names a file
unnamed : (g : Geometry) (n : ℕ) → naming_slots (fresh g) n ≡ 0
unnamed g n = ap (λ (es : List (ℕ × File)). sum_by (λ e. count_by (names_file n) (slots_of e.1.content)) es) only_entry

no_slots : (g : Geometry) → AreSlots (fresh g) []
no_slots g = record {
  whole = refl;
  few = omega arith;
  names = λ i e h. absurd cc;
  distinct = λ i j e d h k same. absurd cc;
}

placed : (g : Geometry) → IsPlaced (fresh g) 1 1
unfolding ancestor
placed g = record {
  root = λ h. (refl, unnamed g 1);
  named = λ other. absurd (other refl);
  inside = λ other. absurd (other refl);
  leads = (0, refl);
}

root_good : (g : Geometry) → IsWithinLimits g → IsGoodFile (fresh g) 1 fresh_root
root_good g limits = record {
  number = record { memory = 0; inode = 0; there = (omega (arith, limits.memories), omega (arith, limits.inodes)); is = refl };
  mode = omega arith;
  links = omega arith;
  content = (refl, no_slots g, refl, placed g);
}

pub fresh_good : FreshIsGood
fresh_good g limits = record {
  geometry = limits;
  root = ap (λ (o : Option File). is_some (option_and_then (λ f. parent_of f.content) o)) at_root;
  files = λ n f e. let o = only_root n f e in rw (o.0, o.1) (root_good g limits);
  freed = λ n k e. let both : ◌≡◌ {A = Option Kept} None (Some k) = sym (get-empty nat_cmp n) ∙ e in absurd (cc both);
  fits = omega (arith, ap (λ (es : List (ℕ × File)). sum_by (λ e. used e.1.content) es) only_entry);
}
