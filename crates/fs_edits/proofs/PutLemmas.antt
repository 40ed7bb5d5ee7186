-- A file that is taken out of a tree, and put back changed.
use Rattle.std.proofs.Common.{◌≡◌, ℕ, cond, Some, refl, sym, ap, subst, ◌∙◌}
use Rattle.std.specs.Prelude.{IsSome}
use Rattle.std.specs.Ordering.{nat_cmp}
use Rattle.std.specs.Cmp.{nat_cmp_total, eq_by_cmp_equiv}
use Rattle.std.specs.FinMap.{FinMap, get, insert, get-insert}
use Rattle.sfs_base.proofs.MapLemmas.{insert_over, insert_same}
use Rattle.nfs_proto.specs.declared.stamp.Stamp.{Stamp}
use Rattle.fs_rules.specs.declared.file.File.{File}
use Rattle.fs_rules.specs.declared.plain_tree.PlainTree.{PlainTree}
use Rattle.fs_rules.specs.Edits.{changed_at}

-- the file with its number raised is there afterwards
pub put_there : (t : PlainTree) (n : ℕ) (g : File) → get (insert t.files n g) n ≡ Some g
put_there t n g = get-insert nat_cmp_total t.files n g n ∙ ap (λ b. cond b (Some g) (get t.files n)) ((eq_by_cmp_equiv nat_cmp_total).refl n)

-- a file that is taken out, with another in its place, and put back changed
pub put_back : (now : Stamp) (t mid new : PlainTree) (n m : ℕ) (other g changed : File) → n ≡ m → mid ≡ record t { files = insert t.files n other } → changed ≡ g
    → new ≡ record mid { files = insert mid.files n (changed_at now changed) } → new ≡ record t { files = insert t.files m (changed_at now g) }
put_back now t mid new n m other g changed same out is tree =
    tree
    ∙ ap (λ (u : PlainTree). let w : PlainTree = record u { files = insert u.files n (changed_at now changed) } in w) out
    ∙ ap (λ (x : FinMap nat_cmp File). let u : PlainTree = record t { files = x } in u) (insert_over t.files n other (changed_at now changed))
    ∙ ap (λ (k : ℕ). let u : PlainTree = record t { files = insert t.files k (changed_at now changed) } in u) same
    ∙ ap (λ (h : File). let u : PlainTree = record t { files = insert t.files m (changed_at now h) } in u) is

-- or put back as another
pub put_again : (t mid new : PlainTree) (n : ℕ) (other g : File) → mid ≡ record t { files = insert t.files n other } → new ≡ record mid { files = insert mid.files n g } → new ≡ record t { files = insert t.files n g }
put_again t mid new n other g out tree =
    tree
    ∙ ap (λ (u : PlainTree). let w : PlainTree = record u { files = insert u.files n g } in w) out
    ∙ ap (λ (x : FinMap nat_cmp File). let u : PlainTree = record t { files = x } in u) (insert_over t.files n other g)

-- or put back as it is
pub put_same : (t mid new : PlainTree) (n : ℕ) (other g : File) → mid ≡ record t { files = insert t.files n other } → new ≡ record mid { files = insert mid.files n g } → get t.files n ≡ Some g → new ≡ t
put_same t mid new n other g out tree live =
    put_again t mid new n other g out tree ∙ ap (λ (x : FinMap nat_cmp File). let u : PlainTree = record t { files = x } in u) (insert_same t.files n g live)

-- a file stands at its number while it is taken out
pub still_there : (t mid : PlainTree) (n : ℕ) (other : File) → mid ≡ record t { files = insert t.files n other } → IsSome (get mid.files n)
still_there t mid n other out = subst (λ (u : PlainTree). IsSome (get u.files n)) (sym out) (subst IsSome (sym (put_there t n other)) refl)

-- a file is there
pub is_there : (t : PlainTree) (n : ℕ) (f : File) → get t.files n ≡ Some f → IsSome (get t.files n)
is_there t n f live = subst IsSome (sym live) refl

-- one number has one file
pub one_file : (t : PlainTree) (n m : ℕ) (f h : File) → n ≡ m → get t.files m ≡ Some f → Some h ≡ get t.files n → h ≡ f
one_file t n m f h same there before = cc (ap (get t.files) same)
