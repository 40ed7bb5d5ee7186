-- What becomes of a tree in which a file is made.
use Rattle.std.proofs.Common.{◌≡◌, ◌≢◌, ◌⊎◌, inl, inr, ℕ, ◌≤◌, true, false, List, [], ◌∷◌, length, Option, Some, None, sym, ap, subst, ◌∙◌}
use Rattle.std.specs.Prelude.{OnOk, OnErr, Result, Ok, Err}
use Rattle.std.specs.Result.{is_err}
use Rattle.std.specs.Ordering.{nat_cmp}
use Rattle.std.specs.FinMap.{FinMap, get, insert, remove}
use Rattle.std.proofs.lemmas.Bool.{cases_eq}
use Rattle.sfs_base.proofs.MapLemmas.{same_look_ups, get_inserted, get_past_insert, remove_back}
use Rattle.nfs_proto.specs.declared.stamp.Stamp.{Stamp}
use Rattle.fs_rules.specs.declared.kept.Kept.{Kept}
use Rattle.fs_rules.specs.declared.file.File.{File}
use Rattle.fs_rules.specs.declared.plain_tree.PlainTree.{PlainTree}
use Rattle.fs_rules.specs.File.{slots_of}
use Rattle.fs_rules.specs.Slots.{put_name}
use Rattle.fs_rules.specs.Edits.{Changed, Made, changed_at, edited}
use Rattle.fs_edits.specs.Giving.{CanReceive}

-- ---- what holds where memory ran out, and where it did not

pub where_err : {A B P : Type 0} (r : Result A B) → is_err r ≡ true → OnErr r P → P
where_err (Ok x) is holds = absurd cc
where_err (Err e) is holds = holds

pub where_ok : {A B P : Type 0} (r : Result A B) → is_err r ≡ false → OnOk r P → P
where_ok (Ok x) is holds = holds
where_ok (Err e) is holds = absurd cc

-- ---- files by their numbers

-- two files at two numbers, in either order
pub swapped : (m : FinMap nat_cmp File) (j k : ℕ) (v w : File) → j ≢ k → insert (insert m k w) j v ≡ insert (insert m j v) k w
swapped m j k v w apart = same_look_ups _ _ (λ q. go q (cases_eq q j) (cases_eq q k)) where
  go : (q : ℕ) → (q ≡ j) ⊎ (q ≡ j → ⊥) → (q ≡ k) ⊎ (q ≡ k → ⊥) → get (insert (insert m k w) j v) q ≡ get (insert (insert m j v) k w) q
  go q (inl e) (inl f) = absurd (apart (sym e ∙ f))
  go q (inl e) (inr nf) = get_inserted (insert m k w) j v q e ∙ sym (get_past_insert (insert m j v) k w q nf ∙ get_inserted m j v q e)
  go q (inr ne) (inl f) = get_past_insert (insert m k w) j v q ne ∙ get_inserted m k w q f ∙ sym (get_inserted (insert m j v) k w q f)
  go q (inr ne) (inr nf) =
      get_past_insert (insert m k w) j v q ne ∙ get_past_insert m k w q nf
      ∙ sym (get_past_insert (insert m j v) k w q nf ∙ get_past_insert m j v q ne)

-- a number with a file is not one with none
pub apart : (t : PlainTree) (n m : ℕ) (d : File) → get t.files n ≡ Some d → get t.files m ≡ None → n ≢ m
apart t n m d there none same = (let both : ◌≡◌ {A = Option File} (Some d) None = sym there ∙ ap (get t.files) same ∙ none in absurd cc)

-- ---- the tree between

-- a directory can take a name also where a file was put elsewhere
pub can_take : (t : PlainTree) (files : FinMap nat_cmp File) (n m : ℕ) (d f : File) (name other : List ℕ)
    → CanReceive t n d (record { name = name; file = m }) → get t.files m ≡ None → files ≡ insert t.files m f → other ≡ name
    → CanReceive (record t { files = files }) n d (record { name = other; file = m })
can_take t files n m d f name other can none is same =
    record {
      there = ap (λ (x : FinMap nat_cmp File). get x n) is ∙ get_past_insert t.files m f n (apart t n m d can.there none) ∙ can.there;
      is = can.is;
      change = can.change;
      slots = subst (λ (x : List ℕ). length (put_name (slots_of d.content) (record { name = x; file = m })) ≤ 7650) (sym same) can.slots;
    }

-- a file that was put is taken back
pub taken_back : (t mid : PlainTree) (m : ℕ) (f : File) (files last : FinMap nat_cmp File)
    → get t.files m ≡ None → files ≡ insert t.files m f → mid ≡ record t { files = files } → last ≡ remove mid.files m
    → ◌≡◌ {A = PlainTree} (record mid { files = last }) t
taken_back t mid m f files last none is middle left =
    let back : last ≡ t.files =
    left ∙ ap (λ (u : PlainTree). remove u.files m) middle ∙ ap (λ (x : FinMap nat_cmp File). remove x m) is ∙ remove_back t.files m f none in
    ap (λ (x : FinMap nat_cmp File). let u : PlainTree = record mid { files = x } in u) back
    ∙ ap (λ (u : PlainTree). let v : PlainTree = record u { files = t.files } in v) middle

-- a file is made, and its directory changed
pub made_so : (now : Stamp) (t mid : PlainTree) (n m : ℕ) (d' f : File) (files : FinMap nat_cmp File) (freed : FinMap nat_cmp Kept)
    → n ≢ m → files ≡ insert t.files m f → mid ≡ record t { files = insert files n (changed_at now d') } → freed ≡ remove mid.freed m
    → ◌≡◌ {A = PlainTree} (record mid { freed = freed }) (edited now t (Changed n d' ∷ Made m f ∷ []))
unfolding edited
made_so now t mid n m d' f files freed other is middle left =
    ap (λ (x : FinMap nat_cmp Kept). let u : PlainTree = record mid { freed = x } in u) left
    ∙ ap (λ (u : PlainTree). let v : PlainTree = record u { freed = remove u.freed m } in v) middle
    ∙ ap (λ (x : FinMap nat_cmp File). let u : PlainTree = record t { files = insert x n (changed_at now d'); freed = remove t.freed m } in u) is
    ∙ ap (λ (x : FinMap nat_cmp File). let u : PlainTree = record t { files = x; freed = remove t.freed m } in u) (swapped t.files n m (changed_at now d') f other)
