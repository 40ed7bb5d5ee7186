-- What the edits of RENAME leave.
use Rattle.std.proofs.Common.{◌≡◌, ◌≢◌, ◌⊎◌, inl, inr, ℕ, ◌+◌, ◌-◌, Bool, true, false, cond, List, [], ◌∷◌, ◌++◌, Option, Some, None, refl, sym, ap, subst, ◌∙◌, arith}
use Rattle.std.specs.Prelude.{◌==◌, OnOk, Result, Ok, Err}
use Rattle.std.specs.Ordering.{nat_cmp}
use Rattle.std.specs.FinMap.{FinMap, get, insert, remove}
use Rattle.std.proofs.lemmas.Bool.{eq-eqb, ne_eqb}
use Rattle.sfs_base.proofs.MapLemmas.{get_inserted, get_past_insert, remove_back}
use Rattle.nfs_proto.specs.declared.stamp.Stamp.{Stamp}
use Rattle.fs_rules.specs.declared.entry.Entry.{Entry}
use Rattle.fs_rules.specs.declared.file.File.{File}
use Rattle.fs_rules.specs.declared.kept.Kept.{Kept}
use Rattle.fs_rules.specs.declared.plain_tree.PlainTree.{PlainTree}
use Rattle.fs_rules.specs.Edits.{Edit, Changed, Freed, changed_at, edit, edited}
use Rattle.fs_rules.specs.Making.{renamed}
use Rattle.fs_rules.specs.File.{is_directory}
use Rattle.fs_rules.specs.Slots.{take_name}
use Rattle.fs_rules.specs.Names.{Move, moves_directory, replaces, one_where, received, directory_edits, replaced_edits, with_parent, without_name, unlinked}
use Rattle.fs_rules.specs.Good.{IsGood}
use Rattle.fs_edits.specs.declared.plan.Plan.{Plan}
use Rattle.fs_edits.specs.Giving.{receiving}
use Rattle.fs_edits.specs.Moving.{exchanged, moved_edits, CanMove}
use Rattle.fs_edits.proofs.MakingLemmas.{swapped}

-- ---- edits in a row

pub edited_append : (now : Stamp) (t : PlainTree) (xs ys : List Edit) → edited now t (xs ++ ys) ≡ edited now (edited now t xs) ys
unfolding edited
edited_append now t [] ys = refl
edited_append now t (x ∷ xs) ys = edited_append now (edit now t x) xs ys

pub edited_one : (now : Stamp) (t : PlainTree) (x : Edit) → edited now t (x ∷ []) ≡ edit now t x
unfolding edited
edited_one now t x = refl

-- a live number keeps nothing
pub kept_none : (t : PlainTree) (n : ℕ) (f : File) → IsGood t → get t.files n ≡ Some f → get t.freed n ≡ None
kept_none t n f good there = go (get t.freed n) refl where
  go : (o : Option Kept) → get t.freed n ≡ o → o ≡ None
  go None is = refl
  go (Some k) is = (let both : ◌≡◌ {A = Option File} (Some f) None = sym there ∙ (good.freed n k is).free in absurd cc)

pub on_ok : {A E P Q : Type 0} (r : Result A E) → (P → Q) → OnOk r P → OnOk r Q
on_ok (Ok x) f holds = f holds
on_ok (Err e) f holds = tt

-- ---- the edits of the directories, which are one or two

-- by whether the two are one
abbrev pub directories : Stamp → Move → Bool → List Edit
directories now m same =
    cond same
    (Changed m.to (unlinked (one_where (replaces m (λ r. is_directory r.content))) (renamed now (take_name (received m) m.from_name) m.to_dir)) ∷ [])
    (Changed m.from (unlinked (one_where (moves_directory m)) (without_name now m.from_name m.from_dir))
    ∷ Changed m.to (unlinked (one_where (replaces m (λ r. is_directory r.content))) (record (renamed now (received m) m.to_dir) { links = m.to_dir.links + one_where (moves_directory m) }))
    ∷ [])

abbrev pub IsOneOrTwo : Move → List Edit → Type 0
IsOneOrTwo m es = ((g : File) × (es ≡ Changed m.to g ∷ [])) ⊎ ((c : File) × (g : File) × (es ≡ Changed m.from c ∷ Changed m.to g ∷ []))

pub one_or_two : (now : Stamp) (m : Move) → IsOneOrTwo m (directory_edits now m)
one_or_two now m = elim (m.from == m.to) as (λ same. IsOneOrTwo m (directories now m same)) [ true ↦ inl (_, refl) | false ↦ inr (_, _, refl) ]

module _ (now : Stamp) (t : PlainTree) (m : Move) where
  abbrev left : PlainTree
  left = edited now t (directory_edits now m)

  abbrev turned : File
  turned = record m.source_file { content = with_parent m.to m.source_file.content }

  abbrev moved : PlainTree
  moved = edited now t (moved_edits now m)

  -- other files stay
  pub left_else : (q : ℕ) → q ≢ m.from → q ≢ m.to → get left.files q ≡ get t.files q
  unfolding edited
  left_else q from to = elim (one_or_two now m) [
    | inl one ↦ ap (λ (es : List Edit). get (edited now t es).files q) one.1 ∙ get_past_insert t.files m.to (changed_at now one.0) q to
    | inr two ↦
        ap (λ (es : List Edit). get (edited now t es).files q) two.2
        ∙ get_past_insert (insert t.files m.from (changed_at now two.0)) m.to (changed_at now two.1) q to
        ∙ get_past_insert t.files m.from (changed_at now two.0) q from
  ]

  -- the file that is moved is changed last
  pub moved_is : moved ≡ record left { files = insert left.files m.source (changed_at now turned) }
  moved_is = edited_append now t (directory_edits now m) (Changed m.source turned ∷ []) ∙ edited_one now left (Changed m.source turned)

  pub moved_there : get moved.files m.source ≡ Some (changed_at now turned)
  moved_there = ap (λ (u : PlainTree). get u.files m.source) moved_is ∙ get_inserted left.files m.source (changed_at now turned) m.source refl

  pub moved_else : (q : ℕ) → q ≢ m.from → q ≢ m.to → q ≢ m.source → get moved.files q ≡ get t.files q
  moved_else q from to source =
      ap (λ (u : PlainTree). get u.files q) moved_is ∙ get_past_insert left.files m.source (changed_at now turned) q source ∙ left_else q from to

  -- what free numbers keep does not matter to them
  left_freed : (freed : FinMap nat_cmp Kept) → edited now (record t { freed = freed }) (directory_edits now m) ≡ record left { freed = freed }
  unfolding edited
  left_freed freed = elim (one_or_two now m) [
    | inl one ↦
        ap (λ (es : List Edit). edited now (record t { freed = freed }) es) one.1
        ∙ ap (λ (es : List Edit). let u : PlainTree = record (edited now t es) { freed = freed } in u) (sym one.1)
    | inr two ↦
        ap (λ (es : List Edit). edited now (record t { freed = freed }) es) two.2
        ∙ ap (λ (es : List Edit). let u : PlainTree = record (edited now t es) { freed = freed } in u) (sym two.2)
  ]

  pub freed_same : moved.freed ≡ t.freed
  unfolding edited
  freed_same = ap (λ (u : PlainTree). u.freed) moved_is ∙ elim (one_or_two now m) [
    | inl one ↦ ap (λ (es : List Edit). (edited now t es).freed) one.1
    | inr two ↦ ap (λ (es : List Edit). (edited now t es).freed) two.2
  ]

pub moved_freed : (now : Stamp) (t : PlainTree) (m : Move) (freed : FinMap nat_cmp Kept) → edited now (record t { freed = freed }) (moved_edits now m) ≡ record (edited now t (moved_edits now m)) { freed = freed }
moved_freed now t m freed =
    moved_is now (record t { freed = freed }) m
    ∙ ap (λ (u : PlainTree). let v : PlainTree = record u { files = insert u.files m.source (changed_at now (record m.source_file { content = with_parent m.to m.source_file.content })) } in v) (left_freed now t m freed)
    ∙ ap (λ (u : PlainTree). let v : PlainTree = record u { freed = freed } in v) (sym (moved_is now t m))

-- the file that is moved has its new parent
pub turned_is : (now : Stamp) (t : PlainTree) (m : Move) (p : Plan) (from_name to_name : List ℕ) → CanMove t.files p m from_name to_name → (u v : PlainTree)
    → u ≡ edited now t (directory_edits now m)
    → v ≡ record u { files = insert u.files p.source (changed_at now (record m.source_file { content = with_parent p.to m.source_file.content })) }
    → v ≡ edited now t (moved_edits now m)
turned_is now t m p from_name to_name can u v first second =
    second
    ∙ ap (λ (k : ℕ). let x : PlainTree = record u { files = insert u.files k (changed_at now (record m.source_file { content = with_parent p.to m.source_file.content })) } in x) can.numbers.2
    ∙ ap (λ (k : ℕ). let x : PlainTree = record u { files = insert u.files m.source (changed_at now (record m.source_file { content = with_parent k m.source_file.content })) } in x) can.numbers.1
    ∙ ap (λ (w : PlainTree). let x : PlainTree = record w { files = insert w.files m.source (changed_at now (record m.source_file { content = with_parent m.to m.source_file.content })) } in x) first
    ∙ sym (moved_is now t m)

-- ---- the file that is replaced

-- what free numbers keep does not matter
pub can_move_still : (t u : PlainTree) (p : Plan) (m : Move) (from_name to_name : List ℕ) (freed : FinMap nat_cmp Kept) → u ≡ record t { freed = freed } → CanMove t.files p m from_name to_name
    → CanMove u.files p m from_name to_name
can_move_still t u p m from_name to_name freed is can = subst (λ (x : PlainTree). CanMove x.files p m from_name to_name) (sym is) can

-- what it keeps is taken back
pub kept_back : (t u v : PlainTree) (n : ℕ) (r : File) (last : FinMap nat_cmp Kept) → IsGood t → get t.files n ≡ Some r
    → u ≡ record t { freed = insert t.freed n (record { generation = r.generation; change = r.change + 1 }) } → v ≡ u → last ≡ remove v.freed n → ◌≡◌ {A = PlainTree} (record v { freed = last }) t
kept_back t u v n r last good there kept same left =
    let is = same ∙ kept in
    let back : last ≡ t.freed =
    left ∙ ap (λ (x : PlainTree). remove x.freed n) is ∙ remove_back t.freed n (record { generation = r.generation; change = r.change + 1 }) (kept_none t n r good there) in
    ap (λ (x : FinMap nat_cmp Kept). let w : PlainTree = record v { freed = x } in w) back
    ∙ ap (λ (x : PlainTree). let w : PlainTree = record x { freed = t.freed } in w) is

-- it loses a link
pub over_link : (now : Stamp) (t : PlainTree) (m : Move) (n : ℕ) (r : File) → replaced_edits m ≡ Changed n (unlinked 1 r) ∷ []
    → edited now t (moved_edits now m ++ replaced_edits m) ≡ record (edited now t (moved_edits now m)) { files = insert (edited now t (moved_edits now m)).files n (changed_at now (unlinked 1 r)) }
over_link now t m n r is =
    ap (λ (es : List Edit). edited now t (moved_edits now m ++ es)) is
    ∙ edited_append now t (moved_edits now m) (Changed n (unlinked 1 r) ∷ [])
    ∙ edited_one now (edited now t (moved_edits now m)) (Changed n (unlinked 1 r))

-- it is freed, and what it keeps was kept before
pub over_freed : (now : Stamp) (t : PlainTree) (m : Move) (n : ℕ) (r : File) → replaced_edits m ≡ Freed n r ∷ []
    → edited now t (moved_edits now m ++ replaced_edits m)
    ≡ record (edited now (record t { freed = insert t.freed n (record { generation = r.generation; change = r.change + 1 }) }) (moved_edits now m))
    { files = remove (edited now (record t { freed = insert t.freed n (record { generation = r.generation; change = r.change + 1 }) }) (moved_edits now m)).files n }
over_freed now t m n r is =
    let kept : Kept = record { generation = r.generation; change = r.change + 1 } in
    let u = edited now t (moved_edits now m) in
    ap (λ (es : List Edit). edited now t (moved_edits now m ++ es)) is
    ∙ edited_append now t (moved_edits now m) (Freed n r ∷ [])
    ∙ edited_one now u (Freed n r)
    ∙ ap (λ (x : FinMap nat_cmp Kept). let v : PlainTree = record u { files = remove u.files n; freed = insert x n kept } in v) (freed_same now t m)
    ∙ ap (λ (x : PlainTree). let v : PlainTree = record x { files = remove x.files n } in v) (sym (moved_freed now t m (insert t.freed n kept)))

pub freed_is : (now : Stamp) (t u v : PlainTree) (m : Move) (n : ℕ) (r : File) (last : FinMap nat_cmp File) → replaced_edits m ≡ Freed n r ∷ []
    → u ≡ record t { freed = insert t.freed n (record { generation = r.generation; change = r.change + 1 }) } → v ≡ edited now u (moved_edits now m) → last ≡ remove v.files n
    → ◌≡◌ {A = PlainTree} (record v { files = last }) (edited now t (moved_edits now m ++ replaced_edits m))
freed_is now t u v m n r last is kept moved left =
    ap (λ (x : FinMap nat_cmp File). let w : PlainTree = record v { files = x } in w) left
    ∙ ap (λ (x : PlainTree). let w : PlainTree = record x { files = remove x.files n } in w) (moved ∙ ap (λ (x : PlainTree). edited now x (moved_edits now m)) kept)
    ∙ sym (over_freed now t m n r is)

-- nothing is replaced
pub over_nothing : (now : Stamp) (t : PlainTree) (m : Move) → replaced_edits m ≡ [] → edited now t (moved_edits now m ++ replaced_edits m) ≡ edited now t (moved_edits now m)
unfolding edited
over_nothing now t m is = ap (λ (es : List Edit). edited now t (moved_edits now m ++ es)) is ∙ edited_append now t (moved_edits now m) []

-- ---- the two directories

-- the first directory changes after the second
cross_is : (now : Stamp) (t u v : PlainTree) (a b : ℕ) (g h : File) → a ≢ b → u ≡ record t { files = insert t.files b (changed_at now g) } → v ≡ record u { files = insert u.files a (changed_at now h) }
    → v ≡ edited now t (Changed a h ∷ Changed b g ∷ [])
unfolding edited
cross_is now t u v a b g h apart first second =
    second
    ∙ ap (λ (x : PlainTree). let y : PlainTree = record x { files = insert x.files a (changed_at now h) } in y) first
    ∙ ap (λ (x : FinMap nat_cmp File). let y : PlainTree = record t { files = x } in y) (swapped t.files a b (changed_at now h) (changed_at now g) apart)

same_is : (now : Stamp) (t u : PlainTree) (b : ℕ) (g : File) → u ≡ record t { files = insert t.files b (changed_at now g) } → u ≡ edited now t (Changed b g ∷ [])
unfolding edited
same_is now t u b g is = is

-- a directory with other links
linked_with : ℕ → File → File
linked_with links g = record g { links = links }

module _ (now : Stamp) (t : PlainTree) (p : Plan) (m : Move) (from_name : List ℕ) (e : Entry) (can : CanMove t.files p m from_name e.name) (source : e.file ≡ p.source) where
  entry_is : e ≡ record { name = m.to_name; file = m.source }
  entry_is =
      ap (λ (k : ℕ). let x : Entry = record { name = e.name; file = k } in x) (source ∙ can.numbers.2)
      ∙ ap (λ (k : List ℕ). let x : Entry = record { name = k; file = m.source } in x) (sym can.names.1)

  -- one directory
  pub within_is : (u : PlainTree) → p.from ≡ p.to → u ≡ record t { files = insert t.files p.to (changed_at now (exchanged now e from_name p.links m.to_dir)) } → u ≡ edited now t (directory_edits now m)
  unfolding linked_with
  within_is u same is =
      let one : (m.from == m.to) ≡ true = eq-eqb m.from m.to (sym can.numbers.0 ∙ same ∙ can.numbers.1) in
      let lost : ℕ = one_where (replaces m (λ r. is_directory r.content)) in
      let along : ℕ = one_where (moves_directory m) in
      let links : p.links ≡ m.to_dir.links - lost =
      can.links ∙ ap (λ (k : Bool). m.to_dir.links + cond k 0 along - lost) one ∙ ap (λ (k : ℕ). k - lost) (let none : m.to_dir.links + 0 ≡ m.to_dir.links = omega arith in none) in
      let after : File = renamed now (take_name (received m) m.from_name) m.to_dir in
      let dir : exchanged now e from_name p.links m.to_dir ≡ unlinked lost after =
      ap (λ (x : Entry). exchanged now x from_name p.links m.to_dir) entry_is
      ∙ ap (λ (k : List ℕ). exchanged now (record { name = m.to_name; file = m.source }) k p.links m.to_dir) (sym can.names.0)
      ∙ ap (λ (k : ℕ). linked_with k after) links in
      same_is now t u m.to (unlinked lost after)
      (is ∙ ap (λ (k : ℕ). let x : PlainTree = record t { files = insert t.files k (changed_at now (exchanged now e from_name p.links m.to_dir)) } in x) can.numbers.1
      ∙ ap (λ (g : File). let x : PlainTree = record t { files = insert t.files m.to (changed_at now g) } in x) dir)
      ∙ ap (λ (b : Bool). edited now t (directories now m b)) (sym one)

  -- two directories
  pub across_is : (u v : PlainTree) → p.from ≢ p.to → u ≡ record t { files = insert t.files p.to (changed_at now (receiving now e.name e.file p.links m.to_dir)) }
      → v ≡ record u { files = insert u.files p.from (changed_at now (unlinked p.along (without_name now from_name m.from_dir))) } → v ≡ edited now t (directory_edits now m)
  unfolding linked_with
  across_is u v apart first second =
      let two : (m.from == m.to) ≡ false = ne_eqb m.from m.to (λ same. apart (can.numbers.0 ∙ same ∙ sym can.numbers.1)) in
      let lost : ℕ = one_where (replaces m (λ r. is_directory r.content)) in
      let along : ℕ = one_where (moves_directory m) in
      let links : p.links ≡ m.to_dir.links + along - lost = can.links ∙ ap (λ (k : Bool). m.to_dir.links + cond k 0 along - lost) two in
      let after : File = record (renamed now (received m) m.to_dir) { links = m.to_dir.links + along } in
      let dir : receiving now e.name e.file p.links m.to_dir ≡ unlinked lost after =
      ap (λ (x : Entry). receiving now x.name x.file p.links m.to_dir) entry_is ∙ ap (λ (k : ℕ). linked_with k after) links in
      let left' : unlinked p.along (without_name now from_name m.from_dir) ≡ unlinked along (without_name now m.from_name m.from_dir) =
      ap (λ (k : ℕ). unlinked k (without_name now from_name m.from_dir)) can.along ∙ ap (λ (k : List ℕ). unlinked along (without_name now k m.from_dir)) (sym can.names.0) in
      cross_is now t u v m.from m.to (unlinked lost after) (unlinked along (without_name now m.from_name m.from_dir)) (λ same. apart (can.numbers.0 ∙ same ∙ sym can.numbers.1))
      (first ∙ ap (λ (k : ℕ). let x : PlainTree = record t { files = insert t.files k (changed_at now (receiving now e.name e.file p.links m.to_dir)) } in x) can.numbers.1
      ∙ ap (λ (g : File). let x : PlainTree = record t { files = insert t.files m.to (changed_at now g) } in x) dir)
      (second ∙ ap (λ (k : ℕ). let x : PlainTree = record u { files = insert u.files k (changed_at now (unlinked p.along (without_name now from_name m.from_dir))) } in x) can.numbers.0
      ∙ ap (λ (g : File). let x : PlainTree = record u { files = insert u.files m.from (changed_at now g) } in x) left')
      ∙ ap (λ (b : Bool). edited now t (directories now m b)) (sym two)
