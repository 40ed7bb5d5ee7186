-- The shape of a tree: its names, and how they hang together.
use Rattle.std.proofs.Common.{◌≡◌, ◌≢◌, ℕ, zero, suc, ◌*◌, ◌≤◌, cond, List, [], ◌∷◌, Option, Some, None, inl, inr, refl, sym, ap, subst, ◌∙◌, arith}
use Rattle.std.specs.Prelude.{is_some, slice_get, count_by, option_and_then}
use Rattle.std.specs.List.{AllByRecursion}
use Rattle.std.specs.Option.{option_map_or}
use Rattle.std.specs.FinMap as table
use Rattle.std.proofs.lemmas.Bool.{cases_eq, eq-eqb, ne_eqb}
use Rattle.std.proofs.lemmas.List.Sums.{sum_by-cons}
use Rattle.nfs_proto.specs.declared.stamp.Stamp.{Stamp}
use Rattle.fs_rules.specs.declared.content.Content.{Content}
use Rattle.fs_rules.specs.declared.content.Content.TheVariants.{Regular, Link, Directory}
use Rattle.fs_rules.specs.declared.entry.Entry.{Entry}
use Rattle.fs_rules.specs.declared.file.File.{File}
use Rattle.fs_rules.specs.declared.plain_tree.PlainTree.{PlainTree}
use Rattle.fs_rules.specs.Geometry.{IsWithinLimits}
use Rattle.fs_rules.specs.File.{slots_of, parent_of}
use Rattle.fs_rules.specs.Edits.{Edit, Changed, changed_at, edited}
use Rattle.fs_rules.specs.Numbers.{used_in_all}
use Rattle.fs_rules.specs.Good.{names_file, names_directory, naming_slots, parent_at, subdirectories, ancestor}
use Rattle.fs_laws.proofs.SumLemmas.{count_alike}
use Rattle.fs_laws.proofs.WholeLemmas.{named_in, due_of, due, HasLinks, Leads, IsWhole, named_in_at}
use Rattle.fs_laws.proofs.EditLemmas.{get_edited, geometry_edited, AreApart, IsApt, stock_edited, IsWithin, fits_edited, names_of, gained, naming_edited, number_of}

-- the names of a tree are in order
pub record IsShaped (u : PlainTree) : Type 0 where
  pub root : parent_at u 1 ≡ Some 1
  pub named : (q : ℕ) → naming_slots u q ≡ due u q
  pub links : (q : ℕ) (f : File) → table.get u.files q ≡ Some f → HasLinks u f f.content
  pub inside : (q p : ℕ) → q ≢ 1 → parent_at u q ≡ Some p → named_in u p q ≡ 1
  pub leads : (q p : ℕ) → parent_at u q ≡ Some p → Leads u q

-- apt edits within the limits that leave the names in order leave a file system
pub whole_edited : (now : Stamp) (t : PlainTree) (start : ℕ) (es : List Edit) → IsWhole t → AreApart es → AllByRecursion (IsApt t) es → IsWithin t start es
    → IsShaped (edited now t es) → IsWhole (edited now t es)
whole_edited now t start es whole apart apt within shaped =
    let stock = stock_edited now t es apart apt (record { numbers = whole.numbers; own = whole.own; freed = whole.freed }) in
    let same = geometry_edited now t es in
    record {
      geometry = subst IsWithinLimits (sym same) whole.geometry;
      root = shaped.root;
      numbers = stock.numbers;
      own = stock.own;
      named = shaped.named;
      links = shaped.links;
      inside = shaped.inside;
      leads = shaped.leads;
      freed = stock.freed;
      fits = subst (λ g. used_in_all (edited now t es) ≤ g.memories * g.blocks) (sym same) (fits_edited now t start es apart within whole.fits);
    }

-- ---- a file whose names stay

-- contents of one kind, with the same slots and parent
abbrev pub AreAlike : Content → Content → Type 0
AreAlike (Regular a) (Regular b) = Unit {0}
AreAlike (Regular a) (Directory s p) = ⊥
AreAlike (Regular a) (Link b) = ⊥
AreAlike (Directory s p) (Regular b) = ⊥
AreAlike (Directory s p) (Directory r q) = (r ≡ s) × (q ≡ p)
AreAlike (Directory s p) (Link b) = ⊥
AreAlike (Link a) (Regular b) = ⊥
AreAlike (Link a) (Directory s p) = ⊥
AreAlike (Link a) (Link b) = Unit {0}

alike_slots : (c d : Content) → AreAlike c d → slots_of d ≡ slots_of c
alike_slots (Regular a) (Regular b) h = refl
alike_slots (Regular a) (Directory s p) h = absurd h
alike_slots (Regular a) (Link b) h = absurd h
alike_slots (Directory s p) (Regular b) h = absurd h
alike_slots (Directory s p) (Directory r q) h = h.0
alike_slots (Directory s p) (Link b) h = absurd h
alike_slots (Link a) (Regular b) h = absurd h
alike_slots (Link a) (Directory s p) h = absurd h
alike_slots (Link a) (Link b) h = refl

alike_parent : (c d : Content) → AreAlike c d → parent_of d ≡ parent_of c
alike_parent (Regular a) (Regular b) h = refl
alike_parent (Regular a) (Directory s p) h = absurd h
alike_parent (Regular a) (Link b) h = absurd h
alike_parent (Directory s p) (Regular b) h = absurd h
alike_parent (Directory s p) (Directory r q) h = ap Some h.1
alike_parent (Directory s p) (Link b) h = absurd h
alike_parent (Link a) (Regular b) h = absurd h
alike_parent (Link a) (Directory s p) h = absurd h
alike_parent (Link a) (Link b) h = refl

alike_due : (n : ℕ) (f g : File) (c d : Content) → AreAlike c d → g.links ≡ f.links → due_of n g d ≡ due_of n f c
alike_due n f g (Regular a) (Regular b) h same = same
alike_due n f g (Regular a) (Directory s p) h same = absurd h
alike_due n f g (Regular a) (Link b) h same = absurd h
alike_due n f g (Directory s p) (Regular b) h same = absurd h
alike_due n f g (Directory s p) (Directory r q) h same = refl
alike_due n f g (Directory s p) (Link b) h same = absurd h
alike_due n f g (Link a) (Regular b) h same = absurd h
alike_due n f g (Link a) (Directory s p) h same = absurd h
alike_due n f g (Link a) (Link b) h same = same

-- as many directories, where the files that are named are directories as before
pub subdirectories_alike : (t u : PlainTree) (slots : List (Option Entry))
    → ((i : ℕ) (e : Entry) → slice_get slots i ≡ Some (Some e) → is_some (parent_at u e.file) ≡ is_some (parent_at t e.file)) → subdirectories u slots ≡ subdirectories t slots
subdirectories_alike t u slots same = count_alike (names_directory u) (names_directory t) slots each where
  each : (i : ℕ) (s : Option Entry) → slice_get slots i ≡ Some s → names_directory u s ≡ names_directory t s
  each i None there = refl
  each i (Some e) there = same i e there

-- links that stay
links_alike : (t u : PlainTree) (f g : File) (c d : Content) → AreAlike c d → g.links ≡ f.links → ((q : ℕ) → parent_at u q ≡ parent_at t q) → HasLinks t f c → HasLinks u g d
links_alike t u f g (Regular a) (Regular b) h same parents links = tt
links_alike t u f g (Regular a) (Directory s p) h same parents links = absurd h
links_alike t u f g (Regular a) (Link b) h same parents links = absurd h
links_alike t u f g (Directory s p) (Regular b) h same parents links = absurd h
links_alike t u f g (Directory s p) (Directory r q) h same parents links =
    let a : subdirectories u r ≡ subdirectories t r = subdirectories_alike t u r (λ i e there. ap is_some (parents e.file)) in
    let b : subdirectories t r ≡ subdirectories t s = ap (subdirectories t) h.0 in
    omega (arith, a, b)
links_alike t u f g (Directory s p) (Link b) h same parents links = absurd h
links_alike t u f g (Link a) (Regular b) h same parents links = absurd h
links_alike t u f g (Link a) (Directory s p) h same parents links = absurd h
links_alike t u f g (Link a) (Link b) h same parents links = tt

alike_self : (c : Content) → AreAlike c c
alike_self (Regular a) = tt
alike_self (Directory s p) = (refl, refl)
alike_self (Link a) = tt

-- the same parents lead the same way
ancestor_alike : (t u : PlainTree) → ((q : ℕ) → parent_at u q ≡ parent_at t q) → (moves n : ℕ) → ancestor u moves n ≡ ancestor t moves n
unfolding ancestor
ancestor_alike t u parents zero n = refl
ancestor_alike t u parents (suc moves) n =
    ap (option_and_then (ancestor u moves)) (parents n) ∙ step (parent_at t n) (ancestor_alike t u parents moves) where
      step : (o : Option ℕ) → ((m : ℕ) → ancestor u moves m ≡ ancestor t moves m) → option_and_then (ancestor u moves) o ≡ option_and_then (ancestor t moves) o
      step None same = refl
      step (Some m) same = same m

-- a file whose names stay: what is changed of it
pub record IsSameShape (t : PlainTree) (n : ℕ) (f g : File) : Type 0 where
  pub there : table.get t.files n ≡ Some f
  pub content : AreAlike f.content g.content
  pub links : g.links ≡ f.links

module _ (now : Stamp) (t : PlainTree) (n : ℕ) (f g : File) (same : IsSameShape t n f g) where
  abbrev u : PlainTree
  u = edited now t (Changed n g ∷ [])

  abbrev now_there : File
  now_there = changed_at now g

  get_same : (q : ℕ) → q ≢ n → table.get u.files q ≡ table.get t.files q
  get_same q apart = get_edited now t (Changed n g ∷ []) q ∙ ap (λ b. cond b (Some now_there) (table.get t.files q)) (ne_eqb q n apart)

  get_new : table.get u.files n ≡ Some now_there
  get_new = get_edited now t (Changed n g ∷ []) n ∙ ap (λ b. cond b (Some now_there) (table.get t.files n)) (eq-eqb n n refl)

  -- whatever is asked of files is answered alike, where it is at this one
  asked : {A : Type 0} (ask : Option File → A) → ask (Some now_there) ≡ ask (Some f) → (q : ℕ) → ask (table.get u.files q) ≡ ask (table.get t.files q)
  asked ask here q = elim (cases_eq q n) [
    | inl is ↦ ap (λ x. ask (table.get u.files x)) is ∙ ap ask get_new ∙ here ∙ ap ask (sym same.there) ∙ ap (λ x. ask (table.get t.files x)) (sym is)
    | inr apart ↦ ap ask (get_same q apart)
  ]

  parents_same : (q : ℕ) → parent_at u q ≡ parent_at t q
  parents_same = asked (option_and_then (λ h. parent_of h.content)) (alike_parent f.content g.content same.content)

  inside_same : (d q : ℕ) → named_in u d q ≡ named_in t d q
  inside_same d q = asked (λ (o : Option File). option_map_or (λ h. count_by (names_file q) (slots_of h.content)) o 0)
      (ap (count_by (names_file q)) (alike_slots f.content g.content same.content)) d

  due_same : (q : ℕ) → due u q ≡ due t q
  due_same q = asked (λ (o : Option File). option_map_or (λ h. due_of q h h.content) o 0) (alike_due q f now_there f.content g.content same.content same.links) q

  naming_same : (q : ℕ) → naming_slots u q ≡ naming_slots t q
  naming_same q =
      let a = naming_edited now t (Changed n g ∷ []) (tt, tt) q in
      let b : named_in t n q ≡ names_of q f.content = named_in_at t n q f same.there in
      let c : names_of q g.content ≡ names_of q f.content = ap (count_by (names_file q)) (alike_slots f.content g.content same.content) in
      omega (arith, a, b, c, sum_by-cons (λ e. named_in t (number_of e) q) (Changed n g) [], sum_by-cons (gained (names_of q)) (Changed n g) [])

  links_same : IsWhole t → (q : ℕ) (h : File) → table.get u.files q ≡ Some h → HasLinks u h h.content
  links_same whole q h is = elim (cases_eq q n) [
    | inl at ↦
        let e : ◌≡◌ {A = Option File} (Some now_there) (Some h) = sym get_new ∙ ap (table.get u.files) (sym at) ∙ is in
        let h_is : now_there ≡ h = cc in
        subst (λ x. HasLinks u x x.content) h_is
        (links_alike t u f now_there f.content g.content same.content same.links parents_same (whole.links n f same.there))
    | inr apart ↦ links_alike t u h h h.content h.content (alike_self h.content) refl parents_same (whole.links q h (sym (get_same q apart) ∙ is))
  ]

  pub same_shaped : IsWhole t → IsShaped u
  same_shaped whole = record {
    root = parents_same 1 ∙ whole.root;
    named = λ q. naming_same q ∙ whole.named q ∙ sym (due_same q);
    links = links_same whole;
    inside = λ q p other is. inside_same p q ∙ whole.inside q p other (sym (parents_same q) ∙ is);
    leads = λ q p is. let l = whole.leads q p (sym (parents_same q) ∙ is) in (l.0, ancestor_alike t u parents_same l.0 q ∙ l.1);
  }
