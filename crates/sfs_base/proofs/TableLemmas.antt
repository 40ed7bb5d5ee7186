-- A table over a map of the library is the finite map that its entries make.
use Rattle.std.proofs.Common.{◌≡◌, ℕ, zero, suc, ◌-◌, ◌<◌, true, false, cond, List, [], ◌∷◌, length, map, Option, Some, None, refl, sym, ap, subst, ◌∙◌, arith}
use Rattle.std.specs.Prelude.{◌≤◌, Result, Ok, Err, OnErr, slice_get, option_map, IsSome, IfNone, IfSome}
use Rattle.std.specs.declared.cmp.Ordering.TheVariants.{Less}
use Rattle.std.specs.List.{AllByRecursion}
use Rattle.std.specs.List.Sorted.{IsStrictlySortedBy}
use Rattle.std.specs.Ordering.{nat_cmp, eq_by_cmp, is_gt}
use Rattle.std.proofs.lemmas.List.{nil_from_length}
use Rattle.std.specs.Cmp.{eq_by_cmp_equiv, nat_cmp_total}
use Rattle.std.specs.declared.ops.Bound.TheVariants.{Included, Unbounded}
use Rattle.std.specs.BTreeMap.{BTreeMap, is_at}
use Rattle.std.specs.BTreeMap.Range.{IsRangeOf, IsEntryInRange}
use Rattle.std.proofs.lemmas.Bool.Decides.{nat_tests}
use Rattle.std.proofs.lemmas.Map.Keys.{le_from_not_gt}
use Rattle.std.specs.Map.{lookup, keys_of}
use Rattle.std.specs.FinMap.Entries.{by_order}
use Rattle.std.specs.FinMap.{find, put, get, len, keys, empty, entries, entries-insert, len-entries, len-empty, insert, remove, from_entries, get-from_entries, get-insert, get-remove, same_map, nat_cmp-IsAntisymmetric}

-- nothing is above 0 where a test says that nothing is there
pub no_entry : (n : ℕ) → ((false ≡ true → 0 < n) × (0 < n → false ≡ true)) → n ≡ 0
no_entry zero h = refl
no_entry (suc n) h = absurd (let e : false ≡ true = h.1 (omega arith) in cc)

-- what holds at all holds of an error, and where there is nothing
pub on_err : {X E P : Type 0} (r : Result X E) → P → OnErr r P
on_err (Ok x) p = tt
on_err (Err e) p = p

pub on_none : {X P : Type 0} (o : Option X) → P → IfNone o P
on_none None p = p
on_none (Some x) p = tt

not_above : (a b : ℕ) → a ≤ b → is_gt (nat_cmp a b) ≡ false
not_above a b le = grind (arith, nat_tests)

module _ {X : Type 0} where
  -- a look-up in the entries
  find_entry : (es : List (ℕ × X)) (q : ℕ) → find nat_cmp q es ≡ lookup (is_at (nat_cmp q)) es
  find_entry [] q = refl
  find_entry (e ∷ es) q = ap (cond (is_at (nat_cmp q) e.0) (Some e.1)) (find_entry es q)

  -- what the map that the entries make has at a number
  pub get_entry : (es : List (ℕ × X)) (q : ℕ) → get (from_entries {R = nat_cmp} es) q ≡ lookup (is_at (nat_cmp q)) es
  get_entry es q = get-from_entries nat_cmp_total es q ∙ find_entry es q

  -- entries that differ at one number, where they have this value, make the map with it put there
  pub entry_put : (es fs : List (ℕ × X)) (k : ℕ) (v : X)
      → ((q : ℕ) → lookup (is_at (nat_cmp q)) fs ≡ cond (is_at (nat_cmp k) q) (Some v) (lookup (is_at (nat_cmp q)) es))
      → from_entries {R = nat_cmp} fs ≡ insert (from_entries es) k v
  entry_put es fs k v changed = same_map nat_cmp_total nat_cmp-IsAntisymmetric _ _ (λ q.
      get_entry fs q ∙ changed q ∙ ap (λ b. cond b (Some v) (lookup (is_at (nat_cmp q)) es)) ((eq_by_cmp_equiv nat_cmp_total).symm k q)
      ∙ sym (get-insert nat_cmp_total (from_entries es) k v q ∙ ap (cond (eq_by_cmp nat_cmp q k) (Some v)) (get_entry es q)))

  -- entries that differ at one number, where they have none, make the map without it
  pub entry_removed : (es fs : List (ℕ × X)) (k : ℕ)
      → ((q : ℕ) → lookup (is_at (nat_cmp q)) fs ≡ cond (is_at (nat_cmp k) q) None (lookup (is_at (nat_cmp q)) es))
      → from_entries {R = nat_cmp} fs ≡ remove (from_entries es) k
  entry_removed es fs k changed = same_map nat_cmp_total nat_cmp-IsAntisymmetric _ _ (λ q.
      get_entry fs q ∙ changed q ∙ ap (λ b. cond b None (lookup (is_at (nat_cmp q)) es)) ((eq_by_cmp_equiv nat_cmp_total).symm k q)
      ∙ sym (get-remove nat_cmp_total (from_entries es) k q ∙ ap (cond (eq_by_cmp nat_cmp q k) None) (get_entry es q)))

  -- a number below all others goes to the front
  put_first : (es : List (ℕ × X)) (k : ℕ) (v : X) → AllByRecursion (λ y. nat_cmp k y ≡ Less) (keys_of es) → put nat_cmp k v es ≡ (k, v) ∷ es
  put_first [] k v below = refl
  put_first (e ∷ es) k v below = ap (λ o. by_order o ((k, v) ∷ e ∷ es) ((e.0, v) ∷ es) (e ∷ put nat_cmp k v es)) below.0

  -- the entries of the map that ordered entries make are those
  pub entries-from_entries : (es : List (ℕ × X)) → IsStrictlySortedBy nat_cmp (keys_of es) → entries (from_entries {R = nat_cmp} es) ≡ es
  unfolding IsStrictlySortedBy
  entries-from_entries [] ordered = nil_from_length _ (sym (len-entries (empty {R = nat_cmp})) ∙ len-empty nat_cmp X)
  entries-from_entries (e ∷ es) ordered =
      entries-insert nat_cmp_total (from_entries es) e.0 e.1 ∙ ap (put nat_cmp e.0 e.1) (entries-from_entries es ordered.1) ∙ put_first es e.0 e.1 ordered.0

  -- and there are as many
  pub len-from_entries : (es : List (ℕ × X)) → IsStrictlySortedBy nat_cmp (keys_of es) → len (from_entries {R = nat_cmp} es) ≡ length es
  len-from_entries es ordered = len-entries (from_entries {R = nat_cmp} es) ∙ ap (length {A = ℕ × X}) (entries-from_entries es ordered)

  -- the number of an entry
  key_at : (es : List (ℕ × X)) (i : ℕ) (e : ℕ × X) → slice_get es i ≡ Some e → slice_get (map (λ (p : ℕ × X). p.0) es) i ≡ Some e.0
  key_at [] i e h = absurd cc
  key_at (x ∷ es) zero e h = ap (λ (o : Option (ℕ × X)). option_map (λ (p : ℕ × X). p.0) o) h
  key_at (x ∷ es) (suc i) e h = key_at es i e h

  -- the last of them
  pub last_there : (es : List (ℕ × X)) (e : ℕ × X) → IsStrictlySortedBy nat_cmp (keys_of es) → slice_get es (length es - 1) ≡ Some e
      → Some e.0 ≡ slice_get (keys (from_entries {R = nat_cmp} es)) (len (from_entries {R = nat_cmp} es) - 1)
  last_there es e ordered last =
      sym (key_at es (length es - 1) e last)
      ∙ ap (λ (n : ℕ). slice_get (map (λ (p : ℕ × X). p.0) es) (n - 1)) (sym (len-from_entries es ordered))
      ∙ ap (λ (fs : List (ℕ × X)). slice_get (map (λ (p : ℕ × X). p.0) fs) (len (from_entries {R = nat_cmp} es) - 1)) (sym (entries-from_entries es ordered))

  -- where there is none
  pub last_absent : (es : List (ℕ × X)) → length es ≡ 0 → None ≡ slice_get (keys (from_entries {R = nat_cmp} es)) (len (from_entries {R = nat_cmp} es) - 1)
  unfolding IsStrictlySortedBy
  last_absent [] none = ap (λ (fs : List (ℕ × X)). slice_get (map (λ (p : ℕ × X). p.0) fs) (len (from_entries {X = X} {R = nat_cmp} []) - 1)) (sym (entries-from_entries [] tt))
  last_absent (e ∷ es) none = absurd (omega arith)

  -- the range of a map from a number on that has nothing
  pub range_none : (m : BTreeMap ℕ X) (at : ℕ) (r : List (ℕ × X)) → IsRangeOf nat_cmp (Included at) Unbounded m r → r ≡ []
      → (q : ℕ) → at ≤ q → get (from_entries {R = nat_cmp} m.entries) q ≡ None
  range_none m at r range none q le = get_entry m.entries q ∙ range.5 none q (not_above at q le, tt)

  -- the place of the first
  first_in : (m : BTreeMap ℕ X) (at : ℕ) (e : ℕ × X) → IsEntryInRange nat_cmp (Included at) Unbounded m e → (at ≤ e.0) × IsSome (get (from_entries {R = nat_cmp} m.entries) e.0)
  first_in m at e h = (le_from_not_gt at e.0 h.0.0, subst IsSome (sym (get_entry m.entries e.0 ∙ h.1)) refl)

  -- and the first of one that has something
  pub range_first : (m : BTreeMap ℕ X) (at : ℕ) (r : List (ℕ × X)) (e : ℕ × X) (t : List (ℕ × X)) → IsRangeOf nat_cmp (Included at) Unbounded m r → r ≡ e ∷ t
      → (at ≤ e.0) × IsSome (get (from_entries {R = nat_cmp} m.entries) e.0)
  range_first m at r e t range is =
      first_in m at e (subst (λ (es : List (ℕ × X)). IfSome (slice_get es 0) (IsEntryInRange nat_cmp (Included at) Unbounded m)) is range.1)

  -- what stands before the first: nothing
  before_first : (m : BTreeMap ℕ X) (at : ℕ) (e : ℕ × X) (t : List (ℕ × X)) → IsRangeOf nat_cmp (Included at) Unbounded m (e ∷ t)
      → (q : ℕ) → at ≤ q → q < e.0 → (o : Option X) → lookup (is_at (nat_cmp q)) m.entries ≡ o → o ≡ None
  before_first m at e t range q le lt None is = refl
  before_first m at e t range q le lt (Some v) is = absurd (let h : e.0 ≤ q = le_from_not_gt e.0 q (range.2 q (not_above at q le, tt) (subst IsSome (sym is) refl)) in omega arith)

  pub range_least : (m : BTreeMap ℕ X) (at : ℕ) (r : List (ℕ × X)) (e : ℕ × X) (t : List (ℕ × X)) → IsRangeOf nat_cmp (Included at) Unbounded m r → r ≡ e ∷ t
      → (q : ℕ) → at ≤ q → q < e.0 → get (from_entries {R = nat_cmp} m.entries) q ≡ None
  range_least m at r e t range is q le lt =
      get_entry m.entries q ∙ before_first m at e t (subst (IsRangeOf nat_cmp (Included at) Unbounded m) is range) q le lt _ refl
