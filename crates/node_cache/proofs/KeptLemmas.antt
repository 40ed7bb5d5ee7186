-- The pairs of a cache, and the entries that a contract sees.
use Rattle.std.proofs.Common.{arith, ◌≡◌, ℕ, zero, suc, ◌-◌, ◌≤◌, Bool, true, false, nat_eq, cond, List, [], ◌∷◌, map, take, length, slice_get, Option, Some, None, refl, sym, ap, subst, ◌∙◌}
use Rattle.std.proofs.lemmas.Bool.{eqb-true}
use Rattle.std.proofs.lemmas.List.{take-map, take_all, length-map}
use Rattle.std.proofs.lemmas.Option.{slice_get-map}
use Rattle.std.specs.Option.{option_map, option_map_or}
use Rattle.std.specs.Map.{lookup, lookup_entry, remove_entry}
use Rattle.lru.specs.LruCache.{LruCache, put_entries, displaced}
use Rattle.lru.proofs.CallerLemmas.{Contains-lookup_entry}
use Rattle.node_cache.specs.declared.entry.Entry.{Entry}
use Rattle.node_cache.specs.Cached.{held_of, but_for, put_first, pushed_out, or_last}

-- the entries without their keys
abbrev pub entries_in : List (ℕ × Entry) → List Entry
entries_in es = map (λ e. e.1) es

abbrev pub AreKeyed : List (ℕ × Entry) → Type 0
AreKeyed es = map (λ e. e.0) es ≡ map (λ e. e.1.number) es

pub numbers_are : (es : List (ℕ × Entry)) → map (λ e. e.1.number) es ≡ map (λ e. e.number) (entries_in es)
numbers_are [] = refl
numbers_are (e ∷ es) = ap (λ others. e.1.number ∷ others) (numbers_are es)

module _ (e : ℕ × Entry) (es : List (ℕ × Entry)) (keyed : AreKeyed (e ∷ es)) where
  pub first_key : e.0 ≡ e.1.number
  first_key = cc

  pub other_keys : AreKeyed es
  other_keys = cc

both_keys : (e : ℕ × Entry) (es : List (ℕ × Entry)) → e.0 ≡ e.1.number → AreKeyed es → AreKeyed (e ∷ es)
both_keys e es first others = cc

module _ (n : ℕ) where
  -- what is found under a key is the entry of the file
  pub held_is : (es : List (ℕ × Entry)) → AreKeyed es → lookup (nat_eq n) es ≡ held_of n (entries_in es)
  held_is [] keyed = refl
  held_is (e ∷ es) keyed =
      subst (λ k. cond (nat_eq n k) (Some e.1) (lookup (nat_eq n) es) ≡ held_of n (entries_in (e ∷ es))) (sym (first_key e es keyed))
      (ap (λ rest. cond (nat_eq n e.1.number) (Some e.1) rest) (held_is es (other_keys e es keyed)))

  by_test : (b : Bool) (e : ℕ × Entry) (es : List (ℕ × Entry)) (rest : List Entry) → entries_in (remove_entry (nat_eq n) es) ≡ rest
      → entries_in (cond b es (e ∷ remove_entry (nat_eq n) es)) ≡ cond b (entries_in es) (e.1 ∷ rest)
  by_test true e es rest same = refl
  by_test false e es rest same = ap (λ others. e.1 ∷ others) same

  -- and what is left there is the entries of the others
  pub left_are : (es : List (ℕ × Entry)) → AreKeyed es → entries_in (remove_entry (nat_eq n) es) ≡ but_for n (entries_in es)
  unfolding but_for
  left_are [] keyed = refl
  left_are (e ∷ es) keyed =
      subst (λ k. entries_in (cond (nat_eq n k) es (e ∷ remove_entry (nat_eq n) es)) ≡ but_for n (entries_in (e ∷ es))) (sym (first_key e es keyed))
      (by_test (nat_eq n e.1.number) e es (but_for n (entries_in es)) (left_are es (other_keys e es keyed)))

  keyed_by : (b : Bool) (e : ℕ × Entry) (es : List (ℕ × Entry)) → AreKeyed (e ∷ es) → AreKeyed (remove_entry (nat_eq n) es)
      → AreKeyed (cond b es (e ∷ remove_entry (nat_eq n) es))
  keyed_by true e es keyed others = other_keys e es keyed
  keyed_by false e es keyed others = both_keys e (remove_entry (nat_eq n) es) (first_key e es keyed) others

  pub left_are_keyed : (es : List (ℕ × Entry)) → AreKeyed es → AreKeyed (remove_entry (nat_eq n) es)
  left_are_keyed [] keyed = refl
  left_are_keyed (e ∷ es) keyed = keyed_by (nat_eq n e.0) e es keyed (left_are_keyed es (other_keys e es keyed))

  fewer_by : (b : Bool) (e : ℕ × Entry) (es : List (ℕ × Entry)) → length (remove_entry (nat_eq n) es) ≤ length es
      → length (cond b es (e ∷ remove_entry (nat_eq n) es)) ≤ suc (length es)
  fewer_by true e es few = omega arith
  fewer_by false e es few = omega (arith, few)

  pub left_are_no_more : (es : List (ℕ × Entry)) → length (remove_entry (nat_eq n) es) ≤ length es
  left_are_no_more [] = omega arith
  left_are_no_more (e ∷ es) = fewer_by (nat_eq n e.0) e es (left_are_no_more es)

  -- where one is found, fewer are left; where none is, all are left
  abbrev LeavesFewer : List (ℕ × Entry) → Option (ℕ × Entry) → Type 0
  LeavesFewer es None = remove_entry (nat_eq n) es ≡ es
  LeavesFewer es (Some f) = suc (length (remove_entry (nat_eq n) es)) ≤ length es

  one_fewer : (e : ℕ × Entry) (es : List (ℕ × Entry)) (o : Option (ℕ × Entry)) → LeavesFewer es o → (b : Bool)
      → nat_eq n e.0 ≡ b → LeavesFewer (e ∷ es) (cond b (Some e) o)
  one_fewer e es o left true is = rw is (omega arith)
  one_fewer e es None left false is = rw is (ap (λ others. e ∷ others) left)
  one_fewer e es (Some f) left false is = rw is (omega (arith, left))

  pub leaves_fewer : (es : List (ℕ × Entry)) → LeavesFewer es (lookup_entry (nat_eq n) es)
  leaves_fewer [] = refl
  leaves_fewer (e ∷ es) = one_fewer e es (lookup_entry (nat_eq n) es) (leaves_fewer es) (nat_eq n e.0) refl

-- ---- an entry is put

length-take-most : {X : Type 0} → (i : ℕ) (xs : List X) → length (take i xs) ≤ i
length-take-most zero xs = omega arith
length-take-most (suc i) [] = omega arith
length-take-most (suc i) (x ∷ xs) = let rest = length-take-most i xs in omega (arith, rest)

module _ (files : LruCache ℕ Entry) (e : Entry) (keyed : AreKeyed files.entries) (cap : files.cap ≡ 64) (few : length files.entries ≤ 64) where
  abbrev n : ℕ
  n = e.number

  abbrev after : Option (ℕ × Entry) → List (ℕ × Entry)
  after o = option_map_or (λ f. (f.0, e) ∷ remove_entry (nat_eq n) files.entries) o ((n, e) ∷ take (files.cap - 1) files.entries)

  others_fit : length (remove_entry (nat_eq n) files.entries) ≤ 63 → take 63 (but_for n (entries_in files.entries)) ≡ but_for n (entries_in files.entries)
  others_fit fit =
      let same = left_are n files.entries keyed in
      take_all 63 (but_for n (entries_in files.entries))
      (subst (λ l. length l ≤ 63) same (subst (λ k. k ≤ 63) (sym (length-map (remove_entry (nat_eq n) files.entries) (λ f. f.1))) fit))

  put_by : (o : Option (ℕ × Entry)) → LeavesFewer n files.entries o → entries_in (after o) ≡ put_first e (entries_in files.entries)
  put_by None left =
      let none : but_for n (entries_in files.entries) ≡ entries_in files.entries = sym (left_are n files.entries keyed) ∙ ap (λ l. entries_in l) left in
      rw cap (ap (λ l. e ∷ l) (sym (take-map (λ f. f.1) 63 files.entries) ∙ ap (λ l. take 63 l) (sym none)))
  put_by (Some f) left =
      ap (λ l. e ∷ l) (left_are n files.entries keyed ∙ sym (others_fit (omega (arith, left, few))))

  pub put_is : entries_in (put_entries nat_eq files n e) ≡ put_first e (entries_in files.entries)
  put_is = put_by (lookup_entry (nat_eq n) files.entries) (leaves_fewer n files.entries)

  keyed_by_put : (o : Option (ℕ × Entry)) → lookup_entry (nat_eq n) files.entries ≡ o → AreKeyed (after o)
  keyed_by_put None at = both_keys (n, e) (take (files.cap - 1) files.entries) refl
      (sym (take-map (λ f. f.0) (files.cap - 1) files.entries) ∙ ap (λ l. take (files.cap - 1) l) keyed ∙ take-map (λ f. f.1.number) (files.cap - 1) files.entries)
  keyed_by_put (Some f) at =
      both_keys (f.0, e) (remove_entry (nat_eq n) files.entries) (sym (eqb-true n f.0 (Contains-lookup_entry (nat_eq n) files.entries f at).1))
      (left_are_keyed n files.entries keyed)

  pub put_is_keyed : AreKeyed (put_entries nat_eq files n e)
  put_is_keyed = keyed_by_put (lookup_entry (nat_eq n) files.entries) refl

  few_by_put : (o : Option (ℕ × Entry)) → LeavesFewer n files.entries o → length (after o) ≤ 64
  few_by_put None left = rw cap (let short = length-take-most 63 files.entries in omega (arith, short))
  few_by_put (Some f) left = omega (arith, left, few)

  pub put_is_few : length (put_entries nat_eq files n e) ≤ 64
  put_is_few = few_by_put (lookup_entry (nat_eq n) files.entries) (leaves_fewer n files.entries)

  out_of : (o : Option Entry) (last : Option (ℕ × Entry)) → option_map (λ f. f.1) (option_map_or (λ old. Some (n, old)) o last) ≡ or_last o (option_map (λ f. f.1) last)
  out_of None last = refl
  out_of (Some old) last = refl

  pub out_is : option_map (λ f. f.1) (displaced nat_eq files n e) ≡ pushed_out e (entries_in files.entries)
  out_is =
      rw cap (out_of (lookup (nat_eq n) files.entries) (slice_get files.entries 63)
      ∙ ap (λ o. or_last o (option_map (λ f. f.1) (slice_get files.entries 63))) (held_is n files.entries keyed)
      ∙ ap (λ last. or_last (held_of n (entries_in files.entries)) last) (sym (slice_get-map (λ f. f.1) files.entries 63)))
