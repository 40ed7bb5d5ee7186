-- Sums over the entries of finite maps from numbers, and look-ups after a test of the keys.
use Rattle.std.proofs.Common.{◌≡◌, ◌≢◌, ◌⊎◌, inl, inr, ℕ, suc, ◌+◌, ◌-◌, ◌<◌, ◌≤◌, Bool, true, false, cond, T, ◌&&◌, List, [], ◌∷◌, length, map, Option, Some, None, refl, sym, ap, subst, ◌∙◌, arith, sum_by}
use Rattle.std.specs.Prelude.{nat_lt, filter, slice_get, IsSome, OnSome, is_some}
use Rattle.std.specs.Option.{option_map_or}
use Rattle.std.specs.declared.cmp.Ordering.TheVariants.{Less, Equal, Greater}
use Rattle.std.specs.Ordering.{nat_cmp, eq_by_cmp, is_lt, is_eq}
use Rattle.std.specs.Cmp.{nat_cmp_total, ranked}
use Rattle.std.specs.FinMap.Entries.{by_order, below_all, where_key, is_sorted-where_key, find-where_key}
use Rattle.std.specs.FinMap.{FinMap, find, put, is_sorted, get, get-entries, get-insert, get-remove, entries, entries_sorted, entries-insert, insert, remove, keys, len, len-entries, retain_keys, get-retain_keys, from_sorted, entries-from_sorted, get-from_sorted, same_map, nat_cmp-IsAntisymmetric}
use Rattle.std.proofs.lemmas.List.Sums.{sum_by-cons}
use Rattle.std.proofs.lemmas.Bool.{cases_eq}
use Rattle.std.proofs.lemmas.Bool.Decides.{nat_tests}

-- ---- the order of numbers

below_from_test : (a b : ℕ) → T (is_lt (nat_cmp a b)) → a < b
below_from_test a b h = grind (arith, nat_tests)

differs_below : (a b : ℕ) → a < b → eq_by_cmp nat_cmp a b ≡ false
differs_below a b h = grind (arith, nat_tests)

same_number : (q k : ℕ) → q ≡ k → eq_by_cmp nat_cmp q k ≡ true
same_number q k same = grind (arith, nat_tests)

other_number : (q k : ℕ) → q ≢ k → eq_by_cmp nat_cmp q k ≡ false
other_number q k other = grind (arith, nat_tests)

first : (a b : Bool) → T (a && b) → T a
first true b p = tt
first false b p = p

second : (a b : Bool) → T (a && b) → T b
second true b p = p
second false b p = absurd p

-- the same number: what stands at the one stands at the other
same_place : (a b : ℕ) → nat_cmp a b ≡ Equal → a ≡ b
same_place = nat_cmp-IsAntisymmetric

module _ {X : Type 0} where
  -- nothing is found below all entries
  none_below : (q : ℕ) (x : ℕ) (es : List (ℕ × X)) → q ≤ x → T (below_all nat_cmp x es) → find nat_cmp q es ≡ None
  none_below q x [] le h = refl
  none_below q x (e ∷ es) le h =
      let lt' : q < e.0 = let k : x < e.0 = below_from_test x e.0 (first _ _ h) in omega arith in
      ap (λ b. cond b (Some e.1) (find nat_cmp q es)) (differs_below q e.0 lt') ∙ none_below q x es le (second _ _ h)

  -- the last number of a list of entries
  abbrev last_of : List (ℕ × X) → Option ℕ
  last_of es = slice_get (map (λ e. e.0) es) (length es - 1)

  last_step : (e d : ℕ × X) (es : List (ℕ × X)) → last_of (e ∷ d ∷ es) ≡ last_of (d ∷ es)
  last_step e d es =
      ap (λ n. slice_get (map (λ (x : ℕ × X). x.0) (e ∷ d ∷ es)) n) (let n : length (e ∷ d ∷ es) - 1 ≡ suc (length (d ∷ es) - 1) = omega arith in n)

  last_none : (es : List (ℕ × X)) → last_of es ≡ None → es ≡ []
  last_none [] h = refl
  last_none (e ∷ []) h = absurd (cc)
  last_none (e ∷ d ∷ es) h = absurd (let k : d ∷ es ≡ [] = last_none (d ∷ es) (sym (last_step e d es) ∙ h) in cc)

  found_at : (q : ℕ) (e : ℕ × X) (es : List (ℕ × X)) → q ≡ e.0 → IsSome (find nat_cmp q (e ∷ es))
  found_at q e es same = ap (λ b. is_some (cond b (Some e.1) (find nat_cmp q es))) (let is : eq_by_cmp nat_cmp q e.0 ≡ true = grind (arith, nat_tests) in is)

  found_behind : (q : ℕ) (e : ℕ × X) (es : List (ℕ × X)) → IsSome (find nat_cmp q es) → IsSome (find nat_cmp q (e ∷ es))
  found_behind q e es there = elim (eq_by_cmp nat_cmp q e.0) as (λ b. IsSome (cond b (Some e.1) (find nat_cmp q es))) [ true ↦ refl | false ↦ there ]

  absent_behind : (q : ℕ) (e : ℕ × X) (es : List (ℕ × X)) → e.0 < q → find nat_cmp q es ≡ None → find nat_cmp q (e ∷ es) ≡ None
  absent_behind q e es lt none = ap (λ b. cond b (Some e.1) (find nat_cmp q es)) (let is : eq_by_cmp nat_cmp q e.0 ≡ false = grind (arith, nat_tests) in is) ∙ none

  -- what is found is above what stands before
  above_first : (q x : ℕ) (es : List (ℕ × X)) → IsSome (find nat_cmp q es) → T (below_all nat_cmp x es) → x < q
  above_first q x es there below = elim (nat_lt x q) as (λ b. nat_lt x q ≡ b → x < q) [
    | true ↦ λ p. grind (arith, nat_tests)
    | false ↦ λ p. absurd (let le : q ≤ x = grind (arith, nat_tests) in subst T (sym there ∙ ap is_some (none_below q x es le below)) tt)
  ] refl

  last_has : (es : List (ℕ × X)) (g : ℕ) → T (is_sorted nat_cmp es) → last_of es ≡ Some g
      → IsSome (find nat_cmp g es) × ((q : ℕ) → g < q → find nat_cmp q es ≡ None)
  last_has [] g sorted h = absurd (cc)
  last_has (e ∷ []) g sorted h =
      let same : e.0 ≡ g = cc in
      (found_at g e [] (sym same), λ q lt. absent_behind q e [] (omega arith) refl)
  last_has (e ∷ d ∷ es) g sorted h =
      let rest = last_has (d ∷ es) g (second (below_all nat_cmp e.0 (d ∷ es)) (is_sorted nat_cmp (d ∷ es)) sorted) (sym (last_step e d es) ∙ h) in
      let above : e.0 < g = above_first g e.0 (d ∷ es) rest.0 (first (below_all nat_cmp e.0 (d ∷ es)) (is_sorted nat_cmp (d ∷ es)) sorted) in
      (found_behind g e (d ∷ es) rest.0, λ q lt. absent_behind q e (d ∷ es) (omega arith) (rest.1 q lt))

module _ {X : Type 0} (f : ℕ × X → ℕ) where
  -- what an entry counts: 0 where there is none
  abbrev counted : ℕ → Option X → ℕ
  counted k found = option_map_or (λ v. f (k, v)) found 0

  sum_put : (k : ℕ) (v : X) (es : List (ℕ × X)) → T (is_sorted nat_cmp es) → sum_by f (put nat_cmp k v es) + counted k (find nat_cmp k es) ≡ sum_by f es + f (k, v)
  sum_put k v [] h = omega (arith, sum_by-cons f (k, v) [])
  sum_put k v (e ∷ es) h =
      elim (nat_cmp k e.0) as (λ r. nat_cmp k e.0 ≡ r → sum_by f (by_order r ((k, v) ∷ e ∷ es) ((e.0, v) ∷ es) (e ∷ put nat_cmp k v es))
      + counted k (cond (is_eq r) (Some e.1) (find nat_cmp k es)) ≡ sum_by f (e ∷ es) + f (k, v)) [
        | Less ↦ λ p.
            let lt : k < e.0 = ranked k e.0 Less (sym p) in
            let none : counted k (find nat_cmp k es) ≡ 0 = ap (counted k) (none_below k e.0 es (omega arith) (first _ _ h)) in
            omega (arith, none, sum_by-cons f (k, v) (e ∷ es))
        | Equal ↦ λ p.
            let same : e.0 ≡ k = sym (same_place k e.0 p) in
            let a : f (e.0, v) ≡ f (k, v) = ap (λ q. f (q, v)) same in
            let b : f e ≡ f (k, e.1) = ap (λ q. f (q, e.1)) same in
            omega (arith, a, b, sum_by-cons f (e.0, v) es, sum_by-cons f e es)
        | Greater ↦ λ p. omega (arith, sum_by-cons f e es, sum_by-cons f e (put nat_cmp k v es), sum_put k v es (second _ _ h))
      ] refl

module _ {X : Type 0} where
  -- ---- the greatest number

  -- the greatest number of a map: it has a value, and none above it has one
  pub greatest_has : (m : FinMap nat_cmp X) (g : ℕ) → slice_get (keys m) (len m - 1) ≡ Some g → IsSome (get m g) × ((q : ℕ) → g < q → get m q ≡ None)
  greatest_has m g is =
      let has = last_has (entries m) g (entries_sorted m) (subst (λ (n : ℕ). slice_get (keys m) (n - 1) ≡ Some g) (len-entries m) is) in
      (subst IsSome (sym (get-entries m g)) has.0, λ q lt. get-entries m q ∙ has.1 q lt)

  -- where there is none, there is no value
  pub greatest_none : (m : FinMap nat_cmp X) → slice_get (keys m) (len m - 1) ≡ None → (q : ℕ) → get m q ≡ None
  greatest_none m is q =
      get-entries m q ∙ ap (find nat_cmp q) (last_none (entries m) (subst (λ (n : ℕ). slice_get (keys m) (n - 1) ≡ None) (len-entries m) is))

  -- it is the greatest where one with a value has none above it
  pub greatest_is : (m : FinMap nat_cmp X) (g : ℕ) → IsSome (get m g) → ((q : ℕ) → g < q → get m q ≡ None) → slice_get (keys m) (len m - 1) ≡ Some g
  greatest_is m g there above = go (slice_get (keys m) (len m - 1)) refl where
    go : (o : Option ℕ) → slice_get (keys m) (len m - 1) ≡ o → o ≡ Some g
    go None is = absurd (subst T (sym there ∙ ap is_some (greatest_none m is g)) tt)
    go (Some h) is = ap Some (same (greatest_has m h is).0 (greatest_has m h is).1) where
      same : IsSome (get m h) → ((q : ℕ) → h < q → get m q ≡ None) → h ≡ g
      same here behind = elim (nat_lt h g) as (λ b. nat_lt h g ≡ b → h ≡ g) [
        | true ↦ λ p. absurd (subst T (sym there ∙ ap is_some (behind g (grind (arith, nat_tests)))) tt)
        | false ↦ λ p. elim (nat_lt g h) as (λ b. nat_lt g h ≡ b → h ≡ g) [
          | true ↦ λ q. absurd (subst T (sym here ∙ ap is_some (above h (grind (arith, nat_tests)))) tt)
          | false ↦ λ q. grind (arith, nat_tests)
        ] refl
      ] refl

  -- ---- a test of the numbers

  pub get_retain : (m : FinMap nat_cmp X) (p : ℕ → Bool) (q : ℕ) → get (retain_keys m p) q ≡ cond (p q) (get m q) None
  get_retain m p q = get-retain_keys m p q (λ x same. ap p (sym (same_place q x same)))

  pub entries_retain : (m : FinMap nat_cmp X) (p : ℕ → Bool) → entries (retain_keys m p) ≡ filter (λ e. p e.0) (entries m)
  entries_retain m p =
      let sorted : T (is_sorted nat_cmp (where_key nat_cmp p (entries m))) = is_sorted-where_key nat_cmp p (entries m) (entries_sorted m) in
      ap (λ n. entries n) (same_map nat_cmp_total nat_cmp-IsAntisymmetric (retain_keys m p) (from_sorted (where_key nat_cmp p (entries m))) (λ q.
      get_retain m p q ∙ ap (λ (o : Option X). cond (p q) o None) (get-entries m q)
      ∙ sym (get-from_sorted nat_cmp (where_key nat_cmp p (entries m)) q sorted ∙ find-where_key nat_cmp p q (λ x same. ap p (sym (same_place q x same))) (entries m))))
      ∙ entries-from_sorted nat_cmp (where_key nat_cmp p (entries m)) sorted

-- what holds where there is a value, at one that is there
pub where_some : {X P : Type 0} (o : Option X) (x : X) → o ≡ Some x → OnSome o P → P
where_some None x is holds = absurd (cc)
where_some (Some y) x is holds = holds

module _ {X : Type 0} where
  -- ---- look-ups after a change

  -- two maps with the same look-ups are the same
  pub same_look_ups : (m n : FinMap nat_cmp X) → ((q : ℕ) → get m q ≡ get n q) → m ≡ n
  same_look_ups m n same = same_map nat_cmp_total nat_cmp-IsAntisymmetric m n same

  pub get_inserted : (m : FinMap nat_cmp X) (k : ℕ) (v : X) (q : ℕ) → q ≡ k → get (insert m k v) q ≡ Some v
  get_inserted m k v q same = get-insert nat_cmp_total m k v q ∙ ap (λ b. cond b (Some v) (get m q)) (same_number q k same)

  pub get_past_insert : (m : FinMap nat_cmp X) (k : ℕ) (v : X) (q : ℕ) → q ≢ k → get (insert m k v) q ≡ get m q
  get_past_insert m k v q other = get-insert nat_cmp_total m k v q ∙ ap (λ b. cond b (Some v) (get m q)) (other_number q k other)

  pub get_removed : (m : FinMap nat_cmp X) (k q : ℕ) → q ≡ k → get (remove m k) q ≡ None
  get_removed m k q same = get-remove nat_cmp_total m k q ∙ ap (λ b. cond b None (get m q)) (same_number q k same)

  pub get_past_remove : (m : FinMap nat_cmp X) (k q : ℕ) → q ≢ k → get (remove m k) q ≡ get m q
  get_past_remove m k q other = get-remove nat_cmp_total m k q ∙ ap (λ b. cond b None (get m q)) (other_number q k other)

  -- a value put over another
  pub insert_over : (m : FinMap nat_cmp X) (k : ℕ) (v w : X) → insert (insert m k v) k w ≡ insert m k w
  insert_over m k v w = same_look_ups _ _ (λ q. go q (cases_eq q k)) where
    go : (q : ℕ) → (q ≡ k) ⊎ (q ≡ k → ⊥) → get (insert (insert m k v) k w) q ≡ get (insert m k w) q
    go q (inl e) = get_inserted (insert m k v) k w q e ∙ sym (get_inserted m k w q e)
    go q (inr ne) = get_past_insert (insert m k v) k w q ne ∙ get_past_insert m k v q ne ∙ sym (get_past_insert m k w q ne)

  -- the value that stands there, put again
  pub insert_same : (m : FinMap nat_cmp X) (k : ℕ) (v : X) → get m k ≡ Some v → insert m k v ≡ m
  insert_same m k v there = same_look_ups _ _ (λ q. go q (cases_eq q k)) where
    go : (q : ℕ) → (q ≡ k) ⊎ (q ≡ k → ⊥) → get (insert m k v) q ≡ get m q
    go q (inl e) = get_inserted m k v q e ∙ sym (ap (get m) e ∙ there)
    go q (inr ne) = get_past_insert m k v q ne

  -- what stood there, put back over another value
  pub insert_back : (m : FinMap nat_cmp X) (k : ℕ) (v w : X) → get m k ≡ Some v → insert (insert m k w) k v ≡ m
  insert_back m k v w there = insert_over m k w v ∙ insert_same m k v there

  -- a new value, taken out again
  pub remove_back : (m : FinMap nat_cmp X) (k : ℕ) (w : X) → get m k ≡ None → remove (insert m k w) k ≡ m
  remove_back m k w none = same_look_ups _ _ (λ q. go q (cases_eq q k)) where
    go : (q : ℕ) → (q ≡ k) ⊎ (q ≡ k → ⊥) → get (remove (insert m k w) k) q ≡ get m q
    go q (inl e) = get_removed (insert m k w) k q e ∙ sym (ap (get m) e ∙ none)
    go q (inr ne) = get_past_remove (insert m k w) k q ne ∙ get_past_insert m k w q ne

module _ {X : Type 0} (f : ℕ × X → ℕ) where
  -- ---- sums over all entries

  -- what the value at a number counts: 0 where there is none
  abbrev pub counted_at : FinMap nat_cmp X → ℕ → ℕ
  counted_at m k = option_map_or (λ v. f (k, v)) (get m k) 0

  -- a value that is put counts in place of the one that stood there
  pub sum_insert : (m : FinMap nat_cmp X) (k : ℕ) (v : X) → sum_by f (entries (insert m k v)) + counted_at m k ≡ sum_by f (entries m) + f (k, v)
  sum_insert m k v =
      let a : sum_by f (entries (insert m k v)) ≡ sum_by f (put nat_cmp k v (entries m)) = ap (sum_by f) (entries-insert nat_cmp_total m k v) in
      let b : counted_at m k ≡ counted f k (find nat_cmp k (entries m)) = ap (counted f k) (get-entries m k) in
      omega (arith, a, b, sum_put f k v (entries m) (entries_sorted m))

  -- a value that is there, taken out and put back
  put_back : (m : FinMap nat_cmp X) (k : ℕ) (v : X) → get m k ≡ Some v → insert (remove m k) k v ≡ m
  put_back m k v is = same_map nat_cmp_total nat_cmp-IsAntisymmetric _ _ (λ q.
      get-insert nat_cmp_total (remove m k) k v q
      ∙ ap (cond (eq_by_cmp nat_cmp q k) (Some v)) (get-remove nat_cmp_total m k q)
      ∙ elim (eq_by_cmp nat_cmp q k) as (λ b. eq_by_cmp nat_cmp q k ≡ b → cond b (Some v) (cond b None (get m q)) ≡ get m q) [
        | true ↦ λ p. sym (ap (get m) (let same : q ≡ k = grind (arith, nat_tests) in same) ∙ is)
        | false ↦ λ p. refl
      ] refl)

  absent_removed : (m : FinMap nat_cmp X) (k : ℕ) → get m k ≡ None → remove m k ≡ m
  absent_removed m k is = same_map nat_cmp_total nat_cmp-IsAntisymmetric _ _ (λ q.
      get-remove nat_cmp_total m k q
      ∙ elim (eq_by_cmp nat_cmp q k) as (λ b. eq_by_cmp nat_cmp q k ≡ b → cond b None (get m q) ≡ get m q) [
        | true ↦ λ p. sym (ap (get m) (let same : q ≡ k = grind (arith, nat_tests) in same) ∙ is)
        | false ↦ λ p. refl
      ] refl)

  -- a value that is removed counts no more
  pub sum_remove : (m : FinMap nat_cmp X) (k : ℕ) → sum_by f (entries (remove m k)) + counted_at m k ≡ sum_by f (entries m)
  sum_remove m k = go (get m k) refl where
    go : (o : Option X) → get m k ≡ o → sum_by f (entries (remove m k)) + counted f k o ≡ sum_by f (entries m)
    go None is = let a : sum_by f (entries (remove m k)) ≡ sum_by f (entries m) = ap (λ n. sum_by f (entries n)) (absent_removed m k is) in omega arith
    go (Some v) is =
        let a : sum_by f (entries (insert (remove m k) k v)) ≡ sum_by f (entries m) = ap (λ n. sum_by f (entries n)) (put_back m k v is) in
        let gone : get (remove m k) k ≡ None = get-remove nat_cmp_total m k k ∙ ap (λ b. cond b None (get m k)) (let same : eq_by_cmp nat_cmp k k ≡ true = grind (arith, nat_tests) in same) in
        let b : counted_at (remove m k) k ≡ 0 = ap (counted f k) gone in
        omega (arith, a, b, sum_insert (remove m k) k v)

  -- one value counts at most as much as all
  pub sum_has : (m : FinMap nat_cmp X) (k : ℕ) → counted_at m k ≤ sum_by f (entries m)
  sum_has m k = omega (arith, sum_remove m k)
