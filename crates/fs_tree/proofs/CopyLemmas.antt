-- A table is the entries that it has, added to an empty one.
use Rattle.std.proofs.Common.{◌≡◌, ℕ, true, false, cond, List, [], ◌∷◌, Option, Some, None, refl, sym, ap, subst, ◌∙◌}
use Rattle.std.specs.Prelude.{Bool, T, ◌&&◌}
use Rattle.std.specs.declared.cmp.Ordering.{Ordering}
use Rattle.std.specs.declared.cmp.Ordering.TheVariants.{Less, Equal, Greater}
use Rattle.std.specs.Ordering.{nat_cmp, eq_by_cmp, is_eq, is_lt}
use Rattle.std.specs.Option.{option_or}
use Rattle.std.specs.Cmp.{nat_cmp_total}
use Rattle.std.specs.FinMap.Entries.{below_all}
use Rattle.std.specs.FinMap.{FinMap, find, is_sorted, get, get-entries, get-empty, get-insert, entries, entries_sorted, empty, insert, same_map, nat_cmp-IsAntisymmetric}
use Rattle.fs_tree.specs.Copying.{with_entries}

second : (a b : Bool) → T (a && b) → T b
second true b p = p
second false b p = absurd p

first : (a b : Bool) → T (a && b) → T a
first true b p = tt
first false b p = absurd p

equal : (r : Ordering) → is_eq r ≡ true → r ≡ Equal
equal Less p = absurd cc
equal Equal p = refl
equal Greater p = absurd cc

or_none : {X : Type 0} (o : Option X) → option_or o None ≡ o
or_none None = refl
or_none (Some x) = refl

module _ {X : Type 0} where
  -- a number below all others is not among them
  none_below : (x : ℕ) (es : List (ℕ × X)) → T (below_all nat_cmp x es) → find nat_cmp x es ≡ None
  none_below x [] h = refl
  none_below x (e ∷ es) h = go (nat_cmp x e.0) h (λ below. none_below x es below)
    where
      go : (o : Ordering) → T (is_lt o && below_all nat_cmp x es) → (T (below_all nat_cmp x es) → find nat_cmp x es ≡ None) → cond (is_eq o) (Some e.1) (find nat_cmp x es) ≡ None
      go Less t rest = rest t
      go Equal t rest = absurd t
      go Greater t rest = absurd t

  moved : (b : Bool) (v : X) (found before : Option X) → (b ≡ true → found ≡ None) → option_or found (cond b (Some v) before) ≡ option_or (cond b (Some v) found) before
  moved true v found before none = ap (λ (o : Option X). option_or o (Some v)) (none refl)
  moved false v found before none = refl

  get_added : (es : List (ℕ × X)) (m : FinMap nat_cmp X) (q : ℕ) → T (is_sorted nat_cmp es) → get (with_entries m es) q ≡ option_or (find nat_cmp q es) (get m q)
  get_added [] m q sorted = refl
  get_added (e ∷ es) m q sorted =
      get_added es (insert m e.0 e.1) q (second _ _ sorted)
      ∙ ap (option_or (find nat_cmp q es)) (get-insert nat_cmp_total m e.0 e.1 q)
      ∙ moved (eq_by_cmp nat_cmp q e.0) e.1 (find nat_cmp q es) (get m q)
      (λ same. subst (λ (x : ℕ). find nat_cmp x es ≡ None) (sym (nat_cmp-IsAntisymmetric q e.0 (equal (nat_cmp q e.0) same))) (none_below e.0 es (first _ _ sorted)))

  pub all_added : (m : FinMap nat_cmp X) → with_entries empty (entries m) ≡ m
  all_added m = same_map nat_cmp_total nat_cmp-IsAntisymmetric _ _ (λ q.
      get_added (entries m) empty q (entries_sorted m)
      ∙ ap (option_or (find nat_cmp q (entries m))) (get-empty nat_cmp q)
      ∙ or_none (find nat_cmp q (entries m))
      ∙ sym (get-entries m q))
