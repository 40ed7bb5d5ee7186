-- What is left as it was where nothing is there to move.
use Rattle.std.proofs.Common.{◌≡◌, ℕ, zero, suc, Bool, true, false, cond, subst, List, [], ◌∷◌, Option, Some, None, refl, sym, ap, ◌∙◌}
use Rattle.std.specs.Prelude.{nat_eq, map, find, slice_get, slice_set, unwrap_or}
use Rattle.std.specs.List.{AllByRecursion, IsDistinct}
use Rattle.std.proofs.lemmas.Bool.{eqb-true}
use Rattle.node_cache.specs.declared.entry.Entry.{Entry}
use Rattle.node_cache.specs.Cached.{IsBounded, held_of, but_for}

but_by : (n : ℕ) (e : Entry) (es : List Entry) (b : Bool) → cond b (Some e) (held_of n es) ≡ None → (held_of n es ≡ None → but_for n es ≡ es)
    → cond b es (e ∷ but_for n es) ≡ e ∷ es
but_by n e es true none same = absurd cc
but_by n e es false none same = ap (λ rest. e ∷ rest) (same none)

-- without the entry of a file that has none
pub but_for_none : (n : ℕ) (es : List Entry) → held_of n es ≡ None → but_for n es ≡ es
unfolding but_for
but_for_none n [] none = refl
but_for_none n (e ∷ es) none = but_by n e es (nat_eq n e.number) none (but_for_none n es)

-- a place that is empty is emptied
pub set_none : (maps : List (Option (List ℕ))) (m : ℕ) → unwrap_or (slice_get maps m) None ≡ None → slice_set maps m None ≡ maps
set_none [] m none = refl
set_none (x ∷ maps) zero none = ap (λ y. y ∷ maps) (sym none)
set_none (x ∷ maps) (suc m) none = ap (λ rest. x ∷ rest) (set_none maps m none)

others_by : (n : ℕ) (e : Entry) (es : List Entry) (b : Bool) → b ≡ false → held_of n es ≡ None → cond b (Some e) (held_of n es) ≡ None
others_by n e es true is none = absurd cc
others_by n e es false is none = none

-- none of a number is found where all others have another
others : (n : ℕ) (es : List Entry) → AllByRecursion (λ k. nat_eq n k ≡ false) (map (λ e. e.number) es) → held_of n es ≡ None
others n [] all = refl
others n (e ∷ es) all = others_by n e es (nat_eq n e.number) all.0 (others n es all.1)

left_by : (n : ℕ) (e : Entry) (es : List Entry) (b : Bool) → nat_eq n e.number ≡ b → AllByRecursion (λ k. nat_eq e.number k ≡ false) (map (λ f. f.number) es)
    → held_of n (but_for n es) ≡ None → held_of n (cond b es (e ∷ but_for n es)) ≡ None
left_by n e es true is all rest =
    others n es (subst (λ m. AllByRecursion (λ k. nat_eq m k ≡ false) (map (λ f. f.number) es)) (sym (eqb-true n e.number is)) all)
left_by n e es false is all rest = ap (λ b. cond b (Some e) (held_of n (but_for n es))) is ∙ rest

none_left_of : (n : ℕ) (es : List Entry) → IsDistinct nat_eq (map (λ e. e.number) es) → held_of n (but_for n es) ≡ None
unfolding but_for IsDistinct
none_left_of n [] apart = refl
none_left_of n (e ∷ es) apart = left_by n e es (nat_eq n e.number) refl apart.0 (none_left_of n es apart.1)

-- where no two are of one file none of a file is left without its entry
pub none_left : (n : ℕ) (es : List Entry) → IsBounded es → held_of n (but_for n es) ≡ None
none_left n es bounded = none_left_of n es bounded.apart
