-- What holds of every entry that is held, while one is put or changed.
use Rattle.std.proofs.Common.{◌≡◌, ◌⊎◌, inl, inr, ℕ, zero, suc, true, false, cond, Bool, List, [], ◌∷◌, ◌++◌, Some, refl, subst}
use Rattle.std.specs.Prelude.{nat_eq, nat_le, slice_get}
use Rattle.std.specs.List.{AllByRecursion}
use Rattle.node_cache.specs.declared.entry.Entry.{Entry}
use Rattle.node_cache.specs.Cached.{held_of}
use Rattle.plan_rules.specs.Fetched.{changed_in, put_entry}

-- what stands in a list with one element more at the end
pub added : {X : Type 0} (c d : X) (xs : List X) (i : ℕ) → slice_get (xs ++ c ∷ []) i ≡ Some d → (slice_get xs i ≡ Some d) ⊎ (c ≡ d)
added c d [] zero is = inr cc
added c d [] (suc i) is = absurd cc
added c d (x ∷ xs) zero is = inl is
added c d (x ∷ xs) (suc i) is = added c d xs i is

pub none_there : {X : Type 0} (i : ℕ) (x : X) → slice_get [] i ≡ Some x → ⊥
none_there zero x is = absurd cc
none_there (suc i) x is = absurd cc

module _ (P : Entry → Type 0) where
  pub by_place : (es : List Entry) → ((i : ℕ) (e : Entry) → slice_get es i ≡ Some e → P e) → AllByRecursion P es
  by_place [] all = tt
  by_place (e ∷ es) all = (all 0 e refl, by_place es (λ i f is. all (suc i) f is))

  pub at_place : (es : List Entry) → AllByRecursion P es → (i : ℕ) (e : Entry) → slice_get es i ≡ Some e → P e
  at_place [] all zero e is = absurd cc
  at_place [] all (suc i) e is = absurd cc
  at_place (f ∷ fs) all zero e is = let same : f ≡ e = cc in subst P same all.0
  at_place (f ∷ fs) all (suc i) e is = at_place fs all.1 i e is

  put_by : (e f : Entry) (fs : List Entry) (b t : Bool) → P e → AllByRecursion P (f ∷ fs) → AllByRecursion P (put_entry e fs)
      → AllByRecursion P (cond b (cond t (e ∷ fs) (e ∷ f ∷ fs)) (f ∷ put_entry e fs))
  put_by e f fs true true one all more = (one, all.1)
  put_by e f fs true false one all more = (one, all)
  put_by e f fs false t one all more = (all.0, more)

  pub all_put : (e : Entry) (fs : List Entry) → P e → AllByRecursion P fs → AllByRecursion P (put_entry e fs)
  unfolding put_entry
  all_put e [] one all = (one, tt)
  all_put e (f ∷ fs) one all = put_by e f fs (nat_le e.number f.number) (nat_eq f.number e.number) one all (all_put e fs one all.1)

  module _ (n : ℕ) (change : Entry → Entry) where
    changed_by : (e : Entry) (es : List Entry) (b : Bool) → ((f : Entry) → cond b (Some e) (held_of n es) ≡ Some f → P f → P (change f))
        → AllByRecursion P (e ∷ es) → (((f : Entry) → held_of n es ≡ Some f → P f → P (change f)) → AllByRecursion P (changed_in n change es))
        → AllByRecursion P (cond b (change e ∷ es) (e ∷ changed_in n change es))
    changed_by e es true keeps all rest = (keeps e refl all.0, all.1)
    changed_by e es false keeps all rest = (all.0, rest keeps)

    pub all_changed : (es : List Entry) → ((f : Entry) → held_of n es ≡ Some f → P f → P (change f)) → AllByRecursion P es → AllByRecursion P (changed_in n change es)
    unfolding changed_in
    all_changed [] keeps all = tt
    all_changed (e ∷ es) keeps all = changed_by e es (nat_eq n e.number) keeps all (λ k. all_changed es k all.1)
