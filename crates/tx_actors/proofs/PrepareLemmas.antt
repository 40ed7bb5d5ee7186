-- What the rules of `prepare` find holds in the world.
use Rattle.std.proofs.Common.{◌≡◌, ℕ, ◌==◌, Bool, true, false, cond, List, [], ◌∷◌, filter, Some, None, inl, inr, refl, sym, subst}
use Rattle.std.proofs.lemmas.Bool.{eqb-true, eqb-false, and_parts, and_from, cases_Bool}
use Rattle.tx_rules.specs.Lists.{overlap}
use Rattle.tx_rules.specs.Mini.{In, Want, Setting, cells_of, DiffersAt}
use Rattle.tx_rules.specs.Decision.{Grant}
use Rattle.tx_rules.specs.World.{World, IsInTheWay, IsUnlocked}
use Rattle.tx_actors.specs.Node.{own, is_undecided, granted_in, first_of_list, is_in_the_way, least_holder, first_mismatch}
use Rattle.tx_actors.proofs.TestLemmas.{some_is, overlap-none, overlap-some, In-filter, filter-In, In-sorted, sorted-In}
use Rattle.tx_actors.proofs.RecordLemmas.{log-own, open_is, is_open, In-granted_in}

first_In : (xs : List ℕ) (x : ℕ) → first_of_list xs ≡ Some x → In x xs
first_In [] x e = absurd cc
first_In (y ∷ xs) x e = inl (sym (some_is y x e))

none_first : (xs : List ℕ) (x : ℕ) → first_of_list xs ≡ None → ¬ In x xs
none_first [] x e h = h
none_first (y ∷ xs) x e h = cc

module _ (s : Setting) (w : World) (m t : ℕ) where
  -- the least holder is in the way
  pub holder_is : (u : ℕ) → least_holder s m (own m w.log) t ≡ Some u → IsInTheWay s w m t u
  holder_is u e =
      let found = In-sorted u (filter (is_in_the_way s m (own m w.log) t) (granted_in (own m w.log))) (first_In _ u e) in
      let test = (In-filter (is_in_the_way s m (own m w.log) t) u (granted_in (own m w.log)) found).1 in
      let both = and_parts (is_undecided (own m w.log) u) (overlap (cells_of s t m) (cells_of s u m)) test in
      let cell = overlap-some (cells_of s t m) (cells_of s u m) both.1 in
      record { undecided = open_is w.log m u both.0; cell = cell.0; asked = cell.1; locked = cell.2 }

  -- without a holder no lock is in the way
  pub no_holder : least_holder s m (own m w.log) t ≡ None → IsUnlocked s w m t
  no_holder e u o = elim (cases_Bool (overlap (cells_of s t m) (cells_of s u m))) [
    | inl meet ↦ absurd (none_first _ u e (sorted-In u (filter (is_in_the_way s m (own m w.log) t) (granted_in (own m w.log)))
        (filter-In (is_in_the_way s m (own m w.log) t) u (granted_in (own m w.log)) (In-granted_in (own m w.log) u (log-own m (Grant u) w.log o.granted))
        (and_from (is_undecided (own m w.log) u) (overlap (cells_of s t m) (cells_of s u m)) (is_open w.log m u o) meet))))
    | inr clear ↦ overlap-none (cells_of s t m) (cells_of s u m) clear
  ]

-- where no compare item differs, all cells are as they are wanted
pub no_mismatch : (wants : List Want) (image : ℕ → ℕ) → first_mismatch wants image ≡ None → (want : Want) → In want wants → image want.cell ≡ want.byte
no_mismatch [] image e want is = absurd is
no_mismatch (x ∷ wants) image e want is = go (image x.cell == x.byte) refl e (no_mismatch wants image)
  where
    go : (b : Bool) → (image x.cell == x.byte) ≡ b → cond b (first_mismatch wants image) (Some x.item) ≡ None
        → (first_mismatch wants image ≡ None → (want : Want) → In want wants → image want.cell ≡ want.byte) → image want.cell ≡ want.byte
    go true same e rest = elim is [
      | inl one ↦ subst (λ (y : Want). image y.cell ≡ y.byte) (sym one) (eqb-true (image x.cell) x.byte same)
      | inr later ↦ rest e want later
    ]
    go false other e rest = absurd cc

-- the first that differs is found
pub mismatch_is : (wants : List Want) (image : ℕ → ℕ) (item : ℕ) → first_mismatch wants image ≡ Some item → DiffersAt wants image item
mismatch_is [] image item e = absurd cc
mismatch_is (x ∷ wants) image item e = go (image x.cell == x.byte) refl e (mismatch_is wants image item)
  where
    go : (b : Bool) → (image x.cell == x.byte) ≡ b → cond b (first_mismatch wants image) (Some x.item) ≡ Some item
        → (first_mismatch wants image ≡ Some item → DiffersAt wants image item) → DiffersAt (x ∷ wants) image item
    go true same e rest = inr (eqb-true (image x.cell) x.byte same, rest e)
    go false other e rest = inl (eqb-false (image x.cell) x.byte other, some_is x.item item e)
