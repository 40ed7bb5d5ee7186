-- Steps of which each look that is made is at a part that is told.
use Rattle.std.proofs.Common.{◌≡◌, true, false, cond, Bool, List, [], ◌∷◌, ◌++◌, map, Option, Some, None, refl, ap, subst, ◌∙◌}
use Rattle.std.specs.Prelude.{flat_map}
use Rattle.fs_rules.specs.Statuses.{Check}
use Rattle.node_cache.specs.declared.held.Held.{Held}
use Rattle.node_cache.specs.declared.want.Want.{Want}
use Rattle.plan_rules.specs.declared.look.Look.{Look}
use Rattle.plan_rules.specs.Steps.{Step, Looks, Checks, part_of, is_held, wanted_in, refusal_in}
use Rattle.plan_rules.specs.Works.{IsTold}

-- a look at a part that is told, and behind it, where the part is held, more of them
unfoldable pub Tells : Held → List Step → Type 0
Tells held [] = Unit {0}
Tells held (Looks l ∷ steps) = IsTold held (part_of l) × (is_held held (part_of l) ≡ true → Tells held steps)
Tells held (Checks None ∷ steps) = Tells held steps
Tells held (Checks (Some status) ∷ steps) = Unit {0}

some_same : (v w : Want) → ◌≡◌ {A = Option Want} (Some v) (Some w) → v ≡ w
some_same v w is = cc

module _ (held : Held) where
  subst_told : (v w : Want) → v ≡ w → IsTold held v → IsTold held w
  subst_told v w same told = subst (λ (x : Want). IsTold held x) same told

  pub nothing_tells : Tells held []
  unfolding Tells
  nothing_tells = tt

  pub look_tells : (l : Look) (steps : List Step) → IsTold held (part_of l) → (is_held held (part_of l) ≡ true → Tells held steps) → Tells held (Looks l ∷ steps)
  unfolding Tells
  look_tells l steps told rest = (told, rest)

  -- what they want is told
  want_by : (l : Look) (steps : List Step) (w : Want) (b : Bool) → is_held held (part_of l) ≡ b → IsTold held (part_of l)
      → (is_held held (part_of l) ≡ true → wanted_in held steps ≡ Some w → IsTold held w) → cond b (wanted_in held steps) (Some (part_of l)) ≡ Some w → IsTold held w
  want_by l steps w true here told rest is = rest here is
  want_by l steps w false lacks told rest is = subst_told (part_of l) w (some_same (part_of l) w is) told

  pub told_want : (steps : List Step) (w : Want) → Tells held steps → wanted_in held steps ≡ Some w → IsTold held w
  unfolding Tells wanted_in
  told_want [] w tells is = absurd cc
  told_want (Looks l ∷ steps) w tells is =
      want_by l steps w (is_held held (part_of l)) refl tells.0 (λ here rest. told_want steps w (tells.1 here) rest) is
  told_want (Checks None ∷ steps) w tells is = told_want steps w tells is
  told_want (Checks (Some status) ∷ steps) w tells is = absurd cc

  -- one row behind another
  pub both : (a b : List Step) → Tells held a → (wanted_in held a ≡ None → refusal_in a ≡ None → Tells held b) → Tells held (a ++ b)
  unfolding Tells wanted_in refusal_in
  both [] b first rest = rest refl refl
  both (Looks l ∷ a) b first rest =
      (first.0, λ here. both a b (first.1 here) (λ none passes. rest (ap (λ c. cond c (wanted_in held a) (Some (part_of l))) here ∙ none) passes))
  both (Checks None ∷ a) b first rest = both a b first rest
  both (Checks (Some status) ∷ a) b first rest = tt

  pub always : (a b : List Step) → Tells held a → Tells held b → Tells held (a ++ b)
  always a b first rest = both a b first (λ none passes. rest)

  pub checks_tell : (cs : List Check) → Tells held (map Checks cs)
  unfolding Tells
  checks_tell [] = tt
  checks_tell (None ∷ cs) = checks_tell cs
  checks_tell (Some status ∷ cs) = tt

  pub check_then : (c : Check) (steps : List Step) → (c ≡ None → Tells held steps) → Tells held (Checks c ∷ steps)
  unfolding Tells
  check_then None steps rest = rest refl
  check_then (Some status) steps rest = tt

  pub where_tells : (b : Bool) (steps others : List Step) → (b ≡ true → Tells held steps) → (b ≡ false → Tells held others) → Tells held (cond b steps others)
  where_tells true steps others first other = first refl
  where_tells false steps others first other = other refl

  pub each_tells : {X : Type 0} (f : X → List Step) → ((x : X) → Tells held (f x)) → (xs : List X) → Tells held (flat_map f xs)
  each_tells f tells [] = nothing_tells
  each_tells f tells (x ∷ xs) = always (f x) (flat_map f xs) (tells x) (each_tells f tells xs)
