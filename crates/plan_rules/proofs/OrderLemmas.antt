-- Orders that begin with other steps.
use Rattle.std.proofs.Common.{◌≡◌, ℕ, true, false, cond, Bool, List, [], ◌∷◌, ◌++◌, Option, Some, None, refl, ap}
use Rattle.std.specs.List.{AllByRecursion}
use Rattle.std.proofs.lemmas.List.Elements.{All-from_recursion}
use Rattle.node_cache.specs.declared.held.Held.{Held}
use Rattle.node_cache.specs.declared.want.Want.{Want}
use Rattle.plan_rules.specs.Steps.{Step, Looks, Checks, part_of, is_held, wanted_in, looks_in, refusal_in}
use Rattle.plan_rules.specs.Laws.{OrdersGoOn, AllLookedAtIsHeld}

-- a look at what is held is passed
look_by : (b : Bool) (w : Want) (a c d : Option Want) → (a ≡ None → c ≡ d) → cond b a (Some w) ≡ None → cond b c (Some w) ≡ d
look_by true w a c d go none = go none
look_by false w a c d go none = absurd cc

lack_by : (b : Bool) (w v : Want) (a c : Option Want) → (a ≡ Some v → c ≡ Some v) → cond b a (Some w) ≡ Some v → cond b c (Some w) ≡ Some v
lack_by true w v a c go some = go some
lack_by false w v a c go some = some

module _ (held : Held) where
  goes_on : (front rest : List Step) → wanted_in held front ≡ None → refusal_in front ≡ None → wanted_in held (front ++ rest) ≡ wanted_in held rest
  unfolding wanted_in refusal_in
  goes_on [] rest none passed = refl
  goes_on (Looks l ∷ front) rest none passed =
      look_by (is_held held (part_of l)) (part_of l) (wanted_in held front) (wanted_in held (front ++ rest)) (wanted_in held rest) (λ n. goes_on front rest n passed) none
  goes_on (Checks None ∷ front) rest none passed = goes_on front rest none passed
  goes_on (Checks (Some status) ∷ front) rest none passed = absurd cc

  lacks_on : (front rest : List Step) (w : Want) → wanted_in held front ≡ Some w → wanted_in held (front ++ rest) ≡ Some w
  unfolding wanted_in
  lacks_on [] rest w some = absurd cc
  lacks_on (Looks l ∷ front) rest w some =
      lack_by (is_held held (part_of l)) (part_of l) w (wanted_in held front) (wanted_in held (front ++ rest)) (lacks_on front rest w) some
  lacks_on (Checks None ∷ front) rest w some = lacks_on front rest w some
  lacks_on (Checks (Some status) ∷ front) rest w some = absurd cc

  ends_there : (front rest : List Step) (status : ℕ) → wanted_in held front ≡ None → refusal_in front ≡ Some status → wanted_in held (front ++ rest) ≡ None
  unfolding wanted_in refusal_in
  ends_there [] rest status none fails = absurd cc
  ends_there (Looks l ∷ front) rest status none fails =
      look_by (is_held held (part_of l)) (part_of l) (wanted_in held front) (wanted_in held (front ++ rest)) None (λ n. ends_there front rest status n fails) none
  ends_there (Checks None ∷ front) rest status none fails = ends_there front rest status none fails
  ends_there (Checks (Some other) ∷ front) rest status none fails = refl

looks_on : (front rest : List Step) → refusal_in front ≡ None → looks_in (front ++ rest) ≡ looks_in front ++ looks_in rest
unfolding looks_in refusal_in
looks_on [] rest passed = refl
looks_on (Looks l ∷ front) rest passed = ap (λ ls. l ∷ ls) (looks_on front rest passed)
looks_on (Checks None ∷ front) rest passed = looks_on front rest passed
looks_on (Checks (Some status) ∷ front) rest passed = absurd cc

looks_end : (front rest : List Step) (status : ℕ) → refusal_in front ≡ Some status → looks_in (front ++ rest) ≡ looks_in front
unfolding looks_in refusal_in
looks_end [] rest status fails = absurd cc
looks_end (Looks l ∷ front) rest status fails = ap (λ ls. l ∷ ls) (looks_end front rest status fails)
looks_end (Checks None ∷ front) rest status fails = looks_end front rest status fails
looks_end (Checks (Some other) ∷ front) rest status fails = refl

refusal_on : (front rest : List Step) → refusal_in front ≡ None → refusal_in (front ++ rest) ≡ refusal_in rest
unfolding refusal_in
refusal_on [] rest passed = refl
refusal_on (Looks l ∷ front) rest passed = refusal_on front rest passed
refusal_on (Checks None ∷ front) rest passed = refusal_on front rest passed
refusal_on (Checks (Some status) ∷ front) rest passed = absurd cc

refusal_ends : (front rest : List Step) (status : ℕ) → refusal_in front ≡ Some status → refusal_in (front ++ rest) ≡ Some status
unfolding refusal_in
refusal_ends [] rest status fails = absurd cc
refusal_ends (Looks l ∷ front) rest status fails = refusal_ends front rest status fails
refusal_ends (Checks None ∷ front) rest status fails = refusal_ends front rest status fails
refusal_ends (Checks (Some other) ∷ front) rest status fails = fails

pub orders_go_on : OrdersGoOn
orders_go_on =
    record {
      passed = λ held front rest passed. record {
        wanted = goes_on held front rest passed.held_all passed.passes;
        looks = looks_on front rest passed.passes;
        refusal = refusal_on front rest passed.passes;
      };
      lacks = lacks_on;
      refused = λ held front rest status none fails.
          (ends_there held front rest status none fails, looks_end front rest status fails, refusal_ends front rest status fails);
    }

held_by : (b : Bool) (w : Want) (a : Option Want) → cond b a (Some w) ≡ None → (b ≡ true) × (a ≡ None)
held_by true w a none = (refl, none)
held_by false w a none = absurd cc

all_held : (held : Held) (steps : List Step) → wanted_in held steps ≡ None → AllByRecursion (λ l. is_held held (part_of l) ≡ true) (looks_in steps)
unfolding wanted_in looks_in
all_held held [] none = tt
all_held held (Looks l ∷ steps) none =
    let both = held_by (is_held held (part_of l)) (part_of l) (wanted_in held steps) none in (both.0, all_held held steps both.1)
all_held held (Checks None ∷ steps) none = all_held held steps none
all_held held (Checks (Some status) ∷ steps) none = tt

pub all_looked_at_is_held : AllLookedAtIsHeld
all_looked_at_is_held held steps none =
    All-from_recursion (λ l. is_held held (part_of l) ≡ true) (looks_in steps) (all_held held steps none)
