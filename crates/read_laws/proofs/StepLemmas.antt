-- Steps in a row.
use Rattle.std.proofs.Common.{◌≡◌, ℕ, zero, suc, ◌+◌, true, false, cond, Bool, List, [], ◌∷◌, ◌++◌, map, Option, Some, None, refl, sym, ◌∙◌}
use Rattle.std.specs.Prelude.{nat_lt}
use Rattle.std.specs.List.{AllByRecursion}
use Rattle.fs_dir.specs.declared.slot.Slot.{Slot}
use Rattle.fs_rules.specs.Statuses.{Check, first_failure}
use Rattle.node_cache.specs.declared.held.Held.{Held}
use Rattle.node_cache.specs.declared.want.Want.{Want}
use Rattle.plan_rules.specs.declared.look.Look.TheVariants.{Chaining}
use Rattle.plan_rules.specs.Laws.{GoAlike}
use Rattle.plan_rules.specs.Names.{group_steps}
use Rattle.plan_rules.specs.Steps.{Step, Looks, Checks, wanted_in, looks_in, refusal_in}
use Rattle.plan_rules.specs.Told.{chains_of, group_of}
use Rattle.plan_rules.proofs.OrderLemmas.{orders_go_on}
use Rattle.plan_looks.specs.Names.{first_steps}

-- checks in a row want no part and are decided by the first that fails
pub checks_want : (held : Held) (cs : List Check) → wanted_in held (map Checks cs) ≡ None
unfolding wanted_in
checks_want held [] = refl
checks_want held (None ∷ cs) = checks_want held cs
checks_want held (Some status ∷ cs) = refl

pub checks_refuse : (cs : List Check) → refusal_in (map Checks cs) ≡ first_failure cs
unfolding refusal_in first_failure
checks_refuse [] = refl
checks_refuse (None ∷ cs) = checks_refuse cs
checks_refuse (Some status ∷ cs) = refl

-- where nothing is wanted of all, nothing is wanted of the front
pub front_wants_none : (held : Held) (front rest : List Step) → wanted_in held (front ++ rest) ≡ None → wanted_in held front ≡ None
front_wants_none held front rest none = by (wanted_in held front) refl
  where
    by : (w : Option Want) → wanted_in held front ≡ w → wanted_in held front ≡ None
    by None is = is
    by (Some w) is = let never : ◌≡◌ {A = Option Want} (Some w) None = sym (orders_go_on.lacks held front rest w is) ∙ none in absurd cc

-- what comes behind steps that are passed
pub behind : (held : Held) (front rest : List Step) → wanted_in held (front ++ rest) ≡ None → refusal_in front ≡ None → GoAlike held (front ++ rest) rest (looks_in front)
behind held front rest none passes =
    orders_go_on.passed held front rest (record { held_all = front_wants_none held front rest none; passes = passes })

ended_or : (b : Bool) (steps : List Step) → refusal_in steps ≡ None → refusal_in (cond b [] steps) ≡ None
unfolding refusal_in
ended_or true steps none = refl
ended_or false steps none = none

-- a search makes no check
pub search_refuses_none : (held : Held) (n : ℕ) (ends : List Slot → Bool) (g left : ℕ) → refusal_in (group_steps held n ends g left) ≡ None
unfolding group_steps refusal_in
search_refuses_none held n ends g zero = refl
search_refuses_none held n ends g (suc left) = ended_or (ends (group_of held n g)) (group_steps held n ends (g + 1) left) (search_refuses_none held n ends (g + 1) left)

pub first_refuses_none : (held : Held) (n : ℕ) → refusal_in (first_steps held n) ≡ None
unfolding refusal_in
first_refuses_none held n = by (nat_lt 0 (chains_of held n))
  where
    by : (b : Bool) → refusal_in (cond b (Looks (Chaining n 0) ∷ []) []) ≡ None
    by true = refl
    by false = refl

pub joined_refuse_none : (a b : List Step) → refusal_in a ≡ None → refusal_in b ≡ None → refusal_in (a ++ b) ≡ None
unfolding refusal_in
joined_refuse_none [] b first second = second
joined_refuse_none (Looks l ∷ a) b first second = joined_refuse_none a b first second
joined_refuse_none (Checks None ∷ a) b first second = joined_refuse_none a b first second
joined_refuse_none (Checks (Some status) ∷ a) b first second = absurd cc

pub later : {X : Type 0} (P : X → Type 0) (xs ys : List X) → AllByRecursion P (xs ++ ys) → AllByRecursion P ys
later P [] ys all = all
later P (x ∷ xs) ys all = later P xs ys all.1
