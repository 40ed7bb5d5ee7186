-- Steps behind steps.
use Rattle.std.proofs.Common.{◌≡◌, ℕ, true, false, cond, List, [], ◌∷◌, ◌++◌, Some, None, Result, Ok, Err, refl, sym, ap, subst, ◌∙◌, append_assoc}
use Rattle.std.specs.Prelude.{map}
use Rattle.std.proofs.lemmas.List.{append-nil}
use Rattle.fs_rules.specs.Statuses.{Check, first_failure}
use Rattle.fs_checks.specs.declared.status.Status.{Status}
use Rattle.node_cache.specs.declared.held.Held.{Held}
use Rattle.plan_rules.specs.declared.look.Look.{Look}
use Rattle.plan_rules.specs.Laws.{GoAlike}
use Rattle.plan_rules.specs.Steps.{Step, Looks, Checks, part_of, is_held, wanted_in, looks_in, refusal_in}
use Rattle.plan_rules.proofs.OrderLemmas.{orders_go_on}
use Rattle.plan_looks.specs.declared.stop.Stop.{Stop}
use Rattle.plan_looks.specs.declared.stop.Stop.TheVariants.{Need, Refused, NoMemory}
use Rattle.plan_looks.specs.Goes.{Ends, Goes, GoesOn, IsRefused}

module _ (held : Held) where
  -- no steps
  pub go_nowhere : (old : List Look) → GoesOn held [] old old
  unfolding wanted_in looks_in refusal_in
  go_nowhere old = record { wanted = refl; passes = refl; looks = sym (append-nil old) }

  -- a look at what is held is noted, and one at what is not names its part
  pub looks_on : (l : Look) (old new : List Look) → is_held held (part_of l) ≡ true → new ≡ old ++ l ∷ [] → GoesOn held (Looks l ∷ []) old new
  unfolding wanted_in looks_in refusal_in
  looks_on l old new there noted =
      record { wanted = ap (λ b. cond b None (Some (part_of l))) there; passes = refl; looks = noted }

  pub looks_in_vain : (l : Look) → is_held held (part_of l) ≡ false → wanted_in held (Looks l ∷ []) ≡ Some (part_of l)
  unfolding wanted_in
  looks_in_vain l lacks = ap (λ b. cond b None (Some (part_of l))) lacks

  -- checks in a row
  none_in_checks : (cs : List Check) → (wanted_in held (map Checks cs) ≡ None) × (looks_in (map Checks cs) ≡ []) × (refusal_in (map Checks cs) ≡ first_failure cs)
  unfolding wanted_in looks_in refusal_in first_failure
  none_in_checks [] = (refl, refl, refl)
  none_in_checks (None ∷ cs) = none_in_checks cs
  none_in_checks (Some status ∷ cs) = (refl, refl, refl)

  pub checks_on : (cs : List Check) (old : List Look) → first_failure cs ≡ None → GoesOn held (map Checks cs) old old
  checks_on cs old passes =
      let is = none_in_checks cs in
      record { wanted = is.0; passes = is.2 ∙ passes; looks = sym (append-nil old) ∙ ap (λ ls. old ++ ls) (sym is.1) }

  pub checks_fail : (cs : List Check) (old : List Look) (status : ℕ) → first_failure cs ≡ Some status → IsRefused held (map Checks cs) old old status
  checks_fail cs old status fails =
      let is = none_in_checks cs in
      record { wanted = is.0; fails = is.2 ∙ fails; looks = sym (append-nil old) ∙ ap (λ ls. old ++ ls) (sym is.1) }

  module _ (front rest : List Step) where
    -- where the front is passed, all goes as the rest does
    both_looks : (old mid new a b : List Look) → mid ≡ old ++ a → new ≡ mid ++ b → new ≡ old ++ (a ++ b)
    both_looks old mid new a b first second = second ∙ ap (λ ls. ls ++ b) first ∙ append_assoc old a b

    alike : (old mid : List Look) → GoesOn held front old mid → GoAlike held (front ++ rest) rest (looks_in front)
    alike old mid first = orders_go_on.passed held front rest (record { held_all = first.wanted; passes = first.passes })

    ends_behind : (old mid new : List Look) (e : Stop) → GoesOn held front old mid → Ends held rest mid new e → Ends held (front ++ rest) old new e
    ends_behind old mid new (Need w) first second = (alike old mid first).wanted ∙ second
    ends_behind old mid new (Refused s) first second =
        let is = alike old mid first in
        record {
          wanted = is.wanted ∙ second.wanted;
          fails = is.refusal ∙ second.fails;
          looks = both_looks old mid new (looks_in front) (looks_in rest) first.looks second.looks ∙ ap (λ ls. old ++ ls) (sym is.looks);
        }
    ends_behind old mid new NoMemory first second = tt

    pub goes_behind : {A : Type 0} (old mid new : List Look) (r : Result A Stop) → GoesOn held front old mid → Goes held rest mid new r → Goes held (front ++ rest) old new r
    goes_behind old mid new (Ok x) first second =
        let is = alike old mid first in
        record {
          wanted = is.wanted ∙ second.wanted;
          passes = is.refusal ∙ second.passes;
          looks = both_looks old mid new (looks_in front) (looks_in rest) first.looks second.looks ∙ ap (λ ls. old ++ ls) (sym is.looks);
        }
    goes_behind old mid new (Err e) first second = ends_behind old mid new e first second

    -- what ends the front ends all
    stops_before : (old new : List Look) (e : Stop) → Ends held front old new e → Ends held (front ++ rest) old new e
    stops_before old new (Need w) first = orders_go_on.lacks held front rest w first
    stops_before old new (Refused s) first =
        let is = orders_go_on.refused held front rest s.0 first.wanted first.fails in
        record { wanted = is.0; fails = is.2; looks = first.looks ∙ ap (λ ls. old ++ ls) (sym is.1) }
    stops_before old new NoMemory first = tt

    pub stops_at : {B : Type 0} (old new : List Look) (e y : Stop) (r : Result B Stop) → r ≡ Err y → y ≡ e → Ends held front old new e
        → Goes held (front ++ rest) old new r
    stops_at {B = B} old new e y r is same first =
        subst (λ (s : Result B Stop). Goes held (front ++ rest) old new s) (sym (is ∙ ap Err same)) (stops_before old new e first)

  -- an error of a check is the refusal of the steps
  pub refused_at : {B : Type 0} (steps : List Step) (old new : List Look) (s : Status) (y : Stop) (r : Result B Stop) → r ≡ Err y → y ≡ Refused s
      → IsRefused held steps old new s.0 → Goes held steps old new r
  refused_at {B = B} steps old new s y r is same first = subst (λ (x : Result B Stop). Goes held steps old new x) (sym (is ∙ ap Err same)) first

  -- the same steps
  pub same_steps : {B : Type 0} (steps others : List Step) (old new : List Look) (r : Result B Stop) → steps ≡ others → Goes held others old new r → Goes held steps old new r
  same_steps {B = B} steps others old new r same goes = subst (λ (ss : List Step). Goes held ss old new r) (sym same) goes

  pub goes_same : (steps others : List Step) (old new : List Look) → steps ≡ others → GoesOn held others old new → GoesOn held steps old new
  goes_same steps others old new same goes = subst (λ (ss : List Step). GoesOn held ss old new) (sym same) goes
