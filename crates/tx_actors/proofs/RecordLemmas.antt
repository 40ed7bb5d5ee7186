-- The state that records make says what the log says.
use Rattle.std.proofs.Common.{◌≡◌, ℕ, ◌<◌, ◌≤◌, nat_lt, ◌==◌, Bool, true, false, not, cond, ◌&&◌, List, [], ◌∷◌, filter, take, Option, Some, None, ◌⊎◌, inl, inr, refl, sym, ap, ap₂, ◌∙◌, subst, arith}
use Rattle.std.proofs.lemmas.Bool.{eqb-true, eqb-false, eq-eqb, ltb-true, ltb-false, or_cases, and_parts, and_cases, cases_Bool, not-true, not-false, false_from_ne_true}
use Rattle.tx_rules.specs.Mini.{In, has_several, Setting, nodes_of, participants_at, IsLive}
use Rattle.tx_rules.specs.Decision.{Reason, Record, Grant, Refuse, Commit, Abort, Forget, Entry, At, IsGranted, IsCast, IsPassed, IsBelow, IsDecided, IsOpen}
use Rattle.tx_rules.proofs.GrowthLemmas.{one_node, one_record}
use Rattle.tx_rules.specs.Lists.{is_in}
use Rattle.tx_actors.specs.Node.{own, has_grant, has_decision, has_forget, cast_as, raised, floor_of, Standing, Above, Same, Below, to_floor, standing, is_kept, is_undecided, granted_in, sorted, kept_in}
use Rattle.tx_actors.proofs.TestLemmas.{or_left, or_right, not_two, In-filter, In-map, In-take, In-sorted, is_in-In}

-- ---- one memory node's records

pub own-log : (m : ℕ) (r : Record) (log : List Entry) → In r (own m log) → In (At m r) log
own-log m r [] h = absurd h
own-log m r (At n q ∷ log) h = go (n == m) refl (own-log m r log) h
  where
    go : (b : Bool) → (n == m) ≡ b → (In r (own m log) → In (At m r) log) → In r (cond b (q ∷ own m log) (own m log)) → (At m r ≡ At n q) ⊎ In (At m r) log
    go true is rest k = elim k [ inl e ↦ inl (ap₂ At (sym (eqb-true n m is)) e) | inr h ↦ inr (rest h) ]
    go false is rest k = inr (rest k)

pub log-own : (m : ℕ) (r : Record) (log : List Entry) → In (At m r) log → In r (own m log)
log-own m r [] h = absurd h
log-own m r (At n q ∷ log) h = go (n == m) refl (log-own m r log) h
  where
    go : (b : Bool) → (n == m) ≡ b → (In (At m r) log → In r (own m log)) → (At m r ≡ At n q) ⊎ In (At m r) log → In r (cond b (q ∷ own m log) (own m log))
    go true is rest k = elim k [ inl e ↦ inl (one_record m n r q e) | inr h ↦ inr (rest h) ]
    go false is rest k = elim k [ inl e ↦ absurd (eqb-false n m is (sym (one_node m n r q e))) | inr h ↦ rest h ]

-- ---- tests on records

pub has_grant-In : (rs : List Record) (t : ℕ) → has_grant rs t ≡ true → In (Grant t) rs
has_grant-In [] t h = absurd cc
has_grant-In (Grant u ∷ rs) t h = elim (or_cases (u == t) (has_grant rs t) h) [ inl e ↦ inl (ap Grant (sym (eqb-true u t e))) | inr r ↦ inr (has_grant-In rs t r) ]
has_grant-In (Refuse u why ∷ rs) t h = inr (has_grant-In rs t h)
has_grant-In (Commit u ∷ rs) t h = inr (has_grant-In rs t h)
has_grant-In (Abort u ∷ rs) t h = inr (has_grant-In rs t h)
has_grant-In (Forget u ∷ rs) t h = inr (has_grant-In rs t h)

pub In-has_grant : (rs : List Record) (t : ℕ) → In (Grant t) rs → has_grant rs t ≡ true
In-has_grant [] t h = absurd h
In-has_grant (Grant u ∷ rs) t h = elim h [
  | inl e ↦ or_left (u == t) (has_grant rs t) (eq-eqb u t (one u t (sym e)))
  | inr r ↦ or_right (u == t) (has_grant rs t) (In-has_grant rs t r)
]
  where
    one : (x y : ℕ) → Grant x ≡ Grant y → x ≡ y
    one x y e = cc
In-has_grant (Refuse u why ∷ rs) t h = elim h [ inl e ↦ absurd cc | inr r ↦ In-has_grant rs t r ]
In-has_grant (Commit u ∷ rs) t h = elim h [ inl e ↦ absurd cc | inr r ↦ In-has_grant rs t r ]
In-has_grant (Abort u ∷ rs) t h = elim h [ inl e ↦ absurd cc | inr r ↦ In-has_grant rs t r ]
In-has_grant (Forget u ∷ rs) t h = elim h [ inl e ↦ absurd cc | inr r ↦ In-has_grant rs t r ]

pub has_forget-In : (rs : List Record) (t : ℕ) → has_forget rs t ≡ true → In (Forget t) rs
has_forget-In [] t h = absurd cc
has_forget-In (Forget u ∷ rs) t h = elim (or_cases (u == t) (has_forget rs t) h) [ inl e ↦ inl (ap Forget (sym (eqb-true u t e))) | inr r ↦ inr (has_forget-In rs t r) ]
has_forget-In (Grant u ∷ rs) t h = inr (has_forget-In rs t h)
has_forget-In (Refuse u why ∷ rs) t h = inr (has_forget-In rs t h)
has_forget-In (Commit u ∷ rs) t h = inr (has_forget-In rs t h)
has_forget-In (Abort u ∷ rs) t h = inr (has_forget-In rs t h)

pub In-has_forget : (rs : List Record) (t : ℕ) → In (Forget t) rs → has_forget rs t ≡ true
In-has_forget [] t h = absurd h
In-has_forget (Forget u ∷ rs) t h = elim h [
  | inl e ↦ or_left (u == t) (has_forget rs t) (eq-eqb u t (one u t (sym e)))
  | inr r ↦ or_right (u == t) (has_forget rs t) (In-has_forget rs t r)
]
  where
    one : (x y : ℕ) → Forget x ≡ Forget y → x ≡ y
    one x y e = cc
In-has_forget (Grant u ∷ rs) t h = elim h [ inl e ↦ absurd cc | inr r ↦ In-has_forget rs t r ]
In-has_forget (Refuse u why ∷ rs) t h = elim h [ inl e ↦ absurd cc | inr r ↦ In-has_forget rs t r ]
In-has_forget (Commit u ∷ rs) t h = elim h [ inl e ↦ absurd cc | inr r ↦ In-has_forget rs t r ]
In-has_forget (Abort u ∷ rs) t h = elim h [ inl e ↦ absurd cc | inr r ↦ In-has_forget rs t r ]

-- a decision in a list of records
abbrev pub DecidedIn : List Record → ℕ → Type 0
DecidedIn rs t = In (Commit t) rs ⊎ In (Abort t) rs

decided_later : (r : Record) (rs : List Record) (t : ℕ) → DecidedIn rs t → DecidedIn (r ∷ rs) t
decided_later r rs t d = elim d [ inl h ↦ inl (inr h) | inr h ↦ inr (inr h) ]

pub has_decision-In : (rs : List Record) (t : ℕ) → has_decision rs t ≡ true → DecidedIn rs t
has_decision-In [] t h = absurd cc
has_decision-In (Commit u ∷ rs) t h = elim (or_cases (u == t) (has_decision rs t) h) [
  | inl e ↦ inl (inl (ap Commit (sym (eqb-true u t e))))
  | inr r ↦ decided_later (Commit u) rs t (has_decision-In rs t r)
]
has_decision-In (Abort u ∷ rs) t h = elim (or_cases (u == t) (has_decision rs t) h) [
  | inl e ↦ inr (inl (ap Abort (sym (eqb-true u t e))))
  | inr r ↦ decided_later (Abort u) rs t (has_decision-In rs t r)
]
has_decision-In (Grant u ∷ rs) t h = decided_later (Grant u) rs t (has_decision-In rs t h)
has_decision-In (Refuse u why ∷ rs) t h = decided_later (Refuse u why) rs t (has_decision-In rs t h)
has_decision-In (Forget u ∷ rs) t h = decided_later (Forget u) rs t (has_decision-In rs t h)

one_commit : (x y : ℕ) → Commit x ≡ Commit y → x ≡ y
one_commit x y e = cc

one_abort : (x y : ℕ) → Abort x ≡ Abort y → x ≡ y
one_abort x y e = cc

pub In-has_decision : (rs : List Record) (t : ℕ) → DecidedIn rs t → has_decision rs t ≡ true
In-has_decision [] t d = elim d [ inl h ↦ absurd h | inr h ↦ absurd h ]
In-has_decision (Commit u ∷ rs) t d = elim d [
  | inl (inl e) ↦ or_left (u == t) (has_decision rs t) (eq-eqb u t (one_commit u t (sym e)))
  | inl (inr h) ↦ or_right (u == t) (has_decision rs t) (In-has_decision rs t (inl h))
  | inr (inl e) ↦ absurd cc
  | inr (inr h) ↦ or_right (u == t) (has_decision rs t) (In-has_decision rs t (inr h))
]
In-has_decision (Abort u ∷ rs) t d = elim d [
  | inl (inl e) ↦ absurd cc
  | inl (inr h) ↦ or_right (u == t) (has_decision rs t) (In-has_decision rs t (inl h))
  | inr (inl e) ↦ or_left (u == t) (has_decision rs t) (eq-eqb u t (one_abort u t (sym e)))
  | inr (inr h) ↦ or_right (u == t) (has_decision rs t) (In-has_decision rs t (inr h))
]
In-has_decision (Grant u ∷ rs) t d = elim d [ inl (inl e) ↦ absurd cc | inl (inr h) ↦ In-has_decision rs t (inl h) | inr (inl e) ↦ absurd cc | inr (inr h) ↦ In-has_decision rs t (inr h) ]
In-has_decision (Refuse u why ∷ rs) t d = elim d [ inl (inl e) ↦ absurd cc | inl (inr h) ↦ In-has_decision rs t (inl h) | inr (inl e) ↦ absurd cc | inr (inr h) ↦ In-has_decision rs t (inr h) ]
In-has_decision (Forget u ∷ rs) t d = elim d [ inl (inl e) ↦ absurd cc | inl (inr h) ↦ In-has_decision rs t (inl h) | inr (inl e) ↦ absurd cc | inr (inr h) ↦ In-has_decision rs t (inr h) ]

-- ---- the floor

-- some vote on the identifier is in the records
abbrev pub CastIn : List Record → ℕ → Type 0
CastIn rs t = (vote : Option Reason) × In (cast_as vote t) rs

pub record IsTop (s : Setting) (rs : List Record) (c t : ℕ) (vote : Option Reason) : Type 0 where
  pub cast : In (cast_as vote t) rs
  pub same : s.coord t ≡ c
  pub greatest : (u : ℕ) → CastIn rs u → s.coord u ≡ c → u ≤ t

abbrev pub IsFloor : Setting → List Record → ℕ → Option (ℕ × Option Reason) → Type 0
IsFloor s rs c None = (u : ℕ) → CastIn rs u → ¬ (s.coord u ≡ c)
IsFloor s rs c (Some floor) = IsTop s rs c floor.0 floor.1

one_cast : (v x : Option Reason) (t u : ℕ) → cast_as v t ≡ cast_as x u → t ≡ u
one_cast None None t u e = cc
one_cast None (Some other) t u e = absurd cc
one_cast (Some why) None t u e = absurd cc
one_cast (Some why) (Some other) t u e = cc

-- a vote with a new one in front is the new one or was there
cast_cases : (rs : List Record) (t : ℕ) (vote : Option Reason) (u : ℕ) → CastIn (cast_as vote t ∷ rs) u → (u ≡ t) ⊎ CastIn rs u
cast_cases rs t vote u h = elim h.1 [ inl e ↦ inl (one_cast h.0 vote u t e) | inr rest ↦ inr (h.0, rest) ]

floor_other : (s : Setting) (rs : List Record) (c t : ℕ) (vote : Option Reason) (o : Option (ℕ × Option Reason)) → ¬ (s.coord t ≡ c) → IsFloor s rs c o → IsFloor s (cast_as vote t ∷ rs) c o
floor_other s rs c t vote None other h = λ u cast same. elim (cast_cases rs t vote u cast) [ inl e ↦ other (ap s.coord (sym e) ∙ same) | inr rest ↦ h u rest same ]
floor_other s rs c t vote (Some floor) other h = record {
  cast = inr h.cast;
  same = h.same;
  greatest = λ u cast same. elim (cast_cases rs t vote u cast) [ inl e ↦ absurd (other (ap s.coord (sym e) ∙ same)) | inr rest ↦ h.greatest u rest same ];
}

floor_raised : (s : Setting) (rs : List Record) (c t : ℕ) (vote : Option Reason) (o : Option (ℕ × Option Reason)) → s.coord t ≡ c → IsFloor s rs c o
    → IsFloor s (cast_as vote t ∷ rs) c (raised t vote o)
floor_raised s rs c t vote None here h = record {
  cast = inl refl;
  same = here;
  greatest = λ u cast same. elim (cast_cases rs t vote u cast) [ inl e ↦ omega (arith, e) | inr rest ↦ absurd (h u rest same) ];
}
floor_raised s rs c t vote (Some floor) here h = go (nat_lt floor.0 t) refl
  where
    go : (b : Bool) → nat_lt floor.0 t ≡ b → IsFloor s (cast_as vote t ∷ rs) c (cond b (Some (t, vote)) (Some floor))
    go true is = record {
      cast = inl refl;
      same = here;
      greatest = λ u cast same. elim (cast_cases rs t vote u cast) [
        | inl e ↦ omega (arith, e)
        | inr rest ↦ omega (arith, h.greatest u rest same, ltb-true floor.0 t is)
      ];
    }
    go false is = record {
      cast = inr h.cast;
      same = h.same;
      greatest = λ u cast same. elim (cast_cases rs t vote u cast) [
        | inl e ↦ omega (arith, e, ltb-false floor.0 t is)
        | inr rest ↦ h.greatest u rest same
      ];
    }

floor_cast : (s : Setting) (rs : List Record) (c t : ℕ) (vote : Option Reason) (o : Option (ℕ × Option Reason)) → IsFloor s rs c o
    → IsFloor s (cast_as vote t ∷ rs) c (cond (s.coord t == c) (raised t vote o) o)
floor_cast s rs c t vote o h = go (s.coord t == c) refl
  where
    go : (b : Bool) → (s.coord t == c) ≡ b → IsFloor s (cast_as vote t ∷ rs) c (cond b (raised t vote o) o)
    go true is = floor_raised s rs c t vote o (eqb-true (s.coord t) c is) h
    go false is = floor_other s rs c t vote o (eqb-false (s.coord t) c is) h

-- a record that is no vote leaves the floor
floor_skip : (s : Setting) (r : Record) (rs : List Record) (c : ℕ) (o : Option (ℕ × Option Reason)) → ((v : Option Reason) (u : ℕ) → ¬ (cast_as v u ≡ r)) → IsFloor s rs c o → IsFloor s (r ∷ rs) c o
floor_skip s r rs c None plain h = λ u cast same. elim cast.1 [ inl e ↦ plain cast.0 u e | inr rest ↦ h u (cast.0, rest) same ]
floor_skip s r rs c (Some floor) plain h = record {
  cast = inr h.cast;
  same = h.same;
  greatest = λ u cast same. elim cast.1 [ inl e ↦ absurd (plain cast.0 u e) | inr rest ↦ h.greatest u (cast.0, rest) same ];
}

not_commit : (t : ℕ) (v : Option Reason) (u : ℕ) → ¬ (cast_as v u ≡ Commit t)
not_commit t None u e = cc
not_commit t (Some why) u e = cc

not_abort : (t : ℕ) (v : Option Reason) (u : ℕ) → ¬ (cast_as v u ≡ Abort t)
not_abort t None u e = cc
not_abort t (Some why) u e = cc

not_forget : (t : ℕ) (v : Option Reason) (u : ℕ) → ¬ (cast_as v u ≡ Forget t)
not_forget t None u e = cc
not_forget t (Some why) u e = cc

pub floor_is : (s : Setting) (rs : List Record) (c : ℕ) → IsFloor s rs c (floor_of s rs c)
floor_is s [] c = λ u cast same. cast.1
floor_is s (Grant t ∷ rs) c = floor_cast s rs c t None (floor_of s rs c) (floor_is s rs c)
floor_is s (Refuse t why ∷ rs) c = floor_cast s rs c t (Some why) (floor_of s rs c) (floor_is s rs c)
floor_is s (Commit t ∷ rs) c = floor_skip s (Commit t) rs c (floor_of s rs c) (not_commit t) (floor_is s rs c)
floor_is s (Abort t ∷ rs) c = floor_skip s (Abort t) rs c (floor_of s rs c) (not_abort t) (floor_is s rs c)
floor_is s (Forget t ∷ rs) c = floor_skip s (Forget t) rs c (floor_of s rs c) (not_forget t) (floor_is s rs c)

-- what an identifier's standing says
abbrev pub StandsSo : Setting → List Record → ℕ → Standing → Type 0
StandsSo s rs t Above = (u : ℕ) → CastIn rs u → s.coord u ≡ s.coord t → u < t
StandsSo s rs t (Same vote) = In (cast_as vote t) rs
StandsSo s rs t (Below floor) = CastIn rs floor × (s.coord floor ≡ s.coord t) × (t < floor)

to_floor_is : (s : Setting) (rs : List Record) (t : ℕ) (o : Option (ℕ × Option Reason)) → IsFloor s rs (s.coord t) o → StandsSo s rs t (to_floor t o)
to_floor_is s rs t None h = λ u cast same. absurd (h u cast same)
to_floor_is s rs t (Some floor) h = go (nat_lt floor.0 t) refl
  where
    at_or_below : (b : Bool) → (floor.0 == t) ≡ b → t ≤ floor.0 → StandsSo s rs t (cond b (Same floor.1) (Below floor.0))
    at_or_below true is above = subst (λ x. In (cast_as floor.1 x) rs) (eqb-true floor.0 t is) h.cast
    at_or_below false is above = let differ : ¬ (floor.0 ≡ t) = eqb-false floor.0 t is in ((floor.1, h.cast), h.same, omega (arith, above, differ))

    go : (b : Bool) → nat_lt floor.0 t ≡ b → StandsSo s rs t (cond b Above (cond (floor.0 == t) (Same floor.1) (Below floor.0)))
    go true is = λ u cast same. omega (arith, h.greatest u cast same, ltb-true floor.0 t is)
    go false is = at_or_below (floor.0 == t) refl (ltb-false floor.0 t is)

pub standing_is : (s : Setting) (rs : List Record) (t : ℕ) → StandsSo s rs t (standing s rs t)
standing_is s rs t = to_floor_is s rs t (floor_of s rs (s.coord t)) (floor_is s rs (s.coord t))

-- ---- what the state says of the log

pub cast_log : (m : ℕ) (vote : Option Reason) (t : ℕ) (log : List Entry) → In (cast_as vote t) (own m log) → IsCast log m t
cast_log m None t log h = inl (own-log m (Grant t) log h)
cast_log m (Some why) t log h = inr (why, own-log m (Refuse t why) log h)

pub log_cast : (m t : ℕ) (log : List Entry) → IsCast log m t → CastIn (own m log) t
log_cast m t log h = elim h [ inl g ↦ (None, log-own m (Grant t) log g) | inr r ↦ (Some r.0, log-own m (Refuse t r.0) log r.1) ]

-- below a floor it is below it in the log
pub below_log : (s : Setting) (log : List Entry) (m t floor : ℕ) → StandsSo s (own m log) t (Below floor) → IsBelow s log m t floor
below_log s log m t floor h = record { cast = cast_log m h.0.0 floor log h.0.1; same = h.1; above = h.2 }

-- above the floor an identifier is not passed
pub above_not_passed : (s : Setting) (log : List Entry) (m t : ℕ) → StandsSo s (own m log) t Above → ¬ IsPassed s log m t
above_not_passed s log m t above p =
    let less = above p.by (log_cast m p.by log p.cast) p.same in
    omega (arith, less, p.above)

pub open_is : (log : List Entry) (m t : ℕ) → is_undecided (own m log) t ≡ true → IsOpen log m t
open_is log m t h =
    let both = and_parts (has_grant (own m log) t) (not (has_decision (own m log) t)) h in
    record {
      granted = own-log m (Grant t) log (has_grant-In (own m log) t both.0);
      undecided = λ d. not_two (has_decision (own m log) t)
          (In-has_decision (own m log) t (elim d [ inl h ↦ inl (log-own m (Commit t) log h) | inr h ↦ inr (log-own m (Abort t) log h) ]))
          (not-true (has_decision (own m log) t) both.1);
    }

pub decided_is : (log : List Entry) (m t : ℕ) → has_decision (own m log) t ≡ true → IsDecided log m t
decided_is log m t h = elim (has_decision-In (own m log) t h) [ inl e ↦ inl (own-log m (Commit t) log e) | inr e ↦ inr (own-log m (Abort t) log e) ]

-- granted and not undecided is decided
pub not_open : (log : List Entry) (m t : ℕ) → is_undecided (own m log) t ≡ false → IsGranted log m t → IsDecided log m t
not_open log m t h granted = elim (and_cases (has_grant (own m log) t) (not (has_decision (own m log) t)) h) [
  | inl none ↦ absurd (not_two (has_grant (own m log) t) (In-has_grant (own m log) t (log-own m (Grant t) log granted)) none)
  | inr some ↦ decided_is log m t (not-false (has_decision (own m log) t) some)
]

pub is_open : (log : List Entry) (m t : ℕ) → IsOpen log m t → is_undecided (own m log) t ≡ true
is_open log m t o = elim (cases_Bool (is_undecided (own m log) t)) [
  | inl is ↦ is
  | inr none ↦ absurd (o.undecided (not_open log m t none o.granted))
]

pub kept_is : (s : Setting) (log : List Entry) (m t : ℕ) → is_kept s m (own m log) t ≡ true → IsGranted log m t × (has_several (participants_at s m t) ≡ true)
kept_is s log m t h =
    let both = and_parts (has_grant (own m log) t) (has_several (participants_at s m t) && not (has_forget (own m log) t)) h in
    (own-log m (Grant t) log (has_grant-In (own m log) t both.0), (and_parts (has_several (participants_at s m t)) (not (has_forget (own m log) t)) both.1).0)

-- granted with several participants, and not kept: forgotten
pub not_kept : (s : Setting) (log : List Entry) (m t : ℕ) → is_kept s m (own m log) t ≡ false → IsGranted log m t
    → has_several (participants_at s m t) ≡ true → In (At m (Forget t)) log
not_kept s log m t h granted several =
    elim (and_cases (has_grant (own m log) t) (has_several (participants_at s m t) && not (has_forget (own m log) t)) h) [
      | inl none ↦ absurd (not_two (has_grant (own m log) t) (In-has_grant (own m log) t (log-own m (Grant t) log granted)) none)
      | inr rest ↦ elim (and_cases (has_several (participants_at s m t)) (not (has_forget (own m log) t)) rest) [
        | inl single ↦ absurd (not_two (has_several (participants_at s m t)) several single)
        | inr some ↦ own-log m (Forget t) log (has_forget-In (own m log) t (not-false (has_forget (own m log) t) some))
      ]
    ]

-- a kept record is not forgotten
pub kept_remembered : (s : Setting) (log : List Entry) (m t : ℕ) → is_kept s m (own m log) t ≡ true → ¬ In (At m (Forget t)) log
kept_remembered s log m t h forgotten =
    let both = and_parts (has_grant (own m log) t) (has_several (participants_at s m t) && not (has_forget (own m log) t)) h in
    let none = not-true (has_forget (own m log) t) (and_parts (has_several (participants_at s m t)) (not (has_forget (own m log) t)) both.1).1 in
    not_two (has_forget (own m log) t) (In-has_forget (own m log) t (log-own m (Forget t) log forgotten)) none

-- what an answer to `list` names is kept, with the participants that the record names
pub kept_in-is : (s : Setting) (log : List Entry) (m : ℕ) (x : ℕ × List ℕ) → In x (kept_in s m (own m log))
    → IsGranted log m x.0 × (has_several (participants_at s m x.0) ≡ true) × (x.1 ≡ participants_at s m x.0)
kept_in-is s log m x h =
    let chosen = filter (is_kept s m (own m log)) (granted_in (own m log)) in
    let it = In-map (λ (t : ℕ). (t, participants_at s m t)) x (take 64 (sorted chosen)) h in
    let kept = kept_is s log m it.0 (In-filter (is_kept s m (own m log)) it.0 (granted_in (own m log)) (In-sorted it.0 chosen (In-take 64 it.0 (sorted chosen) it.1))).1 in
    subst (λ (y : ℕ × List ℕ). IsGranted log m y.0 × (has_several (participants_at s m y.0) ≡ true) × (y.1 ≡ participants_at s m y.0)) (sym it.2) (kept.0, kept.1, refl)

-- of a live identifier each record names the participants that it has
pub live_named : (s : Setting) (m t : ℕ) → IsLive s t → participants_at s m t ≡ nodes_of s t
live_named s m t live = ap (λ b. cond b (s.noted m t) (nodes_of s t)) (false_from_ne_true (is_in t s.old) (λ h. live (is_in-In t s.old h)))

pub In-granted_in : (rs : List Record) (t : ℕ) → In (Grant t) rs → In t (granted_in rs)
In-granted_in [] t h = absurd h
In-granted_in (Grant u ∷ rs) t h = elim h [ inl e ↦ inl (one t u e) | inr r ↦ inr (In-granted_in rs t r) ]
  where
    one : (x y : ℕ) → Grant x ≡ Grant y → x ≡ y
    one x y e = cc
In-granted_in (Refuse u why ∷ rs) t h = elim h [ inl e ↦ absurd cc | inr r ↦ In-granted_in rs t r ]
In-granted_in (Commit u ∷ rs) t h = elim h [ inl e ↦ absurd cc | inr r ↦ In-granted_in rs t r ]
In-granted_in (Abort u ∷ rs) t h = elim h [ inl e ↦ absurd cc | inr r ↦ In-granted_in rs t r ]
In-granted_in (Forget u ∷ rs) t h = elim h [ inl e ↦ absurd cc | inr r ↦ In-granted_in rs t r ]
