-- A state that a load finds shows in a machine that is opened from states.
use Rattle.std.proofs.Common.{◌≡◌, ℕ, zero, suc, ◌≤◌, Bool, true, false, not, cond, ◌&&◌, ◌||◌, List, [], ◌∷◌, ◌++◌, map, Option, Some, None, is_some, ◌⊎◌, inl, inr, refl, sym, ap, subst, ◌∙◌, arith}
use Rattle.std.proofs.lemmas.Bool.{and_parts, and_from, or_cases, not-true, not_from_false, false_from_ne_true, eq-eqb}
use Rattle.mini_tx.specs.declared.tx_id.TxId.{TxId}
use Rattle.mini_tx.specs.Laws.{IsTypedId}
use Rattle.mem_rules.specs.declared.floor.Floor.{Floor}
use Rattle.mem_rules.specs.declared.kept.Kept.{Kept}
use Rattle.mem_rules.specs.Identifiers.{is_same}
use Rattle.mem_rules.specs.Rules.{is_undecided}
use Rattle.mem_rules.specs.State.{State, floor_at, kept_of}
use Rattle.tx_rules.specs.Mini.{In, Setting, has_several, participants_at}
use Rattle.tx_rules.specs.Decision.{Reason, Record, Grant, Refuse, Commit, Abort, Forget}
use Rattle.tx_rules.proofs.FaithfulLemmas.{in_front, in_back, in_either}
use Rattle.tx_actors.specs.Node as machine
use Rattle.tx_actors.proofs.LawLemmas.{floors_are_greatest}
use Rattle.tx_actors.proofs.RecordLemmas.{has_grant-In, In-has_grant, has_forget-In, In-has_forget, DecidedIn, has_decision-In, In-has_decision}
use Rattle.tx_actors.proofs.TestLemmas.{not_two, map-In}
use Rattle.mem_laws.specs.Cells.{number}
use Rattle.mem_laws.specs.Loaded.{records_of_decision, records_of_kept, records_of_vote, records_of_floor, records_of_floors, records_of_all, records_of_state, IsLoaded, LoadedNodesShow}
use Rattle.mem_laws.specs.Shown.{reason_of, shown_floor, decision_on}
use Rattle.mem_laws.proofs.CellLemmas.{same_tests, number_same, sameness_is}
use Rattle.mem_laws.proofs.ImageLemmas.{bytes_of_cells}
use Rattle.mem_laws.proofs.ListLemmas.{Ascends, numbers_ascend}
use Rattle.mem_laws.proofs.RuleLemmas.{find-In}

-- ---- where a record comes from

-- of a kept record
In-all : (r : Record) (kept : List Kept) → In r (records_of_all kept) → (k : Kept) × In k kept × In r (records_of_kept k)
In-all r [] h = absurd h
In-all r (k ∷ kept) h = elim (in_either r (records_of_kept k) (records_of_all kept) h) [
  | inl here ↦ (k, inl refl, here)
  | inr rest ↦ let it = In-all r kept rest in (it.0, inr it.1, it.2)
]

all-In : (r : Record) (kept : List Kept) (k : Kept) → In k kept → In r (records_of_kept k) → In r (records_of_all kept)
all-In r [] k h is = absurd h
all-In r (x ∷ kept) k h is = elim h [
  | inl e ↦ in_front r (records_of_kept x) (records_of_all kept) (subst (λ (y : Kept). In r (records_of_kept y)) e is)
  | inr rest ↦ in_back r (records_of_kept x) (records_of_all kept) (all-In r kept k rest is)
]

-- of a floor
In-floor : (r : Record) (kept : List Kept) (o : Option Floor) → In r (records_of_floor kept o) → (f : Floor) × (o ≡ Some f) × In r (records_of_floor kept (Some f))
In-floor r kept None h = absurd h
In-floor r kept (Some f) h = (f, refl, h)

In-floors : (r : Record) (kept : List Kept) (floors : List (Option Floor)) → In r (records_of_floors kept floors)
    → (c : ℕ) × (f : Floor) × (floor_at floors c ≡ Some f) × In r (records_of_floor kept (Some f))
In-floors r kept [] h = absurd h
In-floors r kept (o ∷ floors) h = elim (in_either r (records_of_floor kept o) (records_of_floors kept floors) h) [
  | inl here ↦ let it = In-floor r kept o here in (0, it.0, it.1, it.2)
  | inr rest ↦ let it = In-floors r kept floors rest in (suc it.0, it.1, it.2, it.3)
]

no_floor_here : (c : ℕ) (f : Floor) → floor_at [] c ≡ Some f → ⊥
no_floor_here c f e = cc

floors-In : (r : Record) (kept : List Kept) (floors : List (Option Floor)) (c : ℕ) (f : Floor) → floor_at floors c ≡ Some f → In r (records_of_floor kept (Some f))
    → In r (records_of_floors kept floors)
floors-In r kept [] c f at is = absurd (no_floor_here c f at)
floors-In r kept (o ∷ floors) zero f at is =
    in_front r (records_of_floor kept o) (records_of_floors kept floors) (subst (λ (x : Option Floor). In r (records_of_floor kept x)) (sym at) is)
floors-In r kept (o ∷ floors) (suc c) f at is = in_back r (records_of_floor kept o) (records_of_floors kept floors) (floors-In r kept floors c f at is)

-- ---- the records of one

-- a kept record is granted
grant_of_kept : (k : Kept) → In (Grant (number k.id)) (records_of_kept k)
grant_of_kept k = in_back (Grant (number k.id)) (records_of_decision (number k.id) k.decision) (Grant (number k.id) ∷ []) (inl refl)

-- what a record of a kept one is
abbrev IsOfKept : Kept → Record → Type 0
IsOfKept k (Grant t) = t ≡ number k.id
IsOfKept k (Refuse t why) = ⊥
IsOfKept k (Commit t) = (t ≡ number k.id) × (is_undecided k ≡ false)
IsOfKept k (Abort t) = (t ≡ number k.id) × (is_undecided k ≡ false)
IsOfKept k (Forget t) = ⊥

of_kept : (k : Kept) (r : Record) → In r (records_of_kept k) → IsOfKept k r
of_kept k r h = go k.decision refl h
  where
    grant : r ≡ Grant (number k.id) → IsOfKept k r
    grant e = subst (IsOfKept k) (sym e) refl

    go : (o : Option Bool) → k.decision ≡ o → In r (records_of_decision (number k.id) o ++ Grant (number k.id) ∷ []) → IsOfKept k r
    go None is h = elim h [ inl e ↦ grant e | inr none ↦ absurd none ]
    go (Some true) is h = elim h [
      | inl e ↦ subst (IsOfKept k) (sym e) (refl, ap (λ (d : Option Bool). let x : Kept = record k { decision = d } in is_undecided x) is)
      | inr (inl e) ↦ grant e
      | inr (inr none) ↦ absurd none
    ]
    go (Some false) is h = elim h [
      | inl e ↦ subst (IsOfKept k) (sym e) (refl, ap (λ (d : Option Bool). let x : Kept = record k { decision = d } in is_undecided x) is)
      | inr (inl e) ↦ grant e
      | inr (inr none) ↦ absurd none
    ]

-- a decided record has its decision
decision_of_kept : (k : Kept) → is_undecided k ≡ false → DecidedIn (records_of_kept k) (number k.id)
decision_of_kept k h = go k.decision h
  where
    go : (o : Option Bool) → is_undecided (record k { decision = o }) ≡ false → DecidedIn (records_of_decision (number k.id) o ++ Grant (number k.id) ∷ []) (number k.id)
    go None e = absurd cc
    go (Some true) e = inl (inl refl)
    go (Some false) e = inr (inl refl)

-- what a record of a floor is: its record is not kept, and a Granted vote has all of three records
pub record IsOfFloor (kept : List Kept) (f : Floor) (r : Record) : Type 0 where
  pub unkept : is_some (kept_of kept f.id) ≡ false
  pub is : In r (records_of_vote (number f.id) (reason_of f.vote))

of_floor : (kept : List Kept) (f : Floor) (r : Record) → In r (records_of_floor kept (Some f)) → IsOfFloor kept f r
of_floor kept f r h = go (is_some (kept_of kept f.id)) refl h
  where
    go : (b : Bool) → is_some (kept_of kept f.id) ≡ b → In r (cond b [] (records_of_vote (number f.id) (reason_of f.vote))) → IsOfFloor kept f r
    go true is h = absurd h
    go false is h = record { unkept = is; is = h }

floor_of_it : (kept : List Kept) (f : Floor) (r : Record) → is_some (kept_of kept f.id) ≡ false → In r (records_of_vote (number f.id) (reason_of f.vote)) → In r (records_of_floor kept (Some f))
floor_of_it kept f r unkept h = subst (λ (b : Bool). In r (cond b [] (records_of_vote (number f.id) (reason_of f.vote)))) (sym unkept) h

-- a vote's records name one identifier, and those of a Granted one are three
abbrev IsOfVote : ℕ → Option Reason → Record → Type 0
IsOfVote t why (Grant u) = (u ≡ t) × (why ≡ None)
IsOfVote t why (Refuse u other) = (u ≡ t) × (why ≡ Some other)
IsOfVote t why (Commit u) = (u ≡ t) × (why ≡ None)
IsOfVote t why (Abort u) = ⊥
IsOfVote t why (Forget u) = (u ≡ t) × (why ≡ None)

of_vote : (t : ℕ) (why : Option Reason) (r : Record) → In r (records_of_vote t why) → IsOfVote t why r
of_vote t None r h = elim h [
  | inl e ↦ subst (IsOfVote t None) (sym e) (refl, refl)
  | inr (inl e) ↦ subst (IsOfVote t None) (sym e) (refl, refl)
  | inr (inr (inl e)) ↦ subst (IsOfVote t None) (sym e) (refl, refl)
  | inr (inr (inr none)) ↦ absurd none
]
of_vote t (Some why) r h = elim h [ inl e ↦ subst (IsOfVote t (Some why)) (sym e) (refl, refl) | inr none ↦ absurd none ]

granted_votes : (t : ℕ) (why : Option Reason) (r : Record) → why ≡ None → In r (Forget t ∷ Commit t ∷ Grant t ∷ []) → In r (records_of_vote t why)
granted_votes t why r e h = subst (λ (o : Option Reason). In r (records_of_vote t o)) (sym e) h

cast_of_vote : (t : ℕ) (why : Option Reason) → In (machine.cast_as why t) (records_of_vote t why)
cast_of_vote t None = inr (inr (inl refl))
cast_of_vote t (Some why) = inl refl

-- ---- kept identifiers

found_same : (kept : List Kept) (k : Kept) (id : TxId) → In k kept → is_same k.id id ≡ true → is_some (kept_of kept id) ≡ true
found_same [] k id h is = absurd h
found_same (x ∷ kept) k id h is = go (is_same x.id id) refl (λ there. found_same kept k id there is)
  where
    rest : is_same x.id id ≡ false → In k kept
    rest other = elim h [ inl e ↦ absurd (not_two (is_same x.id id) (ap (λ (y : Kept). is_same y.id id) (sym e) ∙ is) other) | inr later ↦ later ]

    go : (b : Bool) → is_same x.id id ≡ b → (In k kept → is_some (kept_of kept id) ≡ true) → is_some (cond b (Some x) (kept_of kept id)) ≡ true
    go true e later = refl
    go false e later = later (rest e)

one_record_of : (kept : List Kept) → Ascends (map (λ (k : Kept). number k.id) kept) → (a b : Kept) → In a kept → In b kept → number a.id ≡ number b.id → a ≡ b
one_record_of [] up a b x y e = absurd x
one_record_of (k ∷ kept) up a b x y e = elim x [
  | inl here ↦ elim y [
    | inl too ↦ here ∙ sym too
    | inr later ↦ absurd (let less = up.0 (number b.id) (map-In (λ (z : Kept). number z.id) b kept later) in omega (arith, less, e, ap (λ (z : Kept). number z.id) here))
  ]
  | inr later ↦ elim y [
    | inl here ↦ absurd (let less = up.0 (number a.id) (map-In (λ (z : Kept). number z.id) a kept later) in omega (arith, less, e, ap (λ (z : Kept). number z.id) here))
    | inr too ↦ one_record_of kept up.1 a b later too e
  ]
]

module _ (s : Setting) (m : ℕ) (state : State) (loaded : IsLoaded s m state) where
  abbrev rs : List Record
  rs = records_of_state state

  -- a record is of a kept one, or of a floor
  abbrev IsFrom : Record → Type 0
  IsFrom r = ((k : Kept) × In k state.kept × IsOfKept k r)
      ⊎ ((c : ℕ) × (f : Floor) × (floor_at state.floors c ≡ Some f) × IsOfFloor state.kept f r)

  from : (r : Record) → In r rs → IsFrom r
  from r h = elim (in_either r (records_of_floors state.kept state.floors) (records_of_all state.kept) h) [
    | inl a ↦ let it = In-floors r state.kept state.floors a in inr (it.0, it.1, it.2, of_floor state.kept it.1 r it.3)
    | inr b ↦ let it = In-all r state.kept b in inl (it.0, it.1, of_kept it.0 r it.2)
  ]

  of_record : (r : Record) (k : Kept) → In k state.kept → In r (records_of_kept k) → In r rs
  of_record r k h is = in_back r (records_of_floors state.kept state.floors) (records_of_all state.kept) (all-In r state.kept k h is)

  of_a_floor : (r : Record) (c : ℕ) (f : Floor) → floor_at state.floors c ≡ Some f → is_some (kept_of state.kept f.id) ≡ false
      → In r (records_of_vote (number f.id) (reason_of f.vote)) → In r rs
  of_a_floor r c f at unkept is =
      in_front r (records_of_floors state.kept state.floors) (records_of_all state.kept)
      (floors-In r state.kept state.floors c f at (floor_of_it state.kept f r unkept is))

  -- what has the number of a kept record is it
  kept_number : (k : Kept) (id : TxId) → In k state.kept → IsTypedId id → number k.id ≡ number id → is_some (kept_of state.kept id) ≡ true
  kept_number k id h typed e =
      found_same state.kept k id h (sym (sameness_is k.id id (loaded.records k h).typed typed) ∙ eq-eqb (number k.id) (number id) e)

  -- ---- floors

  -- each vote that was cast is at the floor of its coordinator or below it, and at it the same
  pub record IsCastBelow (u : ℕ) (vote : Option Reason) : Type 0 where
    pub floor : Floor
    pub at : floor_at state.floors (s.coord u) ≡ Some floor
    pub low : u ≤ number floor.id
    pub same : u ≡ number floor.id → reason_of floor.vote ≡ vote

  none_cast : (k : Kept) (u : ℕ) (vote : Option Reason) → IsOfKept k (machine.cast_as vote u) → (u ≡ number k.id) × (vote ≡ None)
  none_cast k u None h = (h, refl)
  none_cast k u (Some why) h = absurd h

  vote_cast : (t u : ℕ) (why vote : Option Reason) → IsOfVote t why (machine.cast_as vote u) → (u ≡ t) × (why ≡ vote)
  vote_cast t u why None h = h
  vote_cast t u why (Some other) h = h

  cast_below : (u : ℕ) (vote : Option Reason) → In (machine.cast_as vote u) rs → IsCastBelow u vote
  cast_below u vote h = elim (from (machine.cast_as vote u) h) [
    | inl (k, there, is) ↦
        let it = none_cast k u vote is in
        let l = loaded.records k there in
        let low = l.below in
        let e = it.0 in
        record {
          floor = l.floor;
          at = ap (λ (x : ℕ). floor_at state.floors (s.coord x)) it.0 ∙ l.at_floor;
          low = omega (arith, e, low);
          same = λ at. l.same (sym it.0 ∙ at) ∙ sym it.1;
        }
    | inr (c, f, at, is) ↦
        let it = vote_cast (number f.id) u (reason_of f.vote) vote (of_vote (number f.id) (reason_of f.vote) (machine.cast_as vote u) is.is) in
        let e = it.0 in
        record {
          floor = f;
          at = ap (floor_at state.floors) (ap s.coord it.0 ∙ (loaded.floors c f at).coordinator) ∙ at;
          low = omega (arith, e);
          same = λ same. it.1;
        }
  ]

  -- the vote of a floor is among the records
  floor_cast : (c : ℕ) (f : Floor) → floor_at state.floors c ≡ Some f → In (machine.cast_as (reason_of f.vote) (number f.id)) rs
  floor_cast c f at = go (kept_of state.kept f.id) refl
    where
      some_floor : (a b : Floor) → Some a ≡ Some b → a ≡ b
      some_floor a b e = cc

      go : (o : Option Kept) → kept_of state.kept f.id ≡ o → In (machine.cast_as (reason_of f.vote) (number f.id)) rs
      go None is = of_a_floor (machine.cast_as (reason_of f.vote) (number f.id)) c f at (ap (λ (o : Option Kept). is_some o) is) (cast_of_vote (number f.id) (reason_of f.vote))
      go (Some k) is =
          let there = find-In (λ (x : Kept). is_same x.id f.id) k state.kept is in
          let e = number_same k.id f.id there.1 in
          let l = loaded.records k there.0 in
          let floor_is : l.floor ≡ f = some_floor l.floor f (sym l.at_floor ∙ ap (floor_at state.floors) (ap s.coord e ∙ (loaded.floors c f at).coordinator) ∙ at) in
          let granted : reason_of f.vote ≡ None = ap (λ (x : Floor). reason_of x.vote) (sym floor_is) ∙ l.same (e ∙ ap (λ (x : Floor). number x.id) (sym floor_is)) in
          subst (λ (o : Option Reason). In (machine.cast_as o (number f.id)) rs) (sym granted)
          (subst (λ (t : ℕ). In (Grant t) rs) e (of_record (Grant (number k.id)) k there.0 (grant_of_kept k)))

  floors_are : (c : ℕ) → machine.floor_of s rs c ≡ shown_floor (floor_at state.floors c)
  floors_are c = go (machine.floor_of s rs c) refl (floor_at state.floors c) refl
    where
      some_one : (a b : Floor) → Some a ≡ Some b → a ≡ b
      some_one a b e = cc

      apart : (f : Floor) → None ≡ Some f → ⊥
      apart f e = cc

      go : (o : Option (ℕ × Option Reason)) → machine.floor_of s rs c ≡ o → (x : Option Floor) → floor_at state.floors c ≡ x → o ≡ shown_floor x
      go None is None at = refl
      go None is (Some f) at = absurd ((floors_are_greatest s rs c).0 is (number f.id) (reason_of f.vote) (floor_cast c f at) (loaded.floors c f at).coordinator)
      go (Some (t, vote)) is None at =
          let top = (floors_are_greatest s rs c).1 t vote is in
          let below = cast_below t vote top.0 in
          absurd (apart below.floor (sym at ∙ ap (floor_at state.floors) (sym top.1) ∙ below.at))
      go (Some (t, vote)) is (Some f) at =
          let top = (floors_are_greatest s rs c).1 t vote is in
          let below = cast_below t vote top.0 in
          let one : below.floor ≡ f = some_one below.floor f (sym below.at ∙ ap (floor_at state.floors) top.1 ∙ at) in
          let low : t ≤ number f.id = subst (λ (x : Floor). t ≤ number x.id) one below.low in
          let high : number f.id ≤ t = top.2 (number f.id) (reason_of f.vote) (floor_cast c f at) (loaded.floors c f at).coordinator in
          let same : t ≡ number f.id = omega (arith, low, high) in
          let vote_is : reason_of f.vote ≡ vote = ap (λ (x : Floor). reason_of x.vote) (sym one) ∙ below.same (same ∙ ap (λ (x : Floor). number x.id) (sym one)) in
          ap (λ (u : ℕ). let x : Option (ℕ × Option Reason) = Some (u, vote) in x) same
          ∙ ap (λ (w : Option Reason). let x : Option (ℕ × Option Reason) = Some (number f.id, w) in x) (sym vote_is)

  -- ---- kept records

  -- an unkept floor's identifier is that of no kept record
  unkept_apart : (c : ℕ) (f : Floor) (k : Kept) → floor_at state.floors c ≡ Some f → is_some (kept_of state.kept f.id) ≡ false → In k state.kept → ¬ (number k.id ≡ number f.id)
  unkept_apart c f k at unkept h e = not_two (is_some (kept_of state.kept f.id)) (kept_number k f.id h (loaded.floors c f at).typed e) unkept

  not_forgotten : (k : Kept) → In k state.kept → machine.has_forget rs (number k.id) ≡ false
  not_forgotten k h = false_from_ne_true (machine.has_forget rs (number k.id)) (λ is. elim (from (Forget (number k.id)) (has_forget-In rs (number k.id) is)) [
    | inl (other, there, none) ↦ none
    | inr (c, f, at, of) ↦ unkept_apart c f k at of.unkept h (of_vote (number f.id) (reason_of f.vote) (Forget (number k.id)) of.is).0
  ])

  has_grant_of : (k : Kept) → In k state.kept → machine.has_grant rs (number k.id) ≡ true
  has_grant_of k h = In-has_grant rs (number k.id) (of_record (Grant (number k.id)) k h (grant_of_kept k))

  keeps : (k : Kept) → In k state.kept → machine.is_kept s m rs (number k.id) ≡ true
  keeps k h =
      and_from (machine.has_grant rs (number k.id)) _ (has_grant_of k h)
      (and_from (has_several (participants_at s m (number k.id))) _ (ap has_several (sym (loaded.records k h).participants) ∙ (loaded.records k h).several)
      (not_from_false (machine.has_forget rs (number k.id)) (not_forgotten k h)))

  -- what the machine keeps is a kept record
  kept_is : (t : ℕ) → machine.is_kept s m rs t ≡ true → (k : Kept) × In k state.kept × (number k.id ≡ t)
  kept_is t is =
      let both = and_parts (machine.has_grant rs t) _ is in
      let none = not-true (machine.has_forget rs t) (and_parts (has_several (participants_at s m t)) _ both.1).1 in
      elim (from (Grant t) (has_grant-In rs t both.0)) [
        | inl (k, there, e) ↦ (k, there, sym e)
        | inr (c, f, at, of) ↦
            let it = of_vote (number f.id) (reason_of f.vote) (Grant t) of.is in
            absurd (not_two (machine.has_forget rs t) (In-has_forget rs t (subst (λ (u : ℕ). In (Forget u) rs) (sym it.0)
            (of_a_floor (Forget (number f.id)) c f at of.unkept (granted_votes (number f.id) (reason_of f.vote) (Forget (number f.id)) it.1 (inl refl))))) none)
      ]

  kept_tests : (id : TxId) → IsTypedId id → machine.is_kept s m rs (number id) ≡ is_some (kept_of state.kept id)
  kept_tests id typed = same_tests (machine.is_kept s m rs (number id)) (is_some (kept_of state.kept id))
      (λ is. let it = kept_is (number id) is in kept_number it.0 id it.1 typed it.2)
      (λ is. go (kept_of state.kept id) refl is)
    where
      go : (o : Option Kept) → kept_of state.kept id ≡ o → is_some o ≡ true → machine.is_kept s m rs (number id) ≡ true
      go None at is = absurd cc
      go (Some k) at is =
          let there = find-In (λ (x : Kept). is_same x.id id) k state.kept at in
          subst (λ (t : ℕ). machine.is_kept s m rs t ≡ true) (number_same k.id id there.1) (keeps k there.0)

  -- a decision is of a decided record, or of a floor
  decided_in : (t : ℕ) → DecidedIn rs t → ((k : Kept) × In k state.kept × (number k.id ≡ t) × (is_undecided k ≡ false))
      ⊎ ((c : ℕ) × (f : Floor) × (floor_at state.floors c ≡ Some f) × (is_some (kept_of state.kept f.id) ≡ false) × (t ≡ number f.id) × (reason_of f.vote ≡ None))
  decided_in t d = elim d [
    | inl h ↦ elim (from (Commit t) h) [
      | inl (k, there, e) ↦ inl (k, there, sym e.0, e.1)
      | inr (c, f, at, of) ↦ let it = of_vote (number f.id) (reason_of f.vote) (Commit t) of.is in inr (c, f, at, of.unkept, it.0, it.1)
    ]
    | inr h ↦ elim (from (Abort t) h) [
      | inl (k, there, e) ↦ inl (k, there, sym e.0, e.1)
      | inr (c, f, at, of) ↦ absurd (of_vote (number f.id) (reason_of f.vote) (Abort t) of.is)
    ]
  ]

  undecided_is : (k : Kept) → In k state.kept → machine.is_undecided rs (number k.id) ≡ is_undecided k
  undecided_is k h = ap (λ b. b && not (machine.has_decision rs (number k.id))) (has_grant_of k h) ∙ go (is_undecided k) refl
    where
      go : (b : Bool) → is_undecided k ≡ b → not (machine.has_decision rs (number k.id)) ≡ b
      go true is = not_from_false (machine.has_decision rs (number k.id)) (false_from_ne_true (machine.has_decision rs (number k.id)) (λ decided.
          elim (decided_in (number k.id) (has_decision-In rs (number k.id) decided)) [
            | inl (other, there, e, over) ↦
                not_two (is_undecided k) is (ap (λ (x : Kept). is_undecided x) (one_record_of state.kept (numbers_ascend state.kept (λ x h. (loaded.records x h).typed) loaded.ascending) k other h there (sym e)) ∙ over)
            | inr (c, f, at, unkept, e, none) ↦ unkept_apart c f k at unkept h e
          ]))
      go false is = ap not (In-has_decision rs (number k.id) (elim (decision_of_kept k is) [
        | inl c ↦ inl (of_record (Commit (number k.id)) k h c)
        | inr a ↦ inr (of_record (Abort (number k.id)) k h a)
      ]))

  -- a kept record's decision is logged
  decision_is : (k : Kept) → In k state.kept → (commit : Bool) → k.decision ≡ Some commit → In (decision_on (number k.id) commit) rs
  decision_is k h commit made = of_record (decision_on (number k.id) commit) k h (go commit made)
    where
      go : (b : Bool) → k.decision ≡ Some b → In (decision_on (number k.id) b) (records_of_kept k)
      go true e = subst (λ (o : Option Bool). In (Commit (number k.id)) (records_of_decision (number k.id) o ++ Grant (number k.id) ∷ [])) (sym e) (inl refl)
      go false e = subst (λ (o : Option Bool). In (Abort (number k.id)) (records_of_decision (number k.id) o ++ Grant (number k.id) ∷ [])) (sym e) (inl refl)

  open_is : (t : ℕ) → machine.is_undecided rs t ≡ true → (k : Kept) × In k state.kept × (number k.id ≡ t)
  open_is t is =
      let both = and_parts (machine.has_grant rs t) _ is in
      elim (from (Grant t) (has_grant-In rs t both.0)) [
        | inl (k, there, e) ↦ (k, there, sym e)
        | inr (c, f, at, of) ↦
            let it = of_vote (number f.id) (reason_of f.vote) (Grant t) of.is in
            absurd (not_two (machine.has_decision rs t) (In-has_decision rs t (inl (subst (λ (u : ℕ). In (Commit u) rs) (sym it.0)
            (of_a_floor (Commit (number f.id)) c f at of.unkept (granted_votes (number f.id) (reason_of f.vote) (Commit (number f.id)) it.1 (inr (inl refl)))))))
            (not-true (machine.has_decision rs t) both.1))
      ]

  -- what is decided or forgotten was granted
  floor_granted : (c : ℕ) (f : Floor) (t : ℕ) → floor_at state.floors c ≡ Some f → is_some (kept_of state.kept f.id) ≡ false → t ≡ number f.id → reason_of f.vote ≡ None
      → machine.has_grant rs t ≡ true
  floor_granted c f t at unkept e none = In-has_grant rs t (subst (λ (u : ℕ). In (Grant u) rs) (sym e)
      (of_a_floor (Grant (number f.id)) c f at unkept (granted_votes (number f.id) (reason_of f.vote) (Grant (number f.id)) none (inr (inr (inl refl))))))

  granted_first : (t : ℕ) → (machine.has_decision rs t || machine.has_forget rs t) ≡ true → machine.has_grant rs t ≡ true
  granted_first t is = elim (or_cases (machine.has_decision rs t) (machine.has_forget rs t) is) [
    | inl decided ↦ elim (decided_in t (has_decision-In rs t decided)) [
      | inl (k, there, e, over) ↦ subst (λ (u : ℕ). machine.has_grant rs u ≡ true) e (has_grant_of k there)
      | inr (c, f, at, unkept, e, none) ↦ floor_granted c f t at unkept e none
    ]
    | inr forgotten ↦ elim (from (Forget t) (has_forget-In rs t forgotten)) [
      | inl (k, there, none) ↦ absurd none
      | inr (c, f, at, of) ↦ let it = of_vote (number f.id) (reason_of f.vote) (Forget t) of.is in floor_granted c f t at of.unkept it.0 it.1
    ]
  ]

pub loaded_nodes_show : LoadedNodesShow
loaded_nodes_show s m state seen loaded = record {
  floors = floors_are s m state loaded;
  votes = λ c floor at. ((loaded.floors c floor at).typed, λ granted fresh. absurd ((loaded.floors c floor at).known fresh));
  kept = kept_tests s m state loaded;
  ascending = loaded.ascending;
  records = λ k h.
      let l = loaded.records k h in
      record {
        typed = l.typed;
        granted = l.granted;
        vote = λ granted fresh. absurd (l.known fresh);
        participants = l.participants;
        undecided = undecided_is s m state loaded k h;
        decision = decision_is s m state loaded k h;
        locked = l.locked;
        written = l.written;
      };
  within = loaded.within;
  undecided = open_is s m state loaded;
  granted = granted_first s m state loaded;
  typed = kept_is s m state loaded;
  image = bytes_of_cells state.image;
}
