-- The votes decide.
use Rattle.std.proofs.Common.{◌≡◌, ℕ, ◌==◌, ◌&&◌, ◌||◌, Bool, true, false, not, cond, List, [], ◌∷◌, ◌++◌, filter, length, Option, Some, None, ◌⊎◌, inl, inr, refl, sym, ap, subst, ◌∙◌}
use Rattle.std.specs.List.{Contains}
use Rattle.std.proofs.lemmas.Bool.{eqb-true, eq-eqb}
use Rattle.mini_tx.specs.declared.item.Item.{Item}
use Rattle.mini_tx.specs.declared.message.Message.{Message}
use Rattle.mini_tx.specs.declared.message.Message.TheVariants as message
use Rattle.mini_tx.specs.declared.tx_id.TxId.{TxId}
use Rattle.mini_tx.specs.declared.vote.Vote.{Vote}
use Rattle.mini_tx.specs.declared.vote.Vote.TheVariants as vote
use Rattle.mini_tx.specs.Minitransactions.{memory_of}
use Rattle.mini_tx.specs.Order.{is_same}
use Rattle.tx_coord.specs.declared.outcome.Outcome.{Outcome}
use Rattle.tx_coord.specs.declared.outcome.Outcome.TheVariants.{Committed, Refused}
use Rattle.tx_coord.specs.declared.progress.Progress.{Progress}
use Rattle.tx_coord.specs.declared.progress.Progress.TheVariants.{Waits, Ends}
use Rattle.tx_coord.specs.declared.running.Running.{Running}
use Rattle.tx_coord.specs.State.{Phase, Runs, Ended, State}
use Rattle.tx_coord.specs.Rules.{after_vote, counted, fits, gathered, has_granted, heard, is_in, missing, on_vote, participants_of, placed_for, placed_in, quiet, with_grant}
use Rattle.tx_coord.specs.Laws.{Delivery, after_hearing, vote_in, before, first_vote, IsGrantedVote, IsCommitted, CommittedWhereAllGranted}
use Rattle.tx_coord.proofs.ParticipantLemmas.{In, contained, contains, none_granted, placed-In}
use Rattle.tx_coord.proofs.MissingLemmas.{is_in_missing, in_list, list_in, one_more, none_missing, empty_is}

-- ---- what is heard

abbrev phase_by : Progress → Phase
phase_by (Waits r) = Runs r
phase_by (Ends e) = Ended e.outcome

phase_after : (c : State) (p : Progress) → (after_vote c p).now.phase ≡ phase_by p
phase_after c (Waits r) = refl
phase_after c (Ends e) = refl

-- an outcome stays until it is taken
ended_stays : (c : State) (m : ℕ) (x : Message) (o : Outcome) → c.phase ≡ Ended o → (heard c m x).now.phase ≡ Ended o
ended_stays c m (message.Voted id v) o is = ap (λ (p : Phase). (on_vote c m id v p).now.phase) is ∙ is
ended_stays c m (message.Prepare id participants items) o is = is
ended_stays c m (message.Decide id commit) o is = is
ended_stays c m (message.Done id) o is = is
ended_stays c m (message.Forget id) o is = is
ended_stays c m message.List o is = is
ended_stays c m (message.Kept ids cut) o is = is
ended_stays c m (message.Ask id) o is = is
ended_stays c m (message.Answer id ok) o is = is
ended_stays c m (message.Hold cut) o is = is
ended_stays c m (message.Held cut answer) o is = is
ended_stays c m (message.Release cut) o is = is
ended_stays c m (message.Drop cut) o is = is
ended_stays c m (message.ReadCut cut place) o is = is
ended_stays c m (message.Piece cut place bytes) o is = is

all_stays : (deliveries : List Delivery) (c : State) (o : Outcome) → c.phase ≡ Ended o → (after_hearing c deliveries).phase ≡ Ended o
all_stays [] c o is = is
all_stays (d ∷ deliveries) c o is = all_stays deliveries (heard c d.from d.message).now o (ended_stays c d.from d.message o is)

abbrev phase_with : Running → ℕ → Option Vote → Phase
phase_with r m None = Runs r
phase_with r m (Some v) = phase_by (counted r m v)

no_vote : (r : Running) (m : ℕ) (b : Bool) → Runs r ≡ phase_with r m (cond b None None)
no_vote r m true = refl
no_vote r m false = refl

-- what runs goes on by a vote of a participant that is missing, and by nothing else
running_hears : (c : State) (r : Running) (m : ℕ) (x : Message) → c.phase ≡ Runs r → (heard c m x).now.phase ≡ phase_with r m (cond (is_in m (missing r)) (vote_in r.id r.mini m x) None)
running_hears c r m (message.Voted id v) is = ap (λ (p : Phase). (on_vote c m id v p).now.phase) is ∙ go (is_same r.id id) (is_in m (missing r)) (fits (placed_for r.mini m) v)
  where
    go : (a b f : Bool) → (cond (a && (b && f)) (after_vote c (counted r m v)) (quiet c)).now.phase ≡ phase_with r m (cond b (cond (a && f) (Some v) None) None)
    go true true true = phase_after c (counted r m v)
    go true true false = is
    go true false f = is
    go false true f = is
    go false false f = is
running_hears c r m (message.Prepare id participants items) is = is ∙ no_vote r m (is_in m (missing r))
running_hears c r m (message.Decide id commit) is = is ∙ no_vote r m (is_in m (missing r))
running_hears c r m (message.Done id) is = is ∙ no_vote r m (is_in m (missing r))
running_hears c r m (message.Forget id) is = is ∙ no_vote r m (is_in m (missing r))
running_hears c r m message.List is = is ∙ no_vote r m (is_in m (missing r))
running_hears c r m (message.Kept ids cut) is = is ∙ no_vote r m (is_in m (missing r))
running_hears c r m (message.Ask id) is = is ∙ no_vote r m (is_in m (missing r))
running_hears c r m (message.Answer id ok) is = is ∙ no_vote r m (is_in m (missing r))
running_hears c r m (message.Hold cut) is = is ∙ no_vote r m (is_in m (missing r))
running_hears c r m (message.Held cut answer) is = is ∙ no_vote r m (is_in m (missing r))
running_hears c r m (message.Release cut) is = is ∙ no_vote r m (is_in m (missing r))
running_hears c r m (message.Drop cut) is = is ∙ no_vote r m (is_in m (missing r))
running_hears c r m (message.ReadCut cut place) is = is ∙ no_vote r m (is_in m (missing r))
running_hears c r m (message.Piece cut place bytes) is = is ∙ no_vote r m (is_in m (missing r))

-- ---- first votes

-- the vote of this delivery, where it is the first
abbrev this_vote : Running → Delivery → Option Vote
this_vote r d = cond (is_in d.from (missing r)) (vote_in r.id r.mini d.from d.message) None

later_first : (t : TxId) (all : List Item) (m : ℕ) (d : Delivery) (deliveries : List Delivery) → ((d.from == m) ≡ true → vote_in t all m d.message ≡ None)
    → first_vote t all m (d ∷ deliveries) ≡ first_vote t all m deliveries
later_first t all m d deliveries none = go (d.from == m) refl
  where
    go : (b : Bool) → (d.from == m) ≡ b → before (cond b (vote_in t all m d.message) None) (first_vote t all m deliveries) ≡ first_vote t all m deliveries
    go true is = ap (λ o. before o (first_vote t all m deliveries)) (none is)
    go false is = refl

now_first : (t : TxId) (all : List Item) (d : Delivery) (deliveries : List Delivery) (v : Vote) → vote_in t all d.from d.message ≡ Some v
    → first_vote t all d.from (d ∷ deliveries) ≡ Some v
now_first t all d deliveries v is =
    ap (λ b. before (cond b (vote_in t all d.from d.message) None) (first_vote t all d.from deliveries)) (eq-eqb d.from d.from refl)
    ∙ ap (λ o. before o (first_vote t all d.from deliveries)) is

-- each participant has voted, or its first vote among these is Granted
abbrev AllGranted : Running → List Delivery → Type 0
AllGranted r deliveries = (m : ℕ) → In m (participants_of r.mini) → (has_granted r.grants m ≡ true) ⊎ IsGrantedVote (first_vote r.id r.mini m deliveries)

bool_cases : (b : Bool) → (b ≡ true) ⊎ (b ≡ false)
bool_cases true = inl refl
bool_cases false = inr refl

missing_has : (r : Running) (m : ℕ) → In m (participants_of r.mini) → has_granted r.grants m ≡ false → is_in m (missing r) ≡ true
missing_has r m part not_yet =
    sym (is_in_missing r.grants m (participants_of r.mini))
    ∙ ap (λ b. b && not (has_granted r.grants m)) (in_list m (participants_of r.mini) part)
    ∙ ap not not_yet

has_missing : (r : Running) (m : ℕ) → is_in m (missing r) ≡ true → In m (participants_of r.mini) × (has_granted r.grants m ≡ false)
has_missing r m is = go (is_in m (participants_of r.mini)) refl (has_granted r.grants m) refl (is_in_missing r.grants m (participants_of r.mini) ∙ is)
  where
    go : (a : Bool) → is_in m (participants_of r.mini) ≡ a → (b : Bool) → has_granted r.grants m ≡ b → (a && not b) ≡ true → In m (participants_of r.mini) × (has_granted r.grants m ≡ false)
    go true part true has k = absurd cc
    go true part false has k = (list_in m (participants_of r.mini) part, has)
    go false part b has k = absurd cc

no_first : (r : Running) (d : Delivery) (deliveries : List Delivery) → this_vote r d ≡ None → (m : ℕ) → In m (participants_of r.mini) → has_granted r.grants m ≡ false
    → first_vote r.id r.mini m (d ∷ deliveries) ≡ first_vote r.id r.mini m deliveries
no_first r d deliveries none m part not_yet = later_first r.id r.mini m d deliveries (λ is.
    let same : d.from ≡ m = eqb-true d.from m is in
    let heard_now : is_in d.from (missing r) ≡ true = subst (λ (n : ℕ). is_in n (missing r) ≡ true) (sym same) (missing_has r m part not_yet) in
    subst (λ (n : ℕ). vote_in r.id r.mini n d.message ≡ None) same
    (ap (λ b. cond b (vote_in r.id r.mini d.from d.message) None) (sym heard_now) ∙ none))

-- a delivery with no vote that counts changes nothing of it
passing : (r : Running) (d : Delivery) (deliveries : List Delivery) → this_vote r d ≡ None → (AllGranted r deliveries → AllGranted r (d ∷ deliveries)) × (AllGranted r (d ∷ deliveries) → AllGranted r deliveries)
passing r d deliveries none = (
  λ all m part. elim (bool_cases (has_granted r.grants m)) [
    | inl yes_has ↦ inl yes_has
    | inr not_yet ↦ elim (all m part) [ inl has ↦ inl has | inr first ↦ inr (subst IsGrantedVote (sym (no_first r d deliveries none m part not_yet)) first) ]
  ],
  λ all m part. elim (bool_cases (has_granted r.grants m)) [
    | inl yes_has ↦ inl yes_has
    | inr not_yet ↦ elim (all m part) [ inl has ↦ inl has | inr first ↦ inr (subst IsGrantedVote (no_first r d deliveries none m part not_yet) first) ]
  ],
)

-- a vote counts: of whom it is
this_is : (r : Running) (d : Delivery) (v : Vote) → this_vote r d ≡ Some v → (is_in d.from (missing r) ≡ true) × (vote_in r.id r.mini d.from d.message ≡ Some v)
this_is r d v is = go (is_in d.from (missing r)) refl is
  where
    go : (b : Bool) → is_in d.from (missing r) ≡ b → cond b (vote_in r.id r.mini d.from d.message) None ≡ Some v → (is_in d.from (missing r) ≡ true) × (vote_in r.id r.mini d.from d.message ≡ Some v)
    go true there k = (there, k)
    go false there k = absurd cc

-- a Granted vote is one more
granting : (r : Running) (d : Delivery) (deliveries : List Delivery) (reads : List (List ℕ)) → this_vote r d ≡ Some (vote.Granted reads)
    → (AllGranted (with_grant r d.from reads) deliveries → AllGranted r (d ∷ deliveries)) × (AllGranted r (d ∷ deliveries) → AllGranted (with_grant r d.from reads) deliveries)
granting r d deliveries reads is = (
  λ all m part. elim (bool_cases (d.from == m)) [
    | inl this ↦ inr (subst (λ (n : ℕ). IsGrantedVote (first_vote r.id r.mini n (d ∷ deliveries))) (eqb-true d.from m this)
        (subst IsGrantedVote (sym (now_first r.id r.mini d deliveries (vote.Granted reads) (this_is r d (vote.Granted reads) is).1)) tt))
    | inr other ↦ elim (all m part) [
      | inl has ↦ inl (sym (before_it m other) ∙ has)
      | inr first ↦ inr (subst IsGrantedVote (sym (another m other)) first)
    ]
  ],
  λ all m part. elim (bool_cases (d.from == m)) [
    | inl this ↦ inl (one_more r.grants (record { memory = d.from; reads = reads }) m ∙ ap (λ b. has_granted r.grants m || b) this ∙ or_true (has_granted r.grants m))
    | inr other ↦ elim (all m part) [
      | inl has ↦ inl (before_it m other ∙ has)
      | inr first ↦ inr (subst IsGrantedVote (another m other) first)
    ]
  ],
)
  where
    or_true : (b : Bool) → (b || true) ≡ true
    or_true true = refl
    or_true false = refl

    or_false : (b : Bool) → (b || false) ≡ b
    or_false true = refl
    or_false false = refl

    before_it : (m : ℕ) → (d.from == m) ≡ false → has_granted (r.grants ++ record { memory = d.from; reads = reads } ∷ []) m ≡ has_granted r.grants m
    before_it m other = one_more r.grants (record { memory = d.from; reads = reads }) m ∙ ap (λ b. has_granted r.grants m || b) other ∙ or_false (has_granted r.grants m)

    another : (m : ℕ) → (d.from == m) ≡ false → first_vote r.id r.mini m (d ∷ deliveries) ≡ first_vote r.id r.mini m deliveries
    another m other = later_first r.id r.mini m d deliveries (λ e. absurd (let k : true ≡ false = sym e ∙ other in cc))

-- ---- the law

-- it was refused
refused_is : (r : Running) (d : Delivery) (deliveries : List Delivery) (v : Vote) → this_vote r d ≡ Some v → (IsGrantedVote (Some v) → ⊥)
    → (p : Phase) → (IsCommitted p → ⊥) → (IsCommitted p → AllGranted r (d ∷ deliveries)) × (AllGranted r (d ∷ deliveries) → IsCommitted p)
refused_is r d deliveries v is other p none = (
  λ h. absurd (none h),
  λ all.
      let it = this_is r d v is in
      let who = has_missing r d.from it.0 in
      absurd (elim (all d.from who.0) [
        | inl has ↦ absurd (let k : true ≡ false = sym has ∙ who.1 in cc)
        | inr first ↦ other (subst IsGrantedVote (now_first r.id r.mini d deliveries v it.1) first)
      ]),
)

-- while a vote is missing, what runs is committed by these exactly where all of them are Granted
abbrev AreDecided : List Delivery → Type 0
AreDecided deliveries = (c : State) (r : Running) → c.phase ≡ Runs r → ¬ (missing r ≡ [])
    → (IsCommitted (after_hearing c deliveries).phase → AllGranted r deliveries) × (AllGranted r deliveries → IsCommitted (after_hearing c deliveries).phase)

none_decides : AreDecided []
none_decides c r is some = (
  λ h. absurd (subst IsCommitted is h),
  λ all. absurd (some (none_missing r.grants (participants_of r.mini) (λ m part. elim (all m part) [ inl has ↦ has | inr none ↦ absurd none ]))),
)

one_decides : (d : Delivery) (deliveries : List Delivery) → AreDecided deliveries → AreDecided (d ∷ deliveries)
one_decides d deliveries before_them c r is some = go (this_vote r d) refl (running_hears c r d.from d.message is)
  where
    next : State
    next = (heard c d.from d.message).now

    goal : Type 0
    goal = (IsCommitted (after_hearing next deliveries).phase → AllGranted r (d ∷ deliveries)) × (AllGranted r (d ∷ deliveries) → IsCommitted (after_hearing next deliveries).phase)

    refused : (v : Vote) → this_vote r d ≡ Some v → (IsGrantedVote (Some v) → ⊥) → (m : ℕ) (w : Vote) → next.phase ≡ Ended (Refused m w) → goal
    refused v this other m w now =
        refused_is r d deliveries v this other (after_hearing next deliveries).phase (λ h. subst IsCommitted (all_stays deliveries next (Refused m w) now) h)

    joined : (reads : List (List ℕ)) → this_vote r d ≡ Some (vote.Granted reads)
        → (b : Bool) → (length (missing (with_grant r d.from reads)) == 0) ≡ b
        → next.phase ≡ phase_by (cond b (Ends (record { id = r.id; mini = r.mini; commit = true; outcome = Committed (gathered (with_grant r d.from reads).grants r.mini) })) (Waits (with_grant r d.from reads))) → goal
    joined reads this true all now = (
      λ h. (granting r d deliveries reads this).0 (λ m part. inl (everyone m part)),
      λ h. subst IsCommitted (sym (all_stays deliveries next (Committed (gathered (with_grant r d.from reads).grants r.mini)) now)) tt,
    )
      where
        everyone : (m : ℕ) → In m (participants_of r.mini) → has_granted (with_grant r d.from reads).grants m ≡ true
        everyone m part = elim (bool_cases (has_granted (with_grant r d.from reads).grants m)) [
          | inl has ↦ has
          | inr not_yet ↦ absurd (
              let there = missing_has (with_grant r d.from reads) m part not_yet in
              let none : false ≡ true = sym (ap (is_in m) (empty_is (missing (with_grant r d.from reads)) all)) ∙ there in cc)
        ]
    joined reads this false left now =
        let rest = before_them next (with_grant r d.from reads) now (λ none. absurd (let k : true ≡ false = sym (ap (λ (ms : List ℕ). length ms == 0) none) ∙ left in cc)) in
        let same = granting r d deliveries reads this in
        (λ h. same.0 (rest.0 h), λ all. rest.1 (same.1 all))

    go : (o : Option Vote) → this_vote r d ≡ o → next.phase ≡ phase_with r d.from o → goal
    go None none now =
        let rest = before_them next r now some in
        let same = passing r d deliveries none in
        (λ h. same.0 (rest.0 h), λ all. rest.1 (same.1 all))
    go (Some (vote.Granted reads)) this now = joined reads this (length (missing (with_grant r d.from reads)) == 0) refl now
    go (Some (vote.Mismatch place kept)) this now = refused (vote.Mismatch place kept) this (λ h. h) d.from (vote.Mismatch place kept) now
    go (Some (vote.Locked holder)) this now = refused (vote.Locked holder) this (λ h. h) d.from (vote.Locked holder) now
    go (Some (vote.Forced floor)) this now = refused (vote.Forced floor) this (λ h. h) d.from (vote.Forced floor) now
    go (Some (vote.Held cut)) this now = refused (vote.Held cut) this (λ h. h) d.from (vote.Held cut) now

committed_is : (deliveries : List Delivery) → AreDecided deliveries
committed_is [] = none_decides
committed_is (d ∷ deliveries) = one_decides d deliveries (committed_is deliveries)

-- items have a participant
some_part : (items : List Item) → ¬ (items ≡ []) → ¬ (participants_of items ≡ [])
some_part [] some none = some refl
some_part (i ∷ items) some none = placed (memory_of i) (participants_of items) none
  where
    placed : (n : ℕ) (ms : List ℕ) → placed_in n ms ≡ [] → ⊥
    placed n [] e = absurd cc
    placed n (m ∷ ms) e = absurd (subst (In n) e (placed-In n n (m ∷ ms) (inl refl)))

pub committed_where_all_granted : CommittedWhereAllGranted
committed_where_all_granted c r deliveries is none some =
    let it = committed_is deliveries c r is (λ e. some_part r.mini some (sym all_left ∙ e)) in (
      λ h m part. elim (it.0 h m (part_in m part)) [
        | inl has ↦ absurd (let k : false ≡ true = ap (λ gs. has_granted gs m) (sym none) ∙ has in cc)
        | inr first ↦ first
      ],
      λ all. it.1 (λ m part. inr (all m (contains (participants_of r.mini) m part))),
    )
  where
    all_left : missing r ≡ participants_of r.mini
    all_left = ap (λ gs. filter (λ n. not (has_granted gs n)) (participants_of r.mini)) none ∙ none_granted (participants_of r.mini)

    part_in : (m : ℕ) → Contains (participants_of r.mini) m → In m (participants_of r.mini)
    part_in m part = contained (participants_of r.mini) m part.0 part.1 part.2
