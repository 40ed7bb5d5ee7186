-- A Granted vote has its entry, and a coordinator counts no others.
use Rattle.std.proofs.Common.{◌≡◌, ◌⊎◌, ◌<◌, inl, inr, ℕ, zero, suc, ◌==◌, ◌&&◌, Bool, true, false, List, [], ◌∷◌, ◌++◌, length, map, not, take, cond, Option, Some, None, refl, sym, ap, subst, ◌∙◌, arith, slice_get, slice_set, slice_index_or, if◌then◌else◌}
use Rattle.std.specs.Bool.{⊤}
use Rattle.std.proofs.lemmas.Bool.{cases_eq}
use Rattle.std.proofs.lemmas.List.{append-nil}
use Rattle.std.proofs.lemmas.Option.{slice_get_within}
use Rattle.mini_tx.specs.declared.actor.Actor.{Actor}
use Rattle.mini_tx.specs.declared.actor.Actor.TheVariants.{Node, Memory, Manager}
use Rattle.mini_tx.specs.declared.cut_id.CutId.{CutId}
use Rattle.mini_tx.specs.declared.entry.Entry.{Entry}
use Rattle.mini_tx.specs.declared.entry.Entry.TheVariants as entry
use Rattle.mini_tx.specs.declared.held_answer.HeldAnswer.TheVariants as hold
use Rattle.mini_tx.specs.declared.item.Item.{Item}
use Rattle.mini_tx.specs.declared.message.Message.{Message}
use Rattle.mini_tx.specs.declared.message.Message.TheVariants as message
use Rattle.mini_tx.specs.declared.placed_item.PlacedItem.{PlacedItem}
use Rattle.mini_tx.specs.declared.posted.Posted.{Posted}
use Rattle.mini_tx.specs.declared.tx_id.TxId.{TxId}
use Rattle.mini_tx.specs.declared.vote.Vote.{Vote}
use Rattle.mini_tx.specs.declared.vote.Vote.TheVariants as vote
use Rattle.mini_tx.specs.EntryGrammar.{is_granted}
use Rattle.mini_tx.specs.Order.{is_same}
use Rattle.lock_table.proofs.OrderLemmas.{is_one, same_self}
use Rattle.tx_coord.specs.declared.outcome.Outcome.TheVariants.{Committed}
use Rattle.tx_coord.specs.declared.outgoing.Outgoing.{Outgoing}
use Rattle.tx_coord.specs.declared.progress.Progress.TheVariants.{Waits}
use Rattle.tx_coord.specs.declared.running.Running.{Running}
use Rattle.tx_coord.specs.State as coord
use Rattle.tx_coord.specs.Rules as rules
use Rattle.tx_coord.specs.Votes as counted
use Rattle.tx_rules.specs.Mini.{In}
use Rattle.tx_rules.proofs.FaithfulLemmas.{in_front, in_either}
use Rattle.mem_rules.specs.declared.difference.Difference.{Difference}
use Rattle.mem_rules.specs.declared.floor.Floor.{Floor}
use Rattle.mem_rules.specs.declared.kept.Kept.{Kept}
use Rattle.mem_rules.specs.declared.standing.Standing.{Standing}
use Rattle.mem_rules.specs.declared.standing.Standing.TheVariants.{Above, At, Below}
use Rattle.mem_rules.specs.Identifiers.{precedes, cut_precedes}
use Rattle.mem_rules.specs.Items.{range_of, reads_of, writes_of, first_difference}
use Rattle.mem_rules.specs.Rules as node
use Rattle.mem_rules.specs.State.{State, floor_at, kept_of, raise, raised, placed_in, decided, with_decision, after_entry, after_one}
use Rattle.story_rules.specs.MemoryNodes.{MemoryNode, reaction, with_state}
use Rattle.story_rules.specs.Story.{Begun, Seat, Site, Up, Down, Story, opened_story}
use Rattle.story_rules.specs.Steps as steps
use Rattle.story_rules.specs.Steps.{How, Lost, Handled, Stopped, WentDown, WasFull, has_granted, is_of, grant_in, grant_of, log_of, with_entry, with_grant, with_answer}
use Rattle.story_laws.specs.Beginnings.{IsPart, IsAboutBegun, AreBegun}
use Rattle.story_laws.specs.Growth.{Grows}
use Rattle.story_laws.specs.Sites.{node_at, AreReplayed}
use Rattle.story_laws.specs.Votes.{IsLook, HasVoted, AreInLog, IsVoted, AreCountedVotes, AreCountedIf, AreFresh, AreVoted, VotesHaveEntries}
use Rattle.story_laws.proofs.BeginningLemmas.{in_map, in_filter, some_is, set_seat, at_posted, empty_seat, named_was_begun}
use Rattle.story_laws.proofs.CastLemmas.{set_here, set_there}
use Rattle.story_laws.proofs.CompleteLemmas.{not_both}
use Rattle.story_laws.proofs.GrowthLemmas.{grants_more, grants_stay, or_true, or_right, both_true, quiet, moved, counted_grows, stepped_grows, begins_grows, resends_grows, actor_set}
use Rattle.story_laws.proofs.IdentifierLemmas.{get_same, get_other, counted_same}
use Rattle.story_laws.proofs.SiteLemmas.{with_one, TakesEntry, counted_takes, nothing_taken, sites_are_the_logs}

-- ---- what is kept and what is a floor

found_in : (kept : List Kept) (id : TxId) (k : Kept) → kept_of kept id ≡ Some k → In k kept × (k.id ≡ id)
found_in [] id k is = absurd cc
found_in (x ∷ kept) id k is = go (is_same x.id id) refl (found_in kept id k) is
  where
    go : (b : Bool) → is_same x.id id ≡ b → (kept_of kept id ≡ Some k → In k kept × (k.id ≡ id)) → cond b (Some x) (kept_of kept id) ≡ Some k
        → ((k ≡ x) ⊎ In k kept) × (k.id ≡ id)
    go true same rest here = let one = some_is x k here in (inl one, ap (λ (y : Kept). y.id) one ∙ is_one x.id id same)
    go false same rest there = let it = rest there in (inr it.0, it.1)

at_floor : (f : Option Floor) (id : TxId) (v : Vote) → node.to_floor f id ≡ At v → (g : Floor) × (f ≡ Some g) × (g.vote ≡ v) × (g.id ≡ id)
at_floor None id v is = absurd cc
at_floor (Some g) id v is = go (precedes g.id id) (is_same g.id id) refl is
  where
    vote_is : (a b : Vote) → ◌≡◌ {A = Standing} (At a) (At b) → a ≡ b
    vote_is a b same = cc

    go : (a b : Bool) → is_same g.id id ≡ b → (if a then Above else if b then At g.vote else Below g.id) ≡ At v
        → (h : Floor) × (◌≡◌ {A = Option Floor} (Some g) (Some h)) × (h.vote ≡ v) × (h.id ≡ id)
    go true b same at = absurd cc
    go false true same at = (g, refl, vote_is g.vote v at, is_one g.id id same)
    go false false same at = absurd cc

placed_kept : (new k : Kept) (kept : List Kept) → In k (placed_in new kept) → (k ≡ new) ⊎ In k kept
placed_kept new k [] is = is
placed_kept new k (x ∷ kept) is = go (precedes x.id new.id) (placed_kept new k kept) is
  where
    go : (b : Bool) → (In k (placed_in new kept) → (k ≡ new) ⊎ In k kept) → In k (if b then x ∷ placed_in new kept else new ∷ (x ∷ kept)) → (k ≡ new) ⊎ ((k ≡ x) ⊎ In k kept)
    go true rest there = elim there [
      | inl first ↦ inr (inl first)
      | inr later ↦ elim (rest later) [ inl own ↦ inl own | inr old ↦ inr (inr old) ]
    ]
    go false rest there = there

set_or : {A : Type 0} (xs : List A) (n c : ℕ) (y d z : A) → slice_index_or (slice_set xs n y) c d ≡ z → (slice_index_or xs c d ≡ z) ⊎ ((c ≡ n) × (y ≡ z))
set_or [] n c y d z is = inl is
set_or (x ∷ xs) zero zero y d z is = inr (refl, is)
set_or (x ∷ xs) zero (suc c) y d z is = inl is
set_or (x ∷ xs) (suc n) zero y d z is = inl is
set_or (x ∷ xs) (suc n) (suc c) y d z is = elim (set_or xs n c y d z is) [ inl old ↦ inl old | inr new ↦ inr (ap suc new.0, new.1) ]

raised_is : (floors : List (Option Floor)) (id : TxId) (v : Vote) (c : ℕ) (f : Floor) → floor_at (raise floors id v) c ≡ Some f
    → (floor_at floors c ≡ Some f) ⊎ ((f.id ≡ id) × (f.vote ≡ v))
raised_is floors id v c f is = elim (set_or floors id.coord c (raised (floor_at floors id.coord) id v) None (Some f) is) [
  | inl old ↦ inl old
  | inr new ↦ of_old (floor_at floors id.coord) refl new.0 new.1
]
  where
    here : Floor
    here = record { id = id; vote = v }

    own : ◌≡◌ {A = Option Floor} (Some here) (Some f) → (f.id ≡ id) × (f.vote ≡ v)
    own same = let one = some_is here f same in (ap (λ (x : Floor). x.id) one, ap (λ (x : Floor). x.vote) one)

    by_test : (o : Floor) (b : Bool) → floor_at floors id.coord ≡ Some o → c ≡ id.coord → (if b then Some here else Some o) ≡ Some f
        → (floor_at floors c ≡ Some f) ⊎ ((f.id ≡ id) × (f.vote ≡ v))
    by_test o true was at same = inr (own same)
    by_test o false was at same = inl (ap (λ (k : ℕ). floor_at floors k) at ∙ was ∙ same)

    of_old : (old : Option Floor) → floor_at floors id.coord ≡ old → c ≡ id.coord → raised old id v ≡ Some f → (floor_at floors c ≡ Some f) ⊎ ((f.id ≡ id) × (f.vote ≡ v))
    of_old None was at same = inr (own same)
    of_old (Some o) was at same = by_test o (precedes o.id id) was at same

-- ---- one entry more in a log

abbrev pub IsRight : Entry → Type 0
IsRight (entry.Single id v writes) = is_granted v ≡ true
IsRight (entry.Prepared id participants v ranges writes) = is_granted v ≡ true
IsRight (entry.Refused id v) = is_granted v ≡ false
IsRight (entry.Decided id commit) = ⊤
IsRight (entry.Forgotten id) = ⊤
IsRight (entry.Cut cut) = ⊤
IsRight (entry.Floor id v) = ⊥

abbrev pub RightIf : Option Entry → Type 0
RightIf None = ⊤
RightIf (Some e) = IsRight e

pub has_new : (id : TxId) (log : List Entry) (e : Entry) → is_of id (grant_in e) ≡ true → has_granted id (log ++ e ∷ []) ≡ true
has_new id [] e is = or_true (is_of id (grant_in e)) (has_granted id []) is
has_new id (x ∷ log) e is = or_right (is_of id (grant_in x)) (has_granted id (log ++ e ∷ [])) (has_new id log e is)

pub grant_is : (id : TxId) (v : Vote) → is_granted v ≡ true → is_of id (if is_granted v then Some id else None) ≡ true
grant_is id v granted = ap (λ (b : Bool). is_of id (if b then Some id else None)) granted ∙ same_self id

abbrev FloorsIn : List (Option Floor) → List Entry → Type 0
FloorsIn floors log = (c : ℕ) (floor : Floor) → floor_at floors c ≡ Some floor → is_granted floor.vote ≡ true → has_granted floor.id log ≡ true

floors_more : (floors : List (Option Floor)) (log : List Entry) (e : Entry) → FloorsIn floors log → FloorsIn floors (log ++ e ∷ [])
floors_more floors log e all c floor is granted = grants_more floor.id log (e ∷ []) (all c floor is granted)

floors_raised : (floors : List (Option Floor)) (id : TxId) (v : Vote) (log : List Entry) (e : Entry) → (is_granted v ≡ true → is_of id (grant_in e) ≡ true)
    → FloorsIn floors log → FloorsIn (raise floors id v) (log ++ e ∷ [])
floors_raised floors id v log e grants all c floor is granted = elim (raised_is floors id v c floor is) [
  | inl old ↦ floors_more floors log e all c floor old granted
  | inr new ↦ subst (λ (t : TxId). has_granted t (log ++ e ∷ []) ≡ true) (sym new.0) (has_new id log e (grants (subst (λ (w : Vote). is_granted w ≡ true) new.1 granted)))
]

decided_same : (id : TxId) (commit : Bool) (k : Kept) → ((decided id commit k).id ≡ k.id) × ((decided id commit k).vote ≡ k.vote)
decided_same id commit k = go (is_same k.id id)
  where
    go : (b : Bool) → ((if b then with_decision commit k else k).id ≡ k.id) × ((if b then with_decision commit k else k).vote ≡ k.vote)
    go true = (refl, refl)
    go false = (refl, refl)

in_log_after : (s : State) (log : List Entry) (e : Entry) → IsRight e → AreInLog s log → AreInLog (after_entry s e) (log ++ e ∷ [])
in_log_after s log (entry.Single id v writes) right all = record {
  kept = λ k is granted. grants_more k.id log (entry.Single id v writes ∷ []) (all.kept k is granted);
  floors = floors_raised s.floors id v log (entry.Single id v writes) (grant_is id v) all.floors;
}
in_log_after s log (entry.Prepared id participants v ranges writes) right all = record {
  kept = λ k is granted.
      let new : Kept = record { id = id; participants = participants; vote = v; ranges = ranges; writes = writes; decision = None } in
      let e = entry.Prepared id participants v ranges writes in
      let goal : has_granted k.id (log ++ e ∷ []) ≡ true = elim (placed_kept new k s.kept is) [
        | inl same ↦ subst (λ (t : TxId). has_granted t (log ++ e ∷ []) ≡ true) (sym (ap (λ (x : Kept). x.id) same))
            (has_new id log e (grant_is id v (subst (λ (x : Kept). is_granted x.vote ≡ true) same granted)))
        | inr old ↦ grants_more k.id log (e ∷ []) (all.kept k old granted)
      ] in
      goal;
  floors = floors_raised s.floors id v log (entry.Prepared id participants v ranges writes) (grant_is id v) all.floors;
}
in_log_after s log (entry.Refused id v) right all = record {
  kept = λ k is granted. grants_more k.id log (entry.Refused id v ∷ []) (all.kept k is granted);
  floors = floors_raised s.floors id v log (entry.Refused id v) (λ granted. absurd (not_both (is_granted v) granted right)) all.floors;
}
in_log_after s log (entry.Decided id commit) right all = record {
  kept = λ k is granted.
      let it = in_map (decided id commit) k s.kept is in
      let same = decided_same id commit it.0 in
      let named : k.id ≡ it.0.id = ap (λ (x : Kept). x.id) it.2 ∙ same.0 in
      let voted : k.vote ≡ it.0.vote = ap (λ (x : Kept). x.vote) it.2 ∙ same.1 in
      subst (λ (t : TxId). has_granted t (log ++ entry.Decided id commit ∷ []) ≡ true) (sym named)
      (grants_more it.0.id log (entry.Decided id commit ∷ []) (all.kept it.0 it.1 (subst (λ (w : Vote). is_granted w ≡ true) voted granted)));
  floors = floors_more s.floors log (entry.Decided id commit) all.floors;
}
in_log_after s log (entry.Forgotten id) right all = record {
  kept = λ k is granted. grants_more k.id log (entry.Forgotten id ∷ []) (all.kept k (in_filter (λ (x : Kept). not (is_same x.id id)) k s.kept is) granted);
  floors = floors_more s.floors log (entry.Forgotten id) all.floors;
}
in_log_after s log (entry.Cut cut) right all = record {
  kept = λ k is granted. grants_more k.id log (entry.Cut cut ∷ []) (all.kept k is granted);
  floors = floors_more s.floors log (entry.Cut cut) all.floors;
}
in_log_after s log (entry.Floor id v) right all = absurd right

-- ---- a reaction votes Granted only with an entry, or as a look

abbrev is_grant : Message → Bool
is_grant (message.Voted id v) = is_granted v
is_grant (message.Prepare id participants items) = false
is_grant (message.Decide id commit) = false
is_grant (message.Done id) = false
is_grant (message.Forget id) = false
is_grant message.List = false
is_grant (message.Kept ids cut) = false
is_grant (message.Ask id) = false
is_grant (message.Answer id ok) = false
is_grant (message.Hold cut) = false
is_grant (message.Held cut answer) = false
is_grant (message.Release cut) = false
is_grant (message.Drop cut) = false
is_grant (message.ReadCut cut place) = false
is_grant (message.Piece cut place bytes) = false

grant_of_answer : (x : Message) (id : TxId) (reads : List (List ℕ)) → ◌≡◌ {A = Option Message} (Some x) (Some (message.Voted id (vote.Granted reads))) → is_grant x ≡ true
grant_of_answer x id reads is = ap is_grant (sym (some_is x (message.Voted id (vote.Granted reads)) is))

none_voted : (id : TxId) (reads : List (List ℕ)) → ◌≡◌ {A = Option Message} None (Some (message.Voted id (vote.Granted reads))) → ⊥
none_voted id reads is = cc

voted_is : (a b : TxId) (v w : Vote) → ◌≡◌ {A = Option Message} (Some (message.Voted a v)) (Some (message.Voted b w)) → (a ≡ b) × (v ≡ w)
voted_is a b v w is = (cc, cc)

false_true : ◌≡◌ {A = Bool} false true → ⊥
false_true is = cc

pub memory_is : (m n : ℕ) → ◌≡◌ {A = Actor} (Memory m) (Memory n) → m ≡ n
memory_is m n is = cc

module _ (begun : List Begun) (log : List Entry) (m : ℕ) where
  abbrev Vouched : TxId → Option Entry → Type 0
  Vouched id e = (has_granted id log ≡ true) ⊎ ((is_of id (grant_of e) ≡ true) ⊎ ((b : Begun) × In b begun × (b.id ≡ id) × IsLook b.items m))

  abbrev pub VotesWell : node.Reaction → Type 0
  VotesWell r = RightIf r.entry × ((id : TxId) (reads : List (List ℕ)) → r.answer ≡ Some (message.Voted id (vote.Granted reads)) → Vouched id r.entry)

  either : (b : Bool) (r q : node.Reaction) → VotesWell r → VotesWell q → VotesWell (if b then r else q)
  either true r q first second = first
  either false r q first second = second

  -- with no answer, or one that is no Granted vote
  silently : (r : node.Reaction) → RightIf r.entry → r.answer ≡ None → VotesWell r
  silently r right none = (right, λ id reads is. absurd (none_voted id reads (sym none ∙ is)))

  plainly : (r : node.Reaction) (x : Message) → RightIf r.entry → r.answer ≡ Some x → is_grant x ≡ false → VotesWell r
  plainly r x right answer plain = (right, λ id reads is. absurd (not_both (is_grant x) (grant_of_answer x id reads (sym answer ∙ is)) plain))

  module _ (b : Begun) (there : In b begun) (n : node.Node) (id : TxId) (participants : List ℕ) (items : List PlacedItem) (named : b.id ≡ id)
      (all_are : participants ≡ rules.participants_of b.items) (own_are : items ≡ rules.placed_for b.items m) (all : AreInLog n.state log) where
    again : (v : Vote) → (is_granted v ≡ true → has_granted id log ≡ true) → VotesWell (node.answers n (message.Voted id v))
    again v granted = (
      tt,
      λ other reads is.
          let same = voted_is id other v (vote.Granted reads) is in
          inl (subst (λ (t : TxId). has_granted t log ≡ true) same.0 (granted (ap is_granted same.1))),
    )

    right_entry : (v : Vote) → IsRight (node.entry_of_vote id participants items v)
    right_entry v = go (is_granted v) refl (node.has_several participants)
      where
        go : (a : Bool) → is_granted v ≡ a → (c : Bool)
            → IsRight (if a then (if c then entry.Prepared id participants v (map range_of items) (writes_of items) else entry.Single id v (writes_of items)) else entry.Refused id v)
        go true is true = is
        go true is false = is
        go false is c = is

    refuses : (v : Vote) → is_granted v ≡ false → VotesWell (node.casts n id participants items v)
    refuses v not_granted =
        either (node.is_logged participants items) (node.appends n (node.entry_of_vote id participants items v) (message.Voted id v)) (node.answers n (message.Voted id v))
        (plainly (node.appends n (node.entry_of_vote id participants items v) (message.Voted id v)) (message.Voted id v) (right_entry v) refl not_granted)
        (plainly (node.answers n (message.Voted id v)) (message.Voted id v) tt refl not_granted)

    grants : (reads : List (List ℕ)) → VotesWell (node.casts n id participants items (vote.Granted reads))
    grants reads = go (node.is_logged participants items) refl
      where
        e : Entry
        e = node.entry_of_vote id participants items (vote.Granted reads)

        granted_in : (c : Bool) → is_of id (grant_in (if c then entry.Prepared id participants (vote.Granted reads) (map range_of items) (writes_of items) else entry.Single id (vote.Granted reads) (writes_of items))) ≡ true
        granted_in true = same_self id
        granted_in false = same_self id

        go : (l : Bool) → node.is_logged participants items ≡ l → VotesWell (if l then node.appends n e (message.Voted id (vote.Granted reads)) else node.answers n (message.Voted id (vote.Granted reads)))
        go true is = (
          right_entry (vote.Granted reads),
          λ other bytes answer.
              let same = voted_is id other (vote.Granted reads) (vote.Granted bytes) answer in
              inr (inl (subst (λ (t : TxId). is_of t (grant_in e) ≡ true) same.0 (granted_in (node.has_several participants)))),
        )
        go false is = (
          tt,
          λ other bytes answer.
              let same = voted_is id other (vote.Granted reads) (vote.Granted bytes) answer in
              let look : IsLook b.items m =
              subst (λ (ns : List ℕ). node.is_logged ns (rules.placed_for b.items m) ≡ false) all_are
              (subst (λ (xs : List PlacedItem). node.is_logged participants xs ≡ false) own_are is) in
              inr (inr (b, there, named ∙ same.0, look)),
        )

    by_rules : (k : Option Kept) → kept_of n.state.kept id ≡ k → (s : Standing) → node.standing n.state id ≡ s → (cut : Option CutId) (holder : Option TxId) (d : Option Difference)
        → VotesWell (node.by_rule n id participants items (node.rule_by_record k (node.rule_by_floor s (node.rule_by_cut cut holder d))))
    by_rules (Some k) is s at cut holder d = again k.vote (λ granted.
        let it = found_in n.state.kept id k is in
        subst (λ (t : TxId). has_granted t log ≡ true) it.1 (all.kept k it.0 granted))
    by_rules None is (At v) at cut holder d = again v (λ granted.
        let it = at_floor (floor_at n.state.floors id.coord) id v at in
        subst (λ (t : TxId). has_granted t log ≡ true) it.3 (all.floors id.coord it.0 it.1 (ap is_granted it.2 ∙ granted)))
    by_rules None is (Below floor) at cut holder d = again (vote.Forced floor) (λ granted. absurd (false_true granted))
    by_rules None is Above at (Some cut) holder d = refuses (vote.Held cut) refl
    by_rules None is Above at None (Some holder) d = refuses (vote.Locked holder) refl
    by_rules None is Above at None None (Some d) = refuses (vote.Mismatch d.place d.kept) refl
    by_rules None is Above at None None None = grants (reads_of n.state.image items)

  forces_on : (n : node.Node) (id : TxId) (s : Standing) (x : Message) → is_grant x ≡ false → VotesWell (node.forces n id s x)
  forces_on n id Above x plain = plainly (node.appends n (entry.Refused id (vote.Forced id)) x) x refl refl plain
  forces_on n id (At v) x plain = plainly (node.answers n x) x tt refl plain
  forces_on n id (Below floor) x plain = plainly (node.answers n x) x tt refl plain

  decide_on : (n : node.Node) (id : TxId) (commit : Bool) (k : Option Kept) → VotesWell (node.on_decide n id commit k)
  decide_on n id commit (Some k) =
      either (node.is_undecided k) (node.appends n (entry.Decided id commit) (message.Done id)) (node.answers n (message.Done id))
      (plainly (node.appends n (entry.Decided id commit) (message.Done id)) (message.Done id) tt refl refl)
      (plainly (node.answers n (message.Done id)) (message.Done id) tt refl refl)
  decide_on n id true None = plainly (node.answers n (message.Done id)) (message.Done id) tt refl refl
  decide_on n id false None = forces_on n id (node.standing n.state id) (message.Done id) refl

  forget_on : (n : node.Node) (id : TxId) (k : Option Kept) → VotesWell (node.on_forget n id k)
  forget_on n id (Some k) =
      let gone : node.Reaction = record { entry = Some (entry.Forgotten id); answer = None; copy = n.copy } in
      either (node.is_undecided k) (node.silent n) gone (silently (node.silent n) tt refl) (silently gone tt refl)
  forget_on n id None = silently (node.silent n) tt refl

  asked_on : (n : node.Node) (id : TxId) (s : Standing) → VotesWell (node.by_floor_asked n id s)
  asked_on n id Above = forces_on n id Above (message.Answer id false) refl
  asked_on n id (At v) = plainly (node.answers n (message.Answer id (is_granted v))) (message.Answer id (is_granted v)) tt refl refl
  asked_on n id (Below floor) = plainly (node.answers n (message.Answer id false)) (message.Answer id false) tt refl refl

  ask_on : (n : node.Node) (id : TxId) (k : Option Kept) → VotesWell (node.on_ask n id k)
  ask_on n id (Some k) = plainly (node.answers n (message.Answer id true)) (message.Answer id true) tt refl refl
  ask_on n id None = asked_on n id (node.standing n.state id)

  holds_on : (n : node.Node) (cut : CutId) (holder : Option TxId) → VotesWell (node.holds n cut holder)
  holds_on n cut None = plainly (node.holds n cut None) (message.Held cut hold.Copied) tt refl refl
  holds_on n cut (Some holder) = plainly (node.holds n cut (Some holder)) (message.Held cut (hold.Locked holder)) tt refl refl

  floor_on : (n : node.Node) (cut : CutId) (floor : Option CutId) → VotesWell (node.by_cut_floor n cut floor)
  floor_on n cut None = holds_on n cut (node.least_with node.is_undecided None n.state.kept)
  floor_on n cut (Some floor) =
      let holder = node.least_with node.is_undecided None n.state.kept in
      let past = node.answers n (message.Held cut (hold.Past floor)) in
      either (cut_precedes floor cut) (node.holds n cut holder) past (holds_on n cut holder) (plainly past (message.Held cut (hold.Past floor)) tt refl refl)

  hold_on : (n : node.Node) (cut : CutId) → VotesWell (node.on_hold n cut)
  hold_on n cut =
      let copied = node.answers n (message.Held cut hold.Copied) in
      either (node.is_copied n.copy cut) copied (node.by_cut_floor n cut n.state.cut) (plainly copied (message.Held cut hold.Copied) tt refl refl) (floor_on n cut n.state.cut)

  prepare_on : (n : node.Node) (id : TxId) (participants : List ℕ) (items : List PlacedItem) (b : Begun) → In b begun → IsPart b (Memory m) id participants items → AreInLog n.state log
      → VotesWell (node.on_prepare n id participants items)
  prepare_on n id participants items b there part all =
      let here : part.memory ≡ m = memory_is part.memory m (sym part.receiver) in
      by_rules b there n id participants items part.same part.participants_are (part.items_are ∙ ap (λ (k : ℕ). rules.placed_for b.items k) here) all
      (kept_of n.state.kept id) refl (node.standing n.state id) refl (node.held_cut n.copy) (node.least_holder n.state (map range_of items)) (first_difference n.state.image items)

  pub votes_well : (n : node.Node) (x : Message) → IsAboutBegun begun (Memory m) x → AreInLog n.state log → VotesWell (node.react n x)
  votes_well n (message.Prepare id participants items) about all = prepare_on n id participants items about.0 about.1 about.2 all
  votes_well n (message.Decide id commit) about all = decide_on n id commit (kept_of n.state.kept id)
  votes_well n (message.Forget id) about all = forget_on n id (kept_of n.state.kept id)
  votes_well n message.List about all = plainly (node.on_list n) (message.Kept (map node.named (take 64 n.state.kept)) (node.held_cut n.copy)) tt refl refl
  votes_well n (message.Ask id) about all = ask_on n id (kept_of n.state.kept id)
  votes_well n (message.Hold cut) about all = hold_on n cut
  votes_well n (message.Release cut) about all = silently (node.react n (message.Release cut)) tt refl
  votes_well n (message.Drop cut) about all = silently (node.react n (message.Drop cut)) tt refl
  votes_well n (message.ReadCut cut place) about all = plainly (node.react n (message.ReadCut cut place)) (message.Piece cut place (node.piece_of n.copy cut place)) tt refl refl
  votes_well n (message.Voted id v) about all = silently (node.silent n) tt refl
  votes_well n (message.Done id) about all = silently (node.silent n) tt refl
  votes_well n (message.Kept ids cut) about all = silently (node.silent n) tt refl
  votes_well n (message.Answer id ok) about all = silently (node.silent n) tt refl
  votes_well n (message.Held cut answer) about all = silently (node.silent n) tt refl
  votes_well n (message.Piece cut place bytes) about all = silently (node.silent n) tt refl

-- who is asked to vote is a memory node
pub to_some : (begun : List Begun) (to : Actor) (x : Message) → IsAboutBegun begun to x → (k : ℕ) × IsAboutBegun begun (Memory k) x
to_some begun to (message.Prepare id participants items) about =
    (about.2.memory, subst (λ (t : Actor). IsAboutBegun begun t (message.Prepare id participants items)) about.2.receiver about)
to_some begun to (message.Voted id v) about = (0, about)
to_some begun to (message.Decide id commit) about = (0, about)
to_some begun to (message.Done id) about = (0, about)
to_some begun to (message.Forget id) about = (0, about)
to_some begun to message.List about = (0, tt)
to_some begun to (message.Kept ids cut) about = (0, tt)
to_some begun to (message.Ask id) about = (0, about)
to_some begun to (message.Answer id ok) about = (0, about)
to_some begun to (message.Hold cut) about = (0, tt)
to_some begun to (message.Held cut answer) about = (0, tt)
to_some begun to (message.Release cut) about = (0, tt)
to_some begun to (message.Drop cut) about = (0, tt)
to_some begun to (message.ReadCut cut place) about = (0, tt)
to_some begun to (message.Piece cut place bytes) about = (0, tt)

-- ---- a story that grew

has_more : (before now : Story) → Grows before now → (id : TxId) (m : ℕ) → HasVoted before id m → HasVoted now id m
has_more before now grows id m (inl granted) = inl (grants_stay id (log_of before m) (log_of now m) (grows.logs m) granted)
has_more before now grows id m (inr look) =
    inr (look.0, subst (λ (bs : List Begun). In look.0 bs) (sym grows.begun.1) (in_front look.0 before.begun grows.begun.0 look.1), look.2, look.3)

counts_more : (before now : Story) → Grows before now → (phase : coord.Phase) → AreCountedVotes before phase → AreCountedVotes now phase
counts_more before now grows coord.Free all = tt
counts_more before now grows (coord.Runs r) all = λ g is. has_more before now grows r.id g.memory (all g is)
counts_more before now grows (coord.Ended outcome) all = tt

if_more : (before now : Story) → Grows before now → (c : Option coord.State) → AreCountedIf before c → AreCountedIf now c
if_more before now grows None all = tt
if_more before now grows (Some c) all = counts_more before now grows c.phase all

-- what is said of a story but for what follows from other laws
record AreTold (story : Story) : Type 0 where
  pub entries : (m : ℕ) (site : Site) → slice_get story.sites m ≡ Some site → AreInLog (node_at site).state (log_of story m)
  pub votes : (p : Posted) → In p story.posted → IsVoted story p.from p.message
  pub counts : (n : ℕ) (seat : Seat) → slice_get story.nodes n ≡ Some seat → AreCountedIf story seat.actor

told : (story : Story) → AreVoted story → AreTold story
told story all = record { entries = all.entries; votes = all.votes; counts = all.counts }

-- ---- a memory node's step

pub entry_here : (logs : List (List Entry)) (m : ℕ) (e : Option Entry) (s : State) → m < length logs → RightIf e → AreInLog s (slice_index_or logs m [])
    → AreInLog (after_one s e) (slice_index_or (with_one logs m e) m [])
entry_here logs m None s within right all = all
entry_here logs m (Some e) s within right all =
    subst (λ (l : List Entry). AreInLog (after_entry s e) l) (sym (set_here logs m (slice_index_or logs m [] ++ e ∷ []) within)) (in_log_after s (slice_index_or logs m []) e right all)

pub entry_there : (logs : List (List Entry)) (m n : ℕ) (e : Option Entry) → ¬ (n ≡ m) → slice_index_or logs n [] ≡ slice_index_or (with_one logs m e) n []
entry_there logs m n None other = refl
entry_there logs m n (Some e) other = sym (set_there logs m n (slice_index_or logs m [] ++ e ∷ []) other)

granted_here : (logs : List (List Entry)) (m : ℕ) (e : Option Entry) (id : TxId) → m < length logs → is_of id (grant_of e) ≡ true → has_granted id (slice_index_or (with_one logs m e) m []) ≡ true
granted_here logs m None id within is = absurd cc
granted_here logs m (Some e) id within is =
    subst (λ (l : List Entry). has_granted id l ≡ true) (sym (set_here logs m (slice_index_or logs m [] ++ e ∷ []) within)) (has_new id (slice_index_or logs m []) e is)

pub counted_posted : (story : Story) (m : ℕ) (sender : Actor) (e : Option Entry) (answer : Option Message) → (steps.counted story m sender e answer).posted ≡ story.posted ++ steps.answered m sender answer
counted_posted story m sender e answer =
    by_answer (with_grant (with_entry story m e) m (grant_of e)) answer
    ∙ ap (λ (ps : List Posted). ps ++ steps.answered m sender answer) (by_grant (with_entry story m e) (grant_of e) ∙ by_entry e)
  where
    by_entry : (e_ : Option Entry) → (with_entry story m e_).posted ≡ story.posted
    by_entry None = refl
    by_entry (Some x) = refl

    by_grant : (one : Story) (g : Option TxId) → (with_grant one m g).posted ≡ one.posted
    by_grant one None = refl
    by_grant one (Some id) = refl

    by_answer : (two : Story) (a : Option Message) → (with_answer two m sender a).posted ≡ two.posted ++ steps.answered m sender a
    by_answer two None = sym (append-nil two.posted)
    by_answer two (Some x) = refl

-- what a step of a memory node leaves behind: its entry, what it has then, and what it posts
record IsNodeStep (story : Story) (m : ℕ) (sender : Actor) (e : Option Entry) (answer : Option Message) (old site : Site) (now : Story) : Type 0 where
  pub there : slice_get story.sites m ≡ Some old
  pub takes : TakesEntry story m e now
  pub grows : Grows story (steps.with_site now m site)
  pub state : (node_at site).state ≡ after_one (node_at old).state e
  pub right : RightIf e
  pub posted : now.posted ≡ story.posted ++ steps.answered m sender answer
  pub nodes : now.nodes ≡ story.nodes
  pub vouched : (id : TxId) (reads : List (List ℕ)) → answer ≡ Some (message.Voted id (vote.Granted reads))
      → (has_granted id (log_of story m) ≡ true) ⊎ ((is_of id (grant_of e) ≡ true) ⊎ ((b : Begun) × In b story.begun × (b.id ≡ id) × IsLook b.items m))

node_stepped : (story : Story) (m : ℕ) (sender : Actor) (e : Option Entry) (answer : Option Message) (old site : Site) (now : Story) → length story.logs ≡ length story.sites
    → IsNodeStep story m sender e answer old site now → AreTold story → AreTold (steps.with_site now m site)
node_stepped story m sender e answer old site now sized step all = record {
  entries = λ k x is. at_site k x (subst (λ (ss : List Site). slice_get (slice_set ss m site) k ≡ Some x) step.takes.sites is) (cases_eq k m);
  votes = λ p is. elim (in_either p story.posted (steps.answered m sender answer) (subst (λ (ps : List Posted). In p ps) step.posted is)) [
    | inl old_ ↦ λ k id reads from voted. has_more story after_ step.grows id k (all.votes p old_ k id reads from voted)
    | inr new ↦ of_answer answer refl p new
  ];
  counts = λ n seat is. if_more story after_ step.grows seat.actor (all.counts n seat (subst (λ (ss : List Seat). slice_get ss n ≡ Some seat) step.nodes is));
}
  where
    after_ : Story
    after_ = steps.with_site now m site

    within : m < length story.logs
    within = let bound : m < length story.sites = slice_get_within story.sites m old step.there in omega (arith, bound, sized)

    logged : (k : ℕ) → slice_index_or (with_one story.logs m e) k [] ≡ log_of after_ k
    logged k = ap (λ (ls : List (List Entry)). slice_index_or ls k []) (sym step.takes.logs)

    own : (x : Site) → slice_get (slice_set story.sites m site) m ≡ Some x → AreInLog (node_at x).state (log_of after_ m)
    own x is =
        let one : x ≡ site = some_is site x (sym (get_same story.sites m old site step.there) ∙ is) in
        subst (λ (l : List Entry). AreInLog (node_at x).state l) (logged m)
        (subst (λ (s : State). AreInLog s (slice_index_or (with_one story.logs m e) m [])) (sym (ap (λ (y : Site). (node_at y).state) one ∙ step.state))
        (entry_here story.logs m e (node_at old).state within step.right (all.entries m old step.there)))

    at_site : (k : ℕ) (x : Site) → slice_get (slice_set story.sites m site) k ≡ Some x → (k ≡ m) ⊎ (¬ (k ≡ m)) → AreInLog (node_at x).state (log_of after_ k)
    at_site k x is (inl same) =
        subst (λ (j : ℕ). AreInLog (node_at x).state (log_of after_ j)) (sym same) (own x (subst (λ (j : ℕ). slice_get (slice_set story.sites m site) j ≡ Some x) same is))
    at_site k x is (inr other) =
        subst (λ (l : List Entry). AreInLog (node_at x).state l) (entry_there story.logs m k e other ∙ logged k)
        (all.entries k x (sym (get_other story.sites m k site other) ∙ is))

    vouch : (id : TxId) → (has_granted id (log_of story m) ≡ true) ⊎ ((is_of id (grant_of e) ≡ true) ⊎ ((b : Begun) × In b story.begun × (b.id ≡ id) × IsLook b.items m)) → HasVoted after_ id m
    vouch id (inl before) = has_more story after_ step.grows id m (inl before)
    vouch id (inr (inl new)) = inl (subst (λ (l : List Entry). has_granted id l ≡ true) (logged m) (granted_here story.logs m e id within new))
    vouch id (inr (inr look)) = has_more story after_ step.grows id m (inr look)

    of_answer : (a : Option Message) → answer ≡ a → (p : Posted) → In p (steps.answered m sender a) → IsVoted after_ p.from p.message
    of_answer None same p none = absurd none
    of_answer (Some x) same p last = elim last [
      | inl one ↦ λ k id reads from voted.
          let here : m ≡ k = memory_is m k (sym (ap (λ (q : Posted). q.from) one) ∙ from) in
          let said : x ≡ message.Voted id (vote.Granted reads) = sym (ap (λ (q : Posted). q.message) one) ∙ voted in
          subst (λ (j : ℕ). HasVoted after_ id j) here (vouch id (step.vouched id reads (same ∙ ap (λ (y : Message). Some y) said)))
      | inr none ↦ absurd none
    ]

counted_step : (story : Story) (m : ℕ) (sender : Actor) (e : Option Entry) (answer : Option Message) (old site : Site) → slice_get story.sites m ≡ Some old
    → Grows story (steps.with_site (steps.counted story m sender e answer) m site) → (node_at site).state ≡ after_one (node_at old).state e → RightIf e
    → ((id : TxId) (reads : List (List ℕ)) → answer ≡ Some (message.Voted id (vote.Granted reads))
    → (has_granted id (log_of story m) ≡ true) ⊎ ((is_of id (grant_of e) ≡ true) ⊎ ((b : Begun) × In b story.begun × (b.id ≡ id) × IsLook b.items m)))
    → IsNodeStep story m sender e answer old site (steps.counted story m sender e answer)
counted_step story m sender e answer old site there grows state right vouched = record {
  there = there;
  takes = counted_takes story m sender e answer;
  grows = grows;
  state = state;
  right = right;
  posted = counted_posted story m sender e answer;
  nodes = (counted_same story m sender e answer).nodes;
  vouched = vouched;
}

quiet_step : (story : Story) (m : ℕ) (sender : Actor) (old site : Site) → slice_get story.sites m ≡ Some old → Grows story (steps.with_site story m site)
    → (node_at site).state ≡ (node_at old).state → IsNodeStep story m sender None None old site story
quiet_step story m sender old site there grows state = record {
  there = there;
  takes = nothing_taken story m;
  grows = grows;
  state = state;
  right = tt;
  posted = sym (append-nil story.posted);
  nodes = refl;
  vouched = λ id reads is. absurd (none_voted id reads is);
}

module _ (story : Story) (sized : length story.logs ≡ length story.sites) (all : AreTold story) where
  quietly : (m : ℕ) (old site : Site) → slice_get story.sites m ≡ Some old → (node_at site).state ≡ (node_at old).state → AreTold (steps.with_site story m site)
  quietly m old site there state =
      node_stepped story m Manager None None old site story sized (quiet_step story m Manager old site there (moved story story m site (quiet story)) state) all

  reacted_told : (m k : ℕ) (sender : Actor) (n : MemoryNode) (x : Message) (how : How) → slice_get story.sites m ≡ Some (Up n) → IsAboutBegun story.begun (Memory m) x
      → AreTold (steps.reacted story m k sender n (reaction n x) how)
  reacted_told m k sender n x Lost there about = all
  reacted_told m k sender n x Handled there about =
      let r = reaction n x in
      let well = votes_well story.begun (log_of story m) m n x about (all.entries m (Up n) there) in
      node_stepped story m sender r.entry r.answer (Up n) (Up r.now) (steps.counted story m sender r.entry r.answer) sized
      (counted_step story m sender r.entry r.answer (Up n) (Up r.now) there
      (moved story (steps.counted story m sender r.entry r.answer) m (Up r.now) (counted_grows story m sender r.entry r.answer)) refl well.0 well.1) all
  reacted_told m k sender n x Stopped there about =
      let r = reaction n x in
      let well = votes_well story.begun (log_of story m) m n x about (all.entries m (Up n) there) in
      node_stepped story m sender r.entry None (Up n) (Down r.now None) (steps.counted story m sender r.entry None) sized
      (counted_step story m sender r.entry None (Up n) (Down r.now None) there
      (moved story (steps.counted story m sender r.entry None) m (Down r.now None) (counted_grows story m sender r.entry None)) refl well.0
      (λ id reads is. absurd (none_voted id reads is))) all
  reacted_told m k sender n x WentDown there about = quietly m (Up n) (Down n (Some k)) there refl
  reacted_told m k sender n x WasFull there about = quietly m (Up n) (Down n None) there refl

  memory_told : (m k : ℕ) (p : Posted) (how : How) (site : Option Site) → slice_get story.sites m ≡ site → IsAboutBegun story.begun (Memory m) p.message
      → AreTold (steps.to_memory story m k p how site)
  memory_told m k p how None there about = all
  memory_told m k p how (Some (Up n)) there about = reacted_told m k p.from n p.message how there about
  memory_told m k p how (Some (Down n handling)) there about = all

  found_told : (m k : ℕ) (n : MemoryNode) (found : Bool) (p : Option Posted) → slice_get story.sites m ≡ Some (Down n (Some k))
      → ((q : Posted) → p ≡ Some q → IsAboutBegun story.begun q.to q.message) → AreTold (steps.found_at story m n found p)
  found_told m k n found None there about = quietly m (Down n (Some k)) (Up (with_state n.state)) there refl
  found_told m k n false (Some p) there about = quietly m (Down n (Some k)) (Up (with_state n.state)) there refl
  found_told m k n true (Some p) there about =
      let r = reaction n p.message in
      let it = to_some story.begun p.to p.message (about p refl) in
      let well = votes_well story.begun (log_of story m) it.0 n p.message it.1 (all.entries m (Down n (Some k)) there) in
      let site = Up (with_state r.now.state) in
      node_stepped story m p.from r.entry None (Down n (Some k)) site (steps.counted story m p.from r.entry None) sized
      (counted_step story m p.from r.entry None (Down n (Some k)) site there
      (moved story (steps.counted story m p.from r.entry None) m site (counted_grows story m p.from r.entry None)) refl well.0
      (λ id reads is. absurd (none_voted id reads is))) all

  site_told : (m : ℕ) (found : Bool) (site : Option Site) → slice_get story.sites m ≡ site
      → ((k : ℕ) (q : Posted) → steps.message_at story k ≡ Some q → IsAboutBegun story.begun q.to q.message) → AreTold (steps.from_site story m found site)
  site_told m found None there about = all
  site_told m found (Some (Up n)) there about = all
  site_told m found (Some (Down n None)) there about = quietly m (Down n None) (Up (with_state n.state)) there refl
  site_told m found (Some (Down n (Some k))) there about = found_told m k n found (steps.message_at story k) there (about k)

  fallen_told : (m : ℕ) (site : Option Site) → slice_get story.sites m ≡ site → AreTold (steps.fallen story m site)
  fallen_told m None there = all
  fallen_told m (Some (Up n)) there = quietly m (Up n) (Down n None) there refl
  fallen_told m (Some (Down n handling)) there = all

-- ---- a coordinator's step

-- a story in which only seats, messages and more changed
record IsSeatStep (story : Story) (n : ℕ) (seat : Seat) (posts : List Outgoing) (now : Story) : Type 0 where
  pub logs : now.logs ≡ story.logs
  pub sites : now.sites ≡ story.sites
  pub nodes : now.nodes ≡ slice_set story.nodes n seat
  pub posted : now.posted ≡ story.posted ++ map (steps.sent_by n) posts
  pub grows : Grows story now
  pub counts : AreCountedIf story seat.actor

pub node_from : (n m : ℕ) → ◌≡◌ {A = Actor} (Node n) (Memory m) → ⊥
node_from n m is = cc

seat_stepped : (story : Story) (n : ℕ) (seat : Seat) (posts : List Outgoing) (now : Story) → IsSeatStep story n seat posts now → AreTold story → AreTold now
seat_stepped story n seat posts now step all = record {
  entries = λ m site is.
      subst (λ (ls : List (List Entry)). AreInLog (node_at site).state (slice_index_or ls m [])) (sym step.logs)
      (all.entries m site (subst (λ (ss : List Site). slice_get ss m ≡ Some site) step.sites is));
  votes = λ p is. elim (in_either p story.posted (map (steps.sent_by n) posts) (subst (λ (ps : List Posted). In p ps) step.posted is)) [
    | inl old ↦ λ m id reads from voted. has_more story now step.grows id m (all.votes p old m id reads from voted)
    | inr new ↦ λ m id reads from voted.
        let it = in_map (steps.sent_by n) p posts new in
        absurd (node_from n m (sym (ap (λ (q : Posted). q.from) it.2) ∙ from))
  ];
  counts = λ k x is. elim (set_seat story.nodes n seat k x (subst (λ (ss : List Seat). slice_get ss k ≡ Some x) step.nodes is)) [
    | inl own ↦ subst (λ (s : Seat). AreCountedIf now s.actor) (sym own) (if_more story now step.grows seat.actor step.counts)
    | inr old ↦ if_more story now step.grows x.actor (all.counts k x old)
  ];
}

-- what a coordinator has counted after a vote of this memory node
module _ (story : Story) (c : coord.State) (m : ℕ) (id : TxId) (v : Vote)
    (votes : (reads : List (List ℕ)) → v ≡ vote.Granted reads → HasVoted story id m) where
  pub with_grant_counts : (r : Running) (reads : List (List ℕ)) → v ≡ vote.Granted reads → is_same r.id id ≡ true → AreCountedVotes story (coord.Runs r)
      → AreCountedVotes story (coord.Runs (rules.with_grant r m reads))
  with_grant_counts r reads is same all g there = elim (in_either g r.grants (record { memory = m; reads = reads } ∷ []) there) [
    | inl old ↦ all g old
    | inr last ↦ elim last [
      | inl one ↦ subst (λ (k : ℕ). HasVoted story r.id k) (sym (ap (λ (x : counted.Granted). x.memory) one))
          (subst (λ (t : TxId). HasVoted story t m) (sym (is_one r.id id same)) (votes reads is))
      | inr none ↦ absurd none
    ]
  ]

  progress_counts : (r : Running) (w : Vote) → v ≡ w → is_same r.id id ≡ true → AreCountedVotes story (coord.Runs r) → AreCountedVotes story (rules.after_vote c (rules.counted r m w)).now.phase
  progress_counts r (vote.Granted reads) is same all = go (length (rules.missing r_) == 0)
    where
      r_ : Running
      r_ = rules.with_grant r m reads

      go : (b : Bool) → AreCountedVotes story (rules.after_vote c (if b then rules.ended_by r_ true (Committed (rules.gathered r_.grants r_.mini)) else Waits r_)).now.phase
      go true = tt
      go false = with_grant_counts r reads is same all
  progress_counts r (vote.Mismatch place kept) is same all = tt
  progress_counts r (vote.Locked holder) is same all = tt
  progress_counts r (vote.Forced floor) is same all = tt
  progress_counts r (vote.Held cut) is same all = tt

  vote_counts : (phase : coord.Phase) → AreCountedVotes story phase → AreCountedVotes story c.phase → AreCountedVotes story (rules.on_vote c m id v phase).now.phase
  vote_counts coord.Free all at = at
  vote_counts (coord.Runs r) all at = go (rules.counts r m id v) refl
    where
      go : (b : Bool) → rules.counts r m id v ≡ b → AreCountedVotes story (if b then rules.after_vote c (rules.counted r m v) else rules.quiet c).now.phase
      go true is = progress_counts r v refl (both_true (is_same r.id id) (rules.is_in m (rules.missing r) && rules.fits (rules.placed_for r.mini m) v) is).0 all
      go false is = at
  vote_counts (coord.Ended outcome) all at = at

heard_counts : (story : Story) (c : coord.State) (m : ℕ) (x : Message) → IsVoted story (Memory m) x → AreCountedVotes story c.phase → AreCountedVotes story (rules.heard c m x).now.phase
heard_counts story c m (message.Voted id v) voted at =
    vote_counts story c m id v (λ reads is. voted m id reads refl (ap (λ (w : Vote). message.Voted id w) is)) c.phase at at
heard_counts story c m (message.Done id) voted at = at
heard_counts story c m (message.Prepare id participants items) voted at = at
heard_counts story c m (message.Decide id commit) voted at = at
heard_counts story c m (message.Forget id) voted at = at
heard_counts story c m message.List voted at = at
heard_counts story c m (message.Kept ids cut) voted at = at
heard_counts story c m (message.Ask id) voted at = at
heard_counts story c m (message.Answer id ok) voted at = at
heard_counts story c m (message.Hold cut) voted at = at
heard_counts story c m (message.Held cut answer) voted at = at
heard_counts story c m (message.Release cut) voted at = at
heard_counts story c m (message.Drop cut) voted at = at
heard_counts story c m (message.ReadCut cut place) voted at = at
heard_counts story c m (message.Piece cut place bytes) voted at = at

from_counts : (story : Story) (c : coord.State) (from : Actor) (x : Message) → IsVoted story from x → AreCountedVotes story c.phase → AreCountedVotes story (steps.heard_from c from x).now.phase
from_counts story c (Memory m) x voted at = heard_counts story c m x voted at
from_counts story c (Node n) x voted at = at
from_counts story c Manager x voted at = at

actor_told : (story : Story) (n : ℕ) (p : Posted) (boot : ℕ) (actor : Option coord.State) → AreCountedIf story actor → IsVoted story p.from p.message → AreTold story
    → AreTold (steps.to_actor story n p boot actor)
actor_told story n p boot None at voted all = all
actor_told story n p boot (Some c) at voted all =
    let step = steps.heard_from c p.from p.message in
    seat_stepped story n (record { boot = boot; actor = Some step.now }) step.posts (steps.stepped story n boot c step) (record {
      logs = refl;
      sites = refl;
      nodes = refl;
      posted = refl;
      grows = stepped_grows story n boot c step;
      counts = from_counts story c p.from p.message voted at;
    }) all

node_told : (story : Story) (n : ℕ) (p : Posted) (seat : Option Seat) → slice_get story.nodes n ≡ seat → IsVoted story p.from p.message → AreTold story → AreTold (steps.to_node story n p seat)
node_told story n p None there voted all = all
node_told story n p (Some seat) there voted all = actor_told story n p seat.boot seat.actor (all.counts n seat there) voted all

at_actor : (story : Story) (does : ℕ → coord.State → Story) → ((boot : ℕ) (c : coord.State) → AreCountedVotes story c.phase → AreTold (does boot c))
    → (boot : ℕ) (actor : Option coord.State) → AreCountedIf story actor → AreTold story → AreTold (steps.at_actor story does boot actor)
at_actor story does keeps boot None at all = all
at_actor story does keeps boot (Some c) at all = keeps boot c at

at_seat : (story : Story) (n : ℕ) (does : ℕ → coord.State → Story) → ((boot : ℕ) (c : coord.State) → AreCountedVotes story c.phase → AreTold (does boot c))
    → (seat : Option Seat) → slice_get story.nodes n ≡ seat → AreTold story → AreTold (steps.at_seat story does seat)
at_seat story n does keeps None there all = all
at_seat story n does keeps (Some seat) there all = at_actor story does keeps seat.boot seat.actor (all.counts n seat there) all

at_node : (story : Story) (n : ℕ) (does : ℕ → coord.State → Story) → ((boot : ℕ) (c : coord.State) → AreCountedVotes story c.phase → AreTold (does boot c)) → AreTold story → AreTold (steps.at_node story n does)
at_node story n does keeps all = at_seat story n does keeps (slice_get story.nodes n) refl all

-- the seat alone changes
reseated : (story : Story) (n boot : ℕ) (c : Option coord.State) → AreCountedIf story c → AreTold story → AreTold (steps.with_actor story n boot c)
reseated story n boot c counts all = seat_stepped story n (record { boot = boot; actor = c }) [] (steps.with_actor story n boot c) (record {
  logs = refl;
  sites = refl;
  nodes = refl;
  posted = sym (append-nil story.posted);
  grows = actor_set story n boot c;
  counts = counts;
}) all

left_told : (story : Story) (n : ℕ) (seat : Option Seat) → AreTold story → AreTold (steps.left story n seat)
left_told story n None all = all
left_told story n (Some seat) all = reseated story n seat.boot None tt all

without_running : (story : Story) (phase : coord.Phase) → AreCountedVotes story (rules.without_running phase)
without_running story coord.Free = tt
without_running story (coord.Runs r) = tt
without_running story (coord.Ended outcome) = tt

without_outcome : (story : Story) (phase : coord.Phase) → AreCountedVotes story phase → AreCountedVotes story (rules.without_outcome phase)
without_outcome story coord.Free all = tt
without_outcome story (coord.Runs r) all = all
without_outcome story (coord.Ended outcome) all = tt

begins_told : (story : Story) (n boot : ℕ) (c : coord.State) (items : List Item) → AreTold story
    → AreTold (record (steps.stepped story n boot c (rules.begun c items)) { begun = story.begun ++ record { id = rules.next_id c; items = items } ∷ [] })
begins_told story n boot c items all =
    let step = rules.begun c items in
    seat_stepped story n (record { boot = boot; actor = Some step.now }) step.posts
    (record (steps.stepped story n boot c step) { begun = story.begun ++ record { id = rules.next_id c; items = items } ∷ [] })
    (record { logs = refl; sites = refl; nodes = refl; posted = refl; grows = begins_grows story n boot c items; counts = λ g is. absurd is }) all

resends_told : (story : Story) (n : ℕ) (c : coord.State) → AreTold story → AreTold (record story { posted = story.posted ++ map (steps.sent_by n) (rules.resent c) })
resends_told story n c all =
    let now : Story = record story { posted = story.posted ++ map (steps.sent_by n) (rules.resent c) } in
    let grows = resends_grows story n c in
    record {
      entries = all.entries;
      votes = λ p is. elim (in_either p story.posted (map (steps.sent_by n) (rules.resent c)) is) [
        | inl old ↦ λ m id reads from voted. has_more story now grows id m (all.votes p old m id reads from voted)
        | inr new ↦ λ m id reads from voted.
            let it = in_map (steps.sent_by n) p (rules.resent c) new in
            absurd (node_from n m (sym (ap (λ (q : Posted). q.from) it.2) ∙ from))
      ];
      counts = λ k seat is. if_more story now grows seat.actor (all.counts k seat is);
    }

-- ---- the steps

receiver_told : (story : Story) (k : ℕ) (how : How) (p : Posted) (to : Actor) → p.to ≡ to → IsAboutBegun story.begun p.to p.message → IsVoted story p.from p.message
    → length story.logs ≡ length story.sites → AreTold story → AreTold (steps.to_receiver story k how p to)
receiver_told story k how p (Memory m) is about voted sized all =
    memory_told story sized all m k p how (slice_get story.sites m) refl (subst (λ (t : Actor). IsAboutBegun story.begun t p.message) is about)
receiver_told story k how p (Node n) is about voted sized all = node_told story n p (slice_get story.nodes n) refl voted all
receiver_told story k how p Manager is about voted sized all = all

given_told : (story : Story) (k : ℕ) (how : How) (p : Option Posted) → steps.message_at story k ≡ p → AreVoted story → AreTold (steps.given story k how p)
given_told story k how None there all = told story all
given_told story k how (Some p) there all =
    let posted = at_posted story k p there in
    receiver_told story k how p p.to refl (all.begun.posted p posted) (all.votes p posted) all.replayed.logs (told story all)

crashed_told : (story : Story) (who : Actor) → AreVoted story → AreTold (steps.crashed story who)
crashed_told story (Memory m) all = fallen_told story all.replayed.logs (told story all) m (slice_get story.sites m) refl
crashed_told story (Node n) all = left_told story n (slice_get story.nodes n) (told story all)
crashed_told story Manager all = told story all

-- with what other laws say of it
whole : (story : Story) → AreBegun story → AreReplayed story → AreTold story → AreVoted story
whole story begun replayed all = record { begun = begun; replayed = replayed; entries = all.entries; votes = all.votes; counts = all.counts }

fresh_log : (states : List State) (m : ℕ) (site : Site) → AreFresh states → slice_get (map (λ (s : State). Up (with_state s)) states) m ≡ Some site → (log : List Entry) → AreInLog (node_at site).state log
fresh_log [] m site fresh is log = absurd cc
fresh_log (s ∷ states) zero site fresh is log =
    let same : site ≡ Up (with_state s) = some_is (Up (with_state s)) site is in
    let own = fresh s (inl refl) in
    subst (λ (x : Site). AreInLog (node_at x).state log) (sym same) (record {
      kept = λ k there. absurd (subst (λ (ks : List Kept). In k ks) own.0 there);
      floors = λ c floor there. absurd (none_some floor (sym (own.1 c) ∙ there));
    })
  where
    none_some : (f : Floor) → ◌≡◌ {A = Option Floor} None (Some f) → ⊥
    none_some f is_ = cc
fresh_log (s ∷ states) (suc m) site fresh is log = fresh_log states m site (λ x there. fresh x (inr there)) is log

pub votes_have_entries : VotesHaveEntries
votes_have_entries = record {
  opened = λ states boots fresh. whole (opened_story states boots) (named_was_begun.opened states boots) (sites_are_the_logs.opened states boots) (record {
    entries = λ m site is. fresh_log states m site fresh is (log_of (opened_story states boots) m);
    votes = λ p is. absurd is;
    counts = λ n seat is. subst (λ (a : Option coord.State). AreCountedIf (opened_story states boots) a) (sym (empty_seat boots n seat is)) tt;
  });
  begun = λ story n items all. whole (steps.begun_by story n items) (named_was_begun.begun story n items all.begun) (sites_are_the_logs.begun story n items all.replayed)
      (at_node story n _ (λ boot c at. begins_told story n boot c items (told story all)) (told story all));
  delivered = λ story k how all. whole (steps.delivered story k how) (named_was_begun.delivered story k how all.begun) (sites_are_the_logs.delivered story k how all.replayed)
      (given_told story k how (steps.message_at story k) refl all);
  given_up = λ story n all. whole (steps.given_up story n) (named_was_begun.given_up story n all.begun) (sites_are_the_logs.given_up story n all.replayed)
      (at_node story n _ (λ boot c at. reseated story n boot (Some (rules.given_up c)) (without_running story c.phase) (told story all)) (told story all));
  cleared = λ story n all. whole (steps.cleared story n) (named_was_begun.cleared story n all.begun) (sites_are_the_logs.cleared story n all.replayed)
      (at_node story n _ (λ boot c at. reseated story n boot (Some (rules.cleared c)) (without_outcome story c.phase at) (told story all)) (told story all));
  resent = λ story n all. whole (steps.resent story n) (named_was_begun.resent story n all.begun) (sites_are_the_logs.resent story n all.replayed)
      (at_node story n _ (λ boot c at. resends_told story n c (told story all)) (told story all));
  crashed = λ story who all. whole (steps.crashed story who) (named_was_begun.crashed story who all.begun) (sites_are_the_logs.crashed story who all.replayed) (crashed_told story who all);
  node_started = λ story n boot all. whole (steps.node_started story n boot) (named_was_begun.node_started story n boot all.begun) (sites_are_the_logs.node_started story n boot all.replayed)
      (reseated story n boot (Some (coord.started n boot)) tt (told story all));
  memory_started = λ story m found all. whole (steps.memory_started story m found) (named_was_begun.memory_started story m found all.begun) (sites_are_the_logs.memory_started story m found all.replayed)
      (site_told story all.replayed.logs (told story all) m found (slice_get story.sites m) refl (λ k q is. all.begun.posted q (at_posted story k q is)));
}
