-- Beginnings, votes, giving up and starts.
use Rattle.std.proofs.Common.{◌≡◌, ℕ, ◌==◌, ◌&&◌, Bool, true, false, not, cond, List, [], ◌∷◌, ◌++◌, map, length, Option, Some, None, inl, refl, sym, ap, subst, ◌∙◌, arith}
use Rattle.std.proofs.lemmas.Bool.{le-leb}
use Rattle.mini_tx.specs.declared.tx_id.TxId.{TxId}
use Rattle.mini_tx.specs.declared.vote.Vote.{Vote}
use Rattle.mini_tx.specs.declared.vote.Vote.TheVariants as vote
use Rattle.mini_tx.specs.Laws.{IsTypedId}
use Rattle.mini_tx.specs.Order.{is_same}
use Rattle.tx_coord.specs.declared.outcome.Outcome.TheVariants as outcome
use Rattle.tx_coord.specs.declared.outgoing.Outgoing.{Outgoing}
use Rattle.tx_coord.specs.declared.progress.Ending.{Ending}
use Rattle.tx_coord.specs.declared.progress.Progress.{Progress}
use Rattle.tx_coord.specs.declared.progress.Progress.TheVariants.{Waits, Ends}
use Rattle.tx_coord.specs.declared.running.Running.{Running}
use Rattle.tx_coord.specs.State.{State, Phase, Free, Runs, Ended}
use Rattle.tx_coord.specs.Rules as rules
use Rattle.tx_coord.proofs.MissingLemmas.{is_in_missing}
use Rattle.tx_rules.specs.Decision.{Reason}
use Rattle.tx_rules.specs.Lists.{is_in, all_in}
use Rattle.tx_rules.specs.Mini.{Setting, nodes_of}
use Rattle.tx_rules.specs.World.{Prepare}
use Rattle.tx_actors.specs.Coordinator as machine
use Rattle.mem_laws.specs.Cells.{number}
use Rattle.mem_laws.specs.Shown.{reason_of}
use Rattle.mem_laws.proofs.CellLemmas.{sameness_is}
use Rattle.coord_laws.specs.Shown.{IsShownRunning, ShowsPhase, ShowsCoordinator, shown_votes, IsShownStep, ShowsEnd}
use Rattle.coord_laws.specs.Laws.{BeginningsAreTheMachines, IsFit, EndsAlike, GrantedVotesAreTheMachines, RefusedVotesAreTheMachines, GivingUpIsTheMachines, StartsAreTheMachines}
use Rattle.coord_laws.proofs.ListLemmas.{voter, member_is, granted_is, one_more, none_missing}
use Rattle.coord_laws.proofs.ShownLemmas.{all_show, ended_shows}

-- ---- begin

pub beginnings_are_the_machines : BeginningsAreTheMachines
beginnings_are_the_machines s c x items shows free known = (
  may x.running (subst (λ (p : Phase). ShowsPhase s p x.running) free shows.phase),
  record {
    shows = record {
      next = omega arith;
      phase = record { known = known; id = refl; votes = refl };
      finishing = shows.finishing;
    };
    posts = λ (o : Outgoing) h. (Prepare (number (rules.next_id c)), inl refl, all_show (rules.prepare (rules.next_id c) items) (Prepare (number (rules.next_id c))) (λ m. refl) (rules.participants_of items) o h);
  },
)
  where
    may : (o : Option machine.Running) → ShowsPhase s Free o → machine.may_begin x (number (rules.next_id c)) o ≡ true
    may None is = le-leb x.next (number (rules.next_id c)) shows.next
    may (Some r) is = absurd is

-- ---- votes

and_true : (b : Bool) → b ≡ (b && true)
and_true true = refl
and_true false = refl

-- the machine takes the vote that counts
takes_is : (s : Setting) (r : Running) (x : machine.Running) (m : ℕ) (id : TxId) (v : Vote) → IsShownRunning s r x → IsTypedId id
    → (is_same r.id id ≡ true → rules.fits (rules.placed_for r.mini m) v ≡ true) → machine.takes s x m (number id) ≡ rules.counts r m id v
takes_is s r x m id v is typed fit =
    ap (λ b. b && (is_in m (nodes_of s x.id) && not (is_in m (map voter x.votes)))) (ap (λ n. n == number id) is.id ∙ sameness_is r.id id is.known.typed typed)
    ∙ ap (λ b. is_same r.id id && b) missing_is
    ∙ go (is_same r.id id) refl
  where
    missing_is : (is_in m (nodes_of s x.id) && not (is_in m (map voter x.votes))) ≡ rules.is_in m (rules.missing r)
    missing_is =
        ap (λ t. is_in m (nodes_of s t) && not (is_in m (map voter x.votes))) is.id
        ∙ ap (λ ps. is_in m ps && not (is_in m (map voter x.votes))) is.known.nodes
        ∙ ap (λ b. b && not (is_in m (map voter x.votes))) (member_is m (rules.participants_of r.mini))
        ∙ ap (λ vs. rules.is_in m (rules.participants_of r.mini) && not (is_in m (map voter vs))) is.votes
        ∙ ap (λ b. rules.is_in m (rules.participants_of r.mini) && not b) (granted_is m r.grants)
        ∙ is_in_missing r.grants m (rules.participants_of r.mini)

    go : (b : Bool) → is_same r.id id ≡ b → (b && rules.is_in m (rules.missing r)) ≡ (b && (rules.is_in m (rules.missing r) && rules.fits (rules.placed_for r.mini m) v))
    go true same = and_true (rules.is_in m (rules.missing r)) ∙ ap (λ b. rules.is_in m (rules.missing r) && b) (sym (fit same))
    go false same = refl

-- it stays as it is
quiet_shows : (s : Setting) (c : State) (x : machine.Coordinator) → ShowsCoordinator s c x → IsShownStep s (rules.quiet c) (machine.stays x)
quiet_shows s c x shows = record { shows = record { next = shows.next; phase = shows.phase; finishing = shows.finishing }; posts = λ (o : Outgoing) h. absurd h }

-- a Granted vote is counted
counted_shows : (s : Setting) (c : State) (x : machine.Coordinator) (r : Running) (y : machine.Running) (m : ℕ) (reads : List (List ℕ)) → ShowsCoordinator s c x → IsShownRunning s r y
    → IsShownStep s (rules.after_vote c (rules.granted (rules.with_grant r m reads))) (machine.counted s x y (m, reads))
    × ShowsEnd r (rules.after_vote c (rules.granted (rules.with_grant r m reads))).now.phase (machine.counted s x y (m, reads)).ends
counted_shows s c x r y m reads shows is = go (all_in (nodes_of s y.id) (map voter ((m, reads) ∷ y.votes))) all_is
  where
    more : Running
    more = rules.with_grant r m reads

    votes_are : ◌≡◌ {A = List (ℕ × List (List ℕ))} ((m, reads) ∷ y.votes) (shown_votes (r.grants ++ record { memory = m; reads = reads } ∷ []))
    votes_are = ap (λ (vs : List (ℕ × List (List ℕ))). (m, reads) ∷ vs) is.votes ∙ sym (one_more (record { memory = m; reads = reads }) r.grants)

    all_is : all_in (nodes_of s y.id) (map voter ((m, reads) ∷ y.votes)) ≡ (length (rules.missing (rules.with_grant r m reads)) == 0)
    all_is =
        ap (λ t. all_in (nodes_of s t) (map voter ((m, reads) ∷ y.votes))) is.id
        ∙ ap (λ ps. all_in ps (map voter ((m, reads) ∷ y.votes))) is.known.nodes
        ∙ ap (λ (vs : List (ℕ × List (List ℕ))). all_in (rules.participants_of r.mini) (map voter vs)) votes_are
        ∙ none_missing (rules.has_granted (r.grants ++ record { memory = m; reads = reads } ∷ [])) (map voter (shown_votes (r.grants ++ record { memory = m; reads = reads } ∷ [])))
        (λ n. granted_is n (r.grants ++ record { memory = m; reads = reads } ∷ [])) (rules.participants_of r.mini)

    e : Ending
    e = record { id = r.id; mini = r.mini; commit = true; outcome = outcome.Committed (rules.gathered (r.grants ++ record { memory = m; reads = reads } ∷ []) r.mini) }

    progress : Bool → Progress
    progress b = cond b (Ends e) (Waits (rules.with_grant r m reads))

    waiting : machine.Act
    waiting = record { now = record x { running = Some (record y { votes = (m, reads) ∷ y.votes }) }; posts = []; ends = [] }

    committed : ℕ → machine.Act
    committed t = machine.ended s x t true (machine.Committed t ((m, reads) ∷ y.votes))

    go : (b : Bool) → b ≡ (length (rules.missing (rules.with_grant r m reads)) == 0)
        → IsShownStep s (rules.after_vote c (rules.granted (rules.with_grant r m reads))) (cond b (committed y.id) waiting)
        × ShowsEnd r (rules.after_vote c (rules.granted (rules.with_grant r m reads))).now.phase (cond b (committed y.id) waiting).ends
    go true all =
        let it = ended_shows s c x e (machine.Committed (number r.id) ((m, reads) ∷ y.votes)) shows is.known in
        subst (λ (b : Bool). IsShownStep s (rules.after_vote c (progress b)) (committed y.id) × ShowsEnd r (rules.after_vote c (progress b)).now.phase (committed y.id).ends) all
        (subst (λ (t : ℕ). IsShownStep s (rules.after_vote c (Ends e)) (committed t) × ShowsEnd r (Ended e.outcome) (committed t).ends) (sym is.id)
        (it.0, (r.grants ++ record { memory = m; reads = reads } ∷ [], it.1 ∙ ap (λ (vs : List (ℕ × List (List ℕ))). machine.Committed (number r.id) vs ∷ []) votes_are, refl)))
    go false left =
        subst (λ (b : Bool). IsShownStep s (rules.after_vote c (progress b)) waiting × ShowsEnd r (rules.after_vote c (progress b)).now.phase waiting.ends) left (
          record {
            shows = record { next = shows.next; phase = record { known = is.known; id = is.id; votes = votes_are }; finishing = shows.finishing };
            posts = λ (o : Outgoing) h. absurd h;
          },
          refl,
        )

pub granted_votes_are_the_machines : GrantedVotesAreTheMachines
granted_votes_are_the_machines s c x m id reads shows typed fit = go c.phase refl x.running fit shows.phase
  where
    running : (r : Running) (y : machine.Running) → IsShownRunning s r y → (b : Bool) → c.phase ≡ Runs r
        → IsShownStep s (cond b (rules.after_vote c (rules.counted r m (vote.Granted reads))) (rules.quiet c)) (cond b (machine.counted s x y (m, reads)) (machine.stays x))
        × ShowsEnd r (cond b (rules.after_vote c (rules.counted r m (vote.Granted reads))) (rules.quiet c)).now.phase (cond b (machine.counted s x y (m, reads)) (machine.stays x)).ends
    running r y is true at = counted_shows s c x r y m reads shows is
    running r y is false at = (quiet_shows s c x shows, subst (λ (p : Phase). ShowsEnd r p []) (sym at) refl)

    go : (p : Phase) → c.phase ≡ p → (o : Option machine.Running) → IsFit p m id (vote.Granted reads) → ShowsPhase s p o
        → IsShownStep s (rules.on_vote c m id (vote.Granted reads) p) (machine.hear_granted s x m (number id) reads o)
        × EndsAlike p (rules.on_vote c m id (vote.Granted reads) p).now.phase (machine.hear_granted s x m (number id) reads o).ends
    go Free at None fits is = (quiet_shows s c x shows, refl)
    go Free at (Some y) fits is = absurd is
    go (Runs r) at None fits is = absurd is
    go (Runs r) at (Some y) fits is =
        let same = takes_is s r y m id (vote.Granted reads) is typed fits in
        subst (λ (b : Bool). IsShownStep s (cond (rules.counts r m id (vote.Granted reads)) (rules.after_vote c (rules.counted r m (vote.Granted reads))) (rules.quiet c)) (cond b (machine.counted s x y (m, reads)) (machine.stays x))
        × ShowsEnd r (cond (rules.counts r m id (vote.Granted reads)) (rules.after_vote c (rules.counted r m (vote.Granted reads))) (rules.quiet c)).now.phase (cond b (machine.counted s x y (m, reads)) (machine.stays x)).ends)
        (sym same) (running r y is (rules.counts r m id (vote.Granted reads)) at)
    go (Ended o) at None fits is = (quiet_shows s c x shows, refl)
    go (Ended o) at (Some y) fits is = absurd is

-- another vote ends it
refused_shows : (s : Setting) (c : State) (x : machine.Coordinator) (r : Running) (y : machine.Running) (m : ℕ) (v : Vote) (why : Reason) → ShowsCoordinator s c x → IsShownRunning s r y
    → reason_of v ≡ Some why
    → IsShownStep s (rules.after_vote c (rules.ended_by r false (outcome.Refused m v))) (machine.ended s x y.id false (machine.Failed y.id m why))
    × ShowsEnd r (Ended (outcome.Refused m v)) (machine.ended s x y.id false (machine.Failed y.id m why)).ends
refused_shows s c x r y m v why shows is reason =
    subst (λ (t : ℕ). IsShownStep s (rules.after_vote c (rules.ended_by r false (outcome.Refused m v))) (machine.ended s x t false (machine.Failed t m why))
    × ShowsEnd r (Ended (outcome.Refused m v)) (machine.ended s x t false (machine.Failed t m why)).ends) (sym is.id)
    (let it = ended_shows s c x (record { id = r.id; mini = r.mini; commit = false; outcome = outcome.Refused m v }) (machine.Failed (number r.id) m why) shows is.known in
    (it.0, (why, reason, it.1)))

pub refused_votes_are_the_machines : RefusedVotesAreTheMachines
refused_votes_are_the_machines s c x m id v why shows typed fit reason = go c.phase refl x.running fit shows.phase
  where
    -- what a vote that is not Granted makes of what runs
    other_counts : (r : Running) (w : Vote) → reason_of w ≡ Some why → rules.counted r m w ≡ rules.ended_by r false (outcome.Refused m w)
    other_counts r (vote.Granted reads) e = absurd cc
    other_counts r (vote.Mismatch place kept) e = refl
    other_counts r (vote.Locked holder) e = refl
    other_counts r (vote.Forced floor) e = refl
    other_counts r (vote.Held cut) e = refl

    running : (r : Running) (y : machine.Running) → IsShownRunning s r y → (b : Bool) → c.phase ≡ Runs r
        → IsShownStep s (cond b (rules.after_vote c (rules.ended_by r false (outcome.Refused m v))) (rules.quiet c)) (cond b (machine.ended s x y.id false (machine.Failed y.id m why)) (machine.stays x))
        × ShowsEnd r (cond b (rules.after_vote c (rules.ended_by r false (outcome.Refused m v))) (rules.quiet c)).now.phase (cond b (machine.ended s x y.id false (machine.Failed y.id m why)) (machine.stays x)).ends
    running r y is true at = refused_shows s c x r y m v why shows is reason
    running r y is false at = (quiet_shows s c x shows, subst (λ (p : Phase). ShowsEnd r p []) (sym at) refl)

    go : (p : Phase) → c.phase ≡ p → (o : Option machine.Running) → IsFit p m id v → ShowsPhase s p o
        → IsShownStep s (rules.on_vote c m id v p) (machine.hear_refused s x m (number id) why o)
        × EndsAlike p (rules.on_vote c m id v p).now.phase (machine.hear_refused s x m (number id) why o).ends
    go Free at None fits is = (quiet_shows s c x shows, refl)
    go Free at (Some y) fits is = absurd is
    go (Runs r) at None fits is = absurd is
    go (Runs r) at (Some y) fits is =
        let same = takes_is s r y m id v is typed fits in
        subst (λ (b : Bool). IsShownStep s (cond (rules.counts r m id v) (rules.after_vote c (rules.counted r m v)) (rules.quiet c)) (cond b (machine.ended s x y.id false (machine.Failed y.id m why)) (machine.stays x))
        × ShowsEnd r (cond (rules.counts r m id v) (rules.after_vote c (rules.counted r m v)) (rules.quiet c)).now.phase (cond b (machine.ended s x y.id false (machine.Failed y.id m why)) (machine.stays x)).ends)
        (sym same)
        (subst (λ (q : Progress). IsShownStep s (cond (rules.counts r m id v) (rules.after_vote c q) (rules.quiet c)) (cond (rules.counts r m id v) (machine.ended s x y.id false (machine.Failed y.id m why)) (machine.stays x))
        × ShowsEnd r (cond (rules.counts r m id v) (rules.after_vote c q) (rules.quiet c)).now.phase (cond (rules.counts r m id v) (machine.ended s x y.id false (machine.Failed y.id m why)) (machine.stays x)).ends)
        (sym (other_counts r v reason)) (running r y is (rules.counts r m id v) at))
    go (Ended o) at None fits is = (quiet_shows s c x shows, refl)
    go (Ended o) at (Some y) fits is = absurd is

-- ---- giving up, and starts

pub giving_up_is_the_machines : GivingUpIsTheMachines
giving_up_is_the_machines s c x shows = (
  record { next = shows.next; phase = none c.phase x.running shows.phase; finishing = shows.finishing },
  record { next = shows.next; phase = taken c.phase x.running shows.phase; finishing = shows.finishing },
)
  where
    none : (p : Phase) (o : Option machine.Running) → ShowsPhase s p o → ShowsPhase s (rules.without_running p) None
    none Free o is = tt
    none (Runs r) o is = tt
    none (Ended e) o is = tt

    taken : (p : Phase) (o : Option machine.Running) → ShowsPhase s p o → ShowsPhase s (rules.without_outcome p) o
    taken Free o is = is
    taken (Runs r) o is = is
    taken (Ended e) None is = tt
    taken (Ended e) (Some y) is = absurd is

pub starts_are_the_machines : StartsAreTheMachines
starts_are_the_machines s x coord boot above = record { next = above; phase = tt; finishing = tt }
