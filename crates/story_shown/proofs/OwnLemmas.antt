-- What a coordinator runs and finishes is its own, and its messages are for participants.
use Rattle.std.proofs.Common.{◌≡◌, inl, inr, ℕ, suc, ◌==◌, Bool, true, false, not, List, [], ◌∷◌, ◌++◌, length, map, filter, Option, Some, None, refl, sym, ap, subst, ◌∙◌, if◌then◌else◌}
use Rattle.std.proofs.lemmas.Bool.{ne_eqb}
use Rattle.mini_tx.specs.declared.item.Item.{Item}
use Rattle.mini_tx.specs.declared.tx_id.TxId.{TxId}
use Rattle.mini_tx.specs.declared.vote.Vote.{Vote}
use Rattle.mini_tx.specs.declared.vote.Vote.TheVariants as vote
use Rattle.mini_tx.specs.Order.{is_same}
use Rattle.tx_coord.specs.declared.finishing.Finishing.{Finishing}
use Rattle.tx_coord.specs.declared.outcome.Outcome.TheVariants.{Committed, Refused}
use Rattle.tx_coord.specs.declared.outgoing.Outgoing.{Outgoing}
use Rattle.tx_coord.specs.declared.progress.Progress.TheVariants.{Waits}
use Rattle.tx_coord.specs.declared.running.Running.{Running}
use Rattle.tx_coord.specs.State as coord
use Rattle.tx_coord.specs.Rules as rules
use Rattle.tx_rules.specs.Lists.{is_in}
use Rattle.tx_rules.specs.Mini.{In, Setting, nodes_of}
use Rattle.tx_rules.proofs.FaithfulLemmas.{in_either}
use Rattle.tx_actors.specs.Coordinator as machine
use Rattle.mem_laws.specs.Cells.{number}
use Rattle.tx_actors.proofs.TestLemmas.{In-filter}
use Rattle.coord_laws.specs.Shown.{IsKnown, ShowsPhase, AreShownFinishing, ShowsCoordinator}
use Rattle.story_shown.specs.History.{last_id}
use Rattle.story_laws.proofs.BeginningLemmas.{in_map, in_filter, in_drop, in_flat, noted_id}
use Rattle.story_shown.proofs.ShownLemmas.{GoesTo, RunsOwn, IsOwn}

-- ---- what is its own

several_wait : (ps : List ℕ) → rules.has_several ps ≡ true → (length ps == 0) ≡ false
several_wait [] is = absurd cc
several_wait (p ∷ ps) is = ne_eqb (suc (length ps)) 0 (λ e. cc)

not_is : (b : Bool) → not b ≡ true → b ≡ false
not_is true is = absurd cc
not_is false is = refl

module _ (c : coord.State) (own : IsOwn c) where
  abbrev OwnFinishing : List Finishing → Type 0
  OwnFinishing fs = (f : Finishing) → In f fs → (f.id.coord ≡ c.coord) × (rules.is_through f ≡ false)

  decided_own : (id : TxId) (commit : Bool) (ps : List ℕ) → id ≡ last_id c → OwnFinishing (rules.with_decided id commit ps c.finishing)
  decided_own id commit ps is = go (rules.has_several ps) refl
    where
      go : (b : Bool) → rules.has_several ps ≡ b → OwnFinishing (if b then rules.newest 32 (c.finishing ++ rules.finishing_of id commit ps ∷ []) else c.finishing)
      go true several f there = elim (in_either f c.finishing (rules.finishing_of id commit ps ∷ []) (in_drop _ f (c.finishing ++ rules.finishing_of id commit ps ∷ []) there)) [
        | inl old ↦ own.finishing f old
        | inr new ↦ elim new [
          | inl one ↦ (
            ap (λ (x : Finishing). x.id.coord) one ∙ ap (λ (t : TxId). t.coord) is,
            ap rules.is_through one ∙ several_wait ps several,
          )
          | inr none ↦ absurd none
        ]
      ]
      go false one f there = own.finishing f there

  ended_own : (r : Running) (commit : Bool) (outcome : _) → r.id ≡ last_id c → IsOwn (rules.after_vote c (rules.ended_by r commit outcome)).now
  ended_own r commit outcome is = record { runs = tt; finishing = decided_own r.id commit (rules.participants_of r.mini) is }

  -- after a vote that counts
  counted_own : (r : Running) (m : ℕ) (v : Vote) → r.id ≡ last_id c → IsOwn (rules.after_vote c (rules.counted r m v)).now
  counted_own r m (vote.Granted reads) is = go (length (rules.missing r_) == 0)
    where
      r_ : Running
      r_ = rules.with_grant r m reads

      go : (b : Bool) → IsOwn (rules.after_vote c (if b then rules.ended_by (rules.with_grant r m reads) true (Committed (rules.gathered (rules.with_grant r m reads).grants r.mini)) else Waits (rules.with_grant r m reads))).now
      go true = ended_own (rules.with_grant r m reads) true (Committed (rules.gathered (rules.with_grant r m reads).grants r.mini)) is
      go false = record { runs = is; finishing = own.finishing }
  counted_own r m (vote.Mismatch place kept) is = ended_own r false (Refused m (vote.Mismatch place kept)) is
  counted_own r m (vote.Locked holder) is = ended_own r false (Refused m (vote.Locked holder)) is
  counted_own r m (vote.Forced floor) is = ended_own r false (Refused m (vote.Forced floor)) is
  counted_own r m (vote.Held cut) is = ended_own r false (Refused m (vote.Held cut)) is

  pub vote_own : (r : Running) (m : ℕ) (id : TxId) (v : Vote) (ph : coord.Phase) → c.phase ≡ ph → ph ≡ coord.Runs r → IsOwn (rules.on_vote c m id v ph).now
  vote_own r m id v coord.Free at is = own
  vote_own r m id v (coord.Ended outcome) at is = own
  vote_own r m id v (coord.Runs q) at is = go (rules.counts q m id v)
    where
      mine : q.id ≡ last_id c
      mine = subst (λ (p : coord.Phase). RunsOwn c p) at own.runs

      go : (b : Bool) → IsOwn (if b then rules.after_vote c (rules.counted q m v) else rules.quiet c).now
      go true = counted_own q m v (subst (λ (p : coord.Phase). RunsOwn c p) at own.runs)
      go false = own

  pub done_own : (m : ℕ) (id : TxId) → IsOwn (rules.on_done c m id).now
  done_own m id = record {
    runs = own.runs;
    finishing = λ f there.
        let passed = In-filter (λ (x : Finishing). not (rules.is_through x)) f (map (rules.noted m id) c.finishing) there in
        let it = in_map (rules.noted m id) f c.finishing passed.0 in (
          ap (λ (x : Finishing). x.id.coord) it.2 ∙ ap (λ (t : TxId). t.coord) (noted_id m id it.0) ∙ (own.finishing it.0 it.1).0,
          not_is (rules.is_through f) passed.1,
        );
  }

  pub given_own : IsOwn (rules.given_up c)
  given_own = record { runs = go c.phase; finishing = own.finishing }
    where
      go : (ph : coord.Phase) → RunsOwn c (rules.without_running ph)
      go coord.Free = tt
      go (coord.Runs r) = tt
      go (coord.Ended o) = tt

  pub cleared_own : IsOwn (rules.cleared c)
  cleared_own = record { runs = go c.phase own.runs; finishing = own.finishing }
    where
      go : (ph : coord.Phase) → RunsOwn c ph → RunsOwn c (rules.without_outcome ph)
      go coord.Free is = tt
      go (coord.Runs r) is = is
      go (coord.Ended o) is = tt

  pub begun_own : (items : List Item) → IsOwn (rules.begun c items).now
  begun_own items = record { runs = refl; finishing = own.finishing }

pub started_own : (n boot : ℕ) → IsOwn (coord.started n boot)
started_own n boot = record { runs = tt; finishing = λ f is. absurd is }

-- ---- whom it sends to

abbrev pub AllGo : Setting → List Outgoing → Type 0
AllGo s posts = (o : Outgoing) → In o posts → GoesTo s o.memory o.message

module _ (s : Setting) where
  pub running_known : (r : Running) (ph : coord.Phase) (x : Option machine.Running) → ph ≡ coord.Runs r → ShowsPhase s ph x → IsKnown s r.id (rules.participants_of r.mini)
  running_known r coord.Free x is shows = absurd cc
  running_known r (coord.Ended o) x is shows = absurd cc
  running_known r (coord.Runs q) None is shows = absurd shows
  running_known r (coord.Runs q) (Some x) is shows = subst (λ (p : Running). IsKnown s p.id (rules.participants_of p.mini)) (one q r is) shows.known
    where
      one : (a b : Running) → coord.Runs a ≡ coord.Runs b → a ≡ b
      one a b same = cc

  finishing_known : (f : Finishing) (fs : List Finishing) (xs : List machine.Finishing) → AreShownFinishing s fs xs → In f fs
      → IsKnown s f.id f.participants × ((k : ℕ) → In k f.waits → In k f.participants)
  finishing_known f [] xs shows there = absurd there
  finishing_known f (g ∷ fs) [] shows there = absurd shows
  finishing_known f (g ∷ fs) (x ∷ xs) shows there = elim there [
    | inl one ↦ subst (λ (h : Finishing). IsKnown s h.id h.participants × ((k : ℕ) → In k h.waits → In k h.participants)) (sym one)
        (shows.0.known, λ k is. in_filter (λ (n : ℕ). not (is_in n x.done)) k g.participants (subst (λ (l : List ℕ). In k l) shows.0.waits is))
    | inr rest ↦ finishing_known f fs xs shows.1 rest
  ]

  decides_go : (id : TxId) (commit : Bool) (ps ms : List ℕ) → nodes_of s (number id) ≡ ps → ((k : ℕ) → In k ms → In k ps) → AllGo s (map (rules.decide id commit) ms)
  decides_go id commit ps ms nodes within o there =
      let it = in_map (rules.decide id commit) o ms there in
      subst (λ (x : Outgoing). GoesTo s x.memory x.message) (sym it.2) (subst (λ (l : List ℕ). In it.0 l) (sym nodes) (within it.0 it.1))

  prepares_go : (id : TxId) (items : List Item) (ms : List ℕ) → nodes_of s (number id) ≡ rules.participants_of items → ((k : ℕ) → In k ms → In k (rules.participants_of items))
      → AllGo s (map (rules.prepare id items) ms)
  prepares_go id items ms nodes within o there =
      let it = in_map (rules.prepare id items) o ms there in
      subst (λ (x : Outgoing). GoesTo s x.memory x.message) (sym it.2) (subst (λ (l : List ℕ). In it.0 l) (sym nodes) (within it.0 it.1))

  ended_go : (c : coord.State) (r : Running) (commit : Bool) (outcome : _) → nodes_of s (number r.id) ≡ rules.participants_of r.mini
      → AllGo s (rules.after_vote c (rules.ended_by r commit outcome)).posts
  ended_go c r commit outcome nodes = go (rules.has_several (rules.participants_of r.mini))
    where
      go : (b : Bool) → AllGo s (if b then map (rules.decide r.id commit) (rules.participants_of r.mini) else [])
      go true = decides_go r.id commit (rules.participants_of r.mini) (rules.participants_of r.mini) nodes (λ k is. is)
      go false = λ o there. absurd there

  counted_go : (c : coord.State) (r : Running) (m : ℕ) (v : Vote) → nodes_of s (number r.id) ≡ rules.participants_of r.mini → AllGo s (rules.after_vote c (rules.counted r m v)).posts
  counted_go c r m (vote.Granted reads) nodes = go (length (rules.missing (rules.with_grant r m reads)) == 0)
    where
      go : (b : Bool) → AllGo s (rules.after_vote c (if b then rules.ended_by (rules.with_grant r m reads) true (Committed (rules.gathered (rules.with_grant r m reads).grants r.mini)) else Waits (rules.with_grant r m reads))).posts
      go true = ended_go c (rules.with_grant r m reads) true (Committed (rules.gathered (rules.with_grant r m reads).grants r.mini)) nodes
      go false = λ o there. absurd there
  counted_go c r m (vote.Mismatch place kept) nodes = ended_go c r false (Refused m (vote.Mismatch place kept)) nodes
  counted_go c r m (vote.Locked holder) nodes = ended_go c r false (Refused m (vote.Locked holder)) nodes
  counted_go c r m (vote.Forced floor) nodes = ended_go c r false (Refused m (vote.Forced floor)) nodes
  counted_go c r m (vote.Held cut) nodes = ended_go c r false (Refused m (vote.Held cut)) nodes

  module _ (c : coord.State) (x : machine.Coordinator) (shows : ShowsCoordinator s c x) where
    pub vote_go : (r : Running) (m : ℕ) (v : Vote) → c.phase ≡ coord.Runs r → AllGo s (rules.after_vote c (rules.counted r m v)).posts
    vote_go r m v is = counted_go c r m v (running_known r c.phase x.running is shows.phase).nodes

    noted_same : (m : ℕ) (id : TxId) (f : Finishing) → (rules.noted m id f).participants ≡ f.participants
    noted_same m id f = go (is_same f.id id)
      where
        go : (b : Bool) → (if b then record f { waits = filter (λ n. not (n == m)) f.waits } else f).participants ≡ f.participants
        go true = refl
        go false = refl

    pub done_go : (m : ℕ) (id : TxId) → AllGo s (rules.on_done c m id).posts
    done_go m id o there =
        let it = in_flat rules.forget o (filter rules.is_through (map (rules.noted m id) c.finishing)) there in
        let f = it.0 in
        let old = in_map (rules.noted m id) f c.finishing (in_filter rules.is_through f (map (rules.noted m id) c.finishing) it.1) in
        let known = (finishing_known old.0 c.finishing x.finishing shows.finishing old.1).0 in
        let sent = in_map (rules.forget_at f.id) o f.participants it.2 in
        let same_id : f.id ≡ old.0.id = ap (λ (y : Finishing). y.id) old.2 ∙ noted_id m id old.0 in
        let same_ps : f.participants ≡ old.0.participants = ap (λ (y : Finishing). y.participants) old.2 ∙ noted_same m id old.0 in
        let goal : GoesTo s sent.0 (rules.forget_at f.id sent.0).message =
        subst (λ (t : TxId). In sent.0 (nodes_of s (number t))) (sym same_id)
        (subst (λ (l : List ℕ). In sent.0 l) (sym known.nodes) (subst (λ (l : List ℕ). In sent.0 l) same_ps sent.1)) in
        subst (λ (y : Outgoing). GoesTo s y.memory y.message) (sym sent.2) goal

    pub resent_go : AllGo s (rules.resent c)
    resent_go o there = elim (in_either o (rules.prepares c.phase) _ there) [
      | inl first ↦ prepared c.phase refl o first
      | inr rest ↦
          let it = in_flat rules.decides o c.finishing rest in
          let known = finishing_known it.0 c.finishing x.finishing shows.finishing it.1 in
          decides_go it.0.id it.0.commit it.0.participants it.0.waits known.0.nodes known.1 o it.2
    ]
      where
        prepared : (ph : coord.Phase) → c.phase ≡ ph → (p : Outgoing) → In p (rules.prepares ph) → GoesTo s p.memory p.message
        prepared coord.Free is p none = absurd none
        prepared (coord.Ended outcome) is p none = absurd none
        prepared (coord.Runs r) is p first =
            prepares_go r.id r.mini (rules.missing r) (running_known r c.phase x.running is shows.phase).nodes
            (λ k h. in_filter (λ (j : ℕ). not (rules.has_granted r.grants j)) k (rules.participants_of r.mini) h) p first

  pub begun_go : (c : coord.State) (items : List Item) → nodes_of s (number (rules.next_id c)) ≡ rules.participants_of items → AllGo s (rules.begun c items).posts
  begun_go c items nodes = prepares_go (rules.next_id c) items (rules.participants_of items) nodes (λ k is. is)
