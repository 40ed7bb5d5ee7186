-- How a story shows in the machine, and that a step of a coordinator keeps it.
use Rattle.std.proofs.Common.{◌≡◌, ◌≤◌, ◌<◌, ◌⊎◌, inl, inr, ℕ, zero, suc, ◌^◌, Bool, false, List, [], ◌∷◌, ◌++◌, length, map, reverse, Option, Some, None, sym, ap, subst, ◌∙◌, slice_get, slice_set, slice_index_or}
use Rattle.std.specs.Prelude.{⊤}
use Rattle.std.proofs.lemmas.Bool.{cases_eq}
use Rattle.mini_tx.specs.declared.actor.Actor.{Actor}
use Rattle.mini_tx.specs.declared.actor.Actor.TheVariants.{Node, Memory, Manager}
use Rattle.mini_tx.specs.declared.entry.Entry.{Entry}
use Rattle.mini_tx.specs.declared.entry.Entry.TheVariants as entry
use Rattle.mini_tx.specs.declared.message.Message as sent
use Rattle.mini_tx.specs.declared.message.Message.TheVariants as message
use Rattle.mini_tx.specs.declared.posted.Posted.{Posted}
use Rattle.mini_tx.specs.declared.tx_id.TxId.{TxId}
use Rattle.mini_tx.specs.Laws.{IsTypedId}
use Rattle.mini_tx.specs.Minitransactions.{refusal}
use Rattle.mem_rules.specs.State.{State}
use Rattle.tx_coord.specs.declared.finishing.Finishing.{Finishing}
use Rattle.tx_coord.specs.declared.outcome.Outcome.TheVariants.{Committed, Refused}
use Rattle.tx_coord.specs.declared.outgoing.Outgoing.{Outgoing}
use Rattle.tx_coord.specs.State as coord
use Rattle.tx_coord.specs.Rules.{gathered, is_through}
use Rattle.tx_coord.specs.Votes.{Granted}
use Rattle.tx_rules.specs.Decision.{Reason}
use Rattle.tx_rules.specs.Laws.{history}
use Rattle.tx_rules.specs.Mini.{In, Setting, nodes_of}
use Rattle.tx_rules.specs.World.{World, Message}
use Rattle.tx_rules.proofs.FaithfulLemmas.{in_front, in_either}
use Rattle.tx_actors.specs.Coordinator as machine
use Rattle.tx_actors.specs.Machine as whole
use Rattle.tx_actors.specs.Node.{View, view, own, has_grant}
use Rattle.tx_actors.specs.Numbers.{identifier}
use Rattle.mem_laws.specs.Cells.{number}
use Rattle.mem_laws.specs.Shown.{Shows, decision_on}
use Rattle.mem_laws.specs.Steps.{shown_answer}
use Rattle.coord_laws.specs.Shown.{ShowsCoordinator, shown_post, shown_votes}
use Rattle.story_rules.specs.Story.{Begun, Seat, Site, Up, Down, Cast, Story}
use Rattle.story_rules.specs.Steps.{log_of, has_granted, sent_by, message_at}
use Rattle.story_laws.specs.Growth.{Adds}
use Rattle.story_shown.specs.History.{last_id, IsLastCast}
use Rattle.story_laws.specs.Sites.{node_at}
use Rattle.story_laws.proofs.BeginningLemmas.{in_map, some_is}
use Rattle.story_laws.proofs.CastLemmas.{set_length}
use Rattle.story_laws.proofs.IdentifierLemmas.{get_other}
use Rattle.story_shown.specs.Fits.{AreTyped, Fits}

-- ---- what shows

-- a coordinator's message is for a participant
abbrev pub GoesTo : Setting → ℕ → sent.Message → Type 0
GoesTo s m (message.Prepare id participants items) = In m (nodes_of s (number id))
GoesTo s m (message.Decide id commit) = In m (nodes_of s (number id))
GoesTo s m (message.Forget id) = In m (nodes_of s (number id))
GoesTo s m (message.Voted id v) = ⊤
GoesTo s m (message.Done id) = ⊤
GoesTo s m message.List = ⊤
GoesTo s m (message.Kept ids cut) = ⊤
GoesTo s m (message.Ask id) = ⊤
GoesTo s m (message.Answer id ok) = ⊤
GoesTo s m (message.Hold cut) = ⊤
GoesTo s m (message.Held cut answer) = ⊤
GoesTo s m (message.Release cut) = ⊤
GoesTo s m (message.Drop cut) = ⊤
GoesTo s m (message.ReadCut cut place) = ⊤
GoesTo s m (message.Piece cut place bytes) = ⊤

-- a message between a node and a memory node shows as one that the machine has posted
abbrev pub IsShownPost : Setting → World → Actor → Actor → sent.Message → Type 0
IsShownPost s w (Node n) (Memory m) x = (y : Message) × In y w.posted × (shown_post x ≡ Some y) × GoesTo s m x
IsShownPost s w (Memory m) (Node n) x = (y : Message) × In y w.posted × (shown_answer s m (Some x) ≡ y ∷ [])
IsShownPost s w (Node n) (Node k) x = ⊥
IsShownPost s w (Node n) Manager x = ⊥
IsShownPost s w (Memory m) (Memory k) x = ⊥
IsShownPost s w (Memory m) Manager x = ⊥
IsShownPost s w Manager to x = ⊥

-- what a memory node has shows, over an image of this size and floors of so many nodes
pub record IsShownSite (s : Setting) (size nodes m : ℕ) (state : State) (w : World) : Type 0 where
  pub shows : Shows s m state (view w m)
  pub sized : length state.image ≡ size
  pub floors : length state.floors ≡ nodes

-- a memory node that went down in handling a message was sent that message
abbrev pub Handles : Story → ℕ → Site → Type 0
Handles story m (Up n) = ⊤
Handles story m (Down n None) = ⊤
Handles story m (Down n (Some k)) = (p : Posted) × (message_at story k ≡ Some p) × (p.to ≡ Memory m)

-- what runs is what was begun last
abbrev pub RunsOwn : coord.State → coord.Phase → Type 0
RunsOwn c coord.Free = ⊤
RunsOwn c (coord.Runs r) = r.id ≡ last_id c
RunsOwn c (coord.Ended outcome) = ⊤

-- what is finishing is the coordinator's, and waits for some
pub record IsOwn (c : coord.State) : Type 0 where
  pub runs : RunsOwn c c.phase
  pub finishing : (f : Finishing) → In f c.finishing → (f.id.coord ≡ c.coord) × (is_through f ≡ false)

-- what ended as Committed ended so in the machine
abbrev pub HasEnded : List Begun → coord.State → coord.Phase → List machine.Outcome → Type 0
HasEnded begun c coord.Free outcomes = ⊤
HasEnded begun c (coord.Runs r) outcomes = ⊤
HasEnded begun c (coord.Ended (Committed reads)) outcomes =
    (b : Begun) × In b begun × (b.id ≡ last_id c) × (grants : List Granted) × In (machine.Committed (number b.id) (shown_votes grants)) outcomes × (reads ≡ gathered grants b.items)
HasEnded begun c (coord.Ended (Refused m v)) outcomes = ⊤

pub record IsShownActor (s : Setting) (begun : List Begun) (c : coord.State) (x : machine.Coordinator) (outcomes : List machine.Outcome) : Type 0 where
  pub shows : ShowsCoordinator s c x
  pub own : IsOwn c
  pub few : c.begun < 2 ^ 64
  pub ended : HasEnded begun c c.phase outcomes

-- one that is down has begun no identifier of a later boot
abbrev pub IsShownSeat : Setting → List Begun → ℕ → ℕ → Option coord.State → machine.Coordinator → List machine.Outcome → Type 0
IsShownSeat s begun n boot None x outcomes = x.next ≤ identifier n boot (2 ^ 64)
IsShownSeat s begun n boot (Some c) x outcomes = IsShownActor s begun c x outcomes

abbrev pub HasFailed : List machine.Outcome → TxId → Type 0
HasFailed outcomes id = (m : ℕ) × (why : Reason) × In (machine.Failed (number id) m why) outcomes

pub record IsShown (s : Setting) (size : ℕ) (story : Story) (st : whole.State) : Type 0 where
  pub places : length story.sites ≡ length story.opening
  pub sites : (m : ℕ) (site : Site) → slice_get story.sites m ≡ Some site → IsShownSite s size (length story.nodes) m (node_at site).state st.world
  pub handling : (m : ℕ) (site : Site) → slice_get story.sites m ≡ Some site → Handles story m site
  pub grants : (m : ℕ) (id : TxId) → IsTypedId id → has_grant (own m st.world.log) (number id) ≡ has_granted id (log_of story m)
  pub decided : (m : ℕ) (id : TxId) (commit : Bool) → In (entry.Decided id commit) (log_of story m) → In (decision_on (number id) commit) (own m st.world.log)
  pub seats : (n : ℕ) (seat : Seat) → slice_get story.nodes n ≡ Some seat → IsShownSeat s story.begun n seat.boot seat.actor (st.coordinator n) st.outcomes
  pub posted : (p : Posted) → In p story.posted → IsShownPost s st.world p.from p.to p.message
  pub begun : (b : Begun) → In b story.begun → In (number b.id) st.world.begun
  pub known : (t : ℕ) → In t st.world.begun → (b : Begun) × In b story.begun × (t ≡ number b.id)
  pub moments : (id : TxId) → IsTypedId id → (later before : List ℕ) → st.world.points ≡ later ++ number id ∷ before → IsLastCast story.casts id (length (history s before))
  pub history : history s st.world.points ≡ reverse (map number story.committed)
  pub refused : (id : TxId) → In id story.refused → HasFailed st.outcomes id

-- the table fits, and all that was begun is valid
pub record IsFit (s : Setting) (size : ℕ) (story : Story) : Type 0 where
  pub fits : Fits s story
  pub typed : AreTyped story.begun
  pub valid : (b : Begun) → In b story.begun → refusal b.items (length story.opening) size ≡ None

-- ---- what grows

pub post_more : (s : Setting) (v w : World) → ((y : Message) → In y v.posted → In y w.posted) → (from to : Actor) (x : sent.Message) → IsShownPost s v from to x → IsShownPost s w from to x
post_more s v w more (Node n) (Memory m) x shown = (shown.0, more shown.0 shown.1, shown.2, shown.3)
post_more s v w more (Memory m) (Node n) x shown = (shown.0, more shown.0 shown.1, shown.2)
post_more s v w more (Node n) (Node k) x shown = absurd shown
post_more s v w more (Node n) Manager x shown = absurd shown
post_more s v w more (Memory m) (Memory k) x shown = absurd shown
post_more s v w more (Memory m) Manager x shown = absurd shown
post_more s v w more Manager to x shown = absurd shown

pub in_adds : {A : Type 0} (x : A) (xs ys : List A) → Adds xs ys → In x xs → In x ys
in_adds x xs ys adds is = subst (λ (l : List _). In x l) (sym adds.1) (in_front x xs adds.0 is)

pub ended_more : (before now : List Begun) (c : coord.State) (phase : coord.Phase) (outcomes more : List machine.Outcome) → Adds before now
    → ((o : machine.Outcome) → In o outcomes → In o more) → HasEnded before c phase outcomes → HasEnded now c phase more
ended_more before now c coord.Free outcomes more adds stays all = tt
ended_more before now c (coord.Runs r) outcomes more adds stays all = tt
ended_more before now c (coord.Ended (Committed reads)) outcomes more adds stays all =
    (all.0, in_adds all.0 before now adds all.1, all.2, all.3, stays (machine.Committed (number all.0.id) (shown_votes all.3)) all.4, all.5)
ended_more before now c (coord.Ended (Refused m v)) outcomes more adds stays all = tt

pub seat_more : (s : Setting) (before now : List Begun) (n boot : ℕ) (c : Option coord.State) (x : machine.Coordinator) (outcomes more : List machine.Outcome) → Adds before now
    → ((o : machine.Outcome) → In o outcomes → In o more) → IsShownSeat s before n boot c x outcomes → IsShownSeat s now n boot c x more
seat_more s before now n boot None x outcomes more adds stays all = all
seat_more s before now n boot (Some c) x outcomes more adds stays all =
    record { shows = all.shows; own = all.own; few = all.few; ended = ended_more before now c c.phase outcomes more adds stays all.ended }

get_more : {A : Type 0} (xs ys : List A) (k : ℕ) (x : A) → slice_get xs k ≡ Some x → slice_get (xs ++ ys) k ≡ Some x
get_more [] ys k x is = absurd cc
get_more (y ∷ xs) ys zero x is = is
get_more (y ∷ xs) ys (suc k) x is = get_more xs ys k x is

message_more : (before now : Story) (k : ℕ) (p : Posted) → Adds before.posted now.posted → message_at before k ≡ Some p → message_at now k ≡ Some p
message_more before now zero p adds is = is
message_more before now (suc k) p adds is = subst (λ (ps : List Posted). slice_get ps k ≡ Some p) (sym adds.1) (get_more before.posted adds.0 k p is)

pub handles_more : (before now : Story) (m : ℕ) (site : Site) → Adds before.posted now.posted → Handles before m site → Handles now m site
handles_more before now m (Up n) adds all = tt
handles_more before now m (Down n None) adds all = tt
handles_more before now m (Down n (Some k)) adds all = (all.0, message_more before now k all.0 adds all.1, all.2)

-- ---- a coordinator's step

-- the machine's coordinator of this node acts: nothing is logged, and no other acts
pub record Follows (n : ℕ) (st now : whole.State) : Type 0 where
  pub views : (m : ℕ) → view st.world m ≡ view now.world m
  pub points : now.world.points ≡ st.world.points
  pub posted : (y : Message) → In y st.world.posted → In y now.world.posted
  pub outcomes : (o : machine.Outcome) → In o st.outcomes → In o now.outcomes
  pub others : (d : ℕ) → ¬ (d ≡ n) → now.coordinator d ≡ st.coordinator d

-- a node of the story acts, and the machine is in this state then
pub record IsSeatChange (s : Setting) (story now : Story) (n : ℕ) (seat : Seat) (posts : List Outgoing) (st : whole.State) : Type 0 where
  pub opening : now.opening ≡ story.opening
  pub sites : now.sites ≡ story.sites
  pub logs : now.logs ≡ story.logs
  pub nodes : now.nodes ≡ slice_set story.nodes n seat
  pub posted : now.posted ≡ story.posted ++ map (sent_by n) posts
  pub committed : now.committed ≡ story.committed
  pub casts : now.casts ≡ story.casts
  pub adds : Adds story.begun now.begun
  pub shows : IsShownSeat s now.begun n seat.boot seat.actor (st.coordinator n) st.outcomes
  pub posts_show : (o : Outgoing) → In o posts → (y : Message) × In y st.world.posted × (shown_post o.message ≡ Some y) × GoesTo s o.memory o.message
  pub begun : (b : Begun) → In b now.begun → In (number b.id) st.world.begun
  pub known : (t : ℕ) → In t st.world.begun → (b : Begun) × In b now.begun × (t ≡ number b.id)
  pub refused : (id : TxId) → In id now.refused → HasFailed st.outcomes id

set_own : (xs : List Seat) (n : ℕ) (y z : Seat) → slice_get (slice_set xs n y) n ≡ Some z → y ≡ z
set_own [] n y z is = absurd cc
set_own (x ∷ xs) zero y z is = sym (some_is y z is)
set_own (x ∷ xs) (suc n) y z is = set_own xs n y z is

pub seat_shown : (s : Setting) (size : ℕ) (story now : Story) (n : ℕ) (seat : Seat) (posts : List Outgoing) (st after : whole.State) → Follows n st after
    → IsSeatChange s story now n seat posts after → IsShown s size story st → IsShown s size now after
seat_shown s size story now n seat posts st after follows change all = record {
  places = ap (length {A = Site}) change.sites ∙ all.places ∙ sym (ap (length {A = State}) change.opening);
  sites = λ m site is.
      let old = all.sites m site (subst (λ (xs : List Site). slice_get xs m ≡ Some site) change.sites is) in
      record {
        shows = subst (λ (v : View). Shows s m (node_at site).state v) (follows.views m) old.shows;
        sized = old.sized;
        floors = old.floors ∙ sym (ap (length {A = Seat}) change.nodes ∙ set_length story.nodes n seat);
      };
  handling = λ m site is.
      handles_more story now m site (map (sent_by n) posts, change.posted) (all.handling m site (subst (λ (xs : List Site). slice_get xs m ≡ Some site) change.sites is));
  grants = λ m id typed.
      ap (λ (v : View). has_grant v.records (number id)) (sym (follows.views m)) ∙ all.grants m id typed
      ∙ ap (λ (ls : List (List Entry)). has_granted id (slice_index_or ls m [])) (sym change.logs);
  decided = λ m id commit is.
      subst (λ (v : View). In (decision_on (number id) commit) v.records) (follows.views m)
      (all.decided m id commit (subst (λ (ls : List (List Entry)). In (entry.Decided id commit) (slice_index_or ls m [])) change.logs is));
  seats = λ k x is. at_seat k x (subst (λ (xs : List Seat). slice_get xs k ≡ Some x) change.nodes is) (cases_eq k n);
  posted = λ p is. elim (in_either p story.posted (map (sent_by n) posts) (subst (λ (ps : List Posted). In p ps) change.posted is)) [
    | inl old ↦ post_more s st.world after.world follows.posted p.from p.to p.message (all.posted p old)
    | inr new ↦
        let it = in_map (sent_by n) p posts new in
        let shown : IsShownPost s after.world (Node n) (Memory it.0.memory) it.0.message = change.posts_show it.0 it.1 in
        subst (λ (q : Posted). IsShownPost s after.world q.from q.to q.message) (sym it.2) shown
  ];
  begun = change.begun;
  known = change.known;
  history = ap (history s) follows.points ∙ all.history ∙ ap (λ (ids : List TxId). reverse (map number ids)) (sym change.committed);
  refused = change.refused;
  moments = λ id typed later before split.
      subst (λ (cs : List Cast). IsLastCast cs id (length (history s before))) (sym change.casts) (all.moments id typed later before (sym follows.points ∙ split));
}
  where
    own_seat : (x : Seat) → seat ≡ x → IsShownSeat s now.begun n x.boot x.actor (after.coordinator n) after.outcomes
    own_seat x same = subst (λ (y : Seat). IsShownSeat s now.begun n y.boot y.actor (after.coordinator n) after.outcomes) same change.shows

    at_seat : (k : ℕ) (x : Seat) → slice_get (slice_set story.nodes n seat) k ≡ Some x → (k ≡ n) ⊎ (¬ (k ≡ n))
        → IsShownSeat s now.begun k x.boot x.actor (after.coordinator k) after.outcomes
    at_seat k x is (inl same) =
        subst (λ (j : ℕ). IsShownSeat s now.begun j x.boot x.actor (after.coordinator j) after.outcomes) (sym same)
        (own_seat x (set_own story.nodes n seat x (subst (λ (j : ℕ). slice_get (slice_set story.nodes n seat) j ≡ Some x) same is)))
    at_seat k x is (inr other) =
        subst (λ (y : machine.Coordinator). IsShownSeat s now.begun k x.boot x.actor y after.outcomes) (sym (follows.others k other))
        (seat_more s story.begun now.begun k x.boot x.actor (st.coordinator k) st.outcomes after.outcomes change.adds follows.outcomes
        (all.seats k x (sym (get_other story.nodes n k seat other) ∙ is)))
