-- Who sends what to memory nodes.
use Rattle.std.proofs.Common.{◌≡◌, ◌⊎◌, ◌<◌, inl, inr, ℕ, zero, suc, Bool, true, false, List, [], ◌∷◌, ◌++◌, map, filter, length, Option, Some, None, refl, sym, ap, subst, ◌∙◌, arith, slice_get, slice_set, if◌then◌else◌}
use Rattle.std.specs.List.{flat_map}
use Rattle.mini_tx.specs.declared.actor.Actor.{Actor}
use Rattle.mini_tx.specs.declared.actor.Actor.TheVariants.{Node, Memory, Manager}
use Rattle.mini_tx.specs.declared.entry.Entry.{Entry}
use Rattle.mini_tx.specs.declared.item.Item.{Item}
use Rattle.mini_tx.specs.declared.message.Message.{Message}
use Rattle.mini_tx.specs.declared.message.Message.TheVariants as message
use Rattle.mini_tx.specs.declared.posted.Posted.{Posted}
use Rattle.mini_tx.specs.declared.tx_id.TxId.{TxId}
use Rattle.mini_tx.specs.declared.vote.Vote.{Vote}
use Rattle.mem_rules.specs.Fit.{IsOfTransactions}
use Rattle.tx_coord.specs.declared.finishing.Finishing.{Finishing}
use Rattle.tx_coord.specs.declared.outgoing.Outgoing.{Outgoing}
use Rattle.tx_coord.specs.declared.progress.Progress.{Progress}
use Rattle.tx_coord.specs.declared.progress.Progress.TheVariants.{Waits, Ends}
use Rattle.tx_coord.specs.State as coord
use Rattle.tx_coord.specs.Rules as rules
use Rattle.tx_rules.specs.Mini.{In}
use Rattle.tx_rules.proofs.FaithfulLemmas.{in_either}
use Rattle.story_rules.specs.MemoryNodes.{MemoryNode, reaction, with_state}
use Rattle.story_rules.specs.Story.{Seat, Site, Story, Up, Down}
use Rattle.story_rules.specs.Steps as steps
use Rattle.story_rules.specs.Steps.{How, Lost, Handled, Stopped, WentDown, WasFull, answered, counted, with_site, sent_by}
use Rattle.story_laws.specs.Acts.{Act, Begins, Delivers, GivesUp, Clears, Resends, Crashes, StartsNode, StartsMemory, after_act, told, fresh_story, IsTold}
use Rattle.story_laws.proofs.BeginningLemmas.{in_map, in_flat, at_posted}
use Rattle.story_laws.proofs.CastLemmas.{set_length}
use Rattle.story_laws.proofs.IdentifierLemmas.{counted_same}
use Rattle.story_laws.proofs.VoteLemmas.{counted_posted}
use Rattle.cluster_laws.specs.Sending.{IsFromNode, IsSentWell, NodesSendToMemories}

-- ---- what coordinators post

abbrev pub AreBuilt : List Outgoing → Type 0
AreBuilt posts = (o : Outgoing) → In o posts → IsOfTransactions o.message

none_built : AreBuilt []
none_built o in_ = absurd in_

prepares_built : (id : TxId) (items : List Item) (ms : List ℕ) → AreBuilt (map (rules.prepare id items) ms)
prepares_built id items ms o in_ = let one = in_map (rules.prepare id items) o ms in_ in subst (λ (q : Outgoing). IsOfTransactions q.message) (sym one.2) tt

decides_built : (id : TxId) (commit : Bool) (ms : List ℕ) → AreBuilt (map (rules.decide id commit) ms)
decides_built id commit ms o in_ = let one = in_map (rules.decide id commit) o ms in_ in subst (λ (q : Outgoing). IsOfTransactions q.message) (sym one.2) tt

decisions_built : (id : TxId) (commit : Bool) (ms : List ℕ) → AreBuilt (rules.decisions id commit ms)
decisions_built id commit ms = go (rules.has_several ms)
  where
    go : (b : Bool) → AreBuilt (if b then map (rules.decide id commit) ms else [])
    go true = decides_built id commit ms
    go false = none_built

forgets_built : (fs : List Finishing) → AreBuilt (flat_map rules.forget fs)
forgets_built fs o in_ =
    let one = in_flat rules.forget o fs in_ in
    let two = in_map (rules.forget_at one.0.id) o one.0.participants one.2 in
    subst (λ (q : Outgoing). IsOfTransactions q.message) (sym two.2) tt

voted_built : (c : coord.State) (b : Bool) (p : Progress) → AreBuilt (if b then rules.after_vote c p else rules.quiet c).posts
voted_built c false p = none_built
voted_built c true (Waits r) = none_built
voted_built c true (Ends e) = decisions_built e.id e.commit (rules.participants_of e.mini)

vote_built : (c : coord.State) (m : ℕ) (id : TxId) (v : Vote) (phase : coord.Phase) → AreBuilt (rules.on_vote c m id v phase).posts
vote_built c m id v coord.Free = none_built
vote_built c m id v (coord.Runs r) = voted_built c (rules.counts r m id v) (rules.counted r m v)
vote_built c m id v (coord.Ended outcome) = none_built

heard_built : (c : coord.State) (m : ℕ) (x : Message) → AreBuilt (rules.heard c m x).posts
heard_built c m (message.Voted id v) = vote_built c m id v c.phase
heard_built c m (message.Done id) = forgets_built (filter rules.is_through (map (rules.noted m id) c.finishing))
heard_built c m (message.Prepare id participants items) = none_built
heard_built c m (message.Decide id commit) = none_built
heard_built c m (message.Forget id) = none_built
heard_built c m message.List = none_built
heard_built c m (message.Kept ids cut) = none_built
heard_built c m (message.Ask id) = none_built
heard_built c m (message.Answer id ok) = none_built
heard_built c m (message.Hold cut) = none_built
heard_built c m (message.Held cut answer) = none_built
heard_built c m (message.Release cut) = none_built
heard_built c m (message.Drop cut) = none_built
heard_built c m (message.ReadCut cut place) = none_built
heard_built c m (message.Piece cut place bytes) = none_built

from_built : (c : coord.State) (from : Actor) (x : Message) → AreBuilt (steps.heard_from c from x).posts
from_built c (Memory m) x = heard_built c m x
from_built c (Node n) x = none_built
from_built c Manager x = none_built

both_built : (xs ys : List Outgoing) → AreBuilt xs → AreBuilt ys → AreBuilt (xs ++ ys)
both_built xs ys one two o in_ = elim (in_either o xs ys in_) [ inl a ↦ one o a | inr b ↦ two o b ]

again_built : (phase : coord.Phase) → AreBuilt (rules.prepares phase)
again_built coord.Free = none_built
again_built (coord.Runs r) = prepares_built r.id r.mini (rules.missing r)
again_built (coord.Ended outcome) = none_built

decided_built : (fs : List Finishing) → AreBuilt (flat_map rules.decides fs)
decided_built fs o in_ = let one = in_flat rules.decides o fs in_ in decides_built one.0.id one.0.commit one.0.waits o one.2

resent_built : (c : coord.State) → AreBuilt (rules.resent c)
resent_built c = both_built (rules.prepares c.phase) (flat_map rules.decides c.finishing) (again_built c.phase) (decided_built c.finishing)

-- ---- stories

abbrev pub AreSentWell : ℕ → List Posted → Type 0
AreSentWell nodes posted = (p : Posted) → In p posted → IsSentWell nodes p.from p.to p.message

abbrev IsWell : Story → Type 0
IsWell story = AreSentWell (length story.nodes) story.posted

-- nothing is posted, and there are as many nodes
left_well : (before now : Story) → length now.nodes ≡ length before.nodes → now.posted ≡ before.posted → IsWell before → IsWell now
left_well before now nodes posted well p in_ =
    subst (λ (k : ℕ). IsSentWell k p.from p.to p.message) (sym nodes) (well p (subst (λ (ps : List Posted). In p ps) posted in_))

within : {A : Type 0} (xs : List A) (n : ℕ) (x : A) → slice_get xs n ≡ Some x → n < length xs
within [] n x is = absurd cc
within (y ∷ xs) zero x is = omega arith
within (y ∷ xs) (suc n) x is = let e = within xs n x is in omega (arith, e)

-- a node posts this
node_well : (before now : Story) (n : ℕ) (seat : Seat) (posts : List Outgoing) → slice_get before.nodes n ≡ Some seat → AreBuilt posts → length now.nodes ≡ length before.nodes
    → now.posted ≡ before.posted ++ map (sent_by n) posts → IsWell before → IsWell now
node_well before now n seat posts there built nodes posted well p in_ =
    subst (λ (k : ℕ). IsSentWell k p.from p.to p.message) (sym nodes)
    (elim (in_either p before.posted (map (sent_by n) posts) (subst (λ (ps : List Posted). In p ps) posted in_)) [
      | inl old ↦ well p old
      | inr new ↦
          let one = in_map (sent_by n) p posts new in
          subst (λ (q : Posted). IsSentWell (length before.nodes) q.from q.to q.message) (sym one.2)
          (record { number = n; sender = refl; below = within before.nodes n seat there; built = built one.0 one.1 })
    ])

-- a memory node answers a node
answer_well : (before now : Story) (m : ℕ) (from : Actor) (answer : Option Message) → ((x : Message) → IsSentWell (length before.nodes) (Memory m) from x)
    → length now.nodes ≡ length before.nodes → now.posted ≡ before.posted ++ answered m from answer → IsWell before → IsWell now
answer_well before now m from answer back nodes posted well p in_ =
    subst (λ (k : ℕ). IsSentWell k p.from p.to p.message) (sym nodes)
    (elim (in_either p before.posted (answered m from answer) (subst (λ (ps : List Posted). In p ps) posted in_)) [
      | inl old ↦ well p old
      | inr new ↦ own answer new
    ])
  where
    own : (a : Option Message) → In p (answered m from a) → IsSentWell (length before.nodes) p.from p.to p.message
    own None none = absurd none
    own (Some x) (inl same) = subst (λ (q : Posted). IsSentWell (length before.nodes) q.from q.to q.message) (sym same) (back x)
    own (Some x) (inr none) = absurd none

counted_well : (story : Story) (m : ℕ) (from : Actor) (e : Option Entry) (answer : Option Message) (site : Site) → ((x : Message) → IsSentWell (length story.nodes) (Memory m) from x)
    → IsWell story → IsWell (with_site (counted story m from e answer) m site)
counted_well story m from e answer site back =
    answer_well story (with_site (counted story m from e answer) m site) m from answer back (ap (length {A = Seat}) (counted_same story m from e answer).nodes) (counted_posted story m from e answer)

-- what goes to a memory node comes from a node, and so goes back to one
back_of : (nodes : ℕ) (m : ℕ) (p : Posted) → p.to ≡ Memory m → IsSentWell nodes p.from p.to p.message → (x : Message) → IsSentWell nodes (Memory m) p.from x
back_of nodes m p to well x =
    let from_node : IsFromNode nodes p.from p.message = subst (λ (a : Actor). IsSentWell nodes p.from a p.message) to well in
    subst (λ (a : Actor). IsSentWell nodes (Memory m) a x) (sym from_node.sender) tt

memory_well : (story : Story) (m k : ℕ) (p : Posted) (how : How) (site : Option Site) → ((x : Message) → IsSentWell (length story.nodes) (Memory m) p.from x)
    → IsWell story → IsWell (steps.to_memory story m k p how site)
memory_well story m k p how None back well = well
memory_well story m k p how (Some (Down n handling)) back well = well
memory_well story m k p Lost (Some (Up n)) back well = well
memory_well story m k p Handled (Some (Up n)) back well = counted_well story m p.from (reaction n p.message).entry (reaction n p.message).answer (Up (reaction n p.message).now) back well
memory_well story m k p Stopped (Some (Up n)) back well = counted_well story m p.from (reaction n p.message).entry None (Down (reaction n p.message).now None) back well
memory_well story m k p WentDown (Some (Up n)) back well = well
memory_well story m k p WasFull (Some (Up n)) back well = well

seat_well : (story : Story) (n : ℕ) (p : Posted) (o : Option Seat) → slice_get story.nodes n ≡ o → IsWell story → IsWell (steps.to_node story n p o)
seat_well story n p None there well = well
seat_well story n p (Some seat) there well = go seat.actor
  where
    go : (a : Option coord.State) → IsWell (steps.to_actor story n p seat.boot a)
    go None = well
    go (Some c) =
        node_well story (steps.stepped story n seat.boot c (steps.heard_from c p.from p.message)) n seat (steps.heard_from c p.from p.message).posts there (from_built c p.from p.message)
        (set_length story.nodes n (record { boot = seat.boot; actor = Some (steps.heard_from c p.from p.message).now })) refl well

receiver_well : (story : Story) (k : ℕ) (how : How) (p : Posted) (to : Actor) → p.to ≡ to → In p story.posted → IsWell story → IsWell (steps.to_receiver story k how p to)
receiver_well story k how p (Memory m) to in_ well = memory_well story m k p how (slice_get story.sites m) (back_of (length story.nodes) m p to (well p in_)) well
receiver_well story k how p (Node n) to in_ well = seat_well story n p (slice_get story.nodes n) refl well
receiver_well story k how p Manager to in_ well = well

given_well : (story : Story) (k : ℕ) (how : How) (o : Option Posted) → steps.message_at story k ≡ o → IsWell story → IsWell (steps.given story k how o)
given_well story k how None at well = well
given_well story k how (Some p) at well = receiver_well story k how p p.to refl (at_posted story k p at) well

-- what a node does by itself
own_well : (story : Story) (n : ℕ) (does : ℕ → coord.State → Story) → ((seat : Seat) (boot : ℕ) (c : coord.State) → slice_get story.nodes n ≡ Some seat → IsWell (does boot c)) → IsWell story
    → (o : Option Seat) → slice_get story.nodes n ≡ o → IsWell (steps.at_seat story does o)
own_well story n does each well None there = well
own_well story n does each well (Some seat) there = go seat.actor
  where
    go : (a : Option coord.State) → IsWell (steps.at_actor story does seat.boot a)
    go None = well
    go (Some c) = each seat seat.boot c there

actor_well : (story : Story) (n boot : ℕ) (c : Option coord.State) → IsWell story → IsWell (steps.with_actor story n boot c)
actor_well story n boot c = left_well story (steps.with_actor story n boot c) (set_length story.nodes n (record { boot = boot; actor = c })) refl

left_seat : (story : Story) (n : ℕ) (o : Option Seat) → IsWell story → IsWell (steps.left story n o)
left_seat story n None well = well
left_seat story n (Some seat) well = actor_well story n seat.boot None well

fallen_well : (story : Story) (m : ℕ) (o : Option Site) → IsWell story → IsWell (steps.fallen story m o)
fallen_well story m None well = well
fallen_well story m (Some (Up n)) well = well
fallen_well story m (Some (Down n handling)) well = well

crashed_well : (story : Story) (who : Actor) → IsWell story → IsWell (steps.crashed story who)
crashed_well story (Memory m) well = fallen_well story m (slice_get story.sites m) well
crashed_well story (Node n) well = left_seat story n (slice_get story.nodes n) well
crashed_well story Manager well = well

-- a start of a memory node posts nothing
quiet_well : (story : Story) (m : ℕ) (from : Actor) (e : Option Entry) (site : Site) → IsWell story → IsWell (with_site (counted story m from e None) m site)
quiet_well story m from e site =
    left_well story (with_site (counted story m from e None) m site) (ap (length {A = Seat}) (counted_same story m from e None).nodes) (counted_posted story m from e None ∙ nothing story.posted)
  where
    nothing : (ps : List Posted) → ps ++ [] ≡ ps
    nothing [] = refl
    nothing (p ∷ ps) = ap (λ (qs : List Posted). p ∷ qs) (nothing ps)

found_well : (story : Story) (m : ℕ) (n : MemoryNode) (found : Bool) (o : Option Posted) → IsWell story → IsWell (steps.found_at story m n found o)
found_well story m n found None well = well
found_well story m n false (Some p) well = well
found_well story m n true (Some p) well = quiet_well story m p.from (reaction n p.message).entry (Up (with_state (reaction n p.message).now.state)) well

site_well : (story : Story) (m : ℕ) (found : Bool) (o : Option Site) → IsWell story → IsWell (steps.from_site story m found o)
site_well story m found None well = well
site_well story m found (Some (Up n)) well = well
site_well story m found (Some (Down n None)) well = well
site_well story m found (Some (Down n (Some k))) well = found_well story m n found (steps.message_at story k) well

act_well : (story : Story) (act : Act) → IsWell story → IsWell (after_act story act)
act_well story (Begins n items) well =
    own_well story n (λ boot c. record (steps.stepped story n boot c (rules.begun c items)) { begun = story.begun ++ record { id = rules.next_id c; items = items } ∷ [] })
    (λ seat boot c there. node_well story (record (steps.stepped story n boot c (rules.begun c items)) { begun = story.begun ++ record { id = rules.next_id c; items = items } ∷ [] }) n seat
    (rules.begun c items).posts there (prepares_built (rules.next_id c) items (rules.participants_of items))
    (set_length story.nodes n (record { boot = boot; actor = Some (rules.begun c items).now })) refl well) well (slice_get story.nodes n) refl
act_well story (Delivers k how) well = given_well story k how (steps.message_at story k) refl well
act_well story (GivesUp n) well =
    own_well story n (λ boot c. steps.with_actor story n boot (Some (rules.given_up c))) (λ seat boot c there. actor_well story n boot (Some (rules.given_up c)) well) well (slice_get story.nodes n) refl
act_well story (Clears n) well =
    own_well story n (λ boot c. steps.with_actor story n boot (Some (rules.cleared c))) (λ seat boot c there. actor_well story n boot (Some (rules.cleared c)) well) well (slice_get story.nodes n) refl
act_well story (Resends n) well =
    own_well story n (λ boot c. record story { posted = story.posted ++ map (sent_by n) (rules.resent c) })
    (λ seat boot c there. node_well story (record story { posted = story.posted ++ map (sent_by n) (rules.resent c) }) n seat (rules.resent c) there (resent_built c) refl refl well) well
    (slice_get story.nodes n) refl
act_well story (Crashes who) well = crashed_well story who well
act_well story (StartsNode n boot) well = actor_well story n boot (Some (coord.started n boot)) well
act_well story (StartsMemory m found) well = site_well story m found (slice_get story.sites m) well

told_well : (story : Story) (acts : List Act) → IsWell story → IsWell (told story acts)
told_well story [] well = well
told_well story (act ∷ acts) well = told_well (after_act story act) acts (act_well story act well)

pub nodes_send_to_memories : NodesSendToMemories
nodes_send_to_memories size story p was in_ =
    let well : IsWell (told (fresh_story was.images was.boots) was.acts) = told_well (fresh_story was.images was.boots) was.acts (λ q none. absurd none) in
    subst (λ (s : Story). In p s.posted → IsSentWell (length s.nodes) p.from p.to p.message) (sym was.is) (well p) in_
