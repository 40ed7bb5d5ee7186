-- All actors together: one input is handled by one actor.
use Rattle.std.specs.Prelude.{ℕ, ◌<◌, ◌==◌, Bool, true, false, cond, ◌&&◌, List, [], ◌∷◌, ◌++◌, map, length, Option, Some, None}
use Rattle.tx_rules.specs.Mini.{In, Memory, Setting, nodes_of}
use Rattle.tx_rules.specs.Decision.{Record, Grant, Refuse, Commit, Abort, Forget, Entry, At}
use Rattle.tx_rules.specs.World.{Message, Granted, Looked, Refused, Done, ListKept, World, opened, Event, Begins, Grants, Completes, Refuses, Commits, Aborts, Forgets, Posts, after, after_all}
use Rattle.tx_actors.specs.Node.{own, has_grant, view, Reaction, handle}
use Rattle.tx_actors.specs.Coordinator.{Coordinator, Outcome, Act, hear_granted, hear_refused, hear_done, may_begin, begin, give_up, resend, new_boot}
use Rattle.tx_actors.specs.Manager.{Work, Deed, learn, resend_manager}

-- ---- what a reaction of a memory node adds

-- whether all these memory nodes have granted the identifier
abbrev pub all_granted : List Entry → ℕ → List ℕ → Bool
all_granted log t [] = true
all_granted log t (m ∷ ms) = has_grant (own m log) t && all_granted log t ms

-- the event in which a record is appended: the grant of the last participant makes the point
abbrev pub event_of : Setting → World → ℕ → Record → Event
event_of s w m (Grant t) = cond (all_granted (At m (Grant t) ∷ w.log) t (nodes_of s t)) (Completes m t) (Grants m t)
event_of s w m (Refuse t why) = Refuses m t why
event_of s w m (Commit t) = Commits m t
event_of s w m (Abort t) = Aborts m t
event_of s w m (Forget t) = Forgets m t

-- the events in which a memory node appends records, oldest first
abbrev pub appending : Setting → World → ℕ → List Record → List Event
appending s w m [] = []
appending s w m (r ∷ rs) = event_of s w m r ∷ appending s (after s w (event_of s w m r)) m rs

-- the records first, and then the messages; a memory node that stops in between posts nothing
abbrev pub reacts : Setting → World → ℕ → Bool → Reaction → List Event
reacts s w m stops reaction = appending s w m reaction.appends ++ cond stops [] (map Posts reaction.posts)

-- ---- the whole

-- what was begun, logged and posted; each coordinator; what the manager is at work on; and how minitransactions
-- ended, newest first
pub record State : Type 0 where
  pub world : World
  pub coordinator : ℕ → Coordinator
  pub manager : List Work
  pub outcomes : List Outcome

-- messages are numbered in the order in which they were posted, from 0
abbrev pub numbered : List Message → ℕ → Option Message
numbered [] k = None
numbered (p ∷ ps) k = cond (length ps == k) (Some p) (numbered ps k)

-- what may happen to the actors, in any order and any number of times
pub data Input : Type 0 where
  -- the coordinator of an identifier begins it
  Begin : ℕ → Input
  -- a message is delivered to a memory node, which holds this cut or none
  ToNode : ℕ → ℕ → Option ℕ → Input
  -- the same, but the memory node stops when its records are durable; where it stops before that, nothing happens
  ToStoppingNode : ℕ → ℕ → Option ℕ → Input
  -- a vote or a `done` is delivered to the coordinator of its identifier
  ToCoordinator : ℕ → Input
  -- a message is delivered to the manager
  ToManager : ℕ → Input
  -- a coordinator gives its running minitransaction up; it posts again; it crashes and starts
  GiveUp : ℕ → Input
  Resend : ℕ → Input
  BootCoordinator : ℕ → Input
  -- a memory node crashes and starts: all that it needs is in its log
  BootNode : ℕ → Input
  -- the manager asks a memory node for what it keeps; it posts again; it crashes and starts
  Sweep : Input
  ResendManager : Input
  BootManager : Input

-- what an input makes happen, and the actors then
pub record Move : Type 0 where
  pub events : List Event
  pub coordinator : ℕ → Coordinator
  pub manager : List Work
  pub outcomes : List Outcome

-- nothing happens
abbrev pub idle : State → Move
idle st = record { events = []; coordinator = st.coordinator; manager = st.manager; outcomes = st.outcomes }

-- a memory node makes these events happen: it has no state beside its log
abbrev pub node_moves : State → List Event → Move
node_moves st events = record (idle st) { events = events }

-- the coordinators, one of which is as given
abbrev pub with_coordinator : ℕ → Coordinator → (ℕ → Coordinator) → ℕ → Coordinator
with_coordinator c now all d = cond (d == c) now (all d)

-- a coordinator acts, after these events
abbrev pub acts : State → ℕ → List Event → Act → Move
acts st c events act =
    record (idle st) { events = events ++ map Posts act.posts; coordinator = with_coordinator c act.now st.coordinator; outcomes = act.ends ++ st.outcomes }

-- the manager acts
abbrev pub works : State → Deed → Move
works st deed = record (idle st) { events = map Posts deed.posts; manager = deed.now }

-- a memory node handles a posted message by what it has, and may stop when its records are durable
abbrev pub to_node : Setting → State → ℕ → Option ℕ → Bool → Option Message → Move
to_node s st m held stops None = idle st
to_node s st m held stops (Some p) = node_moves st (reacts s st.world m stops (handle s m held (view st.world m) p))

-- the coordinator of the identifier that a vote or a `done` names hears it; it ignores all other messages
abbrev pub to_coordinator : Setting → State → Option Message → Move
to_coordinator s st (Some (Granted m t bytes)) =
    acts st (s.coord t) [] (hear_granted s (st.coordinator (s.coord t)) m t bytes (st.coordinator (s.coord t)).running)
to_coordinator s st (Some (Looked m t bytes)) =
    acts st (s.coord t) [] (hear_granted s (st.coordinator (s.coord t)) m t bytes (st.coordinator (s.coord t)).running)
to_coordinator s st (Some (Refused m t why)) =
    acts st (s.coord t) [] (hear_refused s (st.coordinator (s.coord t)) m t why (st.coordinator (s.coord t)).running)
to_coordinator s st (Some (Done m t)) = acts st (s.coord t) [] (hear_done s (st.coordinator (s.coord t)) m t)
to_coordinator s st message = idle st

-- the manager learns of a posted message
abbrev pub to_manager : Setting → State → Option Message → Move
to_manager s st None = idle st
to_manager s st (Some p) = works st (learn st.manager p)

-- a coordinator begins an identifier where it may
abbrev pub begins : Setting → State → ℕ → Coordinator → Move
begins s st t c = cond (may_begin c t c.running) (acts st (s.coord t) (Begins t ∷ []) (begin c t)) (idle st)

-- what each input makes happen
abbrev pub move : Setting → State → Input → Move
move s st (Begin t) = begins s st t (st.coordinator (s.coord t))
move s st (ToNode k m held) = to_node s st m held false (numbered st.world.posted k)
move s st (ToStoppingNode k m held) = to_node s st m held true (numbered st.world.posted k)
move s st (ToCoordinator k) = to_coordinator s st (numbered st.world.posted k)
move s st (ToManager k) = to_manager s st (numbered st.world.posted k)
move s st (GiveUp c) = acts st c [] (give_up (st.coordinator c))
move s st (Resend c) = acts st c [] (resend (st.coordinator c))
move s st (BootCoordinator c) = acts st c [] (new_boot (st.coordinator c))
move s st (BootNode m) = idle st
move s st Sweep = works st (record { now = st.manager; posts = ListKept ∷ [] })
move s st ResendManager = works st (record { now = st.manager; posts = resend_manager st.manager })
move s st BootManager = works st (record { now = []; posts = [] })

-- one input
abbrev pub step : Setting → State → Input → State
step s st input =
    let m = move s st input in
    record { world = after_all s st.world m.events; coordinator = m.coordinator; manager = m.manager; outcomes = m.outcomes }

-- a list of inputs, oldest first
abbrev pub steps : Setting → State → List Input → State
steps s st [] = st
steps s st (input ∷ inputs) = steps s (step s st input) inputs

-- the events that they make
abbrev pub events_of : Setting → State → List Input → List Event
events_of s st [] = []
events_of s st (input ∷ inputs) = (move s st input).events ++ events_of s (step s st input) inputs

-- the state at an opening: these logs and images were found, and each coordinator begins at the identifier that is given
abbrev pub opened_at : Setting → List Entry → Memory → (ℕ → ℕ) → State
opened_at s log image next =
    record { world = opened s log image; coordinator = λ c. record { next = next c; running = None; finishing = [] }; manager = []; outcomes = [] }

-- it is above all that is known of the coordinator: a new boot number is above all
abbrev pub IsAboveKnown : Setting → (ℕ → ℕ) → Type 0
IsAboveKnown s next = (t : ℕ) → In t (s.found ++ s.old) → t < next (s.coord t)
