-- What a coordinator does at each call: its state then, and what it posts, in this order.
use Rattle.std.specs.Prelude.{ℕ, ◌+◌, ◌-◌, ◌==◌, ◌&&◌, nat_lt, nat_le, Bool, true, false, not, List, [], ◌∷◌, ◌++◌, map, filter, drop, length, if◌then◌else◌}
use Rattle.std.specs.List.{list_any, flat_map}
use Rattle.mini_tx.specs.declared.item.Item.{Item}
use Rattle.mini_tx.specs.declared.item.Item.TheVariants.{Compare, Read, Write}
use Rattle.mini_tx.specs.declared.message.Message.{Message}
use Rattle.mini_tx.specs.declared.message.Message.TheVariants as message
use Rattle.mini_tx.specs.declared.placed_item.PlacedItem.{PlacedItem}
use Rattle.mini_tx.specs.declared.tx_id.TxId.{TxId}
use Rattle.mini_tx.specs.declared.vote.Vote.{Vote}
use Rattle.mini_tx.specs.declared.vote.Vote.TheVariants as vote
use Rattle.mini_tx.specs.Minitransactions.{memory_of}
use Rattle.mini_tx.specs.Order.{is_same}
use Rattle.tx_coord.specs.declared.outcome.Outcome.{Outcome}
use Rattle.tx_coord.specs.declared.outcome.Outcome.TheVariants.{Committed, Refused}
use Rattle.tx_coord.specs.declared.outgoing.Outgoing.{Outgoing}
use Rattle.tx_coord.specs.declared.finishing.Finishing.{Finishing}
use Rattle.tx_coord.specs.declared.progress.Progress.{Progress}
use Rattle.tx_coord.specs.declared.progress.Progress.TheVariants.{Waits, Ends}
use Rattle.tx_coord.specs.declared.running.Running.{Running}
use Rattle.tx_coord.specs.State.{Phase, Free, Runs, Ended, State}
use Rattle.tx_coord.specs.Votes.{Granted}

-- what a call makes
pub record Step : Type 0 where
  pub now : State
  pub posts : List Outgoing

-- this state, and nothing posted
abbrev pub quiet : State → Step
quiet c = record { now = c; posts = [] }

-- ---- participants and their items

-- a number in its place among ascending ones, once
abbrev pub placed_in : ℕ → List ℕ → List ℕ
placed_in n [] = n ∷ []
placed_in n (m ∷ ms) = if nat_lt m n then m ∷ placed_in n ms else if m == n then m ∷ ms else n ∷ (m ∷ ms)

-- the memory nodes of these items, ascending, each once
abbrev pub participants_of : List Item → List ℕ
participants_of [] = []
participants_of (i ∷ items) = placed_in (memory_of i) (participants_of items)

abbrev pub has_several : List ℕ → Bool
has_several participants = nat_le 2 (length participants)

abbrev pub is_in : ℕ → List ℕ → Bool
is_in m ms = list_any (λ n. n == m) ms

-- the items of a memory node with their places, where the first of all has this one
abbrev pub placed_from : ℕ → ℕ → List Item → List PlacedItem
placed_from m place [] = []
placed_from m place (i ∷ items) =
    if memory_of i == m then record { place = place; item = i } ∷ placed_from m (place + 1) items else placed_from m (place + 1) items

abbrev pub placed_for : List Item → ℕ → List PlacedItem
placed_for items m = placed_from m 0 items

-- ---- whether a vote fits its participant

abbrev pub is_compare : Item → Bool
is_compare (Compare memory at bytes) = true
is_compare (Read memory at n) = false
is_compare (Write memory at bytes) = false

-- the length of a read item, before others
abbrev pub length_before : Item → List ℕ → List ℕ
length_before (Compare memory at bytes) others = others
length_before (Read memory at n) others = n ∷ others
length_before (Write memory at bytes) others = others

-- the lengths of the read items, in order
abbrev pub read_lengths : List PlacedItem → List ℕ
read_lengths [] = []
read_lengths (p ∷ items) = length_before p.item (read_lengths items)

-- as many reads as lengths, and each of its length
abbrev pub have_lengths : List ℕ → List (List ℕ) → Bool
have_lengths [] [] = true
have_lengths [] (bytes ∷ reads) = false
have_lengths (n ∷ lengths) [] = false
have_lengths (n ∷ lengths) (bytes ∷ reads) = (length bytes == n) && have_lengths lengths reads

-- a compare item of this place
abbrev pub compares_at : ℕ → PlacedItem → Bool
compares_at place p = (p.place == place) && is_compare p.item

-- a Granted vote has the bytes of each read item of the participant, and a Mismatch names the place of a compare item of
-- its; the others always fit
abbrev pub fits : List PlacedItem → Vote → Bool
fits items (vote.Granted reads) = have_lengths (read_lengths items) reads
fits items (vote.Mismatch place kept) = list_any (compares_at place) items
fits items (vote.Locked holder) = true
fits items (vote.Forced floor) = true
fits items (vote.Held cut) = true

-- ---- the reads of a committed minitransaction

abbrev pub first_read : Granted → List ℕ
first_read g = go g.reads
  where
    go : List (List ℕ) → List ℕ
    go [] = []
    go (bytes ∷ reads) = bytes

abbrev pub without_first : Granted → Granted
without_first g = record g { reads = drop 1 g.reads }

-- the first read that is left of a memory node
abbrev pub next_read : ℕ → List Granted → List ℕ
next_read m [] = []
next_read m (g ∷ grants) = if g.memory == m then first_read g else next_read m grants

-- and what is left without it
abbrev pub less_read : ℕ → List Granted → List Granted
less_read m [] = []
less_read m (g ∷ grants) = if g.memory == m then without_first g ∷ grants else g ∷ less_read m grants

-- the bytes of the read items, in the order of the items: each takes the next read of its memory node's vote
abbrev pub gathered : List Granted → List Item → List (List ℕ)
gathered grants [] = []
gathered grants (Compare memory at bytes ∷ items) = gathered grants items
gathered grants (Read memory at n ∷ items) = next_read memory grants ∷ gathered (less_read memory grants) items
gathered grants (Write memory at bytes ∷ items) = gathered grants items

-- ---- begin

abbrev pub next_id : State → TxId
next_id c = record { coord = c.coord; boot = c.boot; seq = c.begun + 1 }

abbrev pub prepare : TxId → List Item → ℕ → Outgoing
prepare id items m = record { memory = m; message = message.Prepare id (participants_of items) (placed_for items m) }

-- a minitransaction of these items begins
abbrev pub begun : State → List Item → Step
begun c items =
    record {
      now = record c { begun = c.begun + 1; phase = Runs (record { id = next_id c; mini = items; grants = [] }) };
      posts = map (prepare (next_id c) items) (participants_of items);
    }

-- ---- votes

abbrev pub has_granted : List Granted → ℕ → Bool
has_granted grants m = list_any (λ (g : Granted). g.memory == m) grants

-- those whose vote is missing
abbrev pub missing : Running → List ℕ
missing r = filter (λ m. not (has_granted r.grants m)) (participants_of r.mini)

-- the first vote of a participant that names what runs, and fits
abbrev pub counts : Running → ℕ → TxId → Vote → Bool
counts r m id v = is_same r.id id && (is_in m (missing r) && fits (placed_for r.mini m) v)

abbrev pub with_grant : Running → ℕ → List (List ℕ) → Running
with_grant r m reads = record r { grants = r.grants ++ record { memory = m; reads = reads } ∷ [] }

abbrev pub ended_by : Running → Bool → Outcome → Progress
ended_by r commit outcome = Ends (record { id = r.id; mini = r.mini; commit = commit; outcome = outcome })

-- with no vote missing it is committed
abbrev pub granted : Running → Progress
granted r = if length (missing r) == 0 then ended_by r true (Committed (gathered r.grants r.mini)) else Waits r

-- what a vote that counts makes of what runs: the first that is not Granted is the outcome
abbrev pub counted : Running → ℕ → Vote → Progress
counted r m (vote.Granted reads) = granted (with_grant r m reads)
counted r m (vote.Mismatch place kept) = ended_by r false (Refused m (vote.Mismatch place kept))
counted r m (vote.Locked holder) = ended_by r false (Refused m (vote.Locked holder))
counted r m (vote.Forced floor) = ended_by r false (Refused m (vote.Forced floor))
counted r m (vote.Held cut) = ended_by r false (Refused m (vote.Held cut))

-- ---- decisions

abbrev pub decide : TxId → Bool → ℕ → Outgoing
decide id commit m = record { memory = m; message = message.Decide id commit }

-- where there are several participants, all are told
abbrev pub decisions : TxId → Bool → List ℕ → List Outgoing
decisions id commit participants = if has_several participants then map (decide id commit) participants else []

-- the last so many
abbrev pub newest : {A : Type 0} → ℕ → List A → List A
newest n xs = drop (length xs - n) xs

-- decided, with these participants
abbrev pub finishing_of : TxId → Bool → List ℕ → Finishing
finishing_of id commit participants = record { id = id; commit = commit; participants = participants; waits = participants }

-- and where there are several, it is finishing, of which the newest 32 are kept
abbrev pub with_decided : TxId → Bool → List ℕ → List Finishing → List Finishing
with_decided id commit participants finishing =
    if has_several participants then newest 32 (finishing ++ finishing_of id commit participants ∷ []) else finishing

abbrev pub after_vote : State → Progress → Step
after_vote c (Waits r) = quiet (record c { phase = Runs r })
after_vote c (Ends e) =
    record {
      now = record c { phase = Ended e.outcome; finishing = with_decided e.id e.commit (participants_of e.mini) c.finishing };
      posts = decisions e.id e.commit (participants_of e.mini);
    }

abbrev pub on_vote : State → ℕ → TxId → Vote → Phase → Step
on_vote c m id v Free = quiet c
on_vote c m id v (Runs r) = if counts r m id v then after_vote c (counted r m v) else quiet c
on_vote c m id v (Ended outcome) = quiet c

-- ---- done

-- a memory node is through with an identifier
abbrev pub noted : ℕ → TxId → Finishing → Finishing
noted m id f = if is_same f.id id then record f { waits = filter (λ n. not (n == m)) f.waits } else f

-- all of its participants are through
abbrev pub is_through : Finishing → Bool
is_through f = length f.waits == 0

abbrev pub forget_at : TxId → ℕ → Outgoing
forget_at id m = record { memory = m; message = message.Forget id }

abbrev pub forget : Finishing → List Outgoing
forget f = map (forget_at f.id) f.participants

-- what all are through with is forgotten everywhere, and no longer finishing
abbrev pub on_done : State → ℕ → TxId → Step
on_done c m id =
    record {
      now = record c { finishing = filter (λ f. not (is_through f)) (map (noted m id) c.finishing) };
      posts = flat_map forget (filter is_through (map (noted m id) c.finishing));
    }

-- ---- each call

-- a message of a memory node is heard; those that are for others are ignored
abbrev pub heard : State → ℕ → Message → Step
heard c m (message.Voted id v) = on_vote c m id v c.phase
heard c m (message.Done id) = on_done c m id
heard c m (message.Prepare id participants items) = quiet c
heard c m (message.Decide id commit) = quiet c
heard c m (message.Forget id) = quiet c
heard c m message.List = quiet c
heard c m (message.Kept ids cut) = quiet c
heard c m (message.Ask id) = quiet c
heard c m (message.Answer id ok) = quiet c
heard c m (message.Hold cut) = quiet c
heard c m (message.Held cut answer) = quiet c
heard c m (message.Release cut) = quiet c
heard c m (message.Drop cut) = quiet c
heard c m (message.ReadCut cut place) = quiet c
heard c m (message.Piece cut place bytes) = quiet c

abbrev pub prepares : Phase → List Outgoing
prepares Free = []
prepares (Runs r) = map (prepare r.id r.mini) (missing r)
prepares (Ended outcome) = []

abbrev pub decides : Finishing → List Outgoing
decides f = map (decide f.id f.commit) f.waits

-- what is posted again: `prepare` to those whose vote is missing, then each decision, oldest first, to those whose `done`
-- is missing
abbrev pub resent : State → List Outgoing
resent c = prepares c.phase ++ flat_map decides c.finishing

-- what runs is given up: its outcome is unknown
abbrev pub without_running : Phase → Phase
without_running Free = Free
without_running (Runs r) = Free
without_running (Ended outcome) = Ended outcome

abbrev pub given_up : State → State
given_up c = record c { phase = without_running c.phase }

-- the outcome was taken
abbrev pub without_outcome : Phase → Phase
without_outcome Free = Free
without_outcome (Runs r) = Runs r
without_outcome (Ended outcome) = Free

abbrev pub cleared : State → State
cleared c = record c { phase = without_outcome c.phase }
