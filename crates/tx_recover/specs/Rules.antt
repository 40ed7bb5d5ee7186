-- What the recoverer does at each call: what is at work then, and what it posts, in this order.
use Rattle.std.specs.Prelude.{ℕ, ◌+◌, ◌==◌, ◌&&◌, nat_lt, Bool, true, false, not, List, [], ◌∷◌, ◌++◌, map, filter, length, Option, Some, None, is_none, is_some, if◌then◌else◌}
use Rattle.std.specs.List.{list_any, flat_map}
use Rattle.mini_tx.specs.declared.cut_id.CutId.{CutId}
use Rattle.mini_tx.specs.declared.kept_id.KeptId.{KeptId}
use Rattle.mini_tx.specs.declared.message.Message.{Message}
use Rattle.mini_tx.specs.declared.message.Message.TheVariants as message
use Rattle.mini_tx.specs.declared.tx_id.TxId.{TxId}
use Rattle.mini_tx.specs.Order.{precedes, is_same, is_same_cut}
use Rattle.tx_coord.specs.declared.outgoing.Outgoing.{Outgoing}
use Rattle.tx_recover.specs.declared.notice.Notice.{Notice}
use Rattle.tx_recover.specs.declared.notice.Notice.TheVariants.{Ask, Decide, Forget}
use Rattle.tx_recover.specs.declared.work.Work.{Work}

-- what a call makes
pub record Step : Type 0 where
  pub now : List Work
  pub posts : List Outgoing

-- this is at work, and nothing posted
abbrev pub quiet : List Work → Step
quiet works = record { now = works; posts = [] }

-- ---- messages

abbrev pub message_of : Notice → Message
message_of (Ask id) = message.Ask id
message_of (Decide id commit) = message.Decide id commit
message_of (Forget id) = message.Forget id

abbrev pub told : Notice → ℕ → Outgoing
told notice m = record { memory = m; message = message_of notice }

-- a sweep
abbrev pub list : ℕ → Outgoing
list m = record { memory = m; message = message.List }

-- ---- a memory node tells which records it keeps

abbrev pub is_at_work : TxId → List Work → Bool
is_at_work id works = list_any (λ (w : Work). is_same w.id id) works

-- a named identifier is taken up where it is not at work, and fewer than 64 are
abbrev pub takes_up : List Work → TxId → Bool
takes_up works id = not (is_at_work id works) && nat_lt (length works) 64

-- nothing is known of it yet
abbrev pub taken_up : KeptId → Work
taken_up k = record { id = k.id; participants = k.participants; waits = k.participants; decision = None }

-- in its place among ascending ones
abbrev pub placed_in : Work → List Work → List Work
placed_in w [] = w ∷ []
placed_in w (other ∷ works) = if precedes other.id w.id then other ∷ placed_in w works else w ∷ (other ∷ works)

-- how many of the first come before an identifier
abbrev pub place_in : TxId → List Work → ℕ
place_in id [] = 0
place_in id (w ∷ works) = if precedes w.id id then 1 + place_in id works else 0

-- all its participants are asked
abbrev pub with_named : Step → KeptId → Step
with_named s k =
    if takes_up s.now k.id then record { now = placed_in (taken_up k) s.now; posts = s.posts ++ map (told (Ask k.id)) k.participants } else s

-- each that is named, in order
abbrev pub with_all : Step → List KeptId → Step
with_all s [] = s
with_all s (k ∷ ids) = with_all (with_named s k) ids

abbrev pub is_running : CutId → Option CutId → Bool
is_running cut None = false
is_running cut (Some running) = is_same_cut cut running

-- a cut that it holds and that is not the running one is dropped
abbrev pub drops : ℕ → Option CutId → Option CutId → List Outgoing
drops m None running = []
drops m (Some cut) running = if is_running cut running then [] else record { memory = m; message = message.Drop cut } ∷ []

abbrev pub on_kept : List Work → ℕ → List KeptId → Option CutId → Option CutId → Step
on_kept works m ids cut running =
    let s = with_all (quiet works) ids in
    record { now = s.now; posts = s.posts ++ drops m cut running }

-- ---- a memory node answers whether it voted for an identifier

-- one identifier after a message, and what is posted
pub record Turn : Type 0 where
  pub now : Work
  pub posts : List Outgoing

abbrev pub stays : Work → Turn
stays w = record { now = w; posts = [] }

abbrev pub is_among : ℕ → List ℕ → Bool
is_among m ms = list_any (λ n. n == m) ms

abbrev pub without : ℕ → List ℕ → List ℕ
without m ms = filter (λ n. not (n == m)) ms

-- all participants are told the decision, and `done` of each is missing
abbrev pub decided : Bool → Work → Turn
decided commit w = record { now = record w { waits = w.participants; decision = Some commit }; posts = map (told (Decide w.id commit)) w.participants }

-- it did: with no answer missing it is committed
abbrev pub agreed : ℕ → Work → Turn
agreed m w = let heard = record w { waits = without m w.waits } in if length heard.waits == 0 then decided true heard else stays heard

-- it did not: where it is a participant it is aborted
abbrev pub denied : ℕ → Work → Turn
denied m w = if is_among m w.participants then decided false w else stays w

-- it is this identifier, and not decided
abbrev pub awaits_answer : TxId → Work → Bool
awaits_answer id w = is_same w.id id && is_none w.decision

abbrev pub answered : ℕ → TxId → Bool → Work → Turn
answered m id ok w = if awaits_answer id w then (if ok then agreed m w else denied m w) else stays w

abbrev pub on_answer : List Work → ℕ → TxId → Bool → Step
on_answer works m id ok =
    record { now = map (λ (w : Work). (answered m id ok w).now) works; posts = flat_map (λ (w : Work). (answered m id ok w).posts) works }

-- ---- a memory node is through with an identifier

-- it is this identifier, and decided
abbrev pub awaits_done : TxId → Work → Bool
awaits_done id w = is_same w.id id && is_some w.decision

abbrev pub noted : ℕ → TxId → Work → Work
noted m id w = if awaits_done id w then record w { waits = without m w.waits } else w

abbrev pub is_through : Work → Bool
is_through w = is_some w.decision && (length w.waits == 0)

abbrev pub forgets : Work → List Outgoing
forgets w = map (told (Forget w.id)) w.participants

-- what all participants are through with is forgotten everywhere, and at work no longer
abbrev pub on_done : List Work → ℕ → TxId → Step
on_done works m id =
    record {
      now = filter (λ (w : Work). not (is_through w)) (map (noted m id) works);
      posts = flat_map forgets (filter is_through (map (noted m id) works));
    }

-- ---- each call

-- a message of a memory node is heard; those that are for others are ignored
abbrev pub heard : List Work → ℕ → Message → Option CutId → Step
heard works m (message.Kept ids cut) running = on_kept works m ids cut running
heard works m (message.Answer id ok) running = on_answer works m id ok
heard works m (message.Done id) running = on_done works m id
heard works m (message.Prepare id participants items) running = quiet works
heard works m (message.Voted id v) running = quiet works
heard works m (message.Decide id commit) running = quiet works
heard works m (message.Forget id) running = quiet works
heard works m message.List running = quiet works
heard works m (message.Ask id) running = quiet works
heard works m (message.Hold cut) running = quiet works
heard works m (message.Held cut answer) running = quiet works
heard works m (message.Release cut) running = quiet works
heard works m (message.Drop cut) running = quiet works
heard works m (message.ReadCut cut place) running = quiet works
heard works m (message.Piece cut place bytes) running = quiet works

-- what those that are waited for were told last
abbrev pub last_told : TxId → Option Bool → Notice
last_told id None = Ask id
last_told id (Some commit) = Decide id commit

abbrev pub again : Work → List Outgoing
again w = map (told (last_told w.id w.decision)) w.waits

-- what is posted again, by ascending identifiers
abbrev pub resent : List Work → List Outgoing
resent works = flat_map again works
