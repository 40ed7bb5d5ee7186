-- A coordinator of minitransactions: it runs one at a time.
use Rattle.std.specs.Prelude.{ℕ, ◌+◌, ◌-◌, nat_le, ◌==◌, Bool, true, false, not, cond, ◌&&◌, List, [], ◌∷◌, ◌++◌, map, filter, drop, length, Option, Some, None}
use Rattle.tx_rules.specs.Mini.{has_several, Setting, nodes_of}
use Rattle.tx_rules.specs.Decision.{Reason}
use Rattle.tx_rules.specs.World.{Message, Prepare, DecideCommit, DecideAbort, Forgotten}
use Rattle.tx_rules.specs.Lists.{is_in, all_in}

-- the identifier that runs, with the Granted votes that were counted: whose, and the bytes of each read item
pub record Running : Type 0 where
  pub id : ℕ
  pub votes : List (ℕ × List (List ℕ))

-- a decided identifier, with the memory nodes that have sent `done`
pub record Finishing : Type 0 where
  pub id : ℕ
  pub commits : Bool
  pub done : List ℕ

-- the least identifier that may begin next, which only rises; the running one; and those that are finishing, oldest first
pub record Coordinator : Type 0 where
  pub next : ℕ
  pub running : Option Running
  pub finishing : List Finishing

-- how a minitransaction ends: committed with the counted votes, or refused by a memory node, and why
pub data Outcome : Type 0 where
  Committed : ℕ → List (ℕ × List (List ℕ)) → Outcome
  Failed : ℕ → ℕ → Reason → Outcome

-- what a coordinator does: its state then, what it posts in this order, and what ends
pub record Act : Type 0 where
  pub now : Coordinator
  pub posts : List Message
  pub ends : List Outcome

-- nothing but this state
abbrev pub stays : Coordinator → Act
stays c = record { now = c; posts = []; ends = [] }

-- the message of a decision
abbrev pub decide : Bool → ℕ → Message
decide true t = DecideCommit t
decide false t = DecideAbort t

-- the last n elements of a list
abbrev pub newest : {A : Type 0} → ℕ → List A → List A
newest n xs = drop (length xs - n) xs

-- the running identifier ends: with several participants it is decided and finishing, of which 32 are kept
abbrev pub ended : Setting → Coordinator → ℕ → Bool → Outcome → Act
ended s c t commits outcome =
    cond (has_several (nodes_of s t))
    (record {
      now = record c { running = None; finishing = newest 32 (c.finishing ++ record { id = t; commits = commits; done = [] } ∷ []) };
      posts = decide commits t ∷ [];
      ends = outcome ∷ [];
    })
    (record { now = record c { running = None }; posts = []; ends = outcome ∷ [] })

-- a Granted vote is counted: with those of all participants the outcome is committed
abbrev pub counted : Setting → Coordinator → Running → ℕ × List (List ℕ) → Act
counted s c r vote =
    cond (all_in (nodes_of s r.id) (map (λ v. v.0) (vote ∷ r.votes)))
    (ended s c r.id true (Committed r.id (vote ∷ r.votes)))
    (record { now = record c { running = Some (record r { votes = vote ∷ r.votes }) }; posts = []; ends = [] })

-- a vote is taken where it names the running identifier and is the first of this participant
abbrev pub takes : Setting → Running → ℕ → ℕ → Bool
takes s r m t = (r.id == t) && (is_in m (nodes_of s r.id) && not (is_in m (map (λ v. v.0) r.votes)))

-- a Granted vote is heard
abbrev pub hear_granted : Setting → Coordinator → ℕ → ℕ → List (List ℕ) → Option Running → Act
hear_granted s c m t bytes None = stays c
hear_granted s c m t bytes (Some r) = cond (takes s r m t) (counted s c r (m, bytes)) (stays c)

-- another vote is heard: the outcome is that vote
abbrev pub hear_refused : Setting → Coordinator → ℕ → ℕ → Reason → Option Running → Act
hear_refused s c m t why None = stays c
hear_refused s c m t why (Some r) = cond (takes s r m t) (ended s c r.id false (Failed r.id m why)) (stays c)

-- `done` of a memory node is noted, and where all participants have sent it the identifier is forgotten everywhere
abbrev pub noted : ℕ → ℕ → Finishing → Finishing
noted m t f = cond (f.id == t) (record f { done = m ∷ f.done }) f

-- whether all participants of a finishing identifier have sent `done`
abbrev pub is_done : Setting → Finishing → Bool
is_done s f = all_in (nodes_of s f.id) f.done

-- `done` is heard: it is noted, and an identifier that is done is forgotten everywhere and no longer finishing
abbrev pub hear_done : Setting → Coordinator → ℕ → ℕ → Act
hear_done s c m t =
    record {
      now = record c { finishing = filter (λ f. not (is_done s f)) (map (noted m t) c.finishing) };
      posts = map (λ f. Forgotten f.id) (filter (is_done s) (map (noted m t) c.finishing));
      ends = [];
    }

-- whether an identifier may begin: nothing runs, and it is at the least that may begin or above
abbrev pub may_begin : Coordinator → ℕ → Option Running → Bool
may_begin c t None = nat_le c.next t
may_begin c t (Some r) = false

-- an identifier begins
abbrev pub begin : Coordinator → ℕ → Act
begin c t = record { now = record c { next = t + 1; running = Some (record { id = t; votes = [] }) }; posts = Prepare t ∷ []; ends = [] }

-- the running minitransaction is given up: its outcome is unknown
abbrev pub give_up : Coordinator → Act
give_up c = stays (record c { running = None })

-- `prepare` is posted again, and then each decision
abbrev pub prepares : Option Running → List Message
prepares None = []
prepares (Some r) = Prepare r.id ∷ []

-- what a coordinator posts again: the `prepare` of the running identifier, and each decision, oldest first, which is
-- the ascending order, since a coordinator begins ascending identifiers
abbrev pub resend : Coordinator → Act
resend c = record (stays c) { posts = prepares c.running ++ map (λ f. decide f.commits f.id) c.finishing }

-- a new boot: all but its number is lost, and no identifier of an earlier one begins again
abbrev pub new_boot : Coordinator → Act
new_boot c = stays (record { next = c.next; running = None; finishing = [] })
