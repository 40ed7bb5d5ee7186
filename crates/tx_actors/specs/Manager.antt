-- The recovery coordinator: it finishes what coordinators left behind.
use Rattle.std.specs.Prelude.{ℕ, nat_lt, ◌==◌, Bool, true, false, not, cond, ◌&&◌, List, [], ◌∷◌, ◌++◌, map, filter, length, Option, Some, None, is_none, is_some}
use Rattle.tx_rules.specs.World.{Message, DecideCommit, DecideAbort, Forgotten, Kept, Ask, AnswerOk, AnswerAbort, Done}
use Rattle.tx_rules.specs.Lists.{is_in, all_in}
use Rattle.tx_actors.specs.Coordinator.{decide}

-- an identifier at work: its participants, as `kept` names them, the memory nodes that answered ok, the decision, and
-- those that sent `done` after it
pub record Work : Type 0 where
  pub id : ℕ
  pub nodes : List ℕ
  pub oks : List ℕ
  pub decision : Option Bool
  pub done : List ℕ

-- what the manager does: what it is at work on then, and what it posts in this order
pub record Deed : Type 0 where
  pub now : List Work
  pub posts : List Message

-- a named identifier is taken up where it is not at work and fewer than 64 are
abbrev pub takes_up : List Work → ℕ → Bool
takes_up work t = not (is_in t (map (λ x. x.id) work)) && nat_lt (length work) 64

-- an identifier that is taken up: nothing is known of it yet
abbrev pub begun_work : ℕ × List ℕ → Work
begun_work x = record { id = x.0; nodes = x.1; oks = []; decision = None; done = [] }

-- `kept` names identifiers: each that is taken up is asked about
abbrev pub learn_kept : List Work → List (ℕ × List ℕ) → Deed
learn_kept work [] = record { now = work; posts = [] }
learn_kept work (x ∷ xs) =
    let more = learn_kept (work ++ begun_work x ∷ []) xs in
    cond (takes_up work x.0) (record { now = more.now; posts = Ask x.0 ∷ more.posts }) (learn_kept work xs)

-- `answer ok` is noted before the decision, which is commit where all participants have answered so
abbrev pub ok_noted : ℕ → ℕ → Work → Work
ok_noted m t x = cond ((x.id == t) && is_none x.decision) (record x { oks = m ∷ x.oks }) x

-- whether an undecided identifier has `answer ok` of all participants
abbrev pub is_agreed : Work → Bool
is_agreed x = is_none x.decision && all_in x.nodes x.oks

-- the decision is made where the test holds
abbrev pub decided_as : Bool → (Work → Bool) → Work → Work
decided_as commits test x = cond (test x) (record x { decision = Some commits }) x

-- `answer ok`: it is noted, and an identifier that all participants agree to is committed
abbrev pub learn_ok : List Work → ℕ → ℕ → Deed
learn_ok work m t =
    record {
      now = map (decided_as true is_agreed) (map (ok_noted m t) work);
      posts = map (λ x. DecideCommit x.id) (filter is_agreed (map (ok_noted m t) work));
    }

-- the first `answer abort` of a participant decides abort
abbrev pub is_denied : ℕ → ℕ → Work → Bool
is_denied m t x = (x.id == t) && (is_none x.decision && is_in m x.nodes)

-- `answer abort`: an undecided identifier is aborted
abbrev pub learn_abort : List Work → ℕ → ℕ → Deed
learn_abort work m t = record { now = map (decided_as false (is_denied m t)) work; posts = map (λ x. DecideAbort x.id) (filter (is_denied m t) work) }

-- `done` is noted after the decision, and where all participants have sent it the identifier is forgotten everywhere
abbrev pub done_noted : ℕ → ℕ → Work → Work
done_noted m t x = cond ((x.id == t) && is_some x.decision) (record x { done = m ∷ x.done }) x

-- whether a decided identifier has `done` of all participants
abbrev pub is_through : Work → Bool
is_through x = is_some x.decision && all_in x.nodes x.done

-- `done`: it is noted, and an identifier that all participants are through with is forgotten everywhere
abbrev pub learn_done : List Work → ℕ → ℕ → Deed
learn_done work m t =
    record {
      now = filter (λ x. not (is_through x)) (map (done_noted m t) work);
      posts = map (λ x. Forgotten x.id) (filter is_through (map (done_noted m t) work));
    }

-- each message
abbrev pub learn : List Work → Message → Deed
learn work (Kept m xs) = learn_kept work xs
learn work (AnswerOk m t) = learn_ok work m t
learn work (AnswerAbort m t) = learn_abort work m t
learn work (Done m t) = learn_done work m t
learn work message = record { now = work; posts = [] }

-- `ask` again before the decision, and the decision again after it
abbrev pub again : Work → Option Bool → Message
again x None = Ask x.id
again x (Some commits) = decide commits x.id

-- an identifier at work in its place among ascending ones
abbrev pub placed_in : Work → List Work → List Work
placed_in x [] = x ∷ []
placed_in x (y ∷ work) = cond (nat_lt y.id x.id) (y ∷ placed_in x work) (x ∷ y ∷ work)

abbrev pub ascending : List Work → List Work
ascending [] = []
ascending (x ∷ work) = placed_in x (ascending work)

-- what the manager posts again, by ascending identifiers
abbrev pub resend_manager : List Work → List Message
resend_manager work = map (λ x. again x x.decision) (ascending work)
