-- What coordinators, the manager and memory nodes do beside the safe rules, by computing.
use Rattle.std.specs.Prelude.{◌≡◌, ℕ, zero, suc, ◌+◌, ◌*◌, true, false, List, [], ◌∷◌, map, length, Some, None}
use Rattle.tx_rules.specs.Decision.{Record, Grant, Commit, Forget, At}
use Rattle.tx_rules.specs.World.{Prepare, DecideCommit, Forgotten, Ask, Done, AnswerAbort, Kept}
use Rattle.tx_actors.specs.Node.{own, kept_in}
use Rattle.tx_actors.specs.Coordinator.{Finishing, Coordinator, Committed, ended}
use Rattle.tx_actors.specs.Manager.{Work, Deed, learn, resend_manager}
use Rattle.tx_actors.specs.Machine.{State, Input, Begin, ToNode, ToCoordinator, ToManager, GiveUp, Resend, BootCoordinator, BootManager, Sweep, ResendManager, numbered, steps, opened_at}
use Rattle.tx_actors.specs.Sample.{sample_setting}

-- so many numbers from one on
abbrev pub counted_from : ℕ → ℕ → List ℕ
counted_from first zero = []
counted_from first (suc n) = first ∷ counted_from (first + 1) n

-- from a formatted cluster, in which each identifier writes a byte at memory nodes 0 and 1
abbrev pub from_fresh : List Input → State
from_fresh inputs = steps sample_setting (opened_at sample_setting [] (λ m a. 0) (λ c. 100 * c)) inputs

-- ---- a coordinator finishes what it decided

-- identifier 1 is granted by both, one of the votes is heard twice, and it is decided
abbrev pub decided_inputs : List Input
decided_inputs = Begin 1 ∷ ToNode 0 0 None ∷ ToNode 0 1 None ∷ ToCoordinator 1 ∷ ToCoordinator 1 ∷ ToCoordinator 2 ∷ []

abbrev pub decided_state : State
decided_state = from_fresh decided_inputs

-- both apply it, and `done` of memory node 0 is heard twice
abbrev pub half_done_state : State
half_done_state = steps sample_setting decided_state (ToNode 3 0 None ∷ ToNode 3 1 None ∷ ToCoordinator 4 ∷ ToCoordinator 4 ∷ [])

-- and then that of memory node 1; the records are forgotten
abbrev pub finished_state : State
finished_state = steps sample_setting half_done_state (ToCoordinator 5 ∷ ToNode 6 0 None ∷ ToNode 6 1 None ∷ [])

-- with both votes commit is posted and the identifier is finishing; `forget` is posted with both `done` and not before;
-- and then nothing is finishing or kept
pub record CoordinatorFinishes : Type 0 where
  pub decided : numbered decided_state.world.posted 3 ≡ Some (DecideCommit 1)
  pub outcome : decided_state.outcomes ≡ Committed 1 ((1, []) ∷ (0, []) ∷ []) ∷ []
  pub finishing : map (λ (f : Finishing). f.id) (decided_state.coordinator 0).finishing ≡ 1 ∷ []
  pub waits : length half_done_state.world.posted ≡ 6
  pub forgets : numbered finished_state.world.posted 6 ≡ Some (Forgotten 1)
  pub finished : (finished_state.coordinator 0).finishing ≡ []
  pub log : finished_state.world.log
      ≡ At 1 (Forget 1) ∷ At 0 (Forget 1) ∷ At 1 (Commit 1) ∷ At 0 (Commit 1) ∷ At 1 (Grant 1) ∷ At 0 (Grant 1) ∷ []
  pub kept : kept_in sample_setting 0 (own 0 finished_state.world.log) ≡ []

-- ---- a coordinator posts again, and gives up

-- identifier 1 has one vote: its `prepare` is posted again; it is given up; the vote comes late; and identifier 2 begins
abbrev pub given_up_state : State
given_up_state = from_fresh (Begin 1 ∷ ToNode 0 0 None ∷ Resend 0 ∷ GiveUp 0 ∷ ToCoordinator 1 ∷ Resend 0 ∷ Begin 2 ∷ [])

-- a decision is posted again, and lost where the coordinator crashes
abbrev pub resent_state : State
resent_state = steps sample_setting decided_state (Resend 0 ∷ [])

abbrev pub booted_state : State
booted_state = steps sample_setting decided_state (BootCoordinator 0 ∷ Resend 0 ∷ [])

-- a number that was begun does not begin again, after giving up and after a crash
abbrev pub begun_once_state : State
begun_once_state = from_fresh (Begin 1 ∷ GiveUp 0 ∷ Begin 1 ∷ BootCoordinator 0 ∷ Begin 1 ∷ [])

-- what was given up has no outcome and is not posted again
pub record CoordinatorRepeats : Type 0 where
  pub prepare : numbered given_up_state.world.posted 2 ≡ Some (Prepare 1)
  pub next : numbered given_up_state.world.posted 3 ≡ Some (Prepare 2)
  pub posted : length given_up_state.world.posted ≡ 4
  pub running : (given_up_state.coordinator 0).running ≡ Some (record { id = 2; votes = [] })
  pub outcomes : given_up_state.outcomes ≡ []
  pub decision : numbered resent_state.world.posted 4 ≡ Some (DecideCommit 1)
  pub lost : length booted_state.world.posted ≡ 4
  pub once : length begun_once_state.world.posted ≡ 1

-- ---- the manager

-- both have granted identifier 1, its coordinator has crashed, and a sweep of memory node 0 finds it; `kept` is heard
-- twice
abbrev pub asked_state : State
asked_state =
    from_fresh (Begin 1 ∷ ToNode 0 0 None ∷ ToNode 0 1 None ∷ BootCoordinator 0 ∷ Sweep ∷ ToNode 3 0 None ∷ ToManager 4 ∷ ToManager 4 ∷ [])

-- memory node 0 answers; the manager posts again; then memory node 1 does; and it posts again
abbrev pub agreed_state : State
agreed_state = steps sample_setting asked_state (ToNode 5 0 None ∷ ToManager 6 ∷ ResendManager ∷ ToNode 5 1 None ∷ ToManager 8 ∷ ResendManager ∷ [])

-- one identifier at work: with an answer of memory node 0, and decided
abbrev pub half_agreed : Work
half_agreed = record { id = 1; nodes = 0 ∷ 1 ∷ []; oks = 0 ∷ []; decision = None; done = [] }

abbrev pub committed_work : Work
committed_work = record { id = 1; nodes = 0 ∷ 1 ∷ []; oks = 1 ∷ 0 ∷ []; decision = Some true; done = [] }

abbrev pub nothing_learnt : Work → Deed
nothing_learnt x = record { now = x ∷ []; posts = [] }

-- it takes the participants from `kept`, takes an identifier up once, decides with all answers, and posts again what it
-- last posted; a `done` before its decision does not count; a late `answer abort` changes no decision; `forget` needs
-- `done` of both; it posts again by ascending identifiers; and a crash leaves it without work
pub record ManagerFinishes : Type 0 where
  pub kept : numbered asked_state.world.posted 4 ≡ Some (Kept 0 ((1, 0 ∷ 1 ∷ []) ∷ []))
  pub once : length asked_state.world.posted ≡ 6
  pub asks : numbered agreed_state.world.posted 7 ≡ Some (Ask 1)
  pub decides : numbered agreed_state.world.posted 9 ≡ Some (DecideCommit 1)
  pub again : numbered agreed_state.world.posted 10 ≡ Some (DecideCommit 1)
  pub early_done : learn (half_agreed ∷ []) (Done 0 1) ≡ nothing_learnt half_agreed
  pub late_abort : learn (committed_work ∷ []) (AnswerAbort 0 1) ≡ nothing_learnt committed_work
  pub abort : (learn (half_agreed ∷ []) (AnswerAbort 1 1)).now ≡ record half_agreed { decision = Some false } ∷ []
  pub stranger : learn (half_agreed ∷ []) (AnswerAbort 2 1) ≡ nothing_learnt half_agreed
  pub one_done : (learn (committed_work ∷ []) (Done 0 1)).posts ≡ []
  pub both_done : learn (record committed_work { done = 0 ∷ [] } ∷ []) (Done 1 1) ≡ record { now = []; posts = Forgotten 1 ∷ [] }
  pub ascending : resend_manager (record half_agreed { id = 7 } ∷ committed_work ∷ []) ≡ DecideCommit 1 ∷ Ask 7 ∷ []
  pub crash : (steps sample_setting agreed_state (BootManager ∷ [])).manager ≡ []

-- ---- limits

-- a coordinator with 32 finishing identifiers, 0 to 31
abbrev pub full_coordinator : Coordinator
full_coordinator = record { next = 33; running = None; finishing = map (λ (t : ℕ). let f : Finishing = record { id = t; commits = true; done = [] } in f) (counted_from 0 32) }

-- so many identifiers at work, from 0 on
abbrev pub works_on : ℕ → List Work
works_on n = map (λ (t : ℕ). let x : Work = record { id = t; nodes = 0 ∷ 1 ∷ []; oks = []; decision = None; done = [] } in x) (counted_from 0 n)

-- a memory node that has granted identifiers 0 to 64, in this order
abbrev pub many_records : ℕ → List Record
many_records zero = []
many_records (suc n) = Grant n ∷ many_records n

-- the 33rd finishing identifier pushes out the oldest; the 64th is taken up and the 65th is not; and of 65 kept
-- identifiers the least 64 are named, ascending
pub record LimitsAreKept : Type 0 where
  pub finishing : map (λ (f : Finishing). f.id) (ended sample_setting full_coordinator 32 true (Committed 32 [])).now.finishing ≡ counted_from 1 32
  pub taken : (learn (works_on 63) (Kept 0 ((63, 0 ∷ 1 ∷ []) ∷ (64, 0 ∷ 1 ∷ []) ∷ []))).posts ≡ Ask 63 ∷ []
  pub full : (learn (works_on 64) (Kept 0 ((64, 0 ∷ 1 ∷ []) ∷ []))).posts ≡ []
  pub kept : map (λ (x : ℕ × List ℕ). x.0) (kept_in sample_setting 0 (many_records 65)) ≡ counted_from 0 64
