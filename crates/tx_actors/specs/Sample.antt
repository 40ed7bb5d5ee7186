-- A run as an example: a coordinator crashes, a participant stops when its entry is durable, and a sweep finishes
-- what they left.
use Rattle.std.specs.Prelude.{◌≡◌, ◌*◌, ◌/◌, ◌==◌, true, cond, List, [], ◌∷◌, Some, None}
use Rattle.tx_rules.specs.Mini.{Mini, Setting}
use Rattle.tx_rules.specs.Decision.{Grant, Commit, Forget, At}
use Rattle.tx_rules.specs.World.{DecideCommit, DecideAbort}
use Rattle.tx_actors.specs.Machine.{State, Input, Begin, ToNode, ToStoppingNode, ToManager, BootCoordinator, BootNode, Sweep, numbered, steps, opened_at}

-- two memory nodes take part; cell 5 of the first gets the byte 42, and cell 7 of the second the byte 43
abbrev pub sample_mini : Mini
sample_mini =
    record {
      nodes = 0 ∷ 1 ∷ [];
      cells = λ m. cond (m == 0) (5 ∷ []) (7 ∷ []);
      wants = λ m. [];
      reads = λ m. [];
      writes = λ m a. cond (m == 0) (cond (a == 5) (Some 42) None) (cond (m == 1) (cond (a == 7) (Some 43) None) None);
      has_write = true;
    }

-- a hundred identifiers for each coordinator, and a memory of zeros
abbrev pub sample_setting : Setting
sample_setting = record { coord = λ t. t / 100; mini = λ t. sample_mini; old = []; found = []; early = []; noted = λ m t. []; start = λ m a. 0 }

-- what happens
abbrev pub sample_inputs : List Input
sample_inputs =
    -- coordinator 0 begins identifier 1, memory node 0 grants it, and memory node 1 stops when its grant is durable
    Begin 1 ∷ ToNode 0 0 None ∷ ToStoppingNode 0 1 None
    -- both crash and start; nothing knows of the identifier but the logs
    ∷ BootNode 1 ∷ BootCoordinator 0
    -- a sweep of memory node 0 finds it: the manager asks both, decides, and has it forgotten
    ∷ Sweep ∷ ToNode 2 0 None ∷ ToManager 3
    ∷ ToNode 4 0 None ∷ ToNode 4 1 None ∷ ToManager 5 ∷ ToManager 6
    ∷ ToNode 7 0 None ∷ ToNode 7 1 None ∷ ToManager 8 ∷ ToManager 9
    ∷ ToNode 10 0 None ∷ ToNode 10 1 None
    -- the first message is delivered once more
    ∷ ToNode 0 1 None ∷ []

-- where it leads, from a formatted cluster
abbrev pub sample_state : State
sample_state = steps sample_setting (opened_at sample_setting [] (λ m a. 0) (λ c. 100 * c)) sample_inputs

-- the identifier has its point, once; its writes stand in both images; and each log has its grant, its commit and that
-- it is forgotten, in this order, newest first
pub record SampleEndsWell : Type 0 where
  pub points : sample_state.world.points ≡ 1 ∷ []
  pub first : sample_state.world.image 0 5 ≡ 42
  pub second : sample_state.world.image 1 7 ≡ 43
  pub log : sample_state.world.log
      ≡ At 1 (Forget 1) ∷ At 0 (Forget 1) ∷ At 1 (Commit 1) ∷ At 0 (Commit 1) ∷ At 1 (Grant 1) ∷ At 0 (Grant 1) ∷ []

-- after it a newer identifier passes the floors, and the manager hears the old `kept` once more: it asks, is answered
-- abort, and posts a decision that disagrees with the one before. Every participant is through, so nothing changes
abbrev pub late_inputs : List Input
late_inputs =
    Begin 2 ∷ ToNode 12 0 None ∷ ToNode 12 1 None
    ∷ ToManager 3 ∷ ToNode 15 0 None ∷ ToManager 16 ∷ ToNode 17 0 None ∷ ToNode 17 1 None ∷ []

-- where that leads
abbrev pub late_state : State
late_state = steps sample_setting sample_state late_inputs

-- both decisions on identifier 1 were posted, and its entries are as they were
pub record MessagesMayDisagree : Type 0 where
  pub commit : numbered late_state.world.posted 7 ≡ Some (DecideCommit 1)
  pub abort : numbered late_state.world.posted 17 ≡ Some (DecideAbort 1)
  pub log : late_state.world.log
      ≡ At 1 (Grant 2) ∷ At 0 (Grant 2) ∷ At 1 (Forget 1) ∷ At 0 (Forget 1) ∷ At 1 (Commit 1) ∷ At 0 (Commit 1) ∷ At 1 (Grant 1) ∷ At 0 (Grant 1) ∷ []
