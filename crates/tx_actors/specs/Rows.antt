-- Worked cases of the protocol, by computing.
use Rattle.std.specs.Prelude.{◌≡◌, ℕ, ◌*◌, ◌/◌, ◌==◌, true, false, cond, List, [], ◌∷◌, Some, None}
use Rattle.tx_rules.specs.Mini.{Want, Mini, Setting}
use Rattle.tx_rules.specs.Decision.{Forced, Locked, Mismatch, Grant, Refuse, Commit, At}
use Rattle.tx_rules.specs.World.{Granted, Looked, Refused}
use Rattle.tx_actors.specs.Node.{own, kept_in}
use Rattle.tx_actors.specs.Coordinator.{Committed, Failed}
use Rattle.tx_actors.specs.Machine.{State, Input, Begin, ToNode, ToCoordinator, ToManager, BootCoordinator, BootNode, Sweep, numbered, steps, opened_at}

-- ---- two phases

-- identifier 1 of coordinator 0 writes a byte at each of memory nodes 0 and 1
abbrev pub writer : Mini
writer =
    record {
      nodes = 0 ∷ 1 ∷ [];
      cells = λ m. 12288 ∷ [];
      wants = λ m. [];
      reads = λ m. [];
      writes = λ m a. cond (a == 12288) (Some (cond (m == 0) 0x61 0x62)) None;
      has_write = true;
    }

-- identifier 101 of coordinator 1 reads both
abbrev pub reader : Mini
reader =
    record {
      nodes = 0 ∷ 1 ∷ [];
      cells = λ m. 12288 ∷ [];
      wants = λ m. [];
      reads = λ m. (12288 ∷ []) ∷ [];
      writes = λ m a. None;
      has_write = false;
    }

abbrev pub pair_setting : Setting
pair_setting =
    record {
      coord = λ t. t / 100;
      mini = λ t. cond (t == 1) writer reader;
      old = [];
      found = [];
      early = [];
      noted = λ m t. [];
      start = λ m a. 0;
    }

-- memory node 1 grants the writer, and refuses the reader, whose coordinator decides; memory node 0 grants the writer
abbrev pub pair_state : State
pair_state =
    steps pair_setting (opened_at pair_setting [] (λ m a. 0) (λ c. 100 * c))
    (Begin 1 ∷ ToNode 0 1 None ∷ Begin 101 ∷ ToNode 2 1 None ∷ ToCoordinator 3 ∷ ToNode 0 0 None ∷ [])

-- the writer's votes are heard; memory node 0 hears that the reader is aborted, and then its `prepare`
abbrev pub pair_end : State
pair_end = steps pair_setting pair_state (ToCoordinator 5 ∷ ToCoordinator 1 ∷ ToNode 4 0 None ∷ ToNode 2 0 None ∷ [])

-- the reader's `prepare` comes to memory node 1 once more, where the lock is free by then
abbrev pub pair_again : State
pair_again = steps pair_setting pair_end (ToNode 3 1 None ∷ ToNode 7 1 None ∷ ToNode 2 1 None ∷ [])

-- the reader is locked out by the writer, and its late `prepare` finds it forced; the writer has its point; and a vote
-- that is sent again tells its reason of then
pub record TwoPhases : Type 0 where
  pub locked : numbered pair_state.world.posted 3 ≡ Some (Refused 1 101 (Locked 1))
  pub point : pair_state.world.points ≡ 1 ∷ []
  pub outcomes : pair_end.outcomes ≡ Committed 1 ((1, []) ∷ (0, []) ∷ []) ∷ Failed 101 1 (Locked 1) ∷ []
  pub forced : numbered pair_end.world.posted 8 ≡ Some (Refused 0 101 (Forced 101))
  pub again : numbered pair_again.world.posted 9 ≡ Some (Refused 1 101 (Locked 1))
  pub log : pair_end.world.log
      ≡ At 0 (Refuse 101 (Forced 101)) ∷ At 0 (Grant 1) ∷ At 1 (Refuse 101 (Locked 1)) ∷ At 1 (Grant 1) ∷ []

-- ---- an orphan

-- both coordinators' work is left: coordinator 0 and memory node 1 crash, and a sweep of memory node 0 finds the writer,
-- which the manager finishes; what was posted before is delivered late
abbrev pub orphan_inputs : List Input
orphan_inputs =
    BootCoordinator 0 ∷ BootNode 1 ∷ Sweep ∷ ToNode 2 0 None ∷ ToNode 4 0 None ∷ ToNode 4 1 None ∷ ToNode 6 0 None
    ∷ ToCoordinator 7 ∷ ToCoordinator 8 ∷ ToCoordinator 9 ∷ ToManager 10 ∷ ToNode 11 0 None ∷ ToNode 11 1 None
    ∷ ToNode 12 0 None ∷ ToNode 12 1 None ∷ ToManager 13 ∷ ToManager 14 ∷ ToNode 15 0 None ∷ ToNode 15 1 None
    ∷ ToManager 16 ∷ ToManager 17 ∷ ToNode 18 0 None ∷ ToNode 18 1 None ∷ []

abbrev pub orphan_end : State
orphan_end = steps pair_setting pair_state orphan_inputs

-- it has its point once, both bytes stand, and nothing is kept
pub record Orphan : Type 0 where
  pub points : orphan_end.world.points ≡ 1 ∷ []
  pub first : orphan_end.world.image 0 12288 ≡ 0x61
  pub second : orphan_end.world.image 1 12288 ≡ 0x62
  pub none : kept_in pair_setting 0 (own 0 orphan_end.world.log) ≡ []
  pub none_too : kept_in pair_setting 1 (own 1 orphan_end.world.log) ≡ []

-- ---- one participant

-- it has these compare items and read items, and writes this byte where it is not 0
abbrev pub lone_mini : List Want → List (List ℕ) → ℕ → Mini
lone_mini wants reads b =
    record {
      nodes = 0 ∷ [];
      cells = λ m. 12288 ∷ [];
      wants = λ m. wants;
      reads = λ m. reads;
      writes = λ m a. cond (a == 12288) (cond (b == 0) None (Some b)) None;
      has_write = cond (b == 0) false true;
    }

-- identifier 1 reads, 2 writes the byte 7, and the others compare with 8 and write 9; each cell has the byte 5 first
abbrev pub lone_table : ℕ → Mini
lone_table t =
    cond (t == 1) (lone_mini [] ((12288 ∷ []) ∷ []) 0)
    (cond (t == 2) (lone_mini [] [] 7) (lone_mini (record { cell = 12288; byte = 8; item = 0 } ∷ []) [] 9))

abbrev pub lone_setting : Setting
lone_setting =
    record {
      coord = λ t. t / 100;
      mini = lone_table;
      old = [];
      found = [];
      early = [];
      noted = λ m t. [];
      start = λ m a. 5;
    }

-- the `prepare` of identifier 2 is delivered twice, and once more after that of identifier 3
abbrev pub lone_end : State
lone_end = steps lone_setting (opened_at lone_setting [] (λ m a. 5) (λ c. 100 * c))
    (Begin 1 ∷ ToNode 0 0 None ∷ ToCoordinator 1 ∷ Begin 2 ∷ ToNode 2 0 None ∷ ToNode 2 0 None ∷ ToCoordinator 3 ∷ Begin 3
    ∷ ToNode 5 0 None ∷ ToNode 2 0 None ∷ [])

-- a look, a grant that is applied at once and repeated, a mismatch, and a vote below the floor
pub record Lone : Type 0 where
  pub looked : numbered lone_end.world.posted 1 ≡ Some (Looked 0 1 ((5 ∷ []) ∷ []))
  pub granted : numbered lone_end.world.posted 3 ≡ Some (Granted 0 2 [])
  pub again : numbered lone_end.world.posted 4 ≡ Some (Granted 0 2 [])
  pub mismatch : numbered lone_end.world.posted 6 ≡ Some (Refused 0 3 (Mismatch 0))
  pub forced : numbered lone_end.world.posted 7 ≡ Some (Refused 0 2 (Forced 3))
  pub log : lone_end.world.log ≡ At 0 (Refuse 3 (Mismatch 0)) ∷ At 0 (Commit 2) ∷ At 0 (Grant 2) ∷ []
  pub image : lone_end.world.image 0 12288 ≡ 7
  pub outcomes : lone_end.outcomes ≡ Committed 2 ((0, []) ∷ []) ∷ Committed 1 ((0, (5 ∷ []) ∷ []) ∷ []) ∷ []
