-- Examples. A backup: two memory nodes with images of eight bytes, after one minitransaction, and with another
-- one that is refused while the cut is held.
use Rattle.std.specs.Prelude.{◌≡◌, ◌+◌, ◌*◌, List, [], ◌∷◌, None}
use Rattle.tx_rules.specs.Mini.{Memory, Setting, with_writes}
use Rattle.tx_rules.specs.Decision.{Held, Grant, Entry, At}
use Rattle.tx_actors.specs.Coordinator.{Failed, Committed}
use Rattle.tx_actors.specs.Machine.{State, Input, Begin, ToNode, ToCoordinator, ToManager, Sweep, steps, opened_at}
use Rattle.tx_actors.specs.Sample.{sample_setting}
use Rattle.tx_cuts.specs.Backup.{BackedUp}
use Rattle.tx_cuts.specs.Whole.{Whole, WholeInput, Acts, CutToNode, CutToManager, BeginBackup, whole_steps, opened_whole}
use Rattle.tx_cuts.specs.Sound.{IsTold, IsSoundFor}

-- what happens
abbrev pub backup_inputs : List WholeInput
backup_inputs =
    -- identifier 1 is committed, and both memory nodes apply its writes
    Acts (Begin 1) ∷ Acts (ToNode 0 0 None) ∷ Acts (ToNode 0 1 None) ∷ Acts (ToCoordinator 1) ∷ Acts (ToCoordinator 2)
    ∷ Acts (ToNode 3 0 None) ∷ Acts (ToNode 3 1 None)
    -- both memory nodes hold cut 1; identifier 2 is refused meanwhile; and the cut is made
    ∷ BeginBackup 1 ∷ CutToNode 0 0 ∷ CutToNode 0 1 ∷ Acts (Begin 2) ∷ Acts (ToNode 6 0 None) ∷ Acts (ToCoordinator 7)
    ∷ CutToManager 1 ∷ CutToManager 2
    -- the holds are released, and the pieces are read
    ∷ CutToNode 3 0 ∷ CutToNode 3 1 ∷ CutToNode 4 0 ∷ CutToManager 5 ∷ CutToNode 6 1 ∷ CutToManager 7 ∷ []

-- where it leads, from a formatted cluster
abbrev pub backup_whole : Whole
backup_whole = whole_steps sample_setting 8 (0 ∷ 1 ∷ []) (opened_whole sample_setting [] (λ m a. 0) [] (λ c. 100 * c) 1) backup_inputs

-- the cut is made at the one point, and the backup has both images with the writes of identifier 1
pub record BackupEndsWell : Type 0 where
  pub made : backup_whole.cuts.made ≡ (1, 1 ∷ []) ∷ []
  pub endings : backup_whole.endings ≡ BackedUp 1 ((0 ∷ 0 ∷ 0 ∷ 0 ∷ 0 ∷ 42 ∷ 0 ∷ 0 ∷ []) ∷ (0 ∷ 0 ∷ 0 ∷ 0 ∷ 0 ∷ 0 ∷ 0 ∷ 43 ∷ []) ∷ []) ∷ []
  pub outcomes : backup_whole.outcomes ≡ Failed 2 0 (Held 1) ∷ Committed 1 ((1, []) ∷ (0, []) ∷ []) ∷ []

-- ---- an opening

-- what is found: both participants have granted identifier 1, and neither has a decision; nothing is applied yet
abbrev pub found_log : List Entry
found_log = At 1 (Grant 1) ∷ At 0 (Grant 1) ∷ []

abbrev pub zeros : Memory
zeros m a = 0

-- so it is committed, and its writes stand in the opening memory
abbrev pub found_setting : Setting
found_setting = record sample_setting { found = 1 ∷ []; early = 1 ∷ []; start = with_writes sample_setting 1 zeros }

-- a sweep of memory node 0 finds it, and finishes it
abbrev pub found_inputs : List Input
found_inputs =
    Sweep ∷ ToNode 0 0 None ∷ ToManager 1 ∷ ToNode 2 0 None ∷ ToNode 2 1 None ∷ ToManager 3 ∷ ToManager 4
    ∷ ToNode 5 0 None ∷ ToNode 5 1 None ∷ []

-- where it leads
abbrev pub found_state : State
found_state = steps found_setting (opened_at found_setting found_log zeros (λ c. 100 * c + 2)) found_inputs

-- what is found is an opening; no point is added by the sweep, and the images get the writes
pub record OpeningEndsWell : Type 0 where
  pub told : IsTold found_setting found_log
  pub sound : IsSoundFor found_setting found_log zeros found_setting.start
  pub points : found_state.world.points ≡ []
  pub first : found_state.world.image 0 5 ≡ 42
  pub second : found_state.world.image 1 7 ≡ 43
