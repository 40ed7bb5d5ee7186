-- How a state that a load finds shows in a machine that is opened from states: its floors and kept records as records.
use Rattle.std.specs.Prelude.{◌≡◌, ◌≤◌, ℕ, Bool, true, false, List, [], ◌∷◌, ◌++◌, length, get_or, Option, Some, None, is_some, if◌then◌else◌, ◌+◌, map}
use Rattle.std.specs.List.{AllByRecursion, slice_get}
use Rattle.mini_tx.specs.Laws.{IsTypedId}
use Rattle.mini_tx.specs.EntryGrammar.{is_granted}
use Rattle.mem_rules.specs.declared.floor.Floor.{Floor}
use Rattle.mem_rules.specs.declared.kept.Kept.{Kept}
use Rattle.mem_rules.specs.Fit.{IsWriteInside}
use Rattle.mem_rules.specs.Good.{AreAscending}
use Rattle.mem_rules.specs.Rules.{is_undecided}
use Rattle.mem_rules.specs.State.{State, floor_at, kept_of}
use Rattle.tx_rules.specs.Mini.{In, Memory, Setting, has_several, participants_at, cells_of, IsFresh}
use Rattle.tx_rules.specs.Decision.{Entry, At, Reason, Record, Grant, Refuse, Commit, Abort, Forget}
use Rattle.tx_rules.specs.World.{opened}
use Rattle.tx_actors.specs.Node.{view}
use Rattle.mem_laws.specs.Cells.{number, cells_in, written_in}
use Rattle.mem_laws.specs.Shown.{reason_of, Shows}

-- ---- the records, newest first

abbrev pub records_of_decision : ℕ → Option Bool → List Record
records_of_decision t None = []
records_of_decision t (Some true) = Commit t ∷ []
records_of_decision t (Some false) = Abort t ∷ []

abbrev pub records_of_kept : Kept → List Record
records_of_kept k = records_of_decision (number k.id) k.decision ++ Grant (number k.id) ∷ []

-- of a vote whose record is not kept: a Granted one was of one participant or is forgotten, and is over in both cases
abbrev pub records_of_vote : ℕ → Option Reason → List Record
records_of_vote t None = Forget t ∷ Commit t ∷ Grant t ∷ []
records_of_vote t (Some why) = Refuse t why ∷ []

-- a floor whose record is kept has the records of that
abbrev pub records_of_floor : List Kept → Option Floor → List Record
records_of_floor kept None = []
records_of_floor kept (Some floor) = if is_some (kept_of kept floor.id) then [] else records_of_vote (number floor.id) (reason_of floor.vote)

abbrev pub records_of_floors : List Kept → List (Option Floor) → List Record
records_of_floors kept [] = []
records_of_floors kept (floor ∷ floors) = records_of_floor kept floor ++ records_of_floors kept floors

abbrev pub records_of_all : List Kept → List Record
records_of_all [] = []
records_of_all (k ∷ kept) = records_of_kept k ++ records_of_all kept

abbrev pub records_of_state : State → List Record
records_of_state state = records_of_floors state.kept state.floors ++ records_of_all state.kept

-- ---- what is asked of the state

-- a floor is an identifier of its coordinator that is known at the opening
pub record IsLoadedFloor (s : Setting) (c : ℕ) (floor : Floor) : Type 0 where
  pub typed : IsTypedId floor.id
  pub coordinator : s.coord (number floor.id) ≡ c
  pub known : ¬ IsFresh s (number floor.id)

-- a kept record is a Granted vote of several participants on an identifier that is known at the opening, at the floor of
-- its coordinator or below it; and until it is decided it has the cells and the writes of the table
pub record IsLoadedRecord (s : Setting) (m : ℕ) (state : State) (k : Kept) : Type 0 where
  pub typed : IsTypedId k.id
  pub granted : is_granted k.vote ≡ true
  pub known : ¬ IsFresh s (number k.id)
  pub participants : k.participants ≡ participants_at s m (number k.id)
  pub several : has_several k.participants ≡ true
  pub floor : Floor
  pub at_floor : floor_at state.floors (s.coord (number k.id)) ≡ Some floor
  pub below : number k.id ≤ number floor.id
  pub same : number k.id ≡ number floor.id → reason_of floor.vote ≡ None
  pub locked : is_undecided k ≡ true → cells_of s (number k.id) m ≡ cells_in k.ranges
  pub written : is_undecided k ≡ true → (a : ℕ) → (s.mini (number k.id)).writes m a ≡ written_in k.writes a

pub record IsLoaded (s : Setting) (m : ℕ) (state : State) : Type 0 where
  pub floors : (c : ℕ) (floor : Floor) → floor_at state.floors c ≡ Some floor → IsLoadedFloor s c floor
  pub records : (k : Kept) → In k state.kept → IsLoadedRecord s m state k
  pub ascending : AreAscending state.kept
  pub within : (k : Kept) → In k state.kept → AllByRecursion (IsWriteInside (length state.image)) k.writes

-- such a state shows in a machine that has its records and holds the same bytes, whatever was seen before
abbrev pub LoadedNodesShow : Type 0
LoadedNodesShow = (s : Setting) (m : ℕ) (state : State) (seen : ℕ → ℕ → ℕ) → IsLoaded s m state
    → Shows s m state (record { records = records_of_state state; image = λ a. get_or state.image a 0; seen = seen })

-- ---- a cluster that is opened from states

-- the logs of memory nodes in these states, of which the first has this number
abbrev pub log_from : ℕ → List State → List Entry
log_from m [] = []
log_from m (state ∷ states) = map (At m) (records_of_state state) ++ log_from (m + 1) states

-- the bytes of a memory node that is there
abbrev pub bytes_in : Option State → ℕ → ℕ
bytes_in None a = 0
bytes_in (Some state) a = get_or state.image a 0

abbrev pub image_from : List State → Memory
image_from states m = bytes_in (slice_get states m)

-- each of them shows in the machine that is opened from the logs and images of all
abbrev pub LoadedClustersShow : Type 0
LoadedClustersShow = (s : Setting) (states : List State) (m : ℕ) (state : State) → slice_get states m ≡ Some state → IsLoaded s m state
    → Shows s m state (view (opened s (log_from 0 states) (image_from states)) m)
