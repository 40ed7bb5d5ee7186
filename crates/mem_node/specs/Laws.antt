-- What holds of all disks of memory nodes.
use Rattle.std.specs.Prelude.{◌≡◌, ◌⊎◌, ℕ, List, Option, Some, None}
use Rattle.disk_model.specs.Crash.{Content}
use Rattle.mem_rules.specs.declared.setup.Setup.{Setup}
use Rattle.mini_tx.specs.declared.entry.Entry.{Entry}
use Rattle.mem_rules.specs.Fit.{IsSetup, AreNamesTyped}
use Rattle.mem_rules.specs.Reactions.{IsFitNext}
use Rattle.mem_rules.specs.State.{State, after_one}
use Rattle.mem_node.specs.Disk.{Makes, StandsFor, IsBroken}
use Rattle.mem_node.specs.Node.{IsBeforeOrAfter}

-- a disk stands for one state
abbrev pub DisksHaveOneState : Type 0
DisksHaveOneState = (s : Setup) (content : Content) (state other : State) → StandsFor s content state → StandsFor s content other → state ≡ other

-- a disk whose log is damaged, or has an entry that is unfit, stands for none
abbrev pub BrokenDisksHaveNone : Type 0
BrokenDisksHaveNone = (s : Setup) (content : Content) (at : ℕ) (state : State) → IsBroken s content at → StandsFor s content state → ⊥

-- the numbers that the entry names, if there is one, are within their types
abbrev pub IsNextTyped : Option Entry → Type 0
IsNextTyped None = Unit {0}
IsNextTyped (Some e) = AreNamesTyped e

-- with the bytes of the entries before a fit entry, or of those and it, a disk stands for the state before it or for
-- the one after it
abbrev pub CrashImagesStandForStates : Type 0
CrashImagesStandForStates =
    (s : Setup) (image : List ℕ) (bytes : List (List ℕ)) (state : State) (e : Option Entry) (content : Content) → IsSetup s → Makes s image bytes state
    → IsFitNext s state e → IsNextTyped e → IsBeforeOrAfter s image bytes e content → StandsFor s content state ⊎ StandsFor s content (after_one state e)
