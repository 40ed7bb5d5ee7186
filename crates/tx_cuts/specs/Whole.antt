-- The whole machine: the transactions with their actors, and the cuts with theirs.
use Rattle.std.specs.Prelude.{ℕ, ◌+◌, nat_le, ◌==◌, cond, List, [], ◌∷◌, ◌++◌, map, length, Option, Some, None}
use Rattle.tx_rules.specs.Lists.{is_in}
use Rattle.tx_rules.specs.Mini.{Memory, Setting}
use Rattle.tx_rules.specs.Decision.{Entry}
use Rattle.tx_actors.specs.Coordinator.{Coordinator, Outcome}
use Rattle.tx_actors.specs.Manager.{Work}
use Rattle.tx_actors.specs.Machine.{State, Input, ToNode, ToStoppingNode, BootNode, Move, move}
use Rattle.tx_cuts.specs.Cut.{CutMessage, Hold, Release, Drop, Read, Cuts, opened_cuts, part, CutEvent, Does, Loses, Sends, after_cuts}
use Rattle.tx_cuts.specs.Holds.{held_cut, on_hold, on_hold_stopping, on_release, on_drop, on_read, on_list}
use Rattle.tx_cuts.specs.Backup.{Holding, Backup, Ending, CutAct, keeps, hears, gives_up, resends}

-- the transactions and the cuts; the actors; the least cut that may begin next, the running backup, and how backups
-- ended, newest first
pub record Whole : Type 0 where
  pub cuts : Cuts
  pub coordinator : ℕ → Coordinator
  pub manager : List Work
  pub outcomes : List Outcome
  pub next_cut : ℕ
  pub backup : Option Backup
  pub endings : List Ending

-- the actors of the transactions
abbrev pub state_of : Whole → State
state_of x = record { world = x.cuts.world; coordinator = x.coordinator; manager = x.manager; outcomes = x.outcomes }

-- messages about cuts are numbered in the order in which they were sent, from 0
abbrev pub numbered_cut : List CutMessage → ℕ → Option CutMessage
numbered_cut [] k = None
numbered_cut (p ∷ ps) k = cond (length ps == k) (Some p) (numbered_cut ps k)

-- what may happen, in any order and any number of times
pub data WholeInput : Type 0 where
  -- to the actors of the transactions; a memory node knows by itself whether it holds a cut
  Acts : Input → WholeInput
  -- a message about a cut is delivered to a memory node, which may stop when its cut floor is durable
  CutToNode : ℕ → ℕ → WholeInput
  CutToStoppingNode : ℕ → ℕ → WholeInput
  -- a memory node answers `list`
  Lists : ℕ → WholeInput
  -- a message about a cut is delivered to the manager; it begins a backup, gives it up, posts again, or crashes
  CutToManager : ℕ → WholeInput
  BeginBackup : ℕ → WholeInput
  GiveUpBackup : WholeInput
  ResendBackup : WholeInput
  BootBackup : WholeInput

-- an input to a memory node with the cut that it holds
abbrev pub knowing : Cuts → Input → Input
knowing k (ToNode n m held) = ToNode n m (held_cut (k.copies m))
knowing k (ToStoppingNode n m held) = ToStoppingNode n m (held_cut (k.copies m))
knowing k input = input

-- the copy that is lost where a memory node stops
abbrev pub lost_in : Input → List CutEvent
lost_in (ToStoppingNode n m held) = Loses m ∷ []
lost_in (BootNode m) = Loses m ∷ []
lost_in input = []

-- a memory node handles a message about a cut
abbrev pub handle_cut : ℕ → Cuts → ℕ → Option CutMessage → List CutEvent
handle_cut size k m (Some (Hold c)) = on_hold k m c
handle_cut size k m (Some (Release c)) = on_release m c (k.copies m)
handle_cut size k m (Some (Drop c)) = on_drop m c (k.copies m)
handle_cut size k m (Some (Read n c place)) = cond (n == m) (on_read size m c place (k.copies m)) []
handle_cut size k m message = []

-- the same, where the memory node stops; what it has beside its log is lost
abbrev pub handle_cut_stopping : Cuts → ℕ → Option CutMessage → List CutEvent
handle_cut_stopping k m (Some (Hold c)) = on_hold_stopping k m c
handle_cut_stopping k m message = Loses m ∷ []

-- what the manager does with a message
abbrev pub manager_hears : ℕ → List ℕ → Option Backup → Option CutMessage → CutAct
manager_hears size ms b None = keeps b
manager_hears size ms b (Some message) = hears size ms b message

-- what a step leads to
abbrev pub with_events : Setting → Whole → List CutEvent → Whole
with_events s x events = record x { cuts = after_cuts s x.cuts events }

-- what an act of the manager leads to
abbrev pub with_act : Setting → Whole → CutAct → Whole
with_act s x act = record x { cuts = after_cuts s x.cuts act.events; backup = act.backup; endings = act.ends ++ x.endings }

-- what a move of the transactions leads to, and what is lost in it
abbrev pub with_move : Setting → Whole → Move → List CutEvent → Whole
with_move s x m lost =
    record x { cuts = after_cuts s x.cuts (map Does m.events ++ lost); coordinator = m.coordinator; manager = m.manager; outcomes = m.outcomes }

-- a backup begins where none runs, with a new cut
abbrev pub begins_backup : Setting → Whole → ℕ → Option Backup → Whole
begins_backup s x c (Some b) = x
begins_backup s x c None =
    cond (nat_le x.next_cut c)
    (record x {
      cuts = after_cuts s x.cuts (Sends (Hold c) ∷ []);
      next_cut = c + 1;
      backup = Some (record { cut = c; phase = Holding [] });
    })
    x

-- one input, with images of this size at these memory nodes
abbrev pub whole_step : Setting → ℕ → List ℕ → Whole → WholeInput → Whole
whole_step s size ms x (Acts input) = with_move s x (move s (state_of x) (knowing x.cuts input)) (lost_in input)
whole_step s size ms x (CutToNode n m) = cond (is_in m ms) (with_events s x (handle_cut size x.cuts m (numbered_cut x.cuts.sent n))) x
whole_step s size ms x (CutToStoppingNode n m) = with_events s x (handle_cut_stopping x.cuts m (numbered_cut x.cuts.sent n))
whole_step s size ms x (Lists m) = with_events s x (on_list m (x.cuts.copies m))
whole_step s size ms x (CutToManager n) = with_act s x (manager_hears size ms x.backup (numbered_cut x.cuts.sent n))
whole_step s size ms x (BeginBackup c) = begins_backup s x c x.backup
whole_step s size ms x GiveUpBackup = with_act s x (gives_up x.backup)
whole_step s size ms x ResendBackup = with_act s x (resends x.backup)
whole_step s size ms x BootBackup = with_act s x (keeps None)

-- a list of inputs, oldest first
abbrev pub whole_steps : Setting → ℕ → List ℕ → Whole → List WholeInput → Whole
whole_steps s size ms x [] = x
whole_steps s size ms x (input ∷ inputs) = whole_steps s size ms (whole_step s size ms x input) inputs

-- the whole at an opening
abbrev pub opened_whole : Setting → List Entry → Memory → List (ℕ × ℕ) → (ℕ → ℕ) → ℕ → Whole
opened_whole s log image floors next next_cut =
    record {
      cuts = opened_cuts s log image floors;
      coordinator = λ c. record { next = next c; running = None; finishing = [] };
      manager = [];
      outcomes = [];
      next_cut = next_cut;
      backup = None;
      endings = [];
    }

-- the images of these memory nodes in a memory
abbrev pub images_in : ℕ → List ℕ → Memory → List (List ℕ)
images_in size ms memory = map (λ m. part (memory m) 0 size) ms
