-- That a memory node lists what it keeps, and treats cuts, as the machine's memory node does.
use Rattle.std.specs.Prelude.{◌≡◌, ◌≤◌, ◌+◌, ℕ, List, [], ◌∷◌, length, map, Option, Some, None, ⊤}
use Rattle.mini_tx.specs.declared.cut_id.CutId.{CutId}
use Rattle.mini_tx.specs.declared.held_answer.HeldAnswer.{HeldAnswer}
use Rattle.mini_tx.specs.declared.held_answer.HeldAnswer.TheVariants as hold
use Rattle.mini_tx.specs.declared.kept_id.KeptId.{KeptId}
use Rattle.mini_tx.specs.declared.message.Message as sent_type
use Rattle.mini_tx.specs.declared.message.Message.TheVariants as sent
use Rattle.mini_tx.specs.FlatMemory.{bytes_at}
use Rattle.mini_tx.specs.Laws.{IsTypedCut}
use Rattle.mem_rules.specs.Rules as node
use Rattle.tx_rules.specs.Mini.{Setting}
use Rattle.tx_actors.specs.Node as machine
use Rattle.tx_cuts.specs.Cut.{CutMessage, HeldOk, HeldLocked, HeldPast, Piece, PieceNone, StillHeld, Copy, Cuts, CutEvent, Sends, after_cuts}
use Rattle.tx_cuts.specs.Holds.{cut_passed, held_cut, on_hold, on_release, on_drop, on_read, on_list}
use Rattle.mem_laws.specs.Cells.{number, cut_number, cells_from}
use Rattle.mem_laws.specs.Shown.{Shows, cut_held}

-- ---- list

-- a kept identifier with its participants
abbrev pub shown_kept : KeptId → ℕ × List ℕ
shown_kept k = (number k.id, k.participants)

-- what a memory node answers to `list` the machine's answers: the same identifiers in the same order, with the same
-- participants; and it names the cut that it holds
abbrev pub ListsAreTheMachines : Type 0
ListsAreTheMachines = (s : Setting) (m : ℕ) (n : node.Node) (v : machine.View) → Shows s m n.state v
    → (ids : List KeptId) × (node.on_list n ≡ node.answers n (sent.Kept ids (node.held_cut n.copy)))
    × (map shown_kept ids ≡ machine.kept_in s m v.records)

-- ---- cuts

-- a copy of an image of this size, and the machine's
pub record IsShownCopy (size : ℕ) (copy : node.Copy) (x : Copy) : Type 0 where
  pub typed : IsTypedCut copy.cut
  pub cut : x.cut ≡ cut_number copy.cut
  pub held : x.held ≡ copy.is_held
  pub sized : length copy.bytes ≡ size
  pub image : (at n : ℕ) → at + n ≤ length copy.bytes → bytes_at copy.bytes at n ≡ map x.image (cells_from at n)

abbrev pub ShowsCopy : ℕ → Option node.Copy → Option Copy → Type 0
ShowsCopy size None None = ⊤
ShowsCopy size None (Some x) = ⊥
ShowsCopy size (Some copy) None = ⊥
ShowsCopy size (Some copy) (Some x) = IsShownCopy size copy x

-- a cut floor that is there is a cut
abbrev pub IsTypedFloor : Option CutId → Type 0
IsTypedFloor None = ⊤
IsTypedFloor (Some cut) = IsTypedCut cut

-- a memory node with an image of this size shows in the machine with cuts: what it has, its copy, and its cut floor,
-- which the same cuts are at or below
pub record ShowsWithCuts (s : Setting) (m size : ℕ) (n : node.Node) (k : Cuts) : Type 0 where
  pub state : Shows s m n.state (machine.view k.world m)
  pub sized : length n.state.image ≡ size
  pub copy : ShowsCopy size n.copy (k.copies m)
  pub typed : IsTypedFloor n.state.cut
  pub floor : (cut : CutId) → IsTypedCut cut → cut_passed k.floors m (cut_number cut) ≡ node.is_past n.state.cut cut

-- it holds the cut that the machine's holds
abbrev pub HeldCutsAreTheMachines : Type 0
HeldCutsAreTheMachines = (size : ℕ) (copy : Option node.Copy) (x : Option Copy) → ShowsCopy size copy x → held_cut x ≡ cut_held copy

-- the machine's message about a cut
abbrev pub shown_hold : ℕ → ℕ → HeldAnswer → CutMessage
shown_hold m c hold.Copied = HeldOk m c
shown_hold m c (hold.Locked holder) = HeldLocked m c
shown_hold m c (hold.Past floor) = HeldPast m c

abbrev pub shown_piece : ℕ → ℕ → ℕ → Option (List ℕ) → CutMessage
shown_piece m c place (Some bytes) = Piece m c place bytes
shown_piece m c place None = PieceNone m c place

-- the machine's messages that answer it
abbrev pub answered_with : ℕ → Option sent_type.Message → List CutMessage → List CutMessage
answered_with m (Some (sent.Held cut answer)) sent_before = shown_hold m (cut_number cut) answer ∷ sent_before
answered_with m (Some (sent.Piece cut place bytes)) sent_before = shown_piece m (cut_number cut) place bytes ∷ sent_before
answered_with m answer sent_before = sent_before

-- a reaction shows in these events: it shows in the machine then, and the machine has sent the same answer
pub record IsShownCut (s : Setting) (m size : ℕ) (n : node.Node) (k : Cuts) (r : node.Reaction) (events : List CutEvent) : Type 0 where
  pub shows : ShowsWithCuts s m size (node.after_reaction n r) (after_cuts s k events)
  pub sent : (after_cuts s k events).sent ≡ answered_with m r.answer k.sent

-- it does with each message about a cut what the machine's memory node does
abbrev pub HoldsAreTheMachines : Type 0
HoldsAreTheMachines = (s : Setting) (m size : ℕ) (n : node.Node) (k : Cuts) (cut : CutId) → IsTypedCut cut → ShowsWithCuts s m size n k
    → IsShownCut s m size n k (node.on_hold n cut) (on_hold k m (cut_number cut))

abbrev pub ReleasesAreTheMachines : Type 0
ReleasesAreTheMachines = (s : Setting) (m size : ℕ) (n : node.Node) (k : Cuts) (cut : CutId) → IsTypedCut cut → ShowsWithCuts s m size n k
    → IsShownCut s m size n k (node.react n (sent.Release cut)) (on_release m (cut_number cut) (k.copies m))

abbrev pub DropsAreTheMachines : Type 0
DropsAreTheMachines = (s : Setting) (m size : ℕ) (n : node.Node) (k : Cuts) (cut : CutId) → IsTypedCut cut → ShowsWithCuts s m size n k
    → IsShownCut s m size n k (node.react n (sent.Drop cut)) (on_drop m (cut_number cut) (k.copies m))

abbrev pub ReadsAreTheMachines : Type 0
ReadsAreTheMachines = (s : Setting) (m size : ℕ) (n : node.Node) (k : Cuts) (cut : CutId) (place : ℕ) → IsTypedCut cut → ShowsWithCuts s m size n k
    → IsShownCut s m size n k (node.react n (sent.ReadCut cut place)) (on_read size m (cut_number cut) place (k.copies m))

-- the cut that an answer to `list` names is the one that the machine's sends beside it
abbrev pub still_held : ℕ → Option ℕ → List CutEvent
still_held m None = []
still_held m (Some c) = Sends (StillHeld m c) ∷ []

abbrev pub ListedCutsAreTheMachines : Type 0
ListedCutsAreTheMachines = (size m : ℕ) (copy : Option node.Copy) (x : Option Copy) → ShowsCopy size copy x → on_list m x ≡ still_held m (cut_held copy)
