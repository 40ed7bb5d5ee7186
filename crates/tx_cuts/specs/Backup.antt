-- What the manager does about cuts: it runs one backup at a time.
use Rattle.std.specs.Prelude.{ℕ, nat_lt, ◌==◌, cond, ◌&&◌, List, [], ◌∷◌, ◌++◌, length, Option, Some, None}
use Rattle.tx_rules.specs.Lists.{all_in}
use Rattle.tx_cuts.specs.Cut.{CutMessage, Hold, HeldOk, HeldLocked, HeldPast, Release, Drop, Read, Piece, PieceNone, StillHeld, CutEvent, Makes, Sends}
use Rattle.tx_cuts.specs.Holds.{piece_bytes}

-- a backup holds, and knows who has sent `held ok`; or it reads: from which memory nodes it has still to read, what
-- it has of the first of them, and the images that it has whole
pub data Phase : Type 0 where
  Holding : List ℕ → Phase
  Reading : List ℕ → List ℕ → List (List ℕ) → Phase

-- a running backup: its cut, and how far it is
pub record Backup : Type 0 where
  pub cut : ℕ
  pub phase : Phase

-- how a backup ends: with the images of all memory nodes, or without
pub data Ending : Type 0 where
  BackedUp : ℕ → List (List ℕ) → Ending
  Ended : ℕ → Ending

-- what the manager does about cuts
pub record CutAct : Type 0 where
  pub backup : Option Backup
  pub events : List CutEvent
  pub ends : List Ending

-- the manager does nothing
abbrev pub keeps : Option Backup → CutAct
keeps b = record { backup = b; events = []; ends = [] }

-- the backup ends without its images
abbrev pub fails : ℕ → CutAct
fails c = record { backup = None; events = Sends (Drop c) ∷ []; ends = Ended c ∷ [] }

-- it reads on: the next piece of the first memory node that is left, or it is done
abbrev pub reads_on : ℕ → List ℕ → List ℕ → List (List ℕ) → CutAct
reads_on c [] bytes images = record { backup = None; events = Sends (Drop c) ∷ []; ends = BackedUp c images ∷ [] }
reads_on c (m ∷ left) bytes images =
    record { backup = Some (record { cut = c; phase = Reading (m ∷ left) bytes images }); events = Sends (Read m c (length bytes)) ∷ []; ends = [] }

-- `held ok`: with those of all memory nodes the cut is made, the holds are released, and reading begins
abbrev pub hear_held : List ℕ → ℕ → ℕ → Backup → Phase → CutAct
hear_held ms m c b (Holding oks) =
    cond (all_in ms (m ∷ oks))
    (let first = reads_on c ms [] [] in record first { events = Makes c ∷ Sends (Release c) ∷ first.events })
    (keeps (Some (record b { phase = Holding (m ∷ oks) })))
hear_held ms m c b (Reading left bytes images) = keeps (Some b)

-- `piece`: it is taken from the memory node and at the place that were asked for, where it has the bytes of a piece
abbrev pub hear_piece : ℕ → ℕ → ℕ → ℕ → List ℕ → Backup → Phase → CutAct
hear_piece size m c place piece b (Holding oks) = keeps (Some b)
hear_piece size m c place piece b (Reading [] bytes images) = keeps (Some b)
hear_piece size m c place piece b (Reading (n ∷ left) bytes images) =
    cond ((m == n) && ((place == length bytes) && (length piece == piece_bytes size place)))
    (cond (nat_lt (length (bytes ++ piece)) size)
    (reads_on c (n ∷ left) (bytes ++ piece) images)
    (reads_on c left [] (images ++ (bytes ++ piece) ∷ [])))
    (keeps (Some b))

-- each message; those of other cuts are ignored, but for a cut that is still held, which is dropped
abbrev pub running_hears : ℕ → List ℕ → Backup → CutMessage → CutAct
running_hears size ms b (HeldOk m c) = cond (b.cut == c) (hear_held ms m c b b.phase) (keeps (Some b))
running_hears size ms b (HeldLocked m c) = cond (b.cut == c) (fails c) (keeps (Some b))
running_hears size ms b (HeldPast m c) = cond (b.cut == c) (fails c) (keeps (Some b))
running_hears size ms b (PieceNone m c place) = cond (b.cut == c) (fails c) (keeps (Some b))
running_hears size ms b (Piece m c place piece) = cond (b.cut == c) (hear_piece size m c place piece b b.phase) (keeps (Some b))
running_hears size ms b (StillHeld m c) = cond (b.cut == c) (keeps (Some b)) (record (keeps (Some b)) { events = Sends (Drop c) ∷ [] })
running_hears size ms b message = keeps (Some b)

-- the same without a running backup
abbrev pub idle_hears : CutMessage → CutAct
idle_hears (StillHeld m c) = record (keeps None) { events = Sends (Drop c) ∷ [] }
idle_hears message = keeps None

-- each message, with a running backup or without
abbrev pub hears : ℕ → List ℕ → Option Backup → CutMessage → CutAct
hears size ms None message = idle_hears message
hears size ms (Some b) message = running_hears size ms b message

-- a backup is given up
abbrev pub gives_up : Option Backup → CutAct
gives_up None = keeps None
gives_up (Some b) = fails b.cut

-- `hold` again, or after the cut `release` and the last `read` again
abbrev pub posts_again : ℕ → Phase → List CutEvent
posts_again c (Holding oks) = Sends (Hold c) ∷ []
posts_again c (Reading [] bytes images) = Sends (Release c) ∷ []
posts_again c (Reading (m ∷ left) bytes images) = Sends (Release c) ∷ Sends (Read m c (length bytes)) ∷ []

-- what the manager posts again of a running backup
abbrev pub resends : Option Backup → CutAct
resends None = keeps None
resends (Some b) = record (keeps (Some b)) { events = posts_again b.cut b.phase }
