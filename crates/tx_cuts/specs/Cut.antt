-- Cuts: copies of all memory nodes' images at one moment, as rules over what is durable, copied, made and sent.
use Rattle.std.specs.Prelude.{◌≡◌, ℕ, zero, suc, ◌+◌, ◌≤◌, ◌==◌, Bool, true, false, cond, List, [], ◌∷◌, Option, Some, None, ◌⊎◌, ⊤}
use Rattle.tx_rules.specs.Mini.{In, Memory, Setting, flat}
use Rattle.tx_rules.specs.Decision.{Reason, Held, Refuse, Entry, At, IsOpen}
use Rattle.tx_rules.specs.World.{Refused, World, opened, Event, Grants, Completes, Refuses, Posts, May, after}

-- a message about a cut. Those of a memory node name it first, and so does `Read`, which goes to one; the others go to
-- all memory nodes
pub data CutMessage : Type 0 where
  Hold : ℕ → CutMessage
  HeldOk : ℕ → ℕ → CutMessage
  HeldLocked : ℕ → ℕ → CutMessage
  HeldPast : ℕ → ℕ → CutMessage
  Release : ℕ → CutMessage
  Drop : ℕ → CutMessage
  Read : ℕ → ℕ → ℕ → CutMessage
  Piece : ℕ → ℕ → ℕ → List ℕ → CutMessage
  PieceNone : ℕ → ℕ → ℕ → CutMessage
  -- the cut that an answer to `list` names
  StillHeld : ℕ → ℕ → CutMessage

-- the copy of an image, of a cut that is held or was released
pub record Copy : Type 0 where
  pub cut : ℕ
  pub held : Bool
  pub image : ℕ → ℕ

-- the world; the cut floors in the logs, each with its memory node; each memory node's copy, which a crash loses; the
-- cuts that were made, each with the points at that moment; and what was sent
pub record Cuts : Type 0 where
  pub world : World
  pub floors : List (ℕ × ℕ)
  pub copies : ℕ → Option Copy
  pub made : List (ℕ × List ℕ)
  pub sent : List CutMessage

-- at an opening no cut is held
abbrev pub opened_cuts : Setting → List Entry → Memory → List (ℕ × ℕ) → Cuts
opened_cuts s log image floors = record { world = opened s log image; floors = floors; copies = λ m. None; made = []; sent = [] }

-- the cut floor of a memory node is the cut or above
pub record IsCutPassed (floors : List (ℕ × ℕ)) (m c : ℕ) : Type 0 where
  pub by : ℕ
  pub entry : In (m, by) floors
  pub above : c ≤ by

-- a memory node holds a cut
pub record IsHolding (k : Cuts) (m : ℕ) : Type 0 where
  pub copy : Copy
  pub is : k.copies m ≡ Some copy
  pub held : copy.held ≡ true

-- a cut was made
abbrev pub IsMade : Cuts → ℕ → Type 0
IsMade k c = (points : List ℕ) × In (c, points) k.made

-- n bytes of an image from a place on
unfoldable pub part : (ℕ → ℕ) → ℕ → ℕ → List ℕ
part image place zero = []
part image place (suc n) = image place ∷ part image (place + 1) n

-- what a message promises from then on: `held ok` that the cut floor is at the cut or above, `release` and `read` that
-- the cut was made, and a piece that it is a part of the flat memory at the cut
abbrev pub CutPromises : Setting → Cuts → CutMessage → Type 0
CutPromises s k (HeldOk m c) = IsCutPassed k.floors m c
CutPromises s k (Release c) = IsMade k c
CutPromises s k (Read m c place) = IsMade k c
CutPromises s k (Piece m c place bytes) = (points : List ℕ) × In (c, points) k.made × (n : ℕ) × (bytes ≡ part (flat s points m) place n)
CutPromises s k message = ⊤

-- what happens: the transactions go on; a memory node holds a cut, or raises its cut floor alone; it ends a hold and
-- keeps the copy, or loses the copy by a drop or a crash; the cut is made; a message is sent
pub data CutEvent : Type 0 where
  Does : Event → CutEvent
  Holds : ℕ → ℕ → CutEvent
  Raises : ℕ → ℕ → CutEvent
  Releases : ℕ → Copy → CutEvent
  Loses : ℕ → CutEvent
  Makes : ℕ → CutEvent
  Sends : CutMessage → CutEvent

-- a memory node with this copy holds the cut
abbrev pub IsHeld : Option Copy → ℕ → Type 0
IsHeld o cut = (copy : Copy) × (o ≡ Some copy) × (copy.held ≡ true) × (copy.cut ≡ cut)

-- where a vote is refused since a cut is held, that cut is held
abbrev pub IsHeldSo : Option Copy → Reason → Type 0
IsHeldSo o (Held cut) = IsHeld o cut
IsHeldSo o why = ⊤

-- nothing is granted where a cut is held, and a vote is Held only by the cut that is held when it is cast
abbrev pub IsClear : Cuts → Event → Type 0
IsClear k (Grants m t) = ¬ IsHolding k m
IsClear k (Completes m t) = ¬ IsHolding k m
IsClear k (Refuses m t why) = IsHeldSo (k.copies m) why
IsClear k (Posts (Refused m t why)) = In (At m (Refuse t why)) k.world.log ⊎ IsHeldSo (k.copies m) why
IsClear k e = ⊤

-- when it may happen, with these memory nodes: a cut is held above the cut floor where no record is undecided; a hold
-- ends when the cut was made; and a cut is made once, when all memory nodes have sent `held ok`
abbrev pub MayCut : Setting → List ℕ → Cuts → CutEvent → Type 0
MayCut s ms k (Does e) = May s k.world e × IsClear k e
MayCut s ms k (Holds m c) = In m ms × (¬ IsCutPassed k.floors m c) × ((t : ℕ) → ¬ IsOpen k.world.log m t)
MayCut s ms k (Raises m c) = ¬ IsCutPassed k.floors m c
MayCut s ms k (Releases m copy) = (k.copies m ≡ Some copy) × IsMade k copy.cut
MayCut s ms k (Loses m) = ⊤
MayCut s ms k (Makes c) = ((m : ℕ) → In m ms → In (HeldOk m c) k.sent) × (¬ IsMade k c)
MayCut s ms k (Sends message) = CutPromises s k message

-- the copies, one of which is as given
abbrev pub with_copy : ℕ → Option Copy → (ℕ → Option Copy) → ℕ → Option Copy
with_copy m copy copies n = cond (n == m) copy (copies n)

-- what it changes
abbrev pub after_cut : Setting → Cuts → CutEvent → Cuts
after_cut s k (Does e) = record k { world = after s k.world e }
after_cut s k (Holds m c) =
    record k { floors = (m, c) ∷ k.floors; copies = with_copy m (Some (record { cut = c; held = true; image = k.world.image m })) k.copies }
after_cut s k (Raises m c) = record k { floors = (m, c) ∷ k.floors; copies = with_copy m None k.copies }
after_cut s k (Releases m copy) = record k { copies = with_copy m (Some (record copy { held = false })) k.copies }
after_cut s k (Loses m) = record k { copies = with_copy m None k.copies }
after_cut s k (Makes c) = record k { made = (c, k.world.points) ∷ k.made }
after_cut s k (Sends message) = record k { sent = message ∷ k.sent }

-- a list of events, oldest first, each of which may happen where the ones before it lead
abbrev pub IsCutRun : Setting → List ℕ → Cuts → List CutEvent → Type 0
IsCutRun s ms k [] = ⊤
IsCutRun s ms k (e ∷ events) = MayCut s ms k e × IsCutRun s ms (after_cut s k e) events

-- where they lead
abbrev pub after_cuts : Setting → Cuts → List CutEvent → Cuts
after_cuts s k [] = k
after_cuts s k (e ∷ events) = after_cuts s (after_cut s k e) events
