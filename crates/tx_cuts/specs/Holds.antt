-- What a memory node does about cuts.
use Rattle.std.specs.Prelude.{ℕ, ◌-◌, min, nat_le, ◌==◌, Bool, false, cond, ◌&&◌, ◌||◌, List, [], ◌∷◌, Option, Some, None}
use Rattle.tx_rules.specs.Decision.{Record}
use Rattle.tx_actors.specs.Node.{own, is_undecided, granted_in}
use Rattle.tx_cuts.specs.Cut.{HeldOk, HeldLocked, HeldPast, Piece, PieceNone, StillHeld, Copy, Cuts, part, CutEvent, Holds, Raises, Releases, Loses, Sends}

-- whether the cut floor of a memory node is at the cut or above
abbrev pub cut_passed : List (ℕ × ℕ) → ℕ → ℕ → Bool
cut_passed [] m c = false
cut_passed (floor ∷ floors) m c = ((floor.0 == m) && nat_le c floor.1) || cut_passed floors m c

-- whether any of these records is undecided
abbrev pub any_undecided : List Record → List ℕ → Bool
any_undecided rs [] = false
any_undecided rs (t ∷ ts) = is_undecided rs t || any_undecided rs ts

-- whether a copy is of the cut
abbrev pub is_of : ℕ → Option Copy → Bool
is_of c None = false
is_of c (Some copy) = copy.cut == c

-- the cut that a memory node with this copy holds
abbrev pub held_cut : Option Copy → Option ℕ
held_cut None = None
held_cut (Some copy) = cond copy.held (Some copy.cut) None

-- `hold`: ok again where the cut is held or copied; past at the cut floor or below; else the cut is the floor, an
-- older copy is dropped, and without a lock the image is copied and held
abbrev pub on_hold : Cuts → ℕ → ℕ → List CutEvent
on_hold k m c =
    cond (is_of c (k.copies m)) (Sends (HeldOk m c) ∷ [])
    (cond (cut_passed k.floors m c) (Sends (HeldPast m c) ∷ [])
    (cond (any_undecided (own m k.world.log) (granted_in (own m k.world.log)))
    (Raises m c ∷ Sends (HeldLocked m c) ∷ [])
    (Holds m c ∷ Sends (HeldOk m c) ∷ [])))

-- the same, where the memory node stops when its cut floor is durable
abbrev pub on_hold_stopping : Cuts → ℕ → ℕ → List CutEvent
on_hold_stopping k m c = cond (is_of c (k.copies m)) (Loses m ∷ []) (cond (cut_passed k.floors m c) (Loses m ∷ []) (Raises m c ∷ Loses m ∷ []))

-- `release` ends the hold and keeps the copy
abbrev pub on_release : ℕ → ℕ → Option Copy → List CutEvent
on_release m c None = []
on_release m c (Some copy) = cond (copy.cut == c) (Releases m copy ∷ []) []

-- `drop` ends the hold and the copy
abbrev pub on_drop : ℕ → ℕ → Option Copy → List CutEvent
on_drop m c copy = cond (is_of c copy) (Loses m ∷ []) []

-- how many bytes a piece has: at most 65,536, and no more than an image has from its place
abbrev pub piece_bytes : ℕ → ℕ → ℕ
piece_bytes size place = min (size - place) 65536

-- `read` sends the bytes of the copy from a place
abbrev pub on_read : ℕ → ℕ → ℕ → ℕ → Option Copy → List CutEvent
on_read size m c place None = Sends (PieceNone m c place) ∷ []
on_read size m c place (Some copy) =
    cond (copy.cut == c) (Sends (Piece m c place (part copy.image place (piece_bytes size place))) ∷ []) (Sends (PieceNone m c place) ∷ [])

-- an answer to `list` names the cut that is held
abbrev pub on_list : ℕ → Option Copy → List CutEvent
on_list m None = []
on_list m (Some copy) = cond copy.held (Sends (StillHeld m copy.cut) ∷ []) []
