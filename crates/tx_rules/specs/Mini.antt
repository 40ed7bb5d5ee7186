-- Minitransactions: what is compared, read and written at which memory nodes, under one identifier.
use Rattle.std.specs.Prelude.{◌≡◌, ℕ, Bool, true, false, cond, ◌||◌, List, [], ◌∷◌, map, Option, Some, None, unwrap_or, ◌⊎◌}
use Rattle.tx_rules.specs.Lists.{is_in}

-- an element of a list
abbrev pub In : {A : Type 0} → A → List A → Type 0
In x [] = ⊥
In x (y ∷ ys) = (x ≡ y) ⊎ In x ys

-- what memory nodes hold: the byte in each cell of each of them
abbrev pub Memory : Type 0
Memory = ℕ → ℕ → ℕ

-- a cell that a compare item compares: the byte that is wanted there, and the place of the item among all items
pub record Want : Type 0 where
  pub cell : ℕ
  pub byte : ℕ
  pub item : ℕ

-- a minitransaction: its participants, and at each memory node the cells that its items touch, the cells that its
-- compare items compare, in their order, those that each of its read items reads, and the bytes that its write items write
pub record Mini : Type 0 where
  pub nodes : List ℕ
  pub cells : ℕ → List ℕ
  pub wants : ℕ → List Want
  pub reads : ℕ → List (List ℕ)
  pub writes : ℕ → ℕ → Option ℕ
  pub has_write : Bool

-- a minitransaction is well formed: it has a participant, each item lies on cells that it touches, at a participant
-- where it writes, and one without a write item writes nothing
pub record IsMini (x : Mini) : Type 0 where
  pub participant : (m : ℕ) × In m x.nodes
  pub compared : (m : ℕ) (want : Want) → In want (x.wants m) → In want.cell (x.cells m)
  pub read : (m a : ℕ) (item : List ℕ) → In item (x.reads m) → In a item → In a (x.cells m)
  pub written : (m a v : ℕ) → x.writes m a ≡ Some v → In m x.nodes × In a (x.cells m)
  pub quiet : x.has_write ≡ false → (m a : ℕ) → x.writes m a ≡ None

-- whether there are several participants
abbrev pub has_several : List ℕ → Bool
has_several [] = false
has_several (m ∷ []) = false
has_several (m ∷ n ∷ nodes) = true

-- a vote on it has an entry in a log, where it has several participants or a write item
abbrev pub is_logged : Mini → Bool
is_logged x = has_several x.nodes || x.has_write

-- what the rules are stated over: the coordinator of each identifier, and what is begun under it. Identifiers that
-- are known at the opening are old where no log has an undecided record of them; nothing is claimed of those. The
-- others were found undecided, and the early ones of these are committed. The record of an old identifier that a
-- memory node keeps notes some participants, which need not be the same everywhere. The cluster opens with the memory
-- start
pub record Setting : Type 0 where
  pub coord : ℕ → ℕ
  pub mini : ℕ → Mini
  pub old : List ℕ
  pub found : List ℕ
  pub early : List ℕ
  pub noted : ℕ → ℕ → List ℕ
  pub start : Memory

-- the participants of an identifier
abbrev pub nodes_of : Setting → ℕ → List ℕ
nodes_of s t = (s.mini t).nodes

-- the cells that an identifier touches at a memory node
abbrev pub cells_of : Setting → ℕ → ℕ → List ℕ
cells_of s t m = (s.mini t).cells m

-- an identifier of which something is claimed
abbrev pub IsLive : Setting → ℕ → Type 0
IsLive s t = ¬ In t s.old

-- the participants that the record of an identifier names which a memory node keeps
abbrev pub participants_at : Setting → ℕ → ℕ → List ℕ
participants_at s m t = cond (is_in t s.old) (s.noted m t) (nodes_of s t)

-- an identifier that was begun since the opening
abbrev pub IsFresh : Setting → ℕ → Type 0
IsFresh s t = IsLive s t × (¬ In t s.found)

-- an identifier with several participants
abbrev pub HasSeveral : Setting → ℕ → Type 0
HasSeveral s t = has_several (nodes_of s t) ≡ true

-- a vote on it has an entry in a log
abbrev pub IsLogged : Setting → ℕ → Type 0
IsLogged s t = is_logged (s.mini t) ≡ true

-- one participant and no write item: its vote has no entry
abbrev pub IsReader : Setting → ℕ → Type 0
IsReader s t = is_logged (s.mini t) ≡ false

-- the bytes of each read item at a memory node, where its cells hold these
abbrev pub reads_of : Setting → ℕ → ℕ → (ℕ → ℕ) → List (List ℕ)
reads_of s t m image = map (map image) ((s.mini t).reads m)

-- the compare items at a memory node find what they want, where its cells hold these
abbrev pub Matches : Setting → ℕ → ℕ → (ℕ → ℕ) → Type 0
Matches s t m image = (want : Want) → In want ((s.mini t).wants m) → image want.cell ≡ want.byte

-- of these compared cells the first that differs is one of the compare item at this place
abbrev pub DiffersAt : List Want → (ℕ → ℕ) → ℕ → Type 0
DiffersAt [] image item = ⊥
DiffersAt (want ∷ wants) image item =
    ((¬ (image want.cell ≡ want.byte)) × (want.item ≡ item)) ⊎ ((image want.cell ≡ want.byte) × DiffersAt wants image item)

-- of the compare items at a memory node the first that differs is the one at this place, where its cells hold these
abbrev pub IsMismatch : Setting → ℕ → ℕ → (ℕ → ℕ) → ℕ → Type 0
IsMismatch s t m image item = DiffersAt ((s.mini t).wants m) image item

-- no cell of a memory node is touched by both
abbrev pub AreApart : Setting → ℕ → ℕ → ℕ → Type 0
AreApart s m t u = (a : ℕ) → In a (cells_of s t m) → In a (cells_of s u m) → ⊥

-- a memory with the write items of an identifier in place
abbrev pub with_writes : Setting → ℕ → Memory → Memory
with_writes s t memory m a = unwrap_or ((s.mini t).writes m a) (memory m a)

-- the flat memory: that of the opening with the write items of the points in place, which are listed newest first
abbrev pub flat : Setting → List ℕ → Memory
flat s [] = s.start
flat s (t ∷ points) = with_writes s t (flat s points)
