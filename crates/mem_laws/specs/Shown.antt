-- How what a memory node has, and what it does, shows in the machine of the transaction protocol.
use Rattle.std.specs.Prelude.{◌≡◌, ◌≤◌, ◌+◌, ℕ, Bool, ◌||◌, true, false, List, [], ◌∷◌, length, map, Option, Some, None, is_some, option_map, if◌then◌else◌}
use Rattle.std.specs.List.{AllByRecursion}
use Rattle.mini_tx.specs.declared.entry.Entry.{Entry}
use Rattle.mini_tx.specs.declared.entry.Entry.TheVariants as entry
use Rattle.mini_tx.specs.declared.message.Message as sent
use Rattle.mini_tx.specs.declared.message.Message.TheVariants.{Voted}
use Rattle.mini_tx.specs.declared.placed_item.PlacedItem.{PlacedItem}
use Rattle.mini_tx.specs.declared.tx_id.TxId.{TxId}
use Rattle.mini_tx.specs.declared.vote.Vote.{Vote}
use Rattle.mini_tx.specs.declared.vote.Vote.TheVariants as vote
use Rattle.mini_tx.specs.EntryGrammar.{is_granted}
use Rattle.mini_tx.specs.FlatMemory.{bytes_at}
use Rattle.mini_tx.specs.Laws.{IsTypedId}
use Rattle.mem_rules.specs.declared.floor.Floor.{Floor}
use Rattle.mem_rules.specs.declared.kept.Kept.{Kept}
use Rattle.mem_rules.specs.declared.rule.Rule.{Rule}
use Rattle.mem_rules.specs.declared.rule.Rule.TheVariants.{RecordAgain, FloorAgain, ForcedBy, HeldBy, LockedBy, MismatchAt, Passes}
use Rattle.mem_rules.specs.Fit.{IsWriteInside}
use Rattle.mem_rules.specs.Good.{AreAscending}
use Rattle.mem_rules.specs.Items.{range_of, writes_of}
use Rattle.mem_rules.specs.Rules as node
use Rattle.mem_rules.specs.State.{State, floor_at, kept_of}
use Rattle.tx_rules.specs.Mini.{In, Setting, nodes_of, participants_at, cells_of, IsFresh, reads_of, is_logged}
use Rattle.tx_rules.specs.Decision.{Reason, Forced, Held, Locked, Mismatch, Record, Grant, Commit, Abort, Forget}
use Rattle.tx_rules.specs.World.{Message, Granted, Looked, Refused}
use Rattle.tx_actors.specs.Node as machine
use Rattle.mem_laws.specs.Cells.{number, cut_number, cells_from, cells_in, wants_of, read_cells, written_in}

-- ---- the part of a minitransaction

-- the table of minitransactions has these items of this memory node under this identifier
pub record IsTold (s : Setting) (m : ℕ) (id : TxId) (participants : List ℕ) (items : List PlacedItem) : Type 0 where
  pub coordinator : s.coord (number id) ≡ id.coord
  pub nodes : nodes_of s (number id) ≡ participants
  pub touched : cells_of s (number id) m ≡ cells_in (map range_of items)
  pub compared : (s.mini (number id)).wants m ≡ wants_of items
  pub read : (s.mini (number id)).reads m ≡ read_cells items
  pub written : (a : ℕ) → (s.mini (number id)).writes m a ≡ written_in (writes_of items) a
  pub logged : is_logged (s.mini (number id)) ≡ node.is_logged participants items

-- ---- what it has

-- why a vote is not Granted
abbrev pub reason_of : Vote → Option Reason
reason_of (vote.Granted reads) = None
reason_of (vote.Mismatch place kept) = Some (Mismatch place)
reason_of (vote.Locked holder) = Some (Locked (number holder))
reason_of (vote.Forced floor) = Some (Forced (number floor))
reason_of (vote.Held cut) = Some (Held (cut_number cut))

-- a floor, and why its vote is not Granted
abbrev pub shown_floor : Option Floor → Option (ℕ × Option Reason)
shown_floor None = None
shown_floor (Some floor) = Some (number floor.id, reason_of floor.vote)

-- the bytes of each read item in a vote
abbrev pub bytes_of : Vote → List (List ℕ)
bytes_of (vote.Granted reads) = reads
bytes_of (vote.Mismatch place kept) = []
bytes_of (vote.Locked holder) = []
bytes_of (vote.Forced floor) = []
bytes_of (vote.Held cut) = []

-- a Granted vote on what was begun since the opening has an entry, which keeps the bytes that were seen
abbrev pub IsShownVote : Setting → ℕ → machine.View → TxId → Vote → Type 0
IsShownVote s m v id x =
    is_granted x ≡ true → IsFresh s (number id) → (is_logged (s.mini (number id)) ≡ true) × (bytes_of x ≡ reads_of s (number id) m (v.seen (number id)))

-- the record of a decision
abbrev pub decision_on : ℕ → Bool → Record
decision_on t true = Commit t
decision_on t false = Abort t

-- a kept record: a Granted vote, with the participants that the machine's record names, and with the decision that is
-- logged; and until it is decided with ranges that are the locked cells, and with the writes
pub record IsShownRecord (s : Setting) (m : ℕ) (v : machine.View) (k : Kept) : Type 0 where
  pub typed : IsTypedId k.id
  pub granted : is_granted k.vote ≡ true
  pub vote : IsShownVote s m v k.id k.vote
  pub participants : k.participants ≡ participants_at s m (number k.id)
  pub undecided : machine.is_undecided v.records (number k.id) ≡ node.is_undecided k
  pub decision : (commit : Bool) → k.decision ≡ Some commit → In (decision_on (number k.id) commit) v.records
  pub locked : node.is_undecided k ≡ true → cells_of s (number k.id) m ≡ cells_in k.ranges
  pub written : node.is_undecided k ≡ true → (a : ℕ) → (s.mini (number k.id)).writes m a ≡ written_in k.writes a

-- the machine's memory node has what this one has
pub record Shows (s : Setting) (m : ℕ) (state : State) (v : machine.View) : Type 0 where
  pub floors : (c : ℕ) → machine.floor_of s v.records c ≡ shown_floor (floor_at state.floors c)
  pub votes : (c : ℕ) (floor : Floor) → floor_at state.floors c ≡ Some floor → IsTypedId floor.id × IsShownVote s m v floor.id floor.vote
  pub kept : (id : TxId) → IsTypedId id → machine.is_kept s m v.records (number id) ≡ is_some (kept_of state.kept id)
  pub ascending : AreAscending state.kept
  pub records : (k : Kept) → In k state.kept → IsShownRecord s m v k
  pub within : (k : Kept) → In k state.kept → AllByRecursion (IsWriteInside (length state.image)) k.writes
  pub undecided : (t : ℕ) → machine.is_undecided v.records t ≡ true → (k : Kept) × In k state.kept × (number k.id ≡ t)
  -- what is decided or forgotten was granted
  pub granted : (t : ℕ) → (machine.has_decision v.records t || machine.has_forget v.records t) ≡ true → machine.has_grant v.records t ≡ true
  -- what the machine's memory node keeps is an identifier
  pub typed : (t : ℕ) → machine.is_kept s m v.records t ≡ true → (k : Kept) × In k state.kept × (number k.id ≡ t)
  -- the bytes from a place on are those of its cells
  pub image : (at n : ℕ) → at + n ≤ length state.image → bytes_at state.image at n ≡ map v.image (cells_from at n)

-- ---- what it does

-- the cut that it holds
abbrev pub cut_held : Option node.Copy → Option ℕ
cut_held copy = option_map cut_number (node.held_cut copy)

-- the machine's rule
abbrev pub shown_rule : Rule → machine.Rule
shown_rule (RecordAgain x) = machine.RecordAgain
shown_rule (FloorAgain x) = machine.FloorAgain (reason_of x)
shown_rule (ForcedBy floor) = machine.BelowFloor (number floor)
shown_rule (HeldBy cut) = machine.Against (Held (cut_number cut))
shown_rule (LockedBy holder) = machine.Against (Locked (number holder))
shown_rule (MismatchAt difference) = machine.Against (Mismatch difference.place)
shown_rule Passes = machine.Passes

-- the message of a vote; a Granted one without an entry is a look
abbrev pub posted : ℕ → ℕ → Bool → Vote → Message
posted m t has_entry (vote.Granted reads) = if has_entry then Granted m t reads else Looked m t reads
posted m t has_entry (vote.Mismatch place kept) = Refused m t (Mismatch place)
posted m t has_entry (vote.Locked holder) = Refused m t (Locked (number holder))
posted m t has_entry (vote.Forced floor) = Refused m t (Forced (number floor))
posted m t has_entry (vote.Held cut) = Refused m t (Held (cut_number cut))

-- a vote of one participant is granted and then committed at once
abbrev pub records_of : Option Entry → List Record
records_of None = []
records_of (Some (entry.Single id x writes)) = Grant (number id) ∷ Commit (number id) ∷ []
records_of (Some (entry.Prepared id participants x ranges writes)) = Grant (number id) ∷ []
records_of (Some (entry.Refused id x)) = machine.cast_as (reason_of x) (number id) ∷ []
records_of (Some (entry.Decided id commit)) = (if commit then Commit (number id) else Abort (number id)) ∷ []
records_of (Some (entry.Forgotten id)) = Forget (number id) ∷ []
records_of (Some (entry.Cut cut)) = []
records_of (Some (entry.Floor id x)) = []

-- the machine appends the records of the same entry, and then posts the same vote
pub record IsShownReaction (s : Setting) (m : ℕ) (id : TxId) (r : node.Reaction) (x : machine.Reaction) : Type 0 where
  pub vote : Vote
  pub voted : r.answer ≡ Some (Voted id vote)
  pub appends : x.appends ≡ records_of r.entry
  pub posts : x.posts ≡ posted m (number id) (is_logged (s.mini (number id))) vote ∷ []

-- the machine appends the records of the same entry, and posts this message where this one is sent
pub record IsSameReaction (r : node.Reaction) (x : machine.Reaction) (answer : Option sent.Message) (posts : List Message) : Type 0 where
  pub answered : r.answer ≡ answer
  pub appended : x.appends ≡ records_of r.entry
  pub posted : x.posts ≡ posts
