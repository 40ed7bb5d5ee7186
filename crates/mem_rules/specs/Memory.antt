-- What a memory node keeps in memory, as contracts see it, and what it does with a message.
use Rattle.std.specs.Prelude.{◌≡◌, Option, Some, None, length, box_value}
use Rattle.mini_tx.specs.declared.entry.Entry.{Entry}
use Rattle.mini_tx.specs.declared.entry.Entry.TheVariants as entry
use Rattle.mini_tx.specs.declared.tx_id.TxId.{TxId}
use Rattle.mini_tx.specs.declared.vote.Vote.{Vote}
use Rattle.lock_table.specs.Table.{HasRoom}
use Rattle.mem_rules.specs.declared.kept.Kept.{Kept}
use Rattle.mem_rules.specs.declared.memory.Memory.{Memory}
use Rattle.mem_rules.specs.declared.reaction.Reaction as code
use Rattle.mem_rules.specs.declared.room.Room.{Room}
use Rattle.mem_rules.specs.declared.room.Room.TheVariants.{Nothing, Record}
use Rattle.mem_rules.specs.declared.setup.Setup.{Setup}
use Rattle.mem_rules.specs.Records.{records_in, HasRecordRoom}
use Rattle.mem_rules.specs.State.{State, begun_with, state_with, kept_of}
use Rattle.mem_rules.specs.Rules.{Node, Reaction, standing, vote_standing}

-- what it took from its log
abbrev pub state_of : Memory → State
state_of m = state_with m.floors.items (records_in m.kept) m.cut m.image

-- which memory node of which cluster it is
abbrev pub setup_in : Memory → Setup
setup_in m = m.setup

-- no cut is held yet
abbrev pub node_with : State → Node
node_with s = record { state = s; copy = None }

abbrev pub node_of : Memory → Node
node_of m = node_with (state_of m)

-- the same entry is appended, and the same message sent
abbrev pub IsReaction : code.Reaction → Reaction → Type 0
IsReaction r x = (r.entry ≡ x.entry) × (r.answer ≡ x.answer)

-- the vote of the record of an identifier, or of the floor where it is the identifier
abbrev pub vote_kept : Option Kept → Option Vote → Option Vote
vote_kept (Some k) otherwise = Some k.vote
vote_kept None otherwise = otherwise

abbrev pub vote_of : State → TxId → Option Vote
vote_of s id = vote_kept (kept_of s.kept id) (vote_standing (standing s id))

-- there is room for a record
abbrev pub IsRecordRoom : Room → Type 0
IsRecordRoom Nothing = ⊥
IsRecordRoom (Record b) = Unit {0}

-- it has the record's identifier and vote
abbrev pub IsBegunWith : TxId → Vote → Room → Type 0
IsBegunWith id v Nothing = ⊥
IsBegunWith id v (Record b) = box_value b ≡ begun_with id v

-- the memory that an entry needs is there: of a record its place, with its identifier and its vote
abbrev pub IsRoomFor : Memory → Entry → Room → Type 0
IsRoomFor m (entry.Single id v writes) room = Unit {0}
IsRoomFor m (entry.Prepared id participants v ranges writes) room = IsBegunWith id v room × HasRecordRoom m.kept × HasRoom m.locks (length ranges)
IsRoomFor m (entry.Refused id v) room = Unit {0}
IsRoomFor m (entry.Decided id commit) room = Unit {0}
IsRoomFor m (entry.Forgotten id) room = Unit {0}
IsRoomFor m (entry.Cut cut) room = Unit {0}
IsRoomFor m (entry.Floor id v) room = Unit {0}
