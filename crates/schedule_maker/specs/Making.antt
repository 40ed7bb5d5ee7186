-- The schedule that a number makes.
use Rattle.std.specs.Prelude.{◌≡◌, ℕ, zero, suc, ◌+◌, ◌*◌, ◌-◌, ◌/◌, ◌%◌, ◌^◌, ◌==◌, if◌then◌else◌, List, [], ◌∷◌, ◌++◌, decimal, replicate, Option, Some, None}
use Rattle.nfs_proto.specs.Arguments.{arguments_spelling, procedure_of}
use Rattle.nfs_proto.specs.declared.call.Call.{Call}
use Rattle.nfs_proto.specs.declared.call.Call.TheVariants.{GetAttr, Lookup, Write, Create, Remove, MakeDir, RemoveDir, ReadDir}
use Rattle.nfs_proto.specs.declared.handle.Handle.{Handle}
use Rattle.nfs_proto.specs.declared.sattr.Sattr.{Sattr}
use Rattle.nfs_proto.specs.declared.stamp.Stamp.{Stamp}
use Rattle.rpc_msg.specs.Messages.{call_spelling, nobody}
use Rattle.rpc_msg.specs.declared.rpc_call.RpcCall.{RpcCall}
use Rattle.fs_layout.specs.Handles.{handle}
use Rattle.mini_tx.specs.declared.actor.Actor.TheVariants.{Memory}
use Rattle.event_text.specs.declared.event.Event.{Event}
use Rattle.event_text.specs.declared.event.Event.TheVariants as event
use Rattle.event_text.specs.declared.start_choice.StartChoice.TheVariants.{New}
use Rattle.schedule_maker.specs.Draws.{next_number, drawn}
use Rattle.schedule_maker.specs.declared.turn_draws.TurnDraws.{TurnDraws}

-- ---- what an arrival asks for

-- the handle of a file
abbrev pub handle_of : ℕ → ℕ → Handle
handle_of number generation = record { 0 = handle number generation }

-- that of the root
abbrev pub root : Handle
root = handle_of 1 1

-- a moment that is not set, and attributes of which none is
abbrev pub unset_time : Stamp
unset_time = record { sec = 2 ^ 32 - 1; usec = 2 ^ 32 - 1 }

abbrev pub unset : Sattr
unset = record { mode = 2 ^ 32 - 1; uid = 2 ^ 32 - 1; gid = 2 ^ 32 - 1; size = 2 ^ 32 - 1; atime = unset_time; mtime = unset_time }

-- the names of files and of directories: `f` and `d` with a number
abbrev pub file_name : ℕ → List ℕ
file_name j = 102 ∷ decimal j

abbrev pub directory_name : ℕ → List ℕ
directory_name j = 100 ∷ decimal j

-- the eight calls, with a name or a place by the number j; the last writes 100 bytes `a`
unfoldable pub call_of : ℕ → ℕ → Call
call_of o j =
    if o == 0 then Create root (file_name j) unset
    else if o == 1 then Lookup root (file_name j)
    else if o == 2 then Remove root (file_name j)
    else if o == 3 then MakeDir root (directory_name j) unset
    else if o == 4 then RemoveDir root (directory_name j)
    else if o == 5 then ReadDir root 0 4096
    else if o == 6 then GetAttr root
    else Write (handle_of (16384 * (j % 4) + j / 4 + 2) 1) 0 (1000 * j) 0 (replicate 100 97)

-- the datagram of the i-th arrival
abbrev pub datagram_of : ℕ → Call → List ℕ
datagram_of i call = call_spelling (record { xid = i; program = 100003; procedure = procedure_of call; cred = nobody; args = arguments_spelling call })

-- ---- the turns

-- the draws of a turn: each takes the next number
unfoldable pub draws_of : ℕ → TurnDraws
draws_of x =
    let a = next_number x in
    let b = next_number a in
    let c = next_number b in
    let d = next_number c in
    let e = next_number d in
    record { node = drawn a 4; call = drawn b 8; name = drawn c 16; drain = drawn d 40; fault = drawn e 16; last = e }

-- a memory node crashes, starts with what it wrote, and is swept
abbrev pub crash_events : ℕ → List Event
crash_events m = event.Crash (Memory m) ∷ event.Start (Memory m) New ∷ event.Sweep m ∷ []

-- where the last draw of a turn is 0, which memory node crashes is one draw more
unfoldable pub fault_events : ℕ → ℕ → List Event
fault_events fault x = if fault == 0 then crash_events (drawn (next_number x) 4) else []

-- the number after a turn
unfoldable pub number_after : ℕ → ℕ → ℕ
number_after fault x = if fault == 0 then next_number x else x

-- the arrival of the i-th turn, at moment i
abbrev pub arrival_of : ℕ → TurnDraws → Event
arrival_of i t = event.Arrive t.node i 0 (datagram_of i (call_of t.call t.name))

-- the events of the i-th turn: an arrival, a drain, and maybe a crash
unfoldable pub turn_events : ℕ → ℕ → List Event
turn_events i x = arrival_of i (draws_of x) ∷ event.Drain ((draws_of x).drain + 1) ∷ fault_events (draws_of x).fault (draws_of x).last

-- the number after it
unfoldable pub after_turn : ℕ → ℕ
after_turn x = number_after (draws_of x).fault (draws_of x).last

-- what stands at the end: all memory nodes are swept, and all messages are delivered
abbrev pub last_events : List Event
last_events = event.Sweep 0 ∷ event.Sweep 1 ∷ event.Sweep 2 ∷ event.Sweep 3 ∷ event.Drain 100000 ∷ event.End ∷ []

-- so many turns from the i-th on, and the end
unfoldable pub turns : ℕ → ℕ → ℕ → List Event
turns zero i x = last_events
turns (suc count) i x = turn_events i x ++ turns count (i + 1) (after_turn x)

-- the cluster
abbrev pub first_event : Event
first_event = event.Cluster 4 4 256 256

-- the schedule of a number, with so many arrivals
abbrev pub schedule : ℕ → ℕ → List Event
schedule seed count = first_event ∷ turns count 1 seed

-- the first of the events that are left, and the others
abbrev pub FirstOf : List Event → List Event → Option Event → Type 0
FirstOf old new None = (old ≡ []) × (new ≡ [])
FirstOf old new (Some e) = old ≡ e ∷ new
