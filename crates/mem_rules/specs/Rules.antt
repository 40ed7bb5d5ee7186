-- How a memory node answers each message.
use Rattle.std.specs.Prelude.{ℕ, Bool, true, false, not, nat_le, ◌&&◌, ◌||◌, is_none, List, [], ◌∷◌, map, length, take, drop, Option, Some, None, if◌then◌else◌}
use Rattle.std.specs.List.{list_any}
use Rattle.mini_tx.specs.declared.cut_id.CutId.{CutId}
use Rattle.mini_tx.specs.declared.entry.Entry.{Entry}
use Rattle.mini_tx.specs.declared.entry.Entry.TheVariants as entry
use Rattle.mini_tx.specs.declared.held_answer.HeldAnswer.TheVariants as hold
use Rattle.mini_tx.specs.declared.kept_id.KeptId.{KeptId}
use Rattle.mini_tx.specs.declared.message.Message.{Message}
use Rattle.mini_tx.specs.declared.message.Message.TheVariants as message
use Rattle.mini_tx.specs.declared.placed_item.PlacedItem.{PlacedItem}
use Rattle.mini_tx.specs.declared.range.Range.{Range}
use Rattle.mini_tx.specs.declared.tx_id.TxId.{TxId}
use Rattle.mini_tx.specs.declared.vote.Vote.{Vote}
use Rattle.mini_tx.specs.declared.vote.Vote.TheVariants as vote
use Rattle.mini_tx.specs.EntryGrammar.{is_granted}
pub use Rattle.lock_table.specs.Order.{least_of}
use Rattle.lock_table.specs.Spans.{overlap}
use Rattle.mem_rules.specs.declared.floor.Floor.{Floor}
use Rattle.mem_rules.specs.declared.kept.Kept.{Kept}
use Rattle.mem_rules.specs.declared.rule.Rule.{Rule}
use Rattle.mem_rules.specs.declared.rule.Rule.TheVariants.{RecordAgain, FloorAgain, ForcedBy, HeldBy, LockedBy, MismatchAt, Passes}
use Rattle.mem_rules.specs.declared.standing.Standing.{Standing}
use Rattle.mem_rules.specs.declared.standing.Standing.TheVariants.{Above, At, Below}
use Rattle.mem_rules.specs.Identifiers.{precedes, is_same, cut_precedes, is_same_cut}
use Rattle.mem_rules.specs.declared.difference.Difference.{Difference}
use Rattle.mem_rules.specs.Items.{first_difference, reads_of, writes_of, any_write, range_of}
use Rattle.mem_rules.specs.State.{State, floor_at, kept_of, after_one}

-- the copy of the image that was made for a cut, and whether the cut is still held
pub record Copy : Type 0 where
  pub cut : CutId
  pub bytes : List ℕ
  pub is_held : Bool

-- what a memory node has: what it takes from its log, and the copy, which a start loses
pub record Node : Type 0 where
  pub state : State
  pub copy : Option Copy

-- what it does with a message: the entry that it appends, then the message that it sends, and the copy that it has then
pub record Reaction : Type 0 where
  pub entry : Option Entry
  pub answer : Option Message
  pub copy : Option Copy

-- what it has then
abbrev pub after_reaction : Node → Reaction → Node
after_reaction n r = record { state = after_one n.state r.entry; copy = r.copy }

abbrev pub silent : Node → Reaction
silent n = record { entry = None; answer = None; copy = n.copy }

abbrev pub answers : Node → Message → Reaction
answers n m = record { entry = None; answer = Some m; copy = n.copy }

abbrev pub appends : Node → Entry → Message → Reaction
appends n e m = record { entry = Some e; answer = Some m; copy = n.copy }

-- ---- where an identifier stands

-- above the floor of its coordinator, at it, with its vote, or below it
abbrev pub to_floor : Option Floor → TxId → Standing
to_floor None id = Above
to_floor (Some floor) id = if precedes floor.id id then Above else if is_same floor.id id then At floor.vote else Below floor.id

abbrev pub standing : State → TxId → Standing
standing s id = to_floor (floor_at s.floors id.coord) id

abbrev pub is_above : Standing → Bool
is_above Above = true
is_above (At v) = false
is_above (Below floor) = false

-- the vote of the floor, where it is the identifier
abbrev pub vote_standing : Standing → Option Vote
vote_standing Above = None
vote_standing (At v) = Some v
vote_standing (Below floor) = None

abbrev pub is_granted_at : Standing → Bool
is_granted_at Above = false
is_granted_at (At v) = is_granted v
is_granted_at (Below floor) = false

-- ---- locks: the ranges of kept records that are not decided

-- whether one of these ranges overlaps one of those
abbrev pub meet : List Range → List Range → Bool
meet these those = list_any (λ a. list_any (overlap a) those) these

abbrev pub is_undecided : Kept → Bool
is_undecided k = is_none k.decision

abbrev pub blocks : List Range → Kept → Bool
blocks ranges k = is_undecided k && meet k.ranges ranges

-- the least identifier of a record with a property, where that of the records before is known
abbrev pub least_with : (Kept → Bool) → Option TxId → List Kept → Option TxId
least_with test least [] = least
least_with test least (k ∷ kept) = least_with test (if test k then least_of least k.id else least) kept

abbrev pub least_holder : State → List Range → Option TxId
least_holder s ranges = least_with (blocks ranges) None s.kept

-- ---- prepare

abbrev pub rule_by_items : Option Difference → Rule
rule_by_items (Some difference) = MismatchAt difference
rule_by_items None = Passes

abbrev pub rule_by_locks : Option TxId → Option Difference → Rule
rule_by_locks (Some holder) difference = LockedBy holder
rule_by_locks None difference = rule_by_items difference

abbrev pub held_cut : Option Copy → Option CutId
held_cut None = None
held_cut (Some copy) = if copy.is_held then Some copy.cut else None

abbrev pub rule_by_cut : Option CutId → Option TxId → Option Difference → Rule
rule_by_cut (Some cut) holder difference = HeldBy cut
rule_by_cut None holder difference = rule_by_locks holder difference

abbrev pub rule_by_floor : Standing → Rule → Rule
rule_by_floor Above otherwise = otherwise
rule_by_floor (At v) otherwise = FloorAgain v
rule_by_floor (Below floor) otherwise = ForcedBy floor

abbrev pub rule_by_record : Option Kept → Rule → Rule
rule_by_record (Some k) otherwise = RecordAgain k.vote
rule_by_record None otherwise = otherwise

-- the rule where the identifier is new
abbrev pub rule_above : Node → List PlacedItem → Rule
rule_above n items = rule_by_cut (held_cut n.copy) (least_holder n.state (map range_of items)) (first_difference n.state.image items)

-- the first rule that fits
abbrev pub rule_for : Node → TxId → List PlacedItem → Rule
rule_for n id items = rule_by_record (kept_of n.state.kept id) (rule_by_floor (standing n.state id) (rule_above n items))

-- the vote that each rule gives
abbrev pub vote_by : List ℕ → List PlacedItem → Rule → Vote
vote_by image items (RecordAgain v) = v
vote_by image items (FloorAgain v) = v
vote_by image items (ForcedBy floor) = vote.Forced floor
vote_by image items (HeldBy cut) = vote.Held cut
vote_by image items (LockedBy holder) = vote.Locked holder
vote_by image items (MismatchAt d) = vote.Mismatch d.place d.kept
vote_by image items Passes = vote.Granted (reads_of image items)

-- whether it is a new vote, and no earlier one or Forced
abbrev pub is_new : Rule → Bool
is_new (RecordAgain v) = false
is_new (FloorAgain v) = false
is_new (ForcedBy floor) = false
is_new (HeldBy cut) = true
is_new (LockedBy holder) = true
is_new (MismatchAt d) = true
is_new Passes = true

abbrev pub has_several : List ℕ → Bool
has_several participants = nat_le 2 (length participants)

-- a new vote has an entry, where there are several participants or a write item
abbrev pub is_logged : List ℕ → List PlacedItem → Bool
is_logged participants items = has_several participants || any_write items

-- the entry of a new vote
abbrev pub entry_of_vote : TxId → List ℕ → List PlacedItem → Vote → Entry
entry_of_vote id participants items v =
    if is_granted v
    then (if has_several participants then entry.Prepared id participants v (map range_of items) (writes_of items) else entry.Single id v (writes_of items))
    else entry.Refused id v

-- a new vote becomes the floor
abbrev pub casts : Node → TxId → List ℕ → List PlacedItem → Vote → Reaction
casts n id participants items v =
    if is_logged participants items then appends n (entry_of_vote id participants items v) (message.Voted id v) else answers n (message.Voted id v)

abbrev pub by_rule : Node → TxId → List ℕ → List PlacedItem → Rule → Reaction
by_rule n id participants items rule =
    if is_new rule then casts n id participants items (vote_by n.state.image items rule) else answers n (message.Voted id (vote_by n.state.image items rule))

abbrev pub on_prepare : Node → TxId → List ℕ → List PlacedItem → Reaction
on_prepare n id participants items = by_rule n id participants items (rule_for n id items)

-- ---- decide, forget, ask

-- an identifier above the floor is forced to abort
abbrev pub forces : Node → TxId → Standing → Message → Reaction
forces n id Above m = appends n (entry.Refused id (vote.Forced id)) m
forces n id (At v) m = answers n m
forces n id (Below floor) m = answers n m

abbrev pub on_decide : Node → TxId → Bool → Option Kept → Reaction
on_decide n id commit (Some k) = if is_undecided k then appends n (entry.Decided id commit) (message.Done id) else answers n (message.Done id)
on_decide n id true None = answers n (message.Done id)
on_decide n id false None = forces n id (standing n.state id) (message.Done id)

abbrev pub on_forget : Node → TxId → Option Kept → Reaction
on_forget n id (Some k) = if is_undecided k then silent n else record { entry = Some (entry.Forgotten id); answer = None; copy = n.copy }
on_forget n id None = silent n

abbrev pub by_floor_asked : Node → TxId → Standing → Reaction
by_floor_asked n id Above = forces n id Above (message.Answer id false)
by_floor_asked n id (At v) = answers n (message.Answer id (is_granted v))
by_floor_asked n id (Below floor) = answers n (message.Answer id false)

abbrev pub on_ask : Node → TxId → Option Kept → Reaction
on_ask n id (Some k) = answers n (message.Answer id true)
on_ask n id None = by_floor_asked n id (standing n.state id)

-- ---- list

abbrev pub named : Kept → KeptId
named k = record { id = k.id; participants = k.participants }

-- the least 64 kept identifiers, and the cut that is held
abbrev pub on_list : Node → Reaction
on_list n = answers n (message.Kept (map named (take 64 n.state.kept)) (held_cut n.copy))

-- ---- cuts

abbrev pub is_copied : Option Copy → CutId → Bool
is_copied None cut = false
is_copied (Some copy) cut = is_same_cut copy.cut cut

abbrev pub is_past : Option CutId → CutId → Bool
is_past None cut = false
is_past (Some floor) cut = not (cut_precedes floor cut)

-- the cut becomes the cut floor and an older one is dropped; then, without a lock, the image is copied
abbrev pub holds : Node → CutId → Option TxId → Reaction
holds n cut (Some holder) = record { entry = Some (entry.Cut cut); answer = Some (message.Held cut (hold.Locked holder)); copy = None }
holds n cut None =
    record {
      entry = Some (entry.Cut cut);
      answer = Some (message.Held cut hold.Copied);
      copy = Some (record { cut = cut; bytes = n.state.image; is_held = true });
    }

abbrev pub by_cut_floor : Node → CutId → Option CutId → Reaction
by_cut_floor n cut None = holds n cut (least_with is_undecided None n.state.kept)
by_cut_floor n cut (Some floor) =
    if cut_precedes floor cut then holds n cut (least_with is_undecided None n.state.kept) else answers n (message.Held cut (hold.Past floor))

abbrev pub on_hold : Node → CutId → Reaction
on_hold n cut = if is_copied n.copy cut then answers n (message.Held cut hold.Copied) else by_cut_floor n cut n.state.cut

abbrev pub let_go : Option Copy → CutId → Option Copy
let_go None cut = None
let_go (Some copy) cut = if is_same_cut copy.cut cut then Some (record copy { is_held = false }) else Some copy

abbrev pub dropped : Option Copy → CutId → Option Copy
dropped None cut = None
dropped (Some copy) cut = if is_same_cut copy.cut cut then None else Some copy

-- the bytes of the copy of this cut from a place on, at most 65,536
abbrev pub piece_of : Option Copy → CutId → ℕ → Option (List ℕ)
piece_of None cut place = None
piece_of (Some copy) cut place = if is_same_cut copy.cut cut then Some (take 65536 (drop place copy.bytes)) else None

-- ---- each message

-- what a memory node does with each message; it ignores those that are for others
abbrev pub react : Node → Message → Reaction
react n (message.Prepare id participants items) = on_prepare n id participants items
react n (message.Decide id commit) = on_decide n id commit (kept_of n.state.kept id)
react n (message.Forget id) = on_forget n id (kept_of n.state.kept id)
react n message.List = on_list n
react n (message.Ask id) = on_ask n id (kept_of n.state.kept id)
react n (message.Hold cut) = on_hold n cut
react n (message.Release cut) = record { entry = None; answer = None; copy = let_go n.copy cut }
react n (message.Drop cut) = record { entry = None; answer = None; copy = dropped n.copy cut }
react n (message.ReadCut cut place) = answers n (message.Piece cut place (piece_of n.copy cut place))
react n (message.Voted id v) = silent n
react n (message.Done id) = silent n
react n (message.Kept ids cut) = silent n
react n (message.Answer id ok) = silent n
react n (message.Held cut answer) = silent n
react n (message.Piece cut place bytes) = silent n
