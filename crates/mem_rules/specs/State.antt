-- What the entries of a memory node's log make: floors, kept records, the cut floor, and the image.
use Rattle.std.specs.Prelude.{ℕ, Bool, not, List, [], ◌∷◌, filter, map, find, replicate, slice_index_or, slice_set, Option, Some, None, if◌then◌else◌}
use Rattle.mini_tx.specs.declared.cut_id.CutId.{CutId}
use Rattle.mini_tx.specs.declared.entry.Entry.{Entry}
use Rattle.mini_tx.specs.declared.entry.Entry.TheVariants as entry
use Rattle.mini_tx.specs.declared.range.Range.{Range}
use Rattle.mini_tx.specs.declared.tx_id.TxId.{TxId}
use Rattle.mini_tx.specs.declared.vote.Vote.{Vote}
use Rattle.mini_tx.specs.declared.write_at.WriteAt.{WriteAt}
use Rattle.mem_rules.specs.declared.floor.Floor.{Floor}
use Rattle.mem_rules.specs.declared.kept.Kept.{Kept}
use Rattle.mem_rules.specs.Identifiers.{precedes, is_same, cut_precedes}
use Rattle.mem_rules.specs.Items.{written}

-- what a memory node takes from its log
pub record State : Type 0 where
  -- at the number of each coordinator, the greatest identifier that was voted on with an entry or forced to abort
  pub floors : List (Option Floor)
  -- the granted votes of several participants that are not forgotten, in ascending order of their identifiers
  pub kept : List Kept
  -- the greatest cut that was held
  pub cut : Option CutId
  pub image : List ℕ

abbrev pub state_with : List (Option Floor) → List Kept → Option CutId → List ℕ → State
state_with floors kept cut image = record { floors = floors; kept = kept; cut = cut; image = image }

-- before the first entry, with this image stored
abbrev pub opened : ℕ → List ℕ → State
opened nodes image = record { floors = replicate nodes None; kept = []; cut = None; image = image }

-- ---- floors

abbrev pub floor_at : List (Option Floor) → ℕ → Option Floor
floor_at floors coord = slice_index_or floors coord None

-- a floor never falls
abbrev pub raised : Option Floor → TxId → Vote → Option Floor
raised None id vote = Some (record { id = id; vote = vote })
raised (Some floor) id vote = if precedes floor.id id then Some (record { id = id; vote = vote }) else Some floor

abbrev pub raise : List (Option Floor) → TxId → Vote → List (Option Floor)
raise floors id vote = slice_set floors id.coord (raised (floor_at floors id.coord) id vote)

abbrev pub raised_cut : Option CutId → CutId → Option CutId
raised_cut None cut = Some cut
raised_cut (Some floor) cut = if cut_precedes floor cut then Some cut else Some floor

-- ---- kept records

abbrev pub kept_of : List Kept → TxId → Option Kept
kept_of kept id = find (λ k. is_same k.id id) kept

-- a record in its place among ascending ones
abbrev pub placed_in : Kept → List Kept → List Kept
placed_in k [] = k ∷ []
placed_in k (other ∷ others) = if precedes other.id k.id then other ∷ placed_in k others else k ∷ (other ∷ others)

abbrev pub writes_kept : Option Kept → List WriteAt
writes_kept None = []
writes_kept (Some k) = k.writes

-- a record that has no more than its identifier and its vote yet
abbrev pub begun_with : TxId → Vote → Kept
begun_with id v = record { id = id; participants = []; vote = v; ranges = []; writes = []; decision = None }

-- with what its entry has beside them
abbrev pub filled_with : List ℕ → List Range → List WriteAt → Kept → Kept
filled_with participants ranges writes k = record k { participants = participants; ranges = ranges; writes = writes }

-- a decided record: its ranges are locked no longer, and its writes are made or never will be
abbrev pub with_decision : Bool → Kept → Kept
with_decision commit k = record k { ranges = []; writes = []; decision = Some commit }

-- the record of this identifier is decided
abbrev pub decided : TxId → Bool → Kept → Kept
decided id commit k = if is_same k.id id then with_decision commit k else k

-- the image with the writes of what is committed
abbrev pub committed : Bool → List ℕ → List WriteAt → List ℕ
committed commit image writes = if commit then written image writes else image

-- ---- entries

abbrev pub after_entry : State → Entry → State
after_entry s (entry.Single id vote writes) = record s { floors = raise s.floors id vote; image = written s.image writes }
after_entry s (entry.Prepared id participants vote ranges writes) =
    record s {
      floors = raise s.floors id vote;
      kept = placed_in (record { id = id; participants = participants; vote = vote; ranges = ranges; writes = writes; decision = None }) s.kept;
    }
after_entry s (entry.Refused id vote) = record s { floors = raise s.floors id vote }
after_entry s (entry.Decided id commit) =
    record s { kept = map (decided id commit) s.kept; image = committed commit s.image (writes_kept (kept_of s.kept id)) }
after_entry s (entry.Forgotten id) = record s { kept = filter (λ k. not (is_same k.id id)) s.kept }
after_entry s (entry.Cut cut) = record s { cut = raised_cut s.cut cut }
after_entry s (entry.Floor id vote) = record s { floors = raise s.floors id vote }

-- after all of them, in order
abbrev pub after : State → List Entry → State
after s [] = s
after s (e ∷ entries) = after (after_entry s e) entries

-- after the entry that is appended, if one is
abbrev pub after_one : State → Option Entry → State
after_one s None = s
after_one s (Some e) = after_entry s e
