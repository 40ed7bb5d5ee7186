-- How entries of a log are spelled: items of XDR (RFC 1014), filled up with zeros.
use Rattle.std.specs.Prelude.{◌≡◌, ◌<◌, ◌≤◌, ◌^◌, ◌==◌, ◌&&◌, ℕ, Bool, true, false, nat_lt, nat_le, List, [], ◌∷◌, ◌++◌, length}
use Rattle.std.specs.Int.{w64, to_be_bytes}
use Rattle.std.specs.List.{flat_map, AllByRecursion}
use Rattle.sfs_xdr.specs.Items.{word, boolean, opaque_var}
use Rattle.sfs_xdr.specs.Codec.{◌⟫◌, IsNumber, IsBoolean, IsCounted}
use Rattle.mini_tx.specs.declared.cut_id.CutId.{CutId}
use Rattle.mini_tx.specs.declared.entry.Entry.{Entry}
use Rattle.mini_tx.specs.declared.entry.Entry.TheVariants as entry
use Rattle.mini_tx.specs.declared.range.Range.{Range}
use Rattle.mini_tx.specs.declared.tx_id.TxId.{TxId}
use Rattle.mini_tx.specs.declared.vote.Vote.{Vote}
use Rattle.mini_tx.specs.declared.vote.Vote.TheVariants as vote
use Rattle.mini_tx.specs.declared.write_at.WriteAt.{WriteAt}

-- ---- parts

-- the greatest number that a length or a count may be
abbrev pub longest : ℕ
longest = 4294967295

-- a number below 2^64: eight bytes, the highest first (RFC 1014, section 3.3)
unfoldable pub hyper : ℕ → List ℕ
hyper n = to_be_bytes w64 n

abbrev pub IsHyper : ℕ → List ℕ → Type 0
IsHyper n item = (n < 2 ^ 64) × (item ≡ hyper n)

-- bytes behind their length, filled up with zeros
abbrev pub IsFilled : ℕ → List ℕ → List ℕ → Type 0
IsFilled max bytes item = (length bytes ≤ max) × (item ≡ opaque_var bytes)

-- an identifier: coordinator, boot number, number within it
abbrev pub IsId : TxId → List ℕ → Type 0
IsId t = IsNumber t.coord ⟫ IsHyper t.boot ⟫ IsHyper t.seq

-- a cut: boot number, number within it
abbrev pub IsCut : CutId → List ℕ → Type 0
IsCut c = IsHyper c.boot ⟫ IsHyper c.seq

-- a range: address, length
abbrev pub IsRange : Range → List ℕ → Type 0
IsRange r = IsNumber r.at ⟫ IsNumber r.length

-- a write: address, bytes
abbrev pub IsWrite : WriteAt → List ℕ → Type 0
IsWrite w = IsNumber w.at ⟫ IsFilled longest w.bytes

-- ---- votes: their number in the order of the variants, and their fields

abbrev pub vote_number : Vote → ℕ
vote_number (vote.Granted reads) = 0
vote_number (vote.Mismatch place kept) = 1
vote_number (vote.Locked holder) = 2
vote_number (vote.Forced floor) = 3
vote_number (vote.Held cut) = 4

abbrev pub IsVoteFields : Vote → List ℕ → Type 0
IsVoteFields (vote.Granted reads) item = IsCounted longest (IsFilled longest) reads item
IsVoteFields (vote.Mismatch place kept) item = (IsNumber place ⟫ IsFilled longest kept) item
IsVoteFields (vote.Locked holder) item = IsId holder item
IsVoteFields (vote.Forced floor) item = IsId floor item
IsVoteFields (vote.Held cut) item = IsCut cut item

abbrev pub IsVote : Vote → List ℕ → Type 0
IsVote v = IsNumber (vote_number v) ⟫ IsVoteFields v

abbrev pub is_granted : Vote → Bool
is_granted v = vote_number v == 0

abbrev pub is_refusal : Vote → Bool
is_refusal v = nat_le 1 (vote_number v)

-- ---- entries: their kind, and their fields

abbrev pub kind_of : Entry → ℕ
kind_of (entry.Single id vote writes) = 1
kind_of (entry.Prepared id participants vote ranges writes) = 2
kind_of (entry.Refused id vote) = 3
kind_of (entry.Decided id commit) = 4
kind_of (entry.Forgotten id) = 5
kind_of (entry.Cut cut) = 6
kind_of (entry.Floor id vote) = 7

-- each number is above the one before it
abbrev pub ascends_from : ℕ → List ℕ → Bool
ascends_from last [] = true
ascends_from last (n ∷ ns) = nat_lt last n && ascends_from n ns

-- two or more numbers, each above the one before it
abbrev pub are_participants : List ℕ → Bool
are_participants [] = false
are_participants (n ∷ ns) = nat_le 1 (length ns) && ascends_from n ns

abbrev pub IsGranted : Vote → List ℕ → Type 0
IsGranted v item = (is_granted v ≡ true) × IsVote v item

abbrev pub IsRefusal : Vote → List ℕ → Type 0
IsRefusal v item = (is_refusal v ≡ true) × IsVote v item

abbrev pub AreParticipants : List ℕ → List ℕ → Type 0
AreParticipants ns item = (are_participants ns ≡ true) × IsCounted longest IsNumber ns item

abbrev pub AreRanges : List Range → List ℕ → Type 0
AreRanges ranges = IsCounted longest IsRange ranges

abbrev pub AreWrites : List WriteAt → List ℕ → Type 0
AreWrites writes = IsCounted longest IsWrite writes

abbrev pub IsEntryFields : Entry → List ℕ → Type 0
IsEntryFields (entry.Single id vote writes) item = (IsId id ⟫ IsGranted vote ⟫ AreWrites writes) item
IsEntryFields (entry.Prepared id participants vote ranges writes) item =
    (IsId id ⟫ AreParticipants participants ⟫ IsGranted vote ⟫ AreRanges ranges ⟫ AreWrites writes) item
IsEntryFields (entry.Refused id vote) item = (IsId id ⟫ IsRefusal vote) item
IsEntryFields (entry.Decided id commit) item = (IsId id ⟫ IsBoolean commit) item
IsEntryFields (entry.Forgotten id) item = IsId id item
IsEntryFields (entry.Cut cut) item = IsCut cut item
IsEntryFields (entry.Floor id vote) item = (IsId id ⟫ IsVote vote) item

abbrev pub IsEntry : Entry → List ℕ → Type 0
IsEntry e = IsNumber (kind_of e) ⟫ IsEntryFields e

-- ---- what a writer spells

abbrev pub id_spelling : TxId → List ℕ
id_spelling t = word t.coord ++ (hyper t.boot ++ hyper t.seq)

abbrev pub cut_spelling : CutId → List ℕ
cut_spelling c = hyper c.boot ++ hyper c.seq

abbrev pub range_spelling : Range → List ℕ
range_spelling r = word r.at ++ word r.length

abbrev pub write_spelling : WriteAt → List ℕ
write_spelling w = word w.at ++ opaque_var w.bytes

-- values one behind another, behind their number
abbrev pub counted_spelling : {X : Type 0} → (X → List ℕ) → List X → List ℕ
counted_spelling spelling values = word (length values) ++ flat_map spelling values

abbrev pub vote_spelling : Vote → List ℕ
vote_spelling (vote.Granted reads) = word 0 ++ counted_spelling opaque_var reads
vote_spelling (vote.Mismatch place kept) = word 1 ++ (word place ++ opaque_var kept)
vote_spelling (vote.Locked holder) = word 2 ++ id_spelling holder
vote_spelling (vote.Forced floor) = word 3 ++ id_spelling floor
vote_spelling (vote.Held cut) = word 4 ++ cut_spelling cut

abbrev pub entry_spelling : Entry → List ℕ
entry_spelling (entry.Single id vote writes) = word 1 ++ (id_spelling id ++ (vote_spelling vote ++ counted_spelling write_spelling writes))
entry_spelling (entry.Prepared id participants vote ranges writes) =
    word 2
    ++ (id_spelling id ++ (counted_spelling word participants ++ (vote_spelling vote ++ (counted_spelling range_spelling ranges ++ counted_spelling write_spelling writes))))
entry_spelling (entry.Refused id vote) = word 3 ++ (id_spelling id ++ vote_spelling vote)
entry_spelling (entry.Decided id commit) = word 4 ++ (id_spelling id ++ boolean commit)
entry_spelling (entry.Forgotten id) = word 5 ++ id_spelling id
entry_spelling (entry.Cut cut) = word 6 ++ cut_spelling cut
entry_spelling (entry.Floor id vote) = word 7 ++ (id_spelling id ++ vote_spelling vote)

-- ---- what has a spelling

-- lists and bytes are not too long
abbrev pub FitsList : {X : Type 0} → (X → Type 0) → List X → Type 0
FitsList Fits values = (length values ≤ longest) × AllByRecursion Fits values

abbrev pub FitsBytes : List ℕ → Type 0
FitsBytes bytes = length bytes ≤ longest

abbrev pub FitsWrite : WriteAt → Type 0
FitsWrite w = length w.bytes ≤ longest

abbrev pub FitsNumber : ℕ → Type 0
FitsNumber n = Unit {0}

abbrev pub FitsRange : Range → Type 0
FitsRange r = Unit {0}

abbrev pub FitsVote : Vote → Type 0
FitsVote (vote.Granted reads) = FitsList FitsBytes reads
FitsVote (vote.Mismatch place kept) = FitsBytes kept
FitsVote (vote.Locked holder) = Unit {0}
FitsVote (vote.Forced floor) = Unit {0}
FitsVote (vote.Held cut) = Unit {0}

abbrev pub FitsEntry : Entry → Type 0
FitsEntry (entry.Single id vote writes) = (is_granted vote ≡ true) × FitsVote vote × FitsList FitsWrite writes
FitsEntry (entry.Prepared id participants vote ranges writes) =
    (are_participants participants ≡ true) × FitsList FitsNumber participants × (is_granted vote ≡ true) × FitsVote vote × FitsList FitsRange ranges × FitsList FitsWrite writes
FitsEntry (entry.Refused id vote) = (is_refusal vote ≡ true) × FitsVote vote
FitsEntry (entry.Decided id commit) = Unit {0}
FitsEntry (entry.Forgotten id) = Unit {0}
FitsEntry (entry.Cut cut) = Unit {0}
FitsEntry (entry.Floor id vote) = FitsVote vote
