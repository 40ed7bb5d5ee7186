-- What reading the items of a log's entries gives.
use Rattle.std.specs.Prelude.{◌+◌, ℕ, zero, suc, Bool, true, false, nat_lt, nat_le, if◌then◌else◌, List, [], ◌∷◌, length, take, drop, Option, Some, None, slice_get, Result, Ok, Err}
use Rattle.std.specs.Int.{w64}
use Rattle.sfs_base.specs.Reading.{◌>>=◌}
use Rattle.sfs_xdr.specs.Items.{padding_of}
use Rattle.sfs_xdr.specs.Reading.{number_of}
use Rattle.sfs_xdr.specs.Codec.{Reading, plainly, number_item, boolean_item, fixed_item, both_of, made_of, tested_of, counted_of}
use Rattle.mini_tx.specs.declared.cut_id.CutId.{CutId}
use Rattle.mini_tx.specs.declared.entry.Entry.{Entry}
use Rattle.mini_tx.specs.declared.entry.Entry.TheVariants as entry
use Rattle.mini_tx.specs.declared.range.Range.{Range}
use Rattle.mini_tx.specs.declared.tx_id.TxId.{TxId}
use Rattle.mini_tx.specs.declared.vote.Vote.{Vote}
use Rattle.mini_tx.specs.declared.vote.Vote.TheVariants as vote
use Rattle.mini_tx.specs.declared.write_at.WriteAt.{WriteAt}
use Rattle.mini_tx.specs.EntryGrammar.{longest, is_granted, is_refusal, are_participants}

abbrev pub hyper_item : Reading ℕ
hyper_item bytes = plainly (number_of w64 bytes)

-- every byte is zero
abbrev pub are_zeros : List ℕ → Bool
are_zeros [] = true
are_zeros (zero ∷ bytes) = are_zeros bytes
are_zeros (suc n ∷ bytes) = false

-- behind n bytes stand zeros that fill them up
unfoldable pub is_filled : ℕ → List ℕ → Bool
is_filled n bytes = if nat_lt (length bytes) (n + padding_of n) then false else are_zeros (take (padding_of n) (drop n bytes))

-- n bytes that are filled up with zeros
unfoldable pub body_of : ℕ → Reading (List ℕ)
body_of n bytes = if is_filled n bytes then fixed_item n bytes else Err tt

-- at most so many bytes behind their length, filled up with zeros
unfoldable pub filled_of : ℕ → Reading (List ℕ)
filled_of max bytes = do
  n ← number_item bytes
  if nat_le n.0 max then body_of n.0 n.1 else Err tt

abbrev pub id_from : ℕ × (ℕ × ℕ) → TxId
id_from p = record { coord = p.0; boot = p.1.0; seq = p.1.1 }

unfoldable pub id_item : Reading TxId
id_item = made_of id_from (both_of number_item (both_of hyper_item hyper_item))

abbrev pub cut_from : ℕ × ℕ → CutId
cut_from p = record { boot = p.0; seq = p.1 }

unfoldable pub cut_item : Reading CutId
cut_item = made_of cut_from (both_of hyper_item hyper_item)

abbrev pub range_from : ℕ × ℕ → Range
range_from p = record { at = p.0; length = p.1 }

unfoldable pub range_item : Reading Range
range_item = made_of range_from (both_of number_item number_item)

abbrev pub write_from : ℕ × List ℕ → WriteAt
write_from p = record { at = p.0; bytes = p.1 }

unfoldable pub write_item : Reading WriteAt
write_item = made_of write_from (both_of number_item (filled_of longest))

-- ---- a number, and behind it what it stands for

-- where there is such a reader
abbrev pub read_by : {X : Type 0} → Option (Reading X) → Reading X
read_by None bytes = Err tt
read_by (Some read) bytes = read bytes

unfoldable pub numbered_of : {X : Type 0} → (ℕ → Reading X) → Reading X
numbered_of fields bytes = do
  n ← number_item bytes
  fields n.0 n.1

-- ---- votes

unfoldable pub granted_of : Reading Vote
granted_of = made_of (λ p. vote.Granted p) (counted_of longest (filled_of longest))

unfoldable pub mismatch_of : Reading Vote
mismatch_of = made_of (λ p. vote.Mismatch p.0 p.1) (both_of number_item (filled_of longest))

unfoldable pub locked_of : Reading Vote
locked_of = made_of (λ p. vote.Locked p) id_item

unfoldable pub forced_of : Reading Vote
forced_of = made_of (λ p. vote.Forced p) id_item

unfoldable pub held_of : Reading Vote
held_of = made_of (λ p. vote.Held p) cut_item

-- the readers of the votes, in their order
abbrev pub vote_readers : List (Reading Vote)
vote_readers = granted_of ∷ mismatch_of ∷ locked_of ∷ forced_of ∷ held_of ∷ []

unfoldable pub vote_fields : ℕ → Reading Vote
vote_fields n = read_by (slice_get vote_readers n)

abbrev pub vote_item : Reading Vote
vote_item = numbered_of vote_fields

-- ---- entries

abbrev pub granted_item : Reading Vote
granted_item = tested_of is_granted vote_item

abbrev pub refusal_item : Reading Vote
refusal_item = tested_of is_refusal vote_item

abbrev pub participants_item : Reading (List ℕ)
participants_item = tested_of are_participants (counted_of longest number_item)

abbrev pub ranges_item : Reading (List Range)
ranges_item = counted_of longest range_item

abbrev pub writes_item : Reading (List WriteAt)
writes_item = counted_of longest write_item

-- no entry has kind 0
unfoldable pub none_of : Reading Entry
none_of bytes = Err tt

unfoldable pub single_of : Reading Entry
single_of = made_of (λ p. entry.Single p.0 p.1.0 p.1.1) (both_of id_item (both_of granted_item writes_item))

unfoldable pub prepared_of : Reading Entry
prepared_of =
    made_of (λ p. entry.Prepared p.0 p.1.0 p.1.1.0 p.1.1.1.0 p.1.1.1.1)
    (both_of id_item (both_of participants_item (both_of granted_item (both_of ranges_item writes_item))))

unfoldable pub refused_of : Reading Entry
refused_of = made_of (λ p. entry.Refused p.0 p.1) (both_of id_item refusal_item)

unfoldable pub decided_of : Reading Entry
decided_of = made_of (λ p. entry.Decided p.0 p.1) (both_of id_item boolean_item)

unfoldable pub forgotten_of : Reading Entry
forgotten_of = made_of (λ p. entry.Forgotten p) id_item

unfoldable pub cut_of : Reading Entry
cut_of = made_of (λ p. entry.Cut p) cut_item

unfoldable pub floor_of : Reading Entry
floor_of = made_of (λ p. entry.Floor p.0 p.1) (both_of id_item vote_item)

-- the readers of the entries, by their kind
abbrev pub entry_readers : List (Reading Entry)
entry_readers = none_of ∷ single_of ∷ prepared_of ∷ refused_of ∷ decided_of ∷ forgotten_of ∷ cut_of ∷ floor_of ∷ []

unfoldable pub entry_fields : ℕ → Reading Entry
entry_fields n = read_by (slice_get entry_readers n)

abbrev pub entry_item : Reading Entry
entry_item = numbered_of entry_fields

-- an entry, where nothing stands behind it
abbrev pub whole_of : Result (Entry × List ℕ) (Unit {0}) → Result Entry (Unit {0})
whole_of (Ok (e, [])) = Ok e
whole_of (Ok (e, (b ∷ bytes))) = Err tt
whole_of (Err t) = Err tt

-- the entry that the bytes are
abbrev pub entry_of : List ℕ → Result Entry (Unit {0})
entry_of bytes = whole_of (entry_item bytes)
