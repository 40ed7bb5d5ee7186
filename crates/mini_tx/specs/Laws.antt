-- That reading takes just the spellings of entries, and that what is written is one of them.
use Rattle.std.specs.Prelude.{◌<◌, ◌^◌, ℕ, List}
use Rattle.std.specs.List.{AllByRecursion}
use Rattle.sfs_base.specs.Reading.{IsExact}
use Rattle.sfs_xdr.specs.Items.{AreWords}
use Rattle.mini_tx.specs.declared.cut_id.CutId.{CutId}
use Rattle.mini_tx.specs.declared.entry.Entry.{Entry}
use Rattle.mini_tx.specs.declared.entry.Entry.TheVariants as entry
use Rattle.mini_tx.specs.declared.range.Range.{Range}
use Rattle.mini_tx.specs.declared.tx_id.TxId.{TxId}
use Rattle.mini_tx.specs.declared.vote.Vote.{Vote}
use Rattle.mini_tx.specs.declared.vote.Vote.TheVariants as vote
use Rattle.mini_tx.specs.declared.write_at.WriteAt.{WriteAt}
use Rattle.mini_tx.specs.EntryGrammar.{IsEntry, FitsEntry, entry_spelling}
use Rattle.mini_tx.specs.EntryReading.{entry_item}

-- ---- what the types of the fields make sure of

abbrev pub IsTypedId : TxId → Type 0
IsTypedId t = (t.coord < 2 ^ 32) × (t.boot < 2 ^ 64) × (t.seq < 2 ^ 64)

abbrev pub IsTypedCut : CutId → Type 0
IsTypedCut c = (c.boot < 2 ^ 64) × (c.seq < 2 ^ 64)

abbrev pub IsTypedRange : Range → Type 0
IsTypedRange r = (r.at < 2 ^ 32) × (r.length < 2 ^ 32)

abbrev pub IsTypedWrite : WriteAt → Type 0
IsTypedWrite w = w.at < 2 ^ 32

abbrev pub IsTypedVote : Vote → Type 0
IsTypedVote (vote.Granted reads) = Unit {0}
IsTypedVote (vote.Mismatch place kept) = place < 2 ^ 32
IsTypedVote (vote.Locked holder) = IsTypedId holder
IsTypedVote (vote.Forced floor) = IsTypedId floor
IsTypedVote (vote.Held cut) = IsTypedCut cut

abbrev pub IsTypedEntry : Entry → Type 0
IsTypedEntry (entry.Single id vote writes) = IsTypedId id × IsTypedVote vote × AllByRecursion IsTypedWrite writes
IsTypedEntry (entry.Prepared id participants vote ranges writes) =
    IsTypedId id × AreWords participants × IsTypedVote vote × AllByRecursion IsTypedRange ranges × AllByRecursion IsTypedWrite writes
IsTypedEntry (entry.Refused id vote) = IsTypedId id × IsTypedVote vote
IsTypedEntry (entry.Decided id commit) = IsTypedId id
IsTypedEntry (entry.Forgotten id) = IsTypedId id
IsTypedEntry (entry.Cut cut) = IsTypedCut cut
IsTypedEntry (entry.Floor id vote) = IsTypedId id × IsTypedVote vote

-- ---- the laws

-- reading takes the spellings of entries and nothing else, so that no spelling begins another
abbrev pub EntriesAreExact : Type 0
EntriesAreExact = IsExact entry_item IsEntry

-- what is written of an entry is its spelling
abbrev pub EntriesAreWritten : Type 0
EntriesAreWritten = (e : Entry) → IsTypedEntry e → FitsEntry e → IsEntry e (entry_spelling e)
