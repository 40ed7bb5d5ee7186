-- The lines of a transcript: the words of each.
use Rattle.std.specs.Prelude.{◌≡◌, ◌≢◌, ℕ, ◌+◌, ◌^◌, ◌<◌, List, [], ◌∷◌, ◌++◌, codes, decimal, Option, Some, None}
use Rattle.std.specs.Borrow.{Bor}
use Rattle.sfs_base.specs.Reading.{IsBytes}
use Rattle.hex.specs.Hex.{encode_lower}
use Rattle.line_words.specs.Words.{words_of, text_of_words, HasDatagramLength}
use Rattle.mini_tx.specs.declared.actor.Actor.{Actor}
use Rattle.mini_tx.specs.declared.actor.Actor.TheVariants.{Node, Memory, Manager}
use Rattle.mini_tx.specs.declared.cut_id.CutId.{CutId}
use Rattle.mini_tx.specs.declared.tx_id.TxId.{TxId}
use Rattle.event_text.specs.declared.event.Event.{Event}
use Rattle.event_text.specs.Grammar.{actor_words, event_words, IsTypedActor, IsTypedEvent, IsWritableEvent, IsTold}
use Rattle.line_text.specs.Listed.{listed_of}
use Rattle.line_text.specs.declared.backup_why.BackupWhy.{BackupWhy}
use Rattle.line_text.specs.declared.backup_why.BackupWhy.TheVariants as backup
use Rattle.line_text.specs.declared.down_why.DownWhy.{DownWhy}
use Rattle.line_text.specs.declared.down_why.DownWhy.TheVariants as down
use Rattle.line_text.specs.declared.drop_why.DropWhy.{DropWhy}
use Rattle.line_text.specs.declared.drop_why.DropWhy.TheVariants.{Down, Silent, Full, Damaged}
use Rattle.line_text.specs.declared.line.Line.{Line}
use Rattle.line_text.specs.declared.line.Line.TheVariants as line
use Rattle.line_text.specs.declared.retry_why.RetryWhy.{RetryWhy}
use Rattle.line_text.specs.declared.retry_why.RetryWhy.TheVariants as retry
use Rattle.line_text.specs.declared.sent_kind.SentKind.{SentKind}
use Rattle.line_text.specs.declared.sent_kind.SentKind.TheVariants as sent

-- ---- the words

-- the words of the file that a change made: two zeros where it made none
abbrev pub made_words : Option (ℕ × ℕ) → List (List ℕ)
made_words None = decimal 0 ∷ decimal 0 ∷ []
made_words (Some file) = decimal file.0 ∷ decimal file.1 ∷ []

-- why an arrival has no reply
abbrev pub why_words : DropWhy → List (List ℕ)
why_words Down = codes "down" ∷ []
why_words Silent = codes "silent" ∷ []
why_words Full = codes "full" ∷ []
why_words (Damaged memory at) = codes "damaged" ∷ decimal memory ∷ decimal at ∷ []

-- why an actor went down
abbrev pub down_words : DownWhy → List (List ℕ)
down_words down.Stop = codes "stop" ∷ []
down_words down.Fault = codes "fault" ∷ []
down_words down.Full = codes "full" ∷ []
down_words down.Spent = codes "spent" ∷ []
down_words down.Damaged = codes "damaged" ∷ []

-- a memory node, and who holds something of it
abbrev pub locked_words : ℕ → TxId → List (List ℕ)
locked_words memory holder = codes "locked" ∷ decimal memory ∷ decimal holder.coord ∷ decimal holder.boot ∷ decimal holder.seq ∷ []

-- why an arrival ended without a reply after it ran
abbrev pub retry_words : RetryWhy → List (List ℕ)
retry_words (retry.Mismatch memory at) = codes "mismatch" ∷ decimal memory ∷ decimal at ∷ []
retry_words (retry.Locked memory holder) = locked_words memory holder
retry_words (retry.Held memory cut) = codes "held" ∷ decimal memory ∷ decimal cut.boot ∷ decimal cut.seq ∷ []
retry_words (retry.Forced memory) = codes "forced" ∷ decimal memory ∷ []
retry_words retry.Unreached = codes "unreached" ∷ []

-- why a backup ended before it was done
abbrev pub backup_words : BackupWhy → List (List ℕ)
backup_words (backup.Locked memory holder) = locked_words memory holder
backup_words (backup.Lost memory) = codes "lost" ∷ decimal memory ∷ []
backup_words backup.Vault = codes "vault" ∷ []
backup_words backup.Unreached = codes "unreached" ∷ []

-- an actor that sends or receives, in one word
abbrev pub mark_word : Actor → List ℕ
mark_word (Node n) = 110 ∷ decimal n
mark_word (Memory m) = 109 ∷ decimal m
mark_word Manager = codes "mgr"

-- the kind of a message
unfoldable pub kind_words : SentKind → List (List ℕ)
kind_words sent.Prepare = codes "prepare" ∷ []
kind_words sent.VoteOk = codes "vote" ∷ codes "ok" ∷ []
kind_words sent.VoteMismatch = codes "vote" ∷ codes "mismatch" ∷ []
kind_words sent.VoteLocked = codes "vote" ∷ codes "locked" ∷ []
kind_words sent.VoteForced = codes "vote" ∷ codes "forced" ∷ []
kind_words sent.VoteHeld = codes "vote" ∷ codes "held" ∷ []
kind_words sent.DecideCommit = codes "decide" ∷ codes "commit" ∷ []
kind_words sent.DecideAbort = codes "decide" ∷ codes "abort" ∷ []
kind_words sent.Done = codes "done" ∷ []
kind_words sent.Forget = codes "forget" ∷ []
kind_words sent.List = codes "list" ∷ []
kind_words sent.Kept = codes "kept" ∷ []
kind_words sent.Ask = codes "ask" ∷ []
kind_words sent.AnswerOk = codes "answer" ∷ codes "ok" ∷ []
kind_words sent.AnswerAbort = codes "answer" ∷ codes "abort" ∷ []
kind_words sent.Hold = codes "hold" ∷ []
kind_words sent.HeldOk = codes "held" ∷ codes "ok" ∷ []
kind_words sent.HeldLocked = codes "held" ∷ codes "locked" ∷ []
kind_words sent.HeldPast = codes "held" ∷ codes "past" ∷ []
kind_words sent.Release = codes "release" ∷ []
kind_words sent.Drop = codes "drop" ∷ []
kind_words sent.Read = codes "read" ∷ []
kind_words sent.Piece = codes "piece" ∷ []
kind_words sent.PieceNone = codes "piece" ∷ codes "none" ∷ []

-- the second word of a kind, if it has one
abbrev pub further_word : Option (Bor (List ℕ)) → List (List ℕ)
further_word None = []
further_word (Some word) = word.now ∷ []

-- a line of a transcript; a line of a listing stands as it is
unfoldable pub line_words : Line → List (List ℕ)
line_words (line.DoArrive arrival node) = codes "do" ∷ codes "arrive" ∷ decimal arrival ∷ decimal node ∷ []
line_words (line.DoEvent e) = codes "do" ∷ event_words e
line_words (line.Lost k) = codes "lost" ∷ decimal k ∷ []
line_words (line.Down who why) = codes "down" ∷ actor_words who ++ down_words why
line_words (line.Point point arrival made) =
    codes "point" ∷ decimal point ∷ codes "arrival" ∷ decimal arrival ∷ codes "made" ∷ made_words made
line_words (line.Sent k from to kind) = codes "sent" ∷ decimal k ∷ mark_word from ∷ mark_word to ∷ kind_words kind
line_words (line.Reply arrival at bytes) =
    codes "reply" ∷ decimal arrival ∷ codes "at" ∷ decimal at ∷ encode_lower bytes ∷ []
line_words (line.Retry arrival why) = codes "retry" ∷ decimal arrival ∷ retry_words why
line_words (line.Dropped arrival why) = codes "dropped" ∷ decimal arrival ∷ why_words why
line_words (line.Cut number at) = codes "cut" ∷ decimal number ∷ codes "at" ∷ decimal at ∷ []
line_words (line.BackupDone number) = codes "backup" ∷ decimal number ∷ codes "done" ∷ []
line_words (line.RetryBackup number why) = codes "retry" ∷ codes "backup" ∷ decimal number ∷ backup_words why
line_words (line.Mounted number lines) = codes "mounted" ∷ decimal number ∷ decimal lines ∷ []
line_words (line.Listed text) = words_of text
line_words (line.MountFailed number) = codes "mounted" ∷ decimal number ∷ codes "failed" ∷ []
line_words (line.MountBad number) = codes "mounted" ∷ decimal number ∷ codes "bad" ∷ []
line_words (line.Refused number) = codes "refused" ∷ decimal number ∷ []
line_words line.End = codes "end" ∷ []

-- a line of a transcript, spelled
unfoldable pub spelling_of_line : Line → List ℕ
spelling_of_line l = text_of_words (line_words l)

-- ---- which lines have a spelling

-- the numbers of a file are within their types
abbrev pub IsTypedFile : Option (ℕ × ℕ) → Type 0
IsTypedFile None = Unit {0}
IsTypedFile (Some file) = (file.0 < 2 ^ 32) × (file.1 < 2 ^ 32)

-- those of why an arrival has no reply
abbrev pub IsTypedWhy : DropWhy → Type 0
IsTypedWhy Down = Unit {0}
IsTypedWhy Silent = Unit {0}
IsTypedWhy Full = Unit {0}
IsTypedWhy (Damaged memory at) = (memory < 2 ^ 32) × (at < 2 ^ 32)

-- those of a minitransaction
abbrev pub IsTypedId : TxId → Type 0
IsTypedId id = (id.coord < 2 ^ 32) × (id.boot < 2 ^ 64) × (id.seq < 2 ^ 64)

-- those of a cut
abbrev pub IsTypedCut : CutId → Type 0
IsTypedCut cut = (cut.boot < 2 ^ 64) × (cut.seq < 2 ^ 64)

-- those of why an arrival ended after it ran
abbrev pub IsTypedRetry : RetryWhy → Type 0
IsTypedRetry (retry.Mismatch memory at) = (memory < 2 ^ 32) × (at < 2 ^ 32)
IsTypedRetry (retry.Locked memory holder) = (memory < 2 ^ 32) × IsTypedId holder
IsTypedRetry (retry.Held memory cut) = (memory < 2 ^ 32) × IsTypedCut cut
IsTypedRetry (retry.Forced memory) = memory < 2 ^ 32
IsTypedRetry retry.Unreached = Unit {0}

-- those of why a backup ended
abbrev pub IsTypedBackup : BackupWhy → Type 0
IsTypedBackup (backup.Locked memory holder) = (memory < 2 ^ 32) × IsTypedId holder
IsTypedBackup (backup.Lost memory) = memory < 2 ^ 32
IsTypedBackup backup.Vault = Unit {0}
IsTypedBackup backup.Unreached = Unit {0}

-- the numbers and bytes of a line are within their types, as those of each value in a program are
abbrev pub IsTypedLine : Line → Type 0
IsTypedLine (line.DoArrive arrival node) = (arrival < 2 ^ 32) × (node < 2 ^ 32)
IsTypedLine (line.DoEvent e) = IsTypedEvent e
IsTypedLine (line.Lost k) = k < 2 ^ 64
IsTypedLine (line.Down who why) = IsTypedActor who
IsTypedLine (line.Point point arrival made) = (point < 2 ^ 64) × (arrival < 2 ^ 32) × IsTypedFile made
IsTypedLine (line.Sent k from to kind) = (k < 2 ^ 64) × IsTypedActor from × IsTypedActor to
IsTypedLine (line.Reply arrival at bytes) = (arrival < 2 ^ 32) × (at < 2 ^ 64) × IsBytes bytes
IsTypedLine (line.Retry arrival why) = (arrival < 2 ^ 32) × IsTypedRetry why
IsTypedLine (line.Dropped arrival why) = (arrival < 2 ^ 32) × IsTypedWhy why
IsTypedLine (line.Cut number at) = (number < 2 ^ 32) × (at < 2 ^ 64)
IsTypedLine (line.BackupDone number) = number < 2 ^ 32
IsTypedLine (line.RetryBackup number why) = (number < 2 ^ 32) × IsTypedBackup why
IsTypedLine (line.Mounted number lines) = (number < 2 ^ 32) × (lines < 2 ^ 64)
IsTypedLine (line.Listed text) = Unit {0}
IsTypedLine (line.MountFailed number) = number < 2 ^ 32
IsTypedLine (line.MountBad number) = number < 2 ^ 32
IsTypedLine (line.Refused number) = number < 2 ^ 64
IsTypedLine line.End = Unit {0}

-- a file that can be written is not the pair of two zeros, which stands for none
abbrev pub IsWritableFile : Option (ℕ × ℕ) → Type 0
IsWritableFile None = Unit {0}
IsWritableFile (Some file) = 0 < file.0 + file.1

-- an event that can be written behind `do`
pub record IsWritableTold (e : Event) : Type 0 where
  pub told : IsTold e
  pub writable : IsWritableEvent e

-- only the disk of a memory node is damaged
abbrev pub IsWhyOf : Actor → DownWhy → Type 0
IsWhyOf (Node n) why = why ≢ down.Damaged
IsWhyOf (Memory m) why = Unit {0}
IsWhyOf Manager why = why ≢ down.Damaged

-- a line that can be written: its bytes are as many as a datagram has, its file and its event can be written, and one of a
-- listing is one
abbrev pub IsWritableLine : Line → Type 0
IsWritableLine (line.DoArrive arrival node) = Unit {0}
IsWritableLine (line.DoEvent e) = IsWritableTold e
IsWritableLine (line.Lost k) = Unit {0}
IsWritableLine (line.Down who why) = IsWhyOf who why
IsWritableLine (line.Point point arrival made) = IsWritableFile made
IsWritableLine (line.Sent k from to kind) = Unit {0}
IsWritableLine (line.Reply arrival at bytes) = HasDatagramLength bytes
IsWritableLine (line.Retry arrival why) = Unit {0}
IsWritableLine (line.Dropped arrival why) = Unit {0}
IsWritableLine (line.Cut number at) = Unit {0}
IsWritableLine (line.BackupDone number) = Unit {0}
IsWritableLine (line.RetryBackup number why) = Unit {0}
IsWritableLine (line.Mounted number lines) = Unit {0}
IsWritableLine (line.Listed text) = listed_of (words_of text) ≡ Some tt
IsWritableLine (line.MountFailed number) = Unit {0}
IsWritableLine (line.MountBad number) = Unit {0}
IsWritableLine (line.Refused number) = Unit {0}
IsWritableLine line.End = Unit {0}

-- a line that has a spelling
pub record HasLineSpelling (l : Line) : Type 0 where
  pub typed : IsTypedLine l
  pub writable : IsWritableLine l
