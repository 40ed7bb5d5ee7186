-- What a line of a transcript says: reading it word by word from the left.
use Rattle.std.specs.Prelude.{ℕ, ◌+◌, ◌==◌, if◌then◌else◌, List, [], ◌∷◌, codes, Option, Some, None}
use Rattle.std.specs.Option.{option_map}
use Rattle.std.specs.Str.{bytes_eq}
use Rattle.line_words.specs.Words.{words_of, number_of}
use Rattle.line_words.specs.Reading.{◌>>=◌, either, number_at, after_word, last_bytes, at_end}
use Rattle.mini_tx.specs.declared.actor.Actor.{Actor}
use Rattle.mini_tx.specs.declared.actor.Actor.TheVariants.{Node, Memory, Manager}
use Rattle.mini_tx.specs.declared.cut_id.CutId.{CutId}
use Rattle.mini_tx.specs.declared.tx_id.TxId.{TxId}
use Rattle.event_text.specs.Reading.{actor_at, told_of_words}
use Rattle.line_text.specs.Listed.{listed_of}
use Rattle.line_text.specs.declared.backup_why.BackupWhy.{BackupWhy}
use Rattle.line_text.specs.declared.backup_why.BackupWhy.TheVariants as backup
use Rattle.line_text.specs.declared.down_why.DownWhy.{DownWhy}
use Rattle.line_text.specs.declared.down_why.DownWhy.TheVariants as down
use Rattle.line_text.specs.declared.drop_why.DropWhy.{DropWhy}
use Rattle.line_text.specs.declared.drop_why.DropWhy.TheVariants.{Down, Silent, Full, Damaged}
use Rattle.line_text.specs.declared.line.Line.{Line}
use Rattle.line_text.specs.declared.line.Line.TheVariants as line
use Rattle.line_text.specs.declared.retry_why.RetryWhy.{RetryWhy}
use Rattle.line_text.specs.declared.retry_why.RetryWhy.TheVariants as retry
use Rattle.line_text.specs.declared.sent_kind.SentKind.{SentKind}
use Rattle.line_text.specs.declared.sent_kind.SentKind.TheVariants as sent

-- ---- parts of lines

-- the file of two numbers: none, where both are zero
abbrev pub made_of : ℕ → ℕ → Option (ℕ × ℕ)
made_of f g = if f + g == 0 then None else Some (f, g)

-- a place in the bytes of a memory node
abbrev pub damaged_of : List (List ℕ) → Option DropWhy
damaged_of words = do
  memory ← number_at 32 words
  at ← number_at 32 memory.1
  at_end (Damaged memory.0 at.0) at.1

-- why an arrival has no reply
unfoldable pub why_of : List (List ℕ) → Option DropWhy
why_of [] = None
why_of (name ∷ words) =
    if bytes_eq name (codes "down") then at_end Down words
    else if bytes_eq name (codes "silent") then at_end Silent words
    else if bytes_eq name (codes "full") then at_end Full words
    else if bytes_eq name (codes "damaged") then damaged_of words
    else None

-- damage, which is a memory node's alone
abbrev pub damage_of : Actor → List (List ℕ) → Option DownWhy
damage_of (Node n) words = None
damage_of (Memory m) words = at_end down.Damaged words
damage_of Manager words = None

-- why this actor went down
unfoldable pub down_why_of : Actor → List (List ℕ) → Option DownWhy
down_why_of who [] = None
down_why_of who (name ∷ words) =
    if bytes_eq name (codes "stop") then at_end down.Stop words
    else if bytes_eq name (codes "fault") then at_end down.Fault words
    else if bytes_eq name (codes "full") then at_end down.Full words
    else if bytes_eq name (codes "spent") then at_end down.Spent words
    else if bytes_eq name (codes "damaged") then damage_of who words
    else None

-- a minitransaction, which ends a line
unfoldable pub last_id : List (List ℕ) → Option TxId
last_id words = do
  coord ← number_at 32 words
  boot ← number_at 64 coord.1
  seq ← number_at 64 boot.1
  at_end (record { coord = coord.0; boot = boot.0; seq = seq.0 }) seq.1

-- a cut, which ends a line
unfoldable pub last_cut : List (List ℕ) → Option CutId
last_cut words = do
  boot ← number_at 64 words
  seq ← number_at 64 boot.1
  at_end (record { boot = boot.0; seq = seq.0 }) seq.1

abbrev pub mismatch_of : List (List ℕ) → Option RetryWhy
mismatch_of words = do
  memory ← number_at 32 words
  at ← number_at 32 memory.1
  at_end (retry.Mismatch memory.0 at.0) at.1

abbrev pub locked_of : List (List ℕ) → Option RetryWhy
locked_of words = do
  memory ← number_at 32 words
  holder ← last_id memory.1
  Some (retry.Locked memory.0 holder)

abbrev pub held_of : List (List ℕ) → Option RetryWhy
held_of words = do
  memory ← number_at 32 words
  cut ← last_cut memory.1
  Some (retry.Held memory.0 cut)

abbrev pub forced_of : List (List ℕ) → Option RetryWhy
forced_of words = do
  memory ← number_at 32 words
  at_end (retry.Forced memory.0) memory.1

-- why an arrival ended without a reply after it ran
unfoldable pub retry_why_of : List (List ℕ) → Option RetryWhy
retry_why_of [] = None
retry_why_of (name ∷ words) =
    if bytes_eq name (codes "mismatch") then mismatch_of words
    else if bytes_eq name (codes "locked") then locked_of words
    else if bytes_eq name (codes "held") then held_of words
    else if bytes_eq name (codes "forced") then forced_of words
    else if bytes_eq name (codes "unreached") then at_end retry.Unreached words
    else None

abbrev pub backup_locked_of : List (List ℕ) → Option BackupWhy
backup_locked_of words = do
  memory ← number_at 32 words
  holder ← last_id memory.1
  Some (backup.Locked memory.0 holder)

abbrev pub backup_lost_of : List (List ℕ) → Option BackupWhy
backup_lost_of words = do
  memory ← number_at 32 words
  at_end (backup.Lost memory.0) memory.1

-- why a backup ended before it was done
unfoldable pub backup_why_of : List (List ℕ) → Option BackupWhy
backup_why_of [] = None
backup_why_of (name ∷ words) =
    if bytes_eq name (codes "locked") then backup_locked_of words
    else if bytes_eq name (codes "lost") then backup_lost_of words
    else if bytes_eq name (codes "vault") then at_end backup.Vault words
    else if bytes_eq name (codes "unreached") then at_end backup.Unreached words
    else None

-- the memory node of a number, or the manager, behind the letter that both begin with
abbrev pub memory_or_manager : List ℕ → Option Actor
memory_or_manager rest = if bytes_eq rest (codes "gr") then Some Manager else option_map Memory (number_of 32 rest)

-- an actor in one word: `n` and a number, `m` and a number, or `mgr`
unfoldable pub mark_of : List ℕ → Option Actor
mark_of [] = None
mark_of (letter ∷ rest) =
    if letter == 110 then option_map Node (number_of 32 rest)
    else if letter == 109 then memory_or_manager rest
    else None

-- and the words after it
unfoldable pub mark_at : List (List ℕ) → Option (Actor × List (List ℕ))
mark_at [] = None
mark_at (word ∷ rest) = option_map (λ who. (who, rest)) (mark_of word)

-- ---- the kinds of messages

-- a vote
unfoldable pub vote_of : List (List ℕ) → Option SentKind
vote_of [] = None
vote_of (name ∷ words) =
    if bytes_eq name (codes "ok") then at_end sent.VoteOk words
    else if bytes_eq name (codes "mismatch") then at_end sent.VoteMismatch words
    else if bytes_eq name (codes "locked") then at_end sent.VoteLocked words
    else if bytes_eq name (codes "forced") then at_end sent.VoteForced words
    else if bytes_eq name (codes "held") then at_end sent.VoteHeld words
    else None

-- one of two kinds, by the word that tells them apart
abbrev pub one_of : List ℕ → SentKind → List ℕ → SentKind → List (List ℕ) → Option SentKind
one_of first x second y [] = None
one_of first x second y (name ∷ words) =
    if bytes_eq name first then at_end x words
    else if bytes_eq name second then at_end y words
    else None

-- what a memory node says of a cut
unfoldable pub held_kind_of : List (List ℕ) → Option SentKind
held_kind_of [] = None
held_kind_of (name ∷ words) =
    if bytes_eq name (codes "ok") then at_end sent.HeldOk words
    else if bytes_eq name (codes "locked") then at_end sent.HeldLocked words
    else if bytes_eq name (codes "past") then at_end sent.HeldPast words
    else None

-- a piece, or none
abbrev pub piece_of : List (List ℕ) → Option SentKind
piece_of words = either (after_word (codes "none") words) (at_end sent.PieceNone) (at_end sent.Piece words)

-- a message of the manager's cuts, or of its recovery alone
unfoldable pub manager_kind_of : List ℕ → List (List ℕ) → Option SentKind
manager_kind_of name words =
    if bytes_eq name (codes "ask") then at_end sent.Ask words
    else if bytes_eq name (codes "answer") then one_of (codes "ok") sent.AnswerOk (codes "abort") sent.AnswerAbort words
    else if bytes_eq name (codes "hold") then at_end sent.Hold words
    else if bytes_eq name (codes "held") then held_kind_of words
    else if bytes_eq name (codes "release") then at_end sent.Release words
    else if bytes_eq name (codes "drop") then at_end sent.Drop words
    else if bytes_eq name (codes "read") then at_end sent.Read words
    else if bytes_eq name (codes "piece") then piece_of words
    else None

-- `kept`, a kind that a second word tells, or one of the manager's
unfoldable pub told_kind_of : List ℕ → List (List ℕ) → Option SentKind
told_kind_of name words =
    if bytes_eq name (codes "kept") then at_end sent.Kept words
    else if bytes_eq name (codes "vote") then vote_of words
    else if bytes_eq name (codes "decide") then one_of (codes "commit") sent.DecideCommit (codes "abort") sent.DecideAbort words
    else manager_kind_of name words

-- a kind of messages
unfoldable pub kind_of : List (List ℕ) → Option SentKind
kind_of [] = None
kind_of (name ∷ words) =
    if bytes_eq name (codes "prepare") then at_end sent.Prepare words
    else if bytes_eq name (codes "done") then at_end sent.Done words
    else if bytes_eq name (codes "forget") then at_end sent.Forget words
    else if bytes_eq name (codes "list") then at_end sent.List words
    else told_kind_of name words

-- ---- lines, by the words after their names

unfoldable pub do_arrive_of : List (List ℕ) → Option Line
do_arrive_of words = do
  arrival ← number_at 32 words
  node ← number_at 32 arrival.1
  at_end (line.DoArrive arrival.0 node.0) node.1

-- an event that is handled
abbrev pub do_event_of : List (List ℕ) → Option Line
do_event_of words = do
  e ← told_of_words words
  Some (line.DoEvent e)

unfoldable pub do_of : List (List ℕ) → Option Line
do_of words = either (after_word (codes "arrive") words) do_arrive_of (do_event_of words)

unfoldable pub lost_of : List (List ℕ) → Option Line
lost_of words = do
  k ← number_at 64 words
  at_end (line.Lost k.0) k.1

unfoldable pub down_of : List (List ℕ) → Option Line
down_of words = do
  who ← actor_at words
  why ← down_why_of who.0 who.1
  Some (line.Down who.0 why)

unfoldable pub point_of : List (List ℕ) → Option Line
point_of words = do
  point ← number_at 64 words
  before_arrival ← after_word (codes "arrival") point.1
  arrival ← number_at 32 before_arrival
  before_made ← after_word (codes "made") arrival.1
  first ← number_at 32 before_made
  second ← number_at 32 first.1
  at_end (line.Point point.0 arrival.0 (made_of first.0 second.0)) second.1

unfoldable pub sent_of : List (List ℕ) → Option Line
sent_of words = do
  k ← number_at 64 words
  from ← mark_at k.1
  to ← mark_at from.1
  kind ← kind_of to.1
  Some (line.Sent k.0 from.0 to.0 kind)

unfoldable pub reply_of : List (List ℕ) → Option Line
reply_of words = do
  arrival ← number_at 32 words
  before_at ← after_word (codes "at") arrival.1
  at ← number_at 64 before_at
  bytes ← last_bytes at.1
  Some (line.Reply arrival.0 at.0 bytes)

unfoldable pub retry_backup_of : List (List ℕ) → Option Line
retry_backup_of words = do
  number ← number_at 32 words
  why ← backup_why_of number.1
  Some (line.RetryBackup number.0 why)

unfoldable pub retry_arrival_of : List (List ℕ) → Option Line
retry_arrival_of words = do
  arrival ← number_at 32 words
  why ← retry_why_of arrival.1
  Some (line.Retry arrival.0 why)

unfoldable pub retry_of : List (List ℕ) → Option Line
retry_of words = either (after_word (codes "backup") words) retry_backup_of (retry_arrival_of words)

unfoldable pub dropped_of : List (List ℕ) → Option Line
dropped_of words = do
  arrival ← number_at 32 words
  why ← why_of arrival.1
  Some (line.Dropped arrival.0 why)

unfoldable pub cut_of : List (List ℕ) → Option Line
cut_of words = do
  number ← number_at 32 words
  before_at ← after_word (codes "at") number.1
  at ← number_at 64 before_at
  at_end (line.Cut number.0 at.0) at.1

unfoldable pub backup_of : List (List ℕ) → Option Line
backup_of words = do
  number ← number_at 32 words
  rest ← after_word (codes "done") number.1
  at_end (line.BackupDone number.0) rest

-- how many lines of a listing follow
abbrev pub listing_of : ℕ → List (List ℕ) → Option Line
listing_of number words = do
  lines ← number_at 64 words
  at_end (line.Mounted number lines.0) lines.1

-- what mounting an archive came to
unfoldable pub mounting_of : ℕ → List (List ℕ) → Option Line
mounting_of number words =
    either (after_word (codes "failed") words) (at_end (line.MountFailed number))
    (either (after_word (codes "bad") words) (at_end (line.MountBad number)) (listing_of number words))

unfoldable pub mounted_of : List (List ℕ) → Option Line
mounted_of words = do
  number ← number_at 32 words
  mounting_of number.0 number.1

unfoldable pub refused_of : List (List ℕ) → Option Line
refused_of words = do
  number ← number_at 64 words
  at_end (line.Refused number.0) number.1

-- a line that ends what came before, by its name and the words after it
unfoldable pub ending_of : List ℕ → List (List ℕ) → Option Line
ending_of name words =
    if bytes_eq name (codes "retry") then retry_of words
    else if bytes_eq name (codes "dropped") then dropped_of words
    else if bytes_eq name (codes "cut") then cut_of words
    else if bytes_eq name (codes "backup") then backup_of words
    else if bytes_eq name (codes "mounted") then mounted_of words
    else if bytes_eq name (codes "refused") then refused_of words
    else if bytes_eq name (codes "end") then at_end line.End words
    else None

-- a message or a reply, or a line that ends something
unfoldable pub carried_of : List ℕ → List (List ℕ) → Option Line
carried_of name words =
    if bytes_eq name (codes "sent") then sent_of words
    else if bytes_eq name (codes "reply") then reply_of words
    else ending_of name words

-- the line of a transcript, none of a listing, of which these are the words
unfoldable pub line_of_words : List (List ℕ) → Option Line
line_of_words [] = None
line_of_words (name ∷ words) =
    if bytes_eq name (codes "do") then do_of words
    else if bytes_eq name (codes "lost") then lost_of words
    else if bytes_eq name (codes "down") then down_of words
    else if bytes_eq name (codes "point") then point_of words
    else carried_of name words

-- the line of a listing where its words are those of one, else another
abbrev pub listed_or : List ℕ → Option (Unit {0}) → Option Line
listed_or text (Some listed) = Some (line.Listed text)
listed_or text None = line_of_words (words_of text)

-- the line of a transcript that the text spells
unfoldable pub line_of : List ℕ → Option Line
line_of text = listed_or text (listed_of (words_of text))
