-- Parts of the lines of a transcript: reading takes exactly their words.
use Rattle.std.proofs.Common.{◌≡◌, ◌≢◌, ℕ, ◌+◌, ◌^◌, ◌<◌, ◌≤◌, ◌==◌, Bool, true, false, cond, List, [], ◌∷◌, ◌++◌, length, Option, Some, None, ◌⊎◌, inl, inr, refl, sym, ap, ◌∙◌, arith}
use Rattle.std.specs.Prelude.{codes, decimal}
use Rattle.std.specs.Option.{option_map}
use Rattle.std.specs.Str.{bytes_eq, all_ascii_digits}
use Rattle.std.proofs.lemmas.Bool.{cases_lt, ne_eqb, eqb-true}
use Rattle.std.proofs.lemmas.Option.{same_Some}
use Rattle.std.proofs.lemmas.Slice.Eq.{bytes_eq-Decides}
use Rattle.line_words.specs.Words.{number_of}
use Rattle.line_words.specs.Reading.{◌>>=◌, either, after_word, number_at, at_end}
use Rattle.line_words.proofs.NumberLemmas.{number_of-Some, number_of-decimal}
use Rattle.line_words.proofs.ReadingLemmas.{after_word-Some, at_end-Some, bind_some, by_name, decimal_is_no_name, either_way, number_step}
use Rattle.line_words.proofs.SpellingLemmas.{AreShort, IsWord, IsWord-letter, length_small, weaker, more_words, name_word, no_words, small_word, wide_word}
use Rattle.mini_tx.specs.declared.actor.Actor.{Actor}
use Rattle.mini_tx.specs.declared.actor.Actor.TheVariants.{Node, Memory, Manager}
use Rattle.mini_tx.specs.declared.cut_id.CutId.{CutId}
use Rattle.mini_tx.specs.declared.tx_id.TxId.{TxId}
use Rattle.event_text.specs.Grammar.{IsTypedActor}
use Rattle.event_text.proofs.EventLemmas.{small, wide}
use Rattle.line_text.specs.Grammar.{made_words, why_words, down_words, locked_words, retry_words, backup_words, mark_word, kind_words, IsTypedFile, IsTypedWhy, IsTypedId, IsTypedCut, IsTypedRetry, IsTypedBackup, IsWritableFile, IsWhyOf}
use Rattle.line_text.specs.Reading.{made_of, damaged_of, why_of, damage_of, down_why_of, last_id, last_cut, mismatch_of, locked_of, held_of, forced_of, retry_why_of, backup_locked_of, backup_lost_of, backup_why_of, memory_or_manager, mark_of, mark_at, vote_of, one_of, held_kind_of, piece_of, manager_kind_of, told_kind_of, kind_of}
use Rattle.line_text.specs.declared.backup_why.BackupWhy.{BackupWhy}
use Rattle.line_text.specs.declared.backup_why.BackupWhy.TheVariants as backup
use Rattle.line_text.specs.declared.down_why.DownWhy.{DownWhy}
use Rattle.line_text.specs.declared.down_why.DownWhy.TheVariants as down
use Rattle.line_text.specs.declared.drop_why.DropWhy.{DropWhy}
use Rattle.line_text.specs.declared.drop_why.DropWhy.TheVariants.{Down, Silent, Full, Damaged}
use Rattle.line_text.specs.declared.retry_why.RetryWhy.{RetryWhy}
use Rattle.line_text.specs.declared.retry_why.RetryWhy.TheVariants as retry
use Rattle.line_text.specs.declared.sent_kind.SentKind.{SentKind}
use Rattle.line_text.specs.declared.sent_kind.SentKind.TheVariants as sent

-- ---- a file

-- two numbers are read as a file, which has them
pub made_read : (f g : ℕ) → f < 2 ^ 32 → g < 2 ^ 32
    → IsTypedFile (made_of f g) × IsWritableFile (made_of f g) × (decimal f ∷ decimal g ∷ [] ≡ made_words (made_of f g))
made_read f g first second =
    elim (cases_lt 0 (f + g)) [
      | inl some ↦ rw (ne_eqb (f + g) 0 (λ none. omega arith)) ((first, second), some, refl)
      | inr none ↦
          let f-zero : f ≡ 0 = omega arith in
          let g-zero : g ≡ 0 = omega arith in
          rw (f-zero, g-zero) (tt, tt, refl)
    ]

-- a file that has a spelling is read from its numbers
pub made_again : (file : ℕ × ℕ) → IsWritableFile (Some file) → made_of file.0 file.1 ≡ Some file
made_again file fits = rw (ne_eqb (file.0 + file.1) 0 (λ none. omega arith)) refl

-- ---- why an arrival has no reply

pub why_read : (words : List (List ℕ)) (why : DropWhy) → why_of words ≡ Some why → IsTypedWhy why × (words ≡ why_words why)
unfolding why_of
why_read [] why read = cc read
why_read (name ∷ words) why read =
    by_name (codes "down") name _ _ why read (λ met end. let e = at_end-Some Down why words end in rw (← e.0) (tt, cc (met, e.1))) (λ read.
    by_name (codes "silent") name _ _ why read (λ met end. let e = at_end-Some Silent why words end in rw (← e.0) (tt, cc (met, e.1))) (λ read.
    by_name (codes "full") name _ _ why read (λ met end. let e = at_end-Some Full why words end in rw (← e.0) (tt, cc (met, e.1))) (λ read.
    by_name (codes "damaged") name _ _ why read (λ met damaged.
    let memory = number_step 32 words _ why small damaged in
    let at = number_step 32 memory.rest _ why small memory.then in
    let e = at_end-Some _ why at.rest at.then in
    rw (← e.0) ((memory.fits, at.fits), cc (met, memory.words_are, at.words_are, e.1))) (λ none. cc none))))

pub why_again : (why : DropWhy) → IsTypedWhy why → why_of (why_words why) ≡ Some why
unfolding why_of
why_again Down fits = refl
why_again Silent fits = refl
why_again Full fits = refl
why_again (Damaged memory at) fits = rw (number_of-decimal 32 memory small fits.0, number_of-decimal 32 at small fits.1) refl

pub why_short : (why : DropWhy) → IsTypedWhy why → AreShort 33 (why_words why)
why_short Down fits = weaker 11 33 (codes "down" ∷ []) (omega arith) (name_word (codes "down") refl (omega arith) no_words)
why_short Silent fits = weaker 11 33 (codes "silent" ∷ []) (omega arith) (name_word (codes "silent") refl (omega arith) no_words)
why_short Full fits = weaker 11 33 (codes "full" ∷ []) (omega arith) (name_word (codes "full") refl (omega arith) no_words)
why_short (Damaged memory at) fits = name_word (codes "damaged") refl (omega arith) (small_word memory fits.0 (small_word at fits.1 no_words))

-- ---- why an actor went down

-- stops, faults, full logs and spent numbers are no damage
whole_disk : (who : Actor) (why : DownWhy) → why ≢ down.Damaged → IsWhyOf who why
whole_disk (Node n) why other = other
whole_disk (Memory m) why other = tt
whole_disk Manager why other = other

damage_read : (who : Actor) (words : List (List ℕ)) (why : DownWhy) → damage_of who words ≡ Some why → IsWhyOf who why × (down.Damaged ≡ why) × (words ≡ [])
damage_read (Node n) words why read = cc read
damage_read (Memory m) words why read = let e = at_end-Some down.Damaged why words read in (tt, e.0, e.1)
damage_read Manager words why read = cc read

pub down_read : (who : Actor) (words : List (List ℕ)) (why : DownWhy) → down_why_of who words ≡ Some why → IsWhyOf who why × (words ≡ down_words why)
unfolding down_why_of
down_read who [] why read = cc read
down_read who (name ∷ words) why read =
    by_name (codes "stop") name _ _ why read (λ met end. let e = at_end-Some down.Stop why words end in rw (← e.0) (whole_disk who down.Stop (λ is. cc is), cc (met, e.1))) (λ read.
    by_name (codes "fault") name _ _ why read (λ met end. let e = at_end-Some down.Fault why words end in rw (← e.0) (whole_disk who down.Fault (λ is. cc is), cc (met, e.1))) (λ read.
    by_name (codes "full") name _ _ why read (λ met end. let e = at_end-Some down.Full why words end in rw (← e.0) (whole_disk who down.Full (λ is. cc is), cc (met, e.1))) (λ read.
    by_name (codes "spent") name _ _ why read (λ met end. let e = at_end-Some down.Spent why words end in rw (← e.0) (whole_disk who down.Spent (λ is. cc is), cc (met, e.1))) (λ read.
    by_name (codes "damaged") name _ _ why read (λ met damaged.
    let d = damage_read who words why damaged in
    (d.0, cc (met, d.2) ∙ ap down_words d.1)) (λ none. cc none)))))

pub down_again : (who : Actor) (why : DownWhy) → IsWhyOf who why → down_why_of who (down_words why) ≡ Some why
unfolding down_why_of
down_again who down.Stop fits = refl
down_again who down.Fault fits = refl
down_again who down.Full fits = refl
down_again who down.Spent fits = refl
down_again (Node n) down.Damaged fits = absurd (fits refl)
down_again (Memory m) down.Damaged fits = refl
down_again Manager down.Damaged fits = absurd (fits refl)

pub down_short : (why : DownWhy) → AreShort 11 (down_words why)
down_short down.Stop = name_word (codes "stop") refl (omega arith) no_words
down_short down.Fault = name_word (codes "fault") refl (omega arith) no_words
down_short down.Full = name_word (codes "full") refl (omega arith) no_words
down_short down.Spent = name_word (codes "spent") refl (omega arith) no_words
down_short down.Damaged = name_word (codes "damaged") refl (omega arith) no_words

-- ---- minitransactions and cuts

id_read : (words : List (List ℕ)) (id : TxId) → last_id words ≡ Some id → IsTypedId id × (words ≡ decimal id.coord ∷ decimal id.boot ∷ decimal id.seq ∷ [])
unfolding last_id
id_read words id read =
    let coord = number_step 32 words _ id small read in
    let boot = number_step 64 coord.rest _ id wide coord.then in
    let seq = number_step 64 boot.rest _ id wide boot.then in
    let e = at_end-Some _ id seq.rest seq.then in
    rw (← e.0) ((coord.fits, boot.fits, seq.fits), cc (coord.words_are, boot.words_are, seq.words_are, e.1))

id_again : (id : TxId) → IsTypedId id → last_id (decimal id.coord ∷ decimal id.boot ∷ decimal id.seq ∷ []) ≡ Some id
unfolding last_id
id_again id fits = rw (number_of-decimal 32 id.coord small fits.0, number_of-decimal 64 id.boot wide fits.1, number_of-decimal 64 id.seq wide fits.2) refl

cut_read : (words : List (List ℕ)) (cut : CutId) → last_cut words ≡ Some cut → IsTypedCut cut × (words ≡ decimal cut.boot ∷ decimal cut.seq ∷ [])
unfolding last_cut
cut_read words cut read =
    let boot = number_step 64 words _ cut wide read in
    let seq = number_step 64 boot.rest _ cut wide boot.then in
    let e = at_end-Some _ cut seq.rest seq.then in
    rw (← e.0) ((boot.fits, seq.fits), cc (boot.words_are, seq.words_are, e.1))

cut_again : (cut : CutId) → IsTypedCut cut → last_cut (decimal cut.boot ∷ decimal cut.seq ∷ []) ≡ Some cut
unfolding last_cut
cut_again cut fits = rw (number_of-decimal 64 cut.boot wide fits.0, number_of-decimal 64 cut.seq wide fits.1) refl

locked_short : (memory : ℕ) (holder : TxId) → memory < 2 ^ 32 → IsTypedId holder → AreShort 75 (locked_words memory holder)
locked_short memory holder fits is =
    name_word (codes "locked") refl (omega arith) (small_word memory fits (small_word holder.coord is.0 (wide_word holder.boot is.1 (wide_word holder.seq is.2 no_words))))

-- ---- why an arrival ended after it ran

pub retry_read : (words : List (List ℕ)) (why : RetryWhy) → retry_why_of words ≡ Some why → IsTypedRetry why × (words ≡ retry_words why)
unfolding retry_why_of
retry_read [] why read = cc read
retry_read (name ∷ words) why read =
    by_name (codes "mismatch") name _ _ why read (λ met mismatch.
    let memory = number_step 32 words _ why small mismatch in
    let at = number_step 32 memory.rest _ why small memory.then in
    let e = at_end-Some _ why at.rest at.then in
    rw (← e.0) ((memory.fits, at.fits), cc (met, memory.words_are, at.words_are, e.1))) (λ read.
    by_name (codes "locked") name _ _ why read (λ met locked.
    let memory = number_step 32 words _ why small locked in
    let last = bind_some (last_id memory.rest) _ why memory.then in
    let holder = id_read memory.rest last.0 last.1 in
    rw (← same_Some _ why last.2) ((memory.fits, holder.0), cc (met, memory.words_are, holder.1))) (λ read.
    by_name (codes "held") name _ _ why read (λ met held.
    let memory = number_step 32 words _ why small held in
    let last = bind_some (last_cut memory.rest) _ why memory.then in
    let cut = cut_read memory.rest last.0 last.1 in
    rw (← same_Some _ why last.2) ((memory.fits, cut.0), cc (met, memory.words_are, cut.1))) (λ read.
    by_name (codes "forced") name _ _ why read (λ met forced.
    let memory = number_step 32 words _ why small forced in
    let e = at_end-Some _ why memory.rest memory.then in
    rw (← e.0) (memory.fits, cc (met, memory.words_are, e.1))) (λ read.
    by_name (codes "unreached") name _ _ why read (λ met end. let e = at_end-Some retry.Unreached why words end in rw (← e.0) (tt, cc (met, e.1))) (λ none. cc none)))))

pub retry_again : (why : RetryWhy) → IsTypedRetry why → retry_why_of (retry_words why) ≡ Some why
unfolding retry_why_of
retry_again (retry.Mismatch memory at) fits = rw (number_of-decimal 32 memory small fits.0, number_of-decimal 32 at small fits.1) refl
retry_again (retry.Locked memory holder) fits = rw (number_of-decimal 32 memory small fits.0, id_again holder fits.1) refl
retry_again (retry.Held memory cut) fits = rw (number_of-decimal 32 memory small fits.0, cut_again cut fits.1) refl
retry_again (retry.Forced memory) fits = rw (number_of-decimal 32 memory small fits) refl
retry_again retry.Unreached fits = refl

pub retry_short : (why : RetryWhy) → IsTypedRetry why → AreShort 75 (retry_words why)
retry_short (retry.Mismatch memory at) fits =
    weaker 33 75 (retry_words (retry.Mismatch memory at)) (omega arith) (name_word (codes "mismatch") refl (omega arith) (small_word memory fits.0 (small_word at fits.1 no_words)))
retry_short (retry.Locked memory holder) fits = locked_short memory holder fits.0 fits.1
retry_short (retry.Held memory cut) fits =
    weaker 64 75 (retry_words (retry.Held memory cut)) (omega arith)
    (name_word (codes "held") refl (omega arith) (small_word memory fits.0 (wide_word cut.boot fits.1.0 (wide_word cut.seq fits.1.1 no_words))))
retry_short (retry.Forced memory) fits = weaker 22 75 (retry_words (retry.Forced memory)) (omega arith) (name_word (codes "forced") refl (omega arith) (small_word memory fits no_words))
retry_short retry.Unreached fits = weaker 11 75 (retry_words retry.Unreached) (omega arith) (name_word (codes "unreached") refl (omega arith) no_words)

-- ---- why a backup ended

pub backup_read : (words : List (List ℕ)) (why : BackupWhy) → backup_why_of words ≡ Some why → IsTypedBackup why × (words ≡ backup_words why)
unfolding backup_why_of
backup_read [] why read = cc read
backup_read (name ∷ words) why read =
    by_name (codes "locked") name _ _ why read (λ met locked.
    let memory = number_step 32 words _ why small locked in
    let last = bind_some (last_id memory.rest) _ why memory.then in
    let holder = id_read memory.rest last.0 last.1 in
    rw (← same_Some _ why last.2) ((memory.fits, holder.0), cc (met, memory.words_are, holder.1))) (λ read.
    by_name (codes "lost") name _ _ why read (λ met lost.
    let memory = number_step 32 words _ why small lost in
    let e = at_end-Some _ why memory.rest memory.then in
    rw (← e.0) (memory.fits, cc (met, memory.words_are, e.1))) (λ read.
    by_name (codes "vault") name _ _ why read (λ met end. let e = at_end-Some backup.Vault why words end in rw (← e.0) (tt, cc (met, e.1))) (λ read.
    by_name (codes "unreached") name _ _ why read (λ met end. let e = at_end-Some backup.Unreached why words end in rw (← e.0) (tt, cc (met, e.1))) (λ none. cc none))))

pub backup_again : (why : BackupWhy) → IsTypedBackup why → backup_why_of (backup_words why) ≡ Some why
unfolding backup_why_of
backup_again (backup.Locked memory holder) fits = rw (number_of-decimal 32 memory small fits.0, id_again holder fits.1) refl
backup_again (backup.Lost memory) fits = rw (number_of-decimal 32 memory small fits) refl
backup_again backup.Vault fits = refl
backup_again backup.Unreached fits = refl

pub backup_short : (why : BackupWhy) → IsTypedBackup why → AreShort 75 (backup_words why)
backup_short (backup.Locked memory holder) fits = locked_short memory holder fits.0 fits.1
backup_short (backup.Lost memory) fits = weaker 22 75 (backup_words (backup.Lost memory)) (omega arith) (name_word (codes "lost") refl (omega arith) (small_word memory fits no_words))
backup_short backup.Vault fits = weaker 11 75 (backup_words backup.Vault) (omega arith) (name_word (codes "vault") refl (omega arith) no_words)
backup_short backup.Unreached fits = weaker 11 75 (backup_words backup.Unreached) (omega arith) (name_word (codes "unreached") refl (omega arith) no_words)

-- ---- actors in one word

-- a number was read
number_mapped : (make : ℕ → Actor) (word : List ℕ) (who : Actor) → option_map make (number_of 32 word) ≡ Some who → (n : ℕ) × (n < 2 ^ 32) × (word ≡ decimal n) × (make n ≡ who)
number_mapped make word who read = go (number_of 32 word) refl read
  where
    go : (o : Option ℕ) → number_of 32 word ≡ o → option_map make o ≡ Some who → (n : ℕ) × (n < 2 ^ 32) × (word ≡ decimal n) × (make n ≡ who)
    go (Some n) is read = let number = number_of-Some 32 word n small is in (n, number.0, number.1, same_Some (make n) who read)
    go None is read = cc read

mark_read : (word : List ℕ) (who : Actor) → mark_of word ≡ Some who → IsTypedActor who × (word ≡ mark_word who)
unfolding mark_of
mark_read [] who read = cc read
mark_read (letter ∷ rest) who read = node (letter == 110) refl read
  where
    manager : (b : Bool) → bytes_eq rest (codes "gr") ≡ b → letter ≡ 109 → cond b (Some Manager) (option_map Memory (number_of 32 rest)) ≡ Some who → IsTypedActor who × (letter ∷ rest ≡ mark_word who)
    manager true is met read = rw (← same_Some Manager who read) (tt, cc (met, (bytes_eq-Decides rest (codes "gr")).0 is))
    manager false is met read = let m = number_mapped Memory rest who read in rw (← m.3) (m.1, cc (met, m.2))

    memory : (b : Bool) → (letter == 109) ≡ b → cond b (memory_or_manager rest) None ≡ Some who → IsTypedActor who × (letter ∷ rest ≡ mark_word who)
    memory true is read = manager (bytes_eq rest (codes "gr")) refl (eqb-true letter 109 is) read
    memory false is read = cc read

    node : (b : Bool) → (letter == 110) ≡ b → cond b (option_map Node (number_of 32 rest)) (cond (letter == 109) (memory_or_manager rest) None) ≡ Some who → IsTypedActor who × (letter ∷ rest ≡ mark_word who)
    node true is read = let n = number_mapped Node rest who read in rw (← n.3) (n.1, cc (eqb-true letter 110 is, n.2))
    node false is read = memory (letter == 109) refl read

mark_again : (who : Actor) → IsTypedActor who → mark_of (mark_word who) ≡ Some who
unfolding mark_of
mark_again (Node n) fits = ap (option_map Node) (number_of-decimal 32 n small fits)
mark_again (Memory m) fits =
    ap (λ b. cond b (Some Manager) (option_map Memory (number_of 32 (decimal m)))) (decimal_is_no_name m (codes "gr") (omega (arith, fits)) refl)
    ∙ ap (option_map Memory) (number_of-decimal 32 m small fits)
mark_again Manager fits = refl

pub mark_at_read : (words : List (List ℕ)) (x : Actor × List (List ℕ)) → mark_at words ≡ Some x → IsTypedActor x.0 × (words ≡ mark_word x.0 ∷ x.1)
unfolding mark_at
mark_at_read [] x read = cc read
mark_at_read (word ∷ rest) x read = go (mark_of word) refl read
  where
    go : (o : Option Actor) → mark_of word ≡ o → option_map (λ who. (who, rest)) o ≡ Some x → IsTypedActor x.0 × (word ∷ rest ≡ mark_word x.0 ∷ x.1)
    go (Some who) is read = let m = mark_read word who is in rw (← same_Some (who, rest) x read) (m.0, ap (λ (w : List ℕ). w ∷ rest) m.1)
    go None is read = cc read

pub mark_at_again : (who : Actor) (rest : List (List ℕ)) → IsTypedActor who → mark_at (mark_word who ∷ rest) ≡ Some (who, rest)
unfolding mark_at
mark_at_again who rest fits = ap (option_map (λ (w : Actor). (w, rest))) (mark_again who fits)

-- a mark in front of words
pub mark_short : {most : ℕ} {words : List (List ℕ)} (who : Actor) → IsTypedActor who → AreShort most words → AreShort (11 + 1 + most) (mark_word who ∷ words)
mark_short (Node n) fits rest = more_words (110 ∷ decimal n) 11 (IsWord-letter 110 n refl fits) (omega (arith, length_small n fits)) rest
mark_short (Memory m) fits rest = more_words (109 ∷ decimal m) 11 (IsWord-letter 109 m refl fits) (omega (arith, length_small m fits)) rest
mark_short Manager fits rest = more_words (codes "mgr") 11 refl (omega arith) rest

-- ---- the kinds of messages

one_of_read : (first second : List ℕ) (x y : SentKind) (words : List (List ℕ)) (kind : SentKind) → one_of first x second y words ≡ Some kind
    → ((words ≡ first ∷ []) × (x ≡ kind)) ⊎ ((words ≡ second ∷ []) × (y ≡ kind))
unfolding one_of
one_of_read first second x y [] kind read = cc read
one_of_read first second x y (name ∷ words) kind read =
    by_name first name _ _ kind read (λ met end. let e = at_end-Some x kind words end in inl (cc (met, e.1), e.0)) (λ read.
    by_name second name _ _ kind read (λ met end. let e = at_end-Some y kind words end in inr (cc (met, e.1), e.0)) (λ none. cc none))

vote_read : (words : List (List ℕ)) (kind : SentKind) → vote_of words ≡ Some kind → codes "vote" ∷ words ≡ kind_words kind
unfolding vote_of kind_words
vote_read [] kind read = cc read
vote_read (name ∷ words) kind read =
    by_name (codes "ok") name _ _ kind read (λ met end. let e = at_end-Some sent.VoteOk kind words end in rw (← e.0) (cc (met, e.1))) (λ read.
    by_name (codes "mismatch") name _ _ kind read (λ met end. let e = at_end-Some sent.VoteMismatch kind words end in rw (← e.0) (cc (met, e.1))) (λ read.
    by_name (codes "locked") name _ _ kind read (λ met end. let e = at_end-Some sent.VoteLocked kind words end in rw (← e.0) (cc (met, e.1))) (λ read.
    by_name (codes "forced") name _ _ kind read (λ met end. let e = at_end-Some sent.VoteForced kind words end in rw (← e.0) (cc (met, e.1))) (λ read.
    by_name (codes "held") name _ _ kind read (λ met end. let e = at_end-Some sent.VoteHeld kind words end in rw (← e.0) (cc (met, e.1))) (λ none. cc none)))))

held_read : (words : List (List ℕ)) (kind : SentKind) → held_kind_of words ≡ Some kind → codes "held" ∷ words ≡ kind_words kind
unfolding held_kind_of kind_words
held_read [] kind read = cc read
held_read (name ∷ words) kind read =
    by_name (codes "ok") name _ _ kind read (λ met end. let e = at_end-Some sent.HeldOk kind words end in rw (← e.0) (cc (met, e.1))) (λ read.
    by_name (codes "locked") name _ _ kind read (λ met end. let e = at_end-Some sent.HeldLocked kind words end in rw (← e.0) (cc (met, e.1))) (λ read.
    by_name (codes "past") name _ _ kind read (λ met end. let e = at_end-Some sent.HeldPast kind words end in rw (← e.0) (cc (met, e.1))) (λ none. cc none)))

-- two kinds that one word tells apart
decide_read : (words : List (List ℕ)) (kind : SentKind) → one_of (codes "commit") sent.DecideCommit (codes "abort") sent.DecideAbort words ≡ Some kind → codes "decide" ∷ words ≡ kind_words kind
unfolding kind_words
decide_read words kind read = elim (one_of_read (codes "commit") (codes "abort") sent.DecideCommit sent.DecideAbort words kind read) [
  | inl is ↦ rw (← is.1) (ap (λ (ws : List (List ℕ)). codes "decide" ∷ ws) is.0)
  | inr is ↦ rw (← is.1) (ap (λ (ws : List (List ℕ)). codes "decide" ∷ ws) is.0)
]

answer_read : (words : List (List ℕ)) (kind : SentKind) → one_of (codes "ok") sent.AnswerOk (codes "abort") sent.AnswerAbort words ≡ Some kind → codes "answer" ∷ words ≡ kind_words kind
unfolding kind_words
answer_read words kind read = elim (one_of_read (codes "ok") (codes "abort") sent.AnswerOk sent.AnswerAbort words kind read) [
  | inl is ↦ rw (← is.1) (ap (λ (ws : List (List ℕ)). codes "answer" ∷ ws) is.0)
  | inr is ↦ rw (← is.1) (ap (λ (ws : List (List ℕ)). codes "answer" ∷ ws) is.0)
]

piece_read : (words : List (List ℕ)) (kind : SentKind) → piece_of words ≡ Some kind → codes "piece" ∷ words ≡ kind_words kind
unfolding kind_words
piece_read words kind read =
    either_way (after_word (codes "none") words) (at_end sent.PieceNone) (at_end sent.Piece words) kind read
    (λ rest met end.
    let e = at_end-Some sent.PieceNone kind rest end in
    rw (← e.0) (ap (λ (ws : List (List ℕ)). codes "piece" ∷ ws) (after_word-Some (codes "none") words rest met ∙ ap (λ (ws : List (List ℕ)). codes "none" ∷ ws) e.1)))
    (λ end.
    let e = at_end-Some sent.Piece kind words end in
    rw (← e.0) (ap (λ (ws : List (List ℕ)). codes "piece" ∷ ws) e.1))

-- a kind of one word
single : (name word : List ℕ) (words : List (List ℕ)) (x kind : SentKind) → kind_words x ≡ name ∷ [] → word ≡ name → at_end x words ≡ Some kind → word ∷ words ≡ kind_words kind
single name word words x kind has met end =
    let e = at_end-Some x kind words end in
    rw (← e.0) (cc (met, e.1, has))

-- a kind that begins with this word
begins : (name word : List ℕ) (words : List (List ℕ)) (kind : SentKind) → word ≡ name → name ∷ words ≡ kind_words kind → word ∷ words ≡ kind_words kind
begins name word words kind met is = ap (λ (w : List ℕ). w ∷ words) met ∙ is

manager_kind_read : (name : List ℕ) (words : List (List ℕ)) (kind : SentKind) → manager_kind_of name words ≡ Some kind → name ∷ words ≡ kind_words kind
unfolding manager_kind_of kind_words
manager_kind_read name words kind read =
    by_name (codes "ask") name _ _ kind read (λ met end. single _ name words sent.Ask kind refl met end) (λ read.
    by_name (codes "answer") name _ _ kind read (λ met is. begins _ name words kind met (answer_read words kind is)) (λ read.
    by_name (codes "hold") name _ _ kind read (λ met end. single _ name words sent.Hold kind refl met end) (λ read.
    by_name (codes "held") name _ _ kind read (λ met is. begins _ name words kind met (held_read words kind is)) (λ read.
    by_name (codes "release") name _ _ kind read (λ met end. single _ name words sent.Release kind refl met end) (λ read.
    by_name (codes "drop") name _ _ kind read (λ met end. single _ name words sent.Drop kind refl met end) (λ read.
    by_name (codes "read") name _ _ kind read (λ met end. single _ name words sent.Read kind refl met end) (λ read.
    by_name (codes "piece") name _ _ kind read (λ met is. begins _ name words kind met (piece_read words kind is)) (λ none. cc none))))))))

told_kind_read : (name : List ℕ) (words : List (List ℕ)) (kind : SentKind) → told_kind_of name words ≡ Some kind → name ∷ words ≡ kind_words kind
unfolding told_kind_of kind_words
told_kind_read name words kind read =
    by_name (codes "kept") name _ _ kind read (λ met end. single _ name words sent.Kept kind refl met end) (λ read.
    by_name (codes "vote") name _ _ kind read (λ met is. begins _ name words kind met (vote_read words kind is)) (λ read.
    by_name (codes "decide") name _ _ kind read (λ met is. begins _ name words kind met (decide_read words kind is)) (λ manager. manager_kind_read name words kind manager)))

pub kind_read : (words : List (List ℕ)) (kind : SentKind) → kind_of words ≡ Some kind → words ≡ kind_words kind
unfolding kind_of kind_words
kind_read [] kind read = cc read
kind_read (name ∷ words) kind read =
    by_name (codes "prepare") name _ _ kind read (λ met end. single _ name words sent.Prepare kind refl met end) (λ read.
    by_name (codes "done") name _ _ kind read (λ met end. single _ name words sent.Done kind refl met end) (λ read.
    by_name (codes "forget") name _ _ kind read (λ met end. single _ name words sent.Forget kind refl met end) (λ read.
    by_name (codes "list") name _ _ kind read (λ met end. single _ name words sent.List kind refl met end) (λ told. told_kind_read name words kind told))))

pub kind_again : (kind : SentKind) → kind_of (kind_words kind) ≡ Some kind
unfolding kind_of told_kind_of kind_words manager_kind_of vote_of held_kind_of one_of
kind_again sent.Prepare = refl
kind_again sent.VoteOk = refl
kind_again sent.VoteMismatch = refl
kind_again sent.VoteLocked = refl
kind_again sent.VoteForced = refl
kind_again sent.VoteHeld = refl
kind_again sent.DecideCommit = refl
kind_again sent.DecideAbort = refl
kind_again sent.Done = refl
kind_again sent.Forget = refl
kind_again sent.List = refl
kind_again sent.Kept = refl
kind_again sent.Ask = refl
kind_again sent.AnswerOk = refl
kind_again sent.AnswerAbort = refl
kind_again sent.Hold = refl
kind_again sent.HeldOk = refl
kind_again sent.HeldLocked = refl
kind_again sent.HeldPast = refl
kind_again sent.Release = refl
kind_again sent.Drop = refl
kind_again sent.Read = refl
kind_again sent.Piece = refl
kind_again sent.PieceNone = refl

-- one short name, and two
one_name : (name : List ℕ) → IsWord name → length name ≤ 10 → AreShort 22 (name ∷ [])
one_name name is short = weaker 11 22 (name ∷ []) (omega arith) (name_word name is short no_words)

two_names : (name next : List ℕ) → IsWord name → IsWord next → length name ≤ 10 → length next ≤ 10 → AreShort 22 (name ∷ next ∷ [])
two_names name next is next-is short next-short = name_word name is short (name_word next next-is next-short no_words)

pub kind_short : (kind : SentKind) → AreShort 22 (kind_words kind)
unfolding kind_words
kind_short sent.Prepare = one_name (codes "prepare") refl (omega arith)
kind_short sent.VoteOk = two_names (codes "vote") (codes "ok") refl refl (omega arith) (omega arith)
kind_short sent.VoteMismatch = two_names (codes "vote") (codes "mismatch") refl refl (omega arith) (omega arith)
kind_short sent.VoteLocked = two_names (codes "vote") (codes "locked") refl refl (omega arith) (omega arith)
kind_short sent.VoteForced = two_names (codes "vote") (codes "forced") refl refl (omega arith) (omega arith)
kind_short sent.VoteHeld = two_names (codes "vote") (codes "held") refl refl (omega arith) (omega arith)
kind_short sent.DecideCommit = two_names (codes "decide") (codes "commit") refl refl (omega arith) (omega arith)
kind_short sent.DecideAbort = two_names (codes "decide") (codes "abort") refl refl (omega arith) (omega arith)
kind_short sent.Done = one_name (codes "done") refl (omega arith)
kind_short sent.Forget = one_name (codes "forget") refl (omega arith)
kind_short sent.List = one_name (codes "list") refl (omega arith)
kind_short sent.Kept = one_name (codes "kept") refl (omega arith)
kind_short sent.Ask = one_name (codes "ask") refl (omega arith)
kind_short sent.AnswerOk = two_names (codes "answer") (codes "ok") refl refl (omega arith) (omega arith)
kind_short sent.AnswerAbort = two_names (codes "answer") (codes "abort") refl refl (omega arith) (omega arith)
kind_short sent.Hold = one_name (codes "hold") refl (omega arith)
kind_short sent.HeldOk = two_names (codes "held") (codes "ok") refl refl (omega arith) (omega arith)
kind_short sent.HeldLocked = two_names (codes "held") (codes "locked") refl refl (omega arith) (omega arith)
kind_short sent.HeldPast = two_names (codes "held") (codes "past") refl refl (omega arith) (omega arith)
kind_short sent.Release = one_name (codes "release") refl (omega arith)
kind_short sent.Drop = one_name (codes "drop") refl (omega arith)
kind_short sent.Read = one_name (codes "read") refl (omega arith)
kind_short sent.Piece = one_name (codes "piece") refl (omega arith)
kind_short sent.PieceNone = two_names (codes "piece") (codes "none") refl refl (omega arith) (omega arith)
