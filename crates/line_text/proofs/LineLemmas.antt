-- The lines of a transcript: reading takes exactly the words of lines.
use Rattle.std.proofs.Common.{◌≡◌, ℕ, ◌+◌, ◌^◌, ◌<◌, ◌≤◌, List, [], ◌∷◌, ◌++◌, length, Option, Some, None, Result, Ok, Err, IfOk, refl, sym, ap, ◌∙◌, append_assoc, arith}
use Rattle.std.specs.Prelude.{codes, decimal, OnOk}
use Rattle.std.proofs.lemmas.List.Splits.{join_with_byte-slice_split}
use Rattle.std.proofs.lemmas.Option.{same_Some}
use Rattle.line_words.specs.Words.{text_of_words, space, words_of}
use Rattle.line_words.specs.Reading.{◌>>=◌, either, Answers, after_word, last_bytes, number_at, at_end}
use Rattle.line_words.specs.declared.line_fault.LineFault.{LineFault}
use Rattle.line_words.proofs.BytesLemmas.{bytes_of-encode}
use Rattle.line_words.proofs.NumberLemmas.{number_of-decimal}
use Rattle.line_words.proofs.ReadingLemmas.{after_word-Some, at_end-Some, bind_some, by_name, decimal_is_not_skipped, either_way, last_bytes-Some, name_step, number_step}
use Rattle.line_words.proofs.SpellingLemmas.{AreShort, IsOneLine, IsWord, bytes_word, name_word, no_words, one_line, small_word, wide_word}
use Rattle.event_text.specs.Grammar.{actor_words, event_words, spelling_of_event, HasEventSpelling, IsTold}
use Rattle.mini_tx.specs.declared.actor.Actor.TheVariants.{Node, Memory, Manager}
use Rattle.event_text.specs.Reading.{actor_at, told_of_words}
use Rattle.event_text.specs.declared.event.Event.{Event}
use Rattle.event_text.specs.declared.event.Event.TheVariants as event
use Rattle.event_text.proofs.EventLemmas.{actor_again, actor_read, is_told_words, small, told_again, told_short, told_words_read, wide}
use Rattle.line_text.specs.Laws.{LinesAreReadExactly, LinesHaveTheirOwnSpellings, LinesAreLines}
use Rattle.line_text.specs.Grammar.{spelling_of_line, HasLineSpelling, line_words, made_words, why_words, down_words, retry_words, backup_words, mark_word, kind_words, IsTypedFile}
use Rattle.line_text.specs.Listed.{listed_of}
use Rattle.line_text.specs.Reading.{made_of, why_of, down_why_of, retry_why_of, backup_why_of, mark_at, kind_of, do_arrive_of, do_event_of, do_of, lost_of, down_of, point_of, sent_of, reply_of, retry_backup_of, retry_arrival_of, retry_of, dropped_of, cut_of, backup_of, listing_of, mounting_of, mounted_of, refused_of, ending_of, carried_of, line_of_words, listed_or, line_of}
use Rattle.line_text.specs.declared.line.Line.{Line}
use Rattle.line_text.specs.declared.line.Line.TheVariants as line
use Rattle.line_text.proofs.ListedLemmas.{listed_line}
use Rattle.line_text.proofs.PartLemmas.{backup_again, backup_read, backup_short, down_again, down_read, down_short, kind_again, kind_read, kind_short, made_again, made_read, mark_at_again, mark_at_read, mark_short, retry_again, retry_read, retry_short, why_again, why_read, why_short}

-- these words are read as a line, which has them
pub record IsLine (words : List (List ℕ)) (l : Line) : Type 0 where
  pub fits : HasLineSpelling l
  pub words_are : words ≡ line_words l

-- ---- lines, by the words after their names

-- words that are read as an arrival that is handled are its words
do_arrive_read : (words : List (List ℕ)) (l : Line) → do_arrive_of words ≡ Some l → IsLine (codes "do" ∷ codes "arrive" ∷ words) l
unfolding do_arrive_of line_words
do_arrive_read words l read =
    let arrival = number_step 32 words _ l small read in
    let node = number_step 32 arrival.rest _ l small arrival.then in
    let end = at_end-Some _ l node.rest node.then in
    rw (← end.0) (record {
      fits = record { typed = (arrival.fits, node.fits); writable = tt };
      words_are = cc (arrival.words_are, node.words_are, end.1);
    })

-- words that are read as another event that is handled are its words
do_event_read : (words : List (List ℕ)) (l : Line) → do_event_of words ≡ Some l → IsLine (codes "do" ∷ words) l
unfolding line_words
do_event_read words l read =
    let found = bind_some (told_of_words words) _ l read in
    let e = told_words_read words found.0 found.1 in
    rw (← same_Some _ l found.2) (record {
      fits = record { typed = e.fits.typed; writable = record { told = is_told_words words found.0 found.1; writable = e.fits.writable } };
      words_are = ap (λ (ws : List (List ℕ)). codes "do" ∷ ws) e.words_are;
    })

do_read : (words : List (List ℕ)) (l : Line) → do_of words ≡ Some l → IsLine (codes "do" ∷ words) l
unfolding do_of
do_read words l read =
    either_way (after_word (codes "arrive") words) do_arrive_of (do_event_of words) l read
    (λ rest met arrive.
    let is = do_arrive_read rest l arrive in
    record { fits = is.fits; words_are = ap (λ (ws : List (List ℕ)). codes "do" ∷ ws) (after_word-Some (codes "arrive") words rest met) ∙ is.words_are })
    (λ other. do_event_read words l other)

-- words that are read as a lost message are its words
lost_read : (words : List (List ℕ)) (l : Line) → lost_of words ≡ Some l → IsLine (codes "lost" ∷ words) l
unfolding lost_of line_words
lost_read words l read =
    let k = number_step 64 words _ l wide read in
    let end = at_end-Some _ l k.rest k.then in
    rw (← end.0) (record { fits = record { typed = k.fits; writable = tt }; words_are = cc (k.words_are, end.1) })

-- words that are read as an actor that went down are its words
down_line_read : (words : List (List ℕ)) (l : Line) → down_of words ≡ Some l → IsLine (codes "down" ∷ words) l
unfolding down_of line_words
down_line_read words l read =
    let found = bind_some (actor_at words) _ l read in
    let who = actor_read words found.0 found.1 in
    let last = bind_some (down_why_of found.0.0 found.0.1) _ l found.2 in
    let why = down_read found.0.0 found.0.1 last.0 last.1 in
    rw (← same_Some _ l last.2) (record {
      fits = record { typed = who.0; writable = why.0 };
      words_are = ap (λ (ws : List (List ℕ)). codes "down" ∷ ws) (who.1 ∙ ap (λ (ws : List (List ℕ)). actor_words found.0.0 ++ ws) why.1);
    })

-- words that are read as a change are its words
point_read : (words : List (List ℕ)) (l : Line) → point_of words ≡ Some l → IsLine (codes "point" ∷ words) l
unfolding point_of line_words
point_read words l read =
    let point = number_step 64 words _ l wide read in
    let before_arrival = name_step (codes "arrival") point.rest _ l point.then in
    let arrival = number_step 32 before_arrival.rest _ l small before_arrival.then in
    let before_made = name_step (codes "made") arrival.rest _ l arrival.then in
    let first = number_step 32 before_made.rest _ l small before_made.then in
    let second = number_step 32 first.rest _ l small first.then in
    let end = at_end-Some _ l second.rest second.then in
    let made = made_read first.number second.number first.fits second.fits in
    rw (← end.0) (record {
      fits = record { typed = (point.fits, arrival.fits, made.0); writable = made.1 };
      words_are = cc (
        point.words_are,
        before_arrival.words_are,
        arrival.words_are,
        before_made.words_are,
        first.words_are,
        second.words_are,
        end.1,
        made.2,
      );
    })

-- words that are read as a message that was posted are its words
sent_read : (words : List (List ℕ)) (l : Line) → sent_of words ≡ Some l → IsLine (codes "sent" ∷ words) l
unfolding sent_of line_words
sent_read words l read =
    let k = number_step 64 words _ l wide read in
    let found = bind_some (mark_at k.rest) _ l k.then in
    let from = mark_at_read k.rest found.0 found.1 in
    let next = bind_some (mark_at found.0.1) _ l found.2 in
    let to = mark_at_read found.0.1 next.0 next.1 in
    let last = bind_some (kind_of next.0.1) _ l next.2 in
    let kind = kind_read next.0.1 last.0 last.1 in
    rw (← same_Some _ l last.2) (record {
      fits = record { typed = (k.fits, from.0, to.0); writable = tt };
      words_are = cc (k.words_are, from.1, to.1, kind);
    })

-- words that are read as a reply are its words
reply_read : (words : List (List ℕ)) (l : Line) → reply_of words ≡ Some l → IsLine (codes "reply" ∷ words) l
unfolding reply_of line_words
reply_read words l read =
    let arrival = number_step 32 words _ l small read in
    let before_at = name_step (codes "at") arrival.rest _ l arrival.then in
    let at = number_step 64 before_at.rest _ l wide before_at.then in
    let last = bind_some (last_bytes at.rest) _ l at.then in
    let bytes = last_bytes-Some at.rest last.0 last.1 in
    let is : line.Reply arrival.number at.number last.0 ≡ l = cc last.2 in
    rw (← is) (record {
      fits = record { typed = (arrival.fits, at.fits, bytes.0.each); writable = bytes.0.size };
      words_are = cc (arrival.words_are, before_at.words_are, at.words_are, bytes.1);
    })

-- words that are read as a backup that ended before it was done are its words
retry_backup_read : (words : List (List ℕ)) (l : Line) → retry_backup_of words ≡ Some l → IsLine (codes "retry" ∷ codes "backup" ∷ words) l
unfolding retry_backup_of line_words
retry_backup_read words l read =
    let number = number_step 32 words _ l small read in
    let last = bind_some (backup_why_of number.rest) _ l number.then in
    let why = backup_read number.rest last.0 last.1 in
    rw (← same_Some _ l last.2) (record { fits = record { typed = (number.fits, why.0); writable = tt }; words_are = cc (number.words_are, why.1) })

-- words that are read as an arrival that ended after it ran are its words
retry_arrival_read : (words : List (List ℕ)) (l : Line) → retry_arrival_of words ≡ Some l → IsLine (codes "retry" ∷ words) l
unfolding retry_arrival_of line_words
retry_arrival_read words l read =
    let arrival = number_step 32 words _ l small read in
    let last = bind_some (retry_why_of arrival.rest) _ l arrival.then in
    let why = retry_read arrival.rest last.0 last.1 in
    rw (← same_Some _ l last.2) (record { fits = record { typed = (arrival.fits, why.0); writable = tt }; words_are = cc (arrival.words_are, why.1) })

retry_line_read : (words : List (List ℕ)) (l : Line) → retry_of words ≡ Some l → IsLine (codes "retry" ∷ words) l
unfolding retry_of
retry_line_read words l read =
    either_way (after_word (codes "backup") words) retry_backup_of (retry_arrival_of words) l read
    (λ rest met backup.
    let is = retry_backup_read rest l backup in
    record { fits = is.fits; words_are = ap (λ (ws : List (List ℕ)). codes "retry" ∷ ws) (after_word-Some (codes "backup") words rest met) ∙ is.words_are })
    (λ other. retry_arrival_read words l other)

-- words that are read as an arrival without a reply are its words
dropped_read : (words : List (List ℕ)) (l : Line) → dropped_of words ≡ Some l → IsLine (codes "dropped" ∷ words) l
unfolding dropped_of line_words
dropped_read words l read =
    let arrival = number_step 32 words _ l small read in
    let last = bind_some (why_of arrival.rest) _ l arrival.then in
    let why = why_read arrival.rest last.0 last.1 in
    let is : line.Dropped arrival.number last.0 ≡ l = cc last.2 in
    rw (← is) (record { fits = record { typed = (arrival.fits, why.0); writable = tt }; words_are = cc (arrival.words_are, why.1) })

-- words that are read as a cut are its words
cut_line_read : (words : List (List ℕ)) (l : Line) → cut_of words ≡ Some l → IsLine (codes "cut" ∷ words) l
unfolding cut_of line_words
cut_line_read words l read =
    let number = number_step 32 words _ l small read in
    let before_at = name_step (codes "at") number.rest _ l number.then in
    let at = number_step 64 before_at.rest _ l wide before_at.then in
    let end = at_end-Some _ l at.rest at.then in
    rw (← end.0) (record {
      fits = record { typed = (number.fits, at.fits); writable = tt };
      words_are = cc (number.words_are, before_at.words_are, at.words_are, end.1);
    })

-- words that are read as a backup that is done are its words
backup_line_read : (words : List (List ℕ)) (l : Line) → backup_of words ≡ Some l → IsLine (codes "backup" ∷ words) l
unfolding backup_of line_words
backup_line_read words l read =
    let number = number_step 32 words _ l small read in
    let done = name_step (codes "done") number.rest _ l number.then in
    let end = at_end-Some _ l done.rest done.then in
    rw (← end.0) (record { fits = record { typed = number.fits; writable = tt }; words_are = cc (number.words_are, done.words_are, end.1) })

-- words that are read as what a mounting came to are its words
mounting_read : (number : ℕ) (words : List (List ℕ)) (l : Line) → number < 2 ^ 32 → mounting_of number words ≡ Some l → IsLine (codes "mounted" ∷ decimal number ∷ words) l
unfolding mounting_of line_words
mounting_read number words l fits read =
    either_way (after_word (codes "failed") words) (at_end (line.MountFailed number))
    (either (after_word (codes "bad") words) (at_end (line.MountBad number)) (listing_of number words)) l read
    (λ rest met is.
    let end = at_end-Some _ l rest is in
    rw (← end.0) (record {
      fits = record { typed = fits; writable = tt };
      words_are = ap (λ (ws : List (List ℕ)). codes "mounted" ∷ decimal number ∷ ws) (after_word-Some (codes "failed") words rest met ∙ ap (λ (ws : List (List ℕ)). codes "failed" ∷ ws) end.1);
    }))
    (λ read. either_way (after_word (codes "bad") words) (at_end (line.MountBad number)) (listing_of number words) l read
    (λ rest met is.
    let end = at_end-Some _ l rest is in
    rw (← end.0) (record {
      fits = record { typed = fits; writable = tt };
      words_are = ap (λ (ws : List (List ℕ)). codes "mounted" ∷ decimal number ∷ ws) (after_word-Some (codes "bad") words rest met ∙ ap (λ (ws : List (List ℕ)). codes "bad" ∷ ws) end.1);
    }))
    (λ is.
    let lines = number_step 64 words _ l wide is in
    let end = at_end-Some _ l lines.rest lines.then in
    rw (← end.0) (record {
      fits = record { typed = (fits, lines.fits); writable = tt };
      words_are = ap (λ (ws : List (List ℕ)). codes "mounted" ∷ decimal number ∷ ws) (lines.words_are ∙ ap (λ (ws : List (List ℕ)). decimal lines.number ∷ ws) end.1);
    })))

mounted_read : (words : List (List ℕ)) (l : Line) → mounted_of words ≡ Some l → IsLine (codes "mounted" ∷ words) l
unfolding mounted_of
mounted_read words l read =
    let number = number_step 32 words _ l small read in
    let is = mounting_read number.number number.rest l number.fits number.then in
    record { fits = is.fits; words_are = ap (λ (ws : List (List ℕ)). codes "mounted" ∷ ws) number.words_are ∙ is.words_are }

-- words that are read as a refusal are its words
refused_read : (words : List (List ℕ)) (l : Line) → refused_of words ≡ Some l → IsLine (codes "refused" ∷ words) l
unfolding refused_of line_words
refused_read words l read =
    let number = number_step 64 words _ l wide read in
    let end = at_end-Some _ l number.rest number.then in
    rw (← end.0) (record { fits = record { typed = number.fits; writable = tt }; words_are = cc (number.words_are, end.1) })

-- words that are read as the end are its words
end_read : (words : List (List ℕ)) (l : Line) → at_end line.End words ≡ Some l → IsLine (codes "end" ∷ words) l
unfolding line_words
end_read words l read =
    let end = at_end-Some line.End l words read in
    rw (← end.0) (record { fits = record { typed = tt; writable = tt }; words_are = cc end.1 })

-- a name in front of words
named : (name word : List ℕ) (words : List (List ℕ)) (l : Line) → word ≡ name → IsLine (name ∷ words) l → IsLine (word ∷ words) l
named name word words l met is = record {
  fits = is.fits;
  words_are = ap (λ (w : List ℕ). w ∷ words) met ∙ is.words_are;
}

-- words that are read as what ends something are its words
ending_read : (name : List ℕ) (words : List (List ℕ)) (l : Line) → ending_of name words ≡ Some l → IsLine (name ∷ words) l
unfolding ending_of
ending_read name words l read =
    by_name (codes "retry") name _ _ l read (λ met is. named _ name words l met (retry_line_read words l is)) (λ read.
    by_name (codes "dropped") name _ _ l read (λ met is. named _ name words l met (dropped_read words l is)) (λ read.
    by_name (codes "cut") name _ _ l read (λ met is. named _ name words l met (cut_line_read words l is)) (λ read.
    by_name (codes "backup") name _ _ l read (λ met is. named _ name words l met (backup_line_read words l is)) (λ read.
    by_name (codes "mounted") name _ _ l read (λ met is. named _ name words l met (mounted_read words l is)) (λ read.
    by_name (codes "refused") name _ _ l read (λ met is. named _ name words l met (refused_read words l is)) (λ read.
    by_name (codes "end") name _ _ l read (λ met is. named _ name words l met (end_read words l is)) (λ none. cc none)))))))

-- words that are read as a message, a reply, or what ends something, are its words
carried_read : (name : List ℕ) (words : List (List ℕ)) (l : Line) → carried_of name words ≡ Some l → IsLine (name ∷ words) l
unfolding carried_of
carried_read name words l read =
    by_name (codes "sent") name _ _ l read (λ met is. named _ name words l met (sent_read words l is)) (λ read.
    by_name (codes "reply") name _ _ l read (λ met is. named _ name words l met (reply_read words l is)) (λ ending. ending_read name words l ending))

-- words that are read as a line, none of a listing, are its words
pub line_read : (words : List (List ℕ)) (l : Line) → line_of_words words ≡ Some l → IsLine words l
unfolding line_of_words
line_read [] l read = cc read
line_read (name ∷ words) l read =
    by_name (codes "do") name _ _ l read (λ met is. named _ name words l met (do_read words l is)) (λ read.
    by_name (codes "lost") name _ _ l read (λ met is. named _ name words l met (lost_read words l is)) (λ read.
    by_name (codes "down") name _ _ l read (λ met is. named _ name words l met (down_line_read words l is)) (λ read.
    by_name (codes "point") name _ _ l read (λ met is. named _ name words l met (point_read words l is)) (λ carried. carried_read name words l carried))))

-- ---- and back

-- an event that is told so is no arrival
no_arrival : (e : Event) → IsTold e → after_word (codes "arrive") (event_words e) ≡ None
unfolding event_words
no_arrival (event.Cluster nodes memories blocks inodes) told = absurd told
no_arrival (event.Arrive node sec usec bytes) told = absurd told
no_arrival (event.Deliver k stop) told = refl
no_arrival (event.Drain count) told = absurd told
no_arrival (event.Lose k) told = refl
no_arrival (event.GiveUp who) told = refl
no_arrival (event.Resend who) told = refl
no_arrival (event.Crash who) told = refl
no_arrival (event.Start who choice) told = refl
no_arrival (event.Sweep memory) told = refl
no_arrival (event.Checkpoint memory) told = refl
no_arrival event.Backup told = refl
no_arrival (event.Show number) told = refl
no_arrival event.End told = absurd told

-- the event of a line has a spelling
event_fits : (e : Event) → HasLineSpelling (line.DoEvent e) → HasEventSpelling e
event_fits e fits = record { typed = fits.typed; writable = fits.writable.writable }

do_event_again : (e : Event) → HasLineSpelling (line.DoEvent e) → do_of (event_words e) ≡ Some (line.DoEvent e)
unfolding do_of
do_event_again e fits =
    ap (λ (o : Option (List (List ℕ))). either o do_arrive_of (do_event_of (event_words e))) (no_arrival e fits.writable.told)
    ∙ ap (λ (o : Option Event). o >>= (λ e. Some (line.DoEvent e))) (told_again e fits.writable.told (event_fits e fits))

retry_line_again : (arrival : ℕ) (rest : List (List ℕ)) → arrival < 2 ^ 32 → retry_of (decimal arrival ∷ rest) ≡ retry_arrival_of (decimal arrival ∷ rest)
unfolding retry_of
retry_line_again arrival rest fits =
    ap (λ (o : Option (List (List ℕ))). either o retry_backup_of (retry_arrival_of (decimal arrival ∷ rest))) (decimal_is_not_skipped arrival (codes "backup") rest (omega (arith, fits)) refl)

listing_again : (number lines : ℕ) → lines < 2 ^ 64 → mounting_of number (decimal lines ∷ []) ≡ listing_of number (decimal lines ∷ [])
unfolding mounting_of
listing_again number lines fits =
    ap (λ (o : Option (List (List ℕ))). either o (at_end (line.MountFailed number)) (either (after_word (codes "bad") (decimal lines ∷ [])) (at_end (line.MountBad number)) (listing_of number (decimal lines ∷ []))))
    (decimal_is_not_skipped lines (codes "failed") [] fits refl)
    ∙ ap (λ (o : Option (List (List ℕ))). either o (at_end (line.MountBad number)) (listing_of number (decimal lines ∷ []))) (decimal_is_not_skipped lines (codes "bad") [] fits refl)

-- the words of a line, none of a listing, are read as it
pub line_again : (l : Line) → HasLineSpelling l → ((text : List ℕ) → l ≡ line.Listed text → ⊥) → line_of_words (line_words l) ≡ Some l
unfolding line_of_words carried_of ending_of line_words do_arrive_of do_of lost_of down_of point_of sent_of reply_of retry_backup_of retry_arrival_of retry_of dropped_of cut_of backup_of mounted_of mounting_of refused_of
line_again (line.DoArrive arrival node) fits other =
    rw (number_of-decimal 32 arrival small fits.typed.0, number_of-decimal 32 node small fits.typed.1) refl
line_again (line.DoEvent e) fits other = do_event_again e fits
line_again (line.Lost k) fits other = rw (number_of-decimal 64 k wide fits.typed) refl
line_again (line.Down who why) fits other = rw (actor_again who (down_words why) fits.typed, down_again who why fits.writable) refl
line_again (line.Point point arrival None) fits other =
    let zero = number_of-decimal 32 0 small (omega arith) in
    rw (number_of-decimal 64 point wide fits.typed.0, number_of-decimal 32 arrival small fits.typed.1, zero, zero) refl
line_again (line.Point point arrival (Some file)) fits other =
    rw (
      number_of-decimal 64 point wide fits.typed.0,
      number_of-decimal 32 arrival small fits.typed.1,
      number_of-decimal 32 file.0 small fits.typed.2.0,
      number_of-decimal 32 file.1 small fits.typed.2.1,
      made_again file fits.writable,
    ) refl
line_again (line.Sent k from to kind) fits other =
    rw (number_of-decimal 64 k wide fits.typed.0, mark_at_again from (mark_word to ∷ kind_words kind) fits.typed.1, mark_at_again to (kind_words kind) fits.typed.2, kind_again kind) refl
line_again (line.Reply arrival at bytes) fits other =
    rw (
      number_of-decimal 32 arrival small fits.typed.0,
      number_of-decimal 64 at wide fits.typed.1,
      bytes_of-encode bytes (record { size = fits.writable; each = fits.typed.2 }),
    ) refl
line_again (line.Retry arrival why) fits other =
    retry_line_again arrival (retry_words why) fits.typed.0 ∙ rw (number_of-decimal 32 arrival small fits.typed.0, retry_again why fits.typed.1) refl
line_again (line.Dropped arrival why) fits other = rw (number_of-decimal 32 arrival small fits.typed.0, why_again why fits.typed.1) refl
line_again (line.Cut number at) fits other = rw (number_of-decimal 32 number small fits.typed.0, number_of-decimal 64 at wide fits.typed.1) refl
line_again (line.BackupDone number) fits other = rw (number_of-decimal 32 number small fits.typed) refl
line_again (line.RetryBackup number why) fits other = rw (number_of-decimal 32 number small fits.typed.0, backup_again why fits.typed.1) refl
line_again (line.Mounted number lines) fits other =
    rw (number_of-decimal 32 number small fits.typed.0) (listing_again number lines fits.typed.1 ∙ rw (number_of-decimal 64 lines wide fits.typed.1) refl)
line_again (line.Listed text) fits other = absurd (other text refl)
line_again (line.MountFailed number) fits other = rw (number_of-decimal 32 number small fits.typed) refl
line_again (line.MountBad number) fits other = rw (number_of-decimal 32 number small fits.typed) refl
line_again (line.Refused number) fits other = rw (number_of-decimal 64 number wide fits.typed) refl
line_again line.End fits other = refl

-- and they are none of a listing
not_listed : (l : Line) → ((text : List ℕ) → l ≡ line.Listed text → ⊥) → listed_of (line_words l) ≡ None
unfolding listed_of line_words
not_listed (line.DoArrive arrival node) other = refl
not_listed (line.DoEvent e) other = refl
not_listed (line.Lost k) other = refl
not_listed (line.Down who why) other = refl
not_listed (line.Point point arrival made) other = refl
not_listed (line.Sent k from to kind) other = refl
not_listed (line.Reply arrival at bytes) other = refl
not_listed (line.Retry arrival why) other = refl
not_listed (line.Dropped arrival why) other = refl
not_listed (line.Cut number at) other = refl
not_listed (line.BackupDone number) other = refl
not_listed (line.RetryBackup number why) other = refl
not_listed (line.Mounted number lines) other = refl
not_listed (line.Listed text) other = absurd (other text refl)
not_listed (line.MountFailed number) other = refl
not_listed (line.MountBad number) other = refl
not_listed (line.Refused number) other = refl
not_listed line.End other = refl

-- ---- the words are those of one line

made_short : (made : Option (ℕ × ℕ)) → IsTypedFile made → AreShort 22 (made_words made)
made_short None fits = small_word 0 (omega arith) (small_word 0 (omega arith) no_words)
made_short (Some file) fits = small_word file.0 fits.0 (small_word file.1 fits.1 no_words)

after_name : (name : List ℕ) (words : List (List ℕ)) → IsWord name → length name ≤ 10 → (most : ℕ) → most ≤ 200 → AreShort most words → IsOneLine (name ∷ words)
after_name name words is short most few are = one_line (10 + 1 + most) (name ∷ words) (omega arith) (omega (arith, few)) (name_word name is short are)

pub line_line : (l : Line) → HasLineSpelling l → IsOneLine (line_words l)
unfolding line_words
line_line (line.DoArrive arrival node) fits =
    after_name (codes "do") _ refl (omega arith) 33 (omega arith)
    (name_word (codes "arrive") refl (omega arith) (small_word arrival fits.typed.0 (small_word node fits.typed.1 no_words)))
line_line (line.DoEvent e) fits = after_name (codes "do") (event_words e) refl (omega arith) 100 (omega arith) (told_short e fits.writable.told fits.typed)
line_line (line.Lost k) fits = after_name (codes "lost") _ refl (omega arith) 21 (omega arith) (wide_word k fits.typed no_words)
line_line (line.Down (Node n) why) fits =
    after_name (codes "down") _ refl (omega arith) 33 (omega arith) (name_word (codes "node") refl (omega arith) (small_word n fits.typed (down_short why)))
line_line (line.Down (Memory m) why) fits =
    after_name (codes "down") _ refl (omega arith) 33 (omega arith) (name_word (codes "memory") refl (omega arith) (small_word m fits.typed (down_short why)))
line_line (line.Down Manager why) fits = after_name (codes "down") _ refl (omega arith) 22 (omega arith) (name_word (codes "manager") refl (omega arith) (down_short why))
line_line (line.Point point arrival made) fits =
    after_name (codes "point") _ refl (omega arith) 76 (omega arith)
    (wide_word point fits.typed.0 (name_word (codes "arrival") refl (omega arith) (small_word arrival fits.typed.1 (name_word (codes "made") refl (omega arith) (made_short made fits.typed.2)))))
line_line (line.Sent k from to kind) fits =
    after_name (codes "sent") _ refl (omega arith) 67 (omega arith) (wide_word k fits.typed.0 (mark_short from fits.typed.1 (mark_short to fits.typed.2 (kind_short kind))))
line_line (line.Reply arrival at bytes) fits =
    one_line _ _ (omega arith) (omega arith)
    (name_word (codes "reply") refl (omega arith) (small_word arrival fits.typed.0
    (name_word (codes "at") refl (omega arith) (wide_word at fits.typed.1 (bytes_word bytes (record { size = fits.writable; each = fits.typed.2 }) no_words)))))
line_line (line.Retry arrival why) fits = after_name (codes "retry") _ refl (omega arith) 86 (omega arith) (small_word arrival fits.typed.0 (retry_short why fits.typed.1))
line_line (line.Dropped arrival why) fits = after_name (codes "dropped") _ refl (omega arith) 44 (omega arith) (small_word arrival fits.typed.0 (why_short why fits.typed.1))
line_line (line.Cut number at) fits =
    after_name (codes "cut") _ refl (omega arith) 43 (omega arith) (small_word number fits.typed.0 (name_word (codes "at") refl (omega arith) (wide_word at fits.typed.1 no_words)))
line_line (line.BackupDone number) fits =
    after_name (codes "backup") _ refl (omega arith) 22 (omega arith) (small_word number fits.typed (name_word (codes "done") refl (omega arith) no_words))
line_line (line.RetryBackup number why) fits =
    after_name (codes "retry") _ refl (omega arith) 97 (omega arith) (name_word (codes "backup") refl (omega arith) (small_word number fits.typed.0 (backup_short why fits.typed.1)))
line_line (line.Mounted number lines) fits =
    after_name (codes "mounted") _ refl (omega arith) 32 (omega arith) (small_word number fits.typed.0 (wide_word lines fits.typed.1 no_words))
line_line (line.Listed text) fits = listed_line (words_of text) fits.writable
line_line (line.MountFailed number) fits =
    after_name (codes "mounted") _ refl (omega arith) 22 (omega arith) (small_word number fits.typed (name_word (codes "failed") refl (omega arith) no_words))
line_line (line.MountBad number) fits =
    after_name (codes "mounted") _ refl (omega arith) 22 (omega arith) (small_word number fits.typed (name_word (codes "bad") refl (omega arith) no_words))
line_line (line.Refused number) fits = after_name (codes "refused") _ refl (omega arith) 21 (omega arith) (wide_word number fits.typed no_words)
line_line line.End fits = after_name (codes "end") _ refl (omega arith) 0 (omega arith) no_words

-- ---- lines of text

-- the line of the words of a line is that line
pub whole : (text : List ℕ) → text_of_words (words_of text) ≡ text
whole text = join_with_byte-slice_split space text

-- what is read is the spelling of a line
pub line_found : (text : List ℕ) (l : Line) → line_of text ≡ Some l → HasLineSpelling l × (text ≡ spelling_of_line l)
unfolding line_of spelling_of_line line_words
line_found text l read = go (listed_of (words_of text)) refl read
  where
    go : (o : Option (Unit {0})) → listed_of (words_of text) ≡ o → listed_or text o ≡ Some l → HasLineSpelling l × (text ≡ text_of_words (line_words l))
    go (Some u) is read = rw (← same_Some (line.Listed text) l read) (record { typed = tt; writable = is }, sym (whole text))
    go None is read =
        let found = line_read (words_of text) l read in
        (found.fits, sym (whole text) ∙ ap text_of_words found.words_are)

-- an answer that was read is spelled so
pub line_answered : (answer : Result Line LineFault) (text : List ℕ) → Answers answer (line_of text)
    → IfOk answer (λ l. HasLineSpelling l × (text ≡ spelling_of_line l))
line_answered (Ok l) text read = line_found text l read
line_answered (Err fault) text read = tt

-- a line that is none of a listing
other_spelled : (l : Line) → HasLineSpelling l → ((text : List ℕ) → l ≡ line.Listed text → ⊥) → line_of (spelling_of_line l) ≡ Some l
unfolding line_of spelling_of_line
other_spelled l fits other =
    let one = line_line l fits in
    ap (listed_or (text_of_words (line_words l))) (ap listed_of one.parts ∙ not_listed l other) ∙ ap line_of_words one.parts ∙ line_again l fits other

-- and one that is
listed_spelled : (text : List ℕ) → HasLineSpelling (line.Listed text) → line_of (spelling_of_line (line.Listed text)) ≡ Some (line.Listed text)
unfolding line_of spelling_of_line line_words
listed_spelled text fits = ap line_of (whole text) ∙ ap (listed_or text) fits.writable

-- a spelling is read
pub line_spelled : (l : Line) → HasLineSpelling l → line_of (spelling_of_line l) ≡ Some l
line_spelled (line.DoArrive arrival node) fits = other_spelled (line.DoArrive arrival node) fits (λ text is. cc is)
line_spelled (line.DoEvent e) fits = other_spelled (line.DoEvent e) fits (λ text is. cc is)
line_spelled (line.Lost k) fits = other_spelled (line.Lost k) fits (λ text is. cc is)
line_spelled (line.Down who why) fits = other_spelled (line.Down who why) fits (λ text is. cc is)
line_spelled (line.Point point arrival made) fits = other_spelled (line.Point point arrival made) fits (λ text is. cc is)
line_spelled (line.Sent k from to kind) fits = other_spelled (line.Sent k from to kind) fits (λ text is. cc is)
line_spelled (line.Reply arrival at bytes) fits = other_spelled (line.Reply arrival at bytes) fits (λ text is. cc is)
line_spelled (line.Retry arrival why) fits = other_spelled (line.Retry arrival why) fits (λ text is. cc is)
line_spelled (line.Dropped arrival why) fits = other_spelled (line.Dropped arrival why) fits (λ text is. cc is)
line_spelled (line.Cut number at) fits = other_spelled (line.Cut number at) fits (λ text is. cc is)
line_spelled (line.BackupDone number) fits = other_spelled (line.BackupDone number) fits (λ text is. cc is)
line_spelled (line.RetryBackup number why) fits = other_spelled (line.RetryBackup number why) fits (λ text is. cc is)
line_spelled (line.Mounted number lines) fits = other_spelled (line.Mounted number lines) fits (λ text is. cc is)
line_spelled (line.Listed text) fits = listed_spelled text fits
line_spelled (line.MountFailed number) fits = other_spelled (line.MountFailed number) fits (λ text is. cc is)
line_spelled (line.MountBad number) fits = other_spelled (line.MountBad number) fits (λ text is. cc is)
line_spelled (line.Refused number) fits = other_spelled (line.Refused number) fits (λ text is. cc is)
line_spelled line.End fits = other_spelled line.End fits (λ text is. cc is)

-- ---- what is written

-- the words of an event behind `do`
do_words : (e : Event) → text_of_words (codes "do" ∷ [] ∷ []) ++ spelling_of_event e ≡ text_of_words (codes "do" ∷ event_words e)
unfolding spelling_of_event event_words
do_words (event.Cluster nodes memories blocks inodes) = refl
do_words (event.Arrive node sec usec bytes) = refl
do_words (event.Deliver k stop) = refl
do_words (event.Drain count) = refl
do_words (event.Lose k) = refl
do_words (event.GiveUp who) = refl
do_words (event.Resend who) = refl
do_words (event.Crash who) = refl
do_words (event.Start who choice) = refl
do_words (event.Sweep memory) = refl
do_words (event.Checkpoint memory) = refl
do_words event.Backup = refl
do_words (event.Show number) = refl
do_words event.End = refl

told_written : (old between now : List ℕ) (e : Event) → between ≡ old ++ text_of_words (codes "do" ∷ [] ∷ []) → now ≡ between ++ spelling_of_event e
    → now ≡ old ++ text_of_words (codes "do" ∷ event_words e)
told_written old between now e begun written =
    written ∙ ap (λ (b : List ℕ). b ++ spelling_of_event e) begun ∙ append_assoc old (text_of_words (codes "do" ∷ [] ∷ [])) (spelling_of_event e)
    ∙ ap (λ (b : List ℕ). old ++ b) (do_words e)

pub told_ok : {X E : Type 0} (r : Result X E) (old between now : List ℕ) (e : Event) → between ≡ old ++ text_of_words (codes "do" ∷ [] ∷ [])
    → OnOk r (now ≡ between ++ spelling_of_event e) → OnOk r (now ≡ old ++ text_of_words (codes "do" ∷ event_words e))
told_ok (Ok x) old between now e begun written = told_written old between now e begun written
told_ok (Err f) old between now e begun written = tt

-- a text is the line of its words
pub listed_written : (old now text : List ℕ) → now ≡ old ++ text → now ≡ old ++ text_of_words (words_of text)
listed_written old now text written = written ∙ ap (λ (b : List ℕ). old ++ b) (sym (whole text))

-- ---- the laws

-- what is read is spelled so, and what is spelled so is read
pub lines_read_exactly : LinesAreReadExactly
lines_read_exactly text l = (line_found text l, λ is. ap line_of is.1 ∙ line_spelled l is.0)

-- a spelling is read as one line
pub lines_apart : LinesHaveTheirOwnSpellings
lines_apart a b a-fits b-fits same = same_Some a b (sym (line_spelled a a-fits) ∙ ap line_of same ∙ line_spelled b b-fits)

-- a spelling has no newline and is not too long
pub lines_one_line : LinesAreLines
unfolding spelling_of_line
lines_one_line l fits = let line = line_line l fits in (line.one, line.short)
