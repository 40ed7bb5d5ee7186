-- The lines of a schedule: reading takes exactly the words of events.
use Rattle.std.proofs.Common.{◌≡◌, ℕ, ◌+◌, ◌^◌, ◌<◌, ◌≤◌, List, [], ◌∷◌, ◌++◌, length, Option, Some, None, Result, Ok, Err, IfOk, refl, sym, ap, ◌∙◌, arith}
use Rattle.std.specs.Prelude.{codes, decimal}
use Rattle.std.proofs.lemmas.List.Splits.{join_with_byte-slice_split}
use Rattle.std.proofs.lemmas.List.{append-nil}
use Rattle.std.proofs.lemmas.Option.{same_Some}
use Rattle.hex.specs.Hex.{encode_lower}
use Rattle.line_words.specs.Words.{text_of_words, space, words_of}
use Rattle.line_words.specs.Reading.{◌>>=◌, either, Answers, AnswersBad, after_word, last_bytes, last_byte, number_at, at_end}
use Rattle.line_words.specs.declared.line_fault.LineFault.{LineFault}
use Rattle.line_words.proofs.BytesLemmas.{bytes_of-encode, byte_of-encode}
use Rattle.line_words.proofs.NumberLemmas.{number_of-decimal}
use Rattle.line_words.proofs.SpellingLemmas.{AreShort, IsOneLine, IsWord, weaker, byte_word, bytes_word, name_word, no_words, one_line, small_word, wide_word}
use Rattle.line_words.proofs.ReadingLemmas.{after_word-Some, at_end-Some, bind_some, by_name, decimal_is_not_skipped, either_way, last_byte-Some, last_bytes-Some, number_step}
use Rattle.mini_tx.specs.declared.actor.Actor.{Actor}
use Rattle.mini_tx.specs.declared.actor.Actor.TheVariants.{Node, Memory, Manager}
use Rattle.event_text.specs.Laws.{EventsAreReadExactly, EventsHaveTheirOwnSpellings, EventsAreLines}
use Rattle.event_text.specs.Grammar.{spelling_of_event, HasEventSpelling, event_words, actor_words, who_words, choice_words, start_words, stop_words, IsTypedEvent, IsTypedActor, IsTypedChoice, IsTypedStop, IsNoMemoryNode, IsChoiceOf, IsTold, IsWritableEvent}
use Rattle.event_text.specs.Reading.{numbered_actor, actor_at, last_node, who_of, calls_of, stop_of, fill_of, choice_of, choice_for, cluster_of, arrive_of, deliver_of, counted_of, of_who, crash_of, start_of, control_of, told_of, told_of_words, event_of_words, event_of}
use Rattle.event_text.specs.declared.event.Event.{Event}
use Rattle.event_text.specs.declared.event.Event.TheVariants as event
use Rattle.event_text.specs.declared.start_choice.StartChoice.{StartChoice}
use Rattle.event_text.specs.declared.start_choice.StartChoice.TheVariants.{Old, New, Fill}

-- a u32 is a u64
pub small : 2 ^ 32 ≤ 2 ^ 64
small = omega arith

-- a u64 is one
pub wide : 2 ^ 64 ≤ 2 ^ 64
wide = omega arith

-- ---- parts of lines

-- words that begin with an actor
pub actor_read : (words : List (List ℕ)) (x : Actor × List (List ℕ)) → actor_at words ≡ Some x → IsTypedActor x.0 × (words ≡ actor_words x.0 ++ x.1)
unfolding actor_at
actor_read [] x read = cc read
actor_read (name ∷ words) x read =
    by_name (codes "node") name _ _ x read (λ met n.
    let number = number_step 32 words _ x small n in
    rw (← same_Some _ x number.then) (number.fits, cc (met, number.words_are))) (λ read.
    by_name (codes "memory") name _ _ x read (λ met m.
    let number = number_step 32 words _ x small m in
    rw (← same_Some _ x number.then) (number.fits, cc (met, number.words_are))) (λ read.
    by_name (codes "manager") name _ _ x read (λ met is. rw (← same_Some _ x is) (tt, cc met)) (λ none. cc none)))

-- and an actor's are read as it
pub actor_again : (who : Actor) (rest : List (List ℕ)) → IsTypedActor who → actor_at (actor_words who ++ rest) ≡ Some (who, rest)
unfolding actor_at
actor_again (Node n) rest fits = rw (number_of-decimal 32 n small fits) refl
actor_again (Memory m) rest fits = rw (number_of-decimal 32 m small fits) refl
actor_again Manager rest fits = refl

-- words that are a node or the manager
who_read : (words : List (List ℕ)) (who : Actor) → who_of words ≡ Some who → IsTypedActor who × IsNoMemoryNode who × (words ≡ who_words who)
unfolding who_of
who_read words who read =
    either_way (after_word (codes "manager") words) (at_end Manager) (last_node words) who read
    (λ rest met end.
    let e = at_end-Some Manager who rest end in
    rw (← e.0) (tt, tt, after_word-Some (codes "manager") words rest met ∙ ap (λ (ws : List (List ℕ)). codes "manager" ∷ ws) e.1))
    (λ node.
    let n = number_step 32 words _ who small node in
    let e = at_end-Some _ who n.rest n.then in
    rw (← e.0) (n.fits, tt, cc (n.words_are, e.1)))

who_again : (who : Actor) → IsTypedActor who → IsNoMemoryNode who → who_of (who_words who) ≡ Some who
unfolding who_of
who_again (Node n) fits writable =
    ap (λ (o : Option (List (List ℕ))). either o (at_end Manager) (last_node (decimal n ∷ []))) (decimal_is_not_skipped n (codes "manager") [] (omega (arith, fits)) refl)
    ∙ rw (number_of-decimal 32 n small fits) refl
who_again (Memory m) fits writable = absurd writable
who_again Manager fits writable = refl

-- words that are a stop, or none
stop_read : (words : List (List ℕ)) (stop : Option ℕ) → stop_of words ≡ Some stop → IsTypedStop stop × (words ≡ stop_words stop)
unfolding stop_of
stop_read words stop read =
    either_way (after_word (codes "stop") words) calls_of (at_end None words) stop read
    (λ rest met calls.
    let n = number_step 32 rest _ stop small calls in
    let e = at_end-Some _ stop n.rest n.then in
    rw (← e.0) (n.fits, after_word-Some (codes "stop") words rest met ∙ ap (λ (ws : List (List ℕ)). codes "stop" ∷ ws) (cc (n.words_are, e.1))))
    (λ end.
    let e = at_end-Some None stop words end in
    rw (← e.0) (tt, e.1))

stop_again : (stop : Option ℕ) → IsTypedStop stop → stop_of (stop_words stop) ≡ Some stop
unfolding stop_of
stop_again None fits = refl
stop_again (Some calls) fits = rw (number_of-decimal 32 calls small fits) refl

-- words that say what a disk holds
choice_read : (words : List (List ℕ)) (choice : StartChoice) → choice_of words ≡ Some choice → IsTypedChoice choice × (words ≡ choice_words choice)
unfolding choice_of
choice_read [] choice read = cc read
choice_read (name ∷ words) choice read =
    by_name (codes "old") name _ _ choice read (λ met end.
    let e = at_end-Some Old choice words end in
    rw (← e.0) (tt, cc (met, e.1))) (λ read.
    by_name (codes "new") name _ _ choice read (λ met end.
    let e = at_end-Some New choice words end in
    rw (← e.0) (tt, cc (met, e.1))) (λ read.
    by_name (codes "fill") name _ _ choice read (λ met fill.
    let last = bind_some (last_byte words) _ choice fill in
    let byte = last_byte-Some words last.0 last.1 in
    rw (← same_Some _ choice last.2) (byte.0, cc (met, byte.1))) (λ none. cc none)))

choice_again : (choice : StartChoice) → IsTypedChoice choice → choice_of (choice_words choice) ≡ Some choice
unfolding choice_of
choice_again Old fits = refl
choice_again New fits = refl
choice_again (Fill byte) fits = rw (byte_of-encode byte fits) refl

-- and those of an actor that starts
choice_for_read : (who : Actor) (words : List (List ℕ)) (choice : StartChoice) → choice_for who words ≡ Some choice
    → IsTypedChoice choice × IsChoiceOf who choice × (actor_words who ++ words ≡ start_words who choice)
choice_for_read (Node n) words choice read =
    let e = at_end-Some Old choice words read in
    rw (← e.0) (tt, refl, ap (λ (ws : List (List ℕ)). codes "node" ∷ decimal n ∷ ws) e.1)
choice_for_read (Memory m) words choice read =
    let is = choice_read words choice read in
    (is.0, tt, ap (λ (ws : List (List ℕ)). codes "memory" ∷ decimal m ∷ ws) is.1)
choice_for_read Manager words choice read =
    let e = at_end-Some Old choice words read in
    rw (← e.0) (tt, refl, ap (λ (ws : List (List ℕ)). codes "manager" ∷ ws) e.1)

-- what stands behind an actor that starts
choice_for_words : Actor → StartChoice → List (List ℕ)
choice_for_words (Node n) choice = []
choice_for_words (Memory m) choice = choice_words choice
choice_for_words Manager choice = []

start_is : (who : Actor) (choice : StartChoice) → start_words who choice ≡ actor_words who ++ choice_for_words who choice
unfolding choice_for_words
start_is (Node n) choice = refl
start_is (Memory m) choice = refl
start_is Manager choice = refl

choice_for_again : (who : Actor) (choice : StartChoice) → IsTypedChoice choice → IsChoiceOf who choice → choice_for who (choice_for_words who choice) ≡ Some choice
unfolding choice_for_words
choice_for_again (Node n) choice fits is = ap Some (sym is)
choice_for_again (Memory m) choice fits is = choice_again choice fits
choice_for_again Manager choice fits is = ap Some (sym is)

-- ---- lines

-- these words are read as an event, which has them
pub record IsEvent (words : List (List ℕ)) (e : Event) : Type 0 where
  pub fits : HasEventSpelling e
  pub words_are : words ≡ event_words e

-- words that are read as a cluster are its words
cluster_read : (words : List (List ℕ)) (e : Event) → cluster_of words ≡ Some e → IsEvent (codes "cluster" ∷ words) e
unfolding cluster_of event_words
cluster_read words e read =
    let nodes = number_step 32 words _ e small read in
    let memories = number_step 32 nodes.rest _ e small nodes.then in
    let blocks = number_step 32 memories.rest _ e small memories.then in
    let inodes = number_step 32 blocks.rest _ e small blocks.then in
    let end = at_end-Some _ e inodes.rest inodes.then in
    rw (← end.0) (record {
      fits = record { typed = (nodes.fits, memories.fits, blocks.fits, inodes.fits); writable = tt };
      words_are = cc (nodes.words_are, memories.words_are, blocks.words_are, inodes.words_are, end.1);
    })

-- words that are read as an arrival are its words
arrive_read : (words : List (List ℕ)) (e : Event) → arrive_of words ≡ Some e → IsEvent (codes "arrive" ∷ words) e
unfolding arrive_of event_words
arrive_read words e read =
    let node = number_step 32 words _ e small read in
    let sec = number_step 32 node.rest _ e small node.then in
    let usec = number_step 32 sec.rest _ e small sec.then in
    let last = bind_some (last_bytes usec.rest) _ e usec.then in
    let bytes = last_bytes-Some usec.rest last.0 last.1 in
    let is : event.Arrive node.number sec.number usec.number last.0 ≡ e = cc last.2 in
    rw (← is) (record {
      fits = record { typed = (node.fits, sec.fits, usec.fits, bytes.0.each); writable = bytes.0.size };
      words_are = cc (node.words_are, sec.words_are, usec.words_are, bytes.1);
    })

-- words that are read as a delivery are its words
deliver_read : (words : List (List ℕ)) (e : Event) → deliver_of words ≡ Some e → IsEvent (codes "deliver" ∷ words) e
unfolding deliver_of event_words
deliver_read words e read =
    let k = number_step 64 words _ e wide read in
    let last = bind_some (stop_of k.rest) _ e k.then in
    let stop = stop_read k.rest last.0 last.1 in
    rw (← same_Some _ e last.2) (record {
      fits = record { typed = (k.fits, stop.0); writable = tt };
      words_are = cc (k.words_are, stop.1);
    })

-- an event with one number was read
record IsCounted (bits : ℕ) (make : ℕ → Event) (words : List (List ℕ)) (e : Event) : Type 0 where
  number : ℕ
  fits : number < 2 ^ bits
  words_are : words ≡ decimal number ∷ []
  is : make number ≡ e

counted_read : (bits : ℕ) (make : ℕ → Event) (words : List (List ℕ)) (e : Event) → 2 ^ bits ≤ 2 ^ 64 → counted_of bits make words ≡ Some e → IsCounted bits make words e
counted_read bits make words e within read =
    let n = number_step bits words _ e within read in
    let end = at_end-Some _ e n.rest n.then in
    record { number = n.number; fits = n.fits; words_are = cc (n.words_are, end.1); is = end.0 }

-- an event of a node or the manager was read
record IsOfWho (make : Actor → Event) (words : List (List ℕ)) (e : Event) : Type 0 where
  who : Actor
  typed : IsTypedActor who
  writable : IsNoMemoryNode who
  words_are : words ≡ who_words who
  is : make who ≡ e

of_who_read : (make : Actor → Event) (words : List (List ℕ)) (e : Event) → of_who make words ≡ Some e → IsOfWho make words e
of_who_read make words e read =
    let found = bind_some (who_of words) _ e read in
    let who = who_read words found.0 found.1 in
    record { who = found.0; typed = who.0; writable = who.1; words_are = who.2; is = same_Some _ e found.2 }

-- words that are read as a crash are its words
crash_read : (words : List (List ℕ)) (e : Event) → crash_of words ≡ Some e → IsEvent (codes "crash" ∷ words) e
unfolding crash_of event_words
crash_read words e read =
    let found = bind_some (actor_at words) _ e read in
    let who = actor_read words found.0 found.1 in
    let end = at_end-Some _ e found.0.1 found.2 in
    rw (← end.0) (record {
      fits = record { typed = who.0; writable = tt };
      words_are = ap (λ (ws : List (List ℕ)). codes "crash" ∷ ws) (who.1 ∙ ap (λ (ws : List (List ℕ)). actor_words found.0.0 ++ ws) end.1 ∙ append-nil (actor_words found.0.0));
    })

-- words that are read as a start are its words
start_read : (words : List (List ℕ)) (e : Event) → start_of words ≡ Some e → IsEvent (codes "start" ∷ words) e
unfolding start_of event_words
start_read words e read =
    let found = bind_some (actor_at words) _ e read in
    let who = actor_read words found.0 found.1 in
    let chosen = bind_some (choice_for found.0.0 found.0.1) _ e found.2 in
    let choice = choice_for_read found.0.0 found.0.1 chosen.0 chosen.1 in
    rw (← same_Some _ e chosen.2) (record {
      fits = record { typed = (who.0, choice.0); writable = choice.1 };
      words_are = ap (λ (ws : List (List ℕ)). codes "start" ∷ ws) (who.1 ∙ choice.2);
    })

-- words that are read as an event without a number are its name
end_read : (words : List (List ℕ)) (e : Event) → at_end event.End words ≡ Some e → IsEvent (codes "end" ∷ words) e
unfolding event_words
end_read words e read =
    let end = at_end-Some event.End e words read in
    rw (← end.0) (record { fits = record { typed = tt; writable = tt }; words_are = cc end.1 })

backup_read : (words : List (List ℕ)) (e : Event) → at_end event.Backup words ≡ Some e → IsEvent (codes "backup" ∷ words) e
unfolding event_words
backup_read words e read =
    let end = at_end-Some event.Backup e words read in
    rw (← end.0) (record { fits = record { typed = tt; writable = tt }; words_are = cc end.1 })

-- one number
drain_read : (words : List (List ℕ)) (e : Event) → counted_of 32 event.Drain words ≡ Some e → IsEvent (codes "drain" ∷ words) e
unfolding event_words
drain_read words e read =
    let n = counted_read 32 event.Drain words e small read in
    rw (← n.is) (record { fits = record { typed = n.fits; writable = tt }; words_are = ap (λ (ws : List (List ℕ)). codes "drain" ∷ ws) n.words_are })

lose_read : (words : List (List ℕ)) (e : Event) → counted_of 64 event.Lose words ≡ Some e → IsEvent (codes "lose" ∷ words) e
unfolding event_words
lose_read words e read =
    let n = counted_read 64 event.Lose words e wide read in
    rw (← n.is) (record { fits = record { typed = n.fits; writable = tt }; words_are = ap (λ (ws : List (List ℕ)). codes "lose" ∷ ws) n.words_are })

sweep_read : (words : List (List ℕ)) (e : Event) → counted_of 32 event.Sweep words ≡ Some e → IsEvent (codes "sweep" ∷ words) e
unfolding event_words
sweep_read words e read =
    let n = counted_read 32 event.Sweep words e small read in
    rw (← n.is) (record { fits = record { typed = n.fits; writable = tt }; words_are = ap (λ (ws : List (List ℕ)). codes "sweep" ∷ ws) n.words_are })

checkpoint_read : (words : List (List ℕ)) (e : Event) → counted_of 32 event.Checkpoint words ≡ Some e → IsEvent (codes "checkpoint" ∷ words) e
unfolding event_words
checkpoint_read words e read =
    let n = counted_read 32 event.Checkpoint words e small read in
    rw (← n.is) (record { fits = record { typed = n.fits; writable = tt }; words_are = ap (λ (ws : List (List ℕ)). codes "checkpoint" ∷ ws) n.words_are })

show_read : (words : List (List ℕ)) (e : Event) → counted_of 32 event.Show words ≡ Some e → IsEvent (codes "show" ∷ words) e
unfolding event_words
show_read words e read =
    let n = counted_read 32 event.Show words e small read in
    rw (← n.is) (record { fits = record { typed = n.fits; writable = tt }; words_are = ap (λ (ws : List (List ℕ)). codes "show" ∷ ws) n.words_are })

-- a node or the manager
give_up_read : (words : List (List ℕ)) (e : Event) → of_who event.GiveUp words ≡ Some e → IsEvent (codes "giveup" ∷ words) e
unfolding event_words
give_up_read words e read =
    let w = of_who_read event.GiveUp words e read in
    rw (← w.is) (record { fits = record { typed = w.typed; writable = w.writable }; words_are = ap (λ (ws : List (List ℕ)). codes "giveup" ∷ ws) w.words_are })

resend_read : (words : List (List ℕ)) (e : Event) → of_who event.Resend words ≡ Some e → IsEvent (codes "resend" ∷ words) e
unfolding event_words
resend_read words e read =
    let w = of_who_read event.Resend words e read in
    rw (← w.is) (record { fits = record { typed = w.typed; writable = w.writable }; words_are = ap (λ (ws : List (List ℕ)). codes "resend" ∷ ws) w.words_are })

-- a name in front of words
named : (name word : List ℕ) (words : List (List ℕ)) (e : Event) → word ≡ name → IsEvent (name ∷ words) e → IsEvent (word ∷ words) e
named name word words e met is = record {
  fits = is.fits;
  words_are = ap (λ (w : List ℕ). w ∷ words) met ∙ is.words_are;
}

-- words that are read as what is done to actors are its words
control_read : (name : List ℕ) (words : List (List ℕ)) (e : Event) → control_of name words ≡ Some e → IsEvent (name ∷ words) e
unfolding control_of
control_read name words e read =
    by_name (codes "giveup") name _ _ e read (λ met is. named _ name words e met (give_up_read words e is)) (λ read.
    by_name (codes "resend") name _ _ e read (λ met is. named _ name words e met (resend_read words e is)) (λ read.
    by_name (codes "crash") name _ _ e read (λ met is. named _ name words e met (crash_read words e is)) (λ read.
    by_name (codes "start") name _ _ e read (λ met is. named _ name words e met (start_read words e is)) (λ read.
    by_name (codes "sweep") name _ _ e read (λ met is. named _ name words e met (sweep_read words e is)) (λ read.
    by_name (codes "checkpoint") name _ _ e read (λ met is. named _ name words e met (checkpoint_read words e is)) (λ read.
    by_name (codes "backup") name _ _ e read (λ met is. named _ name words e met (backup_read words e is)) (λ read.
    by_name (codes "show") name _ _ e read (λ met is. named _ name words e met (show_read words e is)) (λ none. cc none))))))))

-- words that are read as what is told so are its words
told_read : (name : List ℕ) (words : List (List ℕ)) (e : Event) → told_of name words ≡ Some e → IsEvent (name ∷ words) e
unfolding told_of
told_read name words e read =
    by_name (codes "deliver") name _ _ e read (λ met is. named _ name words e met (deliver_read words e is)) (λ read.
    by_name (codes "lose") name _ _ e read (λ met is. named _ name words e met (lose_read words e is)) (λ control. control_read name words e control))

pub told_words_read : (words : List (List ℕ)) (e : Event) → told_of_words words ≡ Some e → IsEvent words e
told_words_read [] e read = cc read
told_words_read (name ∷ words) e read = told_read name words e read

-- what is read so is told so
pub is_told : (name : List ℕ) (words : List (List ℕ)) (e : Event) → told_of name words ≡ Some e → IsTold e
unfolding told_of control_of deliver_of crash_of start_of
is_told name words e read =
    by_name (codes "deliver") name _ _ e read (λ met is.
    let k = number_step 64 words _ e wide is in
    rw (← same_Some _ e (bind_some (stop_of k.rest) _ e k.then).2) tt) (λ read.
    by_name (codes "lose") name _ _ e read (λ met is. rw (← (counted_read 64 event.Lose words e wide is).is) tt) (λ read.
    by_name (codes "giveup") name _ _ e read (λ met is. rw (← (of_who_read event.GiveUp words e is).is) tt) (λ read.
    by_name (codes "resend") name _ _ e read (λ met is. rw (← (of_who_read event.Resend words e is).is) tt) (λ read.
    by_name (codes "crash") name _ _ e read (λ met is.
    let found = bind_some (actor_at words) _ e is in
    rw (← (at_end-Some _ e found.0.1 found.2).0) tt) (λ read.
    by_name (codes "start") name _ _ e read (λ met is.
    let found = bind_some (actor_at words) _ e is in
    rw (← same_Some _ e (bind_some (choice_for found.0.0 found.0.1) _ e found.2).2) tt) (λ read.
    by_name (codes "sweep") name _ _ e read (λ met is. rw (← (counted_read 32 event.Sweep words e small is).is) tt) (λ read.
    by_name (codes "checkpoint") name _ _ e read (λ met is. rw (← (counted_read 32 event.Checkpoint words e small is).is) tt) (λ read.
    by_name (codes "backup") name _ _ e read (λ met is. rw (← (at_end-Some event.Backup e words is).0) tt) (λ read.
    by_name (codes "show") name _ _ e read (λ met is. rw (← (counted_read 32 event.Show words e small is).is) tt) (λ none. cc none))))))))))

pub is_told_words : (words : List (List ℕ)) (e : Event) → told_of_words words ≡ Some e → IsTold e
is_told_words [] e read = cc read
is_told_words (name ∷ words) e read = is_told name words e read

pub told_answered : (answer : Result Event LineFault) (name : List ℕ) (words : List (List ℕ)) → AnswersBad answer (told_of name words) → IfOk answer IsTold
told_answered (Ok e) name words read = is_told name words e read
told_answered (Err fault) name words read = tt

-- words that are read as an event are its words
pub event_read : (words : List (List ℕ)) (e : Event) → event_of_words words ≡ Some e → IsEvent words e
unfolding event_of_words
event_read [] e read = cc read
event_read (name ∷ words) e read =
    by_name (codes "cluster") name _ _ e read (λ met is. named _ name words e met (cluster_read words e is)) (λ read.
    by_name (codes "arrive") name _ _ e read (λ met is. named _ name words e met (arrive_read words e is)) (λ read.
    by_name (codes "drain") name _ _ e read (λ met is. named _ name words e met (drain_read words e is)) (λ read.
    by_name (codes "end") name _ _ e read (λ met is. named _ name words e met (end_read words e is)) (λ told. told_read name words e told))))

-- the words of an event are read as it
pub event_again : (e : Event) → HasEventSpelling e → event_of_words (event_words e) ≡ Some e
unfolding event_of_words told_of event_words control_of cluster_of arrive_of deliver_of crash_of start_of
event_again (event.Cluster nodes memories blocks inodes) fits =
    rw (
      number_of-decimal 32 nodes small fits.typed.0,
      number_of-decimal 32 memories small fits.typed.1,
      number_of-decimal 32 blocks small fits.typed.2,
      number_of-decimal 32 inodes small fits.typed.3,
    ) refl
event_again (event.Arrive node sec usec bytes) fits =
    rw (
      number_of-decimal 32 node small fits.typed.0,
      number_of-decimal 32 sec small fits.typed.1,
      number_of-decimal 32 usec small fits.typed.2,
      bytes_of-encode bytes (record { size = fits.writable; each = fits.typed.3 }),
    ) refl
event_again (event.Deliver k stop) fits = rw (number_of-decimal 64 k wide fits.typed.0, stop_again stop fits.typed.1) refl
event_again (event.Drain count) fits = rw (number_of-decimal 32 count small fits.typed) refl
event_again (event.Lose k) fits = rw (number_of-decimal 64 k wide fits.typed) refl
event_again (event.GiveUp who) fits = rw (who_again who fits.typed fits.writable) refl
event_again (event.Resend who) fits = rw (who_again who fits.typed fits.writable) refl
event_again (event.Crash who) fits =
    ap crash_of (sym (append-nil (actor_words who))) ∙ rw (actor_again who [] fits.typed) refl
event_again (event.Start who choice) fits =
    ap start_of (start_is who choice)
    ∙ rw (actor_again who (choice_for_words who choice) fits.typed.0, choice_for_again who choice fits.typed.1 fits.writable) refl
event_again (event.Sweep memory) fits = rw (number_of-decimal 32 memory small fits.typed) refl
event_again (event.Checkpoint memory) fits = rw (number_of-decimal 32 memory small fits.typed) refl
event_again event.Backup fits = refl
event_again (event.Show number) fits = rw (number_of-decimal 32 number small fits.typed) refl
event_again event.End fits = refl

-- and so are those of one that is told so
pub told_again : (e : Event) → IsTold e → HasEventSpelling e → told_of_words (event_words e) ≡ Some e
unfolding event_of_words event_words
told_again (event.Cluster nodes memories blocks inodes) told fits = absurd told
told_again (event.Arrive node sec usec bytes) told fits = absurd told
told_again (event.Deliver k stop) told fits = event_again (event.Deliver k stop) fits
told_again (event.Drain count) told fits = absurd told
told_again (event.Lose k) told fits = event_again (event.Lose k) fits
told_again (event.GiveUp who) told fits = event_again (event.GiveUp who) fits
told_again (event.Resend who) told fits = event_again (event.Resend who) fits
told_again (event.Crash who) told fits = event_again (event.Crash who) fits
told_again (event.Start who choice) told fits = event_again (event.Start who choice) fits
told_again (event.Sweep memory) told fits = event_again (event.Sweep memory) fits
told_again (event.Checkpoint memory) told fits = event_again (event.Checkpoint memory) fits
told_again event.Backup told fits = event_again event.Backup fits
told_again (event.Show number) told fits = event_again (event.Show number) fits
told_again event.End told fits = absurd told

-- ---- the words are those of one line

-- short words behind a name are those of one line
after_name : (name : List ℕ) (words : List (List ℕ)) → IsWord name → length name ≤ 10 → (most : ℕ) → most ≤ 100 → AreShort most words → IsOneLine (name ∷ words)
after_name name words is short most few are = one_line (10 + 1 + most) (name ∷ words) (omega arith) (omega (arith, few)) (name_word name is short are)

who_short : (who : Actor) → IsTypedActor who → AreShort 22 (who_words who)
who_short (Node n) fits = weaker 11 22 (decimal n ∷ []) (omega arith) (small_word n fits no_words)
who_short (Memory m) fits = weaker 0 22 [] (omega arith) no_words
who_short Manager fits = weaker 11 22 (codes "manager" ∷ []) (omega arith) (name_word (codes "manager") refl (omega arith) no_words)

pub actor_short : (who : Actor) → IsTypedActor who → AreShort 22 (actor_words who)
actor_short (Node n) fits = name_word (codes "node") refl (omega arith) (small_word n fits no_words)
actor_short (Memory m) fits = name_word (codes "memory") refl (omega arith) (small_word m fits no_words)
actor_short Manager fits = weaker 11 22 (codes "manager" ∷ []) (omega arith) (name_word (codes "manager") refl (omega arith) no_words)

choice_short : (choice : StartChoice) → IsTypedChoice choice → AreShort 22 (choice_words choice)
choice_short Old fits = weaker 11 22 (codes "old" ∷ []) (omega arith) (name_word (codes "old") refl (omega arith) no_words)
choice_short New fits = weaker 11 22 (codes "new" ∷ []) (omega arith) (name_word (codes "new") refl (omega arith) no_words)
choice_short (Fill byte) fits =
    weaker 14 22 (codes "fill" ∷ encode_lower (byte ∷ []) ∷ []) (omega arith) (name_word (codes "fill") refl (omega arith) (byte_word byte fits no_words))

start_short : (who : Actor) (choice : StartChoice) → IsTypedActor who → IsTypedChoice choice → AreShort 44 (start_words who choice)
start_short (Node n) choice fits is = weaker 22 44 (start_words (Node n) choice) (omega arith) (actor_short (Node n) fits)
start_short (Memory m) choice fits is = name_word (codes "memory") refl (omega arith) (small_word m fits (choice_short choice is))
start_short Manager choice fits is = weaker 22 44 (start_words Manager choice) (omega arith) (actor_short Manager fits)

stop_short : (stop : Option ℕ) → IsTypedStop stop → AreShort 22 (stop_words stop)
stop_short None fits = weaker 0 22 [] (omega arith) no_words
stop_short (Some calls) fits = name_word (codes "stop") refl (omega arith) (small_word calls fits no_words)

-- the words of an event that is told so are short
pub told_short : (e : Event) → IsTold e → IsTypedEvent e → AreShort 100 (event_words e)
unfolding event_words
told_short (event.Cluster nodes memories blocks inodes) told fits = absurd told
told_short (event.Arrive node sec usec bytes) told fits = absurd told
told_short (event.Deliver k stop) told fits = weaker 54 100 _ (omega arith) (name_word (codes "deliver") refl (omega arith) (wide_word k fits.0 (stop_short stop fits.1)))
told_short (event.Drain count) told fits = absurd told
told_short (event.Lose k) told fits = weaker 32 100 _ (omega arith) (name_word (codes "lose") refl (omega arith) (wide_word k fits no_words))
told_short (event.GiveUp who) told fits = weaker 33 100 _ (omega arith) (name_word (codes "giveup") refl (omega arith) (who_short who fits))
told_short (event.Resend who) told fits = weaker 33 100 _ (omega arith) (name_word (codes "resend") refl (omega arith) (who_short who fits))
told_short (event.Crash who) told fits = weaker 33 100 _ (omega arith) (name_word (codes "crash") refl (omega arith) (actor_short who fits))
told_short (event.Start who choice) told fits = weaker 55 100 _ (omega arith) (name_word (codes "start") refl (omega arith) (start_short who choice fits.0 fits.1))
told_short (event.Sweep memory) told fits = weaker 22 100 _ (omega arith) (name_word (codes "sweep") refl (omega arith) (small_word memory fits no_words))
told_short (event.Checkpoint memory) told fits = weaker 22 100 _ (omega arith) (name_word (codes "checkpoint") refl (omega arith) (small_word memory fits no_words))
told_short event.Backup told fits = weaker 11 100 _ (omega arith) (name_word (codes "backup") refl (omega arith) no_words)
told_short (event.Show number) told fits = weaker 22 100 _ (omega arith) (name_word (codes "show") refl (omega arith) (small_word number fits no_words))
told_short event.End told fits = absurd told

-- the words of an event are those of one line
pub event_line : (e : Event) → HasEventSpelling e → IsOneLine (event_words e)
unfolding event_words
event_line (event.Cluster nodes memories blocks inodes) fits =
    after_name (codes "cluster") _ refl (omega arith) 44 (omega arith)
    (small_word nodes fits.typed.0 (small_word memories fits.typed.1 (small_word blocks fits.typed.2 (small_word inodes fits.typed.3 no_words))))
event_line (event.Arrive node sec usec bytes) fits =
    one_line _ _ (omega arith) (omega arith)
    (name_word (codes "arrive") refl (omega arith)
    (small_word node fits.typed.0 (small_word sec fits.typed.1 (small_word usec fits.typed.2 (bytes_word bytes (record { size = fits.writable; each = fits.typed.3 }) no_words)))))
event_line (event.Deliver k stop) fits = after_name (codes "deliver") _ refl (omega arith) 43 (omega arith) (wide_word k fits.typed.0 (stop_short stop fits.typed.1))
event_line (event.Drain count) fits = after_name (codes "drain") _ refl (omega arith) 11 (omega arith) (small_word count fits.typed no_words)
event_line (event.Lose k) fits = after_name (codes "lose") _ refl (omega arith) 21 (omega arith) (wide_word k fits.typed no_words)
event_line (event.GiveUp who) fits = after_name (codes "giveup") _ refl (omega arith) 22 (omega arith) (who_short who fits.typed)
event_line (event.Resend who) fits = after_name (codes "resend") _ refl (omega arith) 22 (omega arith) (who_short who fits.typed)
event_line (event.Crash who) fits = after_name (codes "crash") _ refl (omega arith) 22 (omega arith) (actor_short who fits.typed)
event_line (event.Start who choice) fits = after_name (codes "start") _ refl (omega arith) 44 (omega arith) (start_short who choice fits.typed.0 fits.typed.1)
event_line (event.Sweep memory) fits = after_name (codes "sweep") _ refl (omega arith) 11 (omega arith) (small_word memory fits.typed no_words)
event_line (event.Checkpoint memory) fits = after_name (codes "checkpoint") _ refl (omega arith) 11 (omega arith) (small_word memory fits.typed no_words)
event_line event.Backup fits = after_name (codes "backup") _ refl (omega arith) 0 (omega arith) no_words
event_line (event.Show number) fits = after_name (codes "show") _ refl (omega arith) 11 (omega arith) (small_word number fits.typed no_words)
event_line event.End fits = after_name (codes "end") _ refl (omega arith) 0 (omega arith) no_words

-- what is read is the spelling of an event
pub event_found : (text : List ℕ) (e : Event) → event_of text ≡ Some e → HasEventSpelling e × (text ≡ spelling_of_event e)
unfolding event_of spelling_of_event
event_found text e read =
    let is = event_read (words_of text) e read in
    (is.fits, sym (join_with_byte-slice_split space text) ∙ ap text_of_words is.words_are)

-- an answer that was read is spelled so
pub event_answered : (answer : Result Event LineFault) (text : List ℕ) → Answers answer (event_of text)
    → IfOk answer (λ e. HasEventSpelling e × (text ≡ spelling_of_event e))
event_answered (Ok e) text read = event_found text e read
event_answered (Err fault) text read = tt

-- a spelling is read
pub event_spelled : (e : Event) → HasEventSpelling e → event_of (spelling_of_event e) ≡ Some e
unfolding event_of spelling_of_event
event_spelled e fits = ap event_of_words (event_line e fits).parts ∙ event_again e fits

-- ---- the laws

-- what is read is spelled so, and what is spelled so is read
pub events_read_exactly : EventsAreReadExactly
events_read_exactly text e = (event_found text e, λ is. ap event_of is.1 ∙ event_spelled e is.0)

-- a spelling is read as one event
pub events_apart : EventsHaveTheirOwnSpellings
events_apart a b a-fits b-fits same = same_Some a b (sym (event_spelled a a-fits) ∙ ap event_of same ∙ event_spelled b b-fits)

-- a spelling is one line
pub events_one_line : EventsAreLines
unfolding spelling_of_event
events_one_line e fits = let line = event_line e fits in (line.one, line.short)
