-- A schedule and a transcript, line by line.
use Rattle.std.proofs.Common.{◌≡◌, ℕ, ◌+◌, ◌≤◌, ◌<◌, true, false, cond, eqb, zero, suc, List, [], ◌∷◌, ◌++◌, length, Option, Some, None, Result, Ok, Err, refl, sym, ap, ◌∙◌, append_assoc, arith}
use Rattle.std.proofs.lemmas.Bool.{le-ltb, eqb-false, eqb-true}
use Rattle.std.proofs.lemmas.List.{append-nil}
use Rattle.event_text.specs.declared.event.Event.{Event}
use Rattle.line_text.specs.declared.line.Line.{Line}
use Rattle.line_words.specs.declared.limits.TheConstants.{MAX_LINES}
use Rattle.line_stream.specs.Lines.{lines_of}
use Rattle.check_input.specs.Input.{Beginning, Schedule, Refused, onto, event_at, is_end, with_event, schedule_from, line_in, with_line, lines_from}

-- no bytes have no line
pub nothing : [] ≡ lines_of []
unfolding lines_of
nothing = refl

pub no_bytes : (xs : List ℕ) → eqb (length xs) 0 ≡ true → lines_of xs ≡ []
no_bytes [] e = sym nothing
no_bytes (x ∷ xs) e = absurd (omega (arith, eqb-true (length (x ∷ xs)) 0 e))

-- a list that is not empty
pub some_bytes : (xs : List ℕ) → eqb (length xs) 0 ≡ false → 0 < length xs
some_bytes xs e =
    let other = eqb-false (length xs) 0 e in
    elim (length xs) as (λ n. (n ≡ 0 → ⊥) → 0 < n) [
      | zero ↦ λ never. absurd (never refl)
      | suc n ↦ λ never. omega arith
    ] other

-- ---- a schedule

-- events in front of it
abbrev pub onto_all : List Event → Beginning → Beginning
onto_all [] b = b
onto_all (e ∷ es) b = onto e (onto_all es b)

pub onto_more : (es : List Event) (e : Event) (b : Beginning) → onto_all (es ++ e ∷ []) b ≡ onto_all es (onto e b)
onto_more [] e b = refl
onto_more (o ∷ es) e b = ap (onto o) (onto_more es e b)

pub onto_refused : (es : List Event) (n : ℕ) → onto_all es (Refused n) ≡ Refused n
onto_refused [] n = refl
onto_refused (o ∷ es) n = ap (onto o) (onto_refused es n)

pub onto_end : (es : List Event) (e : Event) (rest : List (List ℕ)) → onto_all es (Schedule (e ∷ []) rest) ≡ Schedule (es ++ e ∷ []) rest
onto_end [] e rest = refl
onto_end (o ∷ es) e rest = ap (onto o) (onto_end es e rest)

-- the next line
next_line : (n : ℕ) (line : List ℕ) (lines : List (List ℕ)) → n ≤ MAX_LINES
    → schedule_from n (line ∷ lines) ≡ with_event n (event_at n line) lines (schedule_from (n + 1) lines)
unfolding schedule_from
next_line n line lines low =
    ap (λ b. cond b (Refused n) (with_event n (event_at n line) lines (schedule_from (n + 1) lines))) (le-ltb MAX_LINES n low)

-- there is none
pub none_left : (whole : Beginning) (es : List Event) (n : ℕ) (lines : List (List ℕ)) → whole ≡ onto_all es (schedule_from n lines) → lines ≡ [] → whole ≡ Refused n
unfolding schedule_from
none_left whole es n lines is none = is ∙ ap (λ (ls : List (List ℕ)). onto_all es (schedule_from n ls)) none ∙ onto_refused es n

-- it may not stand there
pub refused_at : (whole : Beginning) (es : List Event) (n : ℕ) (line : List ℕ) (lines rest : List (List ℕ)) → whole ≡ onto_all es (schedule_from n lines) → n ≤ MAX_LINES
    → lines ≡ line ∷ rest → event_at n line ≡ None → whole ≡ Refused n
refused_at whole es n line lines rest is low parts none =
    is ∙ ap (λ (ls : List (List ℕ)). onto_all es (schedule_from n ls)) parts ∙ ap (onto_all es) (next_line n line rest low)
    ∙ ap (λ (o : Option Event). onto_all es (with_event n o rest (schedule_from (n + 1) rest))) none ∙ onto_refused es n

-- it ends the schedule, or it does not
pub ended_at : (whole : Beginning) (es : List Event) (e : Event) (n : ℕ) (line : List ℕ) (lines rest : List (List ℕ)) → whole ≡ onto_all es (schedule_from n lines) → n ≤ MAX_LINES
    → lines ≡ line ∷ rest → event_at n line ≡ Some e → is_end e ≡ true → whole ≡ Schedule (es ++ e ∷ []) rest
ended_at whole es e n line lines rest is low parts some last =
    is ∙ ap (λ (ls : List (List ℕ)). onto_all es (schedule_from n ls)) parts ∙ ap (onto_all es) (next_line n line rest low)
    ∙ ap (λ (o : Option Event). onto_all es (with_event n o rest (schedule_from (n + 1) rest))) some
    ∙ ap (λ b. onto_all es (cond b (Schedule (e ∷ []) rest) (onto e (schedule_from (n + 1) rest)))) last ∙ onto_end es e rest

pub went_on : (whole : Beginning) (es : List Event) (e : Event) (n : ℕ) (line : List ℕ) (lines rest : List (List ℕ)) → whole ≡ onto_all es (schedule_from n lines) → n ≤ MAX_LINES
    → lines ≡ line ∷ rest → event_at n line ≡ Some e → is_end e ≡ false → whole ≡ onto_all (es ++ e ∷ []) (schedule_from (n + 1) rest)
went_on whole es e n line lines rest is low parts some more =
    is ∙ ap (λ (ls : List (List ℕ)). onto_all es (schedule_from n ls)) parts ∙ ap (onto_all es) (next_line n line rest low)
    ∙ ap (λ (o : Option Event). onto_all es (with_event n o rest (schedule_from (n + 1) rest))) some
    ∙ ap (λ b. onto_all es (cond b (Schedule (e ∷ []) rest) (onto e (schedule_from (n + 1) rest)))) more ∙ sym (onto_more es e (schedule_from (n + 1) rest))

-- a schedule has no line past the last number
pub too_many : (whole : Beginning) (es : List Event) (n : ℕ) (lines : List (List ℕ)) → whole ≡ onto_all es (schedule_from n lines) → n ≡ MAX_LINES + 1 → whole ≡ Refused (MAX_LINES + 1)
unfolding schedule_from
too_many whole es n lines is past =
    is ∙ ap (λ k. onto_all es (schedule_from k lines)) past ∙ ap (onto_all es) (beyond lines) ∙ onto_refused es (MAX_LINES + 1) where
      beyond : (ls : List (List ℕ)) → schedule_from (MAX_LINES + 1) ls ≡ Refused (MAX_LINES + 1)
      beyond [] = refl
      beyond (l ∷ ls) = refl

-- ---- a transcript

-- lines in front of it
abbrev pub behind_lines : List Line → Result (List Line) ℕ → Result (List Line) ℕ
behind_lines ls (Ok more) = Ok (ls ++ more)
behind_lines ls (Err n) = Err n

pub none_before : (r : Result (List Line) ℕ) → r ≡ behind_lines [] r
none_before (Ok more) = refl
none_before (Err n) = refl

line_more : (ls : List Line) (l : Line) (n : ℕ) (r : Result (List Line) ℕ) → behind_lines ls (with_line n (Some l) r) ≡ behind_lines (ls ++ l ∷ []) r
line_more ls l n (Ok more) = ap (λ (all : List Line). Ok all) (sym (append_assoc ls (l ∷ []) more))
line_more ls l n (Err refused) = refl

pub lines_end : (whole : Result (List Line) ℕ) (ls : List Line) (n : ℕ) (lines : List (List ℕ)) → whole ≡ behind_lines ls (lines_from n lines) → lines ≡ [] → whole ≡ Ok ls
unfolding lines_from
lines_end whole ls n lines is none =
    is ∙ ap (λ (rest : List (List ℕ)). behind_lines ls (lines_from n rest)) none ∙ ap (λ (all : List Line). Ok all) (append-nil ls)

pub line_refused : (whole : Result (List Line) ℕ) (ls : List Line) (n : ℕ) (line : List ℕ) (lines rest : List (List ℕ)) → whole ≡ behind_lines ls (lines_from n lines)
    → lines ≡ line ∷ rest → line_in line ≡ None → whole ≡ Err n
unfolding lines_from
line_refused whole ls n line lines rest is parts none =
    is ∙ ap (λ (all : List (List ℕ)). behind_lines ls (lines_from n all)) parts
    ∙ ap (λ (o : Option Line). behind_lines ls (with_line n o (lines_from (n + 1) rest))) none

pub line_read : (whole : Result (List Line) ℕ) (ls : List Line) (l : Line) (n : ℕ) (line : List ℕ) (lines rest : List (List ℕ)) → whole ≡ behind_lines ls (lines_from n lines)
    → lines ≡ line ∷ rest → line_in line ≡ Some l → whole ≡ behind_lines (ls ++ l ∷ []) (lines_from (n + 1) rest)
unfolding lines_from
line_read whole ls l n line lines rest is parts some =
    is ∙ ap (λ (all : List (List ℕ)). behind_lines ls (lines_from n all)) parts
    ∙ ap (λ (o : Option Line). behind_lines ls (with_line n o (lines_from (n + 1) rest))) some ∙ line_more ls l n (lines_from (n + 1) rest)
