-- A log is read in one way.
use Rattle.std.proofs.Common.{◌≡◌, ◌≢◌, ◌⊎◌, inl, inr, Ok, ℕ, ◌+◌, ◌^◌, ◌<◌, List, [], ◌∷◌, ◌++◌, length, refl, sym, ap, subst, ◌∙◌, length-append, arith}
use Rattle.std.specs.Int.{w32, from_be_bytes}
use Rattle.std.proofs.lemmas.Nat.{from_be_bytes-to_be_bytes_4}
use Rattle.sfs_xdr.specs.Items.{word}
use Rattle.disk_model.specs.declared.choice.Choice.{Choice}
use Rattle.disk_model.specs.Calls.{IsReady, IsRestart}
use Rattle.disk_model.specs.Crash.{Content, History, Holds, LeavesOnly}
use Rattle.disk_model.specs.Health.{Health}
use Rattle.disk_model.proofs.MomentLemmas.{left_last}
use Rattle.disk_model.specs.LogBytes.{entry_bytes, log_bytes, StandsFor, IsBadGate}
use Rattle.gate_log.specs.Append.{IsAppending, IsBeforeOrAfter}
use Rattle.gate_log.specs.Laws.{LogsHaveOneList, DamagedLogsHaveNone, DisksHaveOneBoot}
use Rattle.gate_log.proofs.BootLemmas.{held_same, one_boot}
use Rattle.gate_log.proofs.LogLemmas.{holds_front, holds_back, length-entry_bytes}

-- one number is spelled at a place
one_word : (content : Content) (at a b : ℕ) → a < 2 ^ 32 → b < 2 ^ 32 → Holds content at (word a) → Holds content at (word b) → a ≡ b
one_word content at a b small other first second =
    sym (from_be_bytes-to_be_bytes_4 a small) ∙ ap (from_be_bytes w32) (held_same content at (word a) (word b) refl first second) ∙ from_be_bytes-to_be_bytes_4 b other

-- the parts of a first entry
record HasFirst (content : Content) (base : ℕ) (entry : List ℕ) (rest : List ℕ) : Type 0 where
  opened : content base ≡ 1
  spelled : Holds content (base + 1) (word (length entry))
  body : Holds content (base + 5) entry
  behind : Holds content (base + (5 + length entry)) rest

first_of_log : (content : Content) (base : ℕ) (entry : List ℕ) (rest : List ℕ) → Holds content base (entry_bytes entry ++ rest) → HasFirst content base entry rest
first_of_log content base entry rest holds =
    let whole = holds_front content base (entry_bytes entry) rest holds in
    let tail = holds_back content base (1 ∷ []) (word (length entry) ++ entry) whole in
    record {
      opened = ap content (omega arith) ∙ whole.each 0 (omega (arith, length-entry_bytes entry));
      spelled = holds_front content (base + 1) (word (length entry)) entry tail;
      body = subst (λ (p : ℕ). Holds content p entry) (sum (word (length entry)) refl) (holds_back content (base + 1) (word (length entry)) entry tail);
      behind = subst (λ (n : ℕ). Holds content (base + n) rest) (length-entry_bytes entry) (holds_back content base (entry_bytes entry) rest holds);
    }
  where
    sum : (w : List ℕ) → length w ≡ 4 → base + 1 + length w ≡ base + 5
    sum w is = omega arith

-- two logs at one place have the same first entry
same_first : (content : Content) (base : ℕ) (entry other : List ℕ) (rest last : List ℕ) → length entry < 2 ^ 32 → length other < 2 ^ 32
    → HasFirst content base entry rest → HasFirst content base other last → entry ≡ other
same_first content base entry other rest last small large first second =
    held_same content (base + 5) entry other (one_word content (base + 1) (length entry) (length other) small large first.spelled second.spelled) first.body second.body

-- a list of entries at a place, and a closed gate behind it
record Stands (content : Content) (base : ℕ) (entries : List (List ℕ)) : Type 0 where
  bytes : Holds content base (log_bytes entries)
  closed : content (base + length (log_bytes entries)) ≢ 1
  within : length (log_bytes entries) < 2 ^ 32

length-first : (entry : List ℕ) (entries : List (List ℕ)) → length (log_bytes (entry ∷ entries)) ≡ 5 + length entry + length (log_bytes entries)
length-first entry entries = omega (arith, length-append (entry_bytes entry) (log_bytes entries), length-entry_bytes entry)

rest_stands : (content : Content) (base : ℕ) (entry : List ℕ) (entries : List (List ℕ)) → Stands content base (entry ∷ entries) → Stands content (base + (5 + length entry)) entries
rest_stands content base entry entries stands = record {
  bytes = (first_of_log content base entry (log_bytes entries) stands.bytes).behind;
  closed = λ opened. stands.closed (ap content (omega (arith, length-first entry entries)) ∙ opened);
  within = omega (arith, length-first entry entries, stands.within);
}

one_list : (content : Content) (base : ℕ) (entries others : List (List ℕ)) → Stands content base entries → Stands content base others → entries ≡ others
one_list content base [] [] stands other = refl
one_list content base [] (entry ∷ others) stands other =
    absurd (stands.closed (ap content (omega arith) ∙ (first_of_log content base entry (log_bytes others) other.bytes).opened))
one_list content base (entry ∷ entries) [] stands other =
    absurd (other.closed (ap content (omega arith) ∙ (first_of_log content base entry (log_bytes entries) stands.bytes).opened))
one_list content base (entry ∷ entries) (first ∷ others) stands other =
    let same : entry ≡ first = same_first content base entry first (log_bytes entries) (log_bytes others)
    (omega (arith, length-first entry entries, stands.within)) (omega (arith, length-first first others, other.within))
    (first_of_log content base entry (log_bytes entries) stands.bytes) (first_of_log content base first (log_bytes others) other.bytes) in
    let rest = one_list content (base + (5 + length entry)) entries others (rest_stands content base entry entries stands)
    (subst (λ (e : List ℕ). Stands content (base + (5 + length e)) others) (sym same) (rest_stands content base first others other)) in
    ap (λ (e : List ℕ). e ∷ entries) same ∙ ap (λ (es : List (List ℕ)). first ∷ es) rest

stands_of : (content : Content) (base : ℕ) (entries : List (List ℕ)) → StandsFor content base entries → Stands content base entries
stands_of content base entries stands = record { bytes = stands.bytes; closed = stands.closed; within = stands.within }

pub logs_one : LogsHaveOneList
logs_one content base entries others first second = one_list content base entries others (stands_of content base entries first) (stands_of content base others second)

-- a damaged gate this far from the start, behind these entries
damaged_none : (content : Content) (base start : ℕ) (before entries : List (List ℕ)) → Holds content base (log_bytes before) → start + length (log_bytes before) < 2 ^ 32
    → IsBadGate content (base + length (log_bytes before)) (start + length (log_bytes before)) → Stands content base entries → start + length (log_bytes entries) < 2 ^ 32 → ⊥
damaged_none content base start [] [] holds below bad stands fits = stands.closed bad.opened
damaged_none content base start (first ∷ before) [] holds below bad stands fits =
    stands.closed (ap content (omega arith) ∙ (first_of_log content base first (log_bytes before) holds).opened)
damaged_none content base start [] (entry ∷ entries) holds below bad stands fits =
    let first = first_of_log content base entry (log_bytes entries) stands.bytes in
    let long = length-first entry entries in
    let spelled : Holds content (base + 1) (word bad.size) = subst (λ (p : ℕ). Holds content (p + 1) (word bad.size)) (omega arith) (bad.spelled (omega arith)) in
    let same : bad.size ≡ length entry = one_word content (base + 1) bad.size (length entry) bad.fits (omega arith) spelled first.spelled in
    absurd (omega (arith, bad.past))
damaged_none content base start (first ∷ before) (entry ∷ entries) holds below bad stands fits =
    let parts = first_of_log content base first (log_bytes before) holds in
    let other = first_of_log content base entry (log_bytes entries) stands.bytes in
    let long = length-first entry entries in
    let size = length-first first before in
    let same : entry ≡ first = same_first content base entry first (log_bytes entries) (log_bytes before) (omega arith) (omega arith) other parts in
    let behind : base + length (log_bytes (first ∷ before)) ≡ base + (5 + length first) + length (log_bytes before) = omega arith in
    let further : start + length (log_bytes (first ∷ before)) ≡ start + (5 + length first) + length (log_bytes before) = omega arith in
    let equal : length entry ≡ length first = ap (length {A = ℕ}) same in
    damaged_none content (base + (5 + length first)) (start + (5 + length first)) before entries parts.behind (omega arith)
    (subst (λ (n : ℕ). IsBadGate content (base + (5 + length first) + length (log_bytes before)) n) further
    (subst (λ (p : ℕ). IsBadGate content p (start + length (log_bytes (first ∷ before)))) behind bad))
    (subst (λ (e : List ℕ). Stands content (base + (5 + length e)) entries) same (rest_stands content base entry entries stands)) (omega arith)

pub logs_damaged : DamagedLogsHaveNone
logs_damaged content base at entries damaged stands =
    damaged_none content base 0 damaged.entries entries damaged.bytes (omega (arith, damaged.within))
    (subst (λ (n : ℕ). IsBadGate content (base + length (log_bytes damaged.entries)) n) (omega arith)
    (subst (λ (p : ℕ). IsBadGate content p (length (log_bytes damaged.entries))) damaged.there damaged.bad))
    (stands_of content base entries stands) (omega (arith, stands.within))

pub boots_one : DisksHaveOneBoot
boots_one = one_boot

-- what is found on an image that an append left
pub found_of : (base : ℕ) (entries found : List (List ℕ)) (entry : List ℕ) (content image : Content) → IsAppending base entries entry content image
    → StandsFor image base found → (found ≡ entries) ⊎ (found ≡ entries ++ entry ∷ [])
found_of base entries found entry content image appending stands = by_log appending.log
  where
    by_log : IsBeforeOrAfter base entries entry image → (found ≡ entries) ⊎ (found ≡ entries ++ entry ∷ [])
    by_log (inl before) = inl (logs_one image base found entries stands before)
    by_log (inr after) = inr (logs_one image base found (entries ++ entry ∷ []) stands after)

-- an append whatever it answered, a restart and a load
pub recovered_is : {D X E : Type 0} (tells : D → Type 0) (history : D → History) (health : D → Health) (old failed new : D) (choice : Choice) (x : X) (base : ℕ)
    (entries found : List (List ℕ)) (entry : List ℕ) → LeavesOnly (history old) (history failed) (IsAppending base entries entry (history old).now.content)
    → IsRestart {E = E} tells history health failed new choice (Ok x) → tells failed
    → (IsReady tells history health new → StandsFor (history new).now.content base found) → (found ≡ entries) ⊎ (found ≡ entries ++ entry ∷ [])
recovered_is tells history health old failed new choice x base entries found entry leaves restart told loaded =
    let taken = restart.ok told in
    let content : (history new).now.content ≡ taken.image = ap (λ (h : History). h.now.content) taken.is in
    let ready : IsReady tells history health new = record {
      speaks = (restart.still told, restart.revived.usable);
      safe = ap (λ (h : History). h.now.pending) taken.is;
    } in
    found_of base entries found entry (history old).now.content taken.image
    (left_last (IsAppending base entries entry (history old).now.content) (history old) (history failed) leaves taken.image taken.left)
    (subst (λ (c : Content). StandsFor c base found) content (loaded ready))
