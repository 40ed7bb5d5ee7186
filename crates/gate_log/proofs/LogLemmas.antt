-- The entries of a log through the two writes of an append.
use Rattle.std.proofs.Common.{◌≡◌, ◌⊎◌, ℕ, zero, suc, ◌+◌, ◌-◌, ◌^◌, ◌<◌, ◌≤◌, false, List, [], ◌∷◌, ◌++◌, length, Result, Ok, Err, refl, sym, ap, subst, ◌∙◌, append_assoc, length-append, arith, inl, inr}
use Rattle.std.specs.Prelude.{slice_index, OnOk, is_err}
use Rattle.std.proofs.lemmas.Bool.{cases_lt, cases_eq}
use Rattle.std.proofs.lemmas.List.{append-nil, get_or_append_left, get_or-append-add}
use Rattle.sfs_xdr.specs.Items.{word}
use Rattle.disk_model.specs.Crash.{Content, Snapshot, MayLeave, History, put, touched, settled, Holds, LeavesOnly, is_pending}
use Rattle.disk_model.specs.LogBytes.{entry_bytes, log_bytes, StandsFor}
use Rattle.disk_model.proofs.ContentLemmas.{put_out, put_holds}
use Rattle.gate_log.specs.Append.{IsAppending, IsBeforeOrAfter, IsSameOutside, Opens, sealed}
use Rattle.disk_model.proofs.MomentLemmas.{outside_one, weaker_moments, join_moments}

-- ---- bytes that are held

pub holds_both : (content : Content) (at : ℕ) (front back : List ℕ) → Holds content at front → Holds content (at + length front) back → Holds content at (front ++ back)
holds_both content at front back first second = record {
  each = λ i below. elim (cases_lt i (length front)) [
    | inl in_front ↦ first.each i in_front ∙ sym (get_or_append_left front back 0 i in_front)
    | inr in_back ↦
        ap content (omega arith) ∙ second.each (i - length front) (omega (arith, length-append front back))
        ∙ sym (get_or-append-add front back (i - length front) 0) ∙ ap (λ (k : ℕ). slice_index (front ++ back) k) (omega arith)
  ];
}

pub holds_front : (content : Content) (at : ℕ) (front back : List ℕ) → Holds content at (front ++ back) → Holds content at front
holds_front content at front back both = record {
  each = λ i below. both.each i (omega (arith, length-append front back)) ∙ get_or_append_left front back 0 i below;
}

pub holds_back : (content : Content) (at : ℕ) (front back : List ℕ) → Holds content at (front ++ back) → Holds content (at + length front) back
holds_back content at front back both = record {
  each = λ i below. ap content (omega arith) ∙ both.each (length front + i) (omega (arith, length-append front back)) ∙ get_or-append-add front back i 0;
}

pub holds_one : (content : Content) (at byte : ℕ) (rest : List ℕ) → content at ≡ byte → Holds content (at + 1) rest → Holds content at (byte ∷ rest)
holds_one content at byte rest first behind = record { each = λ i below. at_each i below }
  where
    at_each : (i : ℕ) → i < length (byte ∷ rest) → content (at + i) ≡ slice_index (byte ∷ rest) i
    at_each zero below = ap content (omega arith) ∙ first
    at_each (suc i) below = ap content (omega arith) ∙ behind.each i (omega arith)

-- what is alike holds the same
pub holds_alike : (content other : Content) (at : ℕ) (bytes : List ℕ) → ((i : ℕ) → i < length bytes → other (at + i) ≡ content (at + i)) → Holds content at bytes → Holds other at bytes
holds_alike content other at bytes alike holds = record { each = λ i below. alike i below ∙ holds.each i below }

-- a byte that was put is there
put_holds_one : (content : Content) (at byte : ℕ) → put content at (byte ∷ []) at ≡ byte
put_holds_one content at byte = ap (put content at (byte ∷ [])) {y = at + 0} (omega arith) ∙ (put_holds content at (byte ∷ [])).each 0 (omega arith)

-- ---- entries

pub log_bytes_more : (entries : List (List ℕ)) (entry : List ℕ) → log_bytes (entries ++ entry ∷ []) ≡ log_bytes entries ++ entry_bytes entry
log_bytes_more [] entry = append-nil (entry_bytes entry)
log_bytes_more (first ∷ entries) entry =
    ap (λ (b : List ℕ). entry_bytes first ++ b) (log_bytes_more entries entry) ∙ sym (append_assoc (entry_bytes first) (log_bytes entries) (entry_bytes entry))

pub length-entry_bytes : (entry : List ℕ) → length (entry_bytes entry) ≡ 5 + length entry
length-entry_bytes entry = omega (arith, length-append (word (length entry)) entry, word_length (length entry))
  where
    word_length : (n : ℕ) → length (word n) ≡ 4
    word_length n = refl

pub length-log_bytes-more : (entries : List (List ℕ)) (entry : List ℕ) → length (log_bytes (entries ++ entry ∷ [])) ≡ length (log_bytes entries) + 5 + length entry
length-log_bytes-more entries entry =
    ap (length {A = ℕ}) (log_bytes_more entries entry) ∙ omega (arith, length-append (log_bytes entries) (entry_bytes entry), length-entry_bytes entry)

-- what is alike up to the closed gate and there has the same entries
pub stands_alike : (content image : Content) (base : ℕ) (entries : List (List ℕ)) → ((i : ℕ) → i ≤ length (log_bytes entries) → image (base + i) ≡ content (base + i))
    → StandsFor content base entries → StandsFor image base entries
stands_alike content image base entries alike stands = record {
  bytes = holds_alike content image base (log_bytes entries) (λ i below. alike i (omega arith)) stands.bytes;
  closed = λ opened. stands.closed (sym (alike (length (log_bytes entries)) (omega arith)) ∙ opened);
  within = stands.within;
}

-- with the gate open, and what was written behind it, there is one entry more
pub stands_more : (content image : Content) (base : ℕ) (entries : List (List ℕ)) (entry : List ℕ) → StandsFor content base entries
    → length (log_bytes entries) + 5 + length entry < 2 ^ 32 → ((i : ℕ) → i < length (log_bytes entries) → image (base + i) ≡ content (base + i))
    → image (base + length (log_bytes entries)) ≡ 1 → Holds image (base + length (log_bytes entries) + 1) (sealed entry) → StandsFor image base (entries ++ entry ∷ [])
stands_more content image base entries entry stands fits alike opened behind = record {
  bytes = subst (Holds image base) (sym (log_bytes_more entries entry))
      (holds_both image base (log_bytes entries) (entry_bytes entry)
      (holds_alike content image base (log_bytes entries) alike stands.bytes)
      (holds_one image (base + length (log_bytes entries)) 1 (word (length entry) ++ entry) opened
      (holds_front image (base + length (log_bytes entries) + 1) (word (length entry) ++ entry) (0 ∷ []) behind)));
  closed = λ is.
      let shut : image (base + length (log_bytes (entries ++ entry ∷ []))) ≡ 0 =
      ap image (omega (arith, size, length-entry_bytes entry))
      ∙ (holds_back image (base + length (log_bytes entries) + 1) (word (length entry) ++ entry) (0 ∷ []) behind).each 0 (omega arith) in
      absurd (omega arith);
  within = omega (arith, size);
}
  where
    size : length (log_bytes (entries ++ entry ∷ [])) ≡ length (log_bytes entries) + 5 + length entry
    size = length-log_bytes-more entries entry

-- ---- the moments of an append

pub opens_first : (before first : History) (gate : ℕ) (bytes : List ℕ) → LeavesOnly before first (MayLeave (touched before.now (gate + 1) (length bytes)))
    → LeavesOnly before first (Opens before.now gate bytes)
opens_first before first gate bytes leaves =
    weaker_moments (MayLeave (touched before.now (gate + 1) (length bytes))) (Opens before.now gate bytes) before first (λ image left. inl left) leaves

pub opens_both : (before first second : History) (gate : ℕ) (bytes : List ℕ) → first.now ≡ settled (put before.now.content (gate + 1) bytes)
    → LeavesOnly before first (MayLeave (touched before.now (gate + 1) (length bytes))) → LeavesOnly first second (MayLeave (touched first.now gate 1))
    → LeavesOnly before second (Opens before.now gate bytes)
opens_both before first second gate bytes is early late =
    join_moments (Opens before.now gate bytes) before first second (opens_first before first gate bytes early)
    (weaker_moments (MayLeave (touched first.now gate 1)) (Opens before.now gate bytes) first second
    (λ image left. inr (subst (λ (s : Snapshot). MayLeave (touched s gate 1) image) is left)) late)

-- where nothing else is pending, what a write may leave
left_same : (snapshot : Snapshot) (at n : ℕ) (image : Content) → snapshot.pending ≡ [] → MayLeave (touched snapshot at n) image
    → (place : ℕ) → (place < at) ⊎ (at + n ≤ place) → image place ≡ snapshot.content place
left_same snapshot at n image none left place out = left.same place (ap (λ (p : List (ℕ × ℕ)). is_pending ((at, n) ∷ p) place) none ∙ outside_one at n place out)

module _ (before : Snapshot) (base : ℕ) (entries : List (List ℕ)) (entry : List ℕ) (none : before.pending ≡ []) (stands : StandsFor before.content base entries)
    (fits : length (log_bytes entries) + 5 + length entry < 2 ^ 32) where
  -- an image that is this content but for the gate
  at_gate : (image : Content) → ((place : ℕ) → (place < base + length (log_bytes entries)) ⊎ (base + length (log_bytes entries) + 1 ≤ place)
      → image place ≡ put before.content (base + length (log_bytes entries) + 1) (sealed entry) place) → IsBeforeOrAfter base entries entry image
  at_gate image same = elim (cases_eq (image (base + length (log_bytes entries))) 1) [
    | inl opened ↦ inr (stands_more before.content image base entries entry stands fits front opened record {
      each = λ i below.
          same (base + length (log_bytes entries) + 1 + i) (inr (omega arith))
          ∙ (put_holds before.content (base + length (log_bytes entries) + 1) (sealed entry)).each i below;
    })
    | inr shut ↦ inl record {
      bytes = holds_alike before.content image base (log_bytes entries) front stands.bytes;
      closed = shut;
      within = stands.within;
    }
  ]
    where
      front : (i : ℕ) → i < length (log_bytes entries) → image (base + i) ≡ before.content (base + i)
      front i below =
          same (base + i) (inl (omega (arith, below)))
          ∙ put_out before.content (base + length (log_bytes entries) + 1) (sealed entry) (base + i) (inl (omega (arith, below)))

  pub opens_leaves : (image : Content) → Opens before (base + length (log_bytes entries)) (sealed entry) image → IsBeforeOrAfter base entries entry image
  opens_leaves image (inl left) = inl (stands_alike before.content image base entries (λ i below.
      left_same before (base + length (log_bytes entries) + 1) (length (sealed entry)) image none left (base + i) (inl (omega (arith, below)))) stands)
  opens_leaves image (inr left) = at_gate image (λ place out.
      left_same (settled (put before.content (base + length (log_bytes entries) + 1) (sealed entry))) (base + length (log_bytes entries)) 1 image refl left place out)

  fits_sealed : length (sealed entry) ≡ 5 + length entry
  fits_sealed = omega (arith, length-append (word (length entry)) (entry ++ 0 ∷ []), length-append entry (0 ∷ []), word_length (length entry))
    where
      word_length : (n : ℕ) → length (word n) ≡ 4
      word_length n = refl

  pub opens_outside : (image : Content) → Opens before (base + length (log_bytes entries)) (sealed entry) image → IsSameOutside base before.content image
  opens_outside image (inl left) place out =
      left_same before (base + length (log_bytes entries) + 1) (length (sealed entry)) image none left place (elim out [
        | inl low ↦ inl (omega (arith, low))
        | inr high ↦ inr (omega (arith, high, fits_sealed))
      ])
  opens_outside image (inr left) place out =
      left_same (settled (put before.content (base + length (log_bytes entries) + 1) (sealed entry))) (base + length (log_bytes entries)) 1 image refl left place (elim out [
        | inl low ↦ inl (omega (arith, low))
        | inr high ↦ inr (omega (arith, high, fits))
      ])
      ∙ put_out before.content (base + length (log_bytes entries) + 1) (sealed entry) place (elim out [
        | inl low ↦ inl (omega (arith, low))
        | inr high ↦ inr (omega (arith, high, fits_sealed))
      ])

  -- once the gate is open and safe
  pub opened_stands : StandsFor (put (put before.content (base + length (log_bytes entries) + 1) (sealed entry)) (base + length (log_bytes entries)) (1 ∷ [])) base (entries ++ entry ∷ [])
  opened_stands =
      let wrote = put before.content (base + length (log_bytes entries) + 1) (sealed entry) in
      let last = put wrote (base + length (log_bytes entries)) (1 ∷ []) in
      stands_more before.content last base entries entry stands fits
      (λ i below. put_out wrote (base + length (log_bytes entries)) (1 ∷ []) (base + i) (inl (omega (arith, below)))
      ∙ put_out before.content (base + length (log_bytes entries) + 1) (sealed entry) (base + i) (inl (omega (arith, below))))
      ((put_holds_one wrote (base + length (log_bytes entries)) 1))
      record {
        each = λ i below. put_out wrote (base + length (log_bytes entries)) (1 ∷ []) (base + length (log_bytes entries) + 1 + i) (inr (omega arith))
            ∙ (put_holds before.content (base + length (log_bytes entries) + 1) (sealed entry)).each i below;
      }

-- the moments of an append, and what it leaves
module _ (before now : History) (base end : ℕ) (entries : List (List ℕ)) (entry bytes : List ℕ) (none : before.now.pending ≡ []) (stands : StandsFor before.now.content base entries)
    (ends : end ≡ length (log_bytes entries)) (fits : end + 5 + length entry < 2 ^ 32) (is : bytes ≡ sealed entry) where
  room : length (log_bytes entries) + 5 + length entry < 2 ^ 32
  room = omega arith

  pub append_leaves : LeavesOnly before now (Opens before.now (base + end) bytes) → LeavesOnly before now (IsAppending base entries entry before.now.content)
  append_leaves leaves = weaker_moments (Opens before.now (base + end) bytes) (IsAppending base entries entry before.now.content) before now (λ image left. record {
    log = opens_leaves before.now base entries entry none stands room image (at_end image left);
    rest = opens_outside before.now base entries entry none stands room image (at_end image left);
  }) leaves
    where
      at_end : (image : Content) → Opens before.now (base + end) bytes image → Opens before.now (base + length (log_bytes entries)) (sealed entry) image
      at_end image left = subst (λ (n : ℕ). Opens before.now (base + n) (sealed entry) image) ends (subst (λ (b : List ℕ). Opens before.now (base + end) b image) is left)

  pub append_stands : now.now ≡ settled (put (put before.now.content (base + end + 1) bytes) (base + end) (1 ∷ [])) → StandsFor now.now.content base (entries ++ entry ∷ [])
  append_stands last = subst (λ (s : Snapshot). StandsFor s.content base (entries ++ entry ∷ [])) (sym last)
      (subst (λ (b : List ℕ). StandsFor (put (put before.now.content (base + end + 1) b) (base + end) (1 ∷ [])) base (entries ++ entry ∷ [])) (sym is)
      (subst (λ (n : ℕ). StandsFor (put (put before.now.content (base + n + 1) (sealed entry)) (base + n) (1 ∷ [])) base (entries ++ entry ∷ [])) (sym ends)
      (opened_stands before.now base entries entry none stands room)))

  pub append_safe : now.now ≡ settled (put (put before.now.content (base + end + 1) bytes) (base + end) (1 ∷ [])) → now.now.pending ≡ []
  append_safe last = ap (λ (s : Snapshot). s.pending) last

  pub append_ends : end + 5 + length entry ≡ length (log_bytes (entries ++ entry ∷ []))
  append_ends = omega (arith, length-log_bytes-more entries entry)

-- what holds of a call that succeeded
pub not_err : {X E : Type 0} (P : Type 0) (r : Result X E) → is_err r ≡ false → OnOk r P → P
not_err P (Ok x) none holds = holds
not_err P (Err e) none holds = absurd cc
