-- Contents, and bytes that are put into them.
use Rattle.std.proofs.Common.{◌≡◌, ℕ, ◌+◌, ◌-◌, ◌<◌, ◌≤◌, ◌⊎◌, true, false, cond, ltb, List, [], ◌++◌, length, get_or, take, drop, replicate, refl, sym, ap, ◌∙◌, arith, inl, inr}
use Rattle.std.specs.Prelude.{slice_index, ◌&&◌}
use Rattle.std.proofs.lemmas.Bool.{cases_lt, lt-ltb, le-ltb, le-leb, lt-leb}
use Rattle.std.proofs.lemmas.List.{length-take-le, get_or-replicate, get_or_past, length-replicate, get_or_append_left, get_or-append_right, length-append}
use Rattle.std.proofs.Math.Seq.{take-add}
use Rattle.disk_model.specs.Crash.{Content, covers, put, Holds}

-- a place is covered
pub covered : (at n place : ℕ) → at ≤ place → place < at + n → covers at n place ≡ true
covered at n place low high = ap (λ b. b && ltb place (at + n)) (le-leb at place low) ∙ lt-ltb place (at + n) high

pub covered_not : (at n place : ℕ) → (place < at) ⊎ (at + n ≤ place) → covers at n place ≡ false
covered_not at n place (inl low) = ap (λ b. b && ltb place (at + n)) (lt-leb at place low)
covered_not at n place (inr high) = elim (cases_lt place at) [
  | inl low ↦ ap (λ b. b && ltb place (at + n)) (lt-leb at place low)
  | inr low ↦ ap (λ b. b && ltb place (at + n)) (le-leb at place low) ∙ le-ltb place (at + n) high
]

-- a place is in a range, or before or behind it
pub cases_covers : (at n place : ℕ) → ((at ≤ place) × (place < at + n)) ⊎ ((place < at) ⊎ (at + n ≤ place))
cases_covers at n place = elim (cases_lt place at) [
  | inl low ↦ inr (inl low)
  | inr low ↦ elim (cases_lt place (at + n)) [ inl high ↦ inl (low, high) | inr high ↦ inr (inr high) ]
]

-- what stands in the range, and what stands elsewhere
pub put_in : (content : Content) (at : ℕ) (bytes : List ℕ) (place : ℕ) → at ≤ place → place < at + length bytes → put content at bytes place ≡ slice_index bytes (place - at)
put_in content at bytes place low high = ap (λ b. cond b (slice_index bytes (place - at)) (content place)) (covered at (length bytes) place low high)

pub put_out : (content : Content) (at : ℕ) (bytes : List ℕ) (place : ℕ) → (place < at) ⊎ (at + length bytes ≤ place) → put content at bytes place ≡ content place
put_out content at bytes place out = ap (λ b. cond b (slice_index bytes (place - at)) (content place)) (covered_not at (length bytes) place out)

-- contents that are alike stay so
pub put_alike : (content other : Content) (at : ℕ) (bytes : List ℕ) → ((place : ℕ) → content place ≡ other place) → (place : ℕ) → put content at bytes place ≡ put other at bytes place
put_alike content other at bytes alike place = ap (λ x. cond (covers at (length bytes) place) (slice_index bytes (place - at)) x) (alike place)

-- no bytes change nothing
pub put_none : (content : Content) (at place : ℕ) → put content at [] place ≡ content place
put_none content at place = put_out content at [] place (elim (cases_lt place at) [ inl low ↦ inl low | inr high ↦ inr (omega arith) ])

-- bytes behind one another
pub put_append : (content : Content) (at : ℕ) (front back : List ℕ) (place : ℕ) → put (put content at front) (at + length front) back place ≡ put content at (front ++ back) place
put_append content at front back place =
    let len = length-append front back in
    elim (cases_covers (at + length front) (length back) place) [
      | inl in_back ↦
          put_in (put content at front) (at + length front) back place in_back.0 in_back.1
          ∙ ap (λ (i : ℕ). slice_index back i) (omega arith)
          ∙ sym (get_or-append_right front back (length front) (place - at) 0 refl (omega arith))
          ∙ sym (put_in content at (front ++ back) place (omega arith) (omega (arith, len)))
      | inr out_back ↦ put_out (put content at front) (at + length front) back place out_back ∙ elim (cases_covers at (length front) place) [
        | inl in_front ↦
            put_in content at front place in_front.0 in_front.1
            ∙ sym (get_or_append_left front back 0 (place - at) (omega arith))
            ∙ sym (put_in content at (front ++ back) place in_front.0 (omega (arith, len)))
        | inr out_front ↦ put_out content at front place out_front ∙ sym (put_out content at (front ++ back) place (elim out_front [
          | inl low ↦ inl low
          | inr high ↦ elim out_back [ inl between ↦ absurd (omega arith) | inr behind ↦ inr (omega (arith, len)) ]
        ]))
      ]
    ]

-- the bytes that stood there, put back
pub put_back : (content : Content) (at : ℕ) (bytes old : List ℕ) → Holds content at old → length old ≡ length bytes → (place : ℕ) → put (put content at bytes) at old place ≡ content place
put_back content at bytes old holds same place = elim (cases_covers at (length old) place) [
  | inl inside ↦
      put_in (put content at bytes) at old place inside.0 inside.1 ∙ sym (holds.each (place - at) (omega arith)) ∙ ap content (omega arith)
  | inr outside ↦ put_out (put content at bytes) at old place outside ∙ put_out content at bytes place (elim outside [ inl low ↦ inl low | inr high ↦ inr (omega arith) ])
]

-- the bytes that stand there change nothing
pub put_same : (content : Content) (at : ℕ) (old : List ℕ) → Holds content at old → (place : ℕ) → put content at old place ≡ content place
put_same content at old holds place = elim (cases_covers at (length old) place) [
  | inl inside ↦ put_in content at old place inside.0 inside.1 ∙ sym (holds.each (place - at) (omega arith)) ∙ ap content (omega arith)
  | inr outside ↦ put_out content at old place outside
]

-- bytes that were put are held
pub put_holds : (content : Content) (at : ℕ) (bytes : List ℕ) → Holds (put content at bytes) at bytes
put_holds content at bytes = record {
  each = λ i below. put_in content at bytes (at + i) (omega arith) (omega arith) ∙ ap (λ (j : ℕ). slice_index bytes j) (omega arith);
}

-- a zero of many, or none
pub zeros_at : (n place : ℕ) → get_or {A = ℕ} (replicate n 0) place 0 ≡ 0
zeros_at n place = elim (cases_lt place n) [
  | inl below ↦ get_or-replicate n place 0 0 below
  | inr past ↦ get_or_past (replicate n 0) place 0 (omega (arith, length-replicate {A = ℕ}))
]

-- the next n bytes, behind those that were put
pub put_next : (content mid next : Content) (from : List ℕ) (at done n place-of : ℕ) → done + n ≤ length from → place-of ≡ at + done
    → ((place : ℕ) → mid place ≡ put content at (take done from) place)
    → ((place : ℕ) → next place ≡ put mid place-of (take (done + n - done) (drop done from)) place)
    → (place : ℕ) → next place ≡ put content at (take (done + n) from) place
put_next content mid next from at done n place-of fits is so_far more place =
    let len : length (take done from) ≡ done = length-take-le done from (omega arith) in
    let amount : done + n - done ≡ n = omega arith in
    let there : place-of ≡ at + length (take done from) = omega arith in
    more place
    ∙ ap (λ (k : ℕ). put mid place-of (take k (drop done from)) place) amount
    ∙ put_alike mid (put content at (take done from)) place-of (take n (drop done from)) so_far place
    ∙ ap (λ (p : ℕ). put (put content at (take done from)) p (take n (drop done from)) place) there
    ∙ put_append content at (take done from) (take n (drop done from)) place
    ∙ ap (λ (b : List ℕ). put content at b place) (sym (take-add done n from))
