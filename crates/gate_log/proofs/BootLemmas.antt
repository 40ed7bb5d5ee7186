-- The boot number through a write of each of its two places.
use Rattle.std.proofs.Common.{◌≡◌, ◌⊎◌, ℕ, zero, suc, ◌+◌, ◌^◌, ◌<◌, ◌≤◌, List, [], ◌∷◌, length, get_or, refl, sym, ap, subst, ◌∙◌, arith, inl, inr}
use Rattle.std.specs.Prelude.{slice_index}
use Rattle.std.specs.Int.{w64, to_be_bytes, from_be_bytes}
use Rattle.std.proofs.lemmas.Nat.{from_be_bytes-to_be_bytes_8}
use Rattle.std.proofs.lemmas.List.{same_lists}
use Rattle.disk_model.specs.Crash.{Content, Snapshot, MayLeave, History, put, touched, settled, Holds, LeavesOnly, is_pending}
use Rattle.disk_model.proofs.ContentLemmas.{put_in, put_out, put_holds}
use Rattle.gate_log.specs.declared.side.Side.{Side}
use Rattle.gate_log.specs.declared.side.Side.TheVariants.{First, Second}
use Rattle.gate_log.specs.Boot.{side_of, other_side, place_of, HasBoot, IsStored, IsNextBoot, IsSameOrNext, IsSameElsewhere, IsBooting}
use Rattle.disk_model.proofs.MomentLemmas.{outside_one, same_moments, weaker_moments, join_moments, holds_last}

get_or_any : (xs : List ℕ) (k d : ℕ) → k < length xs → get_or xs k d ≡ get_or xs k 0
get_or_any [] k d below = absurd (omega arith)
get_or_any (x ∷ xs) zero d below = refl
get_or_any (x ∷ xs) (suc k) d below = get_or_any xs k d (omega arith)

-- lists of one length that are held at one place are one list
pub held_same : (content : Content) (at : ℕ) (xs ys : List ℕ) → length xs ≡ length ys → Holds content at xs → Holds content at ys → xs ≡ ys
held_same content at xs ys same first second = same_lists xs ys same (λ k d below.
    get_or_any xs k d below ∙ sym (first.each k below) ∙ second.each k (omega arith) ∙ sym (get_or_any ys k d (omega arith)))

-- one boot number stands there
pub one_boot : (content : Content) (a b : ℕ) → HasBoot content a → HasBoot content b → a ≡ b
one_boot content a b first second =
    sym (from_be_bytes-to_be_bytes_8 a first.fits)
    ∙ ap (from_be_bytes w64) (held_same content (place_of (side_of (content 0))) (to_be_bytes w64 a) (to_be_bytes w64 b) refl first.bytes second.bytes)
    ∙ from_be_bytes-to_be_bytes_8 b second.fits

-- each side is another one, or its other side
side_cases : (a b : Side) → (a ≡ b) ⊎ (a ≡ other_side b)
side_cases First First = inl refl
side_cases First Second = inr refl
side_cases Second First = inr refl
side_cases Second Second = inl refl

-- the two places lie behind the selector, and apart
record AreApart (here there : ℕ) : Type 0 where
  behind : 8 ≤ here
  after : 8 ≤ there
  apart : (here + 8 ≤ there) ⊎ (there + 8 ≤ here)

apart_of : (side : Side) → AreApart (place_of side) (place_of (other_side side))
apart_of First = record { behind = omega arith; after = omega arith; apart = inl (omega arith) }
apart_of Second = record { behind = omega arith; after = omega arith; apart = inr (omega arith) }

-- where nothing else is pending, what a write may leave
left_same : (snapshot : Snapshot) (at n : ℕ) (image : Content) → snapshot.pending ≡ [] → MayLeave (touched snapshot at n) image
    → (place : ℕ) → (place < at) ⊎ (at + n ≤ place) → image place ≡ snapshot.content place
left_same snapshot at n image none left place out = left.same place (ap (λ (p : List (ℕ × ℕ)). is_pending ((at, n) ∷ p) place) none ∙ outside_one at n place out)

beside : (one : Side) (place : ℕ) → (place < 4096) ⊎ (4104 ≤ place) → (place < 8192) ⊎ (8200 ≤ place) → (place < place_of one) ⊎ (place_of one + 8 ≤ place)
beside First place first second = first
beside Second place first second = second

module _ (before : Snapshot) (side : Side) (boot : ℕ) (stored : IsStored before.content side boot) (none : before.pending ≡ []) where
  apart : AreApart (place_of side) (place_of (other_side side))
  apart = apart_of side

  here : Holds before.content (place_of side) (to_be_bytes w64 boot)
  here = subst (λ (s : Side). Holds before.content (place_of s) (to_be_bytes w64 boot)) stored.selected stored.stands.bytes

  -- while the other place is written
  pub boot_kept : (image : Content) → MayLeave (touched before (place_of (other_side side)) 8) image → HasBoot image boot
  boot_kept image left =
      let selected : side_of (image 0) ≡ side = ap side_of (left_same before (place_of (other_side side)) 8 image none left 0 (inl (omega (arith, apart.after)))) ∙ stored.selected in
      record {
        fits = stored.stands.fits;
        bytes = subst (λ (s : Side). Holds image (place_of s) (to_be_bytes w64 boot)) (sym selected) record {
          each = λ i below.
              left_same before (place_of (other_side side)) 8 image none left (place_of side + i)
              (elim apart.apart [ inl low ↦ inl (omega (arith, low, below)) | inr high ↦ inr (omega (arith, high)) ])
              ∙ here.each i below;
        };
      }

  module _ (now : Content) (wrote : (place : ℕ) → now place ≡ put before.content (place_of (other_side side)) (to_be_bytes w64 (boot + 1)) place) (fits : boot + 1 < 2 ^ 64) where
    old_there : (i : ℕ) → i < 8 → now (place_of side + i) ≡ slice_index (to_be_bytes w64 boot) i
    old_there i below =
        wrote (place_of side + i)
        ∙ put_out before.content (place_of (other_side side)) (to_be_bytes w64 (boot + 1)) (place_of side + i)
        (elim apart.apart [ inl low ↦ inl (omega (arith, low, below)) | inr high ↦ inr (omega (arith, high)) ])
        ∙ here.each i below

    new_there : (i : ℕ) → i < 8 → now (place_of (other_side side) + i) ≡ slice_index (to_be_bytes w64 (boot + 1)) i
    new_there i below = wrote (place_of (other_side side) + i) ∙ (put_holds before.content (place_of (other_side side)) (to_be_bytes w64 (boot + 1))).each i below

    -- while the selector is written
    pub boot_moves : (image : Content) → MayLeave (touched (settled now) 0 1) image → IsSameOrNext boot image
    boot_moves image left = elim (side_cases (side_of (image 0)) side) [
      | inl old ↦ inl record {
        fits = stored.stands.fits;
        bytes = subst (λ (s : Side). Holds image (place_of s) (to_be_bytes w64 boot)) (sym old) record {
          each = λ i below. left_same (settled now) 0 1 image refl left (place_of side + i) (inr (omega (arith, apart.behind))) ∙ old_there i below;
        };
      }
      | inr new ↦ inr record {
        fits = fits;
        bytes = subst (λ (s : Side). Holds image (place_of s) (to_be_bytes w64 (boot + 1))) (sym new) record {
          each = λ i below. left_same (settled now) 0 1 image refl left (place_of (other_side side) + i) (inr (omega (arith, apart.after))) ∙ new_there i below;
        };
      }
    ]

    -- once it is written
    pub boot_moved : (turned : ℕ) (last : Snapshot) → side_of turned ≡ other_side side → last ≡ settled (put now 0 (turned ∷ [])) → IsNextBoot before last (boot + 1)
    boot_moved turned last turns is = subst (λ (s : Snapshot). IsNextBoot before s (boot + 1)) (sym is) record {
      boot = boot;
      was = stored.stands;
      above = refl;
      stands = record {
        fits = fits;
        bytes = subst (λ (s : Side). Holds (put now 0 (turned ∷ [])) (place_of s) (to_be_bytes w64 (boot + 1))) (sym (ap side_of selected ∙ turns)) record {
          each = λ i below. put_out now 0 (turned ∷ []) (place_of (other_side side) + i) (inr (omega (arith, apart.after))) ∙ new_there i below;
        };
      };
      safe = refl;
    }
      where
        selected : put now 0 (turned ∷ []) 0 ≡ turned
        selected = put_in now 0 (turned ∷ []) 0 (omega arith) (omega arith)

    -- and what is elsewhere
    pub elsewhere_moves : (image : Content) → MayLeave (touched (settled now) 0 1) image → IsSameElsewhere before.content image
    elsewhere_moves image left place behind first second =
        left_same (settled now) 0 1 image refl left place (inr behind) ∙ wrote place
        ∙ put_out before.content (place_of (other_side side)) (to_be_bytes w64 (boot + 1)) place (beside (other_side side) place first second)

  -- what is elsewhere while the other place is written
  pub elsewhere_kept : (image : Content) → MayLeave (touched before (place_of (other_side side)) 8) image → IsSameElsewhere before.content image
  elsewhere_kept image left place behind first second =
      left_same before (place_of (other_side side)) 8 image none left place (beside (other_side side) place first second)

-- what was read is what is stored
pub stored_from : (content : Content) (side : Side) (boot : ℕ) (bytes : List ℕ) → side_of (content 0) ≡ side → Holds content (place_of side) bytes
    → to_be_bytes w64 boot ≡ bytes → boot < 2 ^ 64 → IsStored content side boot
stored_from content side boot bytes selected holds is below = record {
  selected = selected;
  stands = record {
    fits = below;
    bytes = subst (λ (s : Side). Holds content (place_of s) (to_be_bytes w64 boot)) (sym selected) (subst (Holds content (place_of side)) (sym is) holds);
  };
}

-- what the first write left, once it is safe
record IsWritten (before first : Snapshot) (side : Side) (boot : ℕ) : Type 0 where
  is : first ≡ settled first.content
  wrote : (place : ℕ) → first.content place ≡ put before.content (place_of (other_side side)) (to_be_bytes w64 (boot + 1)) place

-- the writes of a call, over what it read
module _ (before read first : History) (side : Side) (boot place : ℕ) (bytes : List ℕ) (kept : read ≡ before) (stored : IsStored before.now.content side boot)
    (none : before.now.pending ≡ []) (there : place ≡ place_of (other_side side)) (spelled : bytes ≡ to_be_bytes w64 (boot + 1)) where
  -- up to the first one
  pub boot_first : LeavesOnly read first (MayLeave (touched read.now place (length bytes))) → LeavesOnly before first (IsBooting before.now.content)
  boot_first leaves = weaker_moments (MayLeave (touched before.now (place_of (other_side side)) 8)) (IsBooting before.now.content) before first (λ image left. record {
    number = λ number has. inl (subst (HasBoot image) (one_boot before.now.content boot number stored.stands has) (boot_kept before.now side boot stored none image left));
    rest = elsewhere_kept before.now side boot stored none image left;
  }) from_here
    where
      from_here : LeavesOnly before first (MayLeave (touched before.now (place_of (other_side side)) 8))
      from_here = subst (λ (h : History). LeavesOnly h first (MayLeave (touched h.now (place_of (other_side side)) 8))) kept
          (subst (λ (p : ℕ). LeavesOnly read first (MayLeave (touched read.now p 8))) there
          (subst (λ (b : List ℕ). LeavesOnly read first (MayLeave (touched read.now place (length b)))) spelled leaves))

  written_first : first.now ≡ settled (put read.now.content place bytes) → IsWritten before.now first.now side boot
  written_first wrote =
      let is : first.now ≡ settled (put read.now.content (place_of (other_side side)) (to_be_bytes w64 (boot + 1))) =
      wrote ∙ ap (λ (p : ℕ). settled (put read.now.content p bytes)) there ∙ ap (λ (b : List ℕ). settled (put read.now.content (place_of (other_side side)) b)) spelled in
      record {
        is = is ∙ ap (λ (s : Snapshot). settled s.content) (sym is);
        wrote = λ at. ap (λ (s : Snapshot). s.content at) is ∙ ap (λ (h : History). put h.now.content (place_of (other_side side)) (to_be_bytes w64 (boot + 1)) at) kept;
      }

  module _ (second : History) (turned : ℕ) (fits : boot + 1 < 2 ^ 64) (early : LeavesOnly read first (MayLeave (touched read.now place (length bytes))))
      (wrote : first.now ≡ settled (put read.now.content place bytes)) where
    -- and up to the second
    pub boot_second : LeavesOnly first second (MayLeave (touched first.now 0 1)) → LeavesOnly before second (IsBooting before.now.content)
    boot_second late =
        let was = written_first wrote in
        join_moments (IsBooting before.now.content) before first second (boot_first early)
        (weaker_moments (MayLeave (touched first.now 0 1)) (IsBooting before.now.content) first second (λ image left.
        let there = subst (λ (s : Snapshot). MayLeave (touched s 0 1) image) was.is left in
        record {
          number = λ number has. subst (λ (n : ℕ). IsSameOrNext n image) (one_boot before.now.content boot number stored.stands has)
              (boot_moves before.now side boot stored none first.now.content was.wrote fits image there);
          rest = elsewhere_moves before.now side boot stored none first.now.content was.wrote fits image there;
        }) late)

    -- a call that gave a number
    pub boot_given : side_of turned ≡ other_side side → second.now ≡ settled (put first.now.content 0 (turned ∷ [])) → IsNextBoot before.now second.now (boot + 1)
    boot_given turns last =
        let was = written_first wrote in
        boot_moved before.now side boot stored none first.now.content was.wrote fits turned second.now turns last

-- where nothing was written
booted_same : (content image : Content) → ((place : ℕ) → image place ≡ content place) → (boot : ℕ) → HasBoot content boot → HasBoot image boot
booted_same content image same boot has = record {
  fits = has.fits;
  bytes = subst (λ (s : ℕ). Holds image (place_of (side_of s)) (to_be_bytes w64 boot)) (sym (same 0)) record {
    each = λ i below. same (place_of (side_of (content 0)) + i) ∙ has.bytes.each i below;
  };
}

pub boot_read : (before read : History) → read ≡ before → before.now.pending ≡ [] → LeavesOnly before read (IsBooting before.now.content)
boot_read before read kept none = same_moments (IsBooting before.now.content) before read kept (λ image left.
    let same : (place : ℕ) → image place ≡ before.now.content place = λ place. left.same place (ap (λ (p : List (ℕ × ℕ)). is_pending p place) none) in
    record {
      number = λ boot has. inl (booted_same before.now.content image same boot has);
      rest = λ place behind first second. same place;
    })

pub elsewhere_last : (before now : History) → LeavesOnly before now (IsBooting before.now.content) → IsSameElsewhere before.now.content now.now.content
elsewhere_last before now leaves = (holds_last (IsBooting before.now.content) before now leaves).rest
