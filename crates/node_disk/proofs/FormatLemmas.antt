-- What is there at each moment while a disk is laid out.
use Rattle.std.proofs.Common.{◌≡◌, ◌≢◌, ◌⊎◌, ◌≤◌, ◌<◌, ◌+◌, ◌^◌, ℕ, List, [], ◌∷◌, length, refl, sym, ap, subst, ◌∙◌, arith, inl, inr}
use Rattle.std.specs.Prelude.{Result, Ok, Err, OnOk}
use Rattle.std.proofs.lemmas.Bool.{cases_lt, cases_eq}
use Rattle.disk_model.specs.Crash.{Content, Snapshot, History, MayLeave, LeavesOnly, Holds, is_pending, put, touched, settled}
use Rattle.disk_model.proofs.ContentLemmas.{put_in, put_out, put_holds}
use Rattle.disk_model.proofs.MomentLemmas.{outside_one, weaker_moments, join_moments}
use Rattle.node_disk.specs.Lay.{IsUnmarked, is_laid}
use Rattle.node_disk.specs.Format.{IsMarkAlone, IsLaidOut, IsLaying, IsDone}

around : (place : ℕ) → place ≢ 128 → (place < 128) ⊎ (128 + 1 ≤ place)
around place other = elim (cases_lt place 128) [ inl low ↦ inl low | inr high ↦ elim (cases_eq place 128) [ inl is ↦ absurd (other is) | inr no_ ↦ inr (omega arith) ] ]

mark_alone : (snapshot : Snapshot) (image : Content) → snapshot.pending ≡ [] → MayLeave (touched snapshot 128 1) image → IsMarkAlone snapshot.content image
mark_alone snapshot image none left place other =
    left.same place (ap (λ (p : List (ℕ × ℕ)). is_pending ((128, 1) ∷ p) place) none ∙ outside_one 128 1 place (around place other))

module _ (content : Content) (front stored : List ℕ) (short : length front ≤ 128) (small : length stored ≤ 69214208) where
  laid : Content
  laid = is_laid content front stored

  laid_page : Holds laid 0 front
  unfolding laid
  laid_page = record {
    each = λ i below.
        put_out (put (put content 0 front) 4096 stored) (2 ^ 32) (0 ∷ []) (0 + i) (inl (omega arith))
        ∙ put_out (put content 0 front) 4096 stored (0 + i) (inl (omega arith))
        ∙ (put_holds content 0 front).each i below;
  }

  laid_half : Holds laid 4096 stored
  unfolding laid
  laid_half = record {
    each = λ i below.
        put_out (put (put content 0 front) 4096 stored) (2 ^ 32) (0 ∷ []) (4096 + i) (inl (omega arith))
        ∙ (put_holds (put content 0 front) 4096 stored).each i below;
  }

  laid_gate : laid (2 ^ 32) ≡ 0
  unfolding laid
  laid_gate = put_in (put (put content 0 front) 4096 stored) (2 ^ 32) (0 ∷ []) (2 ^ 32) (omega arith) (omega arith)

  -- the same but for the mark, which is set
  pub laid_out : (image : Content) → IsMarkAlone (is_laid content front stored) image → image 128 ≡ 1 → length front < 129 → IsLaidOut front stored image
  unfolding laid
  laid_out image alone marked less = record {
    page = record { each = λ i below. alone (0 + i) (λ is. absurd (omega arith)) ∙ laid_page.each i below };
    half = record { each = λ i below. alone (4096 + i) (λ is. absurd (omega arith)) ∙ laid_half.each i below };
    closed = alone (2 ^ 32) (λ is. absurd (omega arith)) ∙ laid_gate;
    mark = marked;
  }

module _ (before : History) (front stored : List ℕ) (short : length front ≤ 128) (small : length stored ≤ 69214208) (none : before.now.pending ≡ []) where
  -- while the mark is taken away
  pub taking : (now : History) → LeavesOnly before now (MayLeave (touched before.now 128 1)) → LeavesOnly before now (IsLaying before.now.content front stored)
  taking now leaves =
      weaker_moments (MayLeave (touched before.now 128 1)) (IsLaying before.now.content front stored) before now
      (λ image left. inl (mark_alone before.now image none left)) leaves

  pub taken_away : (now : Snapshot) → now ≡ settled (put before.now.content 128 (0 ∷ [])) → IsUnmarked now
  taken_away now is = subst IsUnmarked (sym is) record { clear = refl; zero = put_in before.now.content 128 (0 ∷ []) 128 (omega arith) (omega arith) }

  -- while the rest is written
  pub laying : (first now : History) → LeavesOnly before first (IsLaying before.now.content front stored) → LeavesOnly first now (λ image. image 128 ≢ 1)
      → LeavesOnly before now (IsLaying before.now.content front stored)
  laying first now early late =
      join_moments (IsLaying before.now.content front stored) before first now early
      (weaker_moments (λ (image : Content). image 128 ≢ 1) (IsLaying before.now.content front stored) first now (λ image is. inr (inl is)) late)

  module _ (content : Content) (laid_ : Snapshot) (is : laid_ ≡ settled (is_laid content front stored)) where
    -- while the mark is set
    set_leaves : (image : Content) → MayLeave (touched laid_ 128 1) image → IsLaying before.now.content front stored image
    set_leaves image left =
        let alone = mark_alone laid_ image (ap (λ (s : Snapshot). s.pending) is) left in
        let own : IsMarkAlone (is_laid content front stored) image = subst (λ (s : Snapshot). IsMarkAlone s.content image) is alone in
        elim (cases_eq (image 128) 1) [
          | inl marked ↦ inr (inr (laid_out content front stored short small image own marked (omega arith)))
          | inr unmarked ↦ inr (inl unmarked)
        ]

    pub setting : (second now : History) → second.now ≡ laid_ → LeavesOnly before second (IsLaying before.now.content front stored)
        → LeavesOnly second now (MayLeave (touched second.now 128 1)) → LeavesOnly before now (IsLaying before.now.content front stored)
    setting second now same early late =
        join_moments (IsLaying before.now.content front stored) before second now early
        (weaker_moments (MayLeave (touched second.now 128 1)) (IsLaying before.now.content front stored) second now
        (λ image left. set_leaves image (subst (λ (s : Snapshot). MayLeave (touched s 128 1) image) same left)) late)

    pub done_ : (now : Snapshot) → now ≡ settled (put laid_.content 128 (1 ∷ [])) → IsDone front stored now
    done_ now last = subst (IsDone front stored) (sym last) record {
      safe = refl;
      laid = laid_out content front stored short small (put laid_.content 128 (1 ∷ []))
          (λ place other. put_out laid_.content 128 (1 ∷ []) place (around place other) ∙ ap (λ (s : Snapshot). s.content place) is)
          (put_in laid_.content 128 (1 ∷ []) 128 (omega arith) (omega arith)) (omega arith);
    }

pub on_ok : {X E : Type 0} (result : Result X E) (P Q : Type 0) → (P → Q) → OnOk result P → OnOk result Q
on_ok (Ok x) P Q weaker is = weaker is
on_ok (Err e) P Q weaker is = tt
