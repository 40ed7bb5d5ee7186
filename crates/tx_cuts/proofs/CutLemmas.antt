-- What holds of cuts between any two events.
use Rattle.std.proofs.Common.{◌≡◌, ℕ, zero, suc, ◌+◌, ◌==◌, Bool, true, false, cond, List, [], ◌∷◌, ◌++◌, Option, Some, None, ◌⊎◌, inl, inr, refl, sym, ap, ◌∙◌, subst, arith, append_assoc}
use Rattle.std.proofs.lemmas.Bool.{eqb-true, ne_eqb, cases_Bool}
use Rattle.tx_rules.specs.Mini.{In, Memory, Setting, flat, with_writes}
use Rattle.tx_rules.specs.Decision.{Record, Grant, Refuse, Commit, Abort, Forget, Entry, At, IsGranted, IsOpen}
use Rattle.tx_rules.specs.World.{World, Event, Begins, Grants, Completes, Refuses, Commits, Aborts, Forgets, Posts, May, after}
use Rattle.tx_rules.specs.Opening.{IsOpening}
use Rattle.tx_rules.proofs.GrowthLemmas.{one_node, one_record}
use Rattle.tx_rules.proofs.LawLemmas.{runs_only_add}
use Rattle.tx_rules.proofs.SoundLemmas.{IsSound, sound_after, sound_opening}
use Rattle.tx_cuts.specs.Cut.{CutMessage, Hold, HeldOk, HeldLocked, HeldPast, Release, Drop, Read, Piece, PieceNone, StillHeld, Copy, Cuts, opened_cuts, IsCutPassed, IsHolding, IsMade, part, CutPromises, CutEvent, Does, Holds, Raises, Releases, Loses, Makes, Sends, IsClear, MayCut, with_copy, after_cut, IsCutRun, after_cuts}

-- ---- what the transactions leave where a cut is held

-- no event opens a record at a memory node where it may not grant
open_before : (s : Setting) (k : Cuts) (e : Event) (m t : ℕ) → IsHolding k m → IsClear k e → IsOpen (after s k.world e).log m t → IsOpen k.world.log m t
open_before s k e m t holding clear o = record { granted = granted e clear o.granted; undecided = λ d. o.undecided (decided e d) }
  where
    not_grant : (r : Record) (n : ℕ) → ((u : ℕ) → ¬ (r ≡ Grant u)) → (At m (Grant t) ≡ At n r) ⊎ IsGranted k.world.log m t → IsGranted k.world.log m t
    not_grant r n plain h = elim h [ inl is ↦ absurd (plain t (sym (one_record m n (Grant t) r is))) | inr before ↦ before ]

    here : (n u : ℕ) → ¬ IsHolding k n → (At m (Grant t) ≡ At n (Grant u)) ⊎ IsGranted k.world.log m t → IsGranted k.world.log m t
    here n u free h = elim h [ inl is ↦ absurd (free (subst (IsHolding k) (one_node m n (Grant t) (Grant u) is) holding)) | inr before ↦ before ]

    granted : (e : Event) → IsClear k e → IsGranted (after s k.world e).log m t → IsGranted k.world.log m t
    granted (Begins u) free h = h
    granted (Grants n u) free h = here n u free h
    granted (Completes n u) free h = here n u free h
    granted (Refuses n u why) free h = not_grant (Refuse u why) n (λ x e. absurd cc) h
    granted (Commits n u) free h = not_grant (Commit u) n (λ x e. absurd cc) h
    granted (Aborts n u) free h = not_grant (Abort u) n (λ x e. absurd cc) h
    granted (Forgets n u) free h = not_grant (Forget u) n (λ x e. absurd cc) h
    granted (Posts p) free h = h

    later : {A B : Type 0} {C D : Type 0} → (A ⊎ B) → (A → C ⊎ A) → (B → D ⊎ B) → (C ⊎ A) ⊎ (D ⊎ B)
    later d f g = elim d [ inl h ↦ inl (f h) | inr h ↦ inr (g h) ]

    decided : (e : Event) → In (At m (Commit t)) k.world.log ⊎ In (At m (Abort t)) k.world.log
        → In (At m (Commit t)) (after s k.world e).log ⊎ In (At m (Abort t)) (after s k.world e).log
    decided (Begins u) d = d
    decided (Grants n u) d = later d (λ h. inr h) (λ h. inr h)
    decided (Completes n u) d = later d (λ h. inr h) (λ h. inr h)
    decided (Refuses n u why) d = later d (λ h. inr h) (λ h. inr h)
    decided (Commits n u) d = later d (λ h. inr h) (λ h. inr h)
    decided (Aborts n u) d = later d (λ h. inr h) (λ h. inr h)
    decided (Forgets n u) d = later d (λ h. inr h) (λ h. inr h)
    decided (Posts p) d = d

-- the image of a memory node without an undecided record stays
image_stays : (s : Setting) (w : World) (e : Event) (m : ℕ) → May s w e → ((t : ℕ) → ¬ IsOpen w.log m t) → (after s w e).image m ≡ w.image m
image_stays s w (Begins t) m may none = refl
image_stays s w (Grants n t) m may none = refl
image_stays s w (Completes n t) m may none = refl
image_stays s w (Refuses n t why) m may none = refl
image_stays s w (Commits n t) m may none =
    ap (λ (b : Bool). cond b (with_writes s t w.image m) (w.image m)) (ne_eqb m n (λ same. none t (subst (λ x. IsOpen w.log x t) (sym same) may.1)))
image_stays s w (Aborts n t) m may none = refl
image_stays s w (Forgets n t) m may none = refl
image_stays s w (Posts p) m may none = refl

-- equal places have equal parts
pub part_same : (f g : ℕ → ℕ) (place n : ℕ) → ((a : ℕ) → f a ≡ g a) → part f place n ≡ part g place n
unfolding part
part_same f g place zero same = refl
part_same f g place (suc n) same =
    ap (λ (x : ℕ). x ∷ part f (place + 1) n) (same place) ∙ ap (λ (xs : List ℕ). g place ∷ xs) (part_same f g (place + 1) n same)

-- ---- the invariant

-- a copy at a memory node: its cut is passed; while it is held nothing is open there and it is the image; it is
-- released when its cut was made; and of a cut that was made it is the flat memory at that moment
pub record IsCopy (s : Setting) (ms : List ℕ) (k : Cuts) (m : ℕ) (copy : Copy) : Type 0 where
  pub inside : In m ms
  pub below : IsCutPassed k.floors m copy.cut
  pub same : copy.held ≡ true → (a : ℕ) → k.world.image m a ≡ copy.image a
  pub closed : copy.held ≡ true → (t : ℕ) → ¬ IsOpen k.world.log m t
  pub released : copy.held ≡ false → IsMade k copy.cut
  pub flat_at : (points : List ℕ) → In (copy.cut, points) k.made → (a : ℕ) → copy.image a ≡ flat s points m a

pub record IsCutSound (s : Setting) (ms : List ℕ) (k : Cuts) : Type 0 where
  pub sound : IsSound s k.world
  pub copies : (m : ℕ) (copy : Copy) → k.copies m ≡ Some copy → IsCopy s ms k m copy
  pub passed : (c : ℕ) (points : List ℕ) → In (c, points) k.made → (m : ℕ) → In m ms → IsCutPassed k.floors m c
  pub once : (c : ℕ) (p q : List ℕ) → In (c, p) k.made → In (c, q) k.made → p ≡ q
  pub points : (c : ℕ) (p : List ℕ) → In (c, p) k.made → (later : List ℕ) × (k.world.points ≡ later ++ p)
  pub promises : (message : CutMessage) → In message k.sent → CutPromises s k message

some_copy : (x y : Copy) → ◌≡◌ {A = Option Copy} (Some x) (Some y) → x ≡ y
some_copy x y e = cc

passed_later : (floors : List (ℕ × ℕ)) (x : ℕ × ℕ) (m c : ℕ) → IsCutPassed floors m c → IsCutPassed (x ∷ floors) m c
passed_later floors x m c p = record { by = p.by; entry = inr p.entry; above = p.above }

passed_now : (floors : List (ℕ × ℕ)) (m c : ℕ) → IsCutPassed ((m, c) ∷ floors) m c
passed_now floors m c = record { by = c; entry = inl refl; above = omega arith }

-- promises stay where floors and made cuts only grow
promises_stay : (s : Setting) (k j : Cuts) → ((x : ℕ × ℕ) → In x k.floors → In x j.floors) → ((x : ℕ × List ℕ) → In x k.made → In x j.made)
    → (message : CutMessage) → CutPromises s k message → CutPromises s j message
promises_stay s k j floors made (Hold c) h = tt
promises_stay s k j floors made (HeldOk m c) h = record { by = h.by; entry = floors (m, h.by) h.entry; above = h.above }
promises_stay s k j floors made (HeldLocked m c) h = tt
promises_stay s k j floors made (HeldPast m c) h = tt
promises_stay s k j floors made (Release c) h = (h.0, made (c, h.0) h.1)
promises_stay s k j floors made (Drop c) h = tt
promises_stay s k j floors made (Read m c place) h = (h.0, made (c, h.0) h.1)
promises_stay s k j floors made (Piece m c place bytes) h = (h.0, made (c, h.0) h.1, h.2, h.3)
promises_stay s k j floors made (PieceNone m c place) h = tt
promises_stay s k j floors made (StillHeld m c) h = tt

-- the flat memory at a memory node without an undecided record is its image
pub closed_flat : (s : Setting) (w : World) → IsSound s w → (m : ℕ) → ((t : ℕ) → ¬ IsOpen w.log m t) → (a : ℕ) → flat s w.points m a ≡ w.image m a
closed_flat s w sound m none a = sound.stored.settled m a (λ t v p. none t p.record_open)

module _ (s : Setting) (ms : List ℕ) (k : Cuts) (h : IsCutSound s ms k) where
  does_sound : (e : Event) → May s k.world e → IsClear k e → IsCutSound s ms (after_cut s k (Does e))
  does_sound e may clear = record {
    sound = sound_after s k.world e may h.sound;
    copies = λ m copy is. let c = h.copies m copy is in record {
      inside = c.inside;
      below = c.below;
      same = λ held a. ap (λ (f : ℕ → ℕ). f a) (image_stays s k.world e m may (c.closed held)) ∙ c.same held a;
      closed = λ held t o. c.closed held t (open_before s k e m t (record { copy = copy; is = is; held = held }) clear o);
      released = c.released;
      flat_at = c.flat_at;
    };
    passed = h.passed;
    once = h.once;
    points = λ c p is. let before = h.points c p is in let new = (runs_only_add s k.world (e ∷ [])).points in
        (new.0 ++ before.0, new.1 ∙ ap (λ (x : List ℕ). new.0 ++ x) before.1 ∙ sym (append_assoc new.0 before.0 p));
    promises = h.promises;
  }

  -- a memory node's copy changes to this one, or to none
  copies_changed : (m : ℕ) (new : Option Copy) (j : Cuts) → ((copy : Copy) → new ≡ Some copy → IsCopy s ms j m copy)
      → ((n : ℕ) (copy : Copy) → IsCopy s ms k n copy → IsCopy s ms j n copy)
      → (n : ℕ) (copy : Copy) → with_copy m new k.copies n ≡ Some copy → IsCopy s ms j n copy
  copies_changed m new j here stays n copy is = go (n == m) refl is
    where
      go : (b : Bool) → (n == m) ≡ b → cond b new (k.copies n) ≡ Some copy → IsCopy s ms j n copy
      go true same e = subst (λ x. IsCopy s ms j x copy) (sym (eqb-true n m same)) (here copy e)
      go false other e = stays n copy (h.copies n copy e)

  -- a copy where the cut floors have grown
  copy_raised : (x : ℕ × ℕ) (copies : ℕ → Option Copy) (n : ℕ) (copy : Copy) → IsCopy s ms k n copy → IsCopy s ms (record k { floors = x ∷ k.floors; copies = copies }) n copy
  copy_raised x copies n copy c =
      record { inside = c.inside; below = passed_later k.floors x n copy.cut c.below; same = c.same; closed = c.closed; released = c.released; flat_at = c.flat_at }

  raised : (m c : ℕ) (new : Option Copy)
      → ((copy : Copy) → new ≡ Some copy → IsCopy s ms (record k { floors = (m, c) ∷ k.floors; copies = with_copy m new k.copies }) m copy)
      → IsCutSound s ms (record k { floors = (m, c) ∷ k.floors; copies = with_copy m new k.copies })
  raised m c new here =
      let j : Cuts = record k { floors = (m, c) ∷ k.floors; copies = with_copy m new k.copies } in
      record {
        sound = h.sound;
        copies = copies_changed m new j here (copy_raised (m, c) (with_copy m new k.copies));
        passed = λ d p is n inside. passed_later k.floors (m, c) n d (h.passed d p is n inside);
        once = h.once;
        points = h.points;
        promises = λ message is. promises_stay s k j (λ x e. inr e) (λ x e. e) message (h.promises message is);
      }

  holds_sound : (m c : ℕ) → MayCut s ms k (Holds m c) → IsCutSound s ms (after_cut s k (Holds m c))
  holds_sound m c may = raised m c (Some (record { cut = c; held = true; image = k.world.image m })) (λ copy is.
      subst (IsCopy s ms (after_cut s k (Holds m c)) m) (some_copy (record { cut = c; held = true; image = k.world.image m }) copy is) (record {
        inside = may.0;
        below = passed_now k.floors m c;
        same = λ held a. refl;
        closed = λ held. may.2;
        released = λ e. absurd (let x : true ≡ false = e in cc);
        flat_at = λ points e. absurd (may.1 (h.passed c points e m may.0));
      }))

  -- a copy that changes where nothing else does
  copy_set : (m : ℕ) (new : Option Copy) → ((copy : Copy) → new ≡ Some copy → IsCopy s ms (record k { copies = with_copy m new k.copies }) m copy)
      → IsCutSound s ms (record k { copies = with_copy m new k.copies })
  copy_set m new here =
      let j : Cuts = record k { copies = with_copy m new k.copies } in
      record {
        sound = h.sound;
        copies = copies_changed m new j here (λ n copy c. record {
          inside = c.inside;
          below = c.below;
          same = c.same;
          closed = c.closed;
          released = c.released;
          flat_at = c.flat_at;
        });
        passed = h.passed;
        once = h.once;
        points = h.points;
        promises = λ message is. promises_stay s k j (λ x e. e) (λ x e. e) message (h.promises message is);
      }

  releases_sound : (m : ℕ) (copy : Copy) → MayCut s ms k (Releases m copy) → IsCutSound s ms (after_cut s k (Releases m copy))
  releases_sound m copy may = copy_set m (Some (record copy { held = false })) (λ new is.
      let c = h.copies m copy may.0 in
      subst (IsCopy s ms (after_cut s k (Releases m copy)) m) (some_copy (record copy { held = false }) new is) (record {
        inside = c.inside;
        below = c.below;
        same = λ e. absurd (let x : false ≡ true = e in cc);
        closed = λ e. absurd (let x : false ≡ true = e in cc);
        released = λ e. may.1;
        flat_at = c.flat_at;
      }))

  -- at a cut each copy of it is the flat memory
  copy_made : (c : ℕ) → ¬ IsMade k c → (m : ℕ) (copy : Copy) → IsCopy s ms k m copy → copy.cut ≡ c → (a : ℕ) → copy.image a ≡ flat s k.world.points m a
  copy_made c new m copy is same a = elim (cases_Bool copy.held) [
    | inl held ↦ sym (is.same held a) ∙ sym (closed_flat s k.world h.sound m (is.closed held) a)
    | inr free ↦ absurd (new (subst (IsMade k) same (is.released free)))
  ]

  makes_sound : (c : ℕ) → MayCut s ms k (Makes c) → IsCutSound s ms (after_cut s k (Makes c))
  makes_sound c may =
      let j = after_cut s k (Makes c) in
      record {
        sound = h.sound;
        copies = λ m copy is. let x = h.copies m copy is in record {
          inside = x.inside;
          below = x.below;
          same = x.same;
          closed = x.closed;
          released = λ free. ((x.released free).0, inr (x.released free).1);
          flat_at = λ points e. elim e [
            | inl now ↦ λ a. copy_made c may.1 m copy x (ap (λ (y : ℕ × List ℕ). y.0) now) a
                ∙ ap (λ (y : ℕ × List ℕ). flat s y.1 m a) (sym now)
            | inr before ↦ x.flat_at points before
          ];
        };
        passed = λ d p is m inside. elim is [
          | inl now ↦ subst (λ y. IsCutPassed k.floors m y) (sym (ap (λ (y : ℕ × List ℕ). y.0) now)) (h.promises (HeldOk m c) (may.0 m inside))
          | inr before ↦ h.passed d p before m inside
        ];
        once = λ d p q x y. elim x [
          | inl now ↦ elim y [
            | inl also ↦ ap (λ (z : ℕ × List ℕ). z.1) now ∙ sym (ap (λ (z : ℕ × List ℕ). z.1) also)
            | inr before ↦ absurd (may.1 (q, subst (λ z. In (z, q) k.made) (ap (λ (z : ℕ × List ℕ). z.0) now) before))
          ]
          | inr before ↦ elim y [
            | inl now ↦ absurd (may.1 (p, subst (λ z. In (z, p) k.made) (ap (λ (z : ℕ × List ℕ). z.0) now) before))
            | inr too ↦ h.once d p q before too
          ]
        ];
        points = λ d p is. elim is [
          | inl now ↦ ([], sym (ap (λ (z : ℕ × List ℕ). z.1) now))
          | inr before ↦ h.points d p before
        ];
        promises = λ message is. promises_stay s k j (λ x e. e) (λ x e. inr e) message (h.promises message is);
      }

  sends_sound : (message : CutMessage) → CutPromises s k message → IsCutSound s ms (after_cut s k (Sends message))
  sends_sound message promise =
      let j = after_cut s k (Sends message) in
      record {
        sound = h.sound;
        copies = λ m copy is. let c = h.copies m copy is in
            record { inside = c.inside; below = c.below; same = c.same; closed = c.closed; released = c.released; flat_at = c.flat_at };
        passed = h.passed;
        once = h.once;
        points = h.points;
        promises = λ other is. elim is [
          | inl e ↦ subst (CutPromises s j) (sym e) (promises_stay s k j (λ x e. e) (λ x e. e) message promise)
          | inr before ↦ promises_stay s k j (λ x e. e) (λ x e. e) other (h.promises other before)
        ];
      }

  pub cut_sound_after : (e : CutEvent) → MayCut s ms k e → IsCutSound s ms (after_cut s k e)
  cut_sound_after (Does e) may = does_sound e may.0 may.1
  cut_sound_after (Holds m c) may = holds_sound m c may
  cut_sound_after (Raises m c) may = raised m c None (λ copy is. absurd cc)
  cut_sound_after (Releases m copy) may = releases_sound m copy may
  cut_sound_after (Loses m) may = copy_set m None (λ copy is. absurd cc)
  cut_sound_after (Makes c) may = makes_sound c may
  cut_sound_after (Sends message) may = sends_sound message may

pub cut_sound_all : (s : Setting) (ms : List ℕ) (k : Cuts) (events : List CutEvent) → IsCutRun s ms k events → IsCutSound s ms k → IsCutSound s ms (after_cuts s k events)
cut_sound_all s ms k [] run h = h
cut_sound_all s ms k (e ∷ events) run h = cut_sound_all s ms (after_cut s k e) events run.1 (cut_sound_after s ms k h e run.0)

pub cut_sound_opening : (s : Setting) (ms : List ℕ) (log : List Entry) (image : Memory) (floors : List (ℕ × ℕ)) → IsOpening s log image → IsCutSound s ms (opened_cuts s log image floors)
cut_sound_opening s ms log image floors o = record {
  sound = sound_opening s log image o;
  copies = λ m copy is. absurd cc;
  passed = λ c p is. absurd is;
  once = λ c p q x y. absurd x;
  points = λ c p is. absurd is;
  promises = λ message is. absurd is;
}
