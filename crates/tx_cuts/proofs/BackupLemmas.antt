-- What memory nodes and the manager do about cuts is allowed by the rules.
use Rattle.std.proofs.Common.{◌≡◌, ℕ, zero, suc, ◌+◌, ◌≤◌, ◌<◌, nat_lt, nat_le, ◌==◌, Bool, true, false, cond, ◌&&◌, List, [], ◌∷◌, ◌++◌, length, Option, Some, None, inl, inr, refl, sym, ap, ◌∙◌, subst, arith, append_assoc, append-nil, add-zero, zero-add, length-append}
use Rattle.std.proofs.lemmas.Bool.{eqb-true, eq-eqb, leb-true, le-leb, ltb-false, and_parts, or_cases}
use Rattle.tx_rules.specs.Mini.{In, Memory, Setting, flat}
use Rattle.tx_rules.specs.Decision.{Record, Grant, Entry, IsOpen}
use Rattle.tx_rules.specs.Lists.{all_in}
use Rattle.tx_actors.specs.Node.{own, is_undecided, granted_in}
use Rattle.tx_actors.proofs.TestLemmas.{or_left, or_right, or_none, not_two, all_in-In}
use Rattle.tx_actors.proofs.RecordLemmas.{In-granted_in, log-own, is_open}
use Rattle.tx_cuts.specs.Cut.{CutMessage, Hold, HeldOk, HeldLocked, HeldPast, Release, Drop, Read, Piece, PieceNone, StillHeld, Copy, Cuts, IsCutPassed, IsMade, part, CutPromises, CutEvent, Does, Holds, Raises, Releases, Loses, Makes, Sends, MayCut, after_cut, IsCutRun, after_cuts}
use Rattle.tx_cuts.specs.Holds.{cut_passed, any_undecided, is_of, on_hold, on_hold_stopping, on_release, on_drop, piece_bytes, on_read, on_list}
use Rattle.tx_cuts.specs.Backup.{Phase, Holding, Reading, Backup, Ending, BackedUp, Ended, CutAct, keeps, fails, reads_on, hear_held, hear_piece, running_hears, hears, gives_up, posts_again, resends}
use Rattle.tx_cuts.specs.Whole.{images_in}
use Rattle.tx_cuts.proofs.CutLemmas.{IsCutSound, part_same}

-- ---- events that neither touch the transactions nor make a cut

abbrev pub IsQuiet : CutEvent → Type 0
IsQuiet (Does e) = ⊥
IsQuiet (Makes c) = ⊥
IsQuiet e = Unit {0}

abbrev pub AreQuiet : List CutEvent → Type 0
AreQuiet [] = Unit {0}
AreQuiet (e ∷ events) = IsQuiet e × AreQuiet events

-- a later state: the same world, at least what was made and sent
pub record IsQuietly (k j : Cuts) : Type 0 where
  pub world : j.world ≡ k.world
  pub made : j.made ≡ k.made
  pub sent : (p : CutMessage) → In p k.sent → In p j.sent

quiet_one : (s : Setting) (k : Cuts) (e : CutEvent) → IsQuiet e → IsQuietly k (after_cut s k e)
quiet_one s k (Does e) q = absurd q
quiet_one s k (Makes c) q = absurd q
quiet_one s k (Holds m c) q = record { world = refl; made = refl; sent = λ p h. h }
quiet_one s k (Raises m c) q = record { world = refl; made = refl; sent = λ p h. h }
quiet_one s k (Releases m copy) q = record { world = refl; made = refl; sent = λ p h. h }
quiet_one s k (Loses m) q = record { world = refl; made = refl; sent = λ p h. h }
quiet_one s k (Sends message) q = record { world = refl; made = refl; sent = λ p h. inr h }

pub quiet_all : (s : Setting) (k : Cuts) (events : List CutEvent) → AreQuiet events → IsQuietly k (after_cuts s k events)
quiet_all s k [] q = record { world = refl; made = refl; sent = λ p h. h }
quiet_all s k (e ∷ events) q =
    let first = quiet_one s k e q.0 in
    let rest = quiet_all s (after_cut s k e) events q.1 in
    record { world = rest.world ∙ first.world; made = rest.made ∙ first.made; sent = λ p h. rest.sent p (first.sent p h) }

-- ---- a memory node

pub record IsAllowed (s : Setting) (ms : List ℕ) (k : Cuts) (events : List CutEvent) : Type 0 where
  pub run : IsCutRun s ms k events
  pub quiet : AreQuiet events

passed_is : (floors : List (ℕ × ℕ)) (m c : ℕ) → cut_passed floors m c ≡ true → IsCutPassed floors m c
passed_is [] m c h = absurd cc
passed_is (x ∷ floors) m c h = elim (or_cases ((x.0 == m) && nat_le c x.1) (cut_passed floors m c) h) [
  | inl now ↦
      let both = and_parts (x.0 == m) (nat_le c x.1) now in
      record { by = x.1; entry = inl (ap (λ (n : ℕ). let p : ℕ × ℕ = (n, x.1) in p) (sym (eqb-true x.0 m both.0))); above = leb-true c x.1 both.1 }
  | inr rest ↦ let p = passed_is floors m c rest in record { by = p.by; entry = inr p.entry; above = p.above }
]

is_passed : (floors : List (ℕ × ℕ)) (m c d : ℕ) → In (m, d) floors → c ≤ d → cut_passed floors m c ≡ true
is_passed [] m c d h above = absurd h
is_passed (x ∷ floors) m c d h above = elim h [
  | inl e ↦ or_left ((x.0 == m) && nat_le c x.1) (cut_passed floors m c)
      (ap (λ (b : Bool). b && nat_le c x.1) (eq-eqb x.0 m (sym (ap (λ (p : ℕ × ℕ). p.0) e)))
      ∙ le-leb c x.1 (subst (λ y. c ≤ y) (ap (λ (p : ℕ × ℕ). p.1) e) above))
  | inr rest ↦ or_right ((x.0 == m) && nat_le c x.1) (cut_passed floors m c) (is_passed floors m c d rest above)
]

not_passed : (floors : List (ℕ × ℕ)) (m c : ℕ) → cut_passed floors m c ≡ false → ¬ IsCutPassed floors m c
not_passed floors m c h p = not_two (cut_passed floors m c) (is_passed floors m c p.by p.entry p.above) h

none_undecided : (rs : List Record) (ts : List ℕ) → any_undecided rs ts ≡ false → (t : ℕ) → In t ts → is_undecided rs t ≡ false
none_undecided rs [] h t is = absurd is
none_undecided rs (u ∷ ts) h t is =
    let both = or_none (is_undecided rs u) (any_undecided rs ts) h in
    elim is [ inl e ↦ subst (λ x. is_undecided rs x ≡ false) (sym e) both.0 | inr rest ↦ none_undecided rs ts both.1 t rest ]

-- where no record is undecided, none is open
none_open : (log : List Entry) (m : ℕ) → any_undecided (own m log) (granted_in (own m log)) ≡ false → (t : ℕ) → ¬ IsOpen log m t
none_open log m h t o =
    not_two (is_undecided (own m log) t) (is_open log m t o)
    (none_undecided (own m log) (granted_in (own m log)) h t (In-granted_in (own m log) t (log-own m (Grant t) log o.granted)))

module _ (s : Setting) (ms : List ℕ) (k : Cuts) (h : IsCutSound s ms k) (m : ℕ) where
  copy_is : (c : ℕ) (o : Option Copy) → k.copies m ≡ o → is_of c o ≡ true → IsCutPassed k.floors m c
  copy_is c None is same = absurd cc
  copy_is c (Some copy) is same = subst (IsCutPassed k.floors m) (eqb-true copy.cut c same) (h.copies m copy is).below

  pub hold_allowed : (c : ℕ) → In m ms → IsAllowed s ms k (on_hold k m c)
  hold_allowed c inside = go (is_of c (k.copies m)) refl
    where
      locked : ¬ IsCutPassed k.floors m c → (b : Bool) → any_undecided (own m k.world.log) (granted_in (own m k.world.log)) ≡ b
          → IsAllowed s ms k (cond b (Raises m c ∷ Sends (HeldLocked m c) ∷ []) (Holds m c ∷ Sends (HeldOk m c) ∷ []))
      locked new true is = record { run = (new, (tt, tt)); quiet = (tt, (tt, tt)) }
      locked new false is = record {
        run = ((inside, new, none_open k.world.log m is), (record { by = c; entry = inl refl; above = omega arith }, tt));
        quiet = (tt, (tt, tt));
      }

      past : (b : Bool) → cut_passed k.floors m c ≡ b → IsAllowed s ms k (cond b (Sends (HeldPast m c) ∷ [])
          (cond (any_undecided (own m k.world.log) (granted_in (own m k.world.log))) (Raises m c ∷ Sends (HeldLocked m c) ∷ []) (Holds m c ∷ Sends (HeldOk m c) ∷ [])))
      past true is = record { run = (tt, tt); quiet = (tt, tt) }
      past false is = locked (not_passed k.floors m c is) (any_undecided (own m k.world.log) (granted_in (own m k.world.log))) refl

      go : (b : Bool) → is_of c (k.copies m) ≡ b → IsAllowed s ms k (cond b (Sends (HeldOk m c) ∷ []) (cond (cut_passed k.floors m c) (Sends (HeldPast m c) ∷ [])
          (cond (any_undecided (own m k.world.log) (granted_in (own m k.world.log))) (Raises m c ∷ Sends (HeldLocked m c) ∷ []) (Holds m c ∷ Sends (HeldOk m c) ∷ []))))
      go true is = record { run = (copy_is c (k.copies m) refl is, tt); quiet = (tt, tt) }
      go false is = past (cut_passed k.floors m c) refl

  pub hold_stopping_allowed : (c : ℕ) → IsAllowed s ms k (on_hold_stopping k m c)
  hold_stopping_allowed c = go (is_of c (k.copies m))
    where
      past : (b : Bool) → cut_passed k.floors m c ≡ b → IsAllowed s ms k (cond b (Loses m ∷ []) (Raises m c ∷ Loses m ∷ []))
      past true is = record { run = (tt, tt); quiet = (tt, tt) }
      past false is = record { run = (not_passed k.floors m c is, (tt, tt)); quiet = (tt, (tt, tt)) }

      go : (b : Bool) → IsAllowed s ms k (cond b (Loses m ∷ []) (cond (cut_passed k.floors m c) (Loses m ∷ []) (Raises m c ∷ Loses m ∷ [])))
      go true = record { run = (tt, tt); quiet = (tt, tt) }
      go false = past (cut_passed k.floors m c) refl

  pub release_allowed : (c : ℕ) (o : Option Copy) → k.copies m ≡ o → IsMade k c → IsAllowed s ms k (on_release m c o)
  release_allowed c None is made = record { run = tt; quiet = tt }
  release_allowed c (Some copy) is made = go (copy.cut == c) refl
    where
      go : (b : Bool) → (copy.cut == c) ≡ b → IsAllowed s ms k (cond b (Releases m copy ∷ []) [])
      go true same = record { run = ((is, subst (IsMade k) (sym (eqb-true copy.cut c same)) made), tt); quiet = (tt, tt) }
      go false same = record { run = tt; quiet = tt }

  pub drop_allowed : (c : ℕ) (o : Option Copy) → IsAllowed s ms k (on_drop m c o)
  drop_allowed c o = go (is_of c o)
    where
      go : (b : Bool) → IsAllowed s ms k (cond b (Loses m ∷ []) [])
      go true = record { run = (tt, tt); quiet = (tt, tt) }
      go false = record { run = tt; quiet = tt }

  pub read_allowed : (size c place : ℕ) (o : Option Copy) → k.copies m ≡ o → IsMade k c → IsAllowed s ms k (on_read size m c place o)
  read_allowed size c place None is made = record { run = (tt, tt); quiet = (tt, tt) }
  read_allowed size c place (Some copy) is made = go (copy.cut == c) refl
    where
      go : (b : Bool) → (copy.cut == c) ≡ b
          → IsAllowed s ms k (cond b (Sends (Piece m c place (part copy.image place (piece_bytes size place))) ∷ []) (Sends (PieceNone m c place) ∷ []))
      go true same =
          let entry = subst (λ x. In (x, made.0) k.made) (sym (eqb-true copy.cut c same)) made.1 in
          record {
            run = (
              (
                made.0,
                made.1,
                piece_bytes size place,
                part_same copy.image (flat s made.0 m) place (piece_bytes size place) ((h.copies m copy is).flat_at made.0 entry),
              ),
              tt,
            );
            quiet = (tt, tt);
          }
      go false same = record { run = (tt, tt); quiet = (tt, tt) }

  pub list_allowed : (o : Option Copy) → IsAllowed s ms k (on_list m o)
  list_allowed None = record { run = tt; quiet = tt }
  list_allowed (Some copy) = go copy.held
    where
      go : (b : Bool) → IsAllowed s ms k (cond b (Sends (StillHeld m copy.cut) ∷ []) [])
      go true = record { run = (tt, tt); quiet = (tt, tt) }
      go false = record { run = tt; quiet = tt }

-- ---- parts of an image

pub part_append : (f : ℕ → ℕ) (a n k : ℕ) → part f a n ++ part f (a + n) k ≡ part f a (n + k)
unfolding part
part_append f a zero k = ap (λ x. part f x k) (add-zero a) ∙ ap (part f a) (sym (zero-add k))
part_append f a (suc n) k =
    ap (λ (xs : List ℕ). f a ∷ (part f (a + 1) n ++ xs)) (ap (λ x. part f x k) (let e : a + suc n ≡ (a + 1) + n = omega arith in e))
    ∙ ap (λ (xs : List ℕ). f a ∷ xs) (part_append f (a + 1) n k)
    ∙ ap (part f a) (let e : suc (n + k) ≡ suc n + k = omega arith in e)

pub length_part : (f : ℕ → ℕ) (a n : ℕ) → length (part f a n) ≡ n
unfolding part
length_part f a zero = refl
length_part f a (suc n) = ap suc (length_part f (a + 1) n)

images_append : (size : ℕ) (xs ys : List ℕ) (f : Memory) → images_in size (xs ++ ys) f ≡ images_in size xs f ++ images_in size ys f
images_append size [] ys f = refl
images_append size (x ∷ xs) ys f = ap (λ (is : List (List ℕ)). part (f x) 0 size ∷ is) (images_append size xs ys f)

-- ---- the manager

-- what it has of the first memory node that is left
abbrev pub FitsBytes : ℕ → Memory → List ℕ → List ℕ → Type 0
FitsBytes size f [] bytes = Unit {0}
FitsBytes size f (m ∷ left) bytes = (bytes ≡ part (f m) 0 (length bytes)) × (length bytes ≤ size)

-- at first it has nothing of it
no_bytes : (size : ℕ) (f : Memory) (left : List ℕ) → FitsBytes size f left []
unfolding part
no_bytes size f [] = tt
no_bytes size f (m ∷ left) = (refl, omega arith)

-- a backup that reads has its cut made, and the images of the memory nodes that it has read
pub record FitsReading (s : Setting) (size : ℕ) (ms : List ℕ) (k : Cuts) (c : ℕ) (left bytes : List ℕ) (images : List (List ℕ)) : Type 0 where
  pub points : List ℕ
  pub made : In (c, points) k.made
  pub read : List ℕ
  pub split : ms ≡ read ++ left
  pub images_are : images ≡ images_in size read (flat s points)
  pub bytes_are : FitsBytes size (flat s points) left bytes

abbrev pub FitsPhase : Setting → ℕ → List ℕ → Cuts → ℕ → Phase → Type 0
FitsPhase s size ms k c (Holding oks) = ((m : ℕ) → In m oks → In (HeldOk m c) k.sent) × (¬ IsMade k c)
FitsPhase s size ms k c (Reading left bytes images) = FitsReading s size ms k c left bytes images

pub record FitsBackup (s : Setting) (size : ℕ) (ms : List ℕ) (k : Cuts) (next : ℕ) (b : Backup) : Type 0 where
  pub below : b.cut < next
  pub phase : FitsPhase s size ms k b.cut b.phase

abbrev pub EndingStands : Setting → ℕ → List ℕ → Cuts → Ending → Type 0
EndingStands s size ms k (BackedUp c images) = (points : List ℕ) × In (c, points) k.made × (images ≡ images_in size ms (flat s points))
EndingStands s size ms k (Ended c) = Unit {0}

-- all cuts that were made are below the next one
abbrev pub AreBelow : Cuts → ℕ → Type 0
AreBelow k next = (c : ℕ) (points : List ℕ) → In (c, points) k.made → c < next

pub record FitsAct (s : Setting) (size : ℕ) (ms : List ℕ) (k : Cuts) (next : ℕ) (a : CutAct) : Type 0 where
  pub run : IsCutRun s ms k a.events
  pub world : (after_cuts s k a.events).world ≡ k.world
  pub grown : (x : ℕ × List ℕ) → In x k.made → In x (after_cuts s k a.events).made
  pub below : AreBelow (after_cuts s k a.events) next
  pub backup : (b : Backup) → a.backup ≡ Some b → FitsBackup s size ms (after_cuts s k a.events) next b
  pub ends : (e : Ending) → In e a.ends → EndingStands s size ms (after_cuts s k a.events) e

some_backup : (x y : Backup) → ◌≡◌ {A = Option Backup} (Some x) (Some y) → x ≡ y
some_backup x y e = cc

module _ (s : Setting) (size : ℕ) (ms : List ℕ) where
  -- reading goes on
  reads_on_fits : (k : Cuts) (next c : ℕ) (left bytes : List ℕ) (images : List (List ℕ)) → AreBelow k next → c < next → FitsReading s size ms k c left bytes images
      → FitsAct s size ms k next (reads_on c left bytes images)
  reads_on_fits k next c [] bytes images below low fits = record {
    run = (tt, tt);
    world = refl;
    grown = λ x h. h;
    below = below;
    backup = λ b e. absurd cc;
    ends = λ e h. elim h [
      | inl is ↦ subst (EndingStands s size ms (after_cuts s k (Sends (Drop c) ∷ []))) (sym is)
          (fits.points, fits.made, fits.images_are ∙ ap (λ (xs : List ℕ). images_in size xs (flat s fits.points)) (sym (fits.split ∙ append-nil fits.read)))
      | inr none ↦ absurd none
    ];
  }
  reads_on_fits k next c (m ∷ left) bytes images below low fits = record {
    run = ((fits.points, fits.made), tt);
    world = refl;
    grown = λ x h. h;
    below = below;
    backup = λ b e. subst (FitsBackup s size ms (after_cuts s k (Sends (Read m c (length bytes)) ∷ [])) next)
        (some_backup (record { cut = c; phase = Reading (m ∷ left) bytes images }) b e)
        (record {
          below = low;
          phase = record { points = fits.points; made = fits.made; read = fits.read; split = fits.split; images_are = fits.images_are; bytes_are = fits.bytes_are };
        });
    ends = λ e h. absurd h;
  }

  module _ (k : Cuts) (h : IsCutSound s ms k) (next : ℕ) (below : AreBelow k next) where
    -- without events a backup stays as it is
    keeps_fits : (o : Option Backup) → ((b : Backup) → o ≡ Some b → FitsBackup s size ms k next b) → FitsAct s size ms k next (keeps o)
    keeps_fits o fits = record { run = tt; world = refl; grown = λ x e. e; below = below; backup = fits; ends = λ e x. absurd x }

    fails_fits : (c : ℕ) → FitsAct s size ms k next (fails c)
    fails_fits c = record {
      run = (tt, tt);
      world = refl;
      grown = λ x e. e;
      below = below;
      backup = λ b e. absurd cc;
      ends = λ e x. elim x [ inl is ↦ subst (EndingStands s size ms (after_cuts s k (Sends (Drop c) ∷ []))) (sym is) tt | inr none ↦ absurd none ];
    }

    -- a backup fits when only messages were sent
    sent_fits : (message : CutMessage) (b : Backup) → FitsBackup s size ms k next b → FitsBackup s size ms (after_cut s k (Sends message)) next b
    sent_fits message b fits = record { below = fits.below; phase = phase b.phase fits.phase }
      where
        phase : (p : Phase) → FitsPhase s size ms k b.cut p → FitsPhase s size ms (after_cut s k (Sends message)) b.cut p
        phase (Holding oks) f = (λ m is. inr (f.0 m is), λ made. f.1 made)
        phase (Reading left bytes images) f =
            record { points = f.points; made = f.made; read = f.read; split = f.split; images_are = f.images_are; bytes_are = f.bytes_are }

    module _ (b : Backup) (fits : FitsBackup s size ms k next b) where
      same_fits : FitsAct s size ms k next (keeps (Some b))
      same_fits = keeps_fits (Some b) (λ x e. subst (FitsBackup s size ms k next) (some_backup b x e) fits)

      drops_fits : (c : ℕ) → FitsAct s size ms k next (record (keeps (Some b)) { events = Sends (Drop c) ∷ [] })
      drops_fits c = record {
        run = (tt, tt);
        world = refl;
        grown = λ x e. e;
        below = below;
        backup = λ x e. subst (FitsBackup s size ms (after_cut s k (Sends (Drop c))) next) (some_backup b x e) (sent_fits (Drop c) b fits);
        ends = λ e x. absurd x;
      }

      -- `held ok`
      held_fits : (m : ℕ) (p : Phase) → FitsPhase s size ms k b.cut p → In (HeldOk m b.cut) k.sent → FitsAct s size ms k next (hear_held ms m b.cut b p)
      held_fits m (Reading left bytes images) f sent = same_fits
      held_fits m (Holding oks) f sent = go (all_in ms (m ∷ oks)) refl
        where
          all : (n : ℕ) → In n (m ∷ oks) → In (HeldOk n b.cut) k.sent
          all n is = elim is [ inl e ↦ subst (λ x. In (HeldOk x b.cut) k.sent) (sym e) sent | inr before ↦ f.0 n before ]

          go : (x : Bool) → all_in ms (m ∷ oks) ≡ x → FitsAct s size ms k next (cond x
              (record (reads_on b.cut ms [] []) { events = Makes b.cut ∷ Sends (Release b.cut) ∷ (reads_on b.cut ms [] []).events })
              (keeps (Some (record b { phase = Holding (m ∷ oks) }))))
          go true is =
              let may : MayCut s ms k (Makes b.cut) = (λ n inside. all n (all_in-In ms (m ∷ oks) is n inside), f.1) in
              let j : Cuts = after_cut s (after_cut s k (Makes b.cut)) (Sends (Release b.cut)) in
              let here : In (b.cut, k.world.points) j.made = inl refl in
              let rest = reads_on_fits j next b.cut ms [] []
              (λ c points x. elim x [ inl e ↦ subst (λ y. y < next) (sym (ap (λ (z : ℕ × List ℕ). z.0) e)) fits.below | inr before ↦ below c points before ])
              fits.below
              (record { points = k.world.points; made = here; read = []; split = refl; images_are = refl; bytes_are = no_bytes size (flat s k.world.points) ms }) in
              record {
                run = (may, ((k.world.points, inl refl), rest.run));
                world = rest.world;
                grown = λ x e. rest.grown x (inr e);
                below = rest.below;
                backup = rest.backup;
                ends = rest.ends;
              }
          go false is = keeps_fits (Some (record b { phase = Holding (m ∷ oks) })) (λ x e. subst (FitsBackup s size ms k next)
              (some_backup (record b { phase = Holding (m ∷ oks) }) x e) (record { below = fits.below; phase = (all, f.1) }))

      -- `piece`
      piece_fits : (m place : ℕ) (piece : List ℕ) (p : Phase) → FitsPhase s size ms k b.cut p → CutPromises s k (Piece m b.cut place piece)
          → FitsAct s size ms k next (hear_piece size m b.cut place piece b p)
      piece_fits m place piece (Holding oks) f promise = same_fits
      piece_fits m place piece (Reading [] bytes images) f promise = same_fits
      piece_fits m place piece (Reading (n ∷ left) bytes images) f promise = go ((m == n) && ((place == length bytes) && (length piece == piece_bytes size place))) refl
        where
          -- what it has with the piece
          longer : (m ≡ n) → (place ≡ length bytes) → bytes ++ piece ≡ part (flat s f.points n) 0 (length (bytes ++ piece))
          longer same at =
              let points_are : promise.0 ≡ f.points = h.once b.cut promise.0 f.points promise.1 f.made in
              let piece_is : piece ≡ part (flat s f.points n) (length bytes) promise.2 =
              promise.3 ∙ ap (λ (ps : List ℕ). part (flat s ps m) place promise.2) points_are
              ∙ ap (λ (x : ℕ). part (flat s f.points x) place promise.2) same ∙ ap (λ (x : ℕ). part (flat s f.points n) x promise.2) at in
              let long : length piece ≡ promise.2 = ap (length {A = ℕ}) piece_is ∙ length_part (flat s f.points n) (length bytes) promise.2 in
              ap (λ (xs : List ℕ). xs ++ piece) f.bytes_are.0
              ∙ ap (λ (xs : List ℕ). part (flat s f.points n) 0 (length bytes) ++ xs) piece_is
              ∙ ap (λ (x : ℕ). part (flat s f.points n) 0 (length bytes) ++ part (flat s f.points n) x promise.2) (sym (zero-add (length bytes)))
              ∙ part_append (flat s f.points n) 0 (length bytes) promise.2
              ∙ ap (part (flat s f.points n) 0) (sym (length-append bytes piece ∙ ap (λ (x : ℕ). length bytes + x) long))

          within : (place ≡ length bytes) → (length piece ≡ piece_bytes size place) → length (bytes ++ piece) ≤ size
          within at long =
              let sum : length (bytes ++ piece) ≡ length bytes + length piece = length-append bytes piece in
              let low : length bytes ≤ size = f.bytes_are.1 in
              omega (arith, sum, low, at, long)

          whole : (m ≡ n) → (place ≡ length bytes) → (length piece ≡ piece_bytes size place) → (x : Bool) → nat_lt (length (bytes ++ piece)) size ≡ x
              → FitsAct s size ms k next (cond x (reads_on b.cut (n ∷ left) (bytes ++ piece) images) (reads_on b.cut left [] (images ++ (bytes ++ piece) ∷ [])))
          whole same at long true is = reads_on_fits k next b.cut (n ∷ left) (bytes ++ piece) images below fits.below
              (record { points = f.points; made = f.made; read = f.read; split = f.split; images_are = f.images_are; bytes_are = (longer same at, within at long) })
          whole same at long false is =
              let full : length (bytes ++ piece) ≡ size = omega (arith, within at long, ltb-false (length (bytes ++ piece)) size is) in
              reads_on_fits k next b.cut left [] (images ++ (bytes ++ piece) ∷ []) below fits.below (record {
                points = f.points;
                made = f.made;
                read = f.read ++ n ∷ [];
                split = f.split ∙ sym (append_assoc f.read (n ∷ []) left);
                images_are = ap (λ (xs : List (List ℕ)). xs ++ (bytes ++ piece) ∷ []) f.images_are
                    ∙ ap (λ (xs : List ℕ). images_in size f.read (flat s f.points) ++ xs ∷ []) (longer same at ∙ ap (part (flat s f.points n) 0) full)
                    ∙ sym (images_append size f.read (n ∷ []) (flat s f.points));
                bytes_are = no_bytes size (flat s f.points) left;
              })

          go : (x : Bool) → ((m == n) && ((place == length bytes) && (length piece == piece_bytes size place))) ≡ x
              → FitsAct s size ms k next (cond x
              (cond (nat_lt (length (bytes ++ piece)) size) (reads_on b.cut (n ∷ left) (bytes ++ piece) images) (reads_on b.cut left [] (images ++ (bytes ++ piece) ∷ [])))
              (keeps (Some b)))
          go true is =
              let both = and_parts (m == n) ((place == length bytes) && (length piece == piece_bytes size place)) is in
              let more = and_parts (place == length bytes) (length piece == piece_bytes size place) both.1 in
              whole (eqb-true m n both.0) (eqb-true place (length bytes) more.0) (eqb-true (length piece) (piece_bytes size place) more.1) (nat_lt (length (bytes ++ piece)) size) refl
          go false is = same_fits

      -- where a message is of the running cut
      of_cut : (c : ℕ) (P : ℕ → CutAct) → (b.cut ≡ c → FitsAct s size ms k next (P c)) → FitsAct s size ms k next (cond (b.cut == c) (P c) (keeps (Some b)))
      of_cut c P fine = go (b.cut == c) refl
        where
          go : (x : Bool) → (b.cut == c) ≡ x → FitsAct s size ms k next (cond x (P c) (keeps (Some b)))
          go true is = fine (eqb-true b.cut c is)
          go false is = same_fits

      hear_cut_fits : (message : CutMessage) → In message k.sent → FitsAct s size ms k next (running_hears size ms b message)
      hear_cut_fits (HeldOk m c) sent = of_cut c (λ x. hear_held ms m x b b.phase) (λ same.
          subst (λ x. FitsAct s size ms k next (hear_held ms m x b b.phase)) same
          (held_fits m b.phase fits.phase (subst (λ x. In (HeldOk m x) k.sent) (sym same) sent)))
      hear_cut_fits (HeldLocked m c) sent = of_cut c fails (λ same. fails_fits c)
      hear_cut_fits (HeldPast m c) sent = of_cut c fails (λ same. fails_fits c)
      hear_cut_fits (PieceNone m c place) sent = of_cut c fails (λ same. fails_fits c)
      hear_cut_fits (Piece m c place piece) sent = of_cut c (λ x. hear_piece size m x place piece b b.phase) (λ same.
          subst (λ x. FitsAct s size ms k next (hear_piece size m x place piece b b.phase)) same
          (piece_fits m place piece b.phase fits.phase (subst (λ x. CutPromises s k (Piece m x place piece)) (sym same) (h.promises (Piece m c place piece) sent))))
      hear_cut_fits (StillHeld m c) sent = go (b.cut == c)
        where
          go : (x : Bool) → FitsAct s size ms k next (cond x (keeps (Some b)) (record (keeps (Some b)) { events = Sends (Drop c) ∷ [] }))
          go true = same_fits
          go false = drops_fits c
      hear_cut_fits (Hold c) sent = same_fits
      hear_cut_fits (Release c) sent = same_fits
      hear_cut_fits (Drop c) sent = same_fits
      hear_cut_fits (Read m c place) sent = same_fits

      again_fits : FitsAct s size ms k next (resends (Some b))
      again_fits = go b.phase fits.phase refl
        where
          one : (message : CutMessage) → CutPromises s k message → FitsAct s size ms k next (record (keeps (Some b)) { events = Sends message ∷ [] })
          one message promise = record {
            run = (promise, tt);
            world = refl;
            grown = λ x e. e;
            below = below;
            backup = λ x e. subst (FitsBackup s size ms (after_cut s k (Sends message)) next) (some_backup b x e) (sent_fits message b fits);
            ends = λ e x. absurd x;
          }

          go : (p : Phase) → FitsPhase s size ms k b.cut p → b.phase ≡ p → FitsAct s size ms k next (record (keeps (Some b)) { events = posts_again b.cut p })
          go (Holding oks) f is = one (Hold b.cut) tt
          go (Reading [] bytes images) f is = one (Release b.cut) (f.points, f.made)
          go (Reading (m ∷ left) bytes images) f is = record {
            run = ((f.points, f.made), ((f.points, f.made), tt));
            world = refl;
            grown = λ x e. e;
            below = below;
            backup = λ x e. subst (FitsBackup s size ms (after_cuts s k (Sends (Release b.cut) ∷ Sends (Read m b.cut (length bytes)) ∷ [])) next) (some_backup b x e)
                (record {
                  below = fits.below;
                  phase = subst (FitsPhase s size ms (after_cuts s k (Sends (Release b.cut) ∷ Sends (Read m b.cut (length bytes)) ∷ [])) b.cut) (sym is)
                      (record { points = f.points; made = f.made; read = f.read; split = f.split; images_are = f.images_are; bytes_are = f.bytes_are });
                });
            ends = λ e x. absurd x;
          }

    none_fits : FitsAct s size ms k next (keeps None)
    none_fits = keeps_fits None (λ b e. absurd cc)

    pub hears_fits : (o : Option Backup) → ((b : Backup) → o ≡ Some b → FitsBackup s size ms k next b) → (message : CutMessage) → In message k.sent
        → FitsAct s size ms k next (hears size ms o message)
    hears_fits (Some b) fits message sent = hear_cut_fits b (fits b refl) message sent
    hears_fits None fits (StillHeld m c) sent =
        record { run = (tt, tt); world = refl; grown = λ x e. e; below = below; backup = λ b e. absurd cc; ends = λ e x. absurd x }
    hears_fits None fits (Hold c) sent = none_fits
    hears_fits None fits (HeldOk m c) sent = none_fits
    hears_fits None fits (HeldLocked m c) sent = none_fits
    hears_fits None fits (HeldPast m c) sent = none_fits
    hears_fits None fits (Release c) sent = none_fits
    hears_fits None fits (Drop c) sent = none_fits
    hears_fits None fits (Read m c place) sent = none_fits
    hears_fits None fits (Piece m c place piece) sent = none_fits
    hears_fits None fits (PieceNone m c place) sent = none_fits

    pub gives_up_fits : (o : Option Backup) → FitsAct s size ms k next (gives_up o)
    gives_up_fits None = none_fits
    gives_up_fits (Some b) = fails_fits b.cut

    pub resends_fits : (o : Option Backup) → ((b : Backup) → o ≡ Some b → FitsBackup s size ms k next b) → FitsAct s size ms k next (resends o)
    resends_fits None fits = none_fits
    resends_fits (Some b) fits = again_fits b (fits b refl)

    pub boots_fits : FitsAct s size ms k next (keeps None)
    boots_fits = none_fits

    pub stays_fits : (o : Option Backup) → ((b : Backup) → o ≡ Some b → FitsBackup s size ms k next b) → FitsAct s size ms k next (keeps o)
    stays_fits = keeps_fits
