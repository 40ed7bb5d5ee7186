-- Every state that the whole reaches is reached by a run with cuts.
use Rattle.std.proofs.Common.{◌≡◌, ℕ, ◌+◌, ◌≤◌, nat_le, ◌==◌, Bool, true, false, cond, List, [], ◌∷◌, ◌++◌, map, length, Option, Some, None, ◌⊎◌, inl, inr, refl, sym, ap, ◌∙◌, subst, arith}
use Rattle.std.proofs.lemmas.Bool.{leb-true}
use Rattle.tx_rules.specs.Mini.{In, Memory, Setting}
use Rattle.tx_rules.specs.Decision.{Entry}
use Rattle.tx_rules.specs.World.{World, after_all}
use Rattle.tx_rules.specs.Opening.{IsOpening}
use Rattle.tx_rules.specs.Lists.{is_in}
use Rattle.tx_actors.specs.Machine.{Input, Begin, ToNode, ToStoppingNode, ToCoordinator, ToManager, GiveUp, Resend, BootCoordinator, BootNode, Sweep, ResendManager, BootManager, move, step, IsAboveKnown}
use Rattle.tx_actors.specs.Laws.{IsFitting}
use Rattle.tx_actors.proofs.TestLemmas.{is_in-In}
use Rattle.tx_actors.proofs.FitLemmas.{begun_all}
use Rattle.tx_actors.proofs.MachineLemmas.{IsFit, move_well, opening_fit}
use Rattle.tx_cuts.specs.Cut.{CutMessage, Hold, HeldOk, HeldLocked, HeldPast, Release, Drop, Read, Piece, PieceNone, StillHeld, Cuts, CutEvent, Does, Holds, Raises, Releases, Loses, Makes, Sends, after_cut, IsCutRun, after_cuts}
use Rattle.tx_cuts.specs.Holds.{on_read, on_list}
use Rattle.tx_cuts.specs.Backup.{Phase, Holding, Reading, Backup, Ending, BackedUp, Ended, CutAct, keeps, gives_up, resends}
use Rattle.tx_cuts.specs.Whole.{Whole, state_of, numbered_cut, WholeInput, Acts, CutToNode, CutToStoppingNode, Lists, CutToManager, BeginBackup, GiveUpBackup, ResendBackup, BootBackup, knowing, lost_in, handle_cut, handle_cut_stopping, manager_hears, with_events, with_act, with_move, begins_backup, whole_step, whole_steps, opened_whole}
use Rattle.tx_cuts.specs.Laws.{WholesAreCutRuns, BackupsAreFlat}
use Rattle.tx_cuts.proofs.HeldLemmas.{does_run, does_world, move_clear}
use Rattle.tx_cuts.proofs.CutLemmas.{IsCutSound, cut_sound_all, cut_sound_opening}
use Rattle.tx_cuts.proofs.BackupLemmas.{quiet_all, IsAllowed, hold_allowed, hold_stopping_allowed, release_allowed, drop_allowed, read_allowed, list_allowed, FitsPhase, FitsBackup, EndingStands, AreBelow, FitsAct, hears_fits, gives_up_fits, resends_fits, boots_fits, stays_fits}

-- ---- runs

cut_run_append : (s : Setting) (ms : List ℕ) (k : Cuts) (xs ys : List CutEvent) → IsCutRun s ms k xs → IsCutRun s ms (after_cuts s k xs) ys → IsCutRun s ms k (xs ++ ys)
cut_run_append s ms k [] ys first second = second
cut_run_append s ms k (x ∷ xs) ys first second = (first.0, cut_run_append s ms (after_cut s k x) xs ys first.1 second)

pub after_cuts_append : (s : Setting) (k : Cuts) (xs ys : List CutEvent) → after_cuts s k (xs ++ ys) ≡ after_cuts s (after_cuts s k xs) ys
after_cuts_append s k [] ys = refl
after_cuts_append s k (x ∷ xs) ys = after_cuts_append s (after_cut s k x) xs ys

-- ---- the invariant

pub record IsWhole (s : Setting) (size : ℕ) (ms : List ℕ) (x : Whole) : Type 0 where
  pub cuts : IsCutSound s ms x.cuts
  pub fit : IsFit s (state_of x)
  pub below : AreBelow x.cuts x.next_cut
  pub backup : (b : Backup) → x.backup ≡ Some b → FitsBackup s size ms x.cuts x.next_cut b
  pub endings : (e : Ending) → In e x.endings → EndingStands s size ms x.cuts e

pub record StepsWell (s : Setting) (size : ℕ) (ms : List ℕ) (x y : Whole) : Type 0 where
  pub events : List CutEvent
  pub run : IsCutRun s ms x.cuts events
  pub cuts : y.cuts ≡ after_cuts s x.cuts events
  pub whole : IsWhole s size ms y

-- an ending stands where more cuts are made
ending_later : (s : Setting) (size : ℕ) (ms : List ℕ) (k j : Cuts) → ((x : ℕ × List ℕ) → In x k.made → In x j.made) → (e : Ending) → EndingStands s size ms k e → EndingStands s size ms j e
ending_later s size ms k j grown (BackedUp c images) h = (h.0, grown (c, h.0) h.1, h.2)
ending_later s size ms k j grown (Ended c) h = tt

-- a backup fits where the same cuts are made and more is sent
backup_later : (s : Setting) (size : ℕ) (ms : List ℕ) (k j : Cuts) (next : ℕ) (b : Backup) → j.made ≡ k.made → ((p : CutMessage) → In p k.sent → In p j.sent)
    → FitsBackup s size ms k next b → FitsBackup s size ms j next b
backup_later s size ms k j next b made sent fits = record { below = fits.below; phase = phase b.phase fits.phase }
  where
    phase : (p : Phase) → FitsPhase s size ms k b.cut p → FitsPhase s size ms j b.cut p
    phase (Holding oks) f = (λ m is. sent (HeldOk m b.cut) (f.0 m is), λ is. f.1 (is.0, subst (In (b.cut, is.0)) made is.1))
    phase (Reading left bytes images) f = record {
      points = f.points;
      made = subst (In (b.cut, f.points)) (sym made) f.made;
      read = f.read;
      split = f.split;
      images_are = f.images_are;
      bytes_are = f.bytes_are;
    }

numbered_cut-In : (sent : List CutMessage) (n : ℕ) (p : CutMessage) → numbered_cut sent n ≡ Some p → In p sent
numbered_cut-In [] n p h = absurd cc
numbered_cut-In (q ∷ sent) n p h = go (length sent == n) (numbered_cut-In sent n p) h
  where
    one : ◌≡◌ {A = Option CutMessage} (Some q) (Some p) → q ≡ p
    one e = cc

    go : (b : Bool) → (numbered_cut sent n ≡ Some p → In p sent) → cond b (Some q) (numbered_cut sent n) ≡ Some p → (p ≡ q) ⊎ In p sent
    go true rest e = inl (sym (one e))
    go false rest e = inr (rest e)

module _ (s : Setting) (size : ℕ) (ms : List ℕ) (x : Whole) (h : IsWhole s size ms x) where
  fit_at : (v : World) → v ≡ x.cuts.world → IsFit s (record (state_of x) { world = v })
  fit_at v same = subst (λ u. IsFit s (record (state_of x) { world = u })) (sym same) h.fit

  -- nothing
  nothing_well : StepsWell s size ms x x
  nothing_well = record { events = []; run = tt; cuts = refl; whole = h }

  -- a memory node handles a message about a cut
  events_well : (events : List CutEvent) → IsAllowed s ms x.cuts events → StepsWell s size ms x (with_events s x events)
  events_well events allowed =
      let q = quiet_all s x.cuts events allowed.quiet in
      record {
        events = events;
        run = allowed.run;
        cuts = refl;
        whole = record {
          cuts = cut_sound_all s ms x.cuts events allowed.run h.cuts;
          fit = fit_at (after_cuts s x.cuts events).world q.world;
          below = λ c points is. h.below c points (subst (In (c, points)) q.made is);
          backup = λ b e. backup_later s size ms x.cuts (after_cuts s x.cuts events) x.next_cut b q.made q.sent (h.backup b e);
          endings = λ e is. ending_later s size ms x.cuts (after_cuts s x.cuts events) (λ y k. subst (In y) (sym q.made) k) e (h.endings e is);
        };
      }

  quiet_nothing : IsAllowed s ms x.cuts []
  quiet_nothing = record { run = tt; quiet = tt }

  quiet_loss : (m : ℕ) → IsAllowed s ms x.cuts (Loses m ∷ [])
  quiet_loss m = record { run = (tt, tt); quiet = (tt, tt) }

  handled : (m : ℕ) → In m ms → (o : Option CutMessage) → ((p : CutMessage) → o ≡ Some p → In p x.cuts.sent) → IsAllowed s ms x.cuts (handle_cut size x.cuts m o)
  handled m inside None all = quiet_nothing
  handled m inside (Some (Hold c)) all = hold_allowed s ms x.cuts h.cuts m c inside
  handled m inside (Some (Release c)) all = release_allowed s ms x.cuts h.cuts m c (x.cuts.copies m) refl (h.cuts.promises (Release c) (all (Release c) refl))
  handled m inside (Some (Drop c)) all = drop_allowed s ms x.cuts h.cuts m c (x.cuts.copies m)
  handled m inside (Some (Read n c place)) all = go (n == m)
    where
      go : (b : Bool) → IsAllowed s ms x.cuts (cond b (on_read size m c place (x.cuts.copies m)) [])
      go true = read_allowed s ms x.cuts h.cuts m size c place (x.cuts.copies m) refl (h.cuts.promises (Read n c place) (all (Read n c place) refl))
      go false = quiet_nothing
  handled m inside (Some (HeldOk n c)) all = quiet_nothing
  handled m inside (Some (HeldLocked n c)) all = quiet_nothing
  handled m inside (Some (HeldPast n c)) all = quiet_nothing
  handled m inside (Some (Piece n c place piece)) all = quiet_nothing
  handled m inside (Some (PieceNone n c place)) all = quiet_nothing
  handled m inside (Some (StillHeld n c)) all = quiet_nothing

  handled_stopping : (m : ℕ) (o : Option CutMessage) → IsAllowed s ms x.cuts (handle_cut_stopping x.cuts m o)
  handled_stopping m None = quiet_loss m
  handled_stopping m (Some (Hold c)) = hold_stopping_allowed s ms x.cuts h.cuts m c
  handled_stopping m (Some (Release c)) = quiet_loss m
  handled_stopping m (Some (Drop c)) = quiet_loss m
  handled_stopping m (Some (Read n c place)) = quiet_loss m
  handled_stopping m (Some (HeldOk n c)) = quiet_loss m
  handled_stopping m (Some (HeldLocked n c)) = quiet_loss m
  handled_stopping m (Some (HeldPast n c)) = quiet_loss m
  handled_stopping m (Some (Piece n c place piece)) = quiet_loss m
  handled_stopping m (Some (PieceNone n c place)) = quiet_loss m
  handled_stopping m (Some (StillHeld n c)) = quiet_loss m

  -- the manager
  act_well : (a : CutAct) → FitsAct s size ms x.cuts x.next_cut a → StepsWell s size ms x (with_act s x a)
  act_well a fits = record {
    events = a.events;
    run = fits.run;
    cuts = refl;
    whole = record {
      cuts = cut_sound_all s ms x.cuts a.events fits.run h.cuts;
      fit = fit_at (after_cuts s x.cuts a.events).world fits.world;
      below = fits.below;
      backup = fits.backup;
      endings = λ e is. ended e a.ends fits.ends is;
    };
  }
    where
      ended : (e : Ending) (new : List Ending) → ((q : Ending) → In q new → EndingStands s size ms (after_cuts s x.cuts a.events) q) → In e (new ++ x.endings)
          → EndingStands s size ms (after_cuts s x.cuts a.events) e
      ended e [] all is = ending_later s size ms x.cuts (after_cuts s x.cuts a.events) fits.grown e (h.endings e is)
      ended e (q ∷ new) all is = elim is [
        | inl same ↦ subst (EndingStands s size ms (after_cuts s x.cuts a.events)) (sym same) (all q (inl refl))
        | inr rest ↦ ended e new (λ r k. all r (inr k)) rest
      ]

  hears_well : (o : Option CutMessage) → ((p : CutMessage) → o ≡ Some p → In p x.cuts.sent) → FitsAct s size ms x.cuts x.next_cut (manager_hears size ms x.backup o)
  hears_well None all = stays_fits s size ms x.cuts h.cuts x.next_cut h.below x.backup h.backup
  hears_well (Some p) all = hears_fits s size ms x.cuts h.cuts x.next_cut h.below x.backup h.backup p (all p refl)

  some_is_backup : (a b : Backup) → ◌≡◌ {A = Option Backup} (Some a) (Some b) → a ≡ b
  some_is_backup a b e = cc

  begin_well : (c : ℕ) (o : Option Backup) → StepsWell s size ms x (begins_backup s x c o)
  begin_well c (Some b) = nothing_well
  begin_well c None = go (nat_le x.next_cut c) refl
    where
      started : Whole
      started = record x { cuts = after_cuts s x.cuts (Sends (Hold c) ∷ []); next_cut = c + 1; backup = Some (record { cut = c; phase = Holding [] }) }

      go : (b : Bool) → nat_le x.next_cut c ≡ b → StepsWell s size ms x (cond b
          (record x { cuts = after_cuts s x.cuts (Sends (Hold c) ∷ []); next_cut = c + 1; backup = Some (record { cut = c; phase = Holding [] }) }) x)
      go false is = nothing_well
      go true is =
          let low : x.next_cut ≤ c = leb-true x.next_cut c is in
          let j : Cuts = after_cut s x.cuts (Sends (Hold c)) in
          record {
            events = Sends (Hold c) ∷ [];
            run = (tt, tt);
            cuts = refl;
            whole = record {
              cuts = cut_sound_all s ms x.cuts (Sends (Hold c) ∷ []) (tt, tt) h.cuts;
              fit = h.fit;
              below = λ d points made. (let small = h.below d points made in omega (arith, small, low));
              backup = λ b e. subst (FitsBackup s size ms j (c + 1)) (some_is_backup (record { cut = c; phase = Holding [] }) b e)
                  (record { below = omega arith; phase = (λ m none. absurd none, λ made. let small = h.below c made.0 made.1 in omega (arith, small, low)) });
              endings = λ e is. ending_later s size ms x.cuts j (λ y k. k) e (h.endings e is);
            };
          }

  -- the transactions go on
  acts_well : (input : Input) → IsFitting s (step s (state_of x) (knowing x.cuts input)).world
      → StepsWell s size ms x (with_move s x (move s (state_of x) (knowing x.cuts input)) (lost_in input))
  acts_well input fitting =
      let m = move s (state_of x) (knowing x.cuts input) in
      let well = move_well s (state_of x) h.fit (knowing x.cuts input) fitting in
      let first : IsCutRun s ms x.cuts (map Does m.events) = does_run s ms x.cuts m.events well.0 (move_clear s x h.fit input) in
      let k = after_cuts s x.cuts (map Does m.events) in
      let is : k ≡ record x.cuts { world = after_all s x.cuts.world m.events } = does_world s x.cuts m.events in
      let lost = lose k input in
      let q = quiet_all s k (lost_in input) lost.quiet in
      let run = cut_run_append s ms x.cuts (map Does m.events) (lost_in input) first lost.run in
      let j = after_cuts s x.cuts (map Does m.events ++ lost_in input) in
      let there : j ≡ after_cuts s k (lost_in input) = after_cuts_append s x.cuts (map Does m.events) (lost_in input) in
      let world : j.world ≡ after_all s x.cuts.world m.events = ap (λ (y : Cuts). y.world) there ∙ q.world ∙ ap (λ (y : Cuts). y.world) is in
      let made : j.made ≡ x.cuts.made = ap (λ (y : Cuts). y.made) there ∙ q.made ∙ ap (λ (y : Cuts). y.made) is in
      let sent : (p : CutMessage) → In p x.cuts.sent → In p j.sent = (λ p e.
      subst (λ (y : Cuts). In p y.sent) (sym there) (q.sent p (subst (λ (y : Cuts). In p y.sent) (sym is) e))) in
      record {
        events = map Does m.events ++ lost_in input;
        run = run;
        cuts = refl;
        whole = record {
          cuts = cut_sound_all s ms x.cuts (map Does m.events ++ lost_in input) run h.cuts;
          fit = subst (λ (w : World). IsFit s (record { world = w; coordinator = m.coordinator; manager = m.manager; outcomes = m.outcomes })) (sym world) well.1;
          below = λ c points e. h.below c points (subst (In (c, points)) made e);
          backup = λ b e. backup_later s size ms x.cuts j x.next_cut b made sent (h.backup b e);
          endings = λ e k. ending_later s size ms x.cuts j (λ y z. subst (In y) (sym made) z) e (h.endings e k);
        };
      }
    where
      lose : (k : Cuts) (i : Input) → IsAllowed s ms k (lost_in i)
      lose k (ToStoppingNode n m held) = record { run = (tt, tt); quiet = (tt, tt) }
      lose k (BootNode m) = record { run = (tt, tt); quiet = (tt, tt) }
      lose k (ToNode n m held) = record { run = tt; quiet = tt }
      lose k (Begin t) = record { run = tt; quiet = tt }
      lose k (ToCoordinator n) = record { run = tt; quiet = tt }
      lose k (ToManager n) = record { run = tt; quiet = tt }
      lose k (GiveUp c) = record { run = tt; quiet = tt }
      lose k (Resend c) = record { run = tt; quiet = tt }
      lose k (BootCoordinator c) = record { run = tt; quiet = tt }
      lose k Sweep = record { run = tt; quiet = tt }
      lose k ResendManager = record { run = tt; quiet = tt }
      lose k BootManager = record { run = tt; quiet = tt }

-- ---- any input

-- what was begun stays begun
begun_cuts : (s : Setting) (k : Cuts) (events : List CutEvent) (t : ℕ) → In t k.world.begun → In t (after_cuts s k events).world.begun
begun_cuts s k [] t h = h
begun_cuts s k (Does e ∷ events) t h = begun_cuts s (after_cut s k (Does e)) events t (begun_all s k.world (e ∷ []) t h)
begun_cuts s k (Holds m c ∷ events) t h = begun_cuts s (after_cut s k (Holds m c)) events t h
begun_cuts s k (Raises m c ∷ events) t h = begun_cuts s (after_cut s k (Raises m c)) events t h
begun_cuts s k (Releases m copy ∷ events) t h = begun_cuts s (after_cut s k (Releases m copy)) events t h
begun_cuts s k (Loses m ∷ events) t h = begun_cuts s (after_cut s k (Loses m)) events t h
begun_cuts s k (Makes c ∷ events) t h = begun_cuts s (after_cut s k (Makes c)) events t h
begun_cuts s k (Sends p ∷ events) t h = begun_cuts s (after_cut s k (Sends p)) events t h

module _ (s : Setting) (size : ℕ) (ms : List ℕ) where
  begun_step : (x : Whole) (input : WholeInput) (t : ℕ) → In t x.cuts.world.begun → In t (whole_step s size ms x input).cuts.world.begun
  begun_step x (Acts input) t h = begun_cuts s x.cuts (map Does (move s (state_of x) (knowing x.cuts input)).events ++ lost_in input) t h
  begun_step x (CutToNode n m) t h = go (is_in m ms)
    where
      go : (b : Bool) → In t (cond b (with_events s x (handle_cut size x.cuts m (numbered_cut x.cuts.sent n))) x).cuts.world.begun
      go true = begun_cuts s x.cuts (handle_cut size x.cuts m (numbered_cut x.cuts.sent n)) t h
      go false = h
  begun_step x (CutToStoppingNode n m) t h = begun_cuts s x.cuts (handle_cut_stopping x.cuts m (numbered_cut x.cuts.sent n)) t h
  begun_step x (Lists m) t h = begun_cuts s x.cuts (on_list m (x.cuts.copies m)) t h
  begun_step x (CutToManager n) t h = begun_cuts s x.cuts (manager_hears size ms x.backup (numbered_cut x.cuts.sent n)).events t h
  begun_step x (BeginBackup c) t h = go x.backup
    where
      begun : (b : Bool) → In t (cond b
          (record x { cuts = after_cuts s x.cuts (Sends (Hold c) ∷ []); next_cut = c + 1; backup = Some (record { cut = c; phase = Holding [] }) }) x).cuts.world.begun
      begun true = h
      begun false = h

      go : (o : Option Backup) → In t (begins_backup s x c o).cuts.world.begun
      go (Some b) = h
      go None = begun (nat_le x.next_cut c)
  begun_step x GiveUpBackup t h = begun_cuts s x.cuts (gives_up x.backup).events t h
  begun_step x ResendBackup t h = begun_cuts s x.cuts (resends x.backup).events t h
  begun_step x BootBackup t h = h

  begun_steps : (x : Whole) (inputs : List WholeInput) (t : ℕ) → In t x.cuts.world.begun → In t (whole_steps s size ms x inputs).cuts.world.begun
  begun_steps x [] t h = h
  begun_steps x (input ∷ inputs) t h = begun_steps (whole_step s size ms x input) inputs t (begun_step x input t h)

  -- what the transactions begin in a step is begun after it
  begun_move : (x : Whole) (input : Input) (t : ℕ) → In t (step s (state_of x) (knowing x.cuts input)).world.begun
      → In t (whole_step s size ms x (Acts input)).cuts.world.begun
  begun_move x input t h =
      let events = (move s (state_of x) (knowing x.cuts input)).events in
      subst (λ (k : Cuts). In t k.world.begun) (sym (after_cuts_append s x.cuts (map Does events) (lost_in input)))
      (begun_cuts s (after_cuts s x.cuts (map Does events)) (lost_in input) t
      (subst (λ (k : Cuts). In t k.world.begun) (sym (does_world s x.cuts events)) h))

  whole_well : (x : Whole) → IsWhole s size ms x → (input : WholeInput) → IsFitting s (whole_step s size ms x input).cuts.world
      → StepsWell s size ms x (whole_step s size ms x input)
  whole_well x h (Acts input) fitting = acts_well s size ms x h input (λ t is live. fitting t (begun_move x input t is) live)
  whole_well x h (CutToNode n m) fitting = go (is_in m ms) refl
    where
      go : (b : Bool) → is_in m ms ≡ b → StepsWell s size ms x (cond b (with_events s x (handle_cut size x.cuts m (numbered_cut x.cuts.sent n))) x)
      go true is = events_well s size ms x h (handle_cut size x.cuts m (numbered_cut x.cuts.sent n))
          (handled s size ms x h m (is_in-In m ms is) (numbered_cut x.cuts.sent n) (λ p e. numbered_cut-In x.cuts.sent n p e))
      go false is = nothing_well s size ms x h
  whole_well x h (CutToStoppingNode n m) fitting =
      events_well s size ms x h (handle_cut_stopping x.cuts m (numbered_cut x.cuts.sent n)) (handled_stopping s size ms x h m (numbered_cut x.cuts.sent n))
  whole_well x h (Lists m) fitting = events_well s size ms x h (on_list m (x.cuts.copies m)) (list_allowed s ms x.cuts h.cuts m (x.cuts.copies m))
  whole_well x h (CutToManager n) fitting =
      act_well s size ms x h (manager_hears size ms x.backup (numbered_cut x.cuts.sent n))
      (hears_well s size ms x h (numbered_cut x.cuts.sent n) (λ p e. numbered_cut-In x.cuts.sent n p e))
  whole_well x h (BeginBackup c) fitting = begin_well s size ms x h c x.backup
  whole_well x h GiveUpBackup fitting = act_well s size ms x h (gives_up x.backup) (gives_up_fits s size ms x.cuts h.cuts x.next_cut h.below x.backup)
  whole_well x h ResendBackup fitting = act_well s size ms x h (resends x.backup) (resends_fits s size ms x.cuts h.cuts x.next_cut h.below x.backup h.backup)
  whole_well x h BootBackup fitting = act_well s size ms x h (keeps None) (boots_fits s size ms x.cuts h.cuts x.next_cut h.below)

  whole_reach : (x : Whole) (inputs : List WholeInput) → IsWhole s size ms x → IsFitting s (whole_steps s size ms x inputs).cuts.world
      → StepsWell s size ms x (whole_steps s size ms x inputs)
  whole_reach x [] h fitting = nothing_well s size ms x h
  whole_reach x (input ∷ inputs) h fitting =
      let y = whole_step s size ms x input in
      let first = whole_well x h input (λ t is live. fitting t (begun_steps y inputs t is) live) in
      let rest = whole_reach y inputs first.whole fitting in
      record {
        events = first.events ++ rest.events;
        run = cut_run_append s ms x.cuts first.events rest.events first.run (subst (λ (k : Cuts). IsCutRun s ms k rest.events) first.cuts rest.run);
        cuts = rest.cuts ∙ ap (λ (k : Cuts). after_cuts s k rest.events) first.cuts ∙ sym (after_cuts_append s x.cuts first.events rest.events);
        whole = rest.whole;
      }

  opening_whole : (log : List Entry) (image : Memory) (floors : List (ℕ × ℕ)) (next : ℕ → ℕ) (next_cut : ℕ) → IsOpening s log image → IsAboveKnown s next
      → IsWhole s size ms (opened_whole s log image floors next next_cut)
  opening_whole log image floors next next_cut o above = record {
    cuts = cut_sound_opening s ms log image floors o;
    fit = opening_fit s log image next o above;
    below = λ c points is. absurd is;
    backup = λ b e. absurd cc;
    endings = λ e is. absurd is;
  }

pub wholes_are_cut_runs : WholesAreCutRuns
wholes_are_cut_runs s size ms log image floors next next_cut o above inputs fitting =
    let w = whole_reach s size ms (opened_whole s log image floors next next_cut) inputs (opening_whole s size ms log image floors next next_cut o above) fitting in
    (w.events, w.run, w.cuts)

pub backups_are_flat : BackupsAreFlat
backups_are_flat s size ms log image floors next next_cut o above inputs fitting c images is =
    let w = whole_reach s size ms (opened_whole s log image floors next next_cut) inputs (opening_whole s size ms log image floors next next_cut o above) fitting in
    w.whole.endings (BackedUp c images) is
