-- Without its cuts the whole is a state of the transactions.
use Rattle.std.proofs.Common.{◌≡◌, ℕ, ◌+◌, nat_le, nat_lt, ◌==◌, Bool, true, false, cond, ◌&&◌, List, [], ◌∷◌, ◌++◌, map, length, Option, Some, None, refl, ap, ◌∙◌}
use Rattle.tx_rules.specs.Mini.{Setting}
use Rattle.tx_rules.specs.World.{World, after_all}
use Rattle.tx_rules.specs.Lists.{is_in, all_in}
use Rattle.tx_actors.specs.Node.{own, granted_in}
use Rattle.tx_actors.specs.Machine.{State, Input, Begin, ToNode, ToStoppingNode, ToCoordinator, ToManager, GiveUp, Resend, BootCoordinator, BootNode, Sweep, ResendManager, BootManager, move, step, steps}
use Rattle.tx_cuts.specs.Cut.{CutMessage, Hold, HeldOk, HeldLocked, HeldPast, Release, Drop, Read, Piece, PieceNone, StillHeld, Copy, Cuts, CutEvent, Does, Holds, Raises, Releases, Loses, Makes, Sends, after_cut, after_cuts}
use Rattle.tx_cuts.specs.Holds.{cut_passed, any_undecided, is_of, on_hold, on_hold_stopping, on_release, on_drop, piece_bytes, on_read, on_list}
use Rattle.tx_cuts.specs.Backup.{Phase, Holding, Reading, Backup, CutAct, reads_on, hear_held, hear_piece, running_hears, idle_hears, gives_up, posts_again, resends}
use Rattle.tx_cuts.specs.Whole.{Whole, state_of, numbered_cut, Acts, CutToNode, CutToStoppingNode, Lists, CutToManager, BeginBackup, GiveUpBackup, ResendBackup, BootBackup, knowing, lost_in, handle_cut, handle_cut_stopping, manager_hears, with_events, with_act, begins_backup, whole_step}
use Rattle.tx_cuts.specs.Laws.{acted, WholesAreStates, WholeStepsJoin}
use Rattle.tx_cuts.proofs.HeldLemmas.{does_world}
use Rattle.tx_cuts.proofs.WholeLemmas.{after_cuts_append}

-- events that leave the transactions alone
abbrev pub AreOfCuts : List CutEvent → Type 0
AreOfCuts [] = Unit {0}
AreOfCuts (Does e ∷ events) = ⊥
AreOfCuts (e ∷ events) = AreOfCuts events

still : (s : Setting) (k : Cuts) (events : List CutEvent) → AreOfCuts events → (after_cuts s k events).world ≡ k.world
still s k [] h = refl
still s k (Does e ∷ events) h = absurd h
still s k (Holds m c ∷ events) h = still s (after_cut s k (Holds m c)) events h
still s k (Raises m c ∷ events) h = still s (after_cut s k (Raises m c)) events h
still s k (Releases m copy ∷ events) h = still s (after_cut s k (Releases m copy)) events h
still s k (Loses m ∷ events) h = still s (after_cut s k (Loses m)) events h
still s k (Makes c ∷ events) h = still s (after_cut s k (Makes c)) events h
still s k (Sends p ∷ events) h = still s (after_cut s k (Sends p)) events h

chosen : (b : Bool) (xs ys : List CutEvent) → AreOfCuts xs → AreOfCuts ys → AreOfCuts (cond b xs ys)
chosen true xs ys p q = p
chosen false xs ys p q = q

act_chosen : (b : Bool) (x y : CutAct) → AreOfCuts x.events → AreOfCuts y.events → AreOfCuts (cond b x y).events
act_chosen true x y p q = p
act_chosen false x y p q = q

-- ---- a memory node

hold_cuts : (k : Cuts) (m c : ℕ) → AreOfCuts (on_hold k m c)
hold_cuts k m c =
    chosen (is_of c (k.copies m)) _ _ tt (chosen (cut_passed k.floors m c) _ _ tt (chosen (any_undecided (own m k.world.log) (granted_in (own m k.world.log))) _ _ tt tt))

hold_stopping_cuts : (k : Cuts) (m c : ℕ) → AreOfCuts (on_hold_stopping k m c)
hold_stopping_cuts k m c = chosen (is_of c (k.copies m)) _ _ tt (chosen (cut_passed k.floors m c) _ _ tt tt)

release_cuts : (m c : ℕ) (o : Option Copy) → AreOfCuts (on_release m c o)
release_cuts m c None = tt
release_cuts m c (Some copy) = chosen (copy.cut == c) _ _ tt tt

drop_cuts : (m c : ℕ) (o : Option Copy) → AreOfCuts (on_drop m c o)
drop_cuts m c o = chosen (is_of c o) _ _ tt tt

read_cuts : (size m c place : ℕ) (o : Option Copy) → AreOfCuts (on_read size m c place o)
read_cuts size m c place None = tt
read_cuts size m c place (Some copy) = chosen (copy.cut == c) _ _ tt tt

list_cuts : (m : ℕ) (o : Option Copy) → AreOfCuts (on_list m o)
list_cuts m None = tt
list_cuts m (Some copy) = chosen copy.held _ _ tt tt

handle_cuts : (size : ℕ) (k : Cuts) (m : ℕ) (o : Option CutMessage) → AreOfCuts (handle_cut size k m o)
handle_cuts size k m None = tt
handle_cuts size k m (Some (Hold c)) = hold_cuts k m c
handle_cuts size k m (Some (Release c)) = release_cuts m c (k.copies m)
handle_cuts size k m (Some (Drop c)) = drop_cuts m c (k.copies m)
handle_cuts size k m (Some (Read n c place)) = chosen (n == m) _ _ (read_cuts size m c place (k.copies m)) tt
handle_cuts size k m (Some (HeldOk n c)) = tt
handle_cuts size k m (Some (HeldLocked n c)) = tt
handle_cuts size k m (Some (HeldPast n c)) = tt
handle_cuts size k m (Some (Piece n c place bytes)) = tt
handle_cuts size k m (Some (PieceNone n c place)) = tt
handle_cuts size k m (Some (StillHeld n c)) = tt

handle_stopping_cuts : (k : Cuts) (m : ℕ) (o : Option CutMessage) → AreOfCuts (handle_cut_stopping k m o)
handle_stopping_cuts k m None = tt
handle_stopping_cuts k m (Some (Hold c)) = hold_stopping_cuts k m c
handle_stopping_cuts k m (Some (Release c)) = tt
handle_stopping_cuts k m (Some (Drop c)) = tt
handle_stopping_cuts k m (Some (Read n c place)) = tt
handle_stopping_cuts k m (Some (HeldOk n c)) = tt
handle_stopping_cuts k m (Some (HeldLocked n c)) = tt
handle_stopping_cuts k m (Some (HeldPast n c)) = tt
handle_stopping_cuts k m (Some (Piece n c place bytes)) = tt
handle_stopping_cuts k m (Some (PieceNone n c place)) = tt
handle_stopping_cuts k m (Some (StillHeld n c)) = tt

lost_cuts : (input : Input) → AreOfCuts (lost_in input)
lost_cuts (ToStoppingNode n m held) = tt
lost_cuts (BootNode m) = tt
lost_cuts (ToNode n m held) = tt
lost_cuts (Begin t) = tt
lost_cuts (ToCoordinator n) = tt
lost_cuts (ToManager n) = tt
lost_cuts (GiveUp c) = tt
lost_cuts (Resend c) = tt
lost_cuts (BootCoordinator c) = tt
lost_cuts Sweep = tt
lost_cuts ResendManager = tt
lost_cuts BootManager = tt

-- ---- the manager

reads_cuts : (c : ℕ) (left bytes : List ℕ) (images : List (List ℕ)) → AreOfCuts (reads_on c left bytes images).events
reads_cuts c [] bytes images = tt
reads_cuts c (m ∷ left) bytes images = tt

held_cuts : (ms : List ℕ) (m c : ℕ) (b : Backup) (p : Phase) → AreOfCuts (hear_held ms m c b p).events
held_cuts ms m c b (Holding oks) = act_chosen (all_in ms (m ∷ oks)) _ _ (reads_cuts c ms [] []) tt
held_cuts ms m c b (Reading left bytes images) = tt

piece_cuts : (size m c place : ℕ) (piece : List ℕ) (b : Backup) (p : Phase) → AreOfCuts (hear_piece size m c place piece b p).events
piece_cuts size m c place piece b (Holding oks) = tt
piece_cuts size m c place piece b (Reading [] bytes images) = tt
piece_cuts size m c place piece b (Reading (n ∷ left) bytes images) =
    act_chosen ((m == n) && ((place == length bytes) && (length piece == piece_bytes size place))) _ _
    (act_chosen (nat_lt (length (bytes ++ piece)) size) _ _ (reads_cuts c (n ∷ left) (bytes ++ piece) images) (reads_cuts c left [] (images ++ (bytes ++ piece) ∷ [])))
    tt

hear_cuts : (size : ℕ) (ms : List ℕ) (b : Backup) (p : CutMessage) → AreOfCuts (running_hears size ms b p).events
hear_cuts size ms b (HeldOk m c) = act_chosen (b.cut == c) _ _ (held_cuts ms m c b b.phase) tt
hear_cuts size ms b (HeldLocked m c) = act_chosen (b.cut == c) _ _ tt tt
hear_cuts size ms b (HeldPast m c) = act_chosen (b.cut == c) _ _ tt tt
hear_cuts size ms b (PieceNone m c place) = act_chosen (b.cut == c) _ _ tt tt
hear_cuts size ms b (Piece m c place piece) = act_chosen (b.cut == c) _ _ (piece_cuts size m c place piece b b.phase) tt
hear_cuts size ms b (StillHeld m c) = act_chosen (b.cut == c) _ _ tt tt
hear_cuts size ms b (Hold c) = tt
hear_cuts size ms b (Release c) = tt
hear_cuts size ms b (Drop c) = tt
hear_cuts size ms b (Read m c place) = tt

no_cuts : (p : CutMessage) → AreOfCuts (idle_hears p).events
no_cuts (StillHeld m c) = tt
no_cuts (HeldOk m c) = tt
no_cuts (HeldLocked m c) = tt
no_cuts (HeldPast m c) = tt
no_cuts (PieceNone m c place) = tt
no_cuts (Piece m c place piece) = tt
no_cuts (Hold c) = tt
no_cuts (Release c) = tt
no_cuts (Drop c) = tt
no_cuts (Read m c place) = tt

hears_cuts : (size : ℕ) (ms : List ℕ) (b : Option Backup) (o : Option CutMessage) → AreOfCuts (manager_hears size ms b o).events
hears_cuts size ms b None = tt
hears_cuts size ms None (Some p) = no_cuts p
hears_cuts size ms (Some b) (Some p) = hear_cuts size ms b p

gives_up_cuts : (b : Option Backup) → AreOfCuts (gives_up b).events
gives_up_cuts None = tt
gives_up_cuts (Some b) = tt

again_cuts : (c : ℕ) (p : Phase) → AreOfCuts (posts_again c p)
again_cuts c (Holding oks) = tt
again_cuts c (Reading [] bytes images) = tt
again_cuts c (Reading (m ∷ left) bytes images) = tt

resends_cuts : (b : Option Backup) → AreOfCuts (resends b).events
resends_cuts None = tt
resends_cuts (Some b) = again_cuts b.cut b.phase

-- ---- one input

module _ (s : Setting) (size : ℕ) (ms : List ℕ) (x : Whole) where
  left_alone : (events : List CutEvent) → AreOfCuts events → state_of (with_events s x events) ≡ state_of x
  left_alone events h =
      ap (λ (w : World). let st : State = record { world = w; coordinator = x.coordinator; manager = x.manager; outcomes = x.outcomes } in st) (still s x.cuts events h)

  act_alone : (a : CutAct) → AreOfCuts a.events → state_of (with_act s x a) ≡ state_of x
  act_alone a h =
      ap (λ (w : World). let st : State = record { world = w; coordinator = x.coordinator; manager = x.manager; outcomes = x.outcomes } in st) (still s x.cuts a.events h)

  begin_alone : (c : ℕ) (o : Option Backup) → state_of (begins_backup s x c o) ≡ state_of x
  begin_alone c (Some b) = refl
  begin_alone c None = go (nat_le x.next_cut c)
    where
      go : (b : Bool) → state_of (cond b
          (record x { cuts = after_cuts s x.cuts (Sends (Hold c) ∷ []); next_cut = c + 1; backup = Some (record { cut = c; phase = Holding [] }) }) x) ≡ state_of x
      go true = refl
      go false = refl

  acts_step : (input : Input) → state_of (whole_step s size ms x (Acts input)) ≡ step s (state_of x) (knowing x.cuts input)
  acts_step input =
      let m = move s (state_of x) (knowing x.cuts input) in
      let k = after_cuts s x.cuts (map Does m.events) in
      let world : (after_cuts s x.cuts (map Does m.events ++ lost_in input)).world ≡ after_all s x.cuts.world m.events =
      ap (λ (y : Cuts). y.world) (after_cuts_append s x.cuts (map Does m.events) (lost_in input))
      ∙ still s k (lost_in input) (lost_cuts input)
      ∙ ap (λ (y : Cuts). y.world) (does_world s x.cuts m.events) in
      ap (λ (w : World). let st : State = record { world = w; coordinator = m.coordinator; manager = m.manager; outcomes = m.outcomes } in st) world

  node_step : (n m : ℕ) → state_of (whole_step s size ms x (CutToNode n m)) ≡ state_of x
  node_step n m = go (is_in m ms)
    where
      go : (b : Bool) → state_of (cond b (with_events s x (handle_cut size x.cuts m (numbered_cut x.cuts.sent n))) x) ≡ state_of x
      go true = left_alone (handle_cut size x.cuts m (numbered_cut x.cuts.sent n)) (handle_cuts size x.cuts m (numbered_cut x.cuts.sent n))
      go false = refl

pub wholes_are_states : WholesAreStates
wholes_are_states s size ms x [] = refl
wholes_are_states s size ms x (Acts input ∷ inputs) =
    wholes_are_states s size ms (whole_step s size ms x (Acts input)) inputs
    ∙ ap (λ (st : State). steps s st (acted s size ms (whole_step s size ms x (Acts input)) inputs)) (acts_step s size ms x input)
wholes_are_states s size ms x (CutToNode n m ∷ inputs) =
    wholes_are_states s size ms (whole_step s size ms x (CutToNode n m)) inputs
    ∙ ap (λ (st : State). steps s st (acted s size ms (whole_step s size ms x (CutToNode n m)) inputs)) (node_step s size ms x n m)
wholes_are_states s size ms x (CutToStoppingNode n m ∷ inputs) =
    wholes_are_states s size ms (whole_step s size ms x (CutToStoppingNode n m)) inputs
    ∙ ap (λ (st : State). steps s st (acted s size ms (whole_step s size ms x (CutToStoppingNode n m)) inputs))
    (left_alone s size ms x (handle_cut_stopping x.cuts m (numbered_cut x.cuts.sent n)) (handle_stopping_cuts x.cuts m (numbered_cut x.cuts.sent n)))
wholes_are_states s size ms x (Lists m ∷ inputs) =
    wholes_are_states s size ms (whole_step s size ms x (Lists m)) inputs
    ∙ ap (λ (st : State). steps s st (acted s size ms (whole_step s size ms x (Lists m)) inputs))
    (left_alone s size ms x (on_list m (x.cuts.copies m)) (list_cuts m (x.cuts.copies m)))
wholes_are_states s size ms x (CutToManager n ∷ inputs) =
    wholes_are_states s size ms (whole_step s size ms x (CutToManager n)) inputs
    ∙ ap (λ (st : State). steps s st (acted s size ms (whole_step s size ms x (CutToManager n)) inputs))
    (act_alone s size ms x (manager_hears size ms x.backup (numbered_cut x.cuts.sent n)) (hears_cuts size ms x.backup (numbered_cut x.cuts.sent n)))
wholes_are_states s size ms x (BeginBackup c ∷ inputs) =
    wholes_are_states s size ms (whole_step s size ms x (BeginBackup c)) inputs
    ∙ ap (λ (st : State). steps s st (acted s size ms (whole_step s size ms x (BeginBackup c)) inputs)) (begin_alone s size ms x c x.backup)
wholes_are_states s size ms x (GiveUpBackup ∷ inputs) =
    wholes_are_states s size ms (whole_step s size ms x GiveUpBackup) inputs
    ∙ ap (λ (st : State). steps s st (acted s size ms (whole_step s size ms x GiveUpBackup) inputs)) (act_alone s size ms x (gives_up x.backup) (gives_up_cuts x.backup))
wholes_are_states s size ms x (ResendBackup ∷ inputs) =
    wholes_are_states s size ms (whole_step s size ms x ResendBackup) inputs
    ∙ ap (λ (st : State). steps s st (acted s size ms (whole_step s size ms x ResendBackup) inputs)) (act_alone s size ms x (resends x.backup) (resends_cuts x.backup))
wholes_are_states s size ms x (BootBackup ∷ inputs) = wholes_are_states s size ms (whole_step s size ms x BootBackup) inputs

pub whole_steps_join : WholeStepsJoin
whole_steps_join s size ms x [] more = refl
whole_steps_join s size ms x (input ∷ first) more = whole_steps_join s size ms (whole_step s size ms x input) first more
