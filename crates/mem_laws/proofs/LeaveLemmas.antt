-- What decisions and forgetting leave shows in the machine again.
use Rattle.std.proofs.Common.{◌≡◌, ℕ, ◌==◌, Bool, true, false, not, cond, ◌&&◌, ◌||◌, List, [], ◌∷◌, map, filter, length, Option, Some, None, is_some, unwrap_or, inl, inr, refl, sym, ap, subst, ◌∙◌}
use Rattle.std.proofs.lemmas.Bool.{and_parts, and_right, eq-eqb, eqb-true, not_from_false, false_from_ne_true, not-true}
use Rattle.mini_tx.specs.declared.entry.Entry.{Entry}
use Rattle.mini_tx.specs.declared.entry.Entry.TheVariants as entry
use Rattle.mini_tx.specs.declared.message.Message as sent_type
use Rattle.mini_tx.specs.declared.message.Message.TheVariants as sent
use Rattle.mini_tx.specs.declared.tx_id.TxId.{TxId}
use Rattle.mini_tx.specs.declared.vote.Vote.TheVariants as vote
use Rattle.mem_rules.specs.declared.kept.Kept.{Kept}
use Rattle.mem_rules.specs.declared.standing.Standing.{Standing}
use Rattle.mem_rules.specs.declared.standing.Standing.TheVariants.{Above, At, Below}
use Rattle.mem_rules.specs.Identifiers.{is_same}
use Rattle.mem_rules.specs.Items.{written}
use Rattle.mem_rules.specs.Rules as node
use Rattle.mem_rules.specs.State.{State, kept_of, with_decision, decided, committed, writes_kept, after_one}
use Rattle.mem_rules.proofs.GoodLemmas.{ascending_decided, ascending_left}
use Rattle.tx_rules.specs.Mini.{In, Setting}
use Rattle.tx_rules.specs.Decision.{Record, Commit, Abort, Forget}
use Rattle.tx_rules.specs.World.{World, after_all}
use Rattle.tx_actors.specs.Machine.{appending}
use Rattle.tx_actors.specs.Node as machine
use Rattle.tx_actors.specs.Node.{after_record, after_records}
use Rattle.tx_actors.proofs.AlikeLemmas.{alike_after_all, alike_self}
use Rattle.tx_actors.proofs.TestLemmas.{In-filter, In-map, filter-In, map-In, not_two}
use Rattle.mem_laws.specs.Cells.{number, cells_from, written_in}
use Rattle.mem_laws.specs.Shown.{decision_on, IsShownRecord, Shows, records_of}
use Rattle.mem_laws.specs.Laws.{IsNamed, DecisionsLeaveTheSame, ForgettingLeavesTheSame, AnswersLeaveTheSame}
use Rattle.mem_laws.proofs.AlikeLemmas.{shows_alike}
use Rattle.mem_laws.proofs.CellLemmas.{number_same, sameness_is}
use Rattle.mem_laws.proofs.DecideLemmas.{found, decisions, forgetting, answers}
use Rattle.mem_laws.proofs.FloorLemmas.{same_self, refused_state}
use Rattle.mem_laws.proofs.ImageLemmas.{AreWritesWithin, same_size, length_written, image_after, map_alike}
use Rattle.mem_laws.proofs.RuleLemmas.{find-In}
use Rattle.mem_laws.proofs.WantLemmas.{IsImage}

one_bool : (a b : Bool) → ◌≡◌ {A = Option Bool} (Some a) (Some b) → a ≡ b
one_bool a b e = cc

-- ---- tests

pass_by : (x c : Bool) → c ≡ false → (x && not c) ≡ x
pass_by true c e = ap not e
pass_by false c e = refl

-- what was decided is not undecided
still_open : (e g d : Bool) → (g && not (e || d)) ≡ ((g && not d) && not e)
still_open true true true = refl
still_open true true false = refl
still_open true false d = refl
still_open false true true = refl
still_open false true false = refl
still_open false false d = refl

-- what is forgotten is kept no longer
less_kept : (e g h f : Bool) → (g && (h && not (e || f))) ≡ ((g && (h && not f)) && not e)
less_kept true true true true = refl
less_kept true true true false = refl
less_kept true true false f = refl
less_kept true false h f = refl
less_kept false true true true = refl
less_kept false true true false = refl
less_kept false true false f = refl
less_kept false false h f = refl

module _ (s : Setting) (m : ℕ) (n : node.Node) (v : machine.View) (id : TxId) (named : IsNamed s m n.state v id) where
  abbrev t : ℕ
  t = number id

  -- ---- a record is decided

  same_id : (commit : Bool) (k : Kept) → (decided id commit k).id ≡ k.id
  same_id commit k = go (is_same k.id id)
    where
      go : (b : Bool) → (cond b (with_decision commit k) k).id ≡ k.id
      go true = refl
      go false = refl

  less_writes : (commit : Bool) (size : ℕ) (k : Kept) → AreWritesWithin size k.writes → AreWritesWithin size (decided id commit k).writes
  less_writes commit size k all = go (is_same k.id id)
    where
      go : (b : Bool) → AreWritesWithin size (cond b (with_decision commit k) k).writes
      go true = tt
      go false = all

  still_found : (commit : Bool) (kept : List Kept) (other : TxId) → is_some (kept_of (map (decided id commit) kept) other) ≡ is_some (kept_of kept other)
  still_found commit [] other = refl
  still_found commit (k ∷ kept) other =
      ap (λ (x : TxId). is_some (cond (is_same x other) (Some (decided id commit k)) (kept_of (map (decided id commit) kept) other))) (same_id commit k)
      ∙ go (is_same k.id other) (still_found commit kept other)
    where
      go : (b : Bool) → is_some (kept_of (map (decided id commit) kept) other) ≡ is_some (kept_of kept other)
          → is_some (cond b (Some (decided id commit k)) (kept_of (map (decided id commit) kept) other)) ≡ is_some (cond b (Some k) (kept_of kept other))
      go true rest = refl
      go false rest = rest

  -- the machine's memory node after the decision: one record more, and this image
  module _ (commit : Bool) (r : Record) (image : List ℕ) (cells : ℕ → ℕ) where
    abbrev now : machine.View
    now = record { records = r ∷ v.records; image = cells; seen = v.seen }

    abbrev kept_now : List Kept
    kept_now = map (decided id commit) n.state.kept

    -- what the record does to what is found in the log
    pub record IsDecision : Type 0 where
      pub logged : r ≡ decision_on t commit
      pub floors : (c : ℕ) → machine.floor_of s (r ∷ v.records) c ≡ machine.floor_of s v.records c
      pub kept : (u : ℕ) → machine.is_kept s m (r ∷ v.records) u ≡ machine.is_kept s m v.records u
      pub undecided : (u : ℕ) → machine.is_undecided (r ∷ v.records) u ≡ (machine.is_undecided v.records u && not (t == u))
      pub granted : (u : ℕ) → (machine.has_decision (r ∷ v.records) u || machine.has_forget (r ∷ v.records) u) ≡ true → machine.has_grant (r ∷ v.records) u ≡ true
      pub sized : length image ≡ length n.state.image
      pub stored : IsImage image cells

    module _ (is : IsDecision) where
      shown : (k : Kept) → In k n.state.kept → IsShownRecord s m now (decided id commit k)
      shown k h = go (is_same k.id id) refl
        where
          before : IsShownRecord s m v k
          before = named.shows.records k h

          go : (b : Bool) → is_same k.id id ≡ b → IsShownRecord s m now (cond b (with_decision commit k) k)
          go true same = record {
            typed = before.typed;
            granted = before.granted;
            vote = before.vote;
            participants = before.participants;
            undecided =
                is.undecided (number k.id)
                ∙ and_right (machine.is_undecided v.records (number k.id)) (not (t == number k.id)) (ap not (eq-eqb t (number k.id) (sym (number_same k.id id same))));
            decision = λ made is_made. inl (ap (decision_on (number k.id)) (sym (one_bool commit made is_made)) ∙ ap (λ u. decision_on u commit) (number_same k.id id same) ∙ sym is.logged);
            locked = λ never. absurd cc;
            written = λ never. absurd cc;
          }
          go false other = record {
            typed = before.typed;
            granted = before.granted;
            vote = before.vote;
            participants = before.participants;
            undecided =
                is.undecided (number k.id)
                ∙ pass_by (machine.is_undecided v.records (number k.id)) (t == number k.id)
                (false_from_ne_true (t == number k.id) (λ alike.
                let one : is_same k.id id ≡ true = sym (sameness_is k.id id before.typed named.typed) ∙ eq-eqb (number k.id) t (sym (eqb-true t (number k.id) alike)) in absurd cc))
                ∙ before.undecided;
            decision = λ made is_made. inr (before.decision made is_made);
            locked = before.locked;
            written = before.written;
          }

      pub decided_shows : Shows s m (record n.state { kept = kept_now; image = image }) now
      decided_shows =
          record {
            floors = λ c. is.floors c ∙ named.shows.floors c;
            votes = named.shows.votes;
            kept = λ other typed. is.kept (number other) ∙ named.shows.kept other typed ∙ sym (still_found commit n.state.kept other);
            ascending = ascending_decided id commit n.state.kept named.shows.ascending;
            typed = λ u keeps.
                let there = named.shows.typed u (sym (is.kept u) ∙ keeps) in
                (decided id commit there.0, map-In (decided id commit) there.0 n.state.kept there.1, ap number (same_id commit there.0) ∙ there.2);
            records = λ k h.
                let from = In-map (decided id commit) k n.state.kept h in
                subst (λ (x : Kept). IsShownRecord s m now x) (sym from.2) (shown from.0 from.1);
            within = λ k h.
                let from = In-map (decided id commit) k n.state.kept h in
                subst (λ (x : Kept). AreWritesWithin (length image) x.writes) (sym from.2)
                (less_writes commit (length image) from.0 (same_size from.0.writes (length n.state.image) (length image) (sym is.sized) (named.shows.within from.0 from.1)));
            undecided = λ u open_.
                let both = and_parts (machine.is_undecided v.records u) (not (t == u)) (sym (is.undecided u) ∙ open_) in
                let there = named.shows.undecided u both.0 in
                (decided id commit there.0, map-In (decided id commit) there.0 n.state.kept there.1, ap number (same_id commit there.0) ∙ there.2);
            granted = is.granted;
            image = is.stored;
          }

  -- ---- commit and abort

  granted_then : (k : Kept) → kept_of n.state.kept id ≡ Some k → (u : ℕ) (x y : Bool) → ((x || y) ≡ true → machine.has_grant v.records u ≡ true) → (((t == u) || x) || y) ≡ true
      → machine.has_grant v.records u ≡ true
  granted_then k is u x y before h = go (t == u) refl h
    where
      go : (b : Bool) → (t == u) ≡ b → ((b || x) || y) ≡ true → machine.has_grant v.records u ≡ true
      go true e some = ap (machine.has_grant v.records) (sym (eqb-true t u e)) ∙ (found s m n v id named k is).granted
      go false e some = before some

  pub decided_state : (commit : Bool) (k : Kept) → kept_of n.state.kept id ≡ Some k → node.is_undecided k ≡ true
      → Shows s m (after_one n.state (Some (entry.Decided id commit))) (after_records s m v (records_of (Some (entry.Decided id commit))))
  decided_state true k is open_ =
      subst (λ (o : Option Kept). Shows s m (record n.state { kept = map (decided id true) n.state.kept; image = committed true n.state.image (writes_kept o) }) (after_record s m v (Commit t))) (sym is)
      (decided_shows true (Commit t) (written n.state.image k.writes) (λ a. unwrap_or ((s.mini t).writes m a) (v.image a)) record {
        logged = refl;
        floors = λ c. refl;
        kept = λ u. refl;
        undecided = λ u. still_open (t == u) (machine.has_grant v.records u) (machine.has_decision v.records u);
        granted = λ u h. granted_then k is u (machine.has_decision v.records u) (machine.has_forget v.records u) (named.shows.granted u) h;
        sized = length_written k.writes n.state.image within;
        stored = λ at count fits.
            image_after k.writes n.state.image v.image named.shows.image within at count fits
            ∙ map_alike (λ a. unwrap_or (written_in k.writes a) (v.image a)) (λ a. unwrap_or ((s.mini t).writes m a) (v.image a)) (cells_from at count)
            (λ a h. ap (λ o. unwrap_or o (v.image a)) (sym (ap (λ u. (s.mini u).writes m a) (sym (number_same k.id id there.1)) ∙ (named.shows.records k there.0).written open_ a)));
      })
    where
      there : In k n.state.kept × (is_same k.id id ≡ true)
      there = find-In (λ (x : Kept). is_same x.id id) k n.state.kept is

      within : AreWritesWithin (length n.state.image) k.writes
      within = named.shows.within k there.0
  decided_state false k is open_ =
      decided_shows false (Abort t) n.state.image v.image record {
        logged = refl;
        floors = λ c. refl;
        kept = λ u. refl;
        undecided = λ u. still_open (t == u) (machine.has_grant v.records u) (machine.has_decision v.records u);
        granted = λ u h. granted_then k is u (machine.has_decision v.records u) (machine.has_forget v.records u) (named.shows.granted u) h;
        sized = refl;
        stored = named.shows.image;
      }

  -- ---- forgetting

  abbrev stays : Kept → Bool
  stays k = not (is_same k.id id)

  same_both : (a b c : TxId) → is_same a b ≡ true → is_same a c ≡ is_same b c
  same_both a b c h =
      let one = and_parts (a.coord == b.coord) ((a.boot == b.boot) && (a.seq == b.seq)) h in
      let two = and_parts (a.boot == b.boot) (a.seq == b.seq) one.1 in
      ap (λ x. (x == c.coord) && ((a.boot == c.boot) && (a.seq == c.seq))) (eqb-true a.coord b.coord one.0)
      ∙ ap (λ x. (b.coord == c.coord) && ((x == c.boot) && (a.seq == c.seq))) (eqb-true a.boot b.boot two.0)
      ∙ ap (λ x. (b.coord == c.coord) && ((b.boot == c.boot) && (x == c.seq))) (eqb-true a.seq b.seq two.1)

  found_left : (kept : List Kept) (other : TxId) → is_some (kept_of (filter stays kept) other) ≡ (is_some (kept_of kept other) && not (is_same id other))
  found_left [] other = refl
  found_left (k ∷ kept) other = go (is_same k.id id) refl (found_left kept other)
    where
      removed : (b : Bool) → b ≡ is_same id other → is_some (kept_of (filter stays kept) other) ≡ (is_some (kept_of kept other) && not (is_same id other))
          → is_some (kept_of (filter stays kept) other) ≡ (is_some (cond b (Some k) (kept_of kept other)) && not (is_same id other))
      removed true e rest = rest ∙ and_right (is_some (kept_of kept other)) (not (is_same id other)) (ap not (sym e)) ∙ ap not e
      removed false e rest = rest

      left : (b : Bool) → (b ≡ true → is_same id other ≡ false) → is_some (kept_of (filter stays kept) other) ≡ (is_some (kept_of kept other) && not (is_same id other))
          → is_some (cond b (Some k) (kept_of (filter stays kept) other)) ≡ (is_some (cond b (Some k) (kept_of kept other)) && not (is_same id other))
      left true apart rest = sym (ap not (apart refl))
      left false apart rest = rest

      go : (b : Bool) → is_same k.id id ≡ b → is_some (kept_of (filter stays kept) other) ≡ (is_some (kept_of kept other) && not (is_same id other))
          → is_some (kept_of (cond (not b) (k ∷ filter stays kept) (filter stays kept)) other) ≡ (is_some (cond (is_same k.id other) (Some k) (kept_of kept other)) && not (is_same id other))
      go true e rest = removed (is_same k.id other) (same_both k.id id other e) rest
      go false e rest =
          left (is_same k.id other)
          (λ alike. false_from_ne_true (is_same id other) (λ too.
          let same : is_same k.id id ≡ true = same_both k.id other id alike ∙ sym (same_both id other id too) ∙ same_self id in absurd cc)) rest

  forgotten_state : (k : Kept) → kept_of n.state.kept id ≡ Some k → node.is_undecided k ≡ false → Shows s m (after_one n.state (Some (entry.Forgotten id))) (after_record s m v (Forget t))
  forgotten_state k is over =
      record {
        floors = named.shows.floors;
        votes = named.shows.votes;
        kept = λ other typed.
            less_kept (t == number other) (machine.has_grant v.records (number other)) _ (machine.has_forget v.records (number other))
            ∙ ap (λ b. b && not (t == number other)) (named.shows.kept other typed)
            ∙ ap (λ b. is_some (kept_of n.state.kept other) && not b) (sameness_is id other named.typed typed)
            ∙ sym (found_left n.state.kept other);
        records = λ x h.
            let shown = named.shows.records x (In-filter stays x n.state.kept h).0 in
            record {
              typed = shown.typed;
              granted = shown.granted;
              vote = shown.vote;
              participants = shown.participants;
              undecided = shown.undecided;
              decision = λ commit made. inr (shown.decision commit made);
              locked = shown.locked;
              written = shown.written;
            };
        ascending = ascending_left stays n.state.kept named.shows.ascending;
        typed = λ u keeps.
            let both = and_parts (machine.is_kept s m v.records u) (not (t == u)) (sym (less_kept (t == u) (machine.has_grant v.records u) _ (machine.has_forget v.records u)) ∙ keeps) in
            let there = named.shows.typed u both.0 in
            (there.0, filter-In stays there.0 n.state.kept there.1 (not_from_false (is_same there.0.id id) (apart there.0 u both.1 there.2)), there.2);
        within = λ x h. named.shows.within x (In-filter stays x n.state.kept h).0;
        undecided = λ u open_.
            let there = named.shows.undecided u open_ in
            (there.0, filter-In stays there.0 n.state.kept there.1 (not_from_false (is_same there.0.id id) (other there.0 u open_ there.2)), there.2);
        granted = λ u h. go u (t == u) refl h;
        image = named.shows.image;
      }
    where
      closed : machine.is_undecided v.records t ≡ false
      closed = (found s m n v id named k is).undecided ∙ over

      other : (x : Kept) (u : ℕ) → machine.is_undecided v.records u ≡ true → number x.id ≡ u → is_same x.id id ≡ false
      other x u open_ e = false_from_ne_true (is_same x.id id) (λ same.
          not_two (machine.is_undecided v.records t) (ap (machine.is_undecided v.records) (sym (number_same x.id id same) ∙ e) ∙ open_) closed)

      apart : (x : Kept) (u : ℕ) → not (t == u) ≡ true → number x.id ≡ u → is_same x.id id ≡ false
      apart x u differ e = false_from_ne_true (is_same x.id id) (λ same.
          not_two (t == u) (eq-eqb t u (sym (number_same x.id id same) ∙ e)) (not-true (t == u) differ))

      go : (u : ℕ) (b : Bool) → (t == u) ≡ b → (machine.has_decision v.records u || (b || machine.has_forget v.records u)) ≡ true → machine.has_grant v.records u ≡ true
      go u true e h = ap (machine.has_grant v.records) (sym (eqb-true t u e)) ∙ (found s m n v id named k is).granted
      go u false e h = named.shows.granted u h

  -- ---- each message

  abbrev ShowsAfter : Option Entry → Type 0
  ShowsAfter e = Shows s m (after_one n.state e) (after_records s m v (records_of e))

  forced_state : (x : Standing) → node.standing n.state id ≡ x → (answer : sent_type.Message) → ShowsAfter (node.forces n id x answer).entry
  forced_state Above is answer = refused_state s m n v id named (vote.Forced id) refl is
  forced_state (At y) is answer = named.shows
  forced_state (Below floor) is answer = named.shows

  pub decision_leaves : (commit : Bool) (kept : Option Kept) → kept_of n.state.kept id ≡ kept → ShowsAfter (node.on_decide n id commit kept).entry
  decision_leaves commit (Some k) is = go (node.is_undecided k) refl
    where
      go : (b : Bool) → node.is_undecided k ≡ b → ShowsAfter (cond b (node.appends n (entry.Decided id commit) (sent.Done id)) (node.answers n (sent.Done id))).entry
      go true open_ = decided_state commit k is open_
      go false over = named.shows
  decision_leaves true None is = named.shows
  decision_leaves false None is = forced_state (node.standing n.state id) refl (sent.Done id)

  pub forgetting_leaves : (kept : Option Kept) → kept_of n.state.kept id ≡ kept → ShowsAfter (node.on_forget n id kept).entry
  forgetting_leaves (Some k) is = go (node.is_undecided k) refl
    where
      go : (b : Bool) → node.is_undecided k ≡ b → ShowsAfter (cond b (node.silent n) (record { entry = Some (entry.Forgotten id); answer = None; copy = n.copy })).entry
      go true e = named.shows
      go false e = forgotten_state k is e
  forgetting_leaves None is = named.shows

  pub answer_leaves : (kept : Option Kept) → ShowsAfter (node.on_ask n id kept).entry
  answer_leaves (Some k) = named.shows
  answer_leaves None = by_standing (node.standing n.state id) refl
    where
      by_standing : (x : Standing) → node.standing n.state id ≡ x → ShowsAfter (node.by_floor_asked n id x).entry
      by_standing Above is = forced_state Above is (sent.Answer id false)
      by_standing (At y) is = named.shows
      by_standing (Below floor) is = named.shows

-- the machine's world after the records of the same entry
shown_again : (s : Setting) (m : ℕ) (state : State) (w : World) (e : Option Entry) (appends : List Record) → appends ≡ records_of e
    → Shows s m (after_one state e) (after_records s m (machine.view w m) (records_of e)) → Shows s m (after_one state e) (machine.view (after_all s w (appending s w m appends)) m)
shown_again s m state w e appends same shows =
    shows_alike s m (after_one state e) (after_records s m (machine.view w m) appends) (machine.view (after_all s w (appending s w m appends)) m)
    (alike_after_all s m (machine.view w m) w appends (alike_self s m (machine.view w m)))
    (subst (λ rs. Shows s m (after_one state e) (after_records s m (machine.view w m) rs)) (sym same) shows)

pub decisions_leave : DecisionsLeaveTheSame
decisions_leave s m n w id commit named =
    shown_again s m n.state w (node.on_decide n id commit (kept_of n.state.kept id)).entry _ (decisions s m n (machine.view w m) id commit named).appended
    (decision_leaves s m n (machine.view w m) id named commit (kept_of n.state.kept id) refl)

pub forgetting_leaves_same : ForgettingLeavesTheSame
forgetting_leaves_same s m n w id named =
    shown_again s m n.state w (node.on_forget n id (kept_of n.state.kept id)).entry _ (forgetting s m n (machine.view w m) id named).appended
    (forgetting_leaves s m n (machine.view w m) id named (kept_of n.state.kept id) refl)

pub answers_leave : AnswersLeaveTheSame
answers_leave s m n w id named =
    shown_again s m n.state w (node.on_ask n id (kept_of n.state.kept id)).entry _ (answers s m n (machine.view w m) id named).1.appended
    (answer_leaves s m n (machine.view w m) id named (kept_of n.state.kept id))
