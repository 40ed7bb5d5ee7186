-- After a vote a memory node shows in the machine again.
use Rattle.std.proofs.Common.{◌≡◌, ℕ, nat_lt, ◌==◌, Bool, true, false, not, cond, ◌&&◌, ◌||◌, List, [], ◌∷◌, ◌≤◌, map, replicate, length, Option, Some, None, is_some, unwrap_or, inl, inr, refl, sym, ap, subst, ◌∙◌, arith}
use Rattle.std.proofs.lemmas.Bool.{cases_lt, eq-eqb, ne_eqb, eqb-true, ltb-true, and_from, or_parts, not_from_false, false_from_ne_true}
use Rattle.std.proofs.lemmas.List.{get_or-replicate, get_or_past, length-replicate}
use Rattle.mini_tx.specs.declared.entry.Entry.{Entry}
use Rattle.mini_tx.specs.declared.entry.Entry.TheVariants as entry
use Rattle.mini_tx.specs.declared.message.Message.TheVariants.{Voted}
use Rattle.mini_tx.specs.declared.placed_item.PlacedItem.{PlacedItem}
use Rattle.mini_tx.specs.declared.tx_id.TxId.{TxId}
use Rattle.mini_tx.specs.declared.vote.Vote.{Vote}
use Rattle.mini_tx.specs.declared.vote.Vote.TheVariants as vote
use Rattle.mini_tx.specs.EntryGrammar.{is_granted}
use Rattle.mem_rules.specs.declared.floor.Floor.{Floor}
use Rattle.mem_rules.specs.declared.kept.Kept.{Kept}
use Rattle.mem_rules.specs.declared.rule.Rule.{Rule}
use Rattle.mem_rules.specs.declared.rule.Rule.TheVariants.{RecordAgain, FloorAgain, ForcedBy, HeldBy, LockedBy, MismatchAt, Passes}
use Rattle.mem_rules.specs.declared.standing.Standing.{Standing}
use Rattle.mem_rules.specs.declared.standing.Standing.TheVariants.{Above, At, Below}
use Rattle.mem_rules.specs.Identifiers.{precedes, is_same}
use Rattle.mem_rules.specs.Items.{written, reads_of, writes_of, range_of}
use Rattle.mem_rules.specs.Rules as node
use Rattle.mem_rules.specs.State.{floor_at, kept_of, placed_in, after_one}
use Rattle.mem_rules.proofs.GoodLemmas.{ascending_placed}
use Rattle.tx_rules.specs.Mini as mini
use Rattle.tx_rules.specs.Mini.{In, Setting, has_several, is_logged, nodes_of, participants_at}
use Rattle.tx_rules.specs.Decision.{Grant, Commit}
use Rattle.tx_rules.specs.World.{after_all}
use Rattle.tx_actors.specs.Machine.{appending}
use Rattle.tx_actors.specs.Node as machine
use Rattle.tx_actors.specs.Node.{after_record, after_records}
use Rattle.tx_actors.proofs.AlikeLemmas.{alike_after_all, alike_self}
use Rattle.tx_actors.proofs.LawLemmas.{floors_are_greatest}
use Rattle.tx_actors.proofs.RecordLemmas.{has_grant-In, live_named}
use Rattle.tx_actors.proofs.TestLemmas.{not_two}
use Rattle.mem_laws.specs.Cells.{number, cells_from, written_in}
use Rattle.mem_laws.specs.Shown.{reason_of, shown_floor, cut_held, IsShownRecord, Shows, records_of}
use Rattle.mem_laws.specs.Laws.{IsNamed, IsAsked, OpenedNodesShow, StatesAreTheMachines}
use Rattle.mem_laws.proofs.CellLemmas.{order_is, sameness_is}
use Rattle.mem_laws.proofs.FloorLemmas.{found_in, floor_moves, votes_after, other_number, refused_state}
use Rattle.mem_laws.proofs.ImageLemmas.{AreWritesWithin, same_size, length_written, bytes_of_cells, image_after, map_alike, writes_within}
use Rattle.mem_laws.proofs.AlikeLemmas.{vote_alike, shows_alike}
use Rattle.mem_laws.proofs.ListLemmas.{In-placed, placed-In}
use Rattle.mem_laws.proofs.RuleLemmas.{within}
use Rattle.mem_laws.proofs.VoteLemmas.{several_is, vote_is}
use Rattle.mem_laws.proofs.WantLemmas.{reads_are}

-- ---- before the first entry

no_floor : (nodes c : ℕ) → floor_at (replicate nodes None) c ≡ None
no_floor nodes c = elim (cases_lt c nodes) [
  | inl below ↦ get_or-replicate nodes c None None below
  | inr past ↦ get_or_past (replicate nodes none) c None (let size = length-replicate nodes none in omega (arith, past, size))
]
  where
    none : Option Floor
    none = None

pub opened_shows : OpenedNodesShow
opened_shows s m nodes image seen =
    record {
      floors = λ c. ap shown_floor (sym (no_floor nodes c));
      votes = λ c floor is. let e : None ≡ Some floor = sym (no_floor nodes c) ∙ is in absurd cc;
      kept = λ id typed. refl;
      ascending = tt;
      records = λ k h. absurd h;
      within = λ k h. absurd h;
      undecided = λ t is. absurd cc;
      granted = λ t is. absurd cc;
      typed = λ t is. absurd cc;
      image = bytes_of_cells image;
    }

-- ---- tests

or_true : (b : Bool) → (b || true) ≡ true
or_true true = refl
or_true false = refl

or_false : (b : Bool) → (b || false) ≡ b
or_false true = refl
or_false false = refl

-- of one participant no record is kept
same_kept : (b g h f : Bool) → (b ≡ true → h ≡ false) → ((b || g) && (h && f)) ≡ (g && (h && f))
same_kept false g h f never = refl
same_kept true g true f never = let e : true ≡ false = never refl in absurd cc
same_kept true true false f never = refl
same_kept true false false f never = refl

-- what is granted and decided at once is not undecided
apart_from : (b g d : Bool) → ((b || g) && not (b || d)) ≡ true → (b ≡ false) × ((g && not d) ≡ true)
apart_from true g d is = absurd cc
apart_from false g d is = (refl, is)

-- of several the new record is one more
more_kept : (b g h f : Bool) → (b ≡ true → (h && f) ≡ true) → ((b || g) && (h && f)) ≡ ((g && (h && f)) || b)
more_kept false true true true there = refl
more_kept false true true false there = refl
more_kept false true false f there = refl
more_kept false false h f there = refl
more_kept true true true true there = refl
more_kept true false true true there = refl
more_kept true g true false there = let e : false ≡ true = there refl in absurd cc
more_kept true g false f there = let e : false ≡ true = there refl in absurd cc

-- what is granted stays so
still_granted : (b c d f g : Bool) → (c ≡ true → b ≡ true) → ((d || f) ≡ true → g ≡ true) → ((c || d) || f) ≡ true → (b || g) ≡ true
still_granted true c d f g own was is = refl
still_granted false true d f g own was is = let e : false ≡ true = own refl in absurd cc
still_granted false false d f g own was is = was is

module _ (s : Setting) (m : ℕ) (n : node.Node) (v : machine.View) (id : TxId) (participants : List ℕ) (items : List PlacedItem) (asked : IsAsked s m n v id participants items) where
  abbrev t : ℕ
  t = number id

  named : IsNamed s m n.state v id
  named = record { typed = asked.typed; known = asked.known; coordinator = asked.told.coordinator; shows = asked.shows }

  -- ---- Granted

  named_by : participants_at s m t ≡ nodes_of s t
  named_by = live_named s m t asked.fresh.0

  several : has_several (nodes_of s t) ≡ node.has_several participants
  several = ap has_several asked.told.nodes ∙ several_is participants

  not_kept : kept_of n.state.kept id ≡ None → (k : Kept) → In k n.state.kept → number k.id ≡ t → ⊥
  not_kept unkept k h e =
      let shown = asked.shows.records k h in
      let kept : machine.is_kept s m v.records (number k.id) ≡ true = asked.shows.kept k.id shown.typed ∙ found_in k n.state.kept h in
      let never : machine.is_kept s m v.records t ≡ false = asked.shows.kept id asked.typed ∙ ap (λ (o : Option Kept). is_some o) unkept in
      not_two (machine.is_kept s m v.records t) (ap (machine.is_kept s m v.records) (sym e) ∙ kept) never

  other_test : (u : ℕ) → (u ≡ t → ⊥) → (t == u) ≡ false
  other_test u other = ne_eqb t u (λ e. other (sym e))

  seen_before : (u : ℕ) → (u ≡ t → ⊥) → (a : ℕ) → v.seen u a ≡ cond (u == t) v.image (v.seen u) a
  seen_before u other a = ap (λ b. cond b v.image (v.seen u) a) (sym (ne_eqb u t other))

  abbrev vote_now : Vote
  vote_now = vote.Granted (reads_of n.state.image items)

  abbrev view_now : machine.View
  view_now = after_record s m (after_record s m v (Grant t)) (Commit t)

  read_now : reads_of n.state.image items ≡ mini.reads_of s t m (cond (t == t) v.image (v.seen t))
  read_now =
      reads_are n.state.image v.image asked.shows.image items (within s m n v id participants items asked) ∙ ap (map (map v.image)) (sym asked.told.read)
      ∙ ap (λ b. mini.reads_of s t m (cond b v.image (v.seen t))) (sym (eq-eqb t t refl))

  granted_state : is_logged (s.mini t) ≡ true → has_several (nodes_of s t) ≡ false → kept_of n.state.kept id ≡ None → node.standing n.state id ≡ Above
      → Shows s m (after_one n.state (Some (entry.Single id vote_now (writes_of items)))) view_now
  granted_state logged alone unkept above =
      record {
        floors = floor_moves s m n v id named vote_now;
        votes = votes_after s m n v id named view_now vote_now above (λ granted fresh. (logged, read_now))
            (λ c f was other. vote_alike s m v view_now f.id f.vote (seen_before (number f.id) (other_number s m n v id named c f was other)) (asked.shows.votes c f was).1);
        kept = λ other typed.
            same_kept (t == number other) (machine.has_grant v.records (number other)) (has_several (participants_at s m (number other))) (not (machine.has_forget v.records (number other)))
            (λ is. ap (λ u. has_several (participants_at s m u)) (sym (eqb-true t (number other) is)) ∙ ap has_several named_by ∙ alone)
            ∙ asked.shows.kept other typed;
        ascending = asked.shows.ascending;
        typed = λ u is.
            asked.shows.typed u (sym (same_kept (t == u) (machine.has_grant v.records u) (has_several (participants_at s m u)) (not (machine.has_forget v.records u))
            (λ e. ap (λ x. has_several (participants_at s m x)) (sym (eqb-true t u e)) ∙ ap has_several named_by ∙ alone)) ∙ is);
        records = λ k h.
            let shown = asked.shows.records k h in
            let other = not_kept unkept k h in
            record {
              typed = shown.typed;
              granted = shown.granted;
              vote = vote_alike s m v view_now k.id k.vote (seen_before (number k.id) other) shown.vote;
              participants = shown.participants;
              undecided =
                  ap (λ b. (b || machine.has_grant v.records (number k.id)) && not (b || machine.has_decision v.records (number k.id))) (other_test (number k.id) other)
                  ∙ shown.undecided;
              decision = λ commit is. inr (inr (shown.decision commit is));
              locked = shown.locked;
              written = shown.written;
            };
        within = λ k h. same_size k.writes (length n.state.image) (length (written n.state.image (writes_of items)))
            (sym (length_written (writes_of items) n.state.image (writes_within (length n.state.image) items (within s m n v id participants items asked)))) (asked.shows.within k h);
        undecided = λ u is. asked.shows.undecided u (apart_from (t == u) (machine.has_grant v.records u) (machine.has_decision v.records u) is).1;
        granted = λ u is.
            still_granted (t == u) (t == u) (machine.has_decision v.records u) (machine.has_forget v.records u) (machine.has_grant v.records u) (λ e. e) (asked.shows.granted u) is;
        image = λ at count fits.
            image_after (writes_of items) n.state.image v.image asked.shows.image (writes_within (length n.state.image) items (within s m n v id participants items asked)) at count fits
            ∙ map_alike (λ a. unwrap_or (written_in (writes_of items) a) (v.image a)) (λ a. unwrap_or ((s.mini t).writes m a) (v.image a)) (cells_from at count)
            (λ a h. ap (λ o. unwrap_or o (v.image a)) (sym (asked.told.written a)));
      }

  -- ---- Granted by one of several

  -- above the floor nothing was granted yet
  not_granted : node.standing n.state id ≡ Above → machine.has_grant v.records t ≡ false
  not_granted above = false_from_ne_true (machine.has_grant v.records t) (λ is. go (floor_at n.state.floors id.coord) refl above (has_grant-In v.records t is))
    where
      go : (floor : Option Floor) → floor_at n.state.floors id.coord ≡ floor → node.to_floor floor id ≡ Above → In (Grant t) v.records → ⊥
      go None is free there = (floors_are_greatest s v.records id.coord).0 (asked.shows.floors id.coord ∙ ap shown_floor is) t None there asked.told.coordinator
      go (Some f) is free there = by_order (precedes f.id id) (is_same f.id id) (order_is f.id id (asked.shows.votes id.coord f is).0 asked.typed) free
        where
          least : t ≤ number f.id
          least = ((floors_are_greatest s v.records id.coord).1 (number f.id) (reason_of f.vote) (asked.shows.floors id.coord ∙ ap shown_floor is)).2 t None there asked.told.coordinator

          by_order : (a b : Bool) → nat_lt (number f.id) t ≡ a → cond a Above (cond b (At f.vote) (Below f.id)) ≡ Above → ⊥
          by_order true b e h = let low = least in let less = ltb-true (number f.id) t e in omega (arith, low, less)
          by_order false true e h = absurd cc
          by_order false false e h = absurd cc

  abbrev record_now : Kept
  record_now = record { id = id; participants = participants; vote = vote_now; ranges = map range_of items; writes = writes_of items; decision = None }

  -- a record is found among one more
  kept_more : (kept : List Kept) (other : TxId) → is_some (kept_of (placed_in record_now kept) other) ≡ (is_some (kept_of kept other) || is_same id other)
  kept_more [] other = go (is_same id other)
    where
      go : (b : Bool) → is_some (cond b (Some record_now) None) ≡ b
      go true = refl
      go false = refl
  kept_more (k ∷ kept) other = by_order (precedes k.id id) (kept_more kept other)
    where
      before : (c d : Bool) → is_some (kept_of (placed_in record_now kept) other) ≡ (is_some (kept_of kept other) || d)
          → is_some (cond c (Some k) (kept_of (placed_in record_now kept) other)) ≡ (is_some (cond c (Some k) (kept_of kept other)) || d)
      before true d rest = refl
      before false d rest = rest

      behind : (c d : Bool) → is_some (cond d (Some record_now) (cond c (Some k) (kept_of kept other))) ≡ (is_some (cond c (Some k) (kept_of kept other)) || d)
      behind true true = refl
      behind false true = sym (or_true (is_some (kept_of kept other)))
      behind true false = refl
      behind false false = sym (or_false (is_some (kept_of kept other)))

      by_order : (b : Bool) → is_some (kept_of (placed_in record_now kept) other) ≡ (is_some (kept_of kept other) || is_same id other)
          → is_some (kept_of (cond b (k ∷ placed_in record_now kept) (record_now ∷ k ∷ kept)) other) ≡ (is_some (kept_of (k ∷ kept) other) || is_same id other)
      by_order true rest = before (is_same k.id other) (is_same id other) rest
      by_order false rest = behind (is_same k.id other) (is_same id other)

  abbrev view_kept : machine.View
  view_kept = after_record s m v (Grant t)

  never_decided : node.standing n.state id ≡ Above → (machine.has_decision v.records t ≡ false) × (machine.has_forget v.records t ≡ false)
  never_decided above =
      or_parts (machine.has_decision v.records t) (machine.has_forget v.records t)
      (false_from_ne_true (machine.has_decision v.records t || machine.has_forget v.records t) (λ is. not_two (machine.has_grant v.records t) (asked.shows.granted t is) (not_granted above)))

  kept_state : is_logged (s.mini t) ≡ true → has_several (nodes_of s t) ≡ true → kept_of n.state.kept id ≡ None → node.standing n.state id ≡ Above
      → Shows s m (after_one n.state (Some (entry.Prepared id participants vote_now (map range_of items) (writes_of items)))) view_kept
  kept_state logged many unkept above =
      record {
        floors = floor_moves s m n v id named vote_now;
        votes = votes_after s m n v id named view_kept vote_now above (λ granted fresh. (logged, read_now))
            (λ c f was other. vote_alike s m v view_kept f.id f.vote (seen_before (number f.id) (other_number s m n v id named c f was other)) (asked.shows.votes c f was).1);
        kept = λ other typed.
            more_kept (t == number other) (machine.has_grant v.records (number other)) (has_several (participants_at s m (number other))) (not (machine.has_forget v.records (number other)))
            (λ is. subst (λ u. (has_several (participants_at s m u) && not (machine.has_forget v.records u)) ≡ true) (eqb-true t (number other) is)
            (and_from (has_several (participants_at s m t)) _ (ap has_several named_by ∙ many) (not_from_false (machine.has_forget v.records t) (never_decided above).1)))
            ∙ ap (λ b. b || (t == number other)) (asked.shows.kept other typed)
            ∙ ap (λ b. is_some (kept_of n.state.kept other) || b) (sameness_is id other asked.typed typed)
            ∙ sym (kept_more n.state.kept other);
        ascending = ascending_placed record_now n.state.kept asked.shows.ascending unkept;
        typed = λ u is. keeps u (t == u) refl is;
        records = λ k h. elim (In-placed k record_now n.state.kept h) [
          | inl own ↦ subst (λ (x : Kept). IsShownRecord s m view_kept x) (sym own) new_record
          | inr before ↦ older k before
        ];
        within = λ k h. elim (In-placed k record_now n.state.kept h) [
          | inl own ↦
              subst (λ (x : Kept). AreWritesWithin (length n.state.image) x.writes) (sym own) (writes_within (length n.state.image) items (within s m n v id participants items asked))
          | inr before ↦ asked.shows.within k before
        ];
        undecided = λ u is. go u (t == u) refl is;
        granted = λ u is.
            still_granted (t == u) false (machine.has_decision v.records u) (machine.has_forget v.records u) (machine.has_grant v.records u) (λ e. absurd cc) (asked.shows.granted u) is;
        image = asked.shows.image;
      }
    where
      older : (k : Kept) → In k n.state.kept → IsShownRecord s m view_kept k
      older k before =
          let shown = asked.shows.records k before in
          let other = not_kept unkept k before in
          record {
            typed = shown.typed;
            granted = shown.granted;
            vote = vote_alike s m v view_kept k.id k.vote (seen_before (number k.id) other) shown.vote;
            participants = shown.participants;
            undecided = ap (λ b. (b || machine.has_grant v.records (number k.id)) && not (machine.has_decision v.records (number k.id))) (other_test (number k.id) other) ∙ shown.undecided;
            decision = λ commit is. inr (shown.decision commit is);
            locked = shown.locked;
            written = shown.written;
          }

      new_record : IsShownRecord s m view_kept record_now
      new_record =
          record {
            typed = asked.typed;
            granted = refl;
            vote = λ granted fresh. (logged, read_now);
            participants = sym (named_by ∙ asked.told.nodes);
            undecided =
                ap (λ b. (b || machine.has_grant v.records t) && not (machine.has_decision v.records t)) (eq-eqb t t refl)
                ∙ not_from_false (machine.has_decision v.records t) (never_decided above).0;
            decision = λ commit is. absurd cc;
            locked = λ is. asked.told.touched;
            written = λ is. asked.told.written;
          }

      keeps : (u : ℕ) (b : Bool) → (t == u) ≡ b
          → ((b || machine.has_grant v.records u) && (has_several (participants_at s m u) && not (machine.has_forget v.records u))) ≡ true
          → (k : Kept) × In k (placed_in record_now n.state.kept) × (number k.id ≡ u)
      keeps u true e is = (record_now, placed-In record_now record_now n.state.kept (inl refl), eqb-true t u e)
      keeps u false e is = let found = asked.shows.typed u is in (found.0, placed-In found.0 record_now n.state.kept (inr found.1), found.2)

      go : (u : ℕ) (b : Bool) → (t == u) ≡ b → ((b || machine.has_grant v.records u) && not (machine.has_decision v.records u)) ≡ true
          → (k : Kept) × In k (placed_in record_now n.state.kept) × (number k.id ≡ u)
      go u true e is = (record_now, placed-In record_now record_now n.state.kept (inl refl), eqb-true t u e)
      go u false e is = let found = asked.shows.undecided u is in (found.0, placed-In found.0 record_now n.state.kept (inr found.1), found.2)

  -- ---- each rule

  -- a new vote is cast above the floor, where no record is kept
  abbrev IsNew : Type 0
  IsNew = (kept_of n.state.kept id ≡ None) × (node.standing n.state id ≡ Above)

  abbrev IsCastAbove : Rule → Type 0
  IsCastAbove (RecordAgain x) = Unit {0}
  IsCastAbove (FloorAgain x) = Unit {0}
  IsCastAbove (ForcedBy floor) = Unit {0}
  IsCastAbove (HeldBy cut) = IsNew
  IsCastAbove (LockedBy holder) = IsNew
  IsCastAbove (MismatchAt difference) = IsNew
  IsCastAbove Passes = IsNew

  cast_above : (r : Rule) → IsNew → IsCastAbove r
  cast_above (RecordAgain x) new = tt
  cast_above (FloorAgain x) new = tt
  cast_above (ForcedBy floor) new = tt
  cast_above (HeldBy cut) new = new
  cast_above (LockedBy holder) new = new
  cast_above (MismatchAt difference) new = new
  cast_above Passes new = new

  by_standing : (x : Standing) → kept_of n.state.kept id ≡ None → node.standing n.state id ≡ x → IsCastAbove (node.rule_by_floor x (node.rule_above n items))
  by_standing Above none is = cast_above (node.rule_above n items) (none, is)
  by_standing (At y) none is = tt
  by_standing (Below floor) none is = tt

  by_record : (kept : Option Kept) → kept_of n.state.kept id ≡ kept → IsCastAbove (node.rule_by_record kept (node.rule_by_floor (node.standing n.state id) (node.rule_above n items)))
  by_record (Some k) is = tt
  by_record None is = by_standing (node.standing n.state id) is refl

  abbrev ShowsAfter : Option Entry → Type 0
  ShowsAfter e = Shows s m (after_one n.state e) (after_records s m v (records_of e))

  refuses_state : (x : Vote) → is_granted x ≡ false → node.entry_of_vote id participants items x ≡ entry.Refused id x → IsNew
      → ShowsAfter (node.casts n id participants items x).entry
  refuses_state x is same new = go (node.is_logged participants items)
    where
      go : (b : Bool) → ShowsAfter (cond b (node.appends n (node.entry_of_vote id participants items x) (Voted id x)) (node.answers n (Voted id x))).entry
      go true = subst (λ (e : Entry). ShowsAfter (Some e)) (sym same) (refused_state s m n v id named x is new.1)
      go false = asked.shows

  grants_state : IsNew → ShowsAfter (node.casts n id participants items vote_now).entry
  grants_state new = go (node.is_logged participants items) (node.has_several participants) asked.told.logged several
    where
      go : (b c : Bool) → is_logged (s.mini t) ≡ b → has_several (nodes_of s t) ≡ c
          → ShowsAfter (cond b (node.appends n (cond c (entry.Prepared id participants vote_now (map range_of items) (writes_of items)) (entry.Single id vote_now (writes_of items))) (Voted id vote_now)) (node.answers n (Voted id vote_now))).entry
      go true true logged many = kept_state logged many new.0 new.1
      go true false logged alone = granted_state logged alone new.0 new.1
      go false c logged either = asked.shows

  by_rule_state : (r : Rule) → IsCastAbove r → ShowsAfter (node.by_rule n id participants items r).entry
  by_rule_state (RecordAgain x) new = asked.shows
  by_rule_state (FloorAgain x) new = asked.shows
  by_rule_state (ForcedBy floor) new = asked.shows
  by_rule_state (HeldBy cut) new = refuses_state (vote.Held cut) refl refl new
  by_rule_state (LockedBy holder) new = refuses_state (vote.Locked holder) refl refl new
  by_rule_state (MismatchAt d) new = refuses_state (vote.Mismatch d.place d.kept) refl refl new
  by_rule_state Passes new = grants_state new

  pub vote_state : ShowsAfter (node.on_prepare n id participants items).entry
  vote_state = by_rule_state (node.rule_for n id items) (by_record (kept_of n.state.kept id) refl)

pub state_is : StatesAreTheMachines
state_is s m n w id participants items asked =
    let v = machine.view w m in
    let appends = (machine.on_prepare s m (cut_held n.copy) v (number id)).appends in
    let e = (node.on_prepare n id participants items).entry in
    shows_alike s m (after_one n.state e) (after_records s m v appends) (machine.view (after_all s w (appending s w m appends)) m) (alike_after_all s m v w appends (alike_self s m v))
    (subst (λ rs. Shows s m (after_one n.state e) (after_records s m v rs)) (sym (vote_is s m n v id participants items asked).appends) (vote_state s m n v id participants items asked))
