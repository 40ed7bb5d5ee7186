-- What happens to a node of a story happens in the machine.
use Rattle.std.proofs.Common.{◌≡◌, inl, inr, ◌<◌, ◌^◌, ℕ, ◌==◌, Bool, true, false, not, cond, ◌&&◌, List, [], ◌∷◌, ◌++◌, map, filter, Option, Some, refl, sym, ap, subst, ◌∙◌, if◌then◌else◌}
use Rattle.std.specs.List.{flat_map}
use Rattle.std.proofs.lemmas.Bool.{cases_eq, eq-eqb, ne_eqb}
use Rattle.lock_table.proofs.OrderLemmas.{is_one}
use Rattle.mini_tx.specs.declared.actor.Actor.{Actor}
use Rattle.mini_tx.specs.declared.actor.Actor.TheVariants.{Node, Memory, Manager}
use Rattle.mini_tx.specs.declared.message.Message as sent
use Rattle.mini_tx.specs.declared.message.Message.TheVariants as message
use Rattle.mini_tx.specs.declared.tx_id.TxId.{TxId}
use Rattle.mini_tx.specs.declared.vote.Vote.{Vote}
use Rattle.mini_tx.specs.declared.vote.Vote.TheVariants as vote
use Rattle.mini_tx.specs.Laws.{IsTypedId}
use Rattle.mini_tx.specs.Order.{is_same}
use Rattle.tx_coord.specs.declared.finishing.Finishing.{Finishing}
use Rattle.tx_coord.specs.declared.outcome.Outcome.TheVariants.{Committed, Refused}
use Rattle.tx_coord.specs.declared.running.Running.{Running}
use Rattle.tx_coord.specs.State as coord
use Rattle.tx_coord.specs.Rules as rules
use Rattle.tx_rules.specs.Decision.{Reason, Mismatch, Locked, Forced, Held}
use Rattle.tx_rules.specs.Mini.{In, Setting, is_logged}
use Rattle.tx_rules.specs.World.{World, Message, Posts, after_all}
use Rattle.tx_rules.specs.World as world
use Rattle.tx_rules.proofs.FaithfulLemmas.{in_front, in_back, in_either}
use Rattle.tx_actors.specs.Coordinator as machine
use Rattle.tx_actors.specs.Machine as whole
use Rattle.tx_actors.specs.Machine.{Input, ToCoordinator, with_coordinator, acts, to_coordinator, numbered, steps}
use Rattle.tx_actors.proofs.FitLemmas.{begun_all, posts_begin}
use Rattle.tx_actors.proofs.LawLemmas.{identifiers_tell}
use Rattle.mem_laws.specs.Cells.{number, cut_number}
use Rattle.mem_laws.specs.Shown.{posted, reason_of}
use Rattle.mem_laws.specs.Steps.{shown_answer}
use Rattle.coord_laws.specs.Laws.{IsFit, EndsAlike}
use Rattle.coord_laws.specs.Shown as ties
use Rattle.coord_laws.specs.Shown.{ShowsCoordinator, ShowsEnd, shown_votes}
use Rattle.coord_laws.proofs.DoneLemmas.{done_is_the_machines}
use Rattle.coord_laws.proofs.StepLemmas.{granted_votes_are_the_machines, refused_votes_are_the_machines}
use Rattle.story_rules.specs.Story.{Begun, Story}
use Rattle.story_rules.specs.Steps as story_steps
use Rattle.story_rules.specs.Steps.{sent_by, refused_by, stepped}
use Rattle.story_laws.specs.Beginnings.{WasBegun, RunsBegun, IsAboutBegun}
use Rattle.story_shown.specs.History.{last_id}
use Rattle.story_laws.proofs.GrowthLemmas.{none, both_true}
use Rattle.story_laws.proofs.IdentifierLemmas.{heard_same}
use Rattle.story_shown.proofs.ShownLemmas.{GoesTo, IsShownPost, RunsOwn, IsOwn, HasEnded, IsShownActor, IsShownSeat, HasFailed, IsShown, Follows, IsSeatChange, seat_shown}
use Rattle.story_shown.proofs.ShownLemmas as shown
use Rattle.story_shown.proofs.NodeLemmas.{posts_view, posts_points, posted_stays, posts_here}
use Rattle.story_shown.proofs.DeliverLemmas.{GoesOn, in_numbered}
use Rattle.story_shown.proofs.OwnLemmas.{AllGo, vote_own, done_own, vote_go, done_go}

-- ---- the machine's step

-- the machine's coordinator of a node acts
abbrev pub acted : whole.State → ℕ → machine.Act → Setting → whole.State
acted st n act s =
    record {
      world = after_all s st.world (map Posts act.posts);
      coordinator = with_coordinator n act.now st.coordinator;
      manager = st.manager;
      outcomes = act.ends ++ st.outcomes;
    }

pub acted_now : (s : Setting) (st : whole.State) (n : ℕ) (act : machine.Act) → act.now ≡ (acted st n act s).coordinator n
acted_now s st n act = ap (λ (b : Bool). cond b act.now (st.coordinator n)) (sym (eq-eqb n n refl))

pub acted_follows : (s : Setting) (st : whole.State) (n : ℕ) (act : machine.Act) → Follows n st (acted st n act s)
acted_follows s st n act = record {
  views = λ m. posts_view s st.world act.posts m;
  points = posts_points s st.world act.posts;
  posted = λ y is. posted_stays s st.world (map Posts act.posts) y is;
  outcomes = λ o is. in_back o act.ends st.outcomes is;
  others = λ d other. ap (λ (b : Bool). cond b act.now (st.coordinator d)) (ne_eqb d n other);
}

pub stands_still : (n : ℕ) (st : whole.State) → Follows n st st
stands_still n st = record { views = λ m. refl; points = refl; posted = λ y is. is; outcomes = λ o is. is; others = λ d other. refl }

refused_same : (ph : coord.Phase) → refused_by ph ph ≡ []
refused_same coord.Free = refl
refused_same (coord.Runs r) = refl
refused_same (coord.Ended outcome) = refl

-- ---- a coordinator of the story acts as the machine's

module _ (s : Setting) (size : ℕ) (story : Story) (st : whole.State) (all : IsShown s size story st) (n boot : ℕ) (c : coord.State) where
  -- what a step of the coordinator has to show
  pub record IsActing (step : rules.Step) (act : machine.Act) : Type 0 where
    pub shows : ties.IsShownStep s step act
    pub own : IsOwn step.now
    pub few : step.now.begun < 2 ^ 64
    pub ended : HasEnded story.begun step.now step.now.phase (act.ends ++ st.outcomes)
    pub failed : (id : TxId) → In id (refused_by c.phase step.now.phase) → HasFailed (act.ends ++ st.outcomes) id
    pub goes : AllGo s step.posts

  pub acts_shown : (step : rules.Step) (act : machine.Act) → IsActing step act → IsShown s size (stepped story n boot c step) (acted st n act s)
  acts_shown step act acting =
      seat_shown s size story (stepped story n boot c step) n (record { boot = boot; actor = Some step.now }) step.posts st (acted st n act s) (acted_follows s st n act) (record {
        opening = refl;
        sites = refl;
        logs = refl;
        nodes = refl;
        posted = refl;
        committed = refl;
        casts = refl;
        adds = none story.begun;
        shows = record {
          shows = subst (λ (x : machine.Coordinator). ShowsCoordinator s step.now x) (acted_now s st n act) acting.shows.shows;
          own = acting.own;
          few = acting.few;
          ended = acting.ended;
        };
        posts_show = λ o is. let it = acting.shows.posts o is in (it.0, posts_here s st.world act.posts it.0 it.1, it.2, acting.goes o is);
        begun = λ b is. begun_all s st.world (map Posts act.posts) (number b.id) (all.begun b is);
        known = λ t is. all.known t (posts_begin s st.world act.posts t is);
        refused = λ id is. elim (in_either id story.refused (refused_by c.phase step.now.phase) is) [
          | inl old ↦ let it = all.refused id old in (it.0, it.1, in_back (machine.Failed (number id) it.0 it.1) act.ends st.outcomes it.2)
          | inr new ↦ acting.failed id new
        ];
      }) all

  -- or it does nothing
  pub quiet_shown : IsShownActor s story.begun c (st.coordinator n) st.outcomes → IsShown s size (stepped story n boot c (rules.quiet c)) st
  quiet_shown actor =
      seat_shown s size story (stepped story n boot c (rules.quiet c)) n (record { boot = boot; actor = Some c }) [] st st (stands_still n st) (record {
        opening = refl;
        sites = refl;
        logs = refl;
        nodes = refl;
        posted = refl;
        committed = refl;
        casts = refl;
        adds = none story.begun;
        shows = actor;
        posts_show = λ o is. absurd is;
        begun = all.begun;
        known = all.known;
        refused = λ id is. elim (in_either id story.refused (refused_by c.phase c.phase) is) [
          | inl old ↦ all.refused id old
          | inr new ↦ absurd (subst (λ (l : List TxId). In id l) (refused_same c.phase) new)
        ];
      }) all

-- ---- a message is heard

-- what the machine's coordinators do with a message of a number
abbrev pub at_coordinator : Setting → whole.State → Option Message → whole.State
at_coordinator s st o =
    let mv = to_coordinator s st o in
    record { world = after_all s st.world mv.events; coordinator = mv.coordinator; manager = mv.manager; outcomes = mv.outcomes }

abbrev hears_granted : Setting → whole.State → ℕ → ℕ → List (List ℕ) → ℕ → whole.State
hears_granted s st m t reads d = acted st d (machine.hear_granted s (st.coordinator d) m t reads (st.coordinator d).running) s

abbrev hears_refused : Setting → whole.State → ℕ → ℕ → Reason → ℕ → whole.State
hears_refused s st m t why d = acted st d (machine.hear_refused s (st.coordinator d) m t why (st.coordinator d).running) s

granted_or_look : (s : Setting) (st : whole.State) (m t : ℕ) (reads : List (List ℕ)) (b : Bool)
    → hears_granted s st m t reads (s.coord t) ≡ at_coordinator s st (Some (if b then world.Granted m t reads else world.Looked m t reads))
granted_or_look s st m t reads true = refl
granted_or_look s st m t reads false = refl

one_message : (x y : Message) → ◌≡◌ {A = List Message} (x ∷ []) (y ∷ []) → x ≡ y
one_message x y same = cc

module _ (s : Setting) (size : ℕ) (story : Story) (st : whole.State) (all : IsShown s size story st) (fit : shown.IsFit s size story) (n boot : ℕ) (c : coord.State)
    (actor : IsShownActor s story.begun c (st.coordinator n) st.outcomes) (seated : c.coord ≡ n) (running : RunsBegun story.begun c.phase) where
  abbrev x : machine.Coordinator
  x = st.coordinator n

  pub stays_quiet : GoesOn s size st (stepped story n boot c (rules.quiet c))
  stays_quiet = (st, [], refl, quiet_shown s size story st all n boot c actor)

  coord_is : (id : TxId) → WasBegun story.begun id → s.coord (number id) ≡ id.coord
  coord_is id was =
      let typed : IsTypedId id = subst (λ (t : TxId). IsTypedId t) was.2 (fit.typed was.0 was.1) in
      fit.fits.coordinators (number id) ∙ identifiers_tell id.coord id.boot id.seq typed.1 typed.2

  typed_id : (id : TxId) → WasBegun story.begun id → IsTypedId id
  typed_id id was = subst (λ (t : TxId). IsTypedId t) was.2 (fit.typed was.0 was.1)

  -- ---- a vote

  module _ (m : ℕ) (id : TxId) (was : WasBegun story.begun id) (r : Running) (runs : c.phase ≡ coord.Runs r) where
    mine : r.id ≡ last_id c
    mine = subst (λ (ph : coord.Phase). RunsOwn c ph) runs actor.own.runs

    begun_as : (b : Begun) × In b story.begun × (b.id ≡ r.id) × (b.items ≡ r.mini)
    begun_as = subst (λ (ph : coord.Phase). RunsBegun story.begun ph) runs running

    -- how what ran has ended
    has_ended : (d : coord.State) (ph : coord.Phase) (ends : List machine.Outcome) → last_id d ≡ last_id c → ShowsEnd r ph ends → HasEnded story.begun d ph (ends ++ st.outcomes)
    has_ended d coord.Free ends same shows = tt
    has_ended d (coord.Runs q) ends same shows = tt
    has_ended d (coord.Ended (Committed reads)) ends same shows =
        let b = begun_as in
        let here : In (machine.Committed (number b.0.id) (shown_votes shows.0)) (ends ++ st.outcomes) =
        in_front (machine.Committed (number b.0.id) (shown_votes shows.0)) ends st.outcomes
        (subst (λ (l : List machine.Outcome). In (machine.Committed (number b.0.id) (shown_votes shows.0)) l) (sym shows.1)
        (inl (ap (λ (t : TxId). machine.Committed (number t) (shown_votes shows.0)) b.2))) in
        (b.0, b.1, b.2 ∙ mine ∙ sym same, shows.0, here, shows.2 ∙ ap (rules.gathered shows.0) (sym b.3))
    has_ended d (coord.Ended (Refused k v)) ends same shows = tt

    has_failed : (ph : coord.Phase) (ends : List machine.Outcome) → ShowsEnd r ph ends → (t : TxId) → In t (refused_by (coord.Runs r) ph) → HasFailed (ends ++ st.outcomes) t
    has_failed coord.Free ends shows t is = absurd is
    has_failed (coord.Runs q) ends shows t is = absurd is
    has_failed (coord.Ended (Committed reads)) ends shows t is = absurd is
    has_failed (coord.Ended (Refused k v)) ends shows t is = elim is [
      | inl one ↦ (
        k,
        shows.0,
        in_front (machine.Failed (number t) k shows.0) ends st.outcomes
            (subst (λ (l : List machine.Outcome). In (machine.Failed (number t) k shows.0) l) (sym shows.2) (inl (ap (λ (u : TxId). machine.Failed (number u) k shows.0) one))),
      )
      | inr none_ ↦ absurd none_
    ]

    -- the vote counts
    module _ (v : Vote) (counts : rules.counts r m id v ≡ true) where
      abbrev step : rules.Step
      step = rules.heard c m (message.Voted id v)

      step_is : step ≡ rules.after_vote c (rules.counted r m v)
      step_is =
          ap (λ (ph : coord.Phase). rules.on_vote c m id v ph) runs
          ∙ ap (λ (b : Bool). if b then rules.after_vote c (rules.counted r m v) else rules.quiet c) counts

      fits_it : rules.fits (rules.placed_for r.mini m) v ≡ true
      fits_it =
          (both_true (rules.is_in m (rules.missing r)) (rules.fits (rules.placed_for r.mini m) v)
          (both_true (is_same r.id id) (rules.is_in m (rules.missing r) && rules.fits (rules.placed_for r.mini m) v) counts).1).1

      is_mine : r.id ≡ id
      is_mine = is_one r.id id (both_true (is_same r.id id) (rules.is_in m (rules.missing r) && rules.fits (rules.placed_for r.mini m) v) counts).0

      at_home : s.coord (number id) ≡ n
      at_home = coord_is id was ∙ ap (λ (t : TxId). t.coord) (sym is_mine ∙ mine) ∙ seated

      is_fit : IsFit c.phase m id v
      is_fit = subst (λ (ph : coord.Phase). IsFit ph m id v) (sym runs) (λ same. fits_it)

      acting : (act : machine.Act) → ties.IsShownStep s step act → EndsAlike c.phase step.now.phase act.ends → IsActing s size story st all n boot c step act
      acting act shows alike =
          let same = heard_same c m (message.Voted id v) in
          let ends : ShowsEnd r step.now.phase act.ends = subst (λ (ph : coord.Phase). EndsAlike ph step.now.phase act.ends) runs alike in
          record {
            shows = shows;
            own = vote_own c actor.own r m id v c.phase refl runs;
            few = subst (λ (k : ℕ). k < 2 ^ 64) (sym same.begun) actor.few;
            ended = has_ended step.now step.now.phase act.ends
                (ap (λ (k : ℕ). let t : TxId = record { coord = k; boot = step.now.boot; seq = step.now.begun } in t) same.coord
                ∙ ap (λ (k : ℕ). let t : TxId = record { coord = c.coord; boot = k; seq = step.now.begun } in t) same.boot
                ∙ ap (λ (k : ℕ). let t : TxId = record { coord = c.coord; boot = c.boot; seq = k } in t) same.begun) ends;
            failed = λ t is. has_failed step.now.phase act.ends ends t (subst (λ (ph : coord.Phase). In t (refused_by ph step.now.phase)) runs is);
            goes = subst (λ (q : rules.Step). AllGo s q.posts) (sym step_is) (vote_go s c x actor.shows r m v runs);
          }

  -- the machine's coordinator hears it
  module _ (m : ℕ) (id : TxId) (was : WasBegun story.begun id) (y : Message) (there : In y st.world.posted) (r : Running) (runs : c.phase ≡ coord.Runs r) where
    number_of : (j : ℕ) × (numbered st.world.posted j ≡ Some y)
    number_of = in_numbered st.world.posted y there

    refused_goes : (v : Vote) (why : Reason) → rules.counts r m id v ≡ true → reason_of v ≡ Some why → world.Refused m (number id) why ≡ y
        → GoesOn s size st (stepped story n boot c (rules.heard c m (message.Voted id v)))
    refused_goes v why counts reason shown_as =
        let law = refused_votes_are_the_machines s c x m id v why actor.shows (typed_id id was) (is_fit m id was r runs v counts) reason in
        let act = machine.hear_refused s x m (number id) why x.running in (
          acted st n act s,
          ToCoordinator number_of.0 ∷ [],
          ap (hears_refused s st m (number id) why) (sym (at_home m id was r runs v counts)) ∙ ap (λ (p : Message). at_coordinator s st (Some p)) shown_as
              ∙ ap (at_coordinator s st) (sym number_of.1),
          acts_shown s size story st all n boot c (rules.heard c m (message.Voted id v)) act (acting m id was r runs v counts act law.0 law.1),
        )

    granted_goes : (reads : List (List ℕ)) → rules.counts r m id (vote.Granted reads) ≡ true → posted m (number id) (is_logged (s.mini (number id))) (vote.Granted reads) ≡ y
        → GoesOn s size st (stepped story n boot c (rules.heard c m (message.Voted id (vote.Granted reads))))
    granted_goes reads counts shown_as =
        let v = vote.Granted reads in
        let law = granted_votes_are_the_machines s c x m id reads actor.shows (typed_id id was) (is_fit m id was r runs v counts) in
        let act = machine.hear_granted s x m (number id) reads x.running in (
          acted st n act s,
          ToCoordinator number_of.0 ∷ [],
          ap (hears_granted s st m (number id) reads) (sym (at_home m id was r runs v counts)) ∙ granted_or_look s st m (number id) reads (is_logged (s.mini (number id)))
              ∙ ap (λ (p : Message). at_coordinator s st (Some p)) shown_as ∙ ap (at_coordinator s st) (sym number_of.1),
          acts_shown s size story st all n boot c (rules.heard c m (message.Voted id v)) act (acting m id was r runs v counts act law.0 law.1),
        )

    counted_goes : (v : Vote) → rules.counts r m id v ≡ true → shown_answer s m (Some (message.Voted id v)) ≡ y ∷ []
        → GoesOn s size st (stepped story n boot c (rules.heard c m (message.Voted id v)))
    counted_goes (vote.Granted reads) counts shown_as =
        granted_goes reads counts (one_message (posted m (number id) (is_logged (s.mini (number id))) (vote.Granted reads)) y shown_as)
    counted_goes (vote.Mismatch place kept) counts shown_as =
        refused_goes (vote.Mismatch place kept) (Mismatch place) counts refl (one_message (world.Refused m (number id) (Mismatch place)) y shown_as)
    counted_goes (vote.Locked holder) counts shown_as =
        refused_goes (vote.Locked holder) (Locked (number holder)) counts refl (one_message (world.Refused m (number id) (Locked (number holder))) y shown_as)
    counted_goes (vote.Forced floor) counts shown_as =
        refused_goes (vote.Forced floor) (Forced (number floor)) counts refl (one_message (world.Refused m (number id) (Forced (number floor))) y shown_as)
    counted_goes (vote.Held cut) counts shown_as =
        refused_goes (vote.Held cut) (Held (cut_number cut)) counts refl (one_message (world.Refused m (number id) (Held (cut_number cut))) y shown_as)

  abbrev Goes : rules.Step → Type 0
  Goes step = GoesOn s size st (stepped story n boot c step)

  as_quiet : (step : rules.Step) → step ≡ rules.quiet c → Goes step
  as_quiet step same = subst (λ (q : rules.Step). GoesOn s size st (stepped story n boot c q)) (sym same) stays_quiet

  vote_goes : (m : ℕ) (id : TxId) (v : Vote) → WasBegun story.begun id → (y : Message) → In y st.world.posted → shown_answer s m (Some (message.Voted id v)) ≡ y ∷ []
      → Goes (rules.heard c m (message.Voted id v))
  vote_goes m id v was y there shown_as = go c.phase refl
    where
      by_test : (r : Running) → c.phase ≡ coord.Runs r → (b : Bool) → rules.counts r m id v ≡ b → Goes (rules.heard c m (message.Voted id v))
      by_test r is true counts = counted_goes m id was y there r is v counts shown_as
      by_test r is false counts =
          as_quiet (rules.heard c m (message.Voted id v))
          (ap (λ (ph : coord.Phase). rules.on_vote c m id v ph) is ∙ ap (λ (b : Bool). if b then rules.after_vote c (rules.counted r m v) else rules.quiet c) counts)

      go : (ph : coord.Phase) → c.phase ≡ ph → Goes (rules.heard c m (message.Voted id v))
      go coord.Free is = as_quiet (rules.heard c m (message.Voted id v)) (ap (λ (ph : coord.Phase). rules.on_vote c m id v ph) is)
      go (coord.Ended outcome) is = as_quiet (rules.heard c m (message.Voted id v)) (ap (λ (ph : coord.Phase). rules.on_vote c m id v ph) is)
      go (coord.Runs r) is = by_test r is (rules.counts r m id v) refl

  -- ---- done

  module _ (m : ℕ) (id : TxId) (was : WasBegun story.begun id) where
    is_through_here : (y : Message) → In y st.world.posted → world.Done m (number id) ≡ y → id.coord ≡ n → Goes (rules.heard c m (message.Done id))
    is_through_here y there shown_as home =
        let number_of = in_numbered st.world.posted y there in
        let act = machine.hear_done s x m (number id) in (
          acted st n act s,
          ToCoordinator number_of.0 ∷ [],
          ap (λ (d : ℕ). acted st d (machine.hear_done s (st.coordinator d) m (number id)) s) (sym (coord_is id was ∙ home))
              ∙ ap (λ (p : Message). at_coordinator s st (Some p)) shown_as ∙ ap (at_coordinator s st) (sym number_of.1),
          acts_shown s size story st all n boot c (rules.heard c m (message.Done id)) act (record {
            shows = done_is_the_machines s c x m id actor.shows (typed_id id was);
            own = done_own c actor.own m id;
            few = actor.few;
            ended = actor.ended;
            failed = λ t is. absurd (subst (λ (l : List TxId). In t l) (refused_same c.phase) is);
            goes = done_go s c x actor.shows m id;
          }),
        )

    -- of another coordinator's identifier nothing is finishing
    module _ (other : ¬ (id.coord ≡ n)) where
      not_same : (f : Finishing) → f.id.coord ≡ c.coord → is_same f.id id ≡ false
      not_same f own = go (is_same f.id id) refl
        where
          go : (b : Bool) → is_same f.id id ≡ b → b ≡ false
          go true is = absurd (other (ap (λ (t : TxId). t.coord) (sym (is_one f.id id is)) ∙ own ∙ seated))
          go false is = refl

      noted_none : (fs : List Finishing) → ((f : Finishing) → In f fs → (f.id.coord ≡ c.coord) × (rules.is_through f ≡ false)) → map (rules.noted m id) fs ≡ fs
      noted_none [] all_own = refl
      noted_none (f ∷ fs) all_own =
          ap (λ (b : Bool). (if b then record f { waits = filter (λ k. not (k == m)) f.waits } else f) ∷ map (rules.noted m id) fs) (not_same f (all_own f (inl refl)).0)
          ∙ ap (λ (l : List Finishing). f ∷ l) (noted_none fs (λ g is. all_own g (inr is)))

      none_through : (fs : List Finishing) → ((f : Finishing) → In f fs → (f.id.coord ≡ c.coord) × (rules.is_through f ≡ false)) → filter rules.is_through fs ≡ []
      none_through [] all_own = refl
      none_through (f ∷ fs) all_own =
          ap (λ (b : Bool). cond b (f ∷ filter rules.is_through fs) (filter rules.is_through fs)) (all_own f (inl refl)).1 ∙ none_through fs (λ g is. all_own g (inr is))

      all_wait : (fs : List Finishing) → ((f : Finishing) → In f fs → (f.id.coord ≡ c.coord) × (rules.is_through f ≡ false)) → filter (λ f. not (rules.is_through f)) fs ≡ fs
      all_wait [] all_own = refl
      all_wait (f ∷ fs) all_own =
          ap (λ (b : Bool). cond (not b) (f ∷ filter (λ g. not (rules.is_through g)) fs) (filter (λ g. not (rules.is_through g)) fs)) (all_own f (inl refl)).1
          ∙ ap (λ (l : List Finishing). f ∷ l) (all_wait fs (λ g is. all_own g (inr is)))

      done_step : List Finishing → List Finishing → rules.Step
      done_step kept gone = record { now = record c { finishing = kept }; posts = flat_map rules.forget gone }

      is_quiet : rules.heard c m (message.Done id) ≡ rules.quiet c
      unfolding done_step
      is_quiet =
          ap (λ (fs : List Finishing). done_step (filter (λ f. not (rules.is_through f)) fs) (filter rules.is_through fs)) (noted_none c.finishing actor.own.finishing)
          ∙ ap (λ (fs : List Finishing). done_step fs (filter rules.is_through c.finishing)) (all_wait c.finishing actor.own.finishing)
          ∙ ap (λ (fs : List Finishing). done_step c.finishing fs) (none_through c.finishing actor.own.finishing)

    done_goes : (y : Message) → In y st.world.posted → shown_answer s m (Some (message.Done id)) ≡ y ∷ [] → Goes (rules.heard c m (message.Done id))
    done_goes y there shown_as = elim (cases_eq id.coord n) [
      | inl home ↦ is_through_here y there (one_message (world.Done m (number id)) y shown_as) home
      | inr other ↦ as_quiet (rules.heard c m (message.Done id)) (is_quiet other)
    ]

  heard_goes : (m : ℕ) (p : sent.Message) → IsAboutBegun story.begun (Node n) p → IsShownPost s st.world (Memory m) (Node n) p → Goes (rules.heard c m p)
  heard_goes m (message.Voted id v) about shown_as = vote_goes m id v about shown_as.0 shown_as.1 shown_as.2
  heard_goes m (message.Done id) about shown_as = done_goes m id about shown_as.0 shown_as.1 shown_as.2
  heard_goes m (message.Prepare id participants items) about shown_as = stays_quiet
  heard_goes m (message.Decide id commit) about shown_as = stays_quiet
  heard_goes m (message.Forget id) about shown_as = stays_quiet
  heard_goes m message.List about shown_as = stays_quiet
  heard_goes m (message.Kept ids cut) about shown_as = stays_quiet
  heard_goes m (message.Ask id) about shown_as = stays_quiet
  heard_goes m (message.Answer id ok) about shown_as = stays_quiet
  heard_goes m (message.Hold cut) about shown_as = stays_quiet
  heard_goes m (message.Held cut answer) about shown_as = stays_quiet
  heard_goes m (message.Release cut) about shown_as = stays_quiet
  heard_goes m (message.Drop cut) about shown_as = stays_quiet
  heard_goes m (message.ReadCut cut place) about shown_as = stays_quiet
  heard_goes m (message.Piece cut place bytes) about shown_as = stays_quiet

  pub from_goes : (from : Actor) (p : sent.Message) → IsAboutBegun story.begun (Node n) p → IsShownPost s st.world from (Node n) p → Goes (story_steps.heard_from c from p)
  from_goes (Memory m) p about shown_as = heard_goes m p about shown_as
  from_goes (Node k) p about shown_as = absurd shown_as
  from_goes Manager p about shown_as = absurd shown_as
