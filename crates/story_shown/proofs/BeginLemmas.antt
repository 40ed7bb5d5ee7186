-- A node of a story begins, posts again, gives up, crashes and starts as the machine's coordinator.
use Rattle.std.proofs.Common.{◌≡◌, inl, inr, ◌<◌, ◌≤◌, ◌+◌, ◌^◌, ℕ, zero, suc, Bool, true, cond, List, [], ◌∷◌, ◌++◌, map, Option, Some, None, refl, sym, ap, subst, ◌∙◌, slice_get, slice_set, lit<, arith}
use Rattle.std.proofs.lemmas.Bool.{eq-eqb, ne_eqb}
use Rattle.std.proofs.lemmas.List.{append-nil}
use Rattle.mini_tx.specs.declared.item.Item.{Item}
use Rattle.mini_tx.specs.Laws.{IsTypedId}
use Rattle.tx_coord.specs.declared.outcome.Outcome.TheVariants.{Committed, Refused}
use Rattle.tx_coord.specs.State as coord
use Rattle.tx_coord.specs.Rules as rules
use Rattle.tx_rules.specs.Mini.{In, Mini, Setting, nodes_of}
use Rattle.tx_rules.specs.World.{Event, Begins, Prepare, Posts, after, after_all}
use Rattle.tx_rules.proofs.FaithfulLemmas.{in_front, in_back, in_either}
use Rattle.tx_actors.specs.Coordinator as machine
use Rattle.tx_actors.specs.Machine as whole
use Rattle.tx_actors.specs.Machine.{Input, Begin, GiveUp, Resend, BootCoordinator, with_coordinator, acts, idle, steps}
use Rattle.tx_actors.specs.Numbers.{identifier}
use Rattle.tx_actors.proofs.FitLemmas.{begun_all, posts_begin}
use Rattle.tx_actors.proofs.LawLemmas.{identifiers_tell}
use Rattle.mem_laws.specs.Cells.{number}
use Rattle.coord_laws.specs.Shown as ties
use Rattle.coord_laws.specs.Shown.{IsKnown, ShowsCoordinator}
use Rattle.coord_laws.proofs.DoneLemmas.{resends_are_the_machines}
use Rattle.coord_laws.proofs.ListLemmas.{participants_are}
use Rattle.coord_laws.proofs.StepLemmas.{beginnings_are_the_machines, giving_up_is_the_machines, starts_are_the_machines}
use Rattle.story_rules.specs.Story.{Begun, Seat, Story}
use Rattle.story_rules.specs.Steps as story_steps
use Rattle.story_rules.specs.Steps.{sent_by, refused_by, stepped, with_actor}
use Rattle.story_laws.proofs.GrowthLemmas.{none}
use Rattle.story_shown.proofs.ShownLemmas.{IsOwn, HasEnded, IsShownActor, IsShownSeat, IsShown, IsFit, Follows, seat_shown}
use Rattle.story_shown.proofs.NodeLemmas.{posts_view, posts_points, posted_stays, posts_here}
use Rattle.story_shown.proofs.DeliverLemmas.{GoesOn}
use Rattle.story_shown.proofs.OwnLemmas.{given_own, cleared_own, begun_own, started_own, resent_go, begun_go}
use Rattle.story_shown.proofs.SeatLemmas.{acted, acted_follows, acted_now, stands_still}

-- ---- numbers

-- the next identifier of a boot is at most the last one that there could be
within_boot : (n boot seq : ℕ) → seq < 2 ^ 64 → identifier n boot (seq + 1) ≤ identifier n boot (2 ^ 64)
within_boot n boot seq few = omega (arith, few)

next_boot : (n before boot : ℕ) → before < boot → identifier n before (2 ^ 64) ≤ identifier n boot 1
next_boot n before boot less = omega (arith, less)

-- ---- begin

-- the node begins these items
abbrev pub begins : Story → ℕ → ℕ → coord.State → List Item → Story
begins story n boot c items =
    record (stepped story n boot c (rules.begun c items)) { begun = story.begun ++ record { id = rules.next_id c; items = items } ∷ [] }

module _ (s : Setting) (size : ℕ) (story : Story) (st : whole.State) (all : IsShown s size story st) (n boot : ℕ) (c : coord.State)
    (actor : IsShownActor s story.begun c (st.coordinator n) st.outcomes) (seated : c.coord ≡ n) where
  abbrev x : machine.Coordinator
  x = st.coordinator n

  module _ (items : List Item) (free : c.phase ≡ coord.Free) (typed : IsTypedId (rules.next_id c)) (fit : IsFit s size (begins story n boot c items)) where
    abbrev b : Begun
    b = record { id = rules.next_id c; items = items }

    abbrev t : ℕ
    t = number (rules.next_id c)

    abbrev now : Story
    now = begins story n boot c items

    new : In b now.begun
    new = in_back b story.begun (b ∷ []) (inl refl)

    nodes_are : nodes_of s t ≡ rules.participants_of items
    nodes_are = ap (λ (y : Mini). y.nodes) (fit.fits.minis b new) ∙ sym (participants_are items)

    known : IsKnown s (rules.next_id c) (rules.participants_of items)
    known = record { typed = typed; nodes = nodes_are }

    law : (machine.may_begin x t x.running ≡ true) × ties.IsShownStep s (rules.begun c items) (machine.begin x t)
    law = beginnings_are_the_machines s c x items actor.shows free known

    home : s.coord t ≡ n
    home = fit.fits.coordinators t ∙ identifiers_tell c.coord c.boot (c.begun + 1) typed.1 typed.2 ∙ seated

    -- where the machine's coordinator may begin
    abbrev began : ℕ → Bool → whole.State
    began d may =
        let mv = cond may (acts st d (Begins t ∷ []) (machine.begin (st.coordinator d) t)) (idle st) in
        record { world = after_all s st.world mv.events; coordinator = mv.coordinator; manager = mv.manager; outcomes = mv.outcomes }

    abbrev events : List Event
    events = Begins t ∷ map Posts (Prepare t ∷ [])

    began_follows : Follows n st (began n true)
    began_follows = record {
      views = λ m. posts_view s (after s st.world (Begins t)) (Prepare t ∷ []) m;
      points = posts_points s (after s st.world (Begins t)) (Prepare t ∷ []);
      posted = λ y is. posted_stays s st.world events y is;
      outcomes = λ o is. is;
      others = λ d other. ap (λ (a : Bool). cond a (machine.begin x t).now (st.coordinator d)) (ne_eqb d n other);
    }

    began_shown : IsShown s size now (began n true)
    began_shown =
        seat_shown s size story now n (record { boot = boot; actor = Some (rules.begun c items).now }) (rules.begun c items).posts st (began n true) began_follows (record {
          opening = refl;
          sites = refl;
          logs = refl;
          nodes = refl;
          posted = refl;
          committed = refl;
          casts = refl;
          adds = (b ∷ [], refl);
          shows = record {
            shows = subst (λ (y : machine.Coordinator). ShowsCoordinator s (rules.begun c items).now y)
                (ap (λ (a : Bool). cond a (machine.begin x t).now (st.coordinator n)) (sym (eq-eqb n n refl))) law.1.shows;
            own = begun_own c actor.own items;
            few = typed.2;
            ended = tt;
          };
          posts_show = λ o is.
              let it = law.1.posts o is in
              (it.0, posts_here s (after s st.world (Begins t)) (Prepare t ∷ []) it.0 it.1, it.2, begun_go s c items nodes_are o is);
          begun = λ d is. elim (in_either d story.begun (b ∷ []) is) [
            | inl old ↦ begun_all s st.world events (number d.id) (all.begun d old)
            | inr last ↦ elim last [
              | inl one ↦ begun_all s (after s st.world (Begins t)) (map Posts (Prepare t ∷ [])) (number d.id) (inl (ap (λ (z : Begun). number z.id) one))
              | inr none_ ↦ absurd none_
            ]
          ];
          known = λ u is. elim (posts_begin s (after s st.world (Begins t)) (Prepare t ∷ []) u is) [
            | inl one ↦ (b, new, one)
            | inr old ↦ let it = all.known u old in (it.0, in_front it.0 story.begun (b ∷ []) it.1, it.2)
          ];
          refused = λ id is. elim (in_either id story.refused (refused_by c.phase (rules.begun c items).now.phase) is) [
            | inl old ↦ all.refused id old
            | inr none_ ↦ absurd (subst (λ (ph : coord.Phase). In id (refused_by ph (rules.begun c items).now.phase)) free none_)
          ];
        }) all

    pub begin_goes : GoesOn s size st now
    begin_goes = (
      began n true,
      Begin t ∷ [],
      ap (began n) (sym law.0) ∙ ap (λ (d : ℕ). began d (machine.may_begin (st.coordinator d) t (st.coordinator d).running)) (sym home),
      began_shown,
    )

  -- ---- the seat alone changes

  -- the coordinator has this then, and shows in this state of the machine
  seated_anew : (later : coord.State) (act : machine.Act) → ShowsCoordinator s later act.now → IsOwn later → later.begun < 2 ^ 64
      → HasEnded story.begun later later.phase (act.ends ++ st.outcomes) → IsShown s size (with_actor story n boot (Some later)) (acted st n act s)
  seated_anew later act shows own few ended =
      seat_shown s size story (with_actor story n boot (Some later)) n (record { boot = boot; actor = Some later }) [] st (acted st n act s) (acted_follows s st n act) (record {
        opening = refl;
        sites = refl;
        logs = refl;
        nodes = refl;
        posted = sym (append-nil story.posted);
        committed = refl;
        casts = refl;
        adds = none story.begun;
        shows = record { shows = subst (λ (y : machine.Coordinator). ShowsCoordinator s later y) (acted_now s st n act) shows; own = own; few = few; ended = ended };
        posts_show = λ o is. absurd is;
        begun = λ d is. begun_all s st.world (map Posts act.posts) (number d.id) (all.begun d is);
        known = λ u is. all.known u (posts_begin s st.world act.posts u is);
        refused = λ id is. let it = all.refused id is in (it.0, it.1, in_back (machine.Failed (number id) it.0 it.1) act.ends st.outcomes it.2);
      }) all

  pub give_up_goes : GoesOn s size st (with_actor story n boot (Some (rules.given_up c)))
  give_up_goes = (
    acted st n (machine.give_up x) s,
    GiveUp n ∷ [],
    refl,
    seated_anew (rules.given_up c) (machine.give_up x) (giving_up_is_the_machines s c x actor.shows).0 (given_own c actor.own) actor.few (go c.phase actor.ended),
  )
    where
      go : (ph : coord.Phase) → HasEnded story.begun c ph st.outcomes → HasEnded story.begun (rules.given_up c) (rules.without_running ph) st.outcomes
      go coord.Free ended = tt
      go (coord.Runs r) ended = tt
      go (coord.Ended (Committed reads)) ended = ended
      go (coord.Ended (Refused m v)) ended = tt

  pub clear_goes : GoesOn s size st (with_actor story n boot (Some (rules.cleared c)))
  clear_goes = (
    st,
    [],
    refl,
    seat_shown s size story (with_actor story n boot (Some (rules.cleared c))) n (record { boot = boot; actor = Some (rules.cleared c) }) [] st st (stands_still n st) (record {
      opening = refl;
      sites = refl;
      logs = refl;
      nodes = refl;
      posted = sym (append-nil story.posted);
      committed = refl;
      casts = refl;
      adds = none story.begun;
      shows = record { shows = (giving_up_is_the_machines s c x actor.shows).1; own = cleared_own c actor.own; few = actor.few; ended = go c.phase };
      posts_show = λ o is. absurd is;
      begun = all.begun;
      known = all.known;
      refused = all.refused;
    }) all,
  )
    where
      go : (ph : coord.Phase) → HasEnded story.begun (rules.cleared c) (rules.without_outcome ph) st.outcomes
      go coord.Free = tt
      go (coord.Runs r) = tt
      go (coord.Ended outcome) = tt

  set_same : (xs : List Seat) (k : ℕ) (y : Seat) → slice_get xs k ≡ Some y → xs ≡ slice_set xs k y
  set_same [] k y is = absurd cc
  set_same (z ∷ xs) zero y is = ap (λ (w : Seat). w ∷ xs) cc
  set_same (z ∷ xs) (suc k) y is = ap (λ (l : List Seat). z ∷ l) (set_same xs k y is)

  pub resend_goes : (seat : Seat) → slice_get story.nodes n ≡ Some seat → GoesOn s size st (record story { posted = story.posted ++ map (sent_by n) (rules.resent c) })
  resend_goes seat there = (
    acted st n (machine.resend x) s,
    Resend n ∷ [],
    refl,
    seat_shown s size story (record story { posted = story.posted ++ map (sent_by n) (rules.resent c) }) n seat (rules.resent c) st (acted st n (machine.resend x) s)
        (acted_follows s st n (machine.resend x)) (record {
          opening = refl;
          sites = refl;
          logs = refl;
          nodes = set_same story.nodes n seat there;
          posted = refl;
          committed = refl;
          casts = refl;
          adds = none story.begun;
          shows = subst (λ (y : machine.Coordinator). IsShownSeat s story.begun n seat.boot seat.actor y st.outcomes) (acted_now s st n (machine.resend x)) (all.seats n seat there);
          posts_show = λ o is.
              let it = resends_are_the_machines s c x actor.shows o is in
              (it.0, posts_here s st.world (machine.resend x).posts it.0 it.1, it.2, resent_go s c x actor.shows o is);
          begun = λ d is. begun_all s st.world (map Posts (machine.resend x).posts) (number d.id) (all.begun d is);
          known = λ u is. all.known u (posts_begin s st.world (machine.resend x).posts u is);
          refused = all.refused;
        }) all,
  )

-- ---- crashes and starts

module _ (s : Setting) (size : ℕ) (story : Story) (st : whole.State) (all : IsShown s size story st) (n : ℕ) where
  -- no identifier of a later boot has begun
  pub below_boot : (boot : ℕ) (a : Option coord.State) (outcomes : List machine.Outcome) → ((c : coord.State) → a ≡ Some c → (c.coord ≡ n) × (c.boot ≡ boot))
      → IsShownSeat s story.begun n boot a (st.coordinator n) outcomes → (st.coordinator n).next ≤ identifier n boot (2 ^ 64)
  below_boot boot None outcomes seated shows = shows
  below_boot boot (Some c) outcomes seated shows =
      let it = seated c refl in
      let next : (st.coordinator n).next ≤ identifier n boot (c.begun + 1) =
      subst (λ (k : ℕ). (st.coordinator n).next ≤ identifier k boot (c.begun + 1)) it.0
      (subst (λ (k : ℕ). (st.coordinator n).next ≤ identifier c.coord k (c.begun + 1)) it.1 shows.shows.next) in
      let last = within_boot n boot c.begun shows.few in
      omega (arith, next, last)

  pub leave_goes : (boot : ℕ) → (st.coordinator n).next ≤ identifier n boot (2 ^ 64) → GoesOn s size st (with_actor story n boot None)
  leave_goes boot below = (
    st,
    [],
    refl,
    seat_shown s size story (with_actor story n boot None) n (record { boot = boot; actor = None }) [] st st (stands_still n st) (record {
      opening = refl;
      sites = refl;
      logs = refl;
      nodes = refl;
      posted = sym (append-nil story.posted);
      committed = refl;
      casts = refl;
      adds = none story.begun;
      shows = below;
      posts_show = λ o is. absurd is;
      begun = all.begun;
      known = all.known;
      refused = all.refused;
    }) all,
  )

  pub node_start_goes : (before boot : ℕ) → before < boot → (st.coordinator n).next ≤ identifier n before (2 ^ 64) → GoesOn s size st (story_steps.node_started story n boot)
  node_start_goes before boot less below =
      let act = machine.new_boot (st.coordinator n) in
      let next : (st.coordinator n).next ≤ identifier n boot 1 = let up = next_boot n before boot less in omega (arith, below, up) in (
        acted st n act s,
        BootCoordinator n ∷ [],
        refl,
        seat_shown s size story (story_steps.node_started story n boot) n (record { boot = boot; actor = Some (coord.started n boot) }) [] st (acted st n act s) (acted_follows s st n act) (record {
          opening = refl;
          sites = refl;
          logs = refl;
          nodes = refl;
          posted = sym (append-nil story.posted);
          committed = refl;
          casts = refl;
          adds = none story.begun;
          shows = record {
            shows = subst (λ (y : machine.Coordinator). ShowsCoordinator s (coord.started n boot) y) (acted_now s st n act) (starts_are_the_machines s (st.coordinator n) n boot next);
            own = started_own n boot;
            few = lit< tt;
            ended = tt;
          };
          posts_show = λ o is. absurd is;
          begun = all.begun;
          known = all.known;
          refused = all.refused;
        }) all,
      )
