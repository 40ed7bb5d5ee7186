-- A story that is told shows in a state that the machine reaches.
use Rattle.std.proofs.Common.{◌≡◌, ◌<◌, ◌≤◌, ◌^◌, ℕ, zero, suc, true, List, [], ◌∷◌, ◌++◌, length, map, get_or, replicate, Option, Some, None, All, refl, sym, ap, subst, ◌∙◌, slice_get, arith}
use Rattle.std.specs.List.{AllByRecursion}
use Rattle.std.proofs.lemmas.List.{length-map, length-replicate}
use Rattle.std.proofs.lemmas.List.Elements.{recursion_from_All}
use Rattle.mini_tx.specs.declared.actor.Actor.{Actor}
use Rattle.mini_tx.specs.declared.actor.Actor.TheVariants.{Node, Memory, Manager}
use Rattle.mini_tx.specs.declared.entry.Entry.{Entry}
use Rattle.mini_tx.specs.declared.entry.Entry.TheVariants as entry
use Rattle.mini_tx.specs.declared.posted.Posted.{Posted}
use Rattle.mini_tx.specs.Minitransactions.{refusal}
use Rattle.mem_rules.specs.declared.floor.Floor.{Floor}
use Rattle.mem_rules.specs.State.{State}
use Rattle.tx_coord.specs.State as coord
use Rattle.tx_rules.specs.Decision.{Grant}
use Rattle.tx_rules.specs.Mini.{In, IsMini, Mini, Setting, nodes_of}
use Rattle.tx_rules.specs.World as world
use Rattle.tx_actors.specs.Machine as whole
use Rattle.tx_actors.specs.Machine.{Input, steps, opened_at}
use Rattle.tx_actors.specs.Headline.{IsSerial}
use Rattle.tx_actors.specs.Laws.{IsFitting}
use Rattle.tx_actors.specs.Node.{own, view, has_grant}
use Rattle.tx_actors.proofs.HeadlineLemmas.{formatted_clusters_are_serial}
use Rattle.tx_actors.proofs.RecordLemmas.{In-has_grant, log-own}
use Rattle.mem_laws.specs.Cells.{number}
use Rattle.mem_laws.proofs.MiniLemmas.{valid_minis_fit}
use Rattle.tx_actors.specs.Numbers.{identifier}
use Rattle.tx_actors.proofs.LawLemmas.{steps_join}
use Rattle.mem_laws.specs.Loaded.{bytes_in}
use Rattle.mem_laws.proofs.AlikeLemmas.{shows_alike}
use Rattle.mem_laws.proofs.StateLemmas.{opened_shows}
use Rattle.story_rules.specs.MemoryNodes.{opened, with_state}
use Rattle.story_rules.specs.Story.{Begun, Seat, Site, Up, Story}
use Rattle.story_rules.specs.Steps as story_steps
use Rattle.story_rules.specs.Steps.{How, message_at, log_of, has_granted, at_node, at_seat, at_actor}
use Rattle.story_laws.specs.Acts.{Act, Begins, Delivers, GivesUp, Clears, Resends, Crashes, StartsNode, StartsMemory, after_act, told, MayHappen, MayAllHappen, fresh_story, Holds}
use Rattle.story_laws.specs.Beginnings.{IsAtBegunIf, IsAboutBegun}
use Rattle.story_laws.specs.Growth.{Grows}
use Rattle.story_laws.specs.Identifiers.{IsSeated}
use Rattle.story_laws.specs.Sites.{node_at}
use Rattle.story_laws.proofs.ActLemmas.{act_grows, holds_after}
use Rattle.story_laws.proofs.BeginningLemmas.{some_is, empty_log, empty_seat, at_posted}
use Rattle.story_laws.proofs.CastLemmas.{map_length}
use Rattle.story_laws.proofs.IdentifierLemmas.{get_none}
use Rattle.story_shown.proofs.ShownLemmas.{IsShownPost, IsShownSite, IsShownActor, IsShownSeat, Handles, IsShown, IsFit, in_adds}
use Rattle.story_shown.proofs.DeliverLemmas.{GoesOn, memory_goes, start_goes, fall_goes}
use Rattle.story_shown.proofs.SeatLemmas.{from_goes}
use Rattle.story_shown.proofs.BeginLemmas.{begin_goes, give_up_goes, clear_goes, resend_goes, below_boot, leave_goes, node_start_goes}

-- ---- what fits later fits before

pub fit_before : (s : Setting) (size : ℕ) (before now : Story) → Grows before now → IsFit s size now → IsFit s size before
fit_before s size before now grows fit = record {
  fits = record {
    coordinators = fit.fits.coordinators;
    minis = λ b is. fit.fits.minis b (later b is);
    old = fit.fits.old;
    found = fit.fits.found;
    early = fit.fits.early;
    start = λ m a. fit.fits.start m a ∙ ap (λ (states : List State). bytes_in (slice_get states m) a) grows.opening;
  };
  typed = λ b is. fit.typed b (later b is);
  valid = λ b is. ap (λ (states : List State). refusal b.items (length states) size) (sym grows.opening) ∙ fit.valid b (later b is);
}
  where
    later : (b : Begun) → In b before.begun → In b now.begun
    later b is = in_adds b before.begun now.begun grows.begun is

-- ---- one act

module _ (s : Setting) (size : ℕ) (story : Story) (st : whole.State) (all : IsShown s size story st) (holds : Holds story) where
  nothing : GoesOn s size st story
  nothing = (st, [], refl, all)

  -- what a node that runs has
  seat_is : (n : ℕ) (seat : Seat) (c : coord.State) → slice_get story.nodes n ≡ Some seat → seat.actor ≡ Some c
      → IsShownActor s story.begun c (st.coordinator n) st.outcomes × ((c.coord ≡ n) × (c.boot ≡ seat.boot)) × IsAtBegunIf story.begun (Some c)
  seat_is n seat c there is = (
    subst (λ (a : Option coord.State). IsShownSeat s story.begun n seat.boot a (st.coordinator n) st.outcomes) is (all.seats n seat there),
    subst (λ (a : Option coord.State). IsSeated n seat.boot a) is (holds.counted.seated n seat there),
    subst (λ (a : Option coord.State). IsAtBegunIf story.begun a) is (holds.voted.begun.running n seat there),
  )

  -- where the node runs, or nothing happens
  at_node_goes : (n : ℕ) (does : ℕ → coord.State → Story)
      → ((seat : Seat) (c : coord.State) → slice_get story.nodes n ≡ Some seat → seat.actor ≡ Some c → GoesOn s size st (does seat.boot c)) → GoesOn s size st (at_node story n does)
  at_node_goes n does go = of_seat (slice_get story.nodes n) refl
    where
      of_actor : (seat : Seat) → slice_get story.nodes n ≡ Some seat → (a : Option coord.State) → seat.actor ≡ a → GoesOn s size st (at_actor story does seat.boot a)
      of_actor seat there None is = nothing
      of_actor seat there (Some c) is = go seat c there is

      of_seat : (o : Option Seat) → slice_get story.nodes n ≡ o → GoesOn s size st (at_seat story does o)
      of_seat None there = nothing
      of_seat (Some seat) there = of_actor seat there seat.actor refl

  at_node_is : (n : ℕ) (does : ℕ → coord.State → Story) (seat : Seat) (c : coord.State) → slice_get story.nodes n ≡ Some seat → seat.actor ≡ Some c → at_node story n does ≡ does seat.boot c
  at_node_is n does seat c there is = ap (at_seat story does) there ∙ ap (at_actor story does seat.boot) is

  below : (n : ℕ) (seat : Seat) → slice_get story.nodes n ≡ Some seat → (st.coordinator n).next ≤ identifier n seat.boot (2 ^ 64)
  below n seat there =
      below_boot s size story st all n seat.boot seat.actor st.outcomes
      (λ c is. subst (λ (a : Option coord.State). IsSeated n seat.boot a) is (holds.counted.seated n seat there)) (all.seats n seat there)

  module _ (fit : IsFit s size story) (pointed : (m t : ℕ) → In t st.world.points → In m (nodes_of s t) → has_grant (view st.world m).records t ≡ true) where
    actor_goes : (n : ℕ) (p : Posted) (seat : Seat) → slice_get story.nodes n ≡ Some seat → IsAboutBegun story.begun (Node n) p.message
        → IsShownPost s st.world p.from (Node n) p.message → (a : Option coord.State) → seat.actor ≡ a → GoesOn s size st (story_steps.to_actor story n p seat.boot a)
    actor_goes n p seat there about shown None is = nothing
    actor_goes n p seat there about shown (Some c) is =
        let it = seat_is n seat c there is in
        from_goes s size story st all fit n seat.boot c it.0 it.1.0 it.2.phase p.from p.message about shown

    node_goes : (n : ℕ) (p : Posted) → In p story.posted → p.to ≡ Node n → (o : Option Seat) → slice_get story.nodes n ≡ o → GoesOn s size st (story_steps.to_node story n p o)
    node_goes n p posted to None there = nothing
    node_goes n p posted to (Some seat) there =
        actor_goes n p seat there (subst (λ (a : Actor). IsAboutBegun story.begun a p.message) to (holds.voted.begun.posted p posted))
        (subst (λ (a : Actor). IsShownPost s st.world p.from a p.message) to (all.posted p posted)) seat.actor refl

    receiver_goes : (k : ℕ) (how : How) (p : Posted) → message_at story k ≡ Some p → (to : Actor) → p.to ≡ to → GoesOn s size st (story_steps.to_receiver story k how p to)
    receiver_goes k how p at (Memory m) to = memory_goes s size story st all fit holds pointed m k p how (slice_get story.sites m) refl at to
    receiver_goes k how p at (Node n) to = node_goes n p (at_posted story k p at) to (slice_get story.nodes n) refl
    receiver_goes k how p at Manager to = nothing

    given_goes : (k : ℕ) (how : How) (o : Option Posted) → message_at story k ≡ o → GoesOn s size st (story_steps.given story k how o)
    given_goes k how None at = nothing
    given_goes k how (Some p) at = receiver_goes k how p at p.to refl

    left_goes : (n : ℕ) (o : Option Seat) → slice_get story.nodes n ≡ o → GoesOn s size st (story_steps.left story n o)
    left_goes n None there = nothing
    left_goes n (Some seat) there = leave_goes s size story st all n seat.boot (below n seat there)

    started_goes : (n boot : ℕ) → ((seat : Seat) → slice_get story.nodes n ≡ Some seat → seat.boot < boot) → (o : Option Seat) → slice_get story.nodes n ≡ o
        → GoesOn s size st (story_steps.node_started story n boot)
    started_goes n boot less None there =
        subst (λ (z : Story). GoesOn s size st z)
        (ap (λ (ns : List Seat). let z : Story = record story { nodes = ns } in z) (sym (get_none story.nodes n (record { boot = boot; actor = Some (coord.started n boot) }) there))) nothing
    started_goes n boot less (Some seat) there = node_start_goes s size story st all n seat.boot boot (less seat there) (below n seat there)

  pub act_goes : (act : Act) → MayHappen size story act → IsFit s size (after_act story act) → IsFit s size story
      → ((m t : ℕ) → In t st.world.points → In m (nodes_of s t) → has_grant (view st.world m).records t ≡ true) → GoesOn s size st (after_act story act)
  act_goes (Begins n items) may later fit pointed = at_node_goes n _ (λ seat c there is.
      let it = seat_is n seat c there is in
      let happens = may seat c there is in
      begin_goes s size story st all n seat.boot c it.0 it.1.0 items happens.0 happens.1
      (subst (λ (z : Story). IsFit s size z) (at_node_is n _ seat c there is) later))
  act_goes (Delivers k how) may later fit pointed = given_goes fit pointed k how (message_at story k) refl
  act_goes (GivesUp n) may later fit pointed = at_node_goes n _ (λ seat c there is. let it = seat_is n seat c there is in give_up_goes s size story st all n seat.boot c it.0 it.1.0)
  act_goes (Clears n) may later fit pointed = at_node_goes n _ (λ seat c there is. let it = seat_is n seat c there is in clear_goes s size story st all n seat.boot c it.0 it.1.0)
  act_goes (Resends n) may later fit pointed = at_node_goes n _ (λ seat c there is. let it = seat_is n seat c there is in resend_goes s size story st all n seat.boot c it.0 it.1.0 seat there)
  act_goes (Crashes (Memory m)) may later fit pointed = fall_goes s size story st all fit holds pointed m (slice_get story.sites m) refl
  act_goes (Crashes (Node n)) may later fit pointed = left_goes fit pointed n (slice_get story.nodes n) refl
  act_goes (Crashes Manager) may later fit pointed = nothing
  act_goes (StartsNode n boot) may later fit pointed = started_goes fit pointed n boot may (slice_get story.nodes n) refl
  act_goes (StartsMemory m found) may later fit pointed = start_goes s size story st all fit holds pointed m found (slice_get story.sites m) refl

-- ---- all acts

pub fit_told : (s : Setting) (size : ℕ) (story : Story) (acts : List Act) → IsFit s size (told story acts) → IsFit s size story
fit_told s size story [] fit = fit
fit_told s size story (act ∷ acts) fit = fit_before s size story (after_act story act) (act_grows story act) (fit_told s size (after_act story act) acts fit)

-- at the opening
abbrev pub opened_state : Setting → whole.State
opened_state s = opened_at s [] s.start (λ c. 0)

-- what has its point was granted by all
points_granted : (s : Setting) (size : ℕ) (story : Story) (st : whole.State) (inputs : List Input) → st ≡ steps s (opened_state s) inputs → IsShown s size story st → IsFit s size story
    → (m t : ℕ) → In t st.world.points → In m (nodes_of s t) → has_grant (view st.world m).records t ≡ true
points_granted s size story st inputs is all fit m t there part =
    let fitting : IsFitting s st.world = λ u h live.
    let it = all.known u h in
    subst (λ (k : ℕ). IsMini (s.mini k)) (sym it.2)
    (subst (λ (x : Mini). IsMini x) (sym (fit.fits.minis it.0 it.1)) (valid_minis_fit it.0.items (length story.opening) size (fit.valid it.0 it.1))) in
    let serial : IsSerial s st.world =
    subst (λ (z : whole.State). IsSerial s z.world) (sym is)
    (formatted_clusters_are_serial s (λ c. 0) inputs (record { old = fit.fits.old; found = fit.fits.found; early = fit.fits.early })
    (subst (λ (z : whole.State). IsFitting s z.world) is fitting)) in
    In-has_grant (own m st.world.log) t (log-own m (Grant t) st.world.log (((serial.points.1 t).0 there).1 m part))

pub told_goes : (s : Setting) (size : ℕ) (story : Story) (acts : List Act) (st : whole.State) (inputs : List Input) → st ≡ steps s (opened_state s) inputs → MayAllHappen size story acts → Holds story → IsFit s size (told story acts)
    → IsShown s size story st → GoesOn s size st (told story acts)
told_goes s size story [] st inputs is may holds fit all = (st, [], refl, all)
told_goes s size story (act ∷ acts) st inputs is may holds fit all =
    let now = after_act story act in
    let later = fit_told s size now acts fit in
    let here = fit_before s size story now (act_grows story act) later in
    let first = act_goes s size story st all holds act may.0 later here (points_granted s size story st inputs is all here) in
    let reached : first.0 ≡ steps s (opened_state s) (inputs ++ first.1) =
    first.2 ∙ ap (λ (z : whole.State). steps s z first.1) is ∙ sym (steps_join s (opened_state s) inputs first.1) in
    let rest = told_goes s size now acts first.0 (inputs ++ first.1) reached may.1 (holds_after size story act may.0 holds) fit first.3 in (
      rest.0,
      first.1 ++ rest.1,
      rest.2 ∙ ap (λ (z : whole.State). steps s z rest.1) first.2 ∙ sym (steps_join s st first.1 rest.1),
      rest.3,
    )

-- ---- the opening

get_map : {A B : Type 0} (f : A → B) (xs : List A) (m : ℕ) (y : B) → slice_get (map f xs) m ≡ Some y → (x : A) × (slice_get xs m ≡ Some x) × (y ≡ f x)
get_map f [] m y is = absurd cc
get_map f (x ∷ xs) zero y is = (x, refl, some_is (f x) y is)
get_map f (x ∷ xs) (suc m) y is = get_map f xs m y is

all_get : {A : Type 0} (P : A → Type 0) (xs : List A) (m : ℕ) (x : A) → AllByRecursion P xs → slice_get xs m ≡ Some x → P x
all_get P [] m x all is = absurd cc
all_get P (y ∷ xs) zero x all is = subst P (sym (some_is y x is)) all.0
all_get P (y ∷ xs) (suc m) x all is = all_get P xs m x all.1 is

no_point : (later : List ℕ) (t : ℕ) (before : List ℕ) → [] ≡ later ++ t ∷ before → ⊥
no_point [] t before is = cc
no_point (u ∷ later) t before is = cc

low : (k : ℕ) → 0 ≤ k
low k = omega arith

module _ (s : Setting) (size : ℕ) (images : List (List ℕ)) (boots : List ℕ) (sized : All (λ (image : List ℕ). length image ≡ size) images) (fit : IsFit s size (fresh_story images boots)) where
  abbrev states : List State
  states = map (λ (image : List ℕ). opened (length boots) image) images

  abbrev w : world.World
  w = world.opened s [] s.start

  at : (m : ℕ) (site : Site) → slice_get (map (λ (state : State). Up (with_state state)) states) m ≡ Some site
      → (image : List ℕ) × (slice_get images m ≡ Some image) × (slice_get states m ≡ Some (opened (length boots) image)) × (site ≡ Up (with_state (opened (length boots) image)))
  at m site is =
      let first = get_map (λ (state : State). Up (with_state state)) states m site is in
      let second = get_map (λ (image : List ℕ). opened (length boots) image) images m first.0 first.1 in
      (second.0, second.1, first.1 ∙ ap Some second.2, first.2 ∙ ap (λ (state : State). Up (with_state state)) second.2)

  no_floors : List (Option Floor)
  no_floors = replicate (length boots) None

  site_shown : (m : ℕ) (image : List ℕ) → slice_get images m ≡ Some image → slice_get states m ≡ Some (opened (length boots) image)
      → IsShownSite s size (length (fresh_story images boots).nodes) m (opened (length boots) image) w
  site_shown m image there state = record {
    shows = shows_alike s m (opened (length boots) image) (record { records = []; image = λ a. get_or image a 0; seen = λ t. s.start m }) (view w m)
        (record {
          records = refl;
          image = λ a. sym (fit.fits.start m a ∙ ap (λ (o : Option State). bytes_in o a) state);
          seen = λ t a. refl;
        }) (opened_shows s m (length boots) image (λ t. s.start m));
    sized = all_get (λ (x : List ℕ). length x ≡ size) images m image (recursion_from_All (λ (x : List ℕ). length x ≡ size) images sized) there;
    floors = length-replicate (length boots) _ ∙ sym (length-map boots _);
  }

  pub fresh_shown : IsShown s size (fresh_story images boots) (opened_at s [] s.start (λ c. 0))
  fresh_shown = record {
    places = map_length states;
    sites = λ m site is. let it = at m site is in subst (λ (y : Site). IsShownSite s size (length (fresh_story images boots).nodes) m (node_at y).state w) (sym it.3) (site_shown m it.0 it.1 it.2);
    handling = λ m site is. let it = at m site is in subst (λ (y : Site). Handles (fresh_story images boots) m y) (sym it.3) tt;
    grants = λ m id typed. sym (ap (has_granted id) (empty_log (length states) m));
    decided = λ m id commit is. absurd (subst (λ (l : List Entry). In (entry.Decided id commit) l) (empty_log (length states) m) is);
    seats = λ n seat is. subst (λ (a : Option coord.State). IsShownSeat s [] n seat.boot a (record { next = 0; running = None; finishing = [] }) []) (sym (empty_seat boots n seat is)) (low (identifier n seat.boot (2 ^ 64)));
    posted = λ p is. absurd is;
    begun = λ b is. absurd is;
    known = λ t is. absurd (subst (λ (l : List ℕ). In t l) (ap (λ (l : List ℕ). l ++ s.old) fit.fits.found ∙ fit.fits.old) is);
    history = refl;
    refused = λ id is. absurd is;
    moments = λ id typed later before split. absurd (no_point later (number id) before split);
  }
