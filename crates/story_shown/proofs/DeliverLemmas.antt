-- What happens to a memory node of a story happens in the machine.
use Rattle.std.proofs.Common.{◌≡◌, inl, inr, ℕ, Bool, true, false, cond, List, [], ◌∷◌, ◌++◌, length, map, Option, Some, None, refl, sym, ap, subst, ◌∙◌, slice_get}
use Rattle.std.proofs.lemmas.Bool.{eq-eqb}
use Rattle.mini_tx.specs.declared.actor.Actor.{Actor}
use Rattle.mini_tx.specs.declared.actor.Actor.TheVariants.{Node, Memory, Manager}
use Rattle.mini_tx.specs.declared.message.Message as sent
use Rattle.mini_tx.specs.declared.posted.Posted.{Posted}
use Rattle.mem_rules.specs.Rules as node
use Rattle.mem_rules.specs.State.{State, after_one}
use Rattle.tx_rules.specs.Decision.{Record}
use Rattle.tx_rules.specs.Mini.{In, Setting, nodes_of}
use Rattle.tx_rules.specs.World.{World, Message, Posts, after_all}
use Rattle.tx_actors.specs.Machine as whole
use Rattle.tx_actors.specs.Machine.{Input, ToNode, ToStoppingNode, appending, numbered, to_node, steps}
use Rattle.tx_actors.specs.Node as machine
use Rattle.tx_actors.specs.Node.{view, has_grant}
use Rattle.tx_actors.proofs.LawLemmas.{numbers_stay}
use Rattle.tx_actors.proofs.NodeLemmas.{after_append}
use Rattle.mem_laws.specs.Shown.{Shows, cut_held, records_of}
use Rattle.mem_laws.specs.Steps.{shown_answer, IsShownStep}
use Rattle.mem_laws.proofs.StepLemmas.{step_is}
use Rattle.coord_laws.specs.Shown.{shown_post}
use Rattle.story_rules.specs.MemoryNodes.{MemoryNode, reaction, with_state}
use Rattle.story_rules.specs.Story.{Site, Up, Down, Story}
use Rattle.story_rules.specs.Steps as story_steps
use Rattle.story_rules.specs.Steps.{How, Lost, Handled, Stopped, WentDown, WasFull, log_of, message_at}
use Rattle.story_laws.specs.Acts.{Holds}
use Rattle.story_laws.specs.Beginnings.{IsAboutBegun}
use Rattle.story_laws.specs.Sites.{node_at}
use Rattle.story_laws.proofs.BeginningLemmas.{some_is, at_posted, reacts_on}
use Rattle.story_laws.proofs.VoteLemmas.{votes_well}
use Rattle.story_shown.proofs.ShownLemmas.{IsShownPost, GoesTo, IsShownSite, Handles, IsShown, IsFit}
use Rattle.story_shown.proofs.NodeLemmas.{reached, told, IsNodeChange, node_shown, posts_here}
use Rattle.story_shown.proofs.ReactLemmas.{message_shows, answer_shows, lengths_stay, no_grant, grants_new}

-- the machine goes on to a state in which the story shows
abbrev pub GoesOn : Setting → ℕ → whole.State → Story → Type 0
GoesOn s size st now = (later : whole.State) × (inputs : List Input) × (later ≡ steps s st inputs) × IsShown s size now later

-- ---- a posted message has a number

pub in_numbered : (ps : List Message) (y : Message) → In y ps → (j : ℕ) × (numbered ps j ≡ Some y)
in_numbered [] y is = absurd is
in_numbered (p ∷ ps) y is = elim is [
  | inl one ↦ (length ps, ap (λ (b : Bool). cond b (Some p) (numbered ps (length ps))) (eq-eqb (length ps) (length ps) refl) ∙ ap Some (sym one))
  | inr rest ↦ let it = in_numbered ps y rest in (it.0, numbers_stay (p ∷ []) ps it.0 y it.1)
]

-- ---- a reaction

-- what a memory node does with a message of which this is a number
abbrev at_number : Setting → whole.State → ℕ → Option ℕ → Bool → Option Message → whole.State
at_number s st m held stops o =
    let mv = to_node s st m held stops o in
    record { world = after_all s st.world mv.events; coordinator = mv.coordinator; manager = mv.manager; outcomes = mv.outcomes }

module _ (s : Setting) (size : ℕ) (story : Story) (st : whole.State) (m : ℕ) (old : Site) (all : IsShown s size story st) (fit : IsFit s size story) (holds : Holds story)
    (there : slice_get story.sites m ≡ Some old) (pointed : (t : ℕ) → In t st.world.points → In m (nodes_of s t) → has_grant (view st.world m).records t ≡ true) where
  abbrev n : MemoryNode
  n = node_at old

  own : IsShownSite s size (length story.nodes) m n.state st.world
  own = all.sites m old there

  -- nothing happens, but that the memory node goes down or starts
  pub rests : (site : Site) → (node_at site).state ≡ n.state → Handles story m site → GoesOn s size st (story_steps.with_site story m site)
  rests site same handles = (
    st,
    [],
    refl,
    node_shown s size story st m Manager None None old site [] all fit (record {
      distinct = holds.counted.distinct;
      sized = holds.cast.logs;
      there = there;
      right = tt;
      was = tt;
      shows = subst (λ (x : State). IsShownSite s size (length story.nodes) m x st.world) (sym same) own;
      handles = handles;
      cast = holds.cast;
      pointed = pointed;
      grants_new = λ g is. absurd (no_grant g is);
      answered = λ p is. absurd is;
    }),
  )

  module _ (x : sent.Message) (y : Message) (k : ℕ) (about : IsAboutBegun story.begun (Memory m) x) (is : In y st.world.posted) (shown : shown_post x ≡ Some y) (goes : GoesTo s m x) where
    abbrev r : node.Reaction
    r = node.react n x

    abbrev mr : machine.Reaction
    mr = machine.handle s m (cut_held n.copy) (view st.world m) y

    same : IsShownStep s m n st.world r mr
    same = step_is s m n st.world x y (message_shows s size story m n st.world fit holds.counted own x y shown goes about)

    later_shows : IsShownSite s size (length story.nodes) m (after_one n.state r.entry) (after_all s st.world (appending s st.world m (records_of r.entry)))
    later_shows =
        let sizes = lengths_stay s size story m n st.world fit holds.counted own x y shown about in
        record {
          shows = subst (λ (rs : List Record). Shows s m (after_one n.state r.entry) (view (after_all s st.world (appending s st.world m rs)) m)) same.appended same.shows;
          sized = sizes.0 ∙ own.sized;
          floors = sizes.1 ∙ own.floors;
        }

    change : (answer : Option sent.Message) (site : Site) (ps : List Message) → (node_at site).state ≡ after_one n.state r.entry
        → Handles (told s size story st m (Node k) r.entry answer old site ps) m site
        → ((p : Posted) → In p (story_steps.answered m (Node k) answer) → IsShownPost s (reached s size story st m (Node k) r.entry answer old site ps).world p.from p.to p.message)
        → IsNodeChange s size story st m (Node k) r.entry answer old site ps
    change answer site ps state handles answered = record {
      distinct = holds.counted.distinct;
      sized = holds.cast.logs;
      there = there;
      right = (votes_well story.begun (log_of story m) m n x about (holds.voted.entries m old there)).0;
      was = (reacts_on story.begun (Node k) n (Memory m) x about).0;
      shows = subst (λ (z : State). IsShownSite s size (length story.nodes) m z (after_all s st.world (appending s st.world m (records_of r.entry)))) (sym state) later_shows;
      handles = handles;
      cast = holds.cast;
      pointed = pointed;
      grants_new = λ g is_. grants_new s size story m n st.world fit holds.counted own x y shown goes about g is_;
      answered = answered;
    }

    -- the machine's memory node is in the state that is reached
    number : (j : ℕ) × (numbered st.world.posted j ≡ Some y)
    number = in_numbered st.world.posted y is

    same_records : (ps : List Message) → after_all s st.world (appending s st.world m mr.appends ++ map Posts ps)
        ≡ after_all s (after_all s st.world (appending s st.world m (records_of r.entry))) (map Posts ps)
    same_records ps =
        after_append s st.world (appending s st.world m mr.appends) (map Posts ps)
        ∙ ap (λ (rs : List Record). after_all s (after_all s st.world (appending s st.world m rs)) (map Posts ps)) same.appended

    abbrev with_world : World → whole.State
    with_world w = record st { world = w }

    handled_is : with_world (after_all s (after_all s st.world (appending s st.world m (records_of r.entry))) (map Posts mr.posts)) ≡ steps s st (ToNode number.0 m (cut_held n.copy) ∷ [])
    handled_is = ap with_world (sym (same_records mr.posts)) ∙ ap (at_number s st m (cut_held n.copy) false) (sym number.1)

    stopped_is : with_world (after_all s (after_all s st.world (appending s st.world m (records_of r.entry))) (map Posts [])) ≡ steps s st (ToStoppingNode number.0 m (cut_held n.copy) ∷ [])
    stopped_is = ap with_world (sym (same_records [])) ∙ ap (at_number s st m (cut_held n.copy) true) (sym number.1)

    -- the answer leaves
    pub handles_it : (site : Site) → (node_at site).state ≡ after_one n.state r.entry → Handles (told s size story st m (Node k) r.entry r.answer old site mr.posts) m site
        → GoesOn s size st (told s size story st m (Node k) r.entry r.answer old site mr.posts)
    handles_it site state handles = (
      reached s size story st m (Node k) r.entry r.answer old site mr.posts,
      ToNode number.0 m (cut_held n.copy) ∷ [],
      handled_is,
      node_shown s size story st m (Node k) r.entry r.answer old site mr.posts all fit (change r.answer site mr.posts state handles (of_answer r.answer refl)),
    )
      where
        of_answer : (o : Option sent.Message) → r.answer ≡ o → (p : Posted) → In p (story_steps.answered m (Node k) o)
            → IsShownPost s (reached s size story st m (Node k) r.entry r.answer old site mr.posts).world p.from p.to p.message
        of_answer None is_ p none = absurd none
        of_answer (Some a) is_ p last = elim last [
          | inl one ↦
              let it = answer_shows s size story m n st.world fit holds.counted own x y shown about a is_ in
              let z = it.0 in
              let posts : mr.posts ≡ z ∷ [] = same.posted ∙ ap (shown_answer s m) is_ ∙ it.1 in
              let there_ : In z (reached s size story st m (Node k) r.entry r.answer old site mr.posts).world.posted =
              posts_here s (after_all s st.world (appending s st.world m (records_of r.entry))) mr.posts z (subst (λ (l : List Message). In z l) (sym posts) (inl refl)) in
              let goal : IsShownPost s (reached s size story st m (Node k) r.entry r.answer old site mr.posts).world (Memory m) (Node k) a = (z, there_, it.1) in
              subst (λ (q : Posted). IsShownPost s (reached s size story st m (Node k) r.entry r.answer old site mr.posts).world q.from q.to q.message) (sym one) goal
          | inr none ↦ absurd none
        ]

    -- or it stops before
    pub stops_it : (site : Site) → (node_at site).state ≡ after_one n.state r.entry → Handles (told s size story st m (Node k) r.entry None old site []) m site
        → GoesOn s size st (told s size story st m (Node k) r.entry None old site [])
    stops_it site state handles = (
      reached s size story st m (Node k) r.entry None old site [],
      ToStoppingNode number.0 m (cut_held n.copy) ∷ [],
      stopped_is,
      node_shown s size story st m (Node k) r.entry None old site [] all fit (change None site [] state handles (λ p none. absurd none)),
    )

-- ---- the steps of memory nodes

module _ (s : Setting) (size : ℕ) (story : Story) (st : whole.State) (all : IsShown s size story st) (fit : IsFit s size story) (holds : Holds story)
    (pointed : (m t : ℕ) → In t st.world.points → In m (nodes_of s t) → has_grant (view st.world m).records t ≡ true) where
  pub nothing : GoesOn s size st story
  nothing = (st, [], refl, all)

  about_it : (m : ℕ) (p : Posted) → In p story.posted → p.to ≡ Memory m → IsAboutBegun story.begun (Memory m) p.message
  about_it m p there to = subst (λ (a : Actor). IsAboutBegun story.begun a p.message) to (holds.voted.begun.posted p there)

  shown_it : (m : ℕ) (p : Posted) → In p story.posted → p.to ≡ Memory m → IsShownPost s st.world p.from (Memory m) p.message
  shown_it m p there to = subst (λ (a : Actor). IsShownPost s st.world p.from a p.message) to (all.posted p there)

  reacted_goes : (m k : ℕ) (n : MemoryNode) (from : Actor) (x : sent.Message) (how : How) → slice_get story.sites m ≡ Some (Up n) → IsAboutBegun story.begun (Memory m) x
      → IsShownPost s st.world from (Memory m) x → Handles story m (Down n (Some k)) → GoesOn s size st (story_steps.reacted story m k from n (reaction n x) how)
  reacted_goes m k n (Memory q) x how there about shown handles = absurd shown
  reacted_goes m k n Manager x how there about shown handles = absurd shown
  reacted_goes m k n (Node q) x Lost there about shown handles = nothing
  reacted_goes m k n (Node q) x Handled there about shown handles =
      handles_it s size story st m (Up n) all fit holds there (pointed m) x shown.0 q about shown.1 shown.2 shown.3 (Up (reaction n x).now) refl tt
  reacted_goes m k n (Node q) x Stopped there about shown handles =
      stops_it s size story st m (Up n) all fit holds there (pointed m) x shown.0 q about shown.1 shown.2 shown.3 (Down (reaction n x).now None) refl tt
  reacted_goes m k n (Node q) x WentDown there about shown handles = rests s size story st m (Up n) all fit holds there (pointed m) (Down n (Some k)) refl handles
  reacted_goes m k n (Node q) x WasFull there about shown handles = rests s size story st m (Up n) all fit holds there (pointed m) (Down n None) refl tt

  pub memory_goes : (m k : ℕ) (p : Posted) (how : How) (site : Option Site) → slice_get story.sites m ≡ site → message_at story k ≡ Some p → p.to ≡ Memory m
      → GoesOn s size st (story_steps.to_memory story m k p how site)
  memory_goes m k p how None there at to = nothing
  memory_goes m k p how (Some (Up n)) there at to =
      let posted = at_posted story k p at in
      reacted_goes m k n p.from p.message how there (about_it m p posted to) (shown_it m p posted to) (p, at, to)
  memory_goes m k p how (Some (Down n handling)) there at to = nothing

  found_goes : (m k : ℕ) (n : MemoryNode) (from : Actor) (x : sent.Message) → slice_get story.sites m ≡ Some (Down n (Some k)) → IsAboutBegun story.begun (Memory m) x
      → IsShownPost s st.world from (Memory m) x
      → GoesOn s size st (story_steps.with_site (story_steps.counted story m from (reaction n x).entry None) m (Up (with_state (reaction n x).now.state)))
  found_goes m k n (Memory q) x there about shown = absurd shown
  found_goes m k n Manager x there about shown = absurd shown
  found_goes m k n (Node q) x there about shown =
      stops_it s size story st m (Down n (Some k)) all fit holds there (pointed m) x shown.0 q about shown.1 shown.2 shown.3 (Up (with_state (reaction n x).now.state)) refl tt

  found_at_goes : (m k : ℕ) (n : MemoryNode) (found : Bool) (p : Option Posted) → slice_get story.sites m ≡ Some (Down n (Some k)) → message_at story k ≡ p
      → ((q : Posted) → p ≡ Some q → q.to ≡ Memory m) → GoesOn s size st (story_steps.found_at story m n found p)
  found_at_goes m k n found None there at to = rests s size story st m (Down n (Some k)) all fit holds there (pointed m) (Up (with_state n.state)) refl tt
  found_at_goes m k n false (Some p) there at to = rests s size story st m (Down n (Some k)) all fit holds there (pointed m) (Up (with_state n.state)) refl tt
  found_at_goes m k n true (Some p) there at to =
      let posted = at_posted story k p at in
      found_goes m k n p.from p.message there (about_it m p posted (to p refl)) (shown_it m p posted (to p refl))

  pub start_goes : (m : ℕ) (found : Bool) (site : Option Site) → slice_get story.sites m ≡ site → GoesOn s size st (story_steps.from_site story m found site)
  start_goes m found None there = nothing
  start_goes m found (Some (Up n)) there = nothing
  start_goes m found (Some (Down n None)) there = rests s size story st m (Down n None) all fit holds there (pointed m) (Up (with_state n.state)) refl tt
  start_goes m found (Some (Down n (Some k))) there =
      let handling : Handles story m (Down n (Some k)) = all.handling m (Down n (Some k)) there in
      found_at_goes m k n found (message_at story k) there refl
      (λ q is. subst (λ (p : Posted). p.to ≡ Memory m) (sym (some_is handling.0 q (sym handling.1 ∙ is))) handling.2)

  pub fall_goes : (m : ℕ) (site : Option Site) → slice_get story.sites m ≡ site → GoesOn s size st (story_steps.fallen story m site)
  fall_goes m None there = nothing
  fall_goes m (Some (Up n)) there = rests s size story st m (Up n) all fit holds there (pointed m) (Down n None) refl tt
  fall_goes m (Some (Down n handling)) there = nothing
