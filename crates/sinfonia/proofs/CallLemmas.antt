-- What the calls of the parts make of a cluster.
use Rattle.std.proofs.Common.{◌≡◌, ◌⊎◌, inl, inr, ◌<◌, ◌^◌, ℕ, Bool, true, false, List, length, Option, Some, is_some, not, refl, sym, ap, subst, ◌∙◌, arith}
use Rattle.std.specs.List.{slice_get}
use Rattle.std.proofs.lemmas.Option.{slice_get_within}
use Rattle.disk_model.specs.Crash.{History}
use Rattle.disk_model.specs.declared.disk.Disk.{Ghosts}
use Rattle.disk_model.specs.Health.{Health}
use Rattle.link_model.specs.Links.{IsOf, Shown}
use Rattle.mini_tx.specs.declared.actor.Actor.{Actor}
use Rattle.mini_tx.specs.declared.actor.Actor.TheVariants.{Node, Manager}
use Rattle.mini_tx.specs.declared.geometry.Geometry4.{Geometry4}
use Rattle.mini_tx.specs.declared.posted.Posted.{Posted}
use Rattle.tx_coord.specs.declared.tx_state.TxState.{TxState}
use Rattle.tx_coord.specs.declared.tx_state.TxState.TheVariants.{Idle}
use Rattle.tx_coord.specs.State as coord
use Rattle.tx_coord.specs.State.{Machine}
use Rattle.story_rules.specs.Story.{Seat, Site, Story, Up, Down}
use Rattle.story_laws.specs.Acts.{Act, after_act}
use Rattle.story_laws.proofs.ActLemmas.{act_grows}
use Rattle.story_shown.proofs.ImageLemmas.{told_stories_are_flat}
use Rattle.note_laws.proofs.BegunLemmas.{beginnings_are_few}
use Rattle.note_laws.proofs.RefusedLemmas.{refused_are_noted}
use Rattle.note_laws.proofs.SiteLemmas.{sites_are_many}
use Rattle.cluster_parts.specs.Slots.{IsAt, is_down_in}
use Rattle.cluster_parts.specs.declared.memory_slot.MemorySlot.{MemorySlot}
use Rattle.cluster_memories.specs.Memories.{AreRested, setup_for}
use Rattle.cluster_steps.proofs.NodeStep.{some_at}
use Rattle.cluster_calls.specs.Counted.{counted_stands}
use Rattle.cluster_calls.specs.Known.{StandFor, image_bytes}
use Rattle.cluster_calls.specs.Parts.{Do, book_of, geometry_of, link_of, memories_of, nodes_of}
use Rattle.cluster_calls.proofs.ActLemmas.{seat, runs}
use Rattle.sinfonia.specs.declared.cluster.Cluster.{Cluster}
use Rattle.sinfonia.specs.Clusters.{Does, IsIdle, IsKnown, RunsIn, StandsFor, TellsOf, is_up}

some_one : {A : Type 0} (x y : A) → ◌≡◌ {A = Option A} (Some x) (Some y) → x ≡ y
some_one x y is = cc

-- where memory did not run out there is a story
pub known_live : {D L : Type 0} {G : Ghosts D} (stands : L → List Posted → Type 0) (old : Cluster D L G) → old.spent ≡ false → IsKnown stands old → (story : Story) × StandsFor stands old story
known_live stands old live (inl spent) = absurd (let e : ◌≡◌ {A = Bool} true false = sym spent ∙ live in cc)
known_live stands old live (inr known) = known

module _ {D L : Type 0} {G : Ghosts D} (tells : D → Type 0) (history : D → History) (health : D → Health) (stands : L → List Posted → Type 0) where
  -- an act of the parts is one of the cluster
  pub does : (old new : Cluster D L G) (act : Act) → new.spent ≡ false → geometry_of new.parts ≡ geometry_of old.parts
      → Do tells history health (counted_stands stands) old.parts new.parts act → Does tells history health stands old new act
  does old new act live same does_ story known =
      let it = does_ story known.parts in
      record {
        stands = record {
          live = live;
          parts = subst (λ (g : Geometry4). StandFor g (memories_of new.parts) (nodes_of new.parts) (counted_stands stands (link_of new.parts)) (book_of new.parts) (after_act story act)) (sym same) it.stands;
        };
        grows = act_grows story act;
        flat = told_stories_are_flat (image_bytes (geometry_of old.parts)) (after_act story act) it.stands.told;
        rests = λ rested. subst (λ (g : Geometry4). AreRested tells history health g (after_act story act).posted (memories_of new.parts) (after_act story act).sites) (sym same) (it.rests rested);
      }

  -- and then there is a story that it stands for
  pub stands_after : (old new : Cluster D L G) (act : Act) → old.spent ≡ false → IsKnown stands old → Does tells history health stands old new act → (story : Story) × StandsFor stands new story
  stands_after old new act live known does_ = let it = known_live stands old live known in (after_act it.0 act, (does_ it.0 it.1).stands)

module _ {D L : Type 0} {G : Ghosts D} (stands : L → List Posted → Type 0) (c : Cluster D L G) (story : Story) (known : StandsFor stands c story) where
  abbrev on : StandFor (geometry_of c.parts) (memories_of c.parts) (nodes_of c.parts) (counted_stands stands (link_of c.parts)) (book_of c.parts) story
  on = known.parts

  -- a node of the geometry is there
  pub node_there : (n : ℕ) → n < (geometry_of c.parts).nodes → n < length (nodes_of c.parts)
  node_there n below =
      let one : (geometry_of c.parts).nodes ≡ length story.nodes = known.parts.nodes in
      let two : length (nodes_of c.parts) ≡ length story.nodes = known.parts.live.seats.many in
      omega (arith, below, one, two)

  -- and so is a memory node
  pub memory_there : (m : ℕ) → m < (geometry_of c.parts).memories → m < length (memories_of c.parts)
  memory_there m below =
      let one : (geometry_of c.parts).memories ≡ length story.opening = known.parts.memories in
      let two : length (memories_of c.parts) ≡ length story.sites = known.parts.live.memories.many in
      let three : length story.sites ≡ length story.opening = sites_are_many (image_bytes (geometry_of c.parts)) story known.parts.told in
      omega (arith, below, one, two, three)

  abbrev its_seat : (n : ℕ) (m : Machine) → slice_get (nodes_of c.parts) n ≡ Some m → (s : Seat) × (slice_get story.nodes n ≡ Some s)
  its_seat n m at = seat (geometry_of c.parts) (memories_of c.parts) (nodes_of c.parts) (counted_stands stands (link_of c.parts)) (book_of c.parts) n story known.parts m at

  its_state : (n : ℕ) (m : Machine) (at : slice_get (nodes_of c.parts) n ≡ Some m) → (its_seat n m at).0.actor ≡ Some m.state
  its_state n m at = runs (geometry_of c.parts) (memories_of c.parts) (nodes_of c.parts) (counted_stands stands (link_of c.parts)) (book_of c.parts) n story known.parts m at

  pub idle_there : (n : ℕ) → IsIdle story n → (m : Machine) → slice_get (nodes_of c.parts) n ≡ Some m → m.state.phase ≡ coord.Free
  idle_there n idle m at = idle (its_seat n m at).0 m.state (its_seat n m at).1 (its_state n m at)

  pub few_there : length story.posted < 2 ^ 62 → (n : ℕ) (m : Machine) → slice_get (nodes_of c.parts) n ≡ Some m → m.state.begun < 2 ^ 62
  few_there few n m at =
      let below = beginnings_are_few (image_bytes (geometry_of c.parts)) story n (its_seat n m at).0 m.state known.parts.told (its_seat n m at).1 (its_state n m at) in
      omega (arith, below, few)

  -- the link has as many messages as the story
  pub life_there : (shown : Shown) → ((posted : List Posted) → counted_stands stands (link_of c.parts) posted → IsOf posted shown) → length story.posted < 2 ^ 62 → shown.count < 2 ^ 62
  life_there shown sound few = let many : shown.count ≡ length story.posted = (sound story.posted known.parts.live.posted).count in omega (arith, many, few)

  -- what a node tells
  pub tells_there : (n : ℕ) (state : TxState) → n < (geometry_of c.parts).nodes → ((m : Machine) → slice_get (nodes_of c.parts) n ≡ Some m → state ≡ coord.shown m.state.phase) → TellsOf story n state
  tells_there n state below is own actor at running =
      let one = some_at (nodes_of c.parts) n (node_there n below) in
      let same_actor = (known.parts.live.seats.each n one.0 own one.1 at).0 in
      let same : one.0.state ≡ actor = some_one one.0.state actor (sym same_actor ∙ running) in
      let flat = told_stories_are_flat (image_bytes (geometry_of c.parts)) story known.parts.told in
      record {
        is = is one.0 one.1 ∙ ap (λ (d : coord.State). coord.shown d.phase) same;
        committed = λ reads ended. flat.outcomes n own actor reads at running ended;
        refused = λ m v ended.
            let noted = refused_are_noted (image_bytes (geometry_of c.parts)) story n own actor m v known.parts.told at running ended in
            (noted, flat.refused _ noted);
      }

  -- a node that tells Idle is idle
  pub idle_told : (n : ℕ) (state : TxState) → n < (geometry_of c.parts).nodes → ((m : Machine) → slice_get (nodes_of c.parts) n ≡ Some m → state ≡ coord.shown m.state.phase)
      → state ≡ Idle → IsIdle story n
  idle_told n state below is idle own actor at running = go actor.phase (sym (tells_there n state below is own actor at running).is ∙ idle)
    where
      go : (ph : coord.Phase) → coord.shown ph ≡ Idle → ph ≡ coord.Free
      go coord.Free shown = refl
      go (coord.Runs r) shown = absurd cc
      go (coord.Ended outcome) shown = absurd cc

  -- whether a memory node runs
  pub memory_runs : (m : ℕ) (r : Bool) → ((slot : MemorySlot D G) → slice_get (memories_of c.parts) m ≡ Some slot → r ≡ not (is_down_in slot))
      → (site : Site) → slice_get story.sites m ≡ Some site → r ≡ is_up site
  memory_runs m r is site there =
      let many : length (memories_of c.parts) ≡ length story.sites = known.parts.live.memories.many in
      let below = slice_get_within story.sites m site there in
      let slot = some_at (memories_of c.parts) m (omega (arith, many, below)) in
      is slot.0 slot.1 ∙ go slot.0 site (known.parts.live.memories.each m slot.0 site slot.1 there)
    where
      go : (slot : MemorySlot D G) (s : Site) → IsAt (setup_for (geometry_of c.parts) m) slot s → not (is_down_in slot) ≡ is_up s
      go slot (Up n) at = ap not at.0
      go slot (Down n handling) at = ap not at.0

  node_runs : (n : ℕ) (own : Seat) → slice_get story.nodes n ≡ Some own → true ≡ is_some own.actor
  node_runs n own there =
      let many : length (nodes_of c.parts) ≡ length story.nodes = known.parts.live.seats.many in
      let below = slice_get_within story.nodes n own there in
      let one = some_at (nodes_of c.parts) n (omega (arith, many, below)) in
      sym (ap (λ (a : Option coord.State). is_some a) (known.parts.live.seats.each n one.0 own one.1 there).0)

  -- nodes run, and nothing stops the manager
  pub others_run : (who : Actor) → ((n : ℕ) × (who ≡ Node n)) ⊎ (who ≡ Manager) → RunsIn story who true
  others_run who is = elim is [
    | inl node ↦ subst (λ (w : Actor). RunsIn story w true) (sym node.1) (node_runs node.0)
    | inr manager ↦ subst (λ (w : Actor). RunsIn story w true) (sym manager) refl
  ]
