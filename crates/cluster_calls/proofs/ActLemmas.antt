-- What an act of a story makes of the parts that stand for it.
use Rattle.std.proofs.Common.{◌≡◌, ◌<◌, ◌^◌, ℕ, zero, suc, Bool, false, List, [], ◌∷◌, ◌++◌, map, length, Option, Some, None, refl, sym, ap, subst, ◌∙◌, arith, slice_set}
use Rattle.std.specs.List.{slice_get}
use Rattle.std.proofs.lemmas.List.{append-nil}
use Rattle.disk_model.specs.Crash.{History}
use Rattle.disk_model.specs.declared.disk.Disk.{Ghosts}
use Rattle.disk_model.specs.Health.{Health}
use Rattle.mini_tx.specs.declared.geometry.Geometry4.{Geometry4}
use Rattle.mini_tx.specs.declared.item.Item.{Item}
use Rattle.mini_tx.specs.declared.posted.Posted.{Posted}
use Rattle.mini_tx.specs.Laws.{IsTypedId}
use Rattle.mini_tx.specs.Minitransactions.{refusal}
use Rattle.tx_coord.specs.Rules as rules
use Rattle.tx_coord.specs.Rules.{next_id}
use Rattle.tx_coord.specs.State as coord
use Rattle.tx_coord.specs.State.{Machine}
use Rattle.story_rules.specs.Story.{Seat, Site, Story}
use Rattle.story_rules.specs.Steps.{at_seat, at_actor, with_actor, begun_by, given_up, cleared, resent, sent_by}
use Rattle.story_laws.specs.Acts.{Begins, Delivers, GivesUp, Clears, Resends, IsTold, MayBegin, MayHappen, Holds, after_act}
use Rattle.story_laws.specs.Acts as acts
use Rattle.story_laws.specs.Identifiers.{IsSeated}
use Rattle.story_laws.proofs.ActLemmas.{act_grows, stories_go_on, told_stories_hold}
use Rattle.cluster_laws.proofs.DoubtLemmas.{beginnings_are_in_doubt, refused_are_not_in_doubt}
use Rattle.cluster_parts.specs.Books.{IsBook, doubts_of}
use Rattle.cluster_parts.specs.declared.book.Book.{Book}
use Rattle.cluster_parts.specs.declared.memory_slot.MemorySlot.{MemorySlot}
use Rattle.cluster_memories.specs.Memories.{AreAt, AreRested}
use Rattle.cluster_memories.proofs.RestLemmas.{rested_more}
use Rattle.cluster_seats.specs.Seats.{Becomes}
use Rattle.cluster_steps.specs.Live.{AreSeated, IsBeside, IsLive}
use Rattle.cluster_steps.proofs.NodeStep.{seat_set, some_at}
use Rattle.cluster_calls.specs.Known.{Act, StandFor, image_bytes}
use Rattle.cluster_calls.proofs.BootLemmas.{boots_of, same_many, same_within, begun_boots, given_up_boots, cleared_boots, resent_boots}

module _ {D : Type 0} {G : Ghosts D} (g : Geometry4) where
  -- the story goes on
  pub goes_on : (old slots : List (MemorySlot D G)) (before later : List Machine) (was now : List Posted → Type 0) (book after : Book) (story : Story) (act : acts.Act)
      → StandFor g old before was book story → MayHappen (image_bytes g) story act → boots_of (after_act story act) ≡ boots_of story → IsLive g slots later now after (after_act story act)
      → StandFor g slots later now after (after_act story act)
  goes_on old slots before later was now book after story act stands may boots live = record {
    told = stories_go_on (image_bytes g) story act stands.told may;
    nodes = stands.nodes ∙ sym (same_many story (after_act story act) boots);
    memories = stands.memories ∙ ap (λ (ss : List _). length ss) (sym (act_grows story act).opening);
    boots = same_within story (after_act story act) boots stands.boots;
    live = live;
  }

  module _ (tells : D → Type 0) (history : D → History) (health : D → Health) where
    -- a node's act leaves what the disks hold
    pub node_rests : (slots : List (MemorySlot D G)) (story : Story) (act : acts.Act) → (after_act story act).sites ≡ story.sites → AreRested tells history health g story.posted slots story.sites
        → AreRested tells history health g (after_act story act).posted slots (after_act story act).sites
    node_rests slots story act same rested =
        let more = (act_grows story act).posted in
        subst (λ (ps : List Posted). AreRested tells history health g ps slots (after_act story act).sites) (sym more.1)
        (subst (λ (ss : List Site). AreRested tells history health g (story.posted ++ more.0) slots ss) (sym same)
        (rested_more tells history health g story.posted more.0 slots story.sites rested))

    -- a node's act
    pub node_acts : (slots : List (MemorySlot D G)) (before later : List Machine) (was now : List Posted → Type 0) (book after : Book) (story : Story) (act : acts.Act)
        → StandFor g slots before was book story → MayHappen (image_bytes g) story act → boots_of (after_act story act) ≡ boots_of story
        → IsBeside later now after (after_act story act) → (after_act story act).sites ≡ story.sites
        → Act tells history health g slots slots later now after story act
    node_acts slots before later was now book after story act stands may boots beside same = record {
      stands = goes_on slots slots before later was now book after story act stands may boots (record {
        memories = subst (AreAt g slots) (sym same) stands.live.memories;
        seats = beside.seats;
        posted = beside.posted;
        counts = beside.counts;
      });
      rests = node_rests slots story act same;
    }

-- ---- a beginning

module _ {D : Type 0} {G : Ghosts D} (g : Geometry4) (slots : List (MemorySlot D G)) (nodes : List Machine) (stands : List Posted → Type 0) (book : Book) (n : ℕ) (story : Story)
    (known : StandFor g slots nodes stands book story) (c : Machine) (at : slice_get nodes n ≡ Some c) where
  inside : {A : Type 0} (xs : List A) (m : ℕ) (x : A) → slice_get xs m ≡ Some x → m < length xs
  inside [] m x is = absurd cc
  inside (y ∷ xs) zero x is = omega arith
  inside (y ∷ xs) (suc m) x is = let e = inside xs m x is in omega (arith, e)

  pub seat : (s : Seat) × (slice_get story.nodes n ≡ Some s)
  seat = some_at story.nodes n (let many : length nodes ≡ length story.nodes = known.live.seats.many in let below = inside nodes n c at in omega (arith, below, many))

  pub runs : seat.0.actor ≡ Some c.state
  runs = (known.live.seats.each n c seat.0 at seat.1).0

  pub live_machine : c.is_spent ≡ false
  live_machine = (known.live.seats.each n c seat.0 at seat.1).1

  own : IsSeated n seat.0.boot (Some c.state)
  own = subst (λ (a : Option coord.State). IsSeated n seat.0.boot a) runs ((told_stories_hold (image_bytes g) story known.told).counted.seated n seat.0 seat.1)

  pub unknown : doubts_of book (next_id c.state) ≡ None
  unknown = (beginnings_are_in_doubt (image_bytes g) story n seat.0 c.state [] (doubts_of book) known.told seat.1 runs known.live.counts.doubts).0

  pub may_begin : (items : List Item) → n < 2 ^ 32 → c.state.phase ≡ coord.Free → c.state.begun < 2 ^ 62 → refusal items g.memories (image_bytes g) ≡ None → MayBegin (image_bytes g) story n items
  may_begin items small free few valid other d there actor =
      let same_seat : seat.0 ≡ other = one_some seat.0 other (sym seat.1 ∙ there) in
      let same : c.state ≡ d = one_some c.state d (sym runs ∙ ap (λ (s : Seat). s.actor) same_seat ∙ actor) in
      subst (λ (e : coord.State). (e.phase ≡ coord.Free) × IsTypedId (next_id e) × (refusal items (length story.opening) (image_bytes g) ≡ None)) same (
        free,
        (
          let it : c.state.coord ≡ n = own.0 in omega (arith, it, small),
          let boot : c.state.boot ≡ seat.0.boot = own.1 in let within = known.boots n seat.0 seat.1 in omega (arith, boot, within),
          omega (arith, few),
        ),
        ap (λ (m : ℕ). refusal items m (image_bytes g)) (sym known.memories) ∙ valid,
      )
    where
      one_some : {A : Type 0} (x y : A) → ◌≡◌ {A = Option A} (Some x) (Some y) → x ≡ y
      one_some x y is = cc

-- ---- a node's coordinator becomes another

at_node_is : (story : Story) (n : ℕ) (does : ℕ → coord.State → Story) (seat : Seat) (c : coord.State) → slice_get story.nodes n ≡ Some seat → seat.actor ≡ Some c
    → at_seat story does (slice_get story.nodes n) ≡ does seat.boot c
at_node_is story n does seat c there runs = ap (at_seat story does) there ∙ ap (at_actor story does seat.boot) runs

-- what else a story says is in doubt as before
moved_book : (before now : Story) (book : Book) → now.begun ≡ before.begun → now.logs ≡ before.logs → now.committed ≡ before.committed → now.refused ≡ before.refused → IsBook book before → IsBook book now
moved_book before now book begun logs committed refused is = record {
  committed = is.committed ∙ sym committed;
  doubts = refused_are_not_in_doubt before now [] (doubts_of book) (record { begun = begun; logs = logs; committed = committed; refused = refused ∙ sym (append-nil before.refused) }) is.doubts;
}

module _ {D : Type 0} {G : Ghosts D} (g : Geometry4) (slots : List (MemorySlot D G)) (nodes : List Machine) (stands : List Posted → Type 0) (book : Book) (n : ℕ) (story : Story)
    (known : StandFor g slots nodes stands book story) (c : Machine) (at : slice_get nodes n ≡ Some c) where
  abbrev its : (s : Seat) × (slice_get story.nodes n ≡ Some s)
  its = seat g slots nodes stands book n story known c at

  becomes : (later : coord.State) → AreSeated (slice_set nodes n (record c { state = later })) (slice_set story.nodes n (record { boot = its.0.boot; actor = Some later }))
  becomes later =
      subst (λ (b : Bool). AreSeated (slice_set nodes n (record { state = later; is_spent = b })) (slice_set story.nodes n (record { boot = its.0.boot; actor = Some later })))
      (sym (live_machine g slots nodes stands book n story known c at)) (seat_set nodes story.nodes n c later its.0 at its.1 known.live.seats)

  become_beside : (now : Story) (later : coord.State) → now ≡ with_actor story n its.0.boot (Some later) → IsBeside (slice_set nodes n (record c { state = later })) stands book now
  become_beside now later is = subst (IsBeside (slice_set nodes n (record c { state = later })) stands book) (sym is) (record {
    seats = becomes later;
    posted = known.live.posted;
    counts = moved_book story (with_actor story n its.0.boot (Some later)) book refl refl refl refl known.live.counts;
  })

  pub gives_up : IsBeside (slice_set nodes n (record c { state = rules.given_up c.state })) stands book (given_up story n) × ((given_up story n).sites ≡ story.sites)
  gives_up =
      let is = at_node_is story n (λ boot d. with_actor story n boot (Some (rules.given_up d))) its.0 c.state its.1 (runs g slots nodes stands book n story known c at) in
      (become_beside (given_up story n) (rules.given_up c.state) is, ap (λ (s : Story). s.sites) is)

  pub clears : IsBeside (slice_set nodes n (record c { state = rules.cleared c.state })) stands book (cleared story n) × ((cleared story n).sites ≡ story.sites)
  clears =
      let is = at_node_is story n (λ boot d. with_actor story n boot (Some (rules.cleared d))) its.0 c.state its.1 (runs g slots nodes stands book n story known c at) in
      (become_beside (cleared story n) (rules.cleared c.state) is, ap (λ (s : Story). s.sites) is)

  pub resends : (after : List Posted → Type 0) → ((ps : List Posted) → stands ps → after (ps ++ map (sent_by n) (rules.resent c.state)))
      → IsBeside nodes after book (resent story n) × ((resent story n).sites ≡ story.sites)
  resends after posts =
      let is = at_node_is story n (λ boot d. record story { posted = story.posted ++ map (sent_by n) (rules.resent d) }) its.0 c.state its.1 (runs g slots nodes stands book n story known c at) in (
        subst (IsBeside nodes after book) (sym is) (record {
          seats = known.live.seats;
          posted = posts story.posted known.live.posted;
          counts = moved_book story (record story { posted = story.posted ++ map (sent_by n) (rules.resent c.state) }) book refl refl refl refl known.live.counts;
        }),
        ap (λ (s : Story). s.sites) is,
      )

-- ---- as the code has it

module _ {D : Type 0} {G : Ghosts D} (tells : D → Type 0) (history : D → History) (health : D → Health) (g : Geometry4) (slots : List (MemorySlot D G)) (nodes later : List Machine)
    (stands after : List Posted → Type 0) (book : Book) (n : ℕ) (below : n < length nodes) where
  pub clear_acts : (story : Story) → Becomes rules.cleared n nodes later → StandFor g slots nodes stands book story → Act tells history health g slots slots later stands book story (Clears n)
  clear_acts story becomes_ known =
      let one = some_at nodes n below in
      let own = clears g slots nodes stands book n story known one.0 one.1 in
      subst (λ (ms : List Machine). Act tells history health g slots slots ms stands book story (Clears n)) (sym (becomes_ one.0 one.1))
      (node_acts g tells history health slots nodes (slice_set nodes n (record one.0 { state = rules.cleared one.0.state })) stands stands book book story (Clears n) known tt (cleared_boots story n) own.0 own.1)

  pub give_up_acts : (story : Story) → Becomes rules.given_up n nodes later → StandFor g slots nodes stands book story → Act tells history health g slots slots later stands book story (GivesUp n)
  give_up_acts story becomes_ known =
      let one = some_at nodes n below in
      let own = gives_up g slots nodes stands book n story known one.0 one.1 in
      subst (λ (ms : List Machine). Act tells history health g slots slots ms stands book story (GivesUp n)) (sym (becomes_ one.0 one.1))
      (node_acts g tells history health slots nodes (slice_set nodes n (record one.0 { state = rules.given_up one.0.state })) stands stands book book story (GivesUp n) known tt (given_up_boots story n) own.0 own.1)

  pub resend_acts : (story : Story) → ((c : Machine) → slice_get nodes n ≡ Some c → (ps : List Posted) → stands ps → after (ps ++ map (sent_by n) (rules.resent c.state)))
      → StandFor g slots nodes stands book story → Act tells history health g slots slots nodes after book story (Resends n)
  resend_acts story posts known =
      let one = some_at nodes n below in
      let own = resends g slots nodes stands book n story known one.0 one.1 after (posts one.0 one.1) in
      node_acts g tells history health slots nodes nodes stands after book book story (Resends n) known tt (resent_boots story n) own.0 own.1

  pub begin_acts : (story : Story) (now : Book) (items : List Item) → n < 2 ^ 32 → ((c : Machine) → slice_get nodes n ≡ Some c → c.state.phase ≡ coord.Free)
      → ((c : Machine) → slice_get nodes n ≡ Some c → c.state.begun < 2 ^ 62) → refusal items g.memories (image_bytes g) ≡ None
      → ((size : ℕ) (s : Story) → IsTold size s → IsBeside nodes stands book s → IsBeside later after now (begun_by s n items) × ((begun_by s n items).sites ≡ s.sites))
      → StandFor g slots nodes stands book story → Act tells history health g slots slots later after now story (Begins n items)
  begin_acts story now items small free few valid begins known =
      let one = some_at nodes n below in
      let own = begins (image_bytes g) story known.told (record { seats = known.live.seats; posted = known.live.posted; counts = known.live.counts }) in
      node_acts g tells history health slots nodes later stands after book now story (Begins n items) known
      (may_begin g slots nodes stands book n story known one.0 one.1 items small (free one.0 one.1) (few one.0 one.1) valid) (begun_boots story n items) own.0 own.1
