-- That a message that was posted may be given, and what becomes of it.
use Rattle.std.proofs.Common.{◌≡◌, ◌≤◌, ◌<◌, ℕ, zero, suc, List, [], ◌∷◌, length, Option, Some, None, Result, Ok, Err, refl, sym, ap, subst, ◌∙◌, arith}
use Rattle.std.specs.List.{slice_get}
use Rattle.std.specs.Result.{IfOk}
use Rattle.std.proofs.lemmas.Result.{IfOk-weaker}
use Rattle.disk_model.specs.Crash.{History}
use Rattle.disk_model.specs.declared.disk.Disk.{Ghosts}
use Rattle.disk_model.specs.Health.{Health}
use Rattle.link_model.specs.Links.{IsOf, Shown}
use Rattle.mini_tx.specs.declared.actor.Actor.{Actor}
use Rattle.mini_tx.specs.declared.actor.Actor.TheVariants.{Node, Memory, Manager}
use Rattle.mini_tx.specs.declared.geometry.Geometry4.{Geometry4}
use Rattle.mini_tx.specs.declared.posted.Posted.{Posted}
use Rattle.mem_rules.specs.declared.setup.Setup.{Setup}
use Rattle.mem_rules.specs.Fit.{IsOfCluster, size_of}
use Rattle.tx_coord.specs.State.{Machine}
use Rattle.tx_rules.specs.Mini.{In}
use Rattle.story_rules.specs.Story.{Site, Story, Up, Down}
use Rattle.story_rules.specs.Steps as steps
use Rattle.story_rules.specs.Steps.{message_at, delivered, given, to_receiver, to_memory, to_node}
use Rattle.story_laws.specs.Acts.{IsTold, Delivers}
use Rattle.story_laws.proofs.BeginningLemmas.{at_posted}
use Rattle.story_shown.proofs.MessageLemmas.{posted_are_fit}
use Rattle.cluster_laws.specs.Sending.{IsFromNode, IsSentWell}
use Rattle.cluster_laws.proofs.SendingLemmas.{nodes_send_to_memories}
use Rattle.cluster_parts.specs.Slots.{IsAt, setup_at}
use Rattle.cluster_parts.specs.declared.book.Book.{Book}
use Rattle.cluster_parts.specs.declared.memory_slot.MemorySlot.{MemorySlot}
use Rattle.cluster_memories.specs.Memories.{AreRested, MayBeSent, setup_for}
use Rattle.cluster_parts.specs.declared.delivered.Delivered.TheVariants.{Handled}
use Rattle.cluster_steps.specs.Live.{Goes, IsBeside, IsLive, how_of, vote_from}
use Rattle.cluster_steps.specs.declared.went.Went.{Went}
use Rattle.cluster_calls.specs.Known.{Act, IsDelivered, StandFor, image_bytes, vote_at, vote_to}
use Rattle.cluster_calls.proofs.ActLemmas.{goes_on, node_acts}
use Rattle.cluster_calls.proofs.BootLemmas.{delivered_boots}

some_at : {A : Type 0} (xs : List A) (n : ℕ) → n < length xs → (x : A) × (slice_get xs n ≡ Some x)
some_at [] n below = absurd (omega (arith, below))
some_at (x ∷ xs) zero below = (x, refl)
some_at (x ∷ xs) (suc n) below = some_at xs n (omega (arith, below))

none_at : {A : Type 0} (xs : List A) (n : ℕ) → length xs ≤ n → slice_get xs n ≡ None
none_at [] n past = refl
none_at (x ∷ xs) zero past = absurd (omega (arith, past))
none_at (x ∷ xs) (suc n) past = none_at xs n (omega (arith, past))

setup_is : {D : Type 0} {G : Ghosts D} (s : Setup) (slot : MemorySlot D G) (site : Site) → IsAt s slot site → setup_at slot ≡ s
setup_is s slot (Up n) at = at.1
setup_is s slot (Down n handling) at = at.1

inside : {A : Type 0} (xs : List A) (n : ℕ) (x : A) → slice_get xs n ≡ Some x → n < length xs
inside [] n x is = absurd cc
inside (y ∷ xs) zero x is = omega arith
inside (y ∷ xs) (suc n) x is = let e = inside xs n x is in omega (arith, e)

-- a memory node may be sent what was posted to it
pub may_be_sent : {D : Type 0} {G : Ghosts D} (g : Geometry4) (story : Story) (k : ℕ) (p : Posted) (slots : List (MemorySlot D G)) (m : ℕ) → IsDelivered g story k p slots → Memory m ≡ p.to
    → (slot : MemorySlot D G) → slice_get slots m ≡ Some slot → MayBeSent (setup_at slot) p.from p.message
may_be_sent g story k p slots m known to slot there =
    subst (λ (s : Setup). MayBeSent s p.from p.message) (sym (setup_is (setup_for g m) slot site.0 (known.at.each m slot site.0 there site.1))) (
      subst (λ (a : Actor). IsOfCluster g a) (sym sent.sender) (let below = sent.below in let many : g.nodes ≡ length story.nodes = known.nodes in omega (arith, below, many)),
      posted_are_fit (size_of (setup_for g 0)) story (setup_for g m) p known.told in_ (sym to) known.nodes known.memories refl,
      sent.built,
    )
  where
    in_ : In p story.posted
    in_ = at_posted story k p known.posted

    site : (s : Site) × (slice_get story.sites m ≡ Some s)
    site = some_at story.sites m (let below = inside slots m slot there in let many : length slots ≡ length story.sites = known.at.many in omega (arith, below, many))

    sent : IsFromNode (length story.nodes) p.from p.message
    sent = subst (λ (a : Actor). IsSentWell (length story.nodes) p.from a p.message) (sym to) (nodes_send_to_memories (size_of (setup_for g 0)) story p known.told in_)

-- ---- what becomes of each story

module _ {D : Type 0} {G : Ghosts D} (tells : D → Type 0) (history : D → History) (health : D → Health) (old new : List (MemorySlot D G)) (nodes later : List Machine)
    (before after : List Posted → Type 0) (was book : Book) (p : Posted) where
  abbrev pub Gives : Went → Type 0
  Gives went = (g : Geometry4) (story : Story) (k : ℕ) → message_at story k ≡ Some p → StandFor g old nodes before was story
      → Act tells history health g old new later after book story (Delivers k (how_of went.delivered)) × (went.vote ≡ vote_at story (Some p) (how_of went.delivered))

-- it was delivered, and no vote left
abbrev pub unheard : Went
unheard = record { delivered = Handled; vote = None }

pub same_posted : (p : Posted) (to : Actor) → to ≡ p.to → p ≡ record { from = p.from; to = to; message = p.message }
same_posted p to is = ap (λ (a : Actor). let q : Posted = record { from = p.from; to = a; message = p.message } in q) (sym is)

module _ {D : Type 0} {G : Ghosts D} (tells : D → Type 0) (history : D → History) (health : D → Health) where
  pub memory_gives : (old new : List (MemorySlot D G)) (nodes : List Machine) (before after : List Posted → Type 0) (was book : Book) (p : Posted) (m : ℕ) (E : Type 0)
      (r : Result Went E) → Memory m ≡ p.to
      → IfOk r (λ (went : Went). (size : ℕ) (g : Geometry4) (ns : List Machine) (story : Story) (k : ℕ) (q : Posted) → IsTold size story → message_at story k ≡ Some q
      → q ≡ record { from = p.from; to = Memory m; message = p.message } → IsLive g old ns before was story → Goes tells history health g old new ns after book story k m p.message went)
      → IfOk r (Gives tells history health old new nodes nodes before after was book p)
  memory_gives old new nodes before after was book p m E r to = IfOk-weaker r
      (λ (went : Went). (size : ℕ) (g : Geometry4) (ns : List Machine) (story : Story) (k : ℕ) (q : Posted) → IsTold size story → message_at story k ≡ Some q
      → q ≡ record { from = p.from; to = Memory m; message = p.message } → IsLive g old ns before was story → Goes tells history health g old new ns after book story k m p.message went)
      (Gives tells history health old new nodes nodes before after was book p)
      (λ went each g story k posted known.
      let goes = each (image_bytes g) g nodes story k p known.told posted (same_posted p (Memory m) to) known.live in (
        record {
          stands = goes_on g old new nodes nodes before after was book story (Delivers k (how_of went.delivered)) known tt (delivered_boots story k (how_of went.delivered)) goes.live;
          rests = goes.rests;
        },
        goes.vote ∙ ap (λ (a : Actor). vote_to story p a (how_of went.delivered)) to,
      ))

  pub node_gives : (slots : List (MemorySlot D G)) (nodes later : List Machine) (before after : List Posted → Type 0) (was book : Book) (p : Posted) (n : ℕ) (E : Type 0)
      (r : Result Went E) → Node n ≡ p.to
      → IfOk r (λ (went : Went). (story : Story) (k : ℕ) (q : Posted) → message_at story k ≡ Some q → q ≡ record { from = p.from; to = Node n; message = p.message }
      → IsBeside nodes before was story → IsBeside later after book (delivered story k (how_of went.delivered)) × ((delivered story k (how_of went.delivered)).sites ≡ story.sites))
      → IfOk r (λ (went : Went). went.vote ≡ None)
      → IfOk r (Gives tells history health slots slots nodes later before after was book p)
  node_gives slots nodes later before after was book p n E (Err e) to heard vote = tt
  node_gives slots nodes later before after was book p n E (Ok went) to heard vote = λ g story k posted known.
      let now = heard story k p posted (same_posted p (Node n) to) (record { seats = known.live.seats; posted = known.live.posted; counts = known.live.counts }) in (
        node_acts g tells history health slots nodes later before after was book story (Delivers k (how_of went.delivered)) known tt (delivered_boots story k (how_of went.delivered)) now.0 now.1,
        vote ∙ ap (λ (a : Actor). vote_to story p a (how_of went.delivered)) to,
      )

  -- to whom there is none
  none_gives : (slots : List (MemorySlot D G)) (nodes : List Machine) (before : List Posted → Type 0) (was : Book) (p : Posted) (went : Went) → went ≡ unheard
      → ((story : Story) (k : ℕ) (g : Geometry4) → IsLive g slots nodes before was story → (to_receiver story k steps.Handled p p.to ≡ story) × (None ≡ vote_to story p p.to steps.Handled))
      → Gives tells history health slots slots nodes nodes before before was was p went
  none_gives slots nodes before was p went is none =
      subst (Gives tells history health slots slots nodes nodes before before was was p) (sym is) (λ g story k posted known.
      let one = none story k g known.live in
      let same : delivered story k steps.Handled ≡ story = ap (given story k steps.Handled) posted ∙ one.0 in (
        record {
          stands = goes_on g slots slots nodes nodes before before was was story (Delivers k steps.Handled) known tt (delivered_boots story k steps.Handled)
              (subst (IsLive g slots nodes before was) (sym same) known.live);
          rests = λ rested. subst (λ (s : Story). AreRested tells history health g s.posted slots s.sites) (sym same) rested;
        },
        one.1,
      ))

  pub no_memory : (slots : List (MemorySlot D G)) (nodes : List Machine) (before : List Posted → Type 0) (was : Book) (p : Posted) (went : Went) (m : ℕ) → went ≡ unheard
      → Memory m ≡ p.to → length slots ≤ m → Gives tells history health slots slots nodes nodes before before was was p went
  no_memory slots nodes before was p went m is to past = none_gives slots nodes before was p went is
      (λ story k g live.
      let none = none_at story.sites m (let many : length slots ≡ length story.sites = live.memories.many in omega (arith, past, many)) in (
        sym (ap (to_receiver story k steps.Handled p) to) ∙ ap (to_memory story m k p steps.Handled) none,
        sym (ap (λ (a : Actor). vote_to story p a steps.Handled) (sym to) ∙ ap (λ (o : Option Site). vote_from (length story.posted) p.message o steps.Handled) none),
      ))

  pub no_node : (slots : List (MemorySlot D G)) (nodes : List Machine) (before : List Posted → Type 0) (was : Book) (p : Posted) (went : Went) (n : ℕ) → went ≡ unheard
      → Node n ≡ p.to → length nodes ≤ n → Gives tells history health slots slots nodes nodes before before was was p went
  no_node slots nodes before was p went n is to past = none_gives slots nodes before was p went is
      (λ story k g live. (
        sym (ap (to_receiver story k steps.Handled p) to)
            ∙ ap (to_node story n p) (none_at story.nodes n (let many : length nodes ≡ length story.nodes = live.seats.many in omega (arith, past, many))),
        ap (λ (a : Actor). vote_to story p a steps.Handled) to,
      ))

  pub no_manager : (slots : List (MemorySlot D G)) (nodes : List Machine) (before : List Posted → Type 0) (was : Book) (p : Posted) (went : Went) → went ≡ unheard
      → Manager ≡ p.to → Gives tells history health slots slots nodes nodes before before was was p went
  no_manager slots nodes before was p went is to = none_gives slots nodes before was p went is
      (λ story k g live. (sym (ap (to_receiver story k steps.Handled p) to), ap (λ (a : Actor). vote_to story p a steps.Handled) to))

-- ---- a message is taken from the link

-- the link still stands for what it stood for
pub moved_link : {D : Type 0} {G : Ghosts D} (g : Geometry4) (slots : List (MemorySlot D G)) (nodes : List Machine) (before after : List Posted → Type 0) (book : Book) (story : Story)
    → ((ps : List Posted) → before ps → after ps) → StandFor g slots nodes before book story → StandFor g slots nodes after book story
moved_link g slots nodes before after book story same known = record {
  told = known.told;
  nodes = known.nodes;
  memories = known.memories;
  boots = known.boots;
  live = record { memories = known.live.memories; seats = known.live.seats; posted = same story.posted known.live.posted; counts = known.live.counts };
}

pub message_there : (story : Story) (k : ℕ) (p : Posted) (shown : Shown) → IsOf story.posted shown → shown.there k ≡ Some p → message_at story k ≡ Some p
message_there story zero p shown is there = is.known zero p there
message_there story (suc k) p shown is there = is.known (suc k) p there

module _ {D : Type 0} {G : Ghosts D} (tells : D → Type 0) (history : D → History) (health : D → Health) (g : Geometry4) (old new : List (MemorySlot D G)) (nodes later : List Machine)
    (before mid after : List Posted → Type 0) (was book : Book) (p : Posted) (k : ℕ) (E : Type 0) (r : Result Went E)
    (there : (story : Story) → before story.posted → message_at story k ≡ Some p) (same : (ps : List Posted) → before ps → mid ps)
    (gives : IfOk r (Gives tells history health old new nodes later mid after was book p)) where
  pub delivers : IfOk r (λ (went : Went). (story : Story) → StandFor g old nodes before was story → Act tells history health g old new later after book story (Delivers k (how_of went.delivered)))
  delivers = IfOk-weaker r (Gives tells history health old new nodes later mid after was book p)
      (λ (went : Went). (story : Story) → StandFor g old nodes before was story → Act tells history health g old new later after book story (Delivers k (how_of went.delivered)))
      (λ went fact story known. (fact g story k (there story known.live.posted) (moved_link g old nodes before mid was story same known)).0) gives

  pub votes : IfOk r (λ (went : Went). (story : Story) → StandFor g old nodes before was story → went.vote ≡ vote_at story (message_at story k) (how_of went.delivered))
  votes = IfOk-weaker r (Gives tells history health old new nodes later mid after was book p)
      (λ (went : Went). (story : Story) → StandFor g old nodes before was story → went.vote ≡ vote_at story (message_at story k) (how_of went.delivered))
      (λ went fact story known.
      (fact g story k (there story known.live.posted) (moved_link g old nodes before mid was story same known)).1
      ∙ ap (λ (o : Option Posted). vote_at story o (how_of went.delivered)) (sym (there story known.live.posted))) gives
