-- A cluster that was just formatted stands for its first story.
use Rattle.std.proofs.Common.{◌≡◌, ◌≢◌, ◌⊎◌, inl, inr, ◌<◌, ◌≤◌, ◌^◌, ℕ, zero, suc, List, [], ◌∷◌, ◌++◌, map, length, replicate, Option, Some, None, refl, sym, ap, subst, ◌∙◌, arith, slice_set, All}
use Rattle.std.specs.List.{slice_get}
use Rattle.std.proofs.lemmas.List.{length-append, length-map, length-replicate}
use Rattle.std.proofs.lemmas.List.Elements.{All-append, All-from_recursion}
use Rattle.std.proofs.lemmas.Option.{slice_get_within}
use Rattle.disk_model.specs.Crash.{History}
use Rattle.disk_model.specs.declared.disk.Disk.{Ghosts}
use Rattle.disk_model.specs.Health.{Health}
use Rattle.mini_tx.specs.FreshImages.{fresh_image}
use Rattle.mini_tx.specs.declared.geometry.Geometry4.{Geometry4}
use Rattle.mini_tx.specs.declared.posted.Posted.{Posted}
use Rattle.mini_tx.specs.declared.tx_id.TxId.{TxId}
use Rattle.mini_tx.proofs.FreshLemmas.{length-fresh_image}
use Rattle.mem_rules.specs.State as node
use Rattle.mem_rules.specs.Fit.{IsSetup}
use Rattle.tx_coord.specs.State.{Machine, started}
use Rattle.tx_rules.specs.Mini.{In}
use Rattle.story_rules.specs.MemoryNodes.{opened, with_state}
use Rattle.story_rules.specs.Story.{Seat, Site, Story, Up}
use Rattle.story_laws.specs.Acts.{IsTold, StartsNode}
use Rattle.story_laws.proofs.ActLemmas.{stories_go_on}
use Rattle.cluster_laws.specs.Doubts.{AreInDoubt}
use Rattle.cluster_parts.specs.Books.{doubts_of, history_of}
use Rattle.cluster_parts.specs.Slots.{IsAt, RestsAt}
use Rattle.cluster_parts.specs.declared.book.Book.{Book}
use Rattle.cluster_parts.specs.declared.memory_slot.MemorySlot.{MemorySlot}
use Rattle.cluster_memories.specs.Memories.{AreAt, AreRested, setup_for}
use Rattle.cluster_format.specs.Formats.{AreFresh}
use Rattle.cluster_steps.specs.Live.{AreSeated}
use Rattle.cluster_calls.specs.Counted.{count_of, counted_stands, link_below}
use Rattle.cluster_calls.specs.Known.{StandFor, image_bytes}
use Rattle.cluster_calls.specs.Parts.{Stands, book_of, geometry_of, link_of, memories_of, nodes_of}
use Rattle.cluster_calls.specs.declared.counted.Counted.{Counted}
use Rattle.cluster_calls.specs.declared.parts.Parts.{Parts}
use Rattle.sinfonia.specs.First.{first_machine, first_machines, first_of, first_story, started_story}

some_one : {A : Type 0} (x y : A) → ◌≡◌ {A = Option A} (Some x) (Some y) → x ≡ y
some_one x y is = cc

-- ---- lists by numbers

pub first_many : {A : Type 0} (f : ℕ → A) (n : ℕ) → length (first_of f n) ≡ n
first_many f zero = refl
first_many f (suc n) = let front : length (first_of f n) ≡ n = first_many f n in let both = length-append (first_of f n) (f n ∷ []) in omega (arith, front, both)

got_append : {A : Type 0} (xs : List A) (y : A) (k : ℕ) (x : A) → slice_get (xs ++ y ∷ []) k ≡ Some x → (slice_get xs k ≡ Some x) ⊎ ((k ≡ length xs) × (y ≡ x))
got_append [] y zero x is = inr (refl, some_one y x is)
got_append [] y (suc k) x is = absurd cc
got_append (z ∷ xs) y zero x is = inl is
got_append (z ∷ xs) y (suc k) x is = elim (got_append xs y k x is) [
  | inl front ↦ inl front
  | inr last ↦ inr (ap suc last.0, last.1)
]

pub first_got : {A : Type 0} (f : ℕ → A) (n k : ℕ) (x : A) → slice_get (first_of f n) k ≡ Some x → x ≡ f k
first_got f zero k x is = absurd cc
first_got f (suc n) k x is = elim (got_append (first_of f n) (f n) k x is) [
  | inl front ↦ first_got f n k x front
  | inr last ↦ sym last.1 ∙ ap f (sym (last.0 ∙ first_many f n))
]

set_same : {A : Type 0} (xs : List A) (k : ℕ) (y : A) → k < length xs → slice_get (slice_set xs k y) k ≡ Some y
set_same [] k y below = absurd (omega (arith, below))
set_same (x ∷ xs) zero y below = refl
set_same (x ∷ xs) (suc k) y below = set_same xs k y (omega (arith, below))

set_other : {A : Type 0} (xs : List A) (k j : ℕ) (y : A) → j ≢ k → slice_get (slice_set xs k y) j ≡ slice_get xs j
set_other [] k j y other = refl
set_other (x ∷ xs) zero zero y other = absurd (other refl)
set_other (x ∷ xs) zero (suc j) y other = refl
set_other (x ∷ xs) (suc k) zero y other = refl
set_other (x ∷ xs) (suc k) (suc j) y other = set_other xs k j y (λ same. other (ap suc same))

set_many : {A : Type 0} (xs : List A) (k : ℕ) (y : A) → length (slice_set xs k y) ≡ length xs
set_many [] k y = refl
set_many (x ∷ xs) zero y = refl
set_many (x ∷ xs) (suc k) y = ap suc (set_many xs k y)

map_got : {A B : Type 0} (f : A → B) (xs : List A) (n : ℕ) (y : B) → slice_get (map f xs) n ≡ Some y → (x : A) × (slice_get xs n ≡ Some x) × (f x ≡ y)
map_got f [] n y is = absurd cc
map_got f (x ∷ xs) zero y is = (x, refl, some_one (f x) y is)
map_got f (x ∷ xs) (suc n) y is = map_got f xs n y is

replicate_at : {A : Type 0} (n k : ℕ) (x : A) → k < n → slice_get (replicate n x) k ≡ Some x
replicate_at zero k x below = absurd (omega (arith, below))
replicate_at (suc n) zero x below = refl
replicate_at (suc n) (suc k) x below = replicate_at n k x (omega (arith, below))

map_at : {A B : Type 0} (f : A → B) (xs : List A) (k : ℕ) (x : A) → slice_get xs k ≡ Some x → slice_get (map f xs) k ≡ Some (f x)
map_at f [] k x is = absurd cc
map_at f (y ∷ xs) zero x is = ap (λ (z : _). Some (f z)) (some_one y x is)
map_at f (y ∷ xs) (suc k) x is = map_at f xs k x is

-- ---- the story

-- a node before its first start, and after it
abbrev asleep : Seat
asleep = record { boot = 0; actor = None }

abbrev awake : ℕ → Seat
awake n = record { boot = 1; actor = Some (started n 1) }

module _ (g : Geometry4) where
  abbrev at_first : Story
  at_first = started_story g 0

  -- all but the nodes are as at the beginning
  record IsSame (story : Story) : Type 0 where
    pub opening : story.opening ≡ at_first.opening
    pub begun : story.begun ≡ []
    pub logs : story.logs ≡ at_first.logs
    pub sites : story.sites ≡ at_first.sites
    pub posted : story.posted ≡ []
    pub committed : story.committed ≡ []
    pub refused : story.refused ≡ []

  same : (n : ℕ) → IsSame (started_story g n)
  same zero = record { opening = refl; begun = refl; logs = refl; sites = refl; posted = refl; committed = refl; refused = refl }
  same (suc n) =
      let it = same n in
      record { opening = it.opening; begun = it.begun; logs = it.logs; sites = it.sites; posted = it.posted; committed = it.committed; refused = it.refused }

  nodes_many : (n : ℕ) → length (started_story g n).nodes ≡ g.nodes
  nodes_many zero = length-map (replicate g.nodes 0) (λ (boot : ℕ). let s : Seat = record { boot = boot; actor = None } in s) ∙ length-replicate g.nodes 0
  nodes_many (suc n) = set_many (started_story g n).nodes n (awake n) ∙ nodes_many n

  not_started : (n k : ℕ) → n ≤ k → k < g.nodes → slice_get (started_story g n).nodes k ≡ Some asleep
  not_started zero k past below = map_at (λ (boot : ℕ). let s : Seat = record { boot = boot; actor = None } in s) (replicate g.nodes 0) k 0 (replicate_at g.nodes k 0 below)
  not_started (suc n) k past below = set_other (started_story g n).nodes n k (awake n) (λ same_. omega (arith, same_, past)) ∙ not_started n k (omega (arith, past)) below

  has_started : (n k : ℕ) → n ≤ g.nodes → k < n → slice_get (started_story g n).nodes k ≡ Some (awake k)
  has_started zero k within below = absurd (omega (arith, below))
  has_started (suc n) k within below = elim (last_or k n below) [
    | inl is ↦ subst (λ (j : ℕ). slice_get (started_story g (suc n)).nodes j ≡ Some (awake j)) (sym is)
        (set_same (started_story g n).nodes n (awake n) (let many = nodes_many n in omega (arith, many, within)))
    | inr before ↦ set_other (started_story g n).nodes n k (awake n) (λ same_. omega (arith, same_, before)) ∙ has_started n k (omega (arith, within)) before
  ]
    where
      last_or : (a b : ℕ) → a < suc b → (a ≡ b) ⊎ (a < b)
      last_or zero zero under = inl refl
      last_or zero (suc b) under = inr (omega arith)
      last_or (suc a) zero under = absurd (omega (arith, under))
      last_or (suc a) (suc b) under = elim (last_or a b (omega (arith, under))) [ inl same_ ↦ inl (ap suc same_) | inr before ↦ inr (omega (arith, before)) ]

  images_sized : IsSetup (setup_for g 0) → (n : ℕ) → All (λ (image : List ℕ). length image ≡ image_bytes g) (first_of (fresh_image g) n)
  images_sized setup zero = All-from_recursion (λ (image : List ℕ). length image ≡ image_bytes g) [] tt
  images_sized setup (suc n) =
      All-append (λ (image : List ℕ). length image ≡ image_bytes g) (first_of (fresh_image g) n) (fresh_image g n ∷ []) (images_sized setup n)
      (All-from_recursion (λ (image : List ℕ). length image ≡ image_bytes g) (fresh_image g n ∷ []) (length-fresh_image g n setup.inodes.0, tt))

  told : IsSetup (setup_for g 0) → (n : ℕ) → n ≤ g.nodes → IsTold (image_bytes g) (started_story g n)
  told setup zero within = record {
    images = first_of (fresh_image g) g.memories;
    boots = replicate g.nodes 0;
    acts = [];
    sized = images_sized setup g.memories;
    may = tt;
    is = refl;
  }
  told setup (suc n) within =
      stories_go_on (image_bytes g) (started_story g n) (StartsNode n 1) (told setup n (omega (arith, within)))
      (λ seat there.
      let is : asleep ≡ seat = some_one asleep seat (sym (not_started n n (omega arith) (omega (arith, within))) ∙ there) in
      subst (λ (s : Seat). s.boot < 1) is (omega arith))

  seated : AreSeated (first_machines g.nodes) (first_story g).nodes
  seated = record {
    many = first_many first_machine g.nodes ∙ sym (nodes_many g.nodes);
    each = λ n c seat machine there.
        let is = first_got first_machine g.nodes n c machine in
        let below = slice_get_within (first_machines g.nodes) n c machine in
        let many : length (first_machines g.nodes) ≡ g.nodes = first_many first_machine g.nodes in
        let own : awake n ≡ seat = some_one (awake n) seat (sym (has_started g.nodes n (omega arith) (omega (arith, below, many))) ∙ there) in (
          ap (λ (s : Seat). s.actor) (sym own) ∙ ap (λ (m : Machine). Some m.state) (sym is),
          ap (λ (m : Machine). m.is_spent) is,
        );
  }

  module _ {D : Type 0} {G : Ghosts D} (tells : D → Type 0) (history : D → History) (health : D → Health) (told_ : Type 0) (slots : List (MemorySlot D G))
      (fresh : AreFresh tells history health g told_ slots) where
    -- the state of a memory node at its first start
    abbrev first_state : ℕ → node.State
    first_state m = opened g.nodes (fresh_image g m)

    site_is : (m : ℕ) (site : Site) → slice_get (first_story g).sites m ≡ Some site → Up (with_state (first_state m)) ≡ site
    site_is m site there =
        let up = map_got (λ (s : node.State). Up (with_state s)) at_first.opening m site (ap (λ (ss : List Site). slice_get ss m) (sym (same g.nodes).sites) ∙ there) in
        let open_ = map_got (λ (image : List ℕ). opened (length {A = ℕ} (replicate g.nodes 0)) image) (first_of (fresh_image g) g.memories) m up.0 up.1 in
        let image : open_.0 ≡ fresh_image g m = first_got (fresh_image g) g.memories m open_.0 open_.1 in
        ap (λ (s : node.State). Up (with_state s)) (ap (λ (count : ℕ). opened count (fresh_image g m)) (sym (length-replicate g.nodes 0)) ∙ ap (λ (i : List ℕ). opened (length {A = ℕ} (replicate g.nodes 0)) i) (sym image) ∙ open_.2)
        ∙ up.2

    at : length slots ≡ g.memories → AreAt g slots (first_story g).sites
    at many = record {
      many = many ∙ sym (
          ap (λ (ss : List Site). length ss) (same g.nodes).sites
          ∙ length-map at_first.opening (λ (s : node.State). Up (with_state s))
          ∙ length-map (first_of (fresh_image g) g.memories) (λ (image : List ℕ). opened (length {A = ℕ} (replicate g.nodes 0)) image)
          ∙ first_many (fresh_image g) g.memories
          );
      each = λ m slot site there stood.
          let one = fresh m slot there in
          subst (λ (s : Site). IsAt (setup_for g m) slot s) (site_is m site stood)
          (one.up, one.setup, ap (λ (s : node.State). with_state s) one.state, one.running);
    }

    pub first_rests : told_ → AreRested tells history health g (first_story g).posted slots (first_story g).sites
    first_rests tells_ = record {
      each = λ m slot site there stood.
          subst (λ (s : Site). RestsAt tells history health (setup_for g m) (first_story g).posted slot s) (site_is m site stood) ((fresh m slot there).sound tells_);
    }

    first_doubts : (book : Book) → ((id : TxId) → doubts_of book id ≡ None) → AreInDoubt (first_story g) (doubts_of book)
    first_doubts book none = record {
      changes = λ b is. absurd (subst (λ (bs : List _). In b bs) (same g.nodes).begun is);
      readers = λ b is. absurd (subst (λ (bs : List _). In b bs) (same g.nodes).begun is);
      known = λ id ms is. absurd (let e : ◌≡◌ {A = Option (List ℕ)} None (Some ms) = sym (none id) ∙ is in cc);
    }

    pub first_stands : IsSetup (setup_for g 0) → (nodes : List Machine) (stands : List Posted → Type 0) (book : Book) → length slots ≡ g.memories → nodes ≡ first_machines g.nodes → stands []
        → history_of book ≡ [] → ((id : TxId) → doubts_of book id ≡ None) → StandFor g slots nodes stands book (first_story g)
    first_stands setup nodes stands book many machines posted committed none = record {
      told = told setup g.nodes (omega arith);
      nodes = sym (nodes_many g.nodes);
      memories = sym (
          ap (λ (ss : List _). length ss) (same g.nodes).opening
          ∙ length-map (first_of (fresh_image g) g.memories) (λ (image : List ℕ). opened (length {A = ℕ} (replicate g.nodes 0)) image)
          ∙ first_many (fresh_image g) g.memories
          );
      boots = λ n seat there.
          let below = slice_get_within (first_story g).nodes n seat there in
          let total = nodes_many g.nodes in
          let own : awake n ≡ seat = some_one (awake n) seat (sym (has_started g.nodes n (omega arith) (omega (arith, below, total))) ∙ there) in
          subst (λ (s : Seat). s.boot < 2 ^ 64) own (omega arith);
      live = record {
        memories = at many;
        seats = subst (λ (ms : List Machine). AreSeated ms (first_story g).nodes) (sym machines) seated;
        posted = subst stands (sym (same g.nodes).posted) posted;
        counts = record { committed = committed ∙ sym (same g.nodes).committed; doubts = first_doubts book none };
      };
    }

-- ---- as the code has it

module _ {D L : Type 0} {G : Ghosts D} (tells : D → Type 0) (history : D → History) (health : D → Health) (stands : L → List Posted → Type 0) (parts : Parts D (Counted L) G) (g : Geometry4) (told_ : Type 0)
    (slots : List (MemorySlot D G)) (same_slots : memories_of parts ≡ slots) (same_geometry : geometry_of parts ≡ g) (fresh : AreFresh tells history health g told_ slots) where
  all_fresh : AreFresh tells history health g told_ (memories_of parts)
  all_fresh = subst (AreFresh tells history health g told_) (sym same_slots) fresh

  pub parts_stand : IsSetup (setup_for g 0) → length slots ≡ g.memories → (seats : List Machine) (book : Book) (counted : Counted L) (link : L)
      → nodes_of parts ≡ seats → seats ≡ first_machines g.nodes → book_of parts ≡ book → history_of book ≡ [] → ((id : TxId) → doubts_of book id ≡ None)
      → link_of parts ≡ counted → link_below counted ≡ link → count_of counted ≡ 0 → stands link [] → Stands (counted_stands stands) parts (first_story g)
  parts_stand setup many seats book counted link same_seats machines same_book committed none same_link below zero_ posted =
      subst (λ (h : Geometry4). StandFor h (memories_of parts) (nodes_of parts) (counted_stands stands (link_of parts)) (book_of parts) (first_story g)) (sym same_geometry)
      (first_stands g tells history health told_ (memories_of parts) all_fresh setup (nodes_of parts) (counted_stands stands (link_of parts)) (book_of parts)
      (ap (λ (ss : List (MemorySlot D G)). length ss) same_slots ∙ many) (same_seats ∙ machines)
      (subst (λ (c : Counted L). counted_stands stands c []) (sym same_link) (subst (λ (l : L). stands l []) (sym below) posted, zero_))
      (ap (λ (b : Book). history_of b) same_book ∙ committed) (λ id. ap (λ (b : Book). doubts_of b id) same_book ∙ none id))

  pub parts_rest : told_ → AreRested tells history health (geometry_of parts) (first_story g).posted (memories_of parts) (first_story g).sites
  parts_rest tells_ =
      subst (λ (h : Geometry4). AreRested tells history health h (first_story g).posted (memories_of parts) (first_story g).sites) (sym same_geometry)
      (first_rests g tells history health told_ (memories_of parts) all_fresh tells_)
