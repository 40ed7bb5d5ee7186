-- What a memory node of a story does with a message, the machine's does.
use Rattle.std.proofs.Common.{◌≡◌, ◌<◌, ◌+◌, ℕ, ◌==◌, Bool, true, false, List, [], ◌∷◌, length, map, Option, Some, None, refl, sym, ap, subst, ◌∙◌, slice_get, arith, if◌then◌else◌}
use Rattle.std.specs.List.{AllByRecursion}
use Rattle.std.proofs.lemmas.List.Elements.{All-from_recursion, recursion_from_All}
use Rattle.std.proofs.lemmas.Option.{slice_get_within}
use Rattle.mini_tx.specs.declared.actor.Actor.TheVariants.{Memory}
use Rattle.mini_tx.specs.declared.entry.Entry.TheVariants as entry
use Rattle.mini_tx.specs.declared.item.Item.{Item}
use Rattle.mini_tx.specs.declared.message.Message as sent
use Rattle.mini_tx.specs.declared.message.Message.TheVariants as message
use Rattle.mini_tx.specs.declared.placed_item.PlacedItem.{PlacedItem}
use Rattle.mini_tx.specs.declared.tx_id.TxId.{TxId}
use Rattle.mini_tx.specs.declared.vote.Vote.{Vote}
use Rattle.mini_tx.specs.EntryGrammar.{is_granted}
use Rattle.mini_tx.specs.Laws.{IsTypedId}
use Rattle.mini_tx.specs.Order.{is_same}
use Rattle.mini_tx.specs.Minitransactions.{memory_of, place_of, bytes_of, refusal}
use Rattle.mem_rules.specs.declared.kept.Kept.{Kept}
use Rattle.mem_rules.specs.declared.rule.Rule.{Rule}
use Rattle.mem_rules.specs.declared.standing.Standing.{Standing}
use Rattle.mem_rules.specs.declared.standing.Standing.TheVariants.{Above, At, Below}
use Rattle.mem_rules.specs.Fit.{IsInside, AreInside}
use Rattle.mem_rules.specs.Items.{range_of, writes_of}
use Rattle.mem_rules.specs.Rules as node
use Rattle.mem_rules.specs.State.{State, kept_of, writes_kept, committed, after_one}
use Rattle.mem_rules.proofs.ItemLemmas.{valid_inside}
use Rattle.tx_coord.specs.Rules as rules
use Rattle.tx_rules.specs.Lists.{is_in}
use Rattle.tx_rules.specs.Mini.{In, Setting, nodes_of, is_logged}
use Rattle.tx_rules.specs.World.{World, Message, Prepare, DecideCommit, DecideAbort, Done, Forgotten}
use Rattle.tx_actors.specs.Coordinator as machine
use Rattle.tx_actors.specs.Node.{view, has_grant, standing}
use Rattle.tx_actors.proofs.LawLemmas.{identifiers_tell}
use Rattle.tx_actors.proofs.TestLemmas.{In-is_in, or_left}
use Rattle.mem_laws.specs.Cells.{number}
use Rattle.mem_laws.specs.Laws.{IsAsked, IsNamed}
use Rattle.mem_laws.specs.Shown.{posted}
use Rattle.mem_laws.specs.Steps.{TakesPart, IsShownMessage, shown_answer}
use Rattle.mem_laws.proofs.DecideLemmas.{IsShownStanding, stands, not_above, decisions, forgetting}
use Rattle.mem_laws.proofs.ImageLemmas.{AreWritesWithin, length_written, writes_within}
use Rattle.mem_laws.proofs.RuleLemmas.{find-In}
use Rattle.mem_laws.proofs.VoteLemmas.{vote_is}
use Rattle.coord_laws.specs.Shown.{shown_post}
use Rattle.story_rules.specs.Story.{Begun, Seat, Story}
use Rattle.story_rules.specs.Steps.{grant_in, grant_of}
use Rattle.story_laws.specs.Beginnings.{WasBegun, IsPart, IsAboutBegun}
use Rattle.story_laws.specs.Identifiers.{IsCounted, IsPast}
use Rattle.story_laws.proofs.BeginningLemmas.{some_is}
use Rattle.story_laws.proofs.CastLemmas.{set_length}
use Rattle.story_shown.proofs.FitLemmas.{part_is_told}
use Rattle.story_shown.proofs.ShownLemmas.{GoesTo, IsShownSite, IsFit}

-- ---- what is valid lies inside

abbrev InsideAll : ℕ → List PlacedItem → Type 0
InsideAll size items = AllByRecursion (λ (p : PlacedItem). IsInside size (place_of p.item) (bytes_of p.item)) items

abbrev unplaced : Item → PlacedItem
unplaced i = record { place = 0; item = i }

same_items : (items : List Item) → map (λ (p : PlacedItem). p.item) (map unplaced items) ≡ items
same_items [] = refl
same_items (i ∷ items) = ap (λ (l : List Item). i ∷ l) (same_items items)

placed_inside : (size m place : ℕ) (items : List Item) → InsideAll size (map unplaced items) → InsideAll size (rules.placed_from m place items)
placed_inside size m place [] all = tt
placed_inside size m place (i ∷ items) all = go (memory_of i == m) (placed_inside size m (place + 1) items all.1)
  where
    go : (b : Bool) → InsideAll size (rules.placed_from m (place + 1) items)
        → InsideAll size (if b then record { place = place; item = i } ∷ rules.placed_from m (place + 1) items else rules.placed_from m (place + 1) items)
    go true rest = (all.0, rest)
    go false rest = rest

pub parts_inside : (size memories m : ℕ) (items : List Item) → refusal items memories size ≡ None → AreInside size (rules.placed_for items m)
parts_inside size memories m items valid =
    All-from_recursion (λ (p : PlacedItem). IsInside size (place_of p.item) (bytes_of p.item)) (rules.placed_for items m)
    (placed_inside size m 0 items (recursion_from_All (λ (p : PlacedItem). IsInside size (place_of p.item) (bytes_of p.item)) (map unplaced items)
    (valid_inside memories size (map unplaced items) (ap (λ (xs : List Item). refusal xs memories size) (same_items items) ∙ valid))))

-- ---- lengths

-- a reaction leaves the lengths of the image and of the floors
abbrev pub LeavesLengths : State → node.Reaction → Type 0
LeavesLengths state r = (length (after_one state r.entry).image ≡ length state.image) × (length (after_one state r.entry).floors ≡ length state.floors)

module _ (n : node.Node) where
  either : (b : Bool) (r q : node.Reaction) → LeavesLengths n.state r → LeavesLengths n.state q → LeavesLengths n.state (if b then r else q)
  either true r q first second = first
  either false r q first second = second

  forces_lengths : (id : TxId) (x : Standing) (a : sent.Message) → LeavesLengths n.state (node.forces n id x a)
  forces_lengths id Above a = (refl, set_length n.state.floors id.coord _)
  forces_lengths id (At v) a = (refl, refl)
  forces_lengths id (Below floor) a = (refl, refl)

  decided_image : (id : TxId) (commit : Bool) (k : Option Kept) → kept_of n.state.kept id ≡ k
      → ((x : Kept) → In x n.state.kept → AreWritesWithin (length n.state.image) x.writes) → length (committed commit n.state.image (writes_kept k)) ≡ length n.state.image
  decided_image id true None is within = refl
  decided_image id true (Some k) is within = length_written k.writes n.state.image (within k (find-In (λ (x : Kept). is_same x.id id) k n.state.kept is).0)
  decided_image id false k is within = refl

  decide_lengths : (id : TxId) (commit : Bool) (k : Option Kept) → ((x : Kept) → In x n.state.kept → AreWritesWithin (length n.state.image) x.writes)
      → LeavesLengths n.state (node.on_decide n id commit k)
  decide_lengths id commit (Some k) within =
      either (node.is_undecided k) (node.appends n (entry.Decided id commit) (message.Done id)) (node.answers n (message.Done id))
      (decided_image id commit (kept_of n.state.kept id) refl within, refl) (refl, refl)
  decide_lengths id true None within = (refl, refl)
  decide_lengths id false None within = forces_lengths id (node.standing n.state id) (message.Done id)

  forget_lengths : (id : TxId) (k : Option Kept) → LeavesLengths n.state (node.on_forget n id k)
  forget_lengths id (Some k) = either (node.is_undecided k) (node.silent n) (record { entry = Some (entry.Forgotten id); answer = None; copy = n.copy }) (refl, refl) (refl, refl)
  forget_lengths id None = (refl, refl)

  casts_lengths : (id : TxId) (participants : List ℕ) (items : List PlacedItem) (v : Vote) → InsideAll (length n.state.image) items → LeavesLengths n.state (node.casts n id participants items v)
  casts_lengths id participants items v inside =
      either (node.is_logged participants items) (node.appends n (node.entry_of_vote id participants items v) (message.Voted id v)) (node.answers n (message.Voted id v))
      (go (is_granted v) (node.has_several participants)) (refl, refl)
    where
      go : (a b : Bool) → LeavesLengths n.state (node.appends n (if a then (if b then entry.Prepared id participants v (map range_of items) (writes_of items) else entry.Single id v (writes_of items)) else entry.Refused id v) (message.Voted id v))
      go true true = (refl, set_length n.state.floors id.coord _)
      go true false = (length_written (writes_of items) n.state.image (writes_within (length n.state.image) items inside), set_length n.state.floors id.coord _)
      go false b = (refl, set_length n.state.floors id.coord _)

  prepare_lengths : (id : TxId) (participants : List ℕ) (items : List PlacedItem) → InsideAll (length n.state.image) items → LeavesLengths n.state (node.on_prepare n id participants items)
  prepare_lengths id participants items inside =
      let rule = node.rule_for n id items in
      either (node.is_new rule) (node.casts n id participants items (node.vote_by n.state.image items rule)) (node.answers n (message.Voted id (node.vote_by n.state.image items rule)))
      (casts_lengths id participants items (node.vote_by n.state.image items rule) inside) (refl, refl)

-- ---- whom an entry grants

module _ (n : node.Node) (id : TxId) (participants : List ℕ) (items : List PlacedItem) where
  casts_name : (v : Vote) (g : TxId) → grant_of (node.casts n id participants items v).entry ≡ Some g → g ≡ id
  casts_name v g = go (node.is_logged participants items)
    where
      by_vote : (a : Bool) → is_granted v ≡ a → (b : Bool)
          → grant_in (if a then (if b then entry.Prepared id participants v (map range_of items) (writes_of items) else entry.Single id v (writes_of items)) else entry.Refused id v) ≡ Some g
          → g ≡ id
      by_vote true granted true is = some_is id g (ap (λ (t : Bool). if t then Some id else None) (sym granted) ∙ is)
      by_vote true granted false is = some_is id g (ap (λ (t : Bool). if t then Some id else None) (sym granted) ∙ is)
      by_vote false refused b is = absurd cc

      go : (l : Bool) → grant_of (if l then node.appends n (node.entry_of_vote id participants items v) (message.Voted id v) else node.answers n (message.Voted id v)).entry ≡ Some g → g ≡ id
      go true is = by_vote (is_granted v) refl (node.has_several participants) is
      go false is = absurd cc

  grant_names : (rule : Rule) (g : TxId) → grant_of (node.by_rule n id participants items rule).entry ≡ Some g → (g ≡ id) × (node.is_new rule ≡ true)
  grant_names rule g = go (node.is_new rule) refl
    where
      go : (b : Bool) → node.is_new rule ≡ b
          → grant_of (if b then node.casts n id participants items (node.vote_by n.state.image items rule) else node.answers n (message.Voted id (node.vote_by n.state.image items rule))).entry ≡ Some g
          → (g ≡ id) × (node.is_new rule ≡ true)
      go true new is = (casts_name (node.vote_by n.state.image items rule) g is, new)
      go false old is = absurd cc

-- a new vote is on an identifier above the floor
above_of : (k : Option Kept) (x : Standing) (otherwise : Rule) → node.is_new (node.rule_by_record k (node.rule_by_floor x otherwise)) ≡ true → x ≡ Above
above_of (Some k) x otherwise is = absurd cc
above_of None Above otherwise is = refl
above_of None (At v) otherwise is = absurd cc
above_of None (Below floor) otherwise is = absurd cc

forces_none : (n : node.Node) (id : TxId) (x : Standing) (a : sent.Message) → grant_of (node.forces n id x a).entry ≡ None
forces_none n id Above a = refl
forces_none n id (At v) a = refl
forces_none n id (Below floor) a = refl

decide_none : (n : node.Node) (id : TxId) (commit : Bool) (k : Option Kept) → grant_of (node.on_decide n id commit k).entry ≡ None
decide_none n id commit (Some k) = go (node.is_undecided k)
  where
    go : (b : Bool) → grant_of (if b then node.appends n (entry.Decided id commit) (message.Done id) else node.answers n (message.Done id)).entry ≡ None
    go true = refl
    go false = refl
decide_none n id true None = refl
decide_none n id false None = forces_none n id (node.standing n.state id) (message.Done id)

forget_none : (n : node.Node) (id : TxId) (k : Option Kept) → grant_of (node.on_forget n id k).entry ≡ None
forget_none n id (Some k) = go (node.is_undecided k)
  where
    go : (b : Bool) → grant_of (if b then node.silent n else record { entry = Some (entry.Forgotten id); answer = None; copy = n.copy }).entry ≡ None
    go true = refl
    go false = refl
forget_none n id None = refl

pub no_grant : (g : TxId) → ◌≡◌ {A = Option TxId} None (Some g) → ⊥
no_grant g is = cc

-- ---- what the machine is told

pub known_coord : (story : Story) (b : Begun) (seat : Option Seat) → slice_get story.nodes b.id.coord ≡ seat → IsPast seat b.id → b.id.coord < length story.nodes
known_coord story b None is past = absurd past
known_coord story b (Some seat) is past = slice_get_within story.nodes b.id.coord seat is

decide_same : (commit : Bool) (t : ℕ) → machine.decide commit t ≡ (if commit then DecideCommit t else DecideAbort t)
decide_same true t = refl
decide_same false t = refl

none_some : (a : sent.Message) → ◌≡◌ {A = Option sent.Message} None (Some a) → ⊥
none_some a is = cc

module _ (s : Setting) (size : ℕ) (story : Story) (m : ℕ) (n : node.Node) (w : World) (fit : IsFit s size story) (counted : IsCounted story)
    (site : IsShownSite s size (length story.nodes) m n.state w) where
  known_id : (id : TxId) → WasBegun story.begun id → id.coord < length n.state.floors
  known_id id was =
      let below : id.coord < length story.nodes = subst (λ (t : TxId). t.coord < length story.nodes) was.2
      (known_coord story was.0 (slice_get story.nodes was.0.id.coord) refl (counted.past was.0 was.1)) in
      let same = site.floors in
      omega (arith, below, same)

  typed_id : (id : TxId) → WasBegun story.begun id → IsTypedId id
  typed_id id was = subst (λ (t : TxId). IsTypedId t) was.2 (fit.typed was.0 was.1)

  coord_is : (id : TxId) → WasBegun story.begun id → s.coord (number id) ≡ id.coord
  coord_is id was = let typed = typed_id id was in fit.fits.coordinators (number id) ∙ identifiers_tell id.coord id.boot id.seq typed.1 typed.2

  pub named : (id : TxId) → WasBegun story.begun id → IsNamed s m n.state (view w m) id
  named id was = record { typed = typed_id id was; known = known_id id was; coordinator = coord_is id was; shows = site.shows }

  asked : (id : TxId) (participants : List ℕ) (items : List PlacedItem) (b : Begun) → In b story.begun → IsPart b (Memory m) id participants items
      → IsAsked s m n (view w m) id participants items
  asked id participants items b there part =
      let was : WasBegun story.begun id = (b, there, part.same) in
      record {
        typed = typed_id id was;
        known = known_id id was;
        inside = subst (λ (k : ℕ). AreInside k items) (sym site.sized)
            (subst (λ (ps : List PlacedItem). AreInside size ps) (sym part.items_are) (parts_inside size (length story.opening) part.memory b.items (fit.valid b there)));
        fresh = (
          λ is. subst (λ (l : List ℕ). In (number id) l) fit.fits.old is,
          λ is. subst (λ (l : List ℕ). In (number id) l) fit.fits.found is,
        );
        told = part_is_told s m b id participants items (fit.typed b there)
            (coord_is b.id (b, there, refl)) (fit.fits.minis b there) part;
        shows = site.shows;
      }

  takes_part : (t : ℕ) → In m (nodes_of s t) → TakesPart s m t
  takes_part t is = or_left (is_in m (nodes_of s t)) (is_in t s.old) (In-is_in m (nodes_of s t) is)

  pub message_shows : (x : sent.Message) (y : Message) → shown_post x ≡ Some y → GoesTo s m x → IsAboutBegun story.begun (Memory m) x → IsShownMessage s m n (view w m) x y
  message_shows (message.Prepare id participants items) y is goes about =
      (some_is (Prepare (number id)) y is, (takes_part (number id) goes, asked id participants items about.0 about.1 about.2))
  message_shows (message.Decide id commit) y is goes about =
      (some_is (machine.decide commit (number id)) y is ∙ decide_same commit (number id), (takes_part (number id) goes, named id about))
  message_shows (message.Forget id) y is goes about = (some_is (Forgotten (number id)) y is, (takes_part (number id) goes, named id about))
  message_shows (message.Voted id v) y is goes about = absurd cc
  message_shows (message.Done id) y is goes about = absurd cc
  message_shows message.List y is goes about = absurd cc
  message_shows (message.Kept ids cut) y is goes about = absurd cc
  message_shows (message.Ask id) y is goes about = absurd cc
  message_shows (message.Answer id ok) y is goes about = absurd cc
  message_shows (message.Hold cut) y is goes about = absurd cc
  message_shows (message.Held cut answer) y is goes about = absurd cc
  message_shows (message.Release cut) y is goes about = absurd cc
  message_shows (message.Drop cut) y is goes about = absurd cc
  message_shows (message.ReadCut cut place) y is goes about = absurd cc
  message_shows (message.Piece cut place bytes) y is goes about = absurd cc

  -- what is answered shows as one message
  abbrev Answers : sent.Message → Type 0
  Answers x = (a : sent.Message) → (node.react n x).answer ≡ Some a → (z : Message) × (shown_answer s m (Some a) ≡ z ∷ [])

  same_answer : (a x : sent.Message) (answer : Option sent.Message) → answer ≡ Some x → answer ≡ Some a → ((z : Message) × (shown_answer s m (Some x) ≡ z ∷ []))
      → (z : Message) × (shown_answer s m (Some a) ≡ z ∷ [])
  same_answer a x answer one other it =
      subst (λ (q : sent.Message). (z : Message) × (shown_answer s m (Some q) ≡ z ∷ [])) (sym (some_is x a (sym one ∙ other))) it

  pub answer_shows : (x : sent.Message) (y : Message) → shown_post x ≡ Some y → IsAboutBegun story.begun (Memory m) x → Answers x
  answer_shows (message.Prepare id participants items) y is about a answered =
      let it = vote_is s m n (view w m) id participants items (asked id participants items about.0 about.1 about.2) in
      same_answer a (message.Voted id it.vote) (node.on_prepare n id participants items).answer it.voted answered
      (posted m (number id) (is_logged (s.mini (number id))) it.vote, refl)
  answer_shows (message.Decide id commit) y is about a answered =
      same_answer a (message.Done id) (node.on_decide n id commit (kept_of n.state.kept id)).answer (decisions s m n (view w m) id commit (named id about)).answered answered
      (Done m (number id), refl)
  answer_shows (message.Forget id) y is about a answered = absurd (none_some a (sym (forgetting s m n (view w m) id (named id about)).answered ∙ answered))
  answer_shows (message.Voted id v) y is about a answered = absurd cc
  answer_shows (message.Done id) y is about a answered = absurd cc
  answer_shows message.List y is about a answered = absurd cc
  answer_shows (message.Kept ids cut) y is about a answered = absurd cc
  answer_shows (message.Ask id) y is about a answered = absurd cc
  answer_shows (message.Answer id ok) y is about a answered = absurd cc
  answer_shows (message.Hold cut) y is about a answered = absurd cc
  answer_shows (message.Held cut answer) y is about a answered = absurd cc
  answer_shows (message.Release cut) y is about a answered = absurd cc
  answer_shows (message.Drop cut) y is about a answered = absurd cc
  answer_shows (message.ReadCut cut place) y is about a answered = absurd cc
  answer_shows (message.Piece cut place bytes) y is about a answered = absurd cc

  pub lengths_stay : (x : sent.Message) (y : Message) → shown_post x ≡ Some y → IsAboutBegun story.begun (Memory m) x → LeavesLengths n.state (node.react n x)
  lengths_stay (message.Prepare id participants items) y is about =
      prepare_lengths n id participants items
      (recursion_from_All (λ (p : PlacedItem). IsInside (length n.state.image) (place_of p.item) (bytes_of p.item)) items (asked id participants items about.0 about.1 about.2).inside)
  lengths_stay (message.Decide id commit) y is about = decide_lengths n id commit (kept_of n.state.kept id) site.shows.within
  lengths_stay (message.Forget id) y is about = forget_lengths n id (kept_of n.state.kept id)
  lengths_stay (message.Voted id v) y is about = absurd cc
  lengths_stay (message.Done id) y is about = absurd cc
  lengths_stay message.List y is about = absurd cc
  lengths_stay (message.Kept ids cut) y is about = absurd cc
  lengths_stay (message.Ask id) y is about = absurd cc
  lengths_stay (message.Answer id ok) y is about = absurd cc
  lengths_stay (message.Hold cut) y is about = absurd cc
  lengths_stay (message.Held cut answer) y is about = absurd cc
  lengths_stay (message.Release cut) y is about = absurd cc
  lengths_stay (message.Drop cut) y is about = absurd cc
  lengths_stay (message.ReadCut cut place) y is about = absurd cc
  lengths_stay (message.Piece cut place bytes) y is about = absurd cc

  -- what is granted was not granted before, and is the memory node's
  abbrev IsNewGrant : TxId → Type 0
  IsNewGrant g = (has_grant (view w m).records (number g) ≡ false) × In m (nodes_of s (number g))

  new_grant : (id : TxId) → WasBegun story.begun id → In m (nodes_of s (number id)) → node.standing n.state id ≡ Above → (g : TxId) → g ≡ id → IsNewGrant g
  new_grant id was part above g same = subst (λ (t : TxId). IsNewGrant t) (sym same) (go (has_grant (view w m).records (number id)) refl, part)
    where
      go : (b : Bool) → has_grant (view w m).records (number id) ≡ b → b ≡ false
      go true granted =
          absurd (not_above s m n (view w m) id (named id was) granted
          (subst (λ (x : Standing). IsShownStanding x (standing s (view w m).records (number id))) above (stands s m n (view w m) id (named id was))))
      go false other = refl

  pub grants_new : (x : sent.Message) (y : Message) → shown_post x ≡ Some y → GoesTo s m x → IsAboutBegun story.begun (Memory m) x → (g : TxId) → grant_of (node.react n x).entry ≡ Some g → IsNewGrant g
  grants_new (message.Prepare id participants items) y is goes about g granted =
      let rule = node.rule_for n id items in
      let names = grant_names n id participants items rule g granted in
      new_grant id (about.0, about.1, about.2.same) goes (above_of (kept_of n.state.kept id) (node.standing n.state id) (node.rule_above n items) names.1) g names.0
  grants_new (message.Decide id commit) y is goes about g granted = absurd (no_grant g (sym (decide_none n id commit (kept_of n.state.kept id)) ∙ granted))
  grants_new (message.Forget id) y is goes about g granted = absurd (no_grant g (sym (forget_none n id (kept_of n.state.kept id)) ∙ granted))
  grants_new (message.Voted id v) y is goes about g granted = absurd cc
  grants_new (message.Done id) y is goes about g granted = absurd cc
  grants_new message.List y is goes about g granted = absurd cc
  grants_new (message.Kept ids cut) y is goes about g granted = absurd cc
  grants_new (message.Ask id) y is goes about g granted = absurd cc
  grants_new (message.Answer id ok) y is goes about g granted = absurd cc
  grants_new (message.Hold cut) y is goes about g granted = absurd cc
  grants_new (message.Held cut answer) y is goes about g granted = absurd cc
  grants_new (message.Release cut) y is goes about g granted = absurd cc
  grants_new (message.Drop cut) y is goes about g granted = absurd cc
  grants_new (message.ReadCut cut place) y is goes about g granted = absurd cc
  grants_new (message.Piece cut place bytes) y is goes about g granted = absurd cc
