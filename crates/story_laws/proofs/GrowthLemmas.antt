-- Each step only adds to a story.
use Rattle.std.proofs.Common.{◌≡◌, ◌⊎◌, inl, inr, ℕ, zero, suc, ◌+◌, Bool, true, false, ◌&&◌, ◌||◌, List, [], ◌∷◌, ◌++◌, length, map, Option, Some, None, refl, sym, ap, subst, ◌∙◌, append_assoc, slice_get, slice_set, slice_index_or, if◌then◌else◌}
use Rattle.std.proofs.lemmas.List.{append-nil}
use Rattle.mini_tx.specs.declared.actor.Actor.{Actor}
use Rattle.mini_tx.specs.declared.actor.Actor.TheVariants.{Node, Memory, Manager}
use Rattle.mini_tx.specs.declared.entry.Entry.{Entry}
use Rattle.mini_tx.specs.declared.item.Item.{Item}
use Rattle.mini_tx.specs.declared.message.Message.{Message}
use Rattle.mini_tx.specs.declared.posted.Posted.{Posted}
use Rattle.mini_tx.specs.declared.tx_id.TxId.{TxId}
use Rattle.tx_coord.specs.State as coord
use Rattle.tx_coord.specs.Rules as rules
use Rattle.story_rules.specs.MemoryNodes.{MemoryNode, Reaction, reaction, with_state}
use Rattle.story_rules.specs.Story.{Begun, Seat, Site, Up, Down, Story, Entered, Sent, Cast}
use Rattle.story_rules.specs.Steps as steps
use Rattle.story_rules.specs.Steps.{How, Lost, Handled, Stopped, WentDown, WasFull, log_of, with_entry, with_grant, with_answer, grant_of}
use Rattle.tx_rules.specs.Mini.{In}
use Rattle.tx_rules.proofs.FaithfulLemmas.{in_either}
use Rattle.mini_tx.specs.Order.{is_same}
use Rattle.story_laws.specs.Growth.{Adds, AddsPoint, IsGrantedByAll, AreGranted, Grows, StepsOnlyAdd, ChangesAreGranted}

-- ---- lists

pub none : {A : Type 0} (xs : List A) → Adds xs xs
none xs = ([], sym (append-nil xs))

more : {A : Type 0} (xs ys : List A) → Adds xs (xs ++ ys)
more xs ys = (ys, refl)

both : {A : Type 0} (xs ys zs : List A) → Adds xs ys → Adds ys zs → Adds xs zs
both xs ys zs first second =
    (first.0 ++ second.0, second.1 ∙ ap (λ (l : List _). l ++ second.0) first.1 ∙ append_assoc xs first.0 second.0)

-- an element of a list of lists grows
set_adds : (logs : List (List Entry)) (m n : ℕ) (e : Entry)
    → Adds (slice_index_or logs n []) (slice_index_or (slice_set logs m (slice_index_or logs m [] ++ e ∷ [])) n [])
set_adds [] m n e = none []
set_adds (l ∷ logs) zero zero e = more l (e ∷ [])
set_adds (l ∷ logs) zero (suc n) e = none (slice_index_or logs n [])
set_adds (l ∷ logs) (suc m) zero e = none l
set_adds (l ∷ logs) (suc m) (suc n) e = set_adds logs m n e

-- ---- stories

-- as Grows, but for the points, of which there may be more
record Keeps (before now : Story) : Type 0 where
  pub opening : now.opening ≡ before.opening
  pub begun : Adds before.begun now.begun
  pub logs : (m : ℕ) → Adds (log_of before m) (log_of now m)
  pub posted : Adds before.posted now.posted
  pub casts : Adds before.casts now.casts
  pub refused : Adds before.refused now.refused

same : (story : Story) → Keeps story story
same story = record {
  opening = refl;
  begun = none story.begun;
  logs = λ m. none (log_of story m);
  posted = none story.posted;
  casts = none story.casts;
  refused = none story.refused;
}

joined : (a b c : Story) → Keeps a b → Keeps b c → Keeps a c
joined a b c first second = record {
  opening = second.opening ∙ first.opening;
  begun = both a.begun b.begun c.begun first.begun second.begun;
  logs = λ m. both (log_of a m) (log_of b m) (log_of c m) (first.logs m) (second.logs m);
  posted = both a.posted b.posted c.posted first.posted second.posted;
  casts = both a.casts b.casts c.casts first.casts second.casts;
  refused = both a.refused b.refused c.refused first.refused second.refused;
}

grown : (before now : Story) → Keeps before now → AddsPoint before now → Grows before now
grown before now keeps point = record {
  opening = keeps.opening;
  begun = keeps.begun;
  logs = keeps.logs;
  posted = keeps.posted;
  committed = point;
  casts = keeps.casts;
  refused = keeps.refused;
}

pub quiet : (story : Story) → Grows story story
quiet story = grown story story (same story) (inl refl)

-- ---- what all have granted

pub or_true : (a b : Bool) → a ≡ true → (a || b) ≡ true
or_true true b is = refl
or_true false b is = absurd cc

pub or_right : (a b : Bool) → b ≡ true → (a || b) ≡ true
or_right true b is = refl
or_right false b is = is

pub both_true : (a b : Bool) → (a && b) ≡ true → (a ≡ true) × (b ≡ true)
both_true true b is = (refl, is)
both_true false b is = absurd cc

pub true_both : (a b : Bool) → a ≡ true → b ≡ true → (a && b) ≡ true
true_both true b one other = other
true_both false b one other = absurd cc

-- more entries grant what these grant
pub grants_more : (id : TxId) (xs ys : List Entry) → steps.has_granted id xs ≡ true → steps.has_granted id (xs ++ ys) ≡ true
grants_more id [] ys is = absurd cc
grants_more id (x ∷ xs) ys is = go (steps.is_of id (steps.grant_in x)) (grants_more id xs ys) is
  where
    go : (b : Bool) → (steps.has_granted id xs ≡ true → steps.has_granted id (xs ++ ys) ≡ true)
        → (b || steps.has_granted id xs) ≡ true → (b || steps.has_granted id (xs ++ ys)) ≡ true
    go true more one = refl
    go false more rest = more rest

pub grants_stay : (id : TxId) (xs ys : List Entry) → Adds xs ys → steps.has_granted id xs ≡ true → steps.has_granted id ys ≡ true
grants_stay id xs ys adds is = subst (λ (l : List Entry). steps.has_granted id l ≡ true) (sym adds.1) (grants_more id xs adds.0 is)

all_stay : (before now : Story) (id : TxId) (ms : List ℕ) → ((m : ℕ) → Adds (log_of before m) (log_of now m)) → steps.all_granted before id ms ≡ true → steps.all_granted now id ms ≡ true
all_stay before now id [] logs is = refl
all_stay before now id (m ∷ ms) logs is =
    let parts = both_true (steps.has_granted id (log_of before m)) (steps.all_granted before id ms) is in
    true_both (steps.has_granted id (log_of now m)) (steps.all_granted now id ms)
    (grants_stay id (log_of before m) (log_of now m) (logs m) parts.0) (all_stay before now id ms logs parts.1)

-- what has a write item has the same items when more is begun
items_stay : (begun more : List Begun) (id : TxId) → steps.has_write (steps.items_of begun id) ≡ true → steps.items_of (begun ++ more) id ≡ steps.items_of begun id
items_stay [] more id is = absurd cc
items_stay (b ∷ begun) more id is = go (is_same b.id id) (items_stay begun more id) is
  where
    go : (t : Bool) → (steps.has_write (steps.items_of begun id) ≡ true → steps.items_of (begun ++ more) id ≡ steps.items_of begun id) → steps.has_write (if t then b.items else steps.items_of begun id) ≡ true
        → (if t then b.items else steps.items_of (begun ++ more) id) ≡ (if t then b.items else steps.items_of begun id)
    go true same_ one = refl
    go false same_ rest = same_ rest

by_all_stays : (before now : Story) (id : TxId) → ((m : ℕ) → Adds (log_of before m) (log_of now m)) → Adds before.begun now.begun → IsGrantedByAll before id → IsGrantedByAll now id
by_all_stays before now id logs begun is =
    let items : steps.items_of now.begun id ≡ steps.items_of before.begun id =
    ap (λ (bs : List Begun). steps.items_of bs id) begun.1 ∙ items_stay before.begun begun.0 id is.written in
    record {
      written = ap steps.has_write items ∙ is.written;
      granted = ap (λ (xs : List Item). steps.all_granted now id (rules.participants_of xs)) items
          ∙ all_stay before now id (rules.participants_of (steps.items_of before.begun id)) logs is.granted;
    }

-- a point that was added stays one where logs and beginnings stay
point_stays : (before middle now : Story) → now.committed ≡ middle.committed → ((m : ℕ) → Adds (log_of middle m) (log_of now m)) → Adds middle.begun now.begun
    → AddsPoint before middle → AddsPoint before now
point_stays before middle now same logs begun (inl none_) = inl (same ∙ none_)
point_stays before middle now same logs begun (inr point) = inr (point.0, same ∙ point.1, by_all_stays middle now point.0 logs begun point.2)

-- ---- a memory node's step

entry_keeps : (story : Story) (m : ℕ) (e : Option Entry) → Keeps story (with_entry story m e)
entry_keeps story m None = same story
entry_keeps story m (Some e) = record {
  opening = refl;
  begun = none story.begun;
  logs = λ n. set_adds story.logs m n e;
  posted = none story.posted;
  casts = none story.casts;
  refused = none story.refused;
}

grant_keeps : (story : Story) (m : ℕ) (g : Option TxId) → Keeps story (with_grant story m g)
grant_keeps story m None = same story
grant_keeps story m (Some id) = record {
  opening = refl;
  begun = none story.begun;
  logs = λ n. none (log_of story n);
  posted = none story.posted;
  casts = more story.casts (Entered id m (length story.committed) ∷ []);
  refused = none story.refused;
}

answer_keeps : (story : Story) (m : ℕ) (sender : Actor) (answer : Option Message) → Keeps story (with_answer story m sender answer)
answer_keeps story m sender None = same story
answer_keeps story m sender (Some x) = record {
  opening = refl;
  begun = none story.begun;
  logs = λ n. none (log_of story n);
  posted = more story.posted (steps.answered m sender (Some x));
  casts = cast (steps.is_look story.begun x);
  refused = none story.refused;
}
  where
    new : List Cast
    new = Sent (length story.posted + 1) (length story.committed) ∷ []

    cast : (b : Bool) → Adds story.casts (if b then story.casts ++ new else story.casts)
    cast true = more story.casts new
    cast false = none story.casts

grant_points : (story : Story) (m : ℕ) (g : Option TxId) → AddsPoint story (with_grant story m g)
grant_points story m None = inl refl
grant_points story m (Some id) = go (steps.has_write items && steps.all_granted story id (rules.participants_of items)) refl
  where
    items : List Item
    items = steps.items_of story.begun id

    go : (b : Bool) → (steps.has_write items && steps.all_granted story id (rules.participants_of items)) ≡ b
        → ((if b then story.committed ++ id ∷ [] else story.committed) ≡ story.committed)
        ⊎ ((new : TxId) × ((if b then story.committed ++ id ∷ [] else story.committed) ≡ story.committed ++ new ∷ []) × IsGrantedByAll (steps.granted story m id) new)
    go false is = inl refl
    go true is =
        let parts = both_true (steps.has_write items) (steps.all_granted story id (rules.participants_of items)) is in
        let here : IsGrantedByAll story id = record { written = parts.0; granted = parts.1 } in
        inr (id, refl, by_all_stays story (steps.granted story m id) id (λ n. none (log_of story n)) (none story.begun) here)

entry_points : (story : Story) (m : ℕ) (e : Option Entry) → (with_entry story m e).committed ≡ story.committed
entry_points story m None = refl
entry_points story m (Some e) = refl

answer_points : (story : Story) (m : ℕ) (sender : Actor) (answer : Option Message) → (with_answer story m sender answer).committed ≡ story.committed
answer_points story m sender None = refl
answer_points story m sender (Some x) = refl

pub counted_grows : (story : Story) (m : ℕ) (sender : Actor) (e : Option Entry) (answer : Option Message) → Grows story (steps.counted story m sender e answer)
counted_grows story m sender e answer =
    let one = with_entry story m e in
    let two = with_grant one m (grant_of e) in
    let three = with_answer two m sender answer in
    let last = answer_keeps two m sender answer in
    grown story three
    (joined story two three (joined story one two (entry_keeps story m e) (grant_keeps one m (grant_of e))) last)
    (from_story (point_stays one two three (answer_points two m sender answer) last.logs last.begun (grant_points one m (grant_of e))))
  where
    from_story : AddsPoint (with_entry story m e) (steps.counted story m sender e answer) → AddsPoint story (steps.counted story m sender e answer)
    from_story (inl none_) = inl (none_ ∙ entry_points story m e)
    from_story (inr point) = inr (point.0, point.1 ∙ ap (λ (ids : List TxId). ids ++ point.0 ∷ []) (entry_points story m e), point.2)

-- the sites are no part of what grows
pub moved : (before now : Story) (m : ℕ) (site : Site) → Grows before now → Grows before (steps.with_site now m site)
moved before now m site grows = record {
  opening = grows.opening;
  begun = grows.begun;
  logs = grows.logs;
  posted = grows.posted;
  committed = point_stays before now (steps.with_site now m site) refl (λ n. none (log_of now n)) (none now.begun) grows.committed;
  casts = grows.casts;
  refused = grows.refused;
}

reacted_grows : (story : Story) (m k : ℕ) (sender : Actor) (n : MemoryNode) (r : Reaction) (how : How) → Grows story (steps.reacted story m k sender n r how)
reacted_grows story m k sender n r Lost = quiet story
reacted_grows story m k sender n r Handled = moved story (steps.counted story m sender r.entry r.answer) m (Up r.now) (counted_grows story m sender r.entry r.answer)
reacted_grows story m k sender n r Stopped = moved story (steps.counted story m sender r.entry None) m (Down r.now None) (counted_grows story m sender r.entry None)
reacted_grows story m k sender n r WentDown = moved story story m (Down n (Some k)) (quiet story)
reacted_grows story m k sender n r WasFull = moved story story m (Down n None) (quiet story)

memory_grows : (story : Story) (m k : ℕ) (p : Posted) (how : How) (site : Option Site) → Grows story (steps.to_memory story m k p how site)
memory_grows story m k p how None = quiet story
memory_grows story m k p how (Some (Up n)) = reacted_grows story m k p.from n (reaction n p.message) how
memory_grows story m k p how (Some (Down n handling)) = quiet story

-- ---- a node's step

-- it posts these, and these are refused
acted : (story : Story) (nodes : List Seat) (posted : List Posted) (refused : List TxId)
    → Grows story (record story { nodes = nodes; posted = story.posted ++ posted; refused = story.refused ++ refused })
acted story nodes posted refused = record {
  opening = refl;
  begun = none story.begun;
  logs = λ m. none (log_of story m);
  posted = more story.posted posted;
  committed = inl refl;
  casts = none story.casts;
  refused = more story.refused refused;
}

seated : (story : Story) (nodes : List Seat) → Grows story (record story { nodes = nodes })
seated story nodes = record {
  opening = refl;
  begun = none story.begun;
  logs = λ m. none (log_of story m);
  posted = none story.posted;
  committed = inl refl;
  casts = none story.casts;
  refused = none story.refused;
}

pub stepped_grows : (story : Story) (n boot : ℕ) (c : coord.State) (step : rules.Step) → Grows story (steps.stepped story n boot c step)
stepped_grows story n boot c step =
    acted story (steps.with_actor story n boot (Some step.now)).nodes (map (steps.sent_by n) step.posts) (steps.refused_by c.phase step.now.phase)

actor_grows : (story : Story) (n : ℕ) (p : Posted) (boot : ℕ) (actor : Option coord.State) → Grows story (steps.to_actor story n p boot actor)
actor_grows story n p boot None = quiet story
actor_grows story n p boot (Some c) = stepped_grows story n boot c (steps.heard_from c p.from p.message)

node_grows : (story : Story) (n : ℕ) (p : Posted) (seat : Option Seat) → Grows story (steps.to_node story n p seat)
node_grows story n p None = quiet story
node_grows story n p (Some seat) = actor_grows story n p seat.boot seat.actor

-- what a node's coordinator does, where it only adds
at_actor_grows : (story : Story) (does : ℕ → coord.State → Story) → ((boot : ℕ) (c : coord.State) → Grows story (does boot c))
    → (boot : ℕ) (actor : Option coord.State) → Grows story (steps.at_actor story does boot actor)
at_actor_grows story does grows boot None = quiet story
at_actor_grows story does grows boot (Some c) = grows boot c

at_seat_grows : (story : Story) (does : ℕ → coord.State → Story) → ((boot : ℕ) (c : coord.State) → Grows story (does boot c))
    → (seat : Option Seat) → Grows story (steps.at_seat story does seat)
at_seat_grows story does grows None = quiet story
at_seat_grows story does grows (Some seat) = at_actor_grows story does grows seat.boot seat.actor

-- ---- deliveries

receiver_grows : (story : Story) (k : ℕ) (how : How) (p : Posted) (to : Actor) → Grows story (steps.to_receiver story k how p to)
receiver_grows story k how p (Memory m) = memory_grows story m k p how (slice_get story.sites m)
receiver_grows story k how p (Node n) = node_grows story n p (slice_get story.nodes n)
receiver_grows story k how p Manager = quiet story

given_grows : (story : Story) (k : ℕ) (how : How) (p : Option Posted) → Grows story (steps.given story k how p)
given_grows story k how None = quiet story
given_grows story k how (Some p) = receiver_grows story k how p p.to

-- ---- the other steps

pub begins_grows : (story : Story) (n boot : ℕ) (c : coord.State) (items : List Item)
    → Grows story (record (steps.stepped story n boot c (rules.begun c items)) { begun = story.begun ++ record { id = rules.next_id c; items = items } ∷ [] })
begins_grows story n boot c items =
    let step = rules.begun c items in
    record {
      opening = refl;
      begun = more story.begun (record { id = rules.next_id c; items = items } ∷ []);
      logs = λ m. none (log_of story m);
      posted = more story.posted (map (steps.sent_by n) step.posts);
      committed = inl refl;
      casts = none story.casts;
      refused = more story.refused (steps.refused_by c.phase step.now.phase);
    }

begun_grows : (story : Story) (n : ℕ) (items : List Item) → Grows story (steps.begun_by story n items)
begun_grows story n items = at_seat_grows story _ (λ boot c. begins_grows story n boot c items) (slice_get story.nodes n)

pub resends_grows : (story : Story) (n : ℕ) (c : coord.State) → Grows story (record story { posted = story.posted ++ map (steps.sent_by n) (rules.resent c) })
resends_grows story n c = record {
  opening = refl;
  begun = none story.begun;
  logs = λ m. none (log_of story m);
  posted = more story.posted (map (steps.sent_by n) (rules.resent c));
  committed = inl refl;
  casts = none story.casts;
  refused = none story.refused;
}

resent_grows : (story : Story) (n : ℕ) → Grows story (steps.resent story n)
resent_grows story n = at_seat_grows story _ (λ boot c. resends_grows story n c) (slice_get story.nodes n)

pub actor_set : (story : Story) (n boot : ℕ) (c : Option coord.State) → Grows story (steps.with_actor story n boot c)
actor_set story n boot c = seated story (steps.with_actor story n boot c).nodes

fallen_grows : (story : Story) (m : ℕ) (site : Option Site) → Grows story (steps.fallen story m site)
fallen_grows story m None = quiet story
fallen_grows story m (Some (Up n)) = moved story story m (Down n None) (quiet story)
fallen_grows story m (Some (Down n handling)) = quiet story

left_grows : (story : Story) (n : ℕ) (seat : Option Seat) → Grows story (steps.left story n seat)
left_grows story n None = quiet story
left_grows story n (Some seat) = actor_set story n seat.boot None

crashed_grows : (story : Story) (who : Actor) → Grows story (steps.crashed story who)
crashed_grows story (Memory m) = fallen_grows story m (slice_get story.sites m)
crashed_grows story (Node n) = left_grows story n (slice_get story.nodes n)
crashed_grows story Manager = quiet story

found_grows : (story : Story) (m : ℕ) (n : MemoryNode) (found : Bool) (p : Option Posted) → Grows story (steps.found_at story m n found p)
found_grows story m n found None = moved story story m (Up (with_state n.state)) (quiet story)
found_grows story m n false (Some p) = moved story story m (Up (with_state n.state)) (quiet story)
found_grows story m n true (Some p) =
    let r = reaction n p.message in
    moved story (steps.counted story m p.from r.entry None) m (Up (with_state r.now.state)) (counted_grows story m p.from r.entry None)

site_grows : (story : Story) (m : ℕ) (found : Bool) (site : Option Site) → Grows story (steps.from_site story m found site)
site_grows story m found None = quiet story
site_grows story m found (Some (Up n)) = quiet story
site_grows story m found (Some (Down n None)) = moved story story m (Up (with_state n.state)) (quiet story)
site_grows story m found (Some (Down n (Some k))) = found_grows story m n found (steps.message_at story k)

pub steps_only_add : StepsOnlyAdd
steps_only_add = record {
  begun = begun_grows;
  delivered = λ story k how. given_grows story k how (steps.message_at story k);
  given_up = λ story n. at_seat_grows story _ (λ boot c. actor_set story n boot (Some (rules.given_up c))) (slice_get story.nodes n);
  cleared = λ story n. at_seat_grows story _ (λ boot c. actor_set story n boot (Some (rules.cleared c))) (slice_get story.nodes n);
  resent = resent_grows;
  crashed = crashed_grows;
  node_started = λ story n boot. actor_set story n boot (Some (coord.started n boot));
  memory_started = λ story m found. site_grows story m found (slice_get story.sites m);
}

pub changes_are_granted : ChangesAreGranted
changes_are_granted = record {
  opened = λ states boots id is. absurd is;
  stays = λ before now grows granted id is. by_point before now grows granted id is grows.committed;
}
  where
    old : (before now : Story) → Grows before now → AreGranted before → (id : TxId) → In id before.committed → IsGrantedByAll now id
    old before now grows granted id is = by_all_stays before now id grows.logs grows.begun (granted id is)

    by_point : (before now : Story) → Grows before now → AreGranted before → (id : TxId) → In id now.committed → AddsPoint before now → IsGrantedByAll now id
    by_point before now grows granted id is (inl same) = old before now grows granted id (subst (λ (ids : List TxId). In id ids) same is)
    by_point before now grows granted id is (inr point) =
        elim (in_either id before.committed (point.0 ∷ []) (subst (λ (ids : List TxId). In id ids) point.1 is)) [
          | inl there ↦ old before now grows granted id there
          | inr last ↦ elim last [ inl one ↦ subst (λ (x : TxId). IsGrantedByAll now x) (sym one) point.2 | inr nothing ↦ absurd nothing ]
        ]
