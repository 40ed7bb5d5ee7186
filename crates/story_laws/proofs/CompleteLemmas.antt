-- A change that all its participants have granted is in the history.
use Rattle.std.proofs.Common.{◌≡◌, ◌⊎◌, inl, inr, ℕ, zero, suc, nat_lt, ◌==◌, Bool, true, false, ◌&&◌, ◌||◌, List, [], ◌∷◌, ◌++◌, Option, Some, None, refl, sym, ap, subst, ◌∙◌, slice_get, slice_set, slice_index_or, if◌then◌else◌}
use Rattle.mini_tx.specs.declared.actor.Actor.{Actor}
use Rattle.mini_tx.specs.declared.actor.Actor.TheVariants.{Node, Memory, Manager}
use Rattle.mini_tx.specs.declared.entry.Entry.{Entry}
use Rattle.mini_tx.specs.declared.item.Item.{Item}
use Rattle.mini_tx.specs.declared.message.Message.{Message}
use Rattle.mini_tx.specs.declared.posted.Posted.{Posted}
use Rattle.mini_tx.specs.declared.tx_id.TxId.{TxId}
use Rattle.mini_tx.specs.Minitransactions.{memory_of}
use Rattle.mini_tx.specs.Order.{is_same}
use Rattle.lock_table.proofs.OrderLemmas.{is_one, same_self}
use Rattle.tx_coord.specs.State as coord
use Rattle.tx_coord.specs.Rules as rules
use Rattle.tx_rules.specs.Mini.{In}
use Rattle.tx_rules.proofs.FaithfulLemmas.{in_front, in_back}
use Rattle.story_rules.specs.MemoryNodes.{MemoryNode, Reaction, reaction, with_state}
use Rattle.story_rules.specs.Story.{Begun, Seat, Site, Up, Down, Story}
use Rattle.story_rules.specs.Steps as steps
use Rattle.story_rules.specs.Steps.{How, Lost, Handled, Stopped, WentDown, WasFull, grant_in, grant_of, log_of, with_entry, with_grant, with_answer}
use Rattle.story_laws.specs.Growth.{IsGrantedByAll}
use Rattle.story_laws.specs.Beginnings.{WasBegun, WasBegunIf, entry_of, AreBegun}
use Rattle.story_laws.specs.Complete.{IsComplete, GrantedAreChanges}
use Rattle.story_laws.proofs.GrowthLemmas.{both_true, true_both}
use Rattle.story_laws.proofs.BeginningLemmas.{grant_was}

-- ---- what all have granted

granted_either : (id : TxId) (l : List Entry) (e : Entry) → steps.has_granted id (l ++ e ∷ []) ≡ true → (steps.has_granted id l ≡ true) ⊎ (steps.is_of id (grant_in e) ≡ true)
granted_either id [] e is = inr (alone (steps.is_of id (grant_in e)) is)
  where
    alone : (b : Bool) → (b || false) ≡ true → b ≡ true
    alone true one = refl
    alone false one = one
granted_either id (x ∷ l) e is = go (steps.is_of id (grant_in x)) (granted_either id l e) is
  where
    go : (b : Bool) → (steps.has_granted id (l ++ e ∷ []) ≡ true → (steps.has_granted id l ≡ true) ⊎ (steps.is_of id (grant_in e) ≡ true))
        → (b || steps.has_granted id (l ++ e ∷ [])) ≡ true → ((b || steps.has_granted id l) ≡ true) ⊎ (steps.is_of id (grant_in e) ≡ true)
    go true rest one = inl refl
    go false rest one = rest one

set_granted : (logs : List (List Entry)) (m n : ℕ) (e : Entry) (id : TxId)
    → steps.has_granted id (slice_index_or (slice_set logs m (slice_index_or logs m [] ++ e ∷ [])) n []) ≡ true
    → (steps.has_granted id (slice_index_or logs n []) ≡ true) ⊎ (steps.is_of id (grant_in e) ≡ true)
set_granted [] m n e id is = inl is
set_granted (l ∷ logs) zero zero e id is = granted_either id l e is
set_granted (l ∷ logs) zero (suc n) e id is = inl is
set_granted (l ∷ logs) (suc m) zero e id is = inl is
set_granted (l ∷ logs) (suc m) (suc n) e id is = set_granted logs m n e id is

all_back : (before now : Story) (id : TxId) (ms : List ℕ) → ((m : ℕ) → steps.has_granted id (log_of now m) ≡ true → steps.has_granted id (log_of before m) ≡ true)
    → steps.all_granted now id ms ≡ true → steps.all_granted before id ms ≡ true
all_back before now id [] logs is = refl
all_back before now id (m ∷ ms) logs is =
    let parts = both_true (steps.has_granted id (log_of now m)) (steps.all_granted now id ms) is in
    true_both (steps.has_granted id (log_of before m)) (steps.all_granted before id ms) (logs m parts.0) (all_back before now id ms logs parts.1)

-- what all have granted now they had granted before, where that is so of each log and its items are the same
by_all_back : (before now : Story) (id : TxId) → ((m : ℕ) → steps.has_granted id (log_of now m) ≡ true → steps.has_granted id (log_of before m) ≡ true)
    → steps.items_of now.begun id ≡ steps.items_of before.begun id → IsGrantedByAll now id → IsGrantedByAll before id
by_all_back before now id logs items is = record {
  written = ap steps.has_write (sym items) ∙ is.written;
  granted = all_back before now id (rules.participants_of (steps.items_of before.begun id)) logs
      (ap (λ (xs : List Item). steps.all_granted now id (rules.participants_of xs)) (sym items) ∙ is.granted);
}

-- ---- steps that change nothing of it

record LeavesChanges (before now : Story) : Type 0 where
  pub logs : now.logs ≡ before.logs
  pub begun : now.begun ≡ before.begun
  pub committed : now.committed ≡ before.committed

left_complete : (before now : Story) → LeavesChanges before now → IsComplete before → IsComplete now
left_complete before now same complete id is =
    subst (λ (ids : List TxId). In id ids) (sym same.committed)
    (complete id (by_all_back before now id
    (λ m granted. subst (λ (ls : List (List Entry)). steps.has_granted id (slice_index_or ls m []) ≡ true) same.logs granted)
    (ap (λ (bs : List Begun). steps.items_of bs id) same.begun) is))

itself : (story : Story) → LeavesChanges story story
itself story = record { logs = refl; begun = refl; committed = refl }

-- ---- a memory node's step

of_none : (id : TxId) → steps.is_of id None ≡ true → ⊥
of_none id is = cc

pub not_both : (b : Bool) → b ≡ true → b ≡ false → ⊥
not_both true is_true is_false = cc
not_both false is_true is_false = cc

-- an entry without a Granted vote
plain_complete : (story : Story) (m : ℕ) (e : Entry) → grant_in e ≡ None → IsComplete story → IsComplete (with_entry story m (Some e))
plain_complete story m e none complete id is =
    complete id (by_all_back story (with_entry story m (Some e)) id (λ n granted. back n (set_granted story.logs m n e id granted)) refl is)
  where
    back : (n : ℕ) → (steps.has_granted id (log_of story n) ≡ true) ⊎ (steps.is_of id (grant_in e) ≡ true) → steps.has_granted id (log_of story n) ≡ true
    back n (inl old) = old
    back n (inr new) = absurd (of_none id (subst (λ (g : Option TxId). steps.is_of id g ≡ true) none new))

-- an entry with one
granted_complete : (story : Story) (m : ℕ) (e : Entry) (other : TxId) → grant_in e ≡ Some other → IsComplete story → IsComplete (steps.granted (with_entry story m (Some e)) m other)
granted_complete story m e other grants complete id is = go (is_same other id) refl
  where
    one : Story
    one = with_entry story m (Some e)

    now : Story
    now = steps.granted one m other

    test : Bool
    test = steps.has_write (steps.items_of story.begun other) && steps.all_granted one other (rules.participants_of (steps.items_of story.begun other))

    own : IsGrantedByAll now other → In other now.committed
    own all =
        let granted = all_back one now other (rules.participants_of (steps.items_of story.begun other)) (λ n h. h) all.granted in
        let holds : test ≡ true = true_both (steps.has_write (steps.items_of story.begun other)) (steps.all_granted one other (rules.participants_of (steps.items_of story.begun other))) all.written granted in
        subst (λ (b : Bool). In other (if b then story.committed ++ other ∷ [] else story.committed)) (sym holds) (in_back other story.committed (other ∷ []) (inl refl))

    old : (b : Bool) → In id story.committed → In id (if b then story.committed ++ other ∷ [] else story.committed)
    old true there = in_front id story.committed (other ∷ []) there
    old false there = there

    back : is_same other id ≡ false → (n : ℕ) → (steps.has_granted id (log_of story n) ≡ true) ⊎ (steps.is_of id (grant_in e) ≡ true) → steps.has_granted id (log_of story n) ≡ true
    back differs n (inl before) = before
    back differs n (inr new) = absurd (not_both (is_same other id) (subst (λ (g : Option TxId). steps.is_of id g ≡ true) grants new) differs)

    go : (b : Bool) → is_same other id ≡ b → In id now.committed
    go true same =
        let equal = is_one other id same in
        subst (λ (t : TxId). In t now.committed) equal (own (subst (λ (t : TxId). IsGrantedByAll now t) (sym equal) is))
    go false differs = old test (complete id (by_all_back story now id (λ n granted. back differs n (set_granted story.logs m n e id granted)) refl is))

entry_complete : (story : Story) (m : ℕ) (e : Option Entry) → IsComplete story → IsComplete (with_grant (with_entry story m e) m (grant_of e))
entry_complete story m None complete = complete
entry_complete story m (Some e) complete = by_case (grant_in e) refl
  where
    by_case : (g : Option TxId) → grant_in e ≡ g → IsComplete (with_grant (with_entry story m (Some e)) m g)
    by_case None is = plain_complete story m e is complete
    by_case (Some other) is = granted_complete story m e other is complete

answer_leaves : (story : Story) (m : ℕ) (sender : Actor) (answer : Option Message) → LeavesChanges story (with_answer story m sender answer)
answer_leaves story m sender None = itself story
answer_leaves story m sender (Some x) = record { logs = refl; begun = refl; committed = refl }

counted_complete : (story : Story) (m : ℕ) (sender : Actor) (e : Option Entry) (answer : Option Message) → IsComplete story → IsComplete (steps.counted story m sender e answer)
counted_complete story m sender e answer complete =
    let two = with_grant (with_entry story m e) m (grant_of e) in
    left_complete two (with_answer two m sender answer) (answer_leaves two m sender answer) (entry_complete story m e complete)

moved : (story : Story) (m : ℕ) (site : Site) → IsComplete story → IsComplete (steps.with_site story m site)
moved story m site = left_complete story (steps.with_site story m site) (record { logs = refl; begun = refl; committed = refl })

reacted_complete : (story : Story) (m k : ℕ) (sender : Actor) (n : MemoryNode) (r : Reaction) (how : How) → IsComplete story → IsComplete (steps.reacted story m k sender n r how)
reacted_complete story m k sender n r Lost complete = complete
reacted_complete story m k sender n r Handled complete = moved (steps.counted story m sender r.entry r.answer) m (Up r.now) (counted_complete story m sender r.entry r.answer complete)
reacted_complete story m k sender n r Stopped complete = moved (steps.counted story m sender r.entry None) m (Down r.now None) (counted_complete story m sender r.entry None complete)
reacted_complete story m k sender n r WentDown complete = moved story m (Down n (Some k)) complete
reacted_complete story m k sender n r WasFull complete = moved story m (Down n None) complete

memory_complete : (story : Story) (m k : ℕ) (p : Posted) (how : How) (site : Option Site) → IsComplete story → IsComplete (steps.to_memory story m k p how site)
memory_complete story m k p how None complete = complete
memory_complete story m k p how (Some (Up n)) complete = reacted_complete story m k p.from n (reaction n p.message) how complete
memory_complete story m k p how (Some (Down n handling)) complete = complete

found_complete : (story : Story) (m : ℕ) (n : MemoryNode) (found : Bool) (p : Option Posted) → IsComplete story → IsComplete (steps.found_at story m n found p)
found_complete story m n found None complete = moved story m (Up (with_state n.state)) complete
found_complete story m n false (Some p) complete = moved story m (Up (with_state n.state)) complete
found_complete story m n true (Some p) complete =
    let r = reaction n p.message in
    moved (steps.counted story m p.from r.entry None) m (Up (with_state r.now.state)) (counted_complete story m p.from r.entry None complete)

site_complete : (story : Story) (m : ℕ) (found : Bool) (site : Option Site) → IsComplete story → IsComplete (steps.from_site story m found site)
site_complete story m found None complete = complete
site_complete story m found (Some (Up n)) complete = complete
site_complete story m found (Some (Down n None)) complete = moved story m (Up (with_state n.state)) complete
site_complete story m found (Some (Down n (Some k))) complete = found_complete story m n found (steps.message_at story k) complete

fallen_complete : (story : Story) (m : ℕ) (site : Option Site) → IsComplete story → IsComplete (steps.fallen story m site)
fallen_complete story m None complete = complete
fallen_complete story m (Some (Up n)) complete = moved story m (Down n None) complete
fallen_complete story m (Some (Down n handling)) complete = complete

-- ---- a node's step

actor_leaves : (story : Story) (n : ℕ) (p : Posted) (boot : ℕ) (actor : Option coord.State) → LeavesChanges story (steps.to_actor story n p boot actor)
actor_leaves story n p boot None = itself story
actor_leaves story n p boot (Some c) = record { logs = refl; begun = refl; committed = refl }

node_leaves : (story : Story) (n : ℕ) (p : Posted) (seat : Option Seat) → LeavesChanges story (steps.to_node story n p seat)
node_leaves story n p None = itself story
node_leaves story n p (Some seat) = actor_leaves story n p seat.boot seat.actor

receiver_complete : (story : Story) (k : ℕ) (how : How) (p : Posted) (to : Actor) → IsComplete story → IsComplete (steps.to_receiver story k how p to)
receiver_complete story k how p (Memory m) complete = memory_complete story m k p how (slice_get story.sites m) complete
receiver_complete story k how p (Node n) complete = left_complete story (steps.to_node story n p (slice_get story.nodes n)) (node_leaves story n p (slice_get story.nodes n)) complete
receiver_complete story k how p Manager complete = complete

given_complete : (story : Story) (k : ℕ) (how : How) (p : Option Posted) → IsComplete story → IsComplete (steps.given story k how p)
given_complete story k how None complete = complete
given_complete story k how (Some p) complete = receiver_complete story k how p p.to complete

left_leaves : (story : Story) (n : ℕ) (seat : Option Seat) → LeavesChanges story (steps.left story n seat)
left_leaves story n None = itself story
left_leaves story n (Some seat) = record { logs = refl; begun = refl; committed = refl }

crashed_complete : (story : Story) (who : Actor) → IsComplete story → IsComplete (steps.crashed story who)
crashed_complete story (Memory m) complete = fallen_complete story m (slice_get story.sites m) complete
crashed_complete story (Node n) complete = left_complete story (steps.left story n (slice_get story.nodes n)) (left_leaves story n (slice_get story.nodes n)) complete
crashed_complete story Manager complete = complete

at_actor : (story : Story) (does : ℕ → coord.State → Story) → ((boot : ℕ) (c : coord.State) → IsComplete (does boot c))
    → (boot : ℕ) (actor : Option coord.State) → IsComplete story → IsComplete (steps.at_actor story does boot actor)
at_actor story does keeps boot None complete = complete
at_actor story does keeps boot (Some c) complete = keeps boot c

at_seat : (story : Story) (does : ℕ → coord.State → Story) → ((boot : ℕ) (c : coord.State) → IsComplete (does boot c))
    → (seat : Option Seat) → IsComplete story → IsComplete (steps.at_seat story does seat)
at_seat story does keeps None complete = complete
at_seat story does keeps (Some seat) complete = at_actor story does keeps seat.boot seat.actor complete

-- where what a coordinator does leaves it
quietly : (story : Story) (n : ℕ) (does : ℕ → coord.State → Story) → ((boot : ℕ) (c : coord.State) → LeavesChanges story (does boot c)) → IsComplete story → IsComplete (steps.at_node story n does)
quietly story n does leaves complete =
    at_seat story does (λ boot c. left_complete story (does boot c) (leaves boot c) complete) (slice_get story.nodes n) complete

-- ---- a beginning

-- the participants of a change are not none
module _ (story : Story) (id : TxId) where
  abbrev Someone : Type 0
  Someone = (m : ℕ) × (steps.has_granted id (log_of story m) ≡ true)

  first_of : (m : ℕ) (ms : List ℕ) → steps.all_granted story id (m ∷ ms) ≡ true → Someone
  first_of m ms is = (m, (both_true (steps.has_granted id (log_of story m)) (steps.all_granted story id ms) is).0)

  someone_placed : (n : ℕ) (ms : List ℕ) → steps.all_granted story id (rules.placed_in n ms) ≡ true → Someone
  someone_placed n [] is = first_of n [] is
  someone_placed n (m ∷ ms) is = go (nat_lt m n) (m == n) is
    where
      go : (a b : Bool) → steps.all_granted story id (if a then m ∷ rules.placed_in n ms else if b then m ∷ ms else n ∷ (m ∷ ms)) ≡ true → Someone
      go true b all = first_of m (rules.placed_in n ms) all
      go false true all = first_of m ms all
      go false false all = first_of n (m ∷ ms) all

  someone : (items : List Item) → steps.has_write items ≡ true → steps.all_granted story id (rules.participants_of items) ≡ true → Someone
  someone [] written is = absurd cc
  someone (i ∷ items) written is = someone_placed (memory_of i) (rules.participants_of items) is

-- what a log grants was begun
was_granted : (begun : List Begun) (id : TxId) (entries : List Entry) → ((e : Entry) → In e entries → WasBegunIf begun (entry_of e)) → steps.has_granted id entries ≡ true → WasBegun begun id
was_granted begun id [] was is = absurd cc
was_granted begun id (e ∷ entries) was is =
    go (grant_in e) (grant_was begun (Some e) (was e (inl refl))) (was_granted begun id entries (λ x there. was x (inr there))) is
  where
    here : (b : Bool) (other : TxId) → is_same other id ≡ b → WasBegun begun other → (steps.has_granted id entries ≡ true → WasBegun begun id) → (b || steps.has_granted id entries) ≡ true → WasBegun begun id
    here true other same it rest one = subst (λ (t : TxId). WasBegun begun t) (is_one other id same) it
    here false other same it rest one = rest one

    go : (g : Option TxId) → WasBegunIf begun g → (steps.has_granted id entries ≡ true → WasBegun begun id) → (steps.is_of id g || steps.has_granted id entries) ≡ true → WasBegun begun id
    go None it rest one = rest one
    go (Some other) it rest one = here (is_same other id) other refl it rest one

-- what was begun has the same items when more is begun
items_had : (begun more : List Begun) (id : TxId) → WasBegun begun id → steps.items_of (begun ++ more) id ≡ steps.items_of begun id
items_had [] more id was = absurd was.1
items_had (b ∷ begun) more id was = go (is_same b.id id) refl (items_had begun more id)
  where
    later : is_same b.id id ≡ false → (was.0 ≡ b) ⊎ In was.0 begun → WasBegun begun id
    later differs (inl first) =
        let named : b.id ≡ id = ap (λ (x : Begun). x.id) (sym first) ∙ was.2 in
        absurd (not_both (is_same b.id id) (ap (λ (t : TxId). is_same t id) named ∙ same_self id) differs)
    later differs (inr there) = (was.0, there, was.2)

    go : (t : Bool) → is_same b.id id ≡ t → (WasBegun begun id → steps.items_of (begun ++ more) id ≡ steps.items_of begun id)
        → (if t then b.items else steps.items_of (begun ++ more) id) ≡ (if t then b.items else steps.items_of begun id)
    go true same rest = refl
    go false differs rest = rest (later differs was.1)

begun_complete : (story : Story) (more : List Begun) (now : Story) → now.begun ≡ story.begun ++ more → now.logs ≡ story.logs → now.committed ≡ story.committed
    → AreBegun story → IsComplete story → IsComplete now
begun_complete story more now begun logs committed all complete id is =
    let back : (m : ℕ) → steps.has_granted id (log_of now m) ≡ true → steps.has_granted id (log_of story m) ≡ true =
    λ m granted. subst (λ (ls : List (List Entry)). steps.has_granted id (slice_index_or ls m []) ≡ true) logs granted in
    let one = someone now id (steps.items_of now.begun id) is.written is.granted in
    let was = was_granted story.begun id (log_of story one.0) (all.logged one.0) (back one.0 one.1) in
    subst (λ (ids : List TxId). In id ids) (sym committed)
    (complete id (by_all_back story now id back (ap (λ (bs : List Begun). steps.items_of bs id) begun ∙ items_had story.begun more id was) is))

pub granted_are_changes : GrantedAreChanges
granted_are_changes = record {
  opened = λ states boots id is. absurd (nothing id is.written);
  begun = λ story n items all complete.
      at_seat story _
      (λ boot c. begun_complete story (record { id = rules.next_id c; items = items } ∷ []) (record (steps.stepped story n boot c (rules.begun c items)) { begun = story.begun ++ record { id = rules.next_id c; items = items } ∷ [] }) refl refl refl all complete)
      (slice_get story.nodes n) complete;
  delivered = λ story k how complete. given_complete story k how (steps.message_at story k) complete;
  given_up = λ story n complete. quietly story n _ (λ boot c. record { logs = refl; begun = refl; committed = refl }) complete;
  cleared = λ story n complete. quietly story n _ (λ boot c. record { logs = refl; begun = refl; committed = refl }) complete;
  resent = λ story n complete. quietly story n _ (λ boot c. record { logs = refl; begun = refl; committed = refl }) complete;
  crashed = crashed_complete;
  node_started = λ story n boot complete. left_complete story (steps.node_started story n boot) (record { logs = refl; begun = refl; committed = refl }) complete;
  memory_started = λ story m found complete. site_complete story m found (slice_get story.sites m) complete;
}
  where
    nothing : (id : TxId) → steps.has_write (steps.items_of [] id) ≡ true → ⊥
    nothing id is = cc
