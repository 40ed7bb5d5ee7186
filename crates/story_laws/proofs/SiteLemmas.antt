-- A memory node has what its log makes of its opening.
use Rattle.std.proofs.Common.{◌≡◌, ◌<◌, inl, inr, ℕ, zero, suc, Bool, true, false, List, [], ◌∷◌, ◌++◌, length, map, Option, Some, None, refl, sym, ap, subst, ◌∙◌, arith, slice_get, slice_set, slice_index_or}
use Rattle.std.proofs.lemmas.Bool.{cases_eq}
use Rattle.std.proofs.lemmas.List.{length-replicate}
use Rattle.std.proofs.lemmas.Option.{slice_get_within}
use Rattle.mini_tx.specs.declared.actor.Actor.{Actor}
use Rattle.mini_tx.specs.declared.actor.Actor.TheVariants.{Node, Memory, Manager}
use Rattle.mini_tx.specs.declared.entry.Entry.{Entry}
use Rattle.mini_tx.specs.declared.message.Message.{Message}
use Rattle.mini_tx.specs.declared.posted.Posted.{Posted}
use Rattle.mini_tx.specs.declared.tx_id.TxId.{TxId}
use Rattle.tx_coord.specs.State as coord
use Rattle.mem_rules.specs.State.{State, after, after_entry, after_one}
use Rattle.story_rules.specs.MemoryNodes.{MemoryNode, reaction, with_state}
use Rattle.story_rules.specs.Story.{Seat, Site, Up, Down, Story}
use Rattle.story_rules.specs.Steps as steps
use Rattle.story_rules.specs.Steps.{How, Lost, Handled, Stopped, WentDown, WasFull, grant_of, with_entry, with_grant, with_answer}
use Rattle.story_laws.specs.Sites.{node_at, AreMade, AreReplayed, SitesAreTheLogs}
use Rattle.story_laws.proofs.BeginningLemmas.{some_is, empty_log}
use Rattle.story_laws.proofs.CastLemmas.{set_length, set_here, set_there, map_length}
use Rattle.story_laws.proofs.IdentifierLemmas.{get_same, get_other}

-- ---- one entry more

after_more : (s : State) (entries : List Entry) (e : Entry) → after s (entries ++ e ∷ []) ≡ after_entry (after s entries) e
after_more s [] e = refl
after_more s (x ∷ entries) e = after_more (after_entry s x) entries e

abbrev pub with_one : List (List Entry) → ℕ → Option Entry → List (List Entry)
with_one logs m None = logs
with_one logs m (Some e) = slice_set logs m (slice_index_or logs m [] ++ e ∷ [])

pub one_length : (logs : List (List Entry)) (m : ℕ) (e : Option Entry) → length (with_one logs m e) ≡ length logs
one_length logs m None = refl
one_length logs m (Some e) = set_length logs m (slice_index_or logs m [] ++ e ∷ [])

pub one_here : (logs : List (List Entry)) (m : ℕ) (e : Option Entry) (s : State) → m < length logs
    → after_one (after s (slice_index_or logs m [])) e ≡ after s (slice_index_or (with_one logs m e) m [])
one_here logs m None s within = refl
one_here logs m (Some e) s within =
    sym (after_more s (slice_index_or logs m []) e) ∙ ap (after s) (sym (set_here logs m (slice_index_or logs m [] ++ e ∷ []) within))

one_there : (logs : List (List Entry)) (m n : ℕ) (e : Option Entry) → ¬ (n ≡ m) → slice_index_or logs n [] ≡ slice_index_or (with_one logs m e) n []
one_there logs m n None other = refl
one_there logs m n (Some e) other = sym (set_there logs m n (slice_index_or logs m [] ++ e ∷ []) other)

-- a memory node takes an entry, and the others are as they were
made_more : (opening : List State) (logs : List (List Entry)) (sites : List Site) (m : ℕ) (old now : Site) (e : Option Entry) → m < length logs → slice_get sites m ≡ Some old
    → (node_at now).state ≡ after_one (node_at old).state e → AreMade opening logs sites → AreMade opening (with_one logs m e) (slice_set sites m now)
made_more opening logs sites m old now e within there takes made n state site open_ is = elim (cases_eq n m) [
  | inl same ↦
      let here : slice_get (slice_set sites m now) m ≡ Some site = subst (λ (k : ℕ). slice_get (slice_set sites m now) k ≡ Some site) same is in
      let own : slice_get opening m ≡ Some state = subst (λ (k : ℕ). slice_get opening k ≡ Some state) same open_ in
      let one : site ≡ now = some_is now site (sym (get_same sites m old now there) ∙ here) in
      subst (λ (k : ℕ). (node_at site).state ≡ after state (slice_index_or (with_one logs m e) k [])) (sym same)
      (ap (λ (x : Site). (node_at x).state) one ∙ takes ∙ ap (λ (s : State). after_one s e) (made m state old own there) ∙ one_here logs m e state within)
  | inr other ↦
      made n state site open_ (sym (get_other sites m n now other) ∙ is)
      ∙ ap (after state) (one_there logs m n e other)
]

-- ---- a memory node's step

-- two stories with the same opening, logs and sites
pub record LeavesSites (before now : Story) : Type 0 where
  pub opening : now.opening ≡ before.opening
  pub logs : now.logs ≡ before.logs
  pub sites : now.sites ≡ before.sites

itself : (story : Story) → LeavesSites story story
itself story = record { opening = refl; logs = refl; sites = refl }

grant_leaves : (story : Story) (m : ℕ) (g : Option TxId) → LeavesSites story (with_grant story m g)
grant_leaves story m None = itself story
grant_leaves story m (Some id) = record { opening = refl; logs = refl; sites = refl }

answer_leaves : (story : Story) (m : ℕ) (sender : Actor) (answer : Option Message) → LeavesSites story (with_answer story m sender answer)
answer_leaves story m sender None = itself story
answer_leaves story m sender (Some x) = record { opening = refl; logs = refl; sites = refl }

pub record TakesEntry (story : Story) (m : ℕ) (e : Option Entry) (now : Story) : Type 0 where
  pub opening : now.opening ≡ story.opening
  pub logs : now.logs ≡ with_one story.logs m e
  pub sites : now.sites ≡ story.sites

entry_takes : (story : Story) (m : ℕ) (e : Option Entry) → TakesEntry story m e (with_entry story m e)
entry_takes story m None = record { opening = refl; logs = refl; sites = refl }
entry_takes story m (Some e) = record { opening = refl; logs = refl; sites = refl }

pub counted_takes : (story : Story) (m : ℕ) (sender : Actor) (e : Option Entry) (answer : Option Message) → TakesEntry story m e (steps.counted story m sender e answer)
counted_takes story m sender e answer =
    let one = with_entry story m e in
    let two = with_grant one m (grant_of e) in
    let first = entry_takes story m e in
    let second = grant_leaves one m (grant_of e) in
    let third = answer_leaves two m sender answer in
    record {
      opening = third.opening ∙ second.opening ∙ first.opening;
      logs = third.logs ∙ second.logs ∙ first.logs;
      sites = third.sites ∙ second.sites ∙ first.sites;
    }

-- a story that took an entry, and where the memory node has then what that makes
takes_on : (story : Story) (m : ℕ) (e : Option Entry) (now : Story) (old site : Site) → TakesEntry story m e now → slice_get story.sites m ≡ Some old
    → (node_at site).state ≡ after_one (node_at old).state e → AreReplayed story → AreReplayed (steps.with_site now m site)
takes_on story m e now old site takes there has all =
    let sized = all.logs in
    let bound : m < length story.sites = slice_get_within story.sites m old there in
    let made = made_more story.opening story.logs story.sites m old site e (omega (arith, bound, sized)) there has all.states in
    record {
      logs = ap (length {A = List Entry}) takes.logs ∙ one_length story.logs m e ∙ all.logs ∙ sym (set_length story.sites m site)
          ∙ ap (λ (ss : List Site). length (slice_set ss m site)) (sym takes.sites);
      states = λ n state x open_ is.
          made n state x (subst (λ (os : List State). slice_get os n ≡ Some state) takes.opening open_)
          (subst (λ (ss : List Site). slice_get (slice_set ss m site) n ≡ Some x) takes.sites is)
          ∙ ap (λ (ls : List (List Entry)). after state (slice_index_or ls n [])) (sym takes.logs);
    }

pub nothing_taken : (story : Story) (m : ℕ) → TakesEntry story m None story
nothing_taken story m = record { opening = refl; logs = refl; sites = refl }

reacted_on : (story : Story) (m k : ℕ) (sender : Actor) (n : MemoryNode) (x : Message) (how : How) → slice_get story.sites m ≡ Some (Up n) → AreReplayed story
    → AreReplayed (steps.reacted story m k sender n (reaction n x) how)
reacted_on story m k sender n x Lost there all = all
reacted_on story m k sender n x Handled there all =
    let r = reaction n x in
    takes_on story m r.entry (steps.counted story m sender r.entry r.answer) (Up n) (Up r.now) (counted_takes story m sender r.entry r.answer) there refl all
reacted_on story m k sender n x Stopped there all =
    let r = reaction n x in
    takes_on story m r.entry (steps.counted story m sender r.entry None) (Up n) (Down r.now None) (counted_takes story m sender r.entry None) there refl all
reacted_on story m k sender n x WentDown there all = takes_on story m None story (Up n) (Down n (Some k)) (nothing_taken story m) there refl all
reacted_on story m k sender n x WasFull there all = takes_on story m None story (Up n) (Down n None) (nothing_taken story m) there refl all

memory_on : (story : Story) (m k : ℕ) (p : Posted) (how : How) (site : Option Site) → slice_get story.sites m ≡ site → AreReplayed story → AreReplayed (steps.to_memory story m k p how site)
memory_on story m k p how None there all = all
memory_on story m k p how (Some (Up n)) there all = reacted_on story m k p.from n p.message how there all
memory_on story m k p how (Some (Down n handling)) there all = all

found_on : (story : Story) (m : ℕ) (n : MemoryNode) (k : ℕ) (found : Bool) (p : Option Posted) → slice_get story.sites m ≡ Some (Down n (Some k)) → AreReplayed story
    → AreReplayed (steps.found_at story m n found p)
found_on story m n k found None there all = takes_on story m None story (Down n (Some k)) (Up (with_state n.state)) (nothing_taken story m) there refl all
found_on story m n k false (Some p) there all = takes_on story m None story (Down n (Some k)) (Up (with_state n.state)) (nothing_taken story m) there refl all
found_on story m n k true (Some p) there all =
    let r = reaction n p.message in
    takes_on story m r.entry (steps.counted story m p.from r.entry None) (Down n (Some k)) (Up (with_state r.now.state)) (counted_takes story m p.from r.entry None) there refl all

site_on : (story : Story) (m : ℕ) (found : Bool) (site : Option Site) → slice_get story.sites m ≡ site → AreReplayed story → AreReplayed (steps.from_site story m found site)
site_on story m found None there all = all
site_on story m found (Some (Up n)) there all = all
site_on story m found (Some (Down n None)) there all = takes_on story m None story (Down n None) (Up (with_state n.state)) (nothing_taken story m) there refl all
site_on story m found (Some (Down n (Some k))) there all = found_on story m n k found (steps.message_at story k) there all

fallen_on : (story : Story) (m : ℕ) (site : Option Site) → slice_get story.sites m ≡ site → AreReplayed story → AreReplayed (steps.fallen story m site)
fallen_on story m None there all = all
fallen_on story m (Some (Up n)) there all = takes_on story m None story (Up n) (Down n None) (nothing_taken story m) there refl all
fallen_on story m (Some (Down n handling)) there all = all

-- ---- a node's step

left_alone : (before now : Story) → LeavesSites before now → AreReplayed before → AreReplayed now
left_alone before now same all = record {
  logs = ap (length {A = List Entry}) same.logs ∙ all.logs ∙ sym (ap (length {A = Site}) same.sites);
  states = λ m state site open_ is.
      all.states m state site (subst (λ (os : List State). slice_get os m ≡ Some state) same.opening open_) (subst (λ (ss : List Site). slice_get ss m ≡ Some site) same.sites is)
      ∙ ap (λ (ls : List (List Entry)). after state (slice_index_or ls m [])) (sym same.logs);
}

actor_leaves : (story : Story) (n : ℕ) (p : Posted) (boot : ℕ) (actor : Option coord.State) → LeavesSites story (steps.to_actor story n p boot actor)
actor_leaves story n p boot None = itself story
actor_leaves story n p boot (Some c) = record { opening = refl; logs = refl; sites = refl }

node_leaves : (story : Story) (n : ℕ) (p : Posted) (seat : Option Seat) → LeavesSites story (steps.to_node story n p seat)
node_leaves story n p None = itself story
node_leaves story n p (Some seat) = actor_leaves story n p seat.boot seat.actor

receiver_on : (story : Story) (k : ℕ) (how : How) (p : Posted) (to : Actor) → AreReplayed story → AreReplayed (steps.to_receiver story k how p to)
receiver_on story k how p (Memory m) all = memory_on story m k p how (slice_get story.sites m) refl all
receiver_on story k how p (Node n) all = left_alone story (steps.to_node story n p (slice_get story.nodes n)) (node_leaves story n p (slice_get story.nodes n)) all
receiver_on story k how p Manager all = all

given_on : (story : Story) (k : ℕ) (how : How) (p : Option Posted) → AreReplayed story → AreReplayed (steps.given story k how p)
given_on story k how None all = all
given_on story k how (Some p) all = receiver_on story k how p p.to all

at_actor_leaves : (story : Story) (does : ℕ → coord.State → Story) → ((boot : ℕ) (c : coord.State) → LeavesSites story (does boot c))
    → (boot : ℕ) (actor : Option coord.State) → LeavesSites story (steps.at_actor story does boot actor)
at_actor_leaves story does leaves boot None = itself story
at_actor_leaves story does leaves boot (Some c) = leaves boot c

at_seat_leaves : (story : Story) (does : ℕ → coord.State → Story) → ((boot : ℕ) (c : coord.State) → LeavesSites story (does boot c))
    → (seat : Option Seat) → LeavesSites story (steps.at_seat story does seat)
at_seat_leaves story does leaves None = itself story
at_seat_leaves story does leaves (Some seat) = at_actor_leaves story does leaves seat.boot seat.actor

seat_on : (story : Story) (n : ℕ) (does : ℕ → coord.State → Story) → ((boot : ℕ) (c : coord.State) → LeavesSites story (does boot c)) → AreReplayed story → AreReplayed (steps.at_node story n does)
seat_on story n does leaves all = left_alone story (steps.at_node story n does) (at_seat_leaves story does leaves (slice_get story.nodes n)) all

left_leaves : (story : Story) (n : ℕ) (seat : Option Seat) → LeavesSites story (steps.left story n seat)
left_leaves story n None = itself story
left_leaves story n (Some seat) = record { opening = refl; logs = refl; sites = refl }

crashed_on : (story : Story) (who : Actor) → AreReplayed story → AreReplayed (steps.crashed story who)
crashed_on story (Memory m) all = fallen_on story m (slice_get story.sites m) refl all
crashed_on story (Node n) all = left_alone story (steps.left story n (slice_get story.nodes n)) (left_leaves story n (slice_get story.nodes n)) all
crashed_on story Manager all = all

-- ---- the opening

pub opened_site : (states : List State) (m : ℕ) (state : State) (site : Site) → slice_get states m ≡ Some state → slice_get (map (λ (s : State). Up (with_state s)) states) m ≡ Some site
    → (node_at site).state ≡ state
opened_site [] m state site open_ is = absurd cc
opened_site (s ∷ states) zero state site open_ is = ap (λ (x : Site). (node_at x).state) (some_is (Up (with_state s)) site is) ∙ sym (some_is s state open_)
opened_site (s ∷ states) (suc m) state site open_ is = opened_site states m state site open_ is

pub sites_are_the_logs : SitesAreTheLogs
sites_are_the_logs = record {
  opened = λ states boots. record {
    logs = length-replicate {A = List Entry} (length states) [] ∙ sym (map_length states);
    states = λ m state site open_ is. opened_site states m state site open_ is ∙ ap (after state) (sym (empty_log (length states) m));
  };
  begun = λ story n items all. seat_on story n _ (λ boot c. record { opening = refl; logs = refl; sites = refl }) all;
  delivered = λ story k how all. given_on story k how (steps.message_at story k) all;
  given_up = λ story n all. seat_on story n _ (λ boot c. record { opening = refl; logs = refl; sites = refl }) all;
  cleared = λ story n all. seat_on story n _ (λ boot c. record { opening = refl; logs = refl; sites = refl }) all;
  resent = λ story n all. seat_on story n _ (λ boot c. record { opening = refl; logs = refl; sites = refl }) all;
  crashed = crashed_on;
  node_started = λ story n boot all. left_alone story (steps.node_started story n boot) (record { opening = refl; logs = refl; sites = refl }) all;
  memory_started = λ story m found all. site_on story m found (slice_get story.sites m) refl all;
}
