-- The memory nodes of a story stay as many.
use Rattle.std.proofs.Common.{◌≡◌, ℕ, zero, suc, Bool, true, false, List, [], ◌∷◌, map, length, Option, Some, None, refl, sym, ap, subst, ◌∙◌, slice_set}
use Rattle.std.specs.List.{slice_get}
use Rattle.std.proofs.lemmas.List.{length-map}
use Rattle.mini_tx.specs.declared.actor.Actor.{Actor}
use Rattle.mini_tx.specs.declared.actor.Actor.TheVariants.{Node, Memory, Manager}
use Rattle.mini_tx.specs.declared.entry.Entry.{Entry}
use Rattle.mini_tx.specs.declared.message.Message.{Message}
use Rattle.mini_tx.specs.declared.posted.Posted.{Posted}
use Rattle.mini_tx.specs.declared.tx_id.TxId.{TxId}
use Rattle.mem_rules.specs.State.{State}
use Rattle.tx_coord.specs.State as coord
use Rattle.story_rules.specs.MemoryNodes.{MemoryNode, Reaction, reaction, with_state, opened}
use Rattle.story_rules.specs.Story.{Seat, Site, Story, Up, Down}
use Rattle.story_rules.specs.Steps as steps
use Rattle.story_rules.specs.Steps.{How, Lost, Handled, Stopped, WentDown, WasFull, grant_of, message_at}
use Rattle.story_laws.specs.Acts.{Act, Begins, Delivers, GivesUp, Clears, Resends, Crashes, StartsNode, StartsMemory, after_act, told, fresh_story}
use Rattle.story_laws.proofs.ActLemmas.{act_grows}
use Rattle.note_laws.specs.Outcomes.{SitesAreMany}

set_many : {A : Type 0} (xs : List A) (m : ℕ) (x : A) → length (slice_set xs m x) ≡ length xs
set_many [] m x = refl
set_many (y ∷ xs) zero x = refl
set_many (y ∷ xs) (suc m) x = ap suc (set_many xs m x)

entry_sites : (story : Story) (m : ℕ) (e : Option Entry) → (steps.with_entry story m e).sites ≡ story.sites
entry_sites story m None = refl
entry_sites story m (Some e) = refl

grant_sites : (story : Story) (m : ℕ) (g : Option TxId) → (steps.with_grant story m g).sites ≡ story.sites
grant_sites story m None = refl
grant_sites story m (Some id) = refl

answer_sites : (story : Story) (m : ℕ) (sender : Actor) (answer : Option Message) → (steps.with_answer story m sender answer).sites ≡ story.sites
answer_sites story m sender None = refl
answer_sites story m sender (Some x) = refl

counted_sites : (story : Story) (m : ℕ) (sender : Actor) (e : Option Entry) (answer : Option Message) → (steps.counted story m sender e answer).sites ≡ story.sites
counted_sites story m sender e answer =
    let one = steps.with_entry story m e in
    answer_sites (steps.with_grant one m (grant_of e)) m sender answer ∙ grant_sites one m (grant_of e) ∙ entry_sites story m e

moved : (before now : Story) (m : ℕ) (site : Site) → now.sites ≡ before.sites → length (steps.with_site now m site).sites ≡ length before.sites
moved before now m site same = set_many now.sites m site ∙ ap (λ (ss : List Site). length ss) same

reacted_many : (story : Story) (m k : ℕ) (sender : Actor) (n : MemoryNode) (r : Reaction) (how : How) → length (steps.reacted story m k sender n r how).sites ≡ length story.sites
reacted_many story m k sender n r Lost = refl
reacted_many story m k sender n r Handled = moved story (steps.counted story m sender r.entry r.answer) m (Up r.now) (counted_sites story m sender r.entry r.answer)
reacted_many story m k sender n r Stopped = moved story (steps.counted story m sender r.entry None) m (Down r.now None) (counted_sites story m sender r.entry None)
reacted_many story m k sender n r WentDown = moved story story m (Down n (Some k)) refl
reacted_many story m k sender n r WasFull = moved story story m (Down n None) refl

memory_many : (story : Story) (m k : ℕ) (p : Posted) (how : How) (site : Option Site) → length (steps.to_memory story m k p how site).sites ≡ length story.sites
memory_many story m k p how None = refl
memory_many story m k p how (Some (Up n)) = reacted_many story m k p.from n (reaction n p.message) how
memory_many story m k p how (Some (Down n handling)) = refl

found_many : (story : Story) (m : ℕ) (n : MemoryNode) (found : Bool) (p : Option Posted) → length (steps.found_at story m n found p).sites ≡ length story.sites
found_many story m n found None = moved story story m (Up (with_state n.state)) refl
found_many story m n false (Some p) = moved story story m (Up (with_state n.state)) refl
found_many story m n true (Some p) =
    let r = reaction n p.message in moved story (steps.counted story m p.from r.entry None) m (Up (with_state r.now.state)) (counted_sites story m p.from r.entry None)

site_many : (story : Story) (m : ℕ) (found : Bool) (site : Option Site) → length (steps.from_site story m found site).sites ≡ length story.sites
site_many story m found None = refl
site_many story m found (Some (Up n)) = refl
site_many story m found (Some (Down n None)) = moved story story m (Up (with_state n.state)) refl
site_many story m found (Some (Down n (Some k))) = found_many story m n found (message_at story k)

fallen_many : (story : Story) (m : ℕ) (site : Option Site) → length (steps.fallen story m site).sites ≡ length story.sites
fallen_many story m None = refl
fallen_many story m (Some (Up n)) = moved story story m (Down n None) refl
fallen_many story m (Some (Down n handling)) = refl

actor_many : (story : Story) (does : ℕ → coord.State → Story) → ((boot : ℕ) (c : coord.State) → (does boot c).sites ≡ story.sites) → (seat : Option Seat)
    → length (steps.at_seat story does seat).sites ≡ length story.sites
actor_many story does each None = refl
actor_many story does each (Some seat) = go seat.actor
  where
    go : (a : Option coord.State) → length (steps.at_actor story does seat.boot a).sites ≡ length story.sites
    go None = refl
    go (Some c) = ap (λ (ss : List Site). length ss) (each seat.boot c)

to_node_many : (story : Story) (n : ℕ) (p : Posted) (seat : Option Seat) → length (steps.to_node story n p seat).sites ≡ length story.sites
to_node_many story n p None = refl
to_node_many story n p (Some seat) = go seat.actor
  where
    go : (a : Option coord.State) → length (steps.to_actor story n p seat.boot a).sites ≡ length story.sites
    go None = refl
    go (Some c) = refl

given_many : (story : Story) (k : ℕ) (how : How) (o : Option Posted) → length (steps.given story k how o).sites ≡ length story.sites
given_many story k how None = refl
given_many story k how (Some p) = go p.to
  where
    go : (to : Actor) → length (steps.to_receiver story k how p to).sites ≡ length story.sites
    go (Memory m) = memory_many story m k p how (slice_get story.sites m)
    go (Node n) = to_node_many story n p (slice_get story.nodes n)
    go Manager = refl

left_many : (story : Story) (n : ℕ) (seat : Option Seat) → length (steps.left story n seat).sites ≡ length story.sites
left_many story n None = refl
left_many story n (Some seat) = refl

crashed_many : (story : Story) (who : Actor) → length (steps.crashed story who).sites ≡ length story.sites
crashed_many story (Memory m) = fallen_many story m (slice_get story.sites m)
crashed_many story (Node n) = left_many story n (slice_get story.nodes n)
crashed_many story Manager = refl

pub act_many : (story : Story) (act : Act) → length (after_act story act).sites ≡ length story.sites
act_many story (Begins n items) = actor_many story _ (λ boot c. refl) (slice_get story.nodes n)
act_many story (Delivers k how) = given_many story k how (message_at story k)
act_many story (GivesUp n) = actor_many story _ (λ boot c. refl) (slice_get story.nodes n)
act_many story (Clears n) = actor_many story _ (λ boot c. refl) (slice_get story.nodes n)
act_many story (Resends n) = actor_many story _ (λ boot c. refl) (slice_get story.nodes n)
act_many story (Crashes who) = crashed_many story who
act_many story (StartsNode n boot) = refl
act_many story (StartsMemory m found) = site_many story m found (slice_get story.sites m)

told_many : (story : Story) (acts : List Act) → length story.sites ≡ length story.opening → length (told story acts).sites ≡ length (told story acts).opening
told_many story [] many = many
told_many story (act ∷ acts) many =
    told_many (after_act story act) acts (act_many story act ∙ many ∙ ap (λ (ss : List State). length ss) (sym (act_grows story act).opening))

pub sites_are_many : SitesAreMany
sites_are_many size story was =
    subst (λ (s : Story). length s.sites ≡ length s.opening) (sym was.is)
    (told_many (fresh_story was.images was.boots) was.acts (length-map (map (λ (image : List ℕ). opened (length was.boots) image) was.images) (λ (s : State). Up (with_state s))))
