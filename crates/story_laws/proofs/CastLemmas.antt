-- The votes that are cast with an entry are the Granted entries.
use Rattle.std.proofs.Common.{◌≡◌, ◌<◌, ◌≤◌, ◌==◌, inl, inr, ℕ, zero, suc, ◌+◌, Bool, true, false, ◌&&◌, List, [], ◌∷◌, ◌++◌, length, map, replicate, Option, Some, None, refl, sym, ap, subst, ◌∙◌, arith, slice_get, slice_set, slice_index_or, if◌then◌else◌}
use Rattle.std.proofs.lemmas.Bool.{cases_eq, eq-eqb, ne_eqb}
use Rattle.std.proofs.lemmas.List.{append-nil, length-append, length-replicate}
use Rattle.std.proofs.lemmas.Option.{slice_get_within}
use Rattle.mini_tx.specs.declared.actor.Actor.{Actor}
use Rattle.mini_tx.specs.declared.actor.Actor.TheVariants.{Node, Memory, Manager}
use Rattle.mini_tx.specs.declared.entry.Entry.{Entry}
use Rattle.mini_tx.specs.declared.message.Message.{Message}
use Rattle.mini_tx.specs.declared.posted.Posted.{Posted}
use Rattle.mini_tx.specs.declared.tx_id.TxId.{TxId}
use Rattle.tx_coord.specs.State as coord
use Rattle.tx_coord.specs.Rules as rules
use Rattle.tx_rules.specs.Mini.{In}
use Rattle.tx_rules.proofs.FaithfulLemmas.{in_either}
use Rattle.mem_rules.specs.State.{State}
use Rattle.story_rules.specs.MemoryNodes.{MemoryNode, Reaction, reaction, with_state}
use Rattle.story_rules.specs.Story.{Seat, Site, Up, Down, Story, Cast, Entered, Sent}
use Rattle.story_rules.specs.Steps as steps
use Rattle.story_rules.specs.Steps.{How, Lost, Handled, Stopped, WentDown, WasFull, grant_in, grant_of, log_of, with_entry, with_grant, with_answer}
use Rattle.story_laws.specs.Casts.{before_others, grants_in, casts_at, moment_of, AreCast, CastsAreTheEntries}

-- ---- lists

pub set_length : {A : Type 0} (xs : List A) (n : ℕ) (y : A) → length (slice_set xs n y) ≡ length xs
set_length [] n y = refl
set_length (x ∷ xs) zero y = refl
set_length (x ∷ xs) (suc n) y = ap suc (set_length xs n y)

pub set_here : (logs : List (List Entry)) (m : ℕ) (l : List Entry) → m < length logs → slice_index_or (slice_set logs m l) m [] ≡ l
set_here [] m l within = absurd (omega arith)
set_here (x ∷ logs) zero l within = refl
set_here (x ∷ logs) (suc m) l within = set_here logs m l (omega arith)

pub set_there : (logs : List (List Entry)) (m n : ℕ) (l : List Entry) → ¬ (n ≡ m) → slice_index_or (slice_set logs m l) n [] ≡ slice_index_or logs n []
set_there [] m n l other = refl
set_there (x ∷ logs) zero zero l other = absurd (other refl)
set_there (x ∷ logs) zero (suc n) l other = refl
set_there (x ∷ logs) (suc m) zero l other = refl
set_there (x ∷ logs) (suc m) (suc n) l other = set_there logs m n l (λ is. other (ap suc is))

others_both : (g : Option TxId) (ids more : List TxId) → before_others g (ids ++ more) ≡ before_others g ids ++ more
others_both None ids more = refl
others_both (Some id) ids more = refl

grants_both : (xs ys : List Entry) → grants_in (xs ++ ys) ≡ grants_in xs ++ grants_in ys
grants_both [] ys = refl
grants_both (x ∷ xs) ys = ap (before_others (grant_in x)) (grants_both xs ys) ∙ others_both (grant_in x) (grants_in xs) (grants_in ys)

casts_both : (m : ℕ) (xs ys : List Cast) → casts_at m (xs ++ ys) ≡ casts_at m xs ++ casts_at m ys
casts_both m [] ys = refl
casts_both m (Entered id n at ∷ xs) ys = go (n == m) (casts_both m xs ys)
  where
    go : (b : Bool) → casts_at m (xs ++ ys) ≡ casts_at m xs ++ casts_at m ys
        → (if b then id ∷ casts_at m (xs ++ ys) else casts_at m (xs ++ ys)) ≡ (if b then id ∷ casts_at m xs else casts_at m xs) ++ casts_at m ys
    go true rest = ap (λ (ids : List TxId). id ∷ ids) rest
    go false rest = rest
casts_both m (Sent k at ∷ xs) ys = casts_both m xs ys

-- ---- what an entry and its cast make

-- the votes that are cast where an entry with this Granted vote is appended
abbrev pub new_casts : ℕ → ℕ → Option TxId → List Cast
new_casts m at None = []
new_casts m at (Some id) = Entered id m at ∷ []

pub grant_casts : (story : Story) (m : ℕ) (g : Option TxId) → (with_grant story m g).casts ≡ story.casts ++ new_casts m (length story.committed) g
grant_casts story m None = sym (append-nil story.casts)
grant_casts story m (Some id) = refl

-- at its own memory node the cast is that of the entry, and at another one it is none
own_cast : (m at : ℕ) (g : Option TxId) → casts_at m (new_casts m at g) ≡ before_others g []
own_cast m at None = refl
own_cast m at (Some id) = ap (λ (b : Bool). if b then id ∷ [] else []) (eq-eqb m m refl)

other_cast : (m n at : ℕ) (g : Option TxId) → ¬ (n ≡ m) → casts_at n (new_casts m at g) ≡ []
other_cast m n at None other = refl
other_cast m n at (Some id) other = ap (λ (b : Bool). if b then id ∷ [] else []) (ne_eqb m n (λ is. other (sym is)))

-- ---- parts of a step

-- what is cast and logged, at each memory node
abbrev Agree : List (List Entry) → List Cast → Type 0
Agree logs casts = (m : ℕ) → casts_at m casts ≡ grants_in (slice_index_or logs m [])

entry_agrees : (logs : List (List Entry)) (casts : List Cast) (m at : ℕ) (e : Entry) → m < length logs → Agree logs casts
    → Agree (slice_set logs m (slice_index_or logs m [] ++ e ∷ [])) (casts ++ new_casts m at (grant_in e))
entry_agrees logs casts m at e within agree n = elim (cases_eq n m) [
  | inl same ↦ subst (λ (k : ℕ). casts_at k (casts ++ new_casts m at (grant_in e)) ≡ grants_in (slice_index_or (slice_set logs m (slice_index_or logs m [] ++ e ∷ [])) k [])) (sym same)
      (casts_both m casts (new_casts m at (grant_in e))
      ∙ ap (λ (ids : List TxId). ids ++ casts_at m (new_casts m at (grant_in e))) (agree m)
      ∙ ap (λ (ids : List TxId). grants_in (slice_index_or logs m []) ++ ids) (own_cast m at (grant_in e))
      ∙ sym (grants_both (slice_index_or logs m []) (e ∷ []))
      ∙ ap grants_in (sym (set_here logs m (slice_index_or logs m [] ++ e ∷ []) within)))
  | inr other ↦ casts_both n casts (new_casts m at (grant_in e))
      ∙ ap (λ (ids : List TxId). ids ++ casts_at n (new_casts m at (grant_in e))) (agree n)
      ∙ ap (λ (ids : List TxId). grants_in (slice_index_or logs n []) ++ ids) (other_cast m n at (grant_in e) other)
      ∙ append-nil (grants_in (slice_index_or logs n []))
      ∙ ap grants_in (sym (set_there logs m n (slice_index_or logs m [] ++ e ∷ []) other))
]

-- an entry is appended, and its Granted vote is cast
granted_agrees : (story : Story) (m : ℕ) (e : Option Entry) → m < length story.logs → Agree story.logs story.casts
    → Agree (with_grant (with_entry story m e) m (grant_of e)).logs (with_grant (with_entry story m e) m (grant_of e)).casts
granted_agrees story m None within agree = agree
granted_agrees story m (Some e) within agree =
    by_case (grant_in e) (entry_agrees story.logs story.casts m (length story.committed) e within agree)
  where
    by_case : (g : Option TxId) → Agree (slice_set story.logs m (slice_index_or story.logs m [] ++ e ∷ [])) (story.casts ++ new_casts m (length story.committed) g)
        → Agree (with_grant (with_entry story m (Some e)) m g).logs (with_grant (with_entry story m (Some e)) m g).casts
    by_case None all = subst (λ (cs : List Cast). Agree (slice_set story.logs m (slice_index_or story.logs m [] ++ e ∷ [])) cs) (append-nil story.casts) all
    by_case (Some id) all = all

-- the answer casts nothing with an entry
answer_agrees : (story : Story) (m : ℕ) (sender : Actor) (answer : Option Message) → Agree story.logs story.casts
    → Agree (with_answer story m sender answer).logs (with_answer story m sender answer).casts
answer_agrees story m sender None agree = agree
answer_agrees story m sender (Some x) agree = go (steps.is_look story.begun x)
  where
    go : (b : Bool) → Agree story.logs (if b then story.casts ++ Sent (length story.posted + 1) (length story.committed) ∷ [] else story.casts)
    go true = λ n. casts_both n story.casts (Sent (length story.posted + 1) (length story.committed) ∷ []) ∙ append-nil (casts_at n story.casts) ∙ agree n
    go false = agree

-- ---- moments

abbrev Within : List Cast → ℕ → Type 0
Within casts n = (c : Cast) → In c casts → moment_of c ≤ n

within_more : (casts : List Cast) (new : Cast) (n k : ℕ) → n ≤ k → moment_of new ≤ k → Within casts n → Within (casts ++ new ∷ []) k
within_more casts new n k rises now within c is = elim (in_either c casts (new ∷ []) is) [
  | inl old ↦ let before = within c old in omega (arith, before, rises)
  | inr last ↦ elim last [ inl same ↦ subst (λ (x : Cast). moment_of x ≤ k) (sym same) now | inr none ↦ absurd none ]
]

grant_moments : (story : Story) (m : ℕ) (g : Option TxId) → Within story.casts (length story.committed)
    → Within (with_grant story m g).casts (length (with_grant story m g).committed)
grant_moments story m None within = within
grant_moments story m (Some id) within =
    go (steps.has_write (steps.items_of story.begun id) && steps.all_granted story id (rules.participants_of (steps.items_of story.begun id)))
  where
    go : (b : Bool) → Within (story.casts ++ Entered id m (length story.committed) ∷ []) (length (if b then story.committed ++ id ∷ [] else story.committed))
    go true =
        let more = length-append story.committed (id ∷ []) in
        within_more story.casts (Entered id m (length story.committed)) (length story.committed) (length (story.committed ++ id ∷ [])) (omega (arith, more)) (omega (arith, more)) within
    go false = within_more story.casts (Entered id m (length story.committed)) (length story.committed) (length story.committed) (omega arith) (omega arith) within

entry_moments : (story : Story) (m : ℕ) (e : Option Entry) → Within story.casts (length story.committed) → Within (with_entry story m e).casts (length (with_entry story m e).committed)
entry_moments story m None within = within
entry_moments story m (Some e) within = within

answer_moments : (story : Story) (m : ℕ) (sender : Actor) (answer : Option Message) → Within story.casts (length story.committed)
    → Within (with_answer story m sender answer).casts (length (with_answer story m sender answer).committed)
answer_moments story m sender None within = within
answer_moments story m sender (Some x) within = go (steps.is_look story.begun x)
  where
    go : (b : Bool) → Within (if b then story.casts ++ Sent (length story.posted + 1) (length story.committed) ∷ [] else story.casts) (length story.committed)
    go true = within_more story.casts (Sent (length story.posted + 1) (length story.committed)) (length story.committed) (length story.committed) (omega arith) (omega arith) within
    go false = within

-- ---- a memory node's step

entry_logs : (story : Story) (m : ℕ) (e : Option Entry) → length (with_entry story m e).logs ≡ length story.logs
entry_logs story m None = refl
entry_logs story m (Some e) = set_length story.logs m (log_of story m ++ e ∷ [])

grant_logs : (story : Story) (m : ℕ) (g : Option TxId) → length (with_grant story m g).logs ≡ length story.logs
grant_logs story m None = refl
grant_logs story m (Some id) = refl

answer_logs : (story : Story) (m : ℕ) (sender : Actor) (answer : Option Message) → length (with_answer story m sender answer).logs ≡ length story.logs
answer_logs story m sender None = refl
answer_logs story m sender (Some x) = refl

entry_sites : (story : Story) (m : ℕ) (e : Option Entry) → (with_entry story m e).sites ≡ story.sites
entry_sites story m None = refl
entry_sites story m (Some e) = refl

grant_sites : (story : Story) (m : ℕ) (g : Option TxId) → (with_grant story m g).sites ≡ story.sites
grant_sites story m None = refl
grant_sites story m (Some id) = refl

answer_sites : (story : Story) (m : ℕ) (sender : Actor) (answer : Option Message) → (with_answer story m sender answer).sites ≡ story.sites
answer_sites story m sender None = refl
answer_sites story m sender (Some x) = refl

counted_cast : (story : Story) (m : ℕ) (sender : Actor) (e : Option Entry) (answer : Option Message) → m < length story.sites → AreCast story → AreCast (steps.counted story m sender e answer)
counted_cast story m sender e answer within cast =
    let one = with_entry story m e in
    let two = with_grant one m (grant_of e) in
    let sized = cast.logs in
    record {
      logs = answer_logs two m sender answer ∙ grant_logs one m (grant_of e) ∙ entry_logs story m e ∙ cast.logs
          ∙ sym (ap (length {A = Site}) (answer_sites two m sender answer ∙ grant_sites one m (grant_of e) ∙ entry_sites story m e));
      entries = answer_agrees two m sender answer (granted_agrees story m e (omega (arith, within, sized)) cast.entries);
      moments = answer_moments two m sender answer (grant_moments one m (grant_of e) (entry_moments story m e cast.moments));
    }

moved : (story : Story) (m : ℕ) (site : Site) → AreCast story → AreCast (steps.with_site story m site)
moved story m site cast = record { logs = cast.logs ∙ sym (set_length story.sites m site); entries = cast.entries; moments = cast.moments }

reacted_cast : (story : Story) (m k : ℕ) (sender : Actor) (n : MemoryNode) (r : Reaction) (how : How) → m < length story.sites → AreCast story → AreCast (steps.reacted story m k sender n r how)
reacted_cast story m k sender n r Lost within cast = cast
reacted_cast story m k sender n r Handled within cast = moved (steps.counted story m sender r.entry r.answer) m (Up r.now) (counted_cast story m sender r.entry r.answer within cast)
reacted_cast story m k sender n r Stopped within cast = moved (steps.counted story m sender r.entry None) m (Down r.now None) (counted_cast story m sender r.entry None within cast)
reacted_cast story m k sender n r WentDown within cast = moved story m (Down n (Some k)) cast
reacted_cast story m k sender n r WasFull within cast = moved story m (Down n None) cast

site_within : (sites : List Site) (m : ℕ) (site : Site) → slice_get sites m ≡ Some site → m < length sites
site_within sites m site is = slice_get_within sites m site is

memory_cast : (story : Story) (m k : ℕ) (p : Posted) (how : How) (site : Option Site) → slice_get story.sites m ≡ site → AreCast story → AreCast (steps.to_memory story m k p how site)
memory_cast story m k p how None there cast = cast
memory_cast story m k p how (Some (Up n)) there cast = reacted_cast story m k p.from n (reaction n p.message) how (site_within story.sites m (Up n) there) cast
memory_cast story m k p how (Some (Down n handling)) there cast = cast

found_cast : (story : Story) (m : ℕ) (n : MemoryNode) (found : Bool) (p : Option Posted) → m < length story.sites → AreCast story → AreCast (steps.found_at story m n found p)
found_cast story m n found None within cast = moved story m (Up (with_state n.state)) cast
found_cast story m n false (Some p) within cast = moved story m (Up (with_state n.state)) cast
found_cast story m n true (Some p) within cast =
    let r = reaction n p.message in
    moved (steps.counted story m p.from r.entry None) m (Up (with_state r.now.state)) (counted_cast story m p.from r.entry None within cast)

started_cast : (story : Story) (m : ℕ) (found : Bool) (site : Option Site) → slice_get story.sites m ≡ site → AreCast story → AreCast (steps.from_site story m found site)
started_cast story m found None there cast = cast
started_cast story m found (Some (Up n)) there cast = cast
started_cast story m found (Some (Down n None)) there cast = moved story m (Up (with_state n.state)) cast
started_cast story m found (Some (Down n (Some k))) there cast = found_cast story m n found (steps.message_at story k) (site_within story.sites m (Down n (Some k)) there) cast

fallen_cast : (story : Story) (m : ℕ) (site : Option Site) → AreCast story → AreCast (steps.fallen story m site)
fallen_cast story m None cast = cast
fallen_cast story m (Some (Up n)) cast = moved story m (Down n None) cast
fallen_cast story m (Some (Down n handling)) cast = cast

-- ---- a node's step

-- logs, casts and the history are as they were
pub record LeavesCasts (before now : Story) : Type 0 where
  pub logs : now.logs ≡ before.logs
  pub sites : now.sites ≡ before.sites
  pub casts : now.casts ≡ before.casts
  pub committed : now.committed ≡ before.committed

left_alone : (before now : Story) → LeavesCasts before now → AreCast before → AreCast now
left_alone before now same cast = record {
  logs = ap (length {A = List Entry}) same.logs ∙ cast.logs ∙ sym (ap (length {A = Site}) same.sites);
  entries = λ m. ap (casts_at m) same.casts ∙ cast.entries m ∙ ap (λ (ls : List (List Entry)). grants_in (slice_index_or ls m [])) (sym same.logs);
  moments = λ c is. subst (λ (ids : List TxId). moment_of c ≤ length ids) (sym same.committed) (cast.moments c (subst (λ (cs : List Cast). In c cs) same.casts is));
}

itself : (story : Story) → LeavesCasts story story
itself story = record { logs = refl; sites = refl; casts = refl; committed = refl }

actor_leaves : (story : Story) (n : ℕ) (p : Posted) (boot : ℕ) (actor : Option coord.State) → LeavesCasts story (steps.to_actor story n p boot actor)
actor_leaves story n p boot None = itself story
actor_leaves story n p boot (Some c) = record { logs = refl; sites = refl; casts = refl; committed = refl }

node_leaves : (story : Story) (n : ℕ) (p : Posted) (seat : Option Seat) → LeavesCasts story (steps.to_node story n p seat)
node_leaves story n p None = itself story
node_leaves story n p (Some seat) = actor_leaves story n p seat.boot seat.actor

receiver_cast : (story : Story) (k : ℕ) (how : How) (p : Posted) (to : Actor) → AreCast story → AreCast (steps.to_receiver story k how p to)
receiver_cast story k how p (Memory m) cast = memory_cast story m k p how (slice_get story.sites m) refl cast
receiver_cast story k how p (Node n) cast = left_alone story (steps.to_node story n p (slice_get story.nodes n)) (node_leaves story n p (slice_get story.nodes n)) cast
receiver_cast story k how p Manager cast = cast

given_cast : (story : Story) (k : ℕ) (how : How) (p : Option Posted) → AreCast story → AreCast (steps.given story k how p)
given_cast story k how None cast = cast
given_cast story k how (Some p) cast = receiver_cast story k how p p.to cast

at_actor_leaves : (story : Story) (does : ℕ → coord.State → Story) → ((boot : ℕ) (c : coord.State) → LeavesCasts story (does boot c))
    → (boot : ℕ) (actor : Option coord.State) → LeavesCasts story (steps.at_actor story does boot actor)
at_actor_leaves story does leaves boot None = itself story
at_actor_leaves story does leaves boot (Some c) = leaves boot c

at_seat_leaves : (story : Story) (does : ℕ → coord.State → Story) → ((boot : ℕ) (c : coord.State) → LeavesCasts story (does boot c))
    → (seat : Option Seat) → LeavesCasts story (steps.at_seat story does seat)
at_seat_leaves story does leaves None = itself story
at_seat_leaves story does leaves (Some seat) = at_actor_leaves story does leaves seat.boot seat.actor

seat_cast : (story : Story) (n : ℕ) (does : ℕ → coord.State → Story) → ((boot : ℕ) (c : coord.State) → LeavesCasts story (does boot c)) → AreCast story → AreCast (steps.at_node story n does)
seat_cast story n does leaves cast = left_alone story (steps.at_node story n does) (at_seat_leaves story does leaves (slice_get story.nodes n)) cast

left_leaves : (story : Story) (n : ℕ) (seat : Option Seat) → LeavesCasts story (steps.left story n seat)
left_leaves story n None = itself story
left_leaves story n (Some seat) = record { logs = refl; sites = refl; casts = refl; committed = refl }

crashed_cast : (story : Story) (who : Actor) → AreCast story → AreCast (steps.crashed story who)
crashed_cast story (Memory m) cast = fallen_cast story m (slice_get story.sites m) cast
crashed_cast story (Node n) cast = left_alone story (steps.left story n (slice_get story.nodes n)) (left_leaves story n (slice_get story.nodes n)) cast
crashed_cast story Manager cast = cast

-- ---- the opening

empty_log : (count m : ℕ) → slice_index_or {A = List Entry} (replicate count []) m [] ≡ []
empty_log zero m = refl
empty_log (suc count) zero = refl
empty_log (suc count) (suc m) = empty_log count m

pub map_length : (states : List State) → length (map (λ (s : State). Up (with_state s)) states) ≡ length states
map_length [] = refl
map_length (s ∷ states) = ap suc (map_length states)

pub casts_are_the_entries : CastsAreTheEntries
casts_are_the_entries = record {
  opened = λ states boots. record {
    logs = length-replicate {A = List Entry} (length states) [] ∙ sym (map_length states);
    entries = λ m. ap grants_in (sym (empty_log (length states) m));
    moments = λ c is. absurd is;
  };
  begun = λ story n items cast. seat_cast story n _ (λ boot c. record { logs = refl; sites = refl; casts = refl; committed = refl }) cast;
  delivered = λ story k how cast. given_cast story k how (steps.message_at story k) cast;
  given_up = λ story n cast. seat_cast story n _ (λ boot c. record { logs = refl; sites = refl; casts = refl; committed = refl }) cast;
  cleared = λ story n cast. seat_cast story n _ (λ boot c. record { logs = refl; sites = refl; casts = refl; committed = refl }) cast;
  resent = λ story n cast. seat_cast story n _ (λ boot c. record { logs = refl; sites = refl; casts = refl; committed = refl }) cast;
  crashed = crashed_cast;
  node_started = λ story n boot cast. left_alone story (steps.node_started story n boot) (record { logs = refl; sites = refl; casts = refl; committed = refl }) cast;
  memory_started = λ story m found cast. started_cast story m found (slice_get story.sites m) refl cast;
}
