-- No identifier is begun twice.
use Rattle.std.proofs.Common.{◌≡◌, ◌≤◌, inl, inr, ℕ, zero, suc, ◌+◌, Bool, true, false, List, [], ◌∷◌, ◌++◌, map, Option, Some, None, refl, sym, ap, subst, ◌∙◌, arith, slice_get, slice_set, if◌then◌else◌}
use Rattle.std.proofs.lemmas.Bool.{cases_eq}
use Rattle.mini_tx.specs.declared.actor.Actor.{Actor}
use Rattle.mini_tx.specs.declared.actor.Actor.TheVariants.{Node, Memory, Manager}
use Rattle.mini_tx.specs.declared.entry.Entry.{Entry}
use Rattle.mini_tx.specs.declared.item.Item.{Item}
use Rattle.mini_tx.specs.declared.message.Message.{Message}
use Rattle.mini_tx.specs.declared.message.Message.TheVariants as message
use Rattle.mini_tx.specs.declared.posted.Posted.{Posted}
use Rattle.mini_tx.specs.declared.tx_id.TxId.{TxId}
use Rattle.mini_tx.specs.declared.vote.Vote.{Vote}
use Rattle.tx_coord.specs.State as coord
use Rattle.tx_coord.specs.Rules as rules
use Rattle.tx_coord.specs.declared.progress.Progress.{Progress}
use Rattle.tx_coord.specs.declared.progress.Progress.TheVariants.{Waits, Ends}
use Rattle.tx_rules.specs.Mini.{In}
use Rattle.tx_rules.proofs.FaithfulLemmas.{in_either}
use Rattle.mem_rules.specs.State.{State}
use Rattle.story_rules.specs.MemoryNodes.{MemoryNode, Reaction, reaction, with_state}
use Rattle.story_rules.specs.Story.{Begun, Seat, Site, Up, Down, Story, opened_story}
use Rattle.story_rules.specs.Steps as steps
use Rattle.story_rules.specs.Steps.{How, Lost, Handled, Stopped, WentDown, WasFull, with_entry, with_grant, with_answer, grant_of}
use Rattle.story_laws.specs.Identifiers.{IsSeated, HasBegun, IsPast, AreDistinct, AreCounted, IsCounted, IsNextBoot, IdentifiersAreBegunOnce}

-- ---- seats

pub get_same : {A : Type 0} (xs : List A) (n : ℕ) (x y : A) → slice_get xs n ≡ Some x → slice_get (slice_set xs n y) n ≡ Some y
get_same [] n x y is = absurd cc
get_same (z ∷ xs) zero x y is = refl
get_same (z ∷ xs) (suc n) x y is = get_same xs n x y is

pub get_other : {A : Type 0} (xs : List A) (n m : ℕ) (y : A) → ¬ (m ≡ n) → slice_get (slice_set xs n y) m ≡ slice_get xs m
get_other [] n m y other = refl
get_other (z ∷ xs) zero zero y other = absurd (other refl)
get_other (z ∷ xs) zero (suc m) y other = refl
get_other (z ∷ xs) (suc n) zero y other = refl
get_other (z ∷ xs) (suc n) (suc m) y other = get_other xs n m y (λ is. other (ap suc is))

pub get_none : (xs : List Seat) (n : ℕ) (y : Seat) → slice_get xs n ≡ None → slice_set xs n y ≡ xs
get_none [] n y is = refl
get_none (z ∷ xs) zero y is = absurd cc
get_none (z ∷ xs) (suc n) y is = ap (λ (l : List Seat). z ∷ l) (get_none xs n y is)

some_one : (x y : Seat) → ◌≡◌ {A = Option Seat} (Some x) (Some y) → x ≡ y
some_one x y is = cc

-- a seat that was taken anew, by a coordinator of the same node, which has begun all that the earlier one had
module _ (nodes : List Seat) (begun : List Begun) (n : ℕ) (was now : Seat) (there : slice_get nodes n ≡ Some was)
    (seated : IsSeated n now.boot now.actor) (past : (id : TxId) → IsPast (Some was) id → IsPast (Some now) id) where
  reseated : AreCounted nodes begun → AreCounted (slice_set nodes n now) begun
  reseated counted = record {
    seated = λ m seat is. elim (cases_eq m n) [
      | inl same ↦
          let own : slice_get (slice_set nodes n now) n ≡ Some seat = subst (λ (k : ℕ). slice_get (slice_set nodes n now) k ≡ Some seat) same is in
          let one : now ≡ seat = some_one now seat (sym (get_same nodes n was now there) ∙ own) in
          subst (λ (k : ℕ). IsSeated k seat.boot seat.actor) (sym same) (subst (λ (s : Seat). IsSeated n s.boot s.actor) one seated)
      | inr other ↦ counted.seated m seat (sym (get_other nodes n m now other) ∙ is)
    ];
    past = λ b is. elim (cases_eq b.id.coord n) [
      | inl same ↦
          let before : IsPast (Some was) b.id = subst (λ (s : Option Seat). IsPast s b.id) (ap (slice_get nodes) same ∙ there) (counted.past b is) in
          subst (λ (s : Option Seat). IsPast s b.id) (sym (ap (slice_get (slice_set nodes n now)) same ∙ get_same nodes n was now there)) (past b.id before)
      | inr other ↦ subst (λ (s : Option Seat). IsPast s b.id) (sym (get_other nodes n b.id.coord now other)) (counted.past b is)
    ];
    distinct = counted.distinct;
  }

-- ---- the coordinator's numbers

-- the same node, start and number of beginnings
pub record IsSame (c d : coord.State) : Type 0 where
  pub coord : d.coord ≡ c.coord
  pub boot : d.boot ≡ c.boot
  pub begun : d.begun ≡ c.begun

itself : (c : coord.State) → IsSame c c
itself c = record { coord = refl; boot = refl; begun = refl }

voted_same : (c : coord.State) (b : Bool) (p : Progress) → IsSame c (if b then rules.after_vote c p else rules.quiet c).now
voted_same c false p = itself c
voted_same c true (Waits r) = record { coord = refl; boot = refl; begun = refl }
voted_same c true (Ends e) = record { coord = refl; boot = refl; begun = refl }

vote_same : (c : coord.State) (m : ℕ) (id : TxId) (v : Vote) (phase : coord.Phase) → IsSame c (rules.on_vote c m id v phase).now
vote_same c m id v coord.Free = itself c
vote_same c m id v (coord.Runs r) = voted_same c (rules.counts r m id v) (rules.counted r m v)
vote_same c m id v (coord.Ended outcome) = itself c

pub heard_same : (c : coord.State) (m : ℕ) (x : Message) → IsSame c (rules.heard c m x).now
heard_same c m (message.Voted id v) = vote_same c m id v c.phase
heard_same c m (message.Done id) = record { coord = refl; boot = refl; begun = refl }
heard_same c m (message.Prepare id participants items) = itself c
heard_same c m (message.Decide id commit) = itself c
heard_same c m (message.Forget id) = itself c
heard_same c m message.List = itself c
heard_same c m (message.Kept ids cut) = itself c
heard_same c m (message.Ask id) = itself c
heard_same c m (message.Answer id ok) = itself c
heard_same c m (message.Hold cut) = itself c
heard_same c m (message.Held cut answer) = itself c
heard_same c m (message.Release cut) = itself c
heard_same c m (message.Drop cut) = itself c
heard_same c m (message.ReadCut cut place) = itself c
heard_same c m (message.Piece cut place bytes) = itself c

pub from_same : (c : coord.State) (from : Actor) (x : Message) → IsSame c (steps.heard_from c from x).now
from_same c (Memory m) x = heard_same c m x
from_same c (Node n) x = itself c
from_same c Manager x = itself c

-- a step of the coordinator on a seat
module _ (story : Story) (n : ℕ) (seat : Seat) (c : coord.State) (there : slice_get story.nodes n ≡ Some seat) (runs : seat.actor ≡ Some c) (counted : IsCounted story) where
  own : IsSeated n seat.boot (Some c)
  own = subst (λ (a : Option coord.State). IsSeated n seat.boot a) runs (counted.seated n seat there)

  steps_on : (d : coord.State) → IsSame c d → AreCounted (slice_set story.nodes n (record { boot = seat.boot; actor = Some d })) story.begun
  steps_on d same =
      let later : (id : TxId) → IsPast (Some seat) id → IsPast (Some (record { boot = seat.boot; actor = Some d })) id = λ id past. elim past [
        | inl before ↦ inl before
        | inr now ↦ inr (now.0, subst (λ (k : ℕ). id.seq ≤ k) (sym same.begun) (subst (λ (a : Option coord.State). HasBegun a id.seq) runs now.1))
      ] in
      reseated story.nodes story.begun n seat (record { boot = seat.boot; actor = Some d }) there (same.coord ∙ own.0, same.boot ∙ own.1) later counted

  -- ---- a beginning
  fresh : (b : Begun) → In b story.begun → ¬ (b.id ≡ rules.next_id c)
  fresh b is same =
      let coord_ : b.id.coord ≡ n = ap (λ (id : TxId). id.coord) same ∙ own.0 in
      let boot : b.id.boot ≡ seat.boot = ap (λ (id : TxId). id.boot) same ∙ own.1 in
      let seq : b.id.seq ≡ c.begun + 1 = ap (λ (id : TxId). id.seq) same in
      let past : IsPast (Some seat) b.id = subst (λ (s : Option Seat). IsPast s b.id) (ap (slice_get story.nodes) coord_ ∙ there) (counted.past b is) in
      elim past [
        | inl before ↦ absurd (omega (arith, before, boot))
        | inr now ↦ let least = subst (λ (a : Option coord.State). HasBegun a b.id.seq) runs now.1 in absurd (omega (arith, least, seq))
      ]

distinct_more : (begun : List Begun) (b : Begun) → AreDistinct begun → ((other : Begun) → In other begun → ¬ (other.id ≡ b.id)) → AreDistinct (begun ++ b ∷ [])
distinct_more [] b distinct fresh = ((λ other is. absurd is), tt)
distinct_more (first ∷ begun) b distinct fresh = (
  (λ other is. elim (in_either other begun (b ∷ []) is) [
    | inl there ↦ distinct.0 other there
    | inr last ↦ elim last [ inl same ↦ λ equal. fresh first (inl refl) (sym equal ∙ ap (λ (x : Begun). x.id) same) | inr none ↦ absurd none ]
  ]),
  distinct_more begun b distinct.1 (λ other is. fresh other (inr is)),
)

begins_on : (story : Story) (n : ℕ) (seat : Seat) (c : coord.State) (items : List Item) → slice_get story.nodes n ≡ Some seat → seat.actor ≡ Some c → IsCounted story
    → AreCounted (slice_set story.nodes n (record { boot = seat.boot; actor = Some (rules.begun c items).now })) (story.begun ++ record { id = rules.next_id c; items = items } ∷ [])
begins_on story n seat c items there runs counted =
    let own_ = own story n seat c there runs counted in
    let now : Seat = record { boot = seat.boot; actor = Some (rules.begun c items).now } in
    let b : Begun = record { id = rules.next_id c; items = items } in
    let later : (id : TxId) → IsPast (Some seat) id → IsPast (Some (record { boot = seat.boot; actor = Some (rules.begun c items).now })) id = λ id past. elim past [
      | inl before ↦ inl before
      | inr is ↦ let least = subst (λ (a : Option coord.State). HasBegun a id.seq) runs is.1 in inr (is.0, omega (arith, least))
    ] in
    let others = reseated story.nodes story.begun n seat now there own_ later counted in
    record {
      seated = others.seated;
      past = λ x is. elim (in_either x story.begun (b ∷ []) is) [
        | inl old ↦ others.past x old
        | inr last ↦ elim last [
          | inl same ↦ subst (λ (y : Begun). IsPast (slice_get (slice_set story.nodes n now) y.id.coord) y.id) (sym same)
              (subst (λ (s : Option Seat). IsPast s (rules.next_id c)) (sym (ap (slice_get (slice_set story.nodes n now)) own_.0 ∙ get_same story.nodes n seat now there)) (inr (own_.1, omega arith)))
          | inr none ↦ absurd none
        ]
      ];
      distinct = distinct_more story.begun b counted.distinct (fresh story n seat c there runs counted);
    }

-- ---- memory nodes leave seats and identifiers as they are

-- two stories with the same seats and the same that was begun
pub record HaveSame (before now : Story) : Type 0 where
  pub nodes : now.nodes ≡ before.nodes
  pub begun : now.begun ≡ before.begun

alike : (before now : Story) → HaveSame before now → IsCounted before → IsCounted now
alike before now same counted =
    subst (λ (bs : List Begun). AreCounted now.nodes bs) (sym same.begun) (subst (λ (ns : List Seat). AreCounted ns before.begun) (sym same.nodes) counted)

entry_same : (story : Story) (m : ℕ) (e : Option Entry) → HaveSame story (with_entry story m e)
entry_same story m None = record { nodes = refl; begun = refl }
entry_same story m (Some e) = record { nodes = refl; begun = refl }

grant_same : (story : Story) (m : ℕ) (g : Option TxId) → HaveSame story (with_grant story m g)
grant_same story m None = record { nodes = refl; begun = refl }
grant_same story m (Some id) = record { nodes = refl; begun = refl }

answer_same : (story : Story) (m : ℕ) (sender : Actor) (answer : Option Message) → HaveSame story (with_answer story m sender answer)
answer_same story m sender None = record { nodes = refl; begun = refl }
answer_same story m sender (Some x) = record { nodes = refl; begun = refl }

pub counted_same : (story : Story) (m : ℕ) (sender : Actor) (e : Option Entry) (answer : Option Message) → HaveSame story (steps.counted story m sender e answer)
counted_same story m sender e answer =
    let one = with_entry story m e in
    let two = with_grant one m (grant_of e) in
    record {
      nodes = (answer_same two m sender answer).nodes ∙ (grant_same one m (grant_of e)).nodes ∙ (entry_same story m e).nodes;
      begun = (answer_same two m sender answer).begun ∙ (grant_same one m (grant_of e)).begun ∙ (entry_same story m e).begun;
    }

moved : (before now : Story) (m : ℕ) (site : Site) → HaveSame before now → HaveSame before (steps.with_site now m site)
moved before now m site same = record { nodes = same.nodes; begun = same.begun }

untouched : (story : Story) → HaveSame story story
untouched story = record { nodes = refl; begun = refl }

reacted_same : (story : Story) (m k : ℕ) (sender : Actor) (n : MemoryNode) (r : Reaction) (how : How) → HaveSame story (steps.reacted story m k sender n r how)
reacted_same story m k sender n r Lost = untouched story
reacted_same story m k sender n r Handled = moved story (steps.counted story m sender r.entry r.answer) m (Up r.now) (counted_same story m sender r.entry r.answer)
reacted_same story m k sender n r Stopped = moved story (steps.counted story m sender r.entry None) m (Down r.now None) (counted_same story m sender r.entry None)
reacted_same story m k sender n r WentDown = moved story story m (Down n (Some k)) (untouched story)
reacted_same story m k sender n r WasFull = moved story story m (Down n None) (untouched story)

pub memory_same : (story : Story) (m k : ℕ) (p : Posted) (how : How) (site : Option Site) → HaveSame story (steps.to_memory story m k p how site)
memory_same story m k p how None = untouched story
memory_same story m k p how (Some (Up n)) = reacted_same story m k p.from n (reaction n p.message) how
memory_same story m k p how (Some (Down n handling)) = untouched story

found_same : (story : Story) (m : ℕ) (n : MemoryNode) (found : Bool) (p : Option Posted) → HaveSame story (steps.found_at story m n found p)
found_same story m n found None = moved story story m (Up (with_state n.state)) (untouched story)
found_same story m n false (Some p) = moved story story m (Up (with_state n.state)) (untouched story)
found_same story m n true (Some p) =
    let r = reaction n p.message in
    moved story (steps.counted story m p.from r.entry None) m (Up (with_state r.now.state)) (counted_same story m p.from r.entry None)

pub site_same : (story : Story) (m : ℕ) (found : Bool) (site : Option Site) → HaveSame story (steps.from_site story m found site)
site_same story m found None = untouched story
site_same story m found (Some (Up n)) = untouched story
site_same story m found (Some (Down n None)) = moved story story m (Up (with_state n.state)) (untouched story)
site_same story m found (Some (Down n (Some k))) = found_same story m n found (steps.message_at story k)

pub fallen_same : (story : Story) (m : ℕ) (site : Option Site) → HaveSame story (steps.fallen story m site)
fallen_same story m None = untouched story
fallen_same story m (Some (Up n)) = moved story story m (Down n None) (untouched story)
fallen_same story m (Some (Down n handling)) = untouched story

-- ---- the steps of a node

actor_counted : (story : Story) (n : ℕ) (p : Posted) (seat : Seat) (boot : ℕ) (actor : Option coord.State) → slice_get story.nodes n ≡ Some seat → seat.boot ≡ boot → seat.actor ≡ actor
    → IsCounted story → IsCounted (steps.to_actor story n p boot actor)
actor_counted story n p seat boot None there at is counted = counted
actor_counted story n p seat boot (Some c) there at is counted =
    let step = steps.heard_from c p.from p.message in
    subst (λ (k : ℕ). AreCounted (slice_set story.nodes n (record { boot = k; actor = Some step.now })) story.begun) at
    (steps_on story n seat c there is counted step.now (from_same c p.from p.message))

node_counted : (story : Story) (n : ℕ) (p : Posted) (seat : Option Seat) → slice_get story.nodes n ≡ seat → IsCounted story → IsCounted (steps.to_node story n p seat)
node_counted story n p None there counted = counted
node_counted story n p (Some seat) there counted = actor_counted story n p seat seat.boot seat.actor there refl refl counted

receiver_counted : (story : Story) (k : ℕ) (how : How) (p : Posted) (to : Actor) → IsCounted story → IsCounted (steps.to_receiver story k how p to)
receiver_counted story k how p (Memory m) counted =
    alike story (steps.to_memory story m k p how (slice_get story.sites m)) (memory_same story m k p how (slice_get story.sites m)) counted
receiver_counted story k how p (Node n) counted = node_counted story n p (slice_get story.nodes n) refl counted
receiver_counted story k how p Manager counted = counted

given_counted : (story : Story) (k : ℕ) (how : How) (p : Option Posted) → IsCounted story → IsCounted (steps.given story k how p)
given_counted story k how None counted = counted
given_counted story k how (Some p) counted = receiver_counted story k how p p.to counted

-- what a coordinator does on its seat, where that keeps the numbers
at_actor : (story : Story) (n : ℕ) (does : ℕ → coord.State → Story) (seat : Seat) (boot : ℕ) (actor : Option coord.State) → slice_get story.nodes n ≡ Some seat → seat.boot ≡ boot → seat.actor ≡ actor
    → ((seat : Seat) (c : coord.State) → slice_get story.nodes n ≡ Some seat → seat.actor ≡ Some c → IsCounted (does seat.boot c)) → IsCounted story → IsCounted (steps.at_actor story does boot actor)
at_actor story n does seat boot None there at is keeps counted = counted
at_actor story n does seat boot (Some c) there at is keeps counted = subst (λ (k : ℕ). IsCounted (does k c)) at (keeps seat c there is)

at_seat : (story : Story) (n : ℕ) (does : ℕ → coord.State → Story) (seat : Option Seat) → slice_get story.nodes n ≡ seat
    → ((seat : Seat) (c : coord.State) → slice_get story.nodes n ≡ Some seat → seat.actor ≡ Some c → IsCounted (does seat.boot c)) → IsCounted story → IsCounted (steps.at_seat story does seat)
at_seat story n does None there keeps counted = counted
at_seat story n does (Some seat) there keeps counted = at_actor story n does seat seat.boot seat.actor there refl refl keeps counted

-- the seat of a node without a coordinator, or with one that starts
placed : (story : Story) (n : ℕ) (seat : Seat) (now : Seat) → slice_get story.nodes n ≡ Some seat → IsSeated n now.boot now.actor → ((id : TxId) → IsPast (Some seat) id → IsPast (Some now) id)
    → IsCounted story → AreCounted (slice_set story.nodes n now) story.begun
placed story n seat now there seated later counted = reseated story.nodes story.begun n seat now there seated later counted

left_counted : (story : Story) (n : ℕ) (seat : Option Seat) → slice_get story.nodes n ≡ seat → IsCounted story → IsCounted (steps.left story n seat)
left_counted story n None there counted = counted
left_counted story n (Some seat) there counted =
    placed story n seat (record { boot = seat.boot; actor = None }) there tt (λ id past. elim past [ inl before ↦ inl before | inr now ↦ inr (now.0, tt) ]) counted

crashed_counted : (story : Story) (who : Actor) → IsCounted story → IsCounted (steps.crashed story who)
crashed_counted story (Memory m) counted = alike story (steps.fallen story m (slice_get story.sites m)) (fallen_same story m (slice_get story.sites m)) counted
crashed_counted story (Node n) counted = left_counted story n (slice_get story.nodes n) refl counted
crashed_counted story Manager counted = counted

started_counted : (story : Story) (n boot : ℕ) → IsNextBoot story n boot → IsCounted story → IsCounted (steps.node_started story n boot)
started_counted story n boot next counted = go (slice_get story.nodes n) refl
  where
    go : (seat : Option Seat) → slice_get story.nodes n ≡ seat → AreCounted (slice_set story.nodes n (record { boot = boot; actor = Some (coord.started n boot) })) story.begun
    go None there = subst (λ (ns : List Seat). AreCounted ns story.begun) (sym (get_none story.nodes n (record { boot = boot; actor = Some (coord.started n boot) }) there)) counted
    go (Some seat) there =
        let above = next seat there in
        placed story n seat (record { boot = boot; actor = Some (coord.started n boot) }) there (refl, refl)
        (λ id past. elim past [ inl before ↦ inl (omega (arith, before, above)) | inr is ↦ let same = is.0 in inl (omega (arith, same, above)) ]) counted

-- ---- the opening

pub empty_seat : (boots : List ℕ) (n : ℕ) (seat : Seat) → slice_get (map (λ (boot : ℕ). let s : Seat = record { boot = boot; actor = None } in s) boots) n ≡ Some seat → seat.actor ≡ None
empty_seat [] n seat is = absurd cc
empty_seat (boot ∷ boots) zero seat is = ap (λ (s : Seat). s.actor) (sym (some_one (record { boot = boot; actor = None }) seat is))
empty_seat (boot ∷ boots) (suc n) seat is = empty_seat boots n seat is

opened_counted : (states : List State) (boots : List ℕ) → IsCounted (opened_story states boots)
opened_counted states boots = record {
  seated = λ n seat is. subst (λ (a : Option coord.State). IsSeated n seat.boot a) (sym (empty_seat boots n seat is)) tt;
  past = λ b is. absurd is;
  distinct = tt;
}

pub identifiers_begun_once : IdentifiersAreBegunOnce
identifiers_begun_once = record {
  opened = opened_counted;
  begun = λ story n items counted. at_seat story n _ (slice_get story.nodes n) refl (λ seat c there is. begins_on story n seat c items there is counted) counted;
  delivered = λ story k how counted. given_counted story k how (steps.message_at story k) counted;
  given_up = λ story n counted. at_seat story n _ (slice_get story.nodes n) refl
      (λ seat c there is. steps_on story n seat c there is counted (rules.given_up c) (record { coord = refl; boot = refl; begun = refl })) counted;
  cleared = λ story n counted. at_seat story n _ (slice_get story.nodes n) refl
      (λ seat c there is. steps_on story n seat c there is counted (rules.cleared c) (record { coord = refl; boot = refl; begun = refl })) counted;
  resent = λ story n counted. at_seat story n _ (slice_get story.nodes n) refl (λ seat c there is. counted) counted;
  crashed = crashed_counted;
  node_started = started_counted;
  memory_started = λ story m found counted. alike story (steps.from_site story m found (slice_get story.sites m)) (site_same story m found (slice_get story.sites m)) counted;
}
