-- What is logged, posted, cast, running or refused was begun.
use Rattle.std.proofs.Common.{◌≡◌, ◌⊎◌, inl, inr, ℕ, zero, suc, ◌+◌, ◌-◌, ◌==◌, Bool, true, false, not, List, [], ◌∷◌, ◌++◌, length, map, filter, drop, replicate, cond, Option, Some, None, refl, sym, ap, subst, ◌∙◌, slice_get, slice_set, slice_index_or, if◌then◌else◌}
use Rattle.std.specs.Bool.{⊤}
use Rattle.std.specs.List.{flat_map}
use Rattle.mini_tx.specs.declared.actor.Actor.{Actor}
use Rattle.mini_tx.specs.declared.actor.Actor.TheVariants.{Node, Memory, Manager}
use Rattle.mini_tx.specs.declared.cut_id.CutId.{CutId}
use Rattle.mini_tx.specs.declared.entry.Entry.{Entry}
use Rattle.mini_tx.specs.declared.entry.Entry.TheVariants as entry
use Rattle.mini_tx.specs.declared.held_answer.HeldAnswer.TheVariants as hold
use Rattle.mini_tx.specs.declared.item.Item.{Item}
use Rattle.mini_tx.specs.declared.message.Message.{Message}
use Rattle.mini_tx.specs.declared.message.Message.TheVariants as message
use Rattle.mini_tx.specs.declared.placed_item.PlacedItem.{PlacedItem}
use Rattle.mini_tx.specs.declared.posted.Posted.{Posted}
use Rattle.mini_tx.specs.declared.tx_id.TxId.{TxId}
use Rattle.mini_tx.specs.declared.vote.Vote.{Vote}
use Rattle.mini_tx.specs.declared.vote.Vote.TheVariants as vote
use Rattle.mini_tx.specs.EntryGrammar.{is_granted}
use Rattle.mini_tx.specs.Order.{is_same}
use Rattle.tx_coord.specs.declared.finishing.Finishing.{Finishing}
use Rattle.tx_coord.specs.declared.outcome.Outcome.TheVariants.{Committed, Refused}
use Rattle.tx_coord.specs.declared.outgoing.Outgoing.{Outgoing}
use Rattle.tx_coord.specs.declared.progress.Progress.{Progress}
use Rattle.tx_coord.specs.declared.progress.Progress.TheVariants.{Waits, Ends}
use Rattle.tx_coord.specs.declared.running.Running.{Running}
use Rattle.tx_coord.specs.State as coord
use Rattle.tx_coord.specs.Rules as rules
use Rattle.tx_rules.specs.Mini.{In}
use Rattle.tx_rules.proofs.FaithfulLemmas.{in_front, in_back, in_either}
use Rattle.mem_rules.specs.declared.kept.Kept.{Kept}
use Rattle.mem_rules.specs.declared.standing.Standing.{Standing}
use Rattle.mem_rules.specs.declared.standing.Standing.TheVariants.{Above, At, Below}
use Rattle.mem_rules.specs.Identifiers.{cut_precedes}
use Rattle.mem_rules.specs.Items.{range_of, writes_of}
use Rattle.mem_rules.specs.Rules as node
use Rattle.mem_rules.specs.State.{kept_of}
use Rattle.story_rules.specs.MemoryNodes.{MemoryNode, Reaction, reaction, with_state}
use Rattle.story_rules.specs.Story.{Begun, Seat, Site, Up, Down, Story, Cast, Entered, Sent}
use Rattle.story_rules.specs.Steps as steps
use Rattle.story_rules.specs.Steps.{How, Lost, Handled, Stopped, WentDown, WasFull, grant_in, grant_of, with_entry, with_grant, with_answer}
use Rattle.story_laws.specs.Beginnings.{WasBegun, entry_of, WasBegunIf, IsAboutBegun, RunsBegun, IsAtBegun, IsAtBegunIf, IsCastOn, AreBegun, NamedWasBegun}

-- ---- lists

pub in_map : {A B : Type 0} (f : A → B) (y : B) (xs : List A) → In y (map f xs) → (x : A) × In x xs × (y ≡ f x)
in_map f y [] is = absurd is
in_map f y (x ∷ xs) is = elim is [
  | inl same ↦ (x, inl refl, same)
  | inr rest ↦ let it = in_map f y xs rest in (it.0, inr it.1, it.2)
]

pub in_filter : {A : Type 0} (test : A → Bool) (x : A) (xs : List A) → In x (filter test xs) → In x xs
in_filter test x [] is = absurd is
in_filter test x (y ∷ xs) is = go (test y) (in_filter test x xs) is
  where
    go : (b : Bool) → (In x (filter test xs) → In x xs) → In x (cond b (y ∷ filter test xs) (filter test xs)) → (x ≡ y) ⊎ In x xs
    go true rest h = elim h [ inl same ↦ inl same | inr later ↦ inr (rest later) ]
    go false rest h = inr (rest h)

pub in_drop : {A : Type 0} (n : ℕ) (x : A) (xs : List A) → In x (drop n xs) → In x xs
in_drop zero x xs is = is
in_drop (suc n) x [] is = is
in_drop (suc n) x (y ∷ xs) is = inr (in_drop n x xs is)

pub in_flat : {A B : Type 0} (f : A → List B) (y : B) (xs : List A) → In y (flat_map f xs) → (x : A) × In x xs × In y (f x)
in_flat f y [] is = absurd is
in_flat f y (x ∷ xs) is = elim (in_either y (f x) (flat_map f xs) is) [
  | inl here ↦ (x, inl refl, here)
  | inr rest ↦ let it = in_flat f y xs rest in (it.0, inr it.1, it.2)
]

pub some_is : {A : Type 0} (x y : A) → ◌≡◌ {A = Option A} (Some x) (Some y) → y ≡ x
some_is x y is = cc

get_in : {A : Type 0} (xs : List A) (n : ℕ) (x : A) → slice_get xs n ≡ Some x → In x xs
get_in [] n x is = absurd cc
get_in (y ∷ xs) zero x is = inl (some_is y x is)
get_in (y ∷ xs) (suc n) x is = inr (get_in xs n x is)

pub set_seat : (xs : List Seat) (n : ℕ) (y : Seat) (m : ℕ) (z : Seat) → slice_get (slice_set xs n y) m ≡ Some z → (z ≡ y) ⊎ (slice_get xs m ≡ Some z)
set_seat [] n y m z is = inr is
set_seat (x ∷ xs) zero y zero z is = inl (some_is y z is)
set_seat (x ∷ xs) zero y (suc m) z is = inr is
set_seat (x ∷ xs) (suc n) y zero z is = inr is
set_seat (x ∷ xs) (suc n) y (suc m) z is = set_seat xs n y m z is

set_log : (logs : List (List Entry)) (m n : ℕ) (e x : Entry) → In x (slice_index_or (slice_set logs m (slice_index_or logs m [] ++ e ∷ [])) n [])
    → In x (slice_index_or logs n []) ⊎ (x ≡ e)
set_log [] m n e x is = inl is
set_log (l ∷ logs) zero zero e x is = elim (in_either x l (e ∷ []) is) [
  | inl old ↦ inl old
  | inr last ↦ elim last [ inl same ↦ inr same | inr none ↦ absurd none ]
]
set_log (l ∷ logs) zero (suc n) e x is = inl is
set_log (l ∷ logs) (suc m) zero e x is = inl is
set_log (l ∷ logs) (suc m) (suc n) e x is = set_log logs m n e x is

-- ---- a reaction is about what its message is about

abbrev pub EntryWas : List Begun → Option Entry → Type 0
EntryWas begun None = ⊤
EntryWas begun (Some e) = WasBegunIf begun (entry_of e)

abbrev AnswerWas : List Begun → Actor → Option Message → Type 0
AnswerWas begun to None = ⊤
AnswerWas begun to (Some x) = IsAboutBegun begun to x

abbrev ReactsOn : List Begun → Actor → node.Reaction → Type 0
ReactsOn begun to r = EntryWas begun r.entry × AnswerWas begun to r.answer

module _ (begun : List Begun) (to : Actor) where
  either : (b : Bool) (r q : node.Reaction) → ReactsOn begun to r → ReactsOn begun to q → ReactsOn begun to (if b then r else q)
  either true r q first second = first
  either false r q first second = second

  vote_names : (id : TxId) (participants : List ℕ) (items : List PlacedItem) (v : Vote) → entry_of (node.entry_of_vote id participants items v) ≡ Some id
  vote_names id participants items v = go (is_granted v) (node.has_several participants)
    where
      go : (a b : Bool)
          → entry_of (if a then (if b then entry.Prepared id participants v (map range_of items) (writes_of items) else entry.Single id v (writes_of items)) else entry.Refused id v) ≡ Some id
      go true true = refl
      go true false = refl
      go false b = refl

  casts_on : (n : node.Node) (id : TxId) (participants : List ℕ) (items : List PlacedItem) (v : Vote) → WasBegun begun id → ReactsOn begun to (node.casts n id participants items v)
  casts_on n id participants items v was =
      either (node.is_logged participants items) (node.appends n (node.entry_of_vote id participants items v) (message.Voted id v)) (node.answers n (message.Voted id v))
      (subst (λ (o : Option TxId). WasBegunIf begun o) (sym (vote_names id participants items v)) was, was)
      (tt, was)

  prepare_on : (n : node.Node) (id : TxId) (participants : List ℕ) (items : List PlacedItem) → WasBegun begun id → ReactsOn begun to (node.on_prepare n id participants items)
  prepare_on n id participants items was =
      let rule = node.rule_for n id items in
      let v = node.vote_by n.state.image items rule in
      either (node.is_new rule) (node.casts n id participants items v) (node.answers n (message.Voted id v))
      (casts_on n id participants items v was) (tt, was)

  forces_on : (n : node.Node) (id : TxId) (s : Standing) (m : Message) → WasBegun begun id → IsAboutBegun begun to m → ReactsOn begun to (node.forces n id s m)
  forces_on n id Above m was about = (was, about)
  forces_on n id (At v) m was about = (tt, about)
  forces_on n id (Below floor) m was about = (tt, about)

  decide_on : (n : node.Node) (id : TxId) (commit : Bool) (k : Option Kept) → WasBegun begun id → ReactsOn begun to (node.on_decide n id commit k)
  decide_on n id commit (Some k) was =
      either (node.is_undecided k) (node.appends n (entry.Decided id commit) (message.Done id)) (node.answers n (message.Done id)) (was, was) (tt, was)
  decide_on n id true None was = (tt, was)
  decide_on n id false None was = forces_on n id (node.standing n.state id) (message.Done id) was was

  forget_on : (n : node.Node) (id : TxId) (k : Option Kept) → WasBegun begun id → ReactsOn begun to (node.on_forget n id k)
  forget_on n id (Some k) was =
      either (node.is_undecided k) (node.silent n) (record { entry = Some (entry.Forgotten id); answer = None; copy = n.copy }) (tt, tt) (was, tt)
  forget_on n id None was = (tt, tt)

  asked_on : (n : node.Node) (id : TxId) (s : Standing) → WasBegun begun id → ReactsOn begun to (node.by_floor_asked n id s)
  asked_on n id Above was = (was, was)
  asked_on n id (At v) was = (tt, was)
  asked_on n id (Below floor) was = (tt, was)

  ask_on : (n : node.Node) (id : TxId) (k : Option Kept) → WasBegun begun id → ReactsOn begun to (node.on_ask n id k)
  ask_on n id (Some k) was = (tt, was)
  ask_on n id None was = asked_on n id (node.standing n.state id) was

  holds_on : (n : node.Node) (cut : CutId) (holder : Option TxId) → ReactsOn begun to (node.holds n cut holder)
  holds_on n cut None = (tt, tt)
  holds_on n cut (Some holder) = (tt, tt)

  floor_on : (n : node.Node) (cut : CutId) (floor : Option CutId) → ReactsOn begun to (node.by_cut_floor n cut floor)
  floor_on n cut None = holds_on n cut (node.least_with node.is_undecided None n.state.kept)
  floor_on n cut (Some floor) =
      let holder = node.least_with node.is_undecided None n.state.kept in
      either (cut_precedes floor cut) (node.holds n cut holder) (node.answers n (message.Held cut (hold.Past floor))) (holds_on n cut holder) (tt, tt)

  hold_on : (n : node.Node) (cut : CutId) → ReactsOn begun to (node.on_hold n cut)
  hold_on n cut =
      either (node.is_copied n.copy cut) (node.answers n (message.Held cut hold.Copied)) (node.by_cut_floor n cut n.state.cut) (tt, tt) (floor_on n cut n.state.cut)

  pub reacts_on : (n : node.Node) (here : Actor) (x : Message) → IsAboutBegun begun here x → ReactsOn begun to (node.react n x)
  reacts_on n here (message.Prepare id participants items) was = prepare_on n id participants items (was.0, was.1, was.2.same)
  reacts_on n here (message.Decide id commit) was = decide_on n id commit (kept_of n.state.kept id) was
  reacts_on n here (message.Forget id) was = forget_on n id (kept_of n.state.kept id) was
  reacts_on n here message.List was = (tt, tt)
  reacts_on n here (message.Ask id) was = ask_on n id (kept_of n.state.kept id) was
  reacts_on n here (message.Hold cut) was = hold_on n cut
  reacts_on n here (message.Release cut) was = (tt, tt)
  reacts_on n here (message.Drop cut) was = (tt, tt)
  reacts_on n here (message.ReadCut cut place) was = (tt, tt)
  reacts_on n here (message.Voted id v) was = (tt, tt)
  reacts_on n here (message.Done id) was = (tt, tt)
  reacts_on n here (message.Kept ids cut) was = (tt, tt)
  reacts_on n here (message.Answer id ok) was = (tt, tt)
  reacts_on n here (message.Held cut answer) was = (tt, tt)
  reacts_on n here (message.Piece cut place bytes) was = (tt, tt)

-- whose vote an entry grants, it names
pub grant_was : (begun : List Begun) (e : Option Entry) → EntryWas begun e → WasBegunIf begun (grant_of e)
grant_was begun None was = tt
grant_was begun (Some e) was = of_entry e was
  where
    of_bool : (id : TxId) (b : Bool) → WasBegun begun id → WasBegunIf begun (if b then Some id else None)
    of_bool id true was_ = was_
    of_bool id false was_ = tt

    of_entry : (x : Entry) → WasBegunIf begun (entry_of x) → WasBegunIf begun (grant_in x)
    of_entry (entry.Single id v writes) was_ = of_bool id (is_granted v) was_
    of_entry (entry.Prepared id participants v ranges writes) was_ = of_bool id (is_granted v) was_
    of_entry (entry.Refused id v) was_ = tt
    of_entry (entry.Decided id commit) was_ = tt
    of_entry (entry.Forgotten id) was_ = tt
    of_entry (entry.Cut cut) was_ = tt
    of_entry (entry.Floor id v) was_ = tt

-- ---- a memory node's step

entry_counts : (story : Story) (m : ℕ) (e : Option Entry) → EntryWas story.begun e → AreBegun story → AreBegun (with_entry story m e)
entry_counts story m None was all = all
entry_counts story m (Some e) was all = record {
  logged = λ n x is. elim (set_log story.logs m n e x is) [
    | inl old ↦ all.logged n x old
    | inr same ↦ subst (λ (y : Entry). WasBegunIf story.begun (entry_of y)) (sym same) was
  ];
  posted = all.posted;
  cast = all.cast;
  running = all.running;
  refused = all.refused;
}

cast_more : (begun : List Begun) (casts : List Cast) (new : Cast) → ((c : Cast) → In c casts → IsCastOn begun c) → IsCastOn begun new
    → (c : Cast) → In c (casts ++ new ∷ []) → IsCastOn begun c
cast_more begun casts new all now c is = elim (in_either c casts (new ∷ []) is) [
  | inl old ↦ all c old
  | inr last ↦ elim last [ inl same ↦ subst (λ (x : Cast). IsCastOn begun x) (sym same) now | inr none ↦ absurd none ]
]

grant_counts : (story : Story) (m : ℕ) (g : Option TxId) → WasBegunIf story.begun g → AreBegun story → AreBegun (with_grant story m g)
grant_counts story m None was all = all
grant_counts story m (Some id) was all = record {
  logged = all.logged;
  posted = all.posted;
  cast = cast_more story.begun story.casts (Entered id m (length story.committed)) all.cast was;
  running = all.running;
  refused = all.refused;
}

answer_counts : (story : Story) (m : ℕ) (sender : Actor) (answer : Option Message) → AnswerWas story.begun sender answer → AreBegun story → AreBegun (with_answer story m sender answer)
answer_counts story m sender None was all = all
answer_counts story m sender (Some x) was all = record {
  logged = all.logged;
  posted = λ p is. elim (in_either p story.posted (steps.answered m sender (Some x)) is) [
    | inl old ↦ all.posted p old
    | inr last ↦ elim last [ inl same ↦ subst (λ (q : Posted). IsAboutBegun story.begun q.to q.message) (sym same) was | inr none ↦ absurd none ]
  ];
  cast = looked (steps.is_look story.begun x);
  running = all.running;
  refused = all.refused;
}
  where
    new : Cast
    new = Sent (length story.posted + 1) (length story.committed)

    looked : (b : Bool) → (c : Cast) → In c (if b then story.casts ++ new ∷ [] else story.casts) → IsCastOn story.begun c
    looked true = cast_more story.begun story.casts new all.cast tt
    looked false = all.cast

entry_begun : (story : Story) (m : ℕ) (e : Option Entry) → story.begun ≡ (with_entry story m e).begun
entry_begun story m None = refl
entry_begun story m (Some e) = refl

grant_begun : (story : Story) (m : ℕ) (g : Option TxId) → story.begun ≡ (with_grant story m g).begun
grant_begun story m None = refl
grant_begun story m (Some id) = refl

counted_begun : (story : Story) (m : ℕ) (sender : Actor) (e : Option Entry) (answer : Option Message) → EntryWas story.begun e → AnswerWas story.begun sender answer
    → AreBegun story → AreBegun (steps.counted story m sender e answer)
counted_begun story m sender e answer entered told all =
    let one = with_entry story m e in
    let two = with_grant one m (grant_of e) in
    let first : story.begun ≡ one.begun = entry_begun story m e in
    let second : story.begun ≡ two.begun = first ∙ grant_begun one m (grant_of e) in
    answer_counts two m sender answer (subst (λ (bs : List Begun). AnswerWas bs sender answer) second told)
    (grant_counts one m (grant_of e) (subst (λ (bs : List Begun). WasBegunIf bs (grant_of e)) first (grant_was story.begun e entered))
    (entry_counts story m e entered all))

moved : (story : Story) (m : ℕ) (site : Site) → AreBegun story → AreBegun (steps.with_site story m site)
moved story m site all = record { logged = all.logged; posted = all.posted; cast = all.cast; running = all.running; refused = all.refused }

reacted_begun : (story : Story) (m k : ℕ) (sender : Actor) (n : MemoryNode) (r : Reaction) (how : How) → EntryWas story.begun r.entry → AnswerWas story.begun sender r.answer
    → AreBegun story → AreBegun (steps.reacted story m k sender n r how)
reacted_begun story m k sender n r Lost entered told all = all
reacted_begun story m k sender n r Handled entered told all = moved (steps.counted story m sender r.entry r.answer) m (Up r.now) (counted_begun story m sender r.entry r.answer entered told all)
reacted_begun story m k sender n r Stopped entered told all = moved (steps.counted story m sender r.entry None) m (Down r.now None) (counted_begun story m sender r.entry None entered tt all)
reacted_begun story m k sender n r WentDown entered told all = moved story m (Down n (Some k)) all
reacted_begun story m k sender n r WasFull entered told all = moved story m (Down n None) all

memory_begun : (story : Story) (m k : ℕ) (p : Posted) (how : How) (site : Option Site) → IsAboutBegun story.begun p.to p.message → AreBegun story → AreBegun (steps.to_memory story m k p how site)
memory_begun story m k p how None about all = all
memory_begun story m k p how (Some (Up n)) about all =
    let on = reacts_on story.begun p.from n p.to p.message about in
    reacted_begun story m k p.from n (reaction n p.message) how on.0 on.1 all
memory_begun story m k p how (Some (Down n handling)) about all = all

-- ---- a coordinator's step

record IsStepOn (begun : List Begun) (step : rules.Step) : Type 0 where
  pub now : IsAtBegun begun step.now
  pub posts : (o : Outgoing) → In o step.posts → IsAboutBegun begun (Memory o.memory) o.message

quiet_on : (begun : List Begun) (c : coord.State) → IsAtBegun begun c → IsStepOn begun (rules.quiet c)
quiet_on begun c at = record { now = at; posts = λ o is. absurd is }

abbrev ProgressOn : List Begun → Progress → Type 0
ProgressOn begun (Waits r) = RunsBegun begun (coord.Runs r)
ProgressOn begun (Ends e) = WasBegun begun e.id

-- messages that are made of participants
all_about : (begun : List Begun) (f : ℕ → Outgoing) (ms : List ℕ) → ((m : ℕ) → In m ms → IsAboutBegun begun (Memory (f m).memory) (f m).message)
    → (o : Outgoing) → In o (map f ms) → IsAboutBegun begun (Memory o.memory) o.message
all_about begun f ms each o is =
    let it = in_map f o ms is in
    subst (λ (x : Outgoing). IsAboutBegun begun (Memory x.memory) x.message) (sym it.2) (each it.0 it.1)

decided_on : (begun : List Begun) (id : TxId) (commit : Bool) (participants : List ℕ) (finishing : List Finishing) → WasBegun begun id
    → ((f : Finishing) → In f finishing → WasBegun begun f.id) → (f : Finishing) → In f (rules.with_decided id commit participants finishing) → WasBegun begun f.id
decided_on begun id commit participants finishing was all f is = go (rules.has_several participants) is
  where
    new : Finishing
    new = rules.finishing_of id commit participants

    go : (b : Bool) → In f (if b then rules.newest 32 (finishing ++ new ∷ []) else finishing) → WasBegun begun f.id
    go true kept = elim (in_either f finishing (new ∷ []) (in_drop (length (finishing ++ new ∷ []) - 32) f (finishing ++ new ∷ []) kept)) [
      | inl old ↦ all f old
      | inr last ↦ elim last [ inl same ↦ subst (λ (x : Finishing). WasBegun begun x.id) (sym same) was | inr none ↦ absurd none ]
    ]
    go false old = all f old

decisions_on : (begun : List Begun) (id : TxId) (commit : Bool) (participants : List ℕ) → WasBegun begun id
    → (o : Outgoing) → In o (rules.decisions id commit participants) → IsAboutBegun begun (Memory o.memory) o.message
decisions_on begun id commit participants was o is = go (rules.has_several participants) is
  where
    go : (b : Bool) → In o (if b then map (rules.decide id commit) participants else []) → IsAboutBegun begun (Memory o.memory) o.message
    go true sent = all_about begun (rules.decide id commit) participants (λ m there. was) o sent
    go false none = absurd none

after_on : (begun : List Begun) (c : coord.State) (p : Progress) → ProgressOn begun p → IsAtBegun begun c → IsStepOn begun (rules.after_vote c p)
after_on begun c (Waits r) on at = record { now = record { phase = on; finishing = at.finishing }; posts = λ o is. absurd is }
after_on begun c (Ends e) on at = record {
  now = record { phase = tt; finishing = decided_on begun e.id e.commit (rules.participants_of e.mini) c.finishing on at.finishing };
  posts = decisions_on begun e.id e.commit (rules.participants_of e.mini) on;
}

counted_on : (begun : List Begun) (r : Running) (m : ℕ) (v : Vote) → RunsBegun begun (coord.Runs r) → ProgressOn begun (rules.counted r m v)
counted_on begun r m (vote.Granted reads) on = go (length (rules.missing r_) == 0)
  where
    r_ : Running
    r_ = rules.with_grant r m reads

    go : (b : Bool) → ProgressOn begun (if b then rules.ended_by r_ true (Committed (rules.gathered r_.grants r_.mini)) else Waits r_)
    go true = (on.0, on.1, on.2)
    go false = on
counted_on begun r m (vote.Mismatch place kept) on = (on.0, on.1, on.2)
counted_on begun r m (vote.Locked holder) on = (on.0, on.1, on.2)
counted_on begun r m (vote.Forced floor) on = (on.0, on.1, on.2)
counted_on begun r m (vote.Held cut) on = (on.0, on.1, on.2)

vote_on : (begun : List Begun) (c : coord.State) (m : ℕ) (id : TxId) (v : Vote) (phase : coord.Phase) → RunsBegun begun phase → IsAtBegun begun c → IsStepOn begun (rules.on_vote c m id v phase)
vote_on begun c m id v coord.Free on at = quiet_on begun c at
vote_on begun c m id v (coord.Runs r) on at = go (rules.counts r m id v)
  where
    go : (b : Bool) → IsStepOn begun (if b then rules.after_vote c (rules.counted r m v) else rules.quiet c)
    go true = after_on begun c (rules.counted r m v) (counted_on begun r m v on) at
    go false = quiet_on begun c at
vote_on begun c m id v (coord.Ended outcome) on at = quiet_on begun c at

pub noted_id : (m : ℕ) (id : TxId) (f : Finishing) → (rules.noted m id f).id ≡ f.id
noted_id m id f = go (is_same f.id id)
  where
    now : Finishing
    now = record f { waits = filter (λ n. not (n == m)) f.waits }

    go : (b : Bool) → (if b then now else f).id ≡ f.id
    go true = refl
    go false = refl

noted_on : (begun : List Begun) (m : ℕ) (id : TxId) (finishing : List Finishing) → ((f : Finishing) → In f finishing → WasBegun begun f.id)
    → (f : Finishing) → In f (map (rules.noted m id) finishing) → WasBegun begun f.id
noted_on begun m id finishing all f is =
    let it = in_map (rules.noted m id) f finishing is in
    subst (λ (i : TxId). WasBegun begun i) (sym (ap (λ (x : Finishing). x.id) it.2 ∙ noted_id m id it.0)) (all it.0 it.1)

done_on : (begun : List Begun) (c : coord.State) (m : ℕ) (id : TxId) → IsAtBegun begun c → IsStepOn begun (rules.on_done c m id)
done_on begun c m id at = record {
  now = record {
    phase = at.phase;
    finishing = λ f is. noted_on begun m id c.finishing at.finishing f (in_filter (λ (g : Finishing). not (rules.is_through g)) f (map (rules.noted m id) c.finishing) is);
  };
  posts = λ o is.
      let it = in_flat rules.forget o (filter rules.is_through (map (rules.noted m id) c.finishing)) is in
      let was = noted_on begun m id c.finishing at.finishing it.0 (in_filter rules.is_through it.0 (map (rules.noted m id) c.finishing) it.1) in
      all_about begun (rules.forget_at it.0.id) it.0.participants (λ n there. was) o it.2;
}

heard_on : (begun : List Begun) (c : coord.State) (m : ℕ) (x : Message) → IsAtBegun begun c → IsStepOn begun (rules.heard c m x)
heard_on begun c m (message.Voted id v) at = vote_on begun c m id v c.phase at.phase at
heard_on begun c m (message.Done id) at = done_on begun c m id at
heard_on begun c m (message.Prepare id participants items) at = quiet_on begun c at
heard_on begun c m (message.Decide id commit) at = quiet_on begun c at
heard_on begun c m (message.Forget id) at = quiet_on begun c at
heard_on begun c m message.List at = quiet_on begun c at
heard_on begun c m (message.Kept ids cut) at = quiet_on begun c at
heard_on begun c m (message.Ask id) at = quiet_on begun c at
heard_on begun c m (message.Answer id ok) at = quiet_on begun c at
heard_on begun c m (message.Hold cut) at = quiet_on begun c at
heard_on begun c m (message.Held cut answer) at = quiet_on begun c at
heard_on begun c m (message.Release cut) at = quiet_on begun c at
heard_on begun c m (message.Drop cut) at = quiet_on begun c at
heard_on begun c m (message.ReadCut cut place) at = quiet_on begun c at
heard_on begun c m (message.Piece cut place bytes) at = quiet_on begun c at

from_on : (begun : List Begun) (c : coord.State) (from : Actor) (x : Message) → IsAtBegun begun c → IsStepOn begun (steps.heard_from c from x)
from_on begun c (Memory m) x at = heard_on begun c m x at
from_on begun c (Node n) x at = quiet_on begun c at
from_on begun c Manager x at = quiet_on begun c at

-- a `prepare` of what was begun with these items
part_of : (begun : List Begun) (b : Begun) (id : TxId) (items : List Item) (m : ℕ) → In b begun → b.id ≡ id → b.items ≡ items → In m (rules.participants_of items)
    → IsAboutBegun begun (Memory m) (rules.prepare id items m).message
part_of begun b id items m there same items_ takes = (
  b,
  there,
  record {
    memory = m;
    receiver = refl;
    takes_part = subst (λ (xs : List Item). In m (rules.participants_of xs)) (sym items_) takes;
    same = same;
    participants_are = ap rules.participants_of (sym items_);
    items_are = ap (λ (xs : List Item). rules.placed_for xs m) (sym items_);
  },
)

resent_on : (begun : List Begun) (c : coord.State) → IsAtBegun begun c → (o : Outgoing) → In o (rules.resent c) → IsAboutBegun begun (Memory o.memory) o.message
resent_on begun c at o is = elim (in_either o (rules.prepares c.phase) (flat_map rules.decides c.finishing) is) [
  | inl asks ↦ again c.phase at.phase asks
  | inr tells ↦
      let it = in_flat rules.decides o c.finishing tells in
      all_about begun (rules.decide it.0.id it.0.commit) it.0.waits (λ m there. at.finishing it.0 it.1) o it.2
]
  where
    again : (phase : coord.Phase) → RunsBegun begun phase → In o (rules.prepares phase) → IsAboutBegun begun (Memory o.memory) o.message
    again coord.Free on none = absurd none
    again (coord.Runs r) on sent =
        all_about begun (rules.prepare r.id r.mini) (rules.missing r)
        (λ m there. part_of begun on.0 r.id r.mini m on.1 on.2 on.3 (in_filter (λ (k : ℕ). not (rules.has_granted r.grants k)) m (rules.participants_of r.mini) there)) o sent
    again (coord.Ended outcome) on none = absurd none

-- ---- a node's step

seat_set : (story : Story) (n boot : ℕ) (c : Option coord.State) → IsAtBegunIf story.begun c → AreBegun story → AreBegun (steps.with_actor story n boot c)
seat_set story n boot c at all = record {
  logged = all.logged;
  posted = all.posted;
  cast = all.cast;
  running = λ m seat is. elim (set_seat story.nodes n (record { boot = boot; actor = c }) m seat is) [
    | inl same ↦ subst (λ (s : Seat). IsAtBegunIf story.begun s.actor) (sym same) at
    | inr old ↦ all.running m seat old
  ];
  refused = all.refused;
}

posts_more : (story : Story) (n : ℕ) (posts : List Outgoing) → ((o : Outgoing) → In o posts → IsAboutBegun story.begun (Memory o.memory) o.message)
    → AreBegun story → AreBegun (record story { posted = story.posted ++ map (steps.sent_by n) posts })
posts_more story n posts each all = record {
  logged = all.logged;
  posted = λ p is. elim (in_either p story.posted (map (steps.sent_by n) posts) is) [
    | inl old ↦ all.posted p old
    | inr new ↦
        let it = in_map (steps.sent_by n) p posts new in
        subst (λ (q : Posted). IsAboutBegun story.begun q.to q.message) (sym it.2) (each it.0 it.1)
  ];
  cast = all.cast;
  running = all.running;
  refused = all.refused;
}

refused_on : (begun : List Begun) (before now : coord.Phase) (id : TxId) → RunsBegun begun before → In id (steps.refused_by before now) → WasBegun begun id
refused_on begun (coord.Runs r) (coord.Ended (Refused m v)) id on is = elim is [
  | inl same ↦ (on.0, on.1, on.2 ∙ sym same)
  | inr none ↦ absurd none
]
refused_on begun (coord.Runs r) (coord.Ended (Committed reads)) id on is = absurd is
refused_on begun (coord.Runs r) coord.Free id on is = absurd is
refused_on begun (coord.Runs r) (coord.Runs now) id on is = absurd is
refused_on begun coord.Free now id on is = absurd is
refused_on begun (coord.Ended outcome) now id on is = absurd is

refused_more : (story : Story) (ids : List TxId) → ((id : TxId) → In id ids → WasBegun story.begun id) → AreBegun story → AreBegun (record story { refused = story.refused ++ ids })
refused_more story ids each all = record {
  logged = all.logged;
  posted = all.posted;
  cast = all.cast;
  running = all.running;
  refused = λ id is. elim (in_either id story.refused ids is) [ inl old ↦ all.refused id old | inr new ↦ each id new ];
}

stepped_begun : (story : Story) (n boot : ℕ) (c : coord.State) (step : rules.Step) → RunsBegun story.begun c.phase → IsStepOn story.begun step → AreBegun story
    → AreBegun (steps.stepped story n boot c step)
stepped_begun story n boot c step ran on all =
    let one = steps.with_actor story n boot (Some step.now) in
    let two : Story = record one { posted = one.posted ++ map (steps.sent_by n) step.posts } in
    refused_more two (steps.refused_by c.phase step.now.phase) (λ id is. refused_on story.begun c.phase step.now.phase id ran is)
    (posts_more one n step.posts on.posts (seat_set story n boot (Some step.now) on.now all))

-- ---- more is begun

was_more : (begun more : List Begun) (id : TxId) → WasBegun begun id → WasBegun (begun ++ more) id
was_more begun more id was = (was.0, in_front was.0 begun more was.1, was.2)

if_more : (begun more : List Begun) (id : Option TxId) → WasBegunIf begun id → WasBegunIf (begun ++ more) id
if_more begun more None was = tt
if_more begun more (Some id) was = was_more begun more id was

about_more : (begun more : List Begun) (to : Actor) (x : Message) → IsAboutBegun begun to x → IsAboutBegun (begun ++ more) to x
about_more begun more to (message.Prepare id participants items) is = (is.0, in_front is.0 begun more is.1, is.2)
about_more begun more to (message.Voted id v) is = was_more begun more id is
about_more begun more to (message.Decide id commit) is = was_more begun more id is
about_more begun more to (message.Done id) is = was_more begun more id is
about_more begun more to (message.Forget id) is = was_more begun more id is
about_more begun more to message.List is = tt
about_more begun more to (message.Kept ids cut) is = tt
about_more begun more to (message.Ask id) is = was_more begun more id is
about_more begun more to (message.Answer id ok) is = was_more begun more id is
about_more begun more to (message.Hold cut) is = tt
about_more begun more to (message.Held cut answer) is = tt
about_more begun more to (message.Release cut) is = tt
about_more begun more to (message.Drop cut) is = tt
about_more begun more to (message.ReadCut cut place) is = tt
about_more begun more to (message.Piece cut place bytes) is = tt

runs_more : (begun more : List Begun) (phase : coord.Phase) → RunsBegun begun phase → RunsBegun (begun ++ more) phase
runs_more begun more coord.Free on = tt
runs_more begun more (coord.Runs r) on = (on.0, in_front on.0 begun more on.1, on.2, on.3)
runs_more begun more (coord.Ended outcome) on = tt

at_more : (begun more : List Begun) (c : Option coord.State) → IsAtBegunIf begun c → IsAtBegunIf (begun ++ more) c
at_more begun more None at = tt
at_more begun more (Some c) at = record { phase = runs_more begun more c.phase at.phase; finishing = λ f is. was_more begun more f.id (at.finishing f is) }

cast_on_more : (begun more : List Begun) (c : Cast) → IsCastOn begun c → IsCastOn (begun ++ more) c
cast_on_more begun more (Entered id m at) on = was_more begun more id on
cast_on_more begun more (Sent k at) on = tt

begun_more : (story : Story) (more : List Begun) → AreBegun story → AreBegun (record story { begun = story.begun ++ more })
begun_more story more all = record {
  logged = λ m e is. if_more story.begun more (entry_of e) (all.logged m e is);
  posted = λ p is. about_more story.begun more p.to p.message (all.posted p is);
  cast = λ c is. cast_on_more story.begun more c (all.cast c is);
  running = λ n seat is. at_more story.begun more seat.actor (all.running n seat is);
  refused = λ id is. was_more story.begun more id (all.refused id is);
}

begins : (story : Story) (n boot : ℕ) (c : coord.State) (items : List Item) → IsAtBegun story.begun c → AreBegun story
    → AreBegun (record (steps.stepped story n boot c (rules.begun c items)) { begun = story.begun ++ record { id = rules.next_id c; items = items } ∷ [] })
begins story n boot c items at all =
    let b : Begun = record { id = rules.next_id c; items = items } in
    let more : Story = record story { begun = story.begun ++ b ∷ [] } in
    let there : In b more.begun = in_back b story.begun (b ∷ []) (inl refl) in
    let later = at_more story.begun (b ∷ []) (Some c) at in
    stepped_begun more n boot c (rules.begun c items) later.phase
    (record {
      now = record { phase = (b, there, refl, refl); finishing = later.finishing };
      posts = all_about more.begun (rules.prepare (rules.next_id c) items) (rules.participants_of items)
          (λ m takes. part_of more.begun b (rules.next_id c) items m there refl refl takes);
    })
    (begun_more story (b ∷ []) all)

-- ---- what a node does, where its coordinator is at what was begun

at_actor : (story : Story) (does : ℕ → coord.State → Story) → ((boot : ℕ) (c : coord.State) → IsAtBegun story.begun c → AreBegun (does boot c))
    → (boot : ℕ) (actor : Option coord.State) → IsAtBegunIf story.begun actor → AreBegun story → AreBegun (steps.at_actor story does boot actor)
at_actor story does keeps boot None at all = all
at_actor story does keeps boot (Some c) at all = keeps boot c at

at_seat : (story : Story) (n : ℕ) (does : ℕ → coord.State → Story) → ((boot : ℕ) (c : coord.State) → IsAtBegun story.begun c → AreBegun (does boot c))
    → (seat : Option Seat) → slice_get story.nodes n ≡ seat → AreBegun story → AreBegun (steps.at_seat story does seat)
at_seat story n does keeps None there all = all
at_seat story n does keeps (Some seat) there all = at_actor story does keeps seat.boot seat.actor (all.running n seat there) all

at_node : (story : Story) (n : ℕ) (does : ℕ → coord.State → Story) → ((boot : ℕ) (c : coord.State) → IsAtBegun story.begun c → AreBegun (does boot c))
    → AreBegun story → AreBegun (steps.at_node story n does)
at_node story n does keeps all = at_seat story n does keeps (slice_get story.nodes n) refl all

actor_begun : (story : Story) (n : ℕ) (p : Posted) (boot : ℕ) (actor : Option coord.State) → IsAtBegunIf story.begun actor → AreBegun story → AreBegun (steps.to_actor story n p boot actor)
actor_begun story n p boot None at all = all
actor_begun story n p boot (Some c) at all = stepped_begun story n boot c (steps.heard_from c p.from p.message) at.phase (from_on story.begun c p.from p.message at) all

node_begun : (story : Story) (n : ℕ) (p : Posted) (seat : Option Seat) → slice_get story.nodes n ≡ seat → AreBegun story → AreBegun (steps.to_node story n p seat)
node_begun story n p None there all = all
node_begun story n p (Some seat) there all = actor_begun story n p seat.boot seat.actor (all.running n seat there) all

-- ---- the steps

pub at_posted : (story : Story) (k : ℕ) (p : Posted) → steps.message_at story k ≡ Some p → In p story.posted
at_posted story zero p is = absurd cc
at_posted story (suc k) p is = get_in story.posted k p is

receiver_begun : (story : Story) (k : ℕ) (how : How) (p : Posted) (to : Actor) → IsAboutBegun story.begun p.to p.message → AreBegun story → AreBegun (steps.to_receiver story k how p to)
receiver_begun story k how p (Memory m) about all = memory_begun story m k p how (slice_get story.sites m) about all
receiver_begun story k how p (Node n) about all = node_begun story n p (slice_get story.nodes n) refl all
receiver_begun story k how p Manager about all = all

given_begun : (story : Story) (k : ℕ) (how : How) (p : Option Posted) → steps.message_at story k ≡ p → AreBegun story → AreBegun (steps.given story k how p)
given_begun story k how None there all = all
given_begun story k how (Some p) there all = receiver_begun story k how p p.to (all.posted p (at_posted story k p there)) all

fallen_begun : (story : Story) (m : ℕ) (site : Option Site) → AreBegun story → AreBegun (steps.fallen story m site)
fallen_begun story m None all = all
fallen_begun story m (Some (Up n)) all = moved story m (Down n None) all
fallen_begun story m (Some (Down n handling)) all = all

left_begun : (story : Story) (n : ℕ) (seat : Option Seat) → AreBegun story → AreBegun (steps.left story n seat)
left_begun story n None all = all
left_begun story n (Some seat) all = seat_set story n seat.boot None tt all

crashed_begun : (story : Story) (who : Actor) → AreBegun story → AreBegun (steps.crashed story who)
crashed_begun story (Memory m) all = fallen_begun story m (slice_get story.sites m) all
crashed_begun story (Node n) all = left_begun story n (slice_get story.nodes n) all
crashed_begun story Manager all = all

found_begun : (story : Story) (m k : ℕ) (n : MemoryNode) (found : Bool) (p : Option Posted) → steps.message_at story k ≡ p → AreBegun story → AreBegun (steps.found_at story m n found p)
found_begun story m k n found None there all = moved story m (Up (with_state n.state)) all
found_begun story m k n false (Some p) there all = moved story m (Up (with_state n.state)) all
found_begun story m k n true (Some p) there all =
    let r = reaction n p.message in
    let on = reacts_on story.begun p.from n p.to p.message (all.posted p (at_posted story k p there)) in
    moved (steps.counted story m p.from r.entry None) m (Up (with_state r.now.state)) (counted_begun story m p.from r.entry None on.0 tt all)

site_begun : (story : Story) (m : ℕ) (found : Bool) (site : Option Site) → AreBegun story → AreBegun (steps.from_site story m found site)
site_begun story m found None all = all
site_begun story m found (Some (Up n)) all = all
site_begun story m found (Some (Down n None)) all = moved story m (Up (with_state n.state)) all
site_begun story m found (Some (Down n (Some k))) all = found_begun story m k n found (steps.message_at story k) refl all

given_up_on : (begun : List Begun) (c : coord.State) → IsAtBegun begun c → IsAtBegun begun (rules.given_up c)
given_up_on begun c at = record { phase = free c.phase; finishing = at.finishing }
  where
    free : (phase : coord.Phase) → RunsBegun begun (rules.without_running phase)
    free coord.Free = tt
    free (coord.Runs r) = tt
    free (coord.Ended outcome) = tt

cleared_on : (begun : List Begun) (c : coord.State) → IsAtBegun begun c → IsAtBegun begun (rules.cleared c)
cleared_on begun c at = record { phase = rest c.phase at.phase; finishing = at.finishing }
  where
    rest : (phase : coord.Phase) → RunsBegun begun phase → RunsBegun begun (rules.without_outcome phase)
    rest coord.Free on = tt
    rest (coord.Runs r) on = on
    rest (coord.Ended outcome) on = tt

-- ---- the opening

pub empty_log : (count m : ℕ) → slice_index_or {A = List Entry} (replicate count []) m [] ≡ []
empty_log zero m = refl
empty_log (suc count) zero = refl
empty_log (suc count) (suc m) = empty_log count m

pub empty_seat : (boots : List ℕ) (n : ℕ) (seat : Seat) → slice_get (map (λ (boot : ℕ). let s : Seat = record { boot = boot; actor = None } in s) boots) n ≡ Some seat → seat.actor ≡ None
empty_seat [] n seat is = absurd cc
empty_seat (boot ∷ boots) zero seat is = ap (λ (s : Seat). s.actor) (some_is (record { boot = boot; actor = None }) seat is)
empty_seat (boot ∷ boots) (suc n) seat is = empty_seat boots n seat is

pub named_was_begun : NamedWasBegun
named_was_begun = record {
  opened = λ states boots. record {
    logged = λ m e is. absurd (subst (λ (es : List Entry). In e es) (empty_log (length states) m) is);
    posted = λ p is. absurd is;
    cast = λ c is. absurd is;
    running = λ n seat is. subst (λ (a : Option coord.State). IsAtBegunIf [] a) (sym (empty_seat boots n seat is)) tt;
    refused = λ id is. absurd is;
  };
  begun = λ story n items all. at_node story n _ (λ boot c at. begins story n boot c items at all) all;
  delivered = λ story k how all. given_begun story k how (steps.message_at story k) refl all;
  given_up = λ story n all. at_node story n _ (λ boot c at. seat_set story n boot (Some (rules.given_up c)) (given_up_on story.begun c at) all) all;
  cleared = λ story n all. at_node story n _ (λ boot c at. seat_set story n boot (Some (rules.cleared c)) (cleared_on story.begun c at) all) all;
  resent = λ story n all. at_node story n _ (λ boot c at. posts_more story n (rules.resent c) (resent_on story.begun c at) all) all;
  crashed = crashed_begun;
  node_started = λ story n boot all. seat_set story n boot (Some (coord.started n boot)) (record { phase = tt; finishing = λ f is. absurd is }) all;
  memory_started = λ story m found all. site_begun story m found (slice_get story.sites m) all;
}
