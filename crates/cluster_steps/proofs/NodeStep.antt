-- That a node hears a message as in the story.
use Rattle.std.proofs.Common.{◌≡◌, ◌⊎◌, ◌<◌, inl, inr, ℕ, zero, suc, Bool, true, false, List, [], ◌∷◌, ◌++◌, map, length, Option, Some, None, Result, refl, sym, ap, subst, ◌∙◌, arith, slice_set, option_to_list, if◌then◌else◌}
use Rattle.std.specs.List.{slice_get}
use Rattle.std.proofs.lemmas.Bool.{cases_eq}
use Rattle.std.proofs.lemmas.List.{append-nil, append_assoc}
use Rattle.mini_tx.specs.declared.actor.Actor.{Actor}
use Rattle.mini_tx.specs.declared.actor.Actor.TheVariants.{Node, Memory, Manager}
use Rattle.mini_tx.specs.declared.message.Message.{Message}
use Rattle.mini_tx.specs.declared.posted.Posted.{Posted}
use Rattle.mini_tx.specs.declared.tx_id.TxId.{TxId}
use Rattle.tx_coord.specs.declared.outcome.Outcome.TheVariants.{Committed, Refused}
use Rattle.tx_coord.specs.declared.outgoing.Outgoing.{Outgoing}
use Rattle.tx_coord.specs.declared.tx_state.TxState.{TxState}
use Rattle.cluster_seats.specs.Seats.{Steps}
use Rattle.tx_coord.specs.Rules as rules
use Rattle.tx_coord.specs.Rules.{Step}
use Rattle.tx_coord.specs.State as coord
use Rattle.tx_coord.specs.State.{Machine, shown}
use Rattle.story_rules.specs.Story.{Seat, Story}
use Rattle.story_rules.specs.Steps as steps
use Rattle.story_rules.specs.Steps.{How, message_at, delivered, given, to_receiver, to_node, to_actor, stepped, with_actor, heard_from, refused_by, sent_by}
use Rattle.story_laws.proofs.CastLemmas.{set_length}
use Rattle.story_laws.proofs.IdentifierLemmas.{get_same, get_other}
use Rattle.cluster_laws.specs.Doubts.{AreInDoubt, LeavesDoubts, waits_without}
use Rattle.cluster_laws.proofs.DoubtLemmas.{doubts_are_alike, refused_are_not_in_doubt}
use Rattle.cluster_parts.specs.Books.{IsBook, doubts_of, history_of}
use Rattle.cluster_parts.specs.declared.book.Book.{Book}
use Rattle.cluster_parts.specs.declared.delivered.Delivered.{Delivered}
use Rattle.cluster_parts.specs.declared.delivered.Delivered.TheVariants.{Lost, Handled, WentDown}
use Rattle.cluster_steps.specs.Live.{AreSeated, IsBeside, Makes, refused_now, running_in, is_refused, memory_in}

one_some : {A : Type 0} (x y : A) → ◌≡◌ {A = Option A} (Some x) (Some y) → x ≡ y
one_some x y is = cc

pub some_at : {A : Type 0} (xs : List A) (n : ℕ) → n < length xs → (x : A) × (slice_get xs n ≡ Some x)
some_at [] n below = absurd (omega (arith, below))
some_at (x ∷ xs) zero below = (x, refl)
some_at (x ∷ xs) (suc n) below = some_at xs n (omega (arith, below))

set_same : {A : Type 0} (xs : List A) (n : ℕ) (x : A) → slice_get xs n ≡ Some x → slice_set xs n x ≡ xs
set_same [] n x is = refl
set_same (y ∷ xs) zero x is = ap (λ (z : _). z ∷ xs) (sym (one_some y x is))
set_same (y ∷ xs) (suc n) x is = ap (λ (zs : List _). y ∷ zs) (set_same xs n x is)

-- no identifier
abbrev pub nothing : Option TxId
nothing = None

-- ---- what is refused

pub refused_is : (a b : coord.Phase) → refused_by a b ≡ option_to_list (refused_now (running_in (shown a)) (shown b))
refused_is coord.Free b = sym (none (is_refused (shown b)))
  where
    none : (t : Bool) → option_to_list (if t then nothing else nothing) ≡ []
    none true = refl
    none false = refl
refused_is (coord.Ended outcome) b = sym (none (is_refused (shown b)))
  where
    none : (t : Bool) → option_to_list (if t then nothing else nothing) ≡ []
    none true = refl
    none false = refl
refused_is (coord.Runs r) coord.Free = refl
refused_is (coord.Runs r) (coord.Runs now) = refl
refused_is (coord.Runs r) (coord.Ended (Committed reads)) = refl
refused_is (coord.Runs r) (coord.Ended (Refused m v)) = refl

-- ---- a step of a coordinator

pub seat_set : (nodes : List Machine) (seats : List Seat) (n : ℕ) (was : Machine) (now : coord.State) (seat : Seat) → slice_get nodes n ≡ Some was → slice_get seats n ≡ Some seat
    → AreSeated nodes seats → AreSeated (slice_set nodes n (record { state = now; is_spent = false })) (slice_set seats n (record { boot = seat.boot; actor = Some now }))
seat_set nodes seats n was now seat there site seated = record {
  many = set_length nodes n machine ∙ seated.many ∙ sym (set_length seats n taken);
  each = λ m c other at is. elim (cases_eq m n) [
    | inl same ↦
        let mine : slice_get (slice_set nodes n machine) n ≡ Some c = subst (λ (k : ℕ). slice_get (slice_set nodes n machine) k ≡ Some c) same at in
        let its : slice_get (slice_set seats n taken) n ≡ Some other = subst (λ (k : ℕ). slice_get (slice_set seats n taken) k ≡ Some other) same is in
        let one : machine ≡ c = one_some machine c (sym (get_same nodes n was machine there) ∙ mine) in
        let two : taken ≡ other = one_some taken other (sym (get_same seats n seat taken site) ∙ its) in (
          subst (λ (s : Seat). s.actor ≡ Some c.state) two (ap (λ (k : Machine). Some k.state) one),
          subst (λ (k : Machine). k.is_spent ≡ false) one refl,
        )
    | inr apart ↦ seated.each m c other (sym (get_other nodes n m machine apart) ∙ at) (sym (get_other seats n m taken apart) ∙ is)
  ];
}
  where
    machine : Machine
    machine = record { state = now; is_spent = false }

    taken : Seat
    taken = record { boot = seat.boot; actor = Some now }

-- the story where a coordinator makes a step
pub made_beside : (story : Story) (n boot : ℕ) (c : Machine) (step : Step) (old now : List Machine) (before after : List Posted → Type 0) (was book : Book) (seat : Seat)
    → slice_get old n ≡ Some c → slice_get story.nodes n ≡ Some seat → boot ≡ seat.boot → Makes n c step old now before after was book → IsBeside old before was story
    → IsBeside now after book (stepped story n boot c.state step)
made_beside story n boot c step old now before after was book seat there site same makes beside = record {
  seats = subst (λ (ms : List Machine). AreSeated ms (slice_set story.nodes n (record { boot = boot; actor = Some step.now }))) (sym makes.nodes)
      (subst (λ (b : ℕ). AreSeated (slice_set old n (record { state = step.now; is_spent = false })) (slice_set story.nodes n (record { boot = b; actor = Some step.now }))) (sym same)
      (seat_set old story.nodes n c step.now seat there site beside.seats));
  posted = makes.posted story.posted beside.posted;
  counts = record {
    committed = makes.history ∙ beside.counts.committed;
    doubts = doubts_are_alike (stepped story n boot c.state step) (waits_without (doubts_of was) (refused_by c.state.phase step.now.phase)) (doubts_of book)
        (refused_are_not_in_doubt story (stepped story n boot c.state step) (refused_by c.state.phase step.now.phase) (doubts_of was)
        (record { begun = refl; logs = refl; committed = refl; refused = refl }) beside.counts.doubts)
        makes.doubts;
  };
}

-- ---- a delivery

not_refused : (phase : coord.Phase) → refused_by phase phase ≡ []
not_refused coord.Free = refl
not_refused (coord.Runs r) = refl
not_refused (coord.Ended outcome) = refl

module _ (old now : List Machine) (before after : List Posted → Type 0) (was book : Book) (n : ℕ) (from : Actor) (x : Message) (below : n < length old) (story : Story) (k : ℕ) (p : Posted)
    (posted : message_at story k ≡ Some p) (is_p : p ≡ record { from = from; to = Node n; message = x }) (beside : IsBeside old before was story) where
  machine : (c : Machine) × (slice_get old n ≡ Some c)
  machine = some_at old n below

  seat : (s : Seat) × (slice_get story.nodes n ≡ Some s)
  seat = some_at story.nodes n (let many : length old ≡ length story.nodes = beside.seats.many in omega (arith, below, many))

  runs : seat.0.actor ≡ Some machine.0.state
  runs = (beside.seats.each n machine.0 seat.0 machine.1 seat.1).0

  delivery : (how : How) → delivered story k how ≡ stepped story n seat.0.boot machine.0.state (heard_from machine.0.state from x)
  delivery how =
      ap (given story k how) posted
      ∙ ap (λ (q : Posted). to_receiver story k how q q.to) is_p
      ∙ ap (to_node story n (record { from = from; to = Node n; message = x })) seat.1
      ∙ ap (to_actor story n (record { from = from; to = Node n; message = x }) seat.0.boot) runs

  pub heard_beside : (how : How) → ((c : Machine) → slice_get old n ≡ Some c → Makes n c (heard_from c.state from x) old now before after was book)
      → IsBeside now after book (delivered story k how) × ((delivered story k how).sites ≡ story.sites)
  heard_beside how makes = (
    subst (IsBeside now after book) (sym (delivery how))
        (made_beside story n seat.0.boot machine.0 (heard_from machine.0.state from x) old now before after was book seat.0 machine.1 seat.1 refl (makes machine.0 machine.1) beside),
    ap (λ (s : Story). s.sites) (delivery how),
  )

-- what is heard of another than a memory node leaves all as it is
pub quiet_makes : (n : ℕ) (c : Machine) (old : List Machine) (before : List Posted → Type 0) (was : Book) → slice_get old n ≡ Some c → c.is_spent ≡ false
    → Makes n c (rules.quiet c.state) old old before before was was
quiet_makes n c old before was there live = record {
  live = live;
  nodes = sym (ap (slice_set old n) (same c live) ∙ set_same old n c there);
  posted = λ ps stands. subst before (sym (append-nil ps)) stands;
  history = refl;
  doubts = λ id. ap (λ (ids : List TxId). waits_without (doubts_of was) ids id) (sym (not_refused c.state.phase));
}
  where
    same : (d : Machine) → d.is_spent ≡ false → record { state = d.state; is_spent = false } ≡ d
    same d is = ap (λ (b : Bool). let m : Machine = record { state = d.state; is_spent = b } in m) (sym is)

-- ---- as the code has it

pub steps_length : (does : coord.State → Step) (n : ℕ) (old now : List Machine) (posts : List Outgoing) → Steps does n old now posts → n < length old → n < length now
steps_length does n old now posts made below =
    let c = some_at old n below in
    let machine : Machine = record { state = (does c.0.state).now; is_spent = false } in
    let same : length now ≡ length old = ap (length {A = Machine}) (made c.0 c.1).2 ∙ set_length old n machine in omega (arith, same, below)

refusal : (a b : coord.Phase) (ran : Option TxId) (st later : TxState) (r : Option TxId) → ran ≡ running_in st → st ≡ shown a → r ≡ refused_now ran later → later ≡ shown b
    → refused_by a b ≡ option_to_list r
refusal a b ran st later r is first refused second =
    refused_is a b
    ∙ ap (λ (t : TxState). option_to_list (refused_now (running_in t) (shown b))) (sym first)
    ∙ ap (λ (t : Option TxId). option_to_list (refused_now t (shown b))) (sym is)
    ∙ ap (λ (t : TxState). option_to_list (refused_now ran t)) (sym second)
    ∙ ap option_to_list (sym refused)

pub heard_makes : (does : coord.State → Step) (n : ℕ) (old now : List Machine) (posts : List Outgoing) (before after : List Posted → Type 0) (was book : Book) (ran : Option TxId) (st later : TxState)
    (r : Option TxId) → Steps does n old now posts → ((ps : List Posted) → before ps → after (ps ++ map (sent_by n) posts)) → ran ≡ running_in st
    → ((c : Machine) → slice_get old n ≡ Some c → st ≡ shown c.state.phase) → r ≡ refused_now ran later → ((c : Machine) → slice_get now n ≡ Some c → later ≡ shown c.state.phase)
    → history_of book ≡ history_of was → ((id : TxId) → doubts_of book id ≡ waits_without (doubts_of was) (option_to_list r) id)
    → (c : Machine) → slice_get old n ≡ Some c → Makes n c (does c.state) old now before after was book
heard_makes does n old now posts before after was book ran st later r made stands is first refused second history doubts c there = record {
  live = (made c there).0;
  nodes = (made c there).2;
  posted = λ ps before_. subst (λ (out : List Outgoing). after (ps ++ map (sent_by n) out)) (made c there).1 (stands ps before_);
  history = history;
  doubts = λ id. doubts id ∙ ap (λ (ids : List TxId). waits_without (doubts_of was) ids id)
      (sym (refusal c.state.phase (does c.state).now.phase ran st later r is (first c there) refused (second machine here)));
}
  where
    machine : Machine
    machine = record { state = (does c.state).now; is_spent = false }

    here : slice_get now n ≡ Some machine
    here = ap (λ (ms : List Machine). slice_get ms n) (made c there).2 ∙ get_same old n c machine there

heard_some : (c : coord.State) (from : Actor) (m : ℕ) (x : Message) → Some m ≡ memory_in from → heard_from c from x ≡ rules.heard c m x
heard_some c (Memory k) m x is = ap (λ (j : ℕ). rules.heard c j x) (sym (one_some m k is))
heard_some c (Node k) m x is = absurd cc
heard_some c Manager m x is = absurd cc

heard_none : (c : coord.State) (from : Actor) (x : Message) → None ≡ memory_in from → heard_from c from x ≡ rules.quiet c
heard_none c (Memory k) x is = absurd cc
heard_none c (Node k) x is = refl
heard_none c Manager x is = refl

-- what becomes of each story
abbrev pub Hears : List Machine → List Machine → (List Posted → Type 0) → (List Posted → Type 0) → Book → Book → ℕ → Actor → Message → How → Type 0
Hears old now before after was book n from x how = (story : Story) (k : ℕ) (p : Posted) → message_at story k ≡ Some p → p ≡ record { from = from; to = Node n; message = x }
    → IsBeside old before was story → IsBeside now after book (delivered story k how) × ((delivered story k how).sites ≡ story.sites)

pub hears : (old now : List Machine) (before after : List Posted → Type 0) (was book : Book) (n : ℕ) (from : Actor) (m : ℕ) (x : Message) → n < length old → Some m ≡ memory_in from
    → ((c : Machine) → slice_get old n ≡ Some c → Makes n c (rules.heard c.state m x) old now before after was book) → Hears old now before after was book n from x steps.Handled
hears old now before after was book n from m x below is makes story k p posted is_p beside =
    heard_beside old now before after was book n from x below story k p posted is_p beside steps.Handled
    (λ c there. subst (λ (s : Step). Makes n c s old now before after was book) (sym (heard_some c.state from m x is)) (makes c there))

pub ignores : (old : List Machine) (before : List Posted → Type 0) (was : Book) (n : ℕ) (from : Actor) (x : Message) → n < length old → None ≡ memory_in from
    → Hears old old before before was was n from x steps.Handled
ignores old before was n from x below is story k p posted is_p beside =
    let seat = some_at story.nodes n (let many : length old ≡ length story.nodes = beside.seats.many in omega (arith, below, many)) in
    heard_beside old old before before was was n from x below story k p posted is_p beside steps.Handled
    (λ c there. subst (λ (s : Step). Makes n c s old old before before was was) (sym (heard_none c.state from x is))
    (quiet_makes n c old before was there (beside.seats.each n c seat.0 there seat.1).1))
