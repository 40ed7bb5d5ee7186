-- That a node begins a minitransaction as in the story.
use Rattle.std.proofs.Common.{◌≡◌, ◌<◌, ℕ, Bool, true, false, cond, List, [], ◌∷◌, ◌++◌, map, length, Option, Some, None, refl, sym, ap, subst, ◌∙◌, arith, slice_set}
use Rattle.std.specs.List.{slice_get}
use Rattle.mini_tx.specs.declared.item.Item.{Item}
use Rattle.mini_tx.specs.declared.posted.Posted.{Posted}
use Rattle.mini_tx.specs.declared.tx_id.TxId.{TxId}
use Rattle.mini_tx.specs.Order.{is_same}
use Rattle.tx_coord.specs.declared.outgoing.Outgoing.{Outgoing}
use Rattle.tx_coord.specs.declared.tx_state.TxState.{TxState}
use Rattle.tx_coord.specs.Rules as rules
use Rattle.tx_coord.specs.Rules.{next_id, participants_of}
use Rattle.tx_coord.specs.State as coord
use Rattle.tx_coord.specs.State.{Machine, shown}
use Rattle.story_rules.specs.Story.{Seat, Story}
use Rattle.story_rules.specs.Steps.{has_write, begun_by, stepped, at_seat, at_actor, sent_by}
use Rattle.story_laws.specs.Acts.{IsTold}
use Rattle.story_laws.proofs.IdentifierLemmas.{get_same}
use Rattle.cluster_laws.specs.Doubts.{AreInDoubt, waits_begun}
use Rattle.cluster_laws.proofs.DoubtLemmas.{beginnings_are_in_doubt, doubts_are_alike}
use Rattle.cluster_parts.specs.Books.{doubts_of, history_of}
use Rattle.cluster_parts.specs.declared.book.Book.{Book}
use Rattle.cluster_seats.specs.Seats.{Steps}
use Rattle.cluster_steps.specs.Live.{AreSeated, IsBeside, running_in}
use Rattle.cluster_steps.proofs.NodeStep.{some_at, seat_set}

-- what is run now is what was begun
pub began : (n : ℕ) (items : List Item) (old now : List Machine) (posts : List Outgoing) (c : Machine) → Steps (λ (s : coord.State). rules.begun s items) n old now posts → slice_get old n ≡ Some c
    → (st : TxState) → ((d : Machine) → slice_get now n ≡ Some d → st ≡ shown d.state.phase) → running_in st ≡ Some (next_id c.state)
began n items old now posts c made there st told =
    let machine : Machine = record { state = (rules.begun c.state items).now; is_spent = false } in
    ap running_in (told machine (ap (λ (ms : List Machine). slice_get ms n) (made c there).2 ∙ get_same old n c machine there))

pub one_id : (x y : TxId) → ◌≡◌ {A = Option TxId} (Some x) (Some y) → x ≡ y
one_id x y is = cc

-- what becomes of each story
abbrev pub Begins : List Machine → List Machine → (List Posted → Type 0) → (List Posted → Type 0) → Book → Book → ℕ → List Item → Type 0
Begins old now before after was book n items = (size : ℕ) (story : Story) → IsTold size story → IsBeside old before was story
    → IsBeside now after book (begun_by story n items) × ((begun_by story n items).sites ≡ story.sites)

pub begins : (n : ℕ) (items : List Item) (old now : List Machine) (posts : List Outgoing) (before after : List Posted → Type 0) (was book : Book) (parts : List ℕ) (change : Bool) (own : Option TxId)
    → n < length old → Steps (λ (s : coord.State). rules.begun s items) n old now posts → change ≡ has_write items → parts ≡ participants_of items → ((c : Machine) → slice_get old n ≡ Some c → own ≡ Some (next_id c.state))
    → history_of book ≡ history_of was
    → ((id : TxId) → own ≡ Some id → (other : TxId) → doubts_of book other ≡ cond change (cond (is_same id other) (Some parts) (doubts_of was other)) (doubts_of was other))
    → ((ps : List Posted) → before ps → after (ps ++ map (sent_by n) posts)) → Begins old now before after was book n items
begins n items old now posts before after was book parts change own below made writes take id_is history doubts stands size story told beside = (
  subst (IsBeside now after book) (sym is) (record {
    seats = subst (λ (ms : List Machine). AreSeated ms (slice_set story.nodes n (record { boot = seat.0.boot; actor = Some (rules.begun c.0.state items).now }))) (sym (made c.0 c.1).2)
        (seat_set old story.nodes n c.0 (rules.begun c.0.state items).now seat.0 c.1 seat.1 beside.seats);
    posted = subst (λ (out : List Outgoing). after (story.posted ++ map (sent_by n) out)) (made c.0 c.1).1 (stands story.posted beside.posted);
    counts = record {
      committed = history ∙ beside.counts.committed;
      doubts = doubts_are_alike after_story (waits_begun (doubts_of was) (next_id c.0.state) items) (doubts_of book) (subst (λ (s : Story). AreInDoubt s (waits_begun (doubts_of was) (next_id c.0.state) items)) is in_doubt)
          (λ other. doubts (next_id c.0.state) (id_is c.0 c.1) other
          ∙ ap (λ (w : Bool). cond w (cond (is_same (next_id c.0.state) other) (Some parts) (doubts_of was other)) (doubts_of was other)) writes
          ∙ ap (λ (ms : List ℕ). cond (has_write items) (cond (is_same (next_id c.0.state) other) (Some ms) (doubts_of was other)) (doubts_of was other)) take);
    };
  }),
  ap (λ (s : Story). s.sites) is,
)
  where
    c : (k : Machine) × (slice_get old n ≡ Some k)
    c = some_at old n below

    seat : (s : Seat) × (slice_get story.nodes n ≡ Some s)
    seat = some_at story.nodes n (let many : length old ≡ length story.nodes = beside.seats.many in omega (arith, below, many))

    runs : seat.0.actor ≡ Some c.0.state
    runs = (beside.seats.each n c.0 seat.0 c.1 seat.1).0

    after_story : Story
    after_story = record (stepped story n seat.0.boot c.0.state (rules.begun c.0.state items)) { begun = story.begun ++ record { id = next_id c.0.state; items = items } ∷ [] }

    is : begun_by story n items ≡ after_story
    is = ap (at_seat story (λ boot d. record (stepped story n boot d (rules.begun d items)) { begun = story.begun ++ record { id = next_id d; items = items } ∷ [] })) seat.1
        ∙ ap (at_actor story (λ boot d. record (stepped story n boot d (rules.begun d items)) { begun = story.begun ++ record { id = next_id d; items = items } ∷ [] }) seat.0.boot) runs

    in_doubt : AreInDoubt (begun_by story n items) (waits_begun (doubts_of was) (next_id c.0.state) items)
    in_doubt = (beginnings_are_in_doubt size story n seat.0 c.0.state items (doubts_of was) told seat.1 runs beside.counts.doubts).1
