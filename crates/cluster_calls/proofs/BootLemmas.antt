-- What happens without a start leaves each node its boot number.
use Rattle.std.proofs.Common.{◌≡◌, ◌<◌, ◌^◌, ℕ, zero, suc, List, [], ◌∷◌, ◌++◌, map, length, Option, Some, None, refl, sym, ap, subst, ◌∙◌, slice_set}
use Rattle.std.specs.List.{slice_get}
use Rattle.std.proofs.lemmas.List.{length-map}
use Rattle.mini_tx.specs.declared.actor.Actor.{Actor}
use Rattle.mini_tx.specs.declared.actor.Actor.TheVariants.{Node, Memory, Manager}
use Rattle.mini_tx.specs.declared.item.Item.{Item}
use Rattle.mini_tx.specs.declared.posted.Posted.{Posted}
use Rattle.tx_coord.specs.Rules as rules
use Rattle.tx_coord.specs.State as coord
use Rattle.story_rules.specs.Story.{Seat, Story}
use Rattle.story_rules.specs.Steps.{How, message_at, delivered, given, to_receiver, to_node, to_actor, stepped, heard_from, at_node, at_seat, at_actor, with_actor, begun_by, given_up, cleared, resent, sent_by}
use Rattle.story_laws.proofs.IdentifierLemmas.{memory_same}

abbrev pub boots_of : Story → List ℕ
boots_of story = map (λ (s : Seat). s.boot) story.nodes

one_some : {A : Type 0} (x y : A) → ◌≡◌ {A = Option A} (Some x) (Some y) → x ≡ y
one_some x y is = cc

set_boot : (xs : List Seat) (n : ℕ) (seat : Seat) (a : Option coord.State) → slice_get xs n ≡ Some seat
    → map (λ (s : Seat). s.boot) (slice_set xs n (record { boot = seat.boot; actor = a })) ≡ map (λ (s : Seat). s.boot) xs
set_boot [] n seat a is = refl
set_boot (x ∷ xs) zero seat a is = ap (λ (s : Seat). s.boot ∷ map (λ (t : Seat). t.boot) xs) (sym (one_some x seat is))
set_boot (x ∷ xs) (suc n) seat a is = ap (λ (bs : List ℕ). x.boot ∷ bs) (set_boot xs n seat a is)

at_node_boots : (story : Story) (n : ℕ) (does : ℕ → coord.State → Story)
    → ((seat : Seat) (c : coord.State) → slice_get story.nodes n ≡ Some seat → boots_of (does seat.boot c) ≡ boots_of story) → boots_of (at_node story n does) ≡ boots_of story
at_node_boots story n does each = go (slice_get story.nodes n) refl
  where
    one : (seat : Seat) (a : Option coord.State) → slice_get story.nodes n ≡ Some seat → boots_of (at_actor story does seat.boot a) ≡ boots_of story
    one seat None is = refl
    one seat (Some c) is = each seat c is

    go : (o : Option Seat) → slice_get story.nodes n ≡ o → boots_of (at_seat story does o) ≡ boots_of story
    go None is = refl
    go (Some seat) is = one seat seat.actor is

pub begun_boots : (story : Story) (n : ℕ) (items : List Item) → boots_of (begun_by story n items) ≡ boots_of story
begun_boots story n items = at_node_boots story n (λ boot c. record (stepped story n boot c (rules.begun c items)) { begun = story.begun ++ record { id = rules.next_id c; items = items } ∷ [] })
    (λ seat c is. set_boot story.nodes n seat (Some (rules.begun c items).now) is)

pub given_up_boots : (story : Story) (n : ℕ) → boots_of (given_up story n) ≡ boots_of story
given_up_boots story n = at_node_boots story n (λ boot c. with_actor story n boot (Some (rules.given_up c)))
    (λ seat c is. set_boot story.nodes n seat (Some (rules.given_up c)) is)

pub cleared_boots : (story : Story) (n : ℕ) → boots_of (cleared story n) ≡ boots_of story
cleared_boots story n = at_node_boots story n (λ boot c. with_actor story n boot (Some (rules.cleared c)))
    (λ seat c is. set_boot story.nodes n seat (Some (rules.cleared c)) is)

pub resent_boots : (story : Story) (n : ℕ) → boots_of (resent story n) ≡ boots_of story
resent_boots story n = at_node_boots story n (λ boot c. record story { posted = story.posted ++ map (sent_by n) (rules.resent c) }) (λ seat c is. refl)

pub delivered_boots : (story : Story) (k : ℕ) (how : How) → boots_of (delivered story k how) ≡ boots_of story
delivered_boots story k how = go (message_at story k)
  where
    node : (n : ℕ) (p : Posted) (o : Option Seat) → slice_get story.nodes n ≡ o → boots_of (to_node story n p o) ≡ boots_of story
    node n p None is = refl
    node n p (Some seat) is = actor seat.actor
      where
        actor : (a : Option coord.State) → boots_of (to_actor story n p seat.boot a) ≡ boots_of story
        actor None = refl
        actor (Some c) = set_boot story.nodes n seat (Some (heard_from c p.from p.message).now) is

    receiver : (p : Posted) (to : Actor) → boots_of (to_receiver story k how p to) ≡ boots_of story
    receiver p (Memory m) = ap (map (λ (s : Seat). s.boot)) (memory_same story m k p how (slice_get story.sites m)).nodes
    receiver p (Node n) = node n p (slice_get story.nodes n) refl
    receiver p Manager = refl

    go : (o : Option Posted) → boots_of (given story k how o) ≡ boots_of story
    go None = refl
    go (Some p) = receiver p p.to

-- ---- so there are as many, and their boot numbers are within their type

pub same_many : (before now : Story) → boots_of now ≡ boots_of before → length now.nodes ≡ length before.nodes
same_many before now is = sym (length-map now.nodes (λ (s : Seat). s.boot)) ∙ ap (length {A = ℕ}) is ∙ length-map before.nodes (λ (s : Seat). s.boot)

got_map : {A B : Type 0} (f : A → B) (xs : List A) (n : ℕ) (x : A) → slice_get xs n ≡ Some x → slice_get (map f xs) n ≡ Some (f x)
got_map f [] n x is = absurd cc
got_map f (y ∷ xs) zero x is = ap (λ (z : _). Some (f z)) (one_some y x is)
got_map f (y ∷ xs) (suc n) x is = got_map f xs n x is

map_got : {A B : Type 0} (f : A → B) (xs : List A) (n : ℕ) (y : B) → slice_get (map f xs) n ≡ Some y → (x : A) × (slice_get xs n ≡ Some x) × (f x ≡ y)
map_got f [] n y is = absurd cc
map_got f (x ∷ xs) zero y is = (x, refl, one_some (f x) y is)
map_got f (x ∷ xs) (suc n) y is = map_got f xs n y is

pub same_within : (before now : Story) → boots_of now ≡ boots_of before → ((n : ℕ) (seat : Seat) → slice_get before.nodes n ≡ Some seat → seat.boot < 2 ^ 64)
    → (n : ℕ) (seat : Seat) → slice_get now.nodes n ≡ Some seat → seat.boot < 2 ^ 64
same_within before now is within n seat there =
    let old = map_got (λ (s : Seat). s.boot) before.nodes n seat.boot (ap (λ (bs : List ℕ). slice_get bs n) (sym is) ∙ got_map (λ (s : Seat). s.boot) now.nodes n seat there) in
    subst (λ (b : ℕ). b < 2 ^ 64) old.2 (within n old.0 old.1)
