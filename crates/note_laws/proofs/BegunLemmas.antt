-- A coordinator has begun no more minitransactions than messages were posted.
use Rattle.std.proofs.Common.{◌≡◌, inl, inr, ◌≤◌, ◌+◌, ℕ, Bool, true, false, List, [], ◌∷◌, ◌++◌, map, length, Option, Some, None, refl, sym, ap, subst, ◌∙◌, arith, slice_set, if◌then◌else◌}
use Rattle.std.specs.Prelude.{◌==◌, nat_lt}
use Rattle.std.specs.List.{slice_get}
use Rattle.std.proofs.lemmas.List.{length-append, length-map}
use Rattle.mini_tx.specs.declared.actor.Actor.{Actor}
use Rattle.mini_tx.specs.declared.actor.Actor.TheVariants.{Node, Memory, Manager}
use Rattle.mini_tx.specs.declared.item.Item.{Item}
use Rattle.mini_tx.specs.declared.posted.Posted.{Posted}
use Rattle.mini_tx.specs.Minitransactions.{memory_of, refusal}
use Rattle.tx_coord.specs.Rules as rules
use Rattle.tx_coord.specs.State as coord
use Rattle.story_rules.specs.Story.{Seat, Story}
use Rattle.story_rules.specs.Steps as steps
use Rattle.story_rules.specs.Steps.{How, message_at, heard_from, sent_by}
use Rattle.story_laws.specs.Acts.{Act, Begins, Delivers, GivesUp, Clears, Resends, Crashes, StartsNode, StartsMemory, MayHappen, MayAllHappen, after_act, told, fresh_story}
use Rattle.story_laws.specs.Growth.{Adds, Grows}
use Rattle.story_laws.proofs.ActLemmas.{act_grows}
use Rattle.story_laws.proofs.BeginningLemmas.{set_seat, empty_seat}
use Rattle.story_laws.proofs.IdentifierLemmas.{memory_same, site_same, fallen_same, from_same}
use Rattle.note_laws.specs.Outcomes.{BeginningsAreFew}

some_one : {A : Type 0} (x y : A) → ◌≡◌ {A = Option A} (Some x) (Some y) → x ≡ y
some_one x y is = cc

abbrev pub AreFewOn : List Seat → ℕ → Type 0
AreFewOn nodes count = (n : ℕ) (seat : Seat) (c : coord.State) → slice_get nodes n ≡ Some seat → seat.actor ≡ Some c → c.begun ≤ count

abbrev pub AreFew : Story → Type 0
AreFew story = AreFewOn story.nodes (length story.posted)

few_more : (nodes : List Seat) (few many : ℕ) → few ≤ many → AreFewOn nodes few → AreFewOn nodes many
few_more nodes few many more all n seat c there runs = let it : c.begun ≤ few = all n seat c there runs in omega (arith, it, more)

adds_length : (before now : List Posted) → Adds before now → length before ≤ length now
adds_length before now adds = let one : length now ≡ length (before ++ adds.0) = ap (λ (ps : List Posted). length ps) adds.1 in let two = length-append before adds.0 in omega (arith, one, two)

set_few : (nodes : List Seat) (few many n boot : ℕ) (a : Option coord.State) → few ≤ many → ((d : coord.State) → a ≡ Some d → d.begun ≤ many)
    → AreFewOn nodes few → AreFewOn (slice_set nodes n (record { boot = boot; actor = a })) many
set_few nodes few many n boot a more own all m seat c there runs =
    let new : Seat = record { boot = boot; actor = a } in
    elim (set_seat nodes n new m seat there) [
      | inl same ↦ own c (sym (ap (λ (s : Seat). s.actor) same) ∙ runs)
      | inr old ↦ few_more nodes few many more all m seat c old runs
    ]

same_nodes : (before now : Story) → now.nodes ≡ before.nodes → Adds before.posted now.posted → AreFew before → AreFew now
same_nodes before now nodes adds all n seat c there runs =
    let it : c.begun ≤ length before.posted = all n seat c (ap (λ (ss : List Seat). slice_get ss n) (sym nodes) ∙ there) runs in
    let more = adds_length before.posted now.posted adds in
    omega (arith, it, more)

-- what another coordinator has begun
this_one : (a : coord.State) (count : ℕ) → a.begun ≤ count → (d : coord.State) → ◌≡◌ {A = Option coord.State} (Some a) (Some d) → d.begun ≤ count
this_one a count is d same = subst (λ (s : coord.State). s.begun ≤ count) (some_one a d same) is

-- ---- participants

placed_some : (n : ℕ) (ms : List ℕ) → 1 ≤ length (rules.placed_in n ms)
placed_some n [] = omega arith
placed_some n (m ∷ ms) = go (nat_lt m n) (m == n)
  where
    go : (a b : Bool) → 1 ≤ length (if a then m ∷ rules.placed_in n ms else if b then m ∷ ms else n ∷ (m ∷ ms))
    go true b = omega arith
    go false true = omega arith
    go false false = omega arith

participants_some : (items : List Item) (memories size : ℕ) → refusal items memories size ≡ None → 1 ≤ length (rules.participants_of items)
participants_some [] memories size valid = absurd cc
participants_some (i ∷ items) memories size valid = placed_some (memory_of i) (rules.participants_of items)

posts_many : (n : ℕ) (c : coord.State) (items : List Item) (posted : List Posted)
    → length (posted ++ map (sent_by n) (rules.begun c items).posts) ≡ length posted + length (rules.participants_of items)
posts_many n c items posted =
    length-append posted (map (sent_by n) (rules.begun c items).posts)
    ∙ ap (λ (k : ℕ). length posted + k) (length-map (rules.begun c items).posts (sent_by n) ∙ length-map (rules.participants_of items) (rules.prepare (rules.next_id c) items))

-- ---- acts

at_few : (story : Story) (n : ℕ) (does : ℕ → coord.State → Story) → ((seat : Seat) (c : coord.State) → slice_get story.nodes n ≡ Some seat → seat.actor ≡ Some c → AreFew (does seat.boot c))
    → AreFew story → AreFew (steps.at_node story n does)
at_few story n does each all = go (slice_get story.nodes n) refl
  where
    one : (seat : Seat) → slice_get story.nodes n ≡ Some seat → (a : Option coord.State) → seat.actor ≡ a → AreFew (steps.at_actor story does seat.boot a)
    one seat there None is = all
    one seat there (Some c) is = each seat c there is

    go : (o : Option Seat) → slice_get story.nodes n ≡ o → AreFew (steps.at_seat story does o)
    go None there = all
    go (Some seat) there = one seat there seat.actor refl

to_node_few : (story : Story) (n : ℕ) (p : Posted) → AreFew story → (o : Option Seat) → slice_get story.nodes n ≡ o → AreFew (steps.to_node story n p o)
to_node_few story n p all None there = all
to_node_few story n p all (Some seat) there = go seat.actor refl
  where
    go : (a : Option coord.State) → seat.actor ≡ a → AreFew (steps.to_actor story n p seat.boot a)
    go None is = all
    go (Some c) is =
        let step = heard_from c p.from p.message in
        let more : length story.posted ≤ length (story.posted ++ map (sent_by n) step.posts) = let both = length-append story.posted (map (sent_by n) step.posts) in omega (arith, both) in
        let own : c.begun ≤ length story.posted = all n seat c there is in
        let same : step.now.begun ≡ c.begun = (from_same c p.from p.message).begun in
        set_few story.nodes (length story.posted) (length (story.posted ++ map (sent_by n) step.posts)) n seat.boot (Some step.now) more
        (this_one step.now (length (story.posted ++ map (sent_by n) step.posts)) (omega (arith, more, own, same))) all

receiver_few : (story : Story) (k : ℕ) (how : How) (p : Posted) → AreFew story → (to : Actor) → Grows story (steps.to_receiver story k how p to)
    → AreFew (steps.to_receiver story k how p to)
receiver_few story k how p all (Memory m) grows =
    same_nodes story (steps.to_memory story m k p how (slice_get story.sites m)) (memory_same story m k p how (slice_get story.sites m)).nodes grows.posted all
receiver_few story k how p all (Node n) grows = to_node_few story n p all (slice_get story.nodes n) refl
receiver_few story k how p all Manager grows = all

given_few : (story : Story) (k : ℕ) (how : How) → AreFew story → (o : Option Posted) → Grows story (steps.given story k how o) → AreFew (steps.given story k how o)
given_few story k how all None grows = all
given_few story k how all (Some p) grows = receiver_few story k how p all p.to grows

left_few : (story : Story) (n : ℕ) → AreFew story → (o : Option Seat) → AreFew (steps.left story n o)
left_few story n all None = all
left_few story n all (Some seat) = set_few story.nodes (length story.posted) (length story.posted) n seat.boot None (omega arith) (λ d is. absurd cc) all

crashed_few : (story : Story) (who : Actor) → Grows story (steps.crashed story who) → AreFew story → AreFew (steps.crashed story who)
crashed_few story (Memory m) grows all = same_nodes story (steps.fallen story m (slice_get story.sites m)) (fallen_same story m (slice_get story.sites m)).nodes grows.posted all
crashed_few story (Node n) grows all = left_few story n all (slice_get story.nodes n)
crashed_few story Manager grows all = all

act_few : (size : ℕ) (story : Story) (act : Act) → MayHappen size story act → AreFew story → AreFew (after_act story act)
act_few size story (Begins n items) may all = at_few story n _ (λ seat c there is.
    let own : c.begun ≤ length story.posted = all n seat c there is in
    let some = participants_some items (length story.opening) size (may seat c there is).2 in
    let many = posts_many n c items story.posted in
    set_few story.nodes (length story.posted) (length (story.posted ++ map (sent_by n) (rules.begun c items).posts)) n seat.boot (Some (rules.begun c items).now)
    (omega (arith, many))
    (this_one (rules.begun c items).now (length (story.posted ++ map (sent_by n) (rules.begun c items).posts)) (omega (arith, own, some, many))) all) all
act_few size story (Delivers k how) may all = given_few story k how all (message_at story k) (act_grows story (Delivers k how))
act_few size story (GivesUp n) may all = at_few story n _ (λ seat c there is.
    set_few story.nodes (length story.posted) (length story.posted) n seat.boot (Some (rules.given_up c)) (omega arith)
    (this_one (rules.given_up c) (length story.posted) (all n seat c there is)) all) all
act_few size story (Clears n) may all = at_few story n _ (λ seat c there is.
    set_few story.nodes (length story.posted) (length story.posted) n seat.boot (Some (rules.cleared c)) (omega arith)
    (this_one (rules.cleared c) (length story.posted) (all n seat c there is)) all) all
act_few size story (Resends n) may all = at_few story n _ (λ seat c there is.
    few_more story.nodes (length story.posted) (length (story.posted ++ map (sent_by n) (rules.resent c)))
    (let both = length-append story.posted (map (sent_by n) (rules.resent c)) in omega (arith, both)) all) all
act_few size story (Crashes who) may all = crashed_few story who (act_grows story (Crashes who)) all
act_few size story (StartsNode n boot) may all =
    set_few story.nodes (length story.posted) (length story.posted) n boot (Some (coord.started n boot)) (omega arith)
    (this_one (coord.started n boot) (length story.posted) (omega arith)) all
act_few size story (StartsMemory m found) may all =
    same_nodes story (steps.from_site story m found (slice_get story.sites m)) (site_same story m found (slice_get story.sites m)).nodes (act_grows story (StartsMemory m found)).posted all

told_few : (size : ℕ) (story : Story) (acts : List Act) → MayAllHappen size story acts → AreFew story → AreFew (told story acts)
told_few size story [] may all = all
told_few size story (act ∷ acts) may all = told_few size (after_act story act) acts may.1 (act_few size story act may.0 all)

fresh_few : (images : List (List ℕ)) (boots : List ℕ) → AreFew (fresh_story images boots)
fresh_few images boots n seat c there runs = absurd (let none = empty_seat boots n seat there in let e : ◌≡◌ {A = Option coord.State} None (Some c) = sym none ∙ runs in cc)

pub beginnings_are_few : BeginningsAreFew
beginnings_are_few size story n seat c was there runs =
    subst (λ (s : Story). AreFew s) (sym was.is) (told_few size (fresh_story was.images was.boots) was.acts was.may (fresh_few was.images was.boots)) n seat c there runs
