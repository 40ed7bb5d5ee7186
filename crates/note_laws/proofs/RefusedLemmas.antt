-- Where a coordinator tells Refused, what it began last is among the refused identifiers.
use Rattle.std.proofs.Common.{◌≡◌, inl, inr, ℕ, Bool, true, false, List, [], ◌∷◌, ◌++◌, length, Option, Some, None, refl, sym, ap, subst, ◌∙◌, slice_set, if◌then◌else◌}
use Rattle.std.specs.Prelude.{⊤, ◌==◌}
use Rattle.std.specs.List.{slice_get}
use Rattle.mini_tx.specs.declared.actor.Actor.{Actor}
use Rattle.mini_tx.specs.declared.actor.Actor.TheVariants.{Node, Memory, Manager}
use Rattle.mini_tx.specs.declared.message.Message.{Message}
use Rattle.mini_tx.specs.declared.message.Message.TheVariants as message
use Rattle.mini_tx.specs.declared.posted.Posted.{Posted}
use Rattle.mini_tx.specs.declared.tx_id.TxId.{TxId}
use Rattle.mini_tx.specs.declared.vote.Vote.{Vote}
use Rattle.mini_tx.specs.declared.vote.Vote.TheVariants.{Granted, Mismatch, Locked, Forced, Held}
use Rattle.tx_coord.specs.declared.outcome.Outcome.TheVariants.{Committed, Refused}
use Rattle.tx_coord.specs.declared.progress.Progress.TheVariants.{Waits}
use Rattle.tx_coord.specs.declared.running.Running.{Running}
use Rattle.tx_coord.specs.Rules as rules
use Rattle.tx_coord.specs.State as coord
use Rattle.tx_rules.specs.Mini.{In}
use Rattle.story_rules.specs.Story.{Seat, Story}
use Rattle.story_rules.specs.Steps as steps
use Rattle.story_rules.specs.Steps.{How, message_at, refused_by, heard_from}
use Rattle.story_laws.specs.Acts.{Act, Begins, Delivers, GivesUp, Clears, Resends, Crashes, StartsNode, StartsMemory, after_act, told, fresh_story}
use Rattle.story_laws.specs.Growth.{Adds, Grows}
use Rattle.story_laws.proofs.ActLemmas.{act_grows}
use Rattle.story_laws.proofs.BeginningLemmas.{set_seat, empty_seat}
use Rattle.story_laws.proofs.IdentifierLemmas.{memory_same, site_same, fallen_same}
use Rattle.story_shown.specs.History.{last_id}
use Rattle.note_laws.specs.Outcomes.{RefusedAreNoted}

in_front : {A : Type 0} (x : A) (xs ys : List A) → In x xs → In x (xs ++ ys)
in_front x [] ys is = absurd is
in_front x (y ∷ xs) ys is = elim is [ inl same ↦ inl same | inr there ↦ inr (in_front x xs ys there) ]

in_behind : {A : Type 0} (x : A) (xs ys : List A) → In x ys → In x (xs ++ ys)
in_behind x [] ys is = is
in_behind x (y ∷ xs) ys is = inr (in_behind x xs ys is)

some_one : {A : Type 0} (x y : A) → ◌≡◌ {A = Option A} (Some x) (Some y) → x ≡ y
some_one x y is = cc

-- what runs is what was begun last, and what ended as Refused is refused
abbrev pub IsNotedAt : List TxId → coord.State → coord.Phase → Type 0
IsNotedAt refused c coord.Free = ⊤
IsNotedAt refused c (coord.Runs r) = r.id ≡ last_id c
IsNotedAt refused c (coord.Ended (Committed reads)) = ⊤
IsNotedAt refused c (coord.Ended (Refused m v)) = In (last_id c) refused

abbrev pub AreNotedOn : List Seat → List TxId → Type 0
AreNotedOn nodes refused = (n : ℕ) (seat : Seat) (c : coord.State) → slice_get nodes n ≡ Some seat → seat.actor ≡ Some c → IsNotedAt refused c c.phase

abbrev pub AreNoted : Story → Type 0
AreNoted story = AreNotedOn story.nodes story.refused

noted_more : (refused more : List TxId) (c d : coord.State) (ph : coord.Phase) → last_id d ≡ last_id c → IsNotedAt refused c ph → IsNotedAt (refused ++ more) d ph
noted_more refused more c d coord.Free same is = tt
noted_more refused more c d (coord.Runs r) same is = is ∙ sym same
noted_more refused more c d (coord.Ended (Committed reads)) same is = tt
noted_more refused more c d (coord.Ended (Refused m v)) same is = subst (λ (id : TxId). In id (refused ++ more)) (sym same) (in_front (last_id c) refused more is)

-- ---- what is heard

module _ (refused : List TxId) (c : coord.State) (is : IsNotedAt refused c c.phase) where
  -- a step of the coordinator leaves it so
  abbrev pub Leaves : coord.Phase → rules.Step → Type 0
  Leaves was step = IsNotedAt (refused ++ refused_by was step.now.phase) step.now step.now.phase

  quiet_leaves : (was : coord.Phase) → Leaves was (rules.quiet c)
  quiet_leaves was = noted_more refused (refused_by was c.phase) c c c.phase refl is

  module _ (r : Running) (own : r.id ≡ last_id c) where
    ends_refused : (commit : Bool) (m : ℕ) (v : Vote) → Leaves (coord.Runs r) (rules.after_vote c (rules.ended_by r commit (Refused m v)))
    ends_refused commit m v = in_behind (last_id c) refused (r.id ∷ []) (inl (sym own))

    granted_leaves : (m : ℕ) (reads : List (List ℕ)) → Leaves (coord.Runs r) (rules.after_vote c (rules.granted (rules.with_grant r m reads)))
    granted_leaves m reads = go (length (rules.missing (rules.with_grant r m reads)) == 0)
      where
        go : (b : Bool) → Leaves (coord.Runs r) (rules.after_vote c (if b then rules.ended_by (rules.with_grant r m reads) true (Committed (rules.gathered (rules.with_grant r m reads).grants r.mini)) else Waits (rules.with_grant r m reads)))
        go true = tt
        go false = own

    counted_leaves : (m : ℕ) (v : Vote) → Leaves (coord.Runs r) (rules.after_vote c (rules.counted r m v))
    counted_leaves m (Granted reads) = granted_leaves m reads
    counted_leaves m (Mismatch place kept) = ends_refused false m (Mismatch place kept)
    counted_leaves m (Locked holder) = ends_refused false m (Locked holder)
    counted_leaves m (Forced floor) = ends_refused false m (Forced floor)
    counted_leaves m (Held cut) = ends_refused false m (Held cut)

  vote_leaves : (m : ℕ) (id : TxId) (v : Vote) (ph : coord.Phase) → c.phase ≡ ph → Leaves ph (rules.on_vote c m id v ph)
  vote_leaves m id v coord.Free at = quiet_leaves coord.Free
  vote_leaves m id v (coord.Runs r) at = go (rules.counts r m id v)
    where
      own : r.id ≡ last_id c
      own = subst (λ (ph : coord.Phase). IsNotedAt refused c ph) at is

      go : (b : Bool) → Leaves (coord.Runs r) (if b then rules.after_vote c (rules.counted r m v) else rules.quiet c)
      go true = counted_leaves r own m v
      go false = quiet_leaves (coord.Runs r)
  vote_leaves m id v (coord.Ended outcome) at = quiet_leaves (coord.Ended outcome)

  done_leaves : (m : ℕ) (id : TxId) → Leaves c.phase (rules.on_done c m id)
  done_leaves m id = noted_more refused (refused_by c.phase c.phase) c (rules.on_done c m id).now c.phase refl is

  heard_leaves : (m : ℕ) (x : Message) → Leaves c.phase (rules.heard c m x)
  heard_leaves m (message.Voted id v) = vote_leaves m id v c.phase refl
  heard_leaves m (message.Done id) = done_leaves m id
  heard_leaves m (message.Prepare id participants items) = quiet_leaves c.phase
  heard_leaves m (message.Decide id commit) = quiet_leaves c.phase
  heard_leaves m (message.Forget id) = quiet_leaves c.phase
  heard_leaves m message.List = quiet_leaves c.phase
  heard_leaves m (message.Kept ids cut) = quiet_leaves c.phase
  heard_leaves m (message.Ask id) = quiet_leaves c.phase
  heard_leaves m (message.Answer id ok) = quiet_leaves c.phase
  heard_leaves m (message.Hold cut) = quiet_leaves c.phase
  heard_leaves m (message.Held cut answer) = quiet_leaves c.phase
  heard_leaves m (message.Release cut) = quiet_leaves c.phase
  heard_leaves m (message.Drop cut) = quiet_leaves c.phase
  heard_leaves m (message.ReadCut cut place) = quiet_leaves c.phase
  heard_leaves m (message.Piece cut place bytes) = quiet_leaves c.phase

  pub from_leaves : (from : Actor) (x : Message) → Leaves c.phase (heard_from c from x)
  from_leaves (Memory m) x = heard_leaves m x
  from_leaves (Node n) x = quiet_leaves c.phase
  from_leaves Manager x = quiet_leaves c.phase

-- ---- seats

set_noted : (nodes : List Seat) (refused more : List TxId) (n boot : ℕ) (a : Option coord.State) → ((d : coord.State) → a ≡ Some d → IsNotedAt (refused ++ more) d d.phase)
    → AreNotedOn nodes refused → AreNotedOn (slice_set nodes n (record { boot = boot; actor = a })) (refused ++ more)
set_noted nodes refused more n boot a own all m seat c there runs =
    let new : Seat = record { boot = boot; actor = a } in
    elim (set_seat nodes n new m seat there) [
      | inl same ↦ own c (sym (ap (λ (s : Seat). s.actor) same) ∙ runs)
      | inr old ↦ noted_more refused more c c c.phase refl (all m seat c old runs)
    ]

-- the same with no refusal more
set_quiet : (nodes : List Seat) (refused : List TxId) (n boot : ℕ) (a : Option coord.State) → ((d : coord.State) → a ≡ Some d → IsNotedAt refused d d.phase)
    → AreNotedOn nodes refused → AreNotedOn (slice_set nodes n (record { boot = boot; actor = a })) refused
set_quiet nodes refused n boot a own all m seat c there runs =
    let new : Seat = record { boot = boot; actor = a } in
    elim (set_seat nodes n new m seat there) [
      | inl same ↦ own c (sym (ap (λ (s : Seat). s.actor) same) ∙ runs)
      | inr old ↦ all m seat c old runs
    ]

-- the same seats, and what was refused is
same_nodes : (before now : Story) → now.nodes ≡ before.nodes → Adds before.refused now.refused → AreNoted before → AreNoted now
same_nodes before now nodes adds all n seat c there runs =
    subst (λ (ids : List TxId). IsNotedAt ids c c.phase) (sym adds.1)
    (noted_more before.refused adds.0 c c c.phase refl (all n seat c (ap (λ (ss : List Seat). slice_get ss n) (sym nodes) ∙ there) runs))

-- ---- acts

this_one : (a : coord.State) (P : coord.State → Type 0) → P a → (d : coord.State) → ◌≡◌ {A = Option coord.State} (Some a) (Some d) → P d
this_one a P is d same = subst P (some_one a d same) is

at_noted : (story : Story) (n : ℕ) (does : ℕ → coord.State → Story) → ((seat : Seat) (c : coord.State) → slice_get story.nodes n ≡ Some seat → seat.actor ≡ Some c → AreNoted (does seat.boot c))
    → AreNoted story → AreNoted (steps.at_node story n does)
at_noted story n does each all = go (slice_get story.nodes n) refl
  where
    one : (seat : Seat) → slice_get story.nodes n ≡ Some seat → (a : Option coord.State) → seat.actor ≡ a → AreNoted (steps.at_actor story does seat.boot a)
    one seat there None is = all
    one seat there (Some c) is = each seat c there is

    go : (o : Option Seat) → slice_get story.nodes n ≡ o → AreNoted (steps.at_seat story does o)
    go None there = all
    go (Some seat) there = one seat there seat.actor refl

to_node_noted : (story : Story) (n : ℕ) (p : Posted) → AreNoted story → (o : Option Seat) → slice_get story.nodes n ≡ o → AreNoted (steps.to_node story n p o)
to_node_noted story n p all None there = all
to_node_noted story n p all (Some seat) there = go seat.actor refl
  where
    go : (a : Option coord.State) → seat.actor ≡ a → AreNoted (steps.to_actor story n p seat.boot a)
    go None is = all
    go (Some c) is =
        let step = heard_from c p.from p.message in
        set_noted story.nodes story.refused (refused_by c.phase step.now.phase) n seat.boot (Some step.now)
        (this_one step.now (λ (d : coord.State). IsNotedAt (story.refused ++ refused_by c.phase step.now.phase) d d.phase)
        (from_leaves story.refused c (all n seat c there is) p.from p.message))
        all

receiver_noted : (story : Story) (k : ℕ) (how : How) (p : Posted) → AreNoted story → (to : Actor) → Grows story (steps.to_receiver story k how p to)
    → AreNoted (steps.to_receiver story k how p to)
receiver_noted story k how p all (Memory m) grows =
    same_nodes story (steps.to_memory story m k p how (slice_get story.sites m)) (memory_same story m k p how (slice_get story.sites m)).nodes grows.refused all
receiver_noted story k how p all (Node n) grows = to_node_noted story n p all (slice_get story.nodes n) refl
receiver_noted story k how p all Manager grows = all

given_noted : (story : Story) (k : ℕ) (how : How) → AreNoted story → (o : Option Posted) → Grows story (steps.given story k how o) → AreNoted (steps.given story k how o)
given_noted story k how all None grows = all
given_noted story k how all (Some p) grows = receiver_noted story k how p all p.to grows

left_noted : (story : Story) (n : ℕ) → AreNoted story → (o : Option Seat) → AreNoted (steps.left story n o)
left_noted story n all None = all
left_noted story n all (Some seat) = set_quiet story.nodes story.refused n seat.boot None (λ d is. absurd cc) all

crashed_noted : (story : Story) (who : Actor) → Grows story (steps.crashed story who) → AreNoted story → AreNoted (steps.crashed story who)
crashed_noted story (Memory m) grows all = same_nodes story (steps.fallen story m (slice_get story.sites m)) (fallen_same story m (slice_get story.sites m)).nodes grows.refused all
crashed_noted story (Node n) grows all = left_noted story n all (slice_get story.nodes n)
crashed_noted story Manager grows all = all

given_up_phase : (refused : List TxId) (c : coord.State) (ph : coord.Phase) → IsNotedAt refused c ph → IsNotedAt refused (rules.given_up c) (rules.without_running ph)
given_up_phase refused c coord.Free is = tt
given_up_phase refused c (coord.Runs r) is = tt
given_up_phase refused c (coord.Ended (Committed reads)) is = tt
given_up_phase refused c (coord.Ended (Refused m v)) is = is

cleared_phase : (refused : List TxId) (c : coord.State) (ph : coord.Phase) → IsNotedAt refused c ph → IsNotedAt refused (rules.cleared c) (rules.without_outcome ph)
cleared_phase refused c coord.Free is = tt
cleared_phase refused c (coord.Runs r) is = is
cleared_phase refused c (coord.Ended (Committed reads)) is = tt
cleared_phase refused c (coord.Ended (Refused m v)) is = tt

act_noted : (story : Story) (act : Act) → AreNoted story → AreNoted (after_act story act)
act_noted story (Begins n items) all = at_noted story n _ (λ seat c there is.
    let step = rules.begun c items in
    set_noted story.nodes story.refused (refused_by c.phase step.now.phase) n seat.boot (Some step.now)
    (this_one step.now (λ (d : coord.State). IsNotedAt (story.refused ++ refused_by c.phase step.now.phase) d d.phase) refl) all) all
act_noted story (Delivers k how) all = given_noted story k how all (message_at story k) (act_grows story (Delivers k how))
act_noted story (GivesUp n) all = at_noted story n _ (λ seat c there is.
    set_quiet story.nodes story.refused n seat.boot (Some (rules.given_up c))
    (this_one (rules.given_up c) (λ (d : coord.State). IsNotedAt story.refused d d.phase) (given_up_phase story.refused c c.phase (all n seat c there is))) all) all
act_noted story (Clears n) all = at_noted story n _ (λ seat c there is.
    set_quiet story.nodes story.refused n seat.boot (Some (rules.cleared c))
    (this_one (rules.cleared c) (λ (d : coord.State). IsNotedAt story.refused d d.phase) (cleared_phase story.refused c c.phase (all n seat c there is))) all) all
act_noted story (Resends n) all = at_noted story n _ (λ seat c there is. all) all
act_noted story (Crashes who) all = crashed_noted story who (act_grows story (Crashes who)) all
act_noted story (StartsNode n boot) all =
    set_quiet story.nodes story.refused n boot (Some (coord.started n boot)) (this_one (coord.started n boot) (λ (d : coord.State). IsNotedAt story.refused d d.phase) tt) all
act_noted story (StartsMemory m found) all =
    same_nodes story (steps.from_site story m found (slice_get story.sites m)) (site_same story m found (slice_get story.sites m)).nodes (act_grows story (StartsMemory m found)).refused all

told_noted : (story : Story) (acts : List Act) → AreNoted story → AreNoted (told story acts)
told_noted story [] all = all
told_noted story (act ∷ acts) all = told_noted (after_act story act) acts (act_noted story act all)

fresh_noted : (images : List (List ℕ)) (boots : List ℕ) → AreNoted (fresh_story images boots)
fresh_noted images boots n seat c there runs = absurd (let none = empty_seat boots n seat there in let e : ◌≡◌ {A = Option coord.State} None (Some c) = sym none ∙ runs in cc)

pub refused_are_noted : RefusedAreNoted
refused_are_noted size story n seat c m v was there runs ended =
    subst (λ (ph : coord.Phase). IsNotedAt story.refused c ph) ended
    (subst (λ (s : Story). AreNoted s) (sym was.is) (told_noted (fresh_story was.images was.boots) was.acts (fresh_noted was.images was.boots)) n seat c there runs)
