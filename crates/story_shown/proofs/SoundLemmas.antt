-- What is told of a cluster begins only what is typed and valid, so that a table fits it and it shows in the machine.
use Rattle.std.proofs.Common.{◌≡◌, inl, inr, ℕ, List, [], ◌∷◌, length, map, Option, Some, None, All, refl, sym, ap, subst, ◌∙◌, slice_get}
use Rattle.mini_tx.specs.declared.actor.Actor.{Actor}
use Rattle.mini_tx.specs.declared.actor.Actor.TheVariants.{Node, Memory, Manager}
use Rattle.mini_tx.specs.declared.item.Item.{Item}
use Rattle.mini_tx.specs.declared.posted.Posted.{Posted}
use Rattle.mini_tx.specs.FlatMemory.{Flat}
use Rattle.mini_tx.specs.Laws.{IsTypedId}
use Rattle.mini_tx.specs.Minitransactions.{refusal}
use Rattle.mem_rules.specs.State.{State}
use Rattle.tx_coord.specs.State as coord
use Rattle.tx_rules.specs.Mini.{In}
use Rattle.tx_rules.proofs.FaithfulLemmas.{in_either}
use Rattle.tx_actors.specs.Machine.{opened_at}
use Rattle.story_rules.specs.MemoryNodes.{opened}
use Rattle.story_rules.specs.Story.{Begun, Seat, Story}
use Rattle.story_rules.specs.Steps as story_steps
use Rattle.story_rules.specs.Steps.{How, message_at, at_node, at_seat, at_actor}
use Rattle.story_laws.specs.Acts.{Act, Begins, Delivers, GivesUp, Clears, Resends, Crashes, StartsNode, StartsMemory, after_act, told, MayHappen, MayAllHappen, fresh_story, IsTold}
use Rattle.story_shown.specs.History.{held_at_opening}
use Rattle.story_laws.proofs.ActLemmas.{act_grows, fresh_holds, told_stories_hold}
use Rattle.story_laws.proofs.IdentifierLemmas.{memory_same, site_same, fallen_same}
use Rattle.story_shown.specs.Fits.{AreTyped, setting_of}
use Rattle.story_shown.proofs.FitLemmas.{stories_fit}
use Rattle.story_shown.proofs.ShownLemmas.{IsFit}
use Rattle.story_shown.proofs.DeliverLemmas.{GoesOn}
use Rattle.story_shown.proofs.BeginLemmas.{begins}
use Rattle.story_shown.proofs.ActLemmas.{fit_told, told_goes, fresh_shown}

-- ---- what begins

pub record IsSound (size : ℕ) (story : Story) : Type 0 where
  pub typed : AreTyped story.begun
  pub valid : (b : Begun) → In b story.begun → refusal b.items (length story.opening) size ≡ None

-- nothing begins
quietly : (size : ℕ) (before now : Story) → now.begun ≡ before.begun → now.opening ≡ before.opening → IsSound size before → IsSound size now
quietly size before now begun opening sound = record {
  typed = λ b is. sound.typed b (subst (λ (bs : List Begun). In b bs) begun is);
  valid = λ b is. ap (λ (states : List State). refusal b.items (length states) size) opening ∙ sound.valid b (subst (λ (bs : List Begun). In b bs) begun is);
}

module _ (story : Story) where
  actor_begun : (n : ℕ) (p : Posted) (boot : ℕ) (a : Option coord.State) → (story_steps.to_actor story n p boot a).begun ≡ story.begun
  actor_begun n p boot None = refl
  actor_begun n p boot (Some c) = refl

  node_begun : (n : ℕ) (p : Posted) (o : Option Seat) → (story_steps.to_node story n p o).begun ≡ story.begun
  node_begun n p None = refl
  node_begun n p (Some seat) = actor_begun n p seat.boot seat.actor

  receiver_begun : (k : ℕ) (how : How) (p : Posted) (to : Actor) → (story_steps.to_receiver story k how p to).begun ≡ story.begun
  receiver_begun k how p (Memory m) = (memory_same story m k p how (slice_get story.sites m)).begun
  receiver_begun k how p (Node n) = node_begun n p (slice_get story.nodes n)
  receiver_begun k how p Manager = refl

  given_begun : (k : ℕ) (how : How) (o : Option Posted) → (story_steps.given story k how o).begun ≡ story.begun
  given_begun k how None = refl
  given_begun k how (Some p) = receiver_begun k how p p.to

  seat_begun : (does : ℕ → coord.State → Story) → ((boot : ℕ) (c : coord.State) → (does boot c).begun ≡ story.begun) → (o : Option Seat) → (at_seat story does o).begun ≡ story.begun
  seat_begun does same None = refl
  seat_begun does same (Some seat) = go seat.actor
    where
      go : (a : Option coord.State) → (at_actor story does seat.boot a).begun ≡ story.begun
      go None = refl
      go (Some c) = same seat.boot c

  left_begun : (n : ℕ) (o : Option Seat) → (story_steps.left story n o).begun ≡ story.begun
  left_begun n None = refl
  left_begun n (Some seat) = refl

  module _ (size : ℕ) (sound : IsSound size story) where
    begins_sound : (n boot : ℕ) (c : coord.State) (items : List Item) → MayHappen size story (Begins n items) → (seat : Seat) → slice_get story.nodes n ≡ Some seat
        → seat.actor ≡ Some c → IsSound size (begins story n boot c items)
    begins_sound n boot c items may seat there is =
        let happens = may seat c there is in
        record {
          typed = λ b h. elim (in_either b story.begun _ h) [
            | inl old ↦ sound.typed b old
            | inr last ↦ elim last [ inl one ↦ subst (λ (x : Begun). IsTypedId x.id) (sym one) happens.1 | inr none ↦ absurd none ]
          ];
          valid = λ b h. elim (in_either b story.begun _ h) [
            | inl old ↦ sound.valid b old
            | inr last ↦ elim last [ inl one ↦ ap (λ (x : Begun). refusal x.items (length story.opening) size) one ∙ happens.2 | inr none ↦ absurd none ]
          ];
        }

    begun_sound : (n : ℕ) (items : List Item) → MayHappen size story (Begins n items) → (o : Option Seat) → slice_get story.nodes n ≡ o
        → IsSound size (at_seat story (λ boot c. begins story n boot c items) o)
    begun_sound n items may None there = sound
    begun_sound n items may (Some seat) there = go seat.actor refl
      where
        go : (a : Option coord.State) → seat.actor ≡ a → IsSound size (at_actor story (λ boot c. begins story n boot c items) seat.boot a)
        go None is = sound
        go (Some c) is = begins_sound n seat.boot c items may seat there is

    pub sound_after : (act : Act) → MayHappen size story act → IsSound size (after_act story act)
    sound_after (Begins n items) may = begun_sound n items may (slice_get story.nodes n) refl
    sound_after (Delivers k how) may = quietly size story (after_act story (Delivers k how)) (given_begun k how (message_at story k)) (act_grows story (Delivers k how)).opening sound
    sound_after (GivesUp n) may = quietly size story (after_act story (GivesUp n)) (seat_begun _ (λ boot c. refl) (slice_get story.nodes n)) (act_grows story (GivesUp n)).opening sound
    sound_after (Clears n) may = quietly size story (after_act story (Clears n)) (seat_begun _ (λ boot c. refl) (slice_get story.nodes n)) (act_grows story (Clears n)).opening sound
    sound_after (Resends n) may = quietly size story (after_act story (Resends n)) (seat_begun _ (λ boot c. refl) (slice_get story.nodes n)) (act_grows story (Resends n)).opening sound
    sound_after (Crashes (Memory m)) may =
        quietly size story (after_act story (Crashes (Memory m))) (fallen_same story m (slice_get story.sites m)).begun (act_grows story (Crashes (Memory m))).opening sound
    sound_after (Crashes (Node n)) may = quietly size story (after_act story (Crashes (Node n))) (left_begun n (slice_get story.nodes n)) (act_grows story (Crashes (Node n))).opening sound
    sound_after (Crashes Manager) may = sound
    sound_after (StartsNode n boot) may = quietly size story (after_act story (StartsNode n boot)) refl (act_grows story (StartsNode n boot)).opening sound
    sound_after (StartsMemory m found) may =
        quietly size story (after_act story (StartsMemory m found)) (site_same story m found (slice_get story.sites m)).begun (act_grows story (StartsMemory m found)).opening sound

sound_told : (size : ℕ) (story : Story) (acts : List Act) → MayAllHappen size story acts → IsSound size story → IsSound size (told story acts)
sound_told size story [] may sound = sound
sound_told size story (act ∷ acts) may sound = sound_told size (after_act story act) acts may.1 (sound_after story size sound act may.0)

opening_told : (story : Story) (acts : List Act) → (told story acts).opening ≡ story.opening
opening_told story [] = refl
opening_told story (act ∷ acts) = opening_told (after_act story act) acts ∙ (act_grows story act).opening

held_fresh : (images : List (List ℕ)) (nodes : ℕ) → map (λ (s : State). s.image) (map (λ (image : List ℕ). opened nodes image) images) ≡ images
held_fresh [] nodes = refl
held_fresh (image ∷ images) nodes = ap (λ (l : List (List ℕ)). image ∷ l) (held_fresh images nodes)

-- ---- what is told shows

module _ (size : ℕ) (story : Story) (was : IsTold size story) where
  fresh : Story
  fresh = fresh_story was.images was.boots

  sound : IsSound size story
  unfolding fresh
  sound = subst (λ (z : Story). IsSound size z) (sym was.is) (sound_told size (fresh_story was.images was.boots) was.acts was.may (record { typed = λ b is. absurd is; valid = λ b is. absurd is }))

  pub told_fit : IsFit (setting_of story) size story
  told_fit = record { fits = stories_fit story sound.typed (told_stories_hold size story was).counted.distinct; typed = sound.typed; valid = sound.valid }

  pub held_sized : All (λ (image : List ℕ). length image ≡ size) (held_at_opening story)
  held_sized =
      let held : held_at_opening story ≡ was.images =
      ap (λ (states : List State). map (λ (s : State). s.image) states) (ap (λ (z : Story). z.opening) was.is ∙ opening_told (fresh_story was.images was.boots) was.acts)
      ∙ held_fresh was.images (length was.boots) in
      subst (λ (l : Flat). All (λ (image : List ℕ). length image ≡ size) l) (sym held) was.sized

  pub told_shown : GoesOn (setting_of story) size (opened_at (setting_of story) [] (setting_of story).start (λ c. 0)) story
  told_shown =
      let s = setting_of story in
      let start = fresh_story was.images was.boots in
      let fit : IsFit s size (told start was.acts) = subst (λ (z : Story). IsFit s size z) was.is told_fit in
      subst (λ (z : Story). GoesOn s size (opened_at s [] s.start (λ c. 0)) z) (sym was.is)
      (told_goes s size start was.acts (opened_at s [] s.start (λ c. 0)) [] refl was.may (fresh_holds was.images was.boots) fit
      (fresh_shown s size was.images was.boots was.sized (fit_told s size start was.acts fit)))
