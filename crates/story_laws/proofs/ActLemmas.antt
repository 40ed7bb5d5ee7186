-- What is told of a cluster goes on, and all laws hold of it.
use Rattle.std.proofs.Common.{◌≡◌, ℕ, zero, suc, List, [], ◌∷◌, ◌++◌, map, length, replicate, Option, None, refl, sym, ap, subst, ◌∙◌, slice_index_or}
use Rattle.mem_rules.specs.declared.floor.Floor.{Floor}
use Rattle.mem_rules.specs.State.{State}
use Rattle.story_rules.specs.MemoryNodes.{opened}
use Rattle.story_rules.specs.Story.{Story}
use Rattle.story_laws.specs.Acts.{Act, Begins, Delivers, GivesUp, Clears, Resends, Crashes, StartsNode, StartsMemory, after_act, told, MayHappen, MayAllHappen, fresh_story, StoriesGoOn, Holds, ToldStoriesHold}
use Rattle.story_laws.specs.Growth.{Grows}
use Rattle.story_laws.specs.Votes.{AreFresh}
use Rattle.story_laws.proofs.BeginningLemmas.{in_map}
use Rattle.story_laws.proofs.CastLemmas.{casts_are_the_entries}
use Rattle.story_laws.proofs.CompleteLemmas.{granted_are_changes}
use Rattle.story_laws.proofs.GrowthLemmas.{steps_only_add, changes_are_granted}
use Rattle.story_laws.proofs.IdentifierLemmas.{identifiers_begun_once}
use Rattle.story_laws.proofs.VoteLemmas.{votes_have_entries}

-- ---- one act more

told_more : (story : Story) (acts : List Act) (act : Act) → told story (acts ++ act ∷ []) ≡ after_act (told story acts) act
told_more story [] act = refl
told_more story (a ∷ acts) act = told_more (after_act story a) acts act

may_more : (size : ℕ) (story : Story) (acts : List Act) (act : Act) → MayAllHappen size story acts → MayHappen size (told story acts) act → MayAllHappen size story (acts ++ act ∷ [])
may_more size story [] act all may = (may, tt)
may_more size story (a ∷ acts) act all may = (all.0, may_more size (after_act story a) acts act all.1 may)

pub stories_go_on : StoriesGoOn
stories_go_on size story act was may = record {
  images = was.images;
  boots = was.boots;
  acts = was.acts ++ act ∷ [];
  sized = was.sized;
  may = may_more size (fresh_story was.images was.boots) was.acts act was.may (subst (λ (s : Story). MayHappen size s act) was.is may);
  is = ap (λ (s : Story). after_act s act) was.is ∙ sym (told_more (fresh_story was.images was.boots) was.acts act);
}

-- ---- the laws, act by act

-- an act only adds
pub act_grows : (story : Story) (act : Act) → Grows story (after_act story act)
act_grows story (Begins n items) = steps_only_add.begun story n items
act_grows story (Delivers k how) = steps_only_add.delivered story k how
act_grows story (GivesUp n) = steps_only_add.given_up story n
act_grows story (Clears n) = steps_only_add.cleared story n
act_grows story (Resends n) = steps_only_add.resent story n
act_grows story (Crashes who) = steps_only_add.crashed story who
act_grows story (StartsNode n boot) = steps_only_add.node_started story n boot
act_grows story (StartsMemory m found) = steps_only_add.memory_started story m found

pub holds_after : (size : ℕ) (story : Story) (act : Act) → MayHappen size story act → Holds story → Holds (after_act story act)
holds_after size story (Begins n items) may h = record {
  counted = identifiers_begun_once.begun story n items h.counted;
  cast = casts_are_the_entries.begun story n items h.cast;
  voted = votes_have_entries.begun story n items h.voted;
  complete = granted_are_changes.begun story n items h.voted.begun h.complete;
  granted = changes_are_granted.stays story (after_act story (Begins n items)) (act_grows story (Begins n items)) h.granted;
}
holds_after size story (Delivers k how) may h = record {
  counted = identifiers_begun_once.delivered story k how h.counted;
  cast = casts_are_the_entries.delivered story k how h.cast;
  voted = votes_have_entries.delivered story k how h.voted;
  complete = granted_are_changes.delivered story k how h.complete;
  granted = changes_are_granted.stays story (after_act story (Delivers k how)) (act_grows story (Delivers k how)) h.granted;
}
holds_after size story (GivesUp n) may h = record {
  counted = identifiers_begun_once.given_up story n h.counted;
  cast = casts_are_the_entries.given_up story n h.cast;
  voted = votes_have_entries.given_up story n h.voted;
  complete = granted_are_changes.given_up story n h.complete;
  granted = changes_are_granted.stays story (after_act story (GivesUp n)) (act_grows story (GivesUp n)) h.granted;
}
holds_after size story (Clears n) may h = record {
  counted = identifiers_begun_once.cleared story n h.counted;
  cast = casts_are_the_entries.cleared story n h.cast;
  voted = votes_have_entries.cleared story n h.voted;
  complete = granted_are_changes.cleared story n h.complete;
  granted = changes_are_granted.stays story (after_act story (Clears n)) (act_grows story (Clears n)) h.granted;
}
holds_after size story (Resends n) may h = record {
  counted = identifiers_begun_once.resent story n h.counted;
  cast = casts_are_the_entries.resent story n h.cast;
  voted = votes_have_entries.resent story n h.voted;
  complete = granted_are_changes.resent story n h.complete;
  granted = changes_are_granted.stays story (after_act story (Resends n)) (act_grows story (Resends n)) h.granted;
}
holds_after size story (Crashes who) may h = record {
  counted = identifiers_begun_once.crashed story who h.counted;
  cast = casts_are_the_entries.crashed story who h.cast;
  voted = votes_have_entries.crashed story who h.voted;
  complete = granted_are_changes.crashed story who h.complete;
  granted = changes_are_granted.stays story (after_act story (Crashes who)) (act_grows story (Crashes who)) h.granted;
}
holds_after size story (StartsNode n boot) may h = record {
  counted = identifiers_begun_once.node_started story n boot may h.counted;
  cast = casts_are_the_entries.node_started story n boot h.cast;
  voted = votes_have_entries.node_started story n boot h.voted;
  complete = granted_are_changes.node_started story n boot h.complete;
  granted = changes_are_granted.stays story (after_act story (StartsNode n boot)) (act_grows story (StartsNode n boot)) h.granted;
}
holds_after size story (StartsMemory m found) may h = record {
  counted = identifiers_begun_once.memory_started story m found h.counted;
  cast = casts_are_the_entries.memory_started story m found h.cast;
  voted = votes_have_entries.memory_started story m found h.voted;
  complete = granted_are_changes.memory_started story m found h.complete;
  granted = changes_are_granted.stays story (after_act story (StartsMemory m found)) (act_grows story (StartsMemory m found)) h.granted;
}

holds_told : (size : ℕ) (story : Story) (acts : List Act) → MayAllHappen size story acts → Holds story → Holds (told story acts)
holds_told size story [] may h = h
holds_told size story (act ∷ acts) may h = holds_told size (after_act story act) acts may.1 (holds_after size story act may.0 h)

-- ---- the opening

no_floor : (nodes c : ℕ) → slice_index_or {A = Option Floor} (replicate nodes None) c None ≡ None
no_floor zero c = refl
no_floor (suc nodes) zero = refl
no_floor (suc nodes) (suc c) = no_floor nodes c

formatted : (images : List (List ℕ)) (nodes : ℕ) → AreFresh (map (λ (image : List ℕ). opened nodes image) images)
formatted images nodes state there =
    let it = in_map (λ (image : List ℕ). opened nodes image) state images there in
    (ap (λ (s : State). s.kept) it.2, λ c. ap (λ (s : State). slice_index_or s.floors c None) it.2 ∙ no_floor nodes c)

pub fresh_holds : (images : List (List ℕ)) (boots : List ℕ) → Holds (fresh_story images boots)
fresh_holds images boots =
    let states = map (λ (image : List ℕ). opened (length boots) image) images in
    record {
      counted = identifiers_begun_once.opened states boots;
      cast = casts_are_the_entries.opened states boots;
      voted = votes_have_entries.opened states boots (formatted images (length boots));
      complete = granted_are_changes.opened states boots;
      granted = changes_are_granted.opened states boots;
    }

pub told_stories_hold : ToldStoriesHold
told_stories_hold size story was =
    subst (λ (s : Story). Holds s) (sym was.is) (holds_told size (fresh_story was.images was.boots) was.acts was.may (fresh_holds was.images was.boots))
