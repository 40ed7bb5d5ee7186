-- The memory nodes of a story hold their parts of the flat memory but for what is locked; and a story is one flat memory.
use Rattle.std.proofs.Common.{◌≡◌, inl, inr, ◌+◌, ℕ, true, List, [], ◌∷◌, length, map, reverse, take, All, refl, sym, ap, subst, ◌∙◌}
use Rattle.std.specs.List.{list_any}
use Rattle.std.proofs.lemmas.Bool.{lt-ltb, le-leb}
use Rattle.mini_tx.specs.declared.range.Range.{Range}
use Rattle.mini_tx.specs.declared.tx_id.TxId.{TxId}
use Rattle.lock_table.specs.Locked.{IsIn}
use Rattle.lock_table.specs.Spans.{covers}
use Rattle.mem_rules.specs.Rules as node
use Rattle.tx_rules.specs.Mini.{In, Setting, cells_of, flat}
use Rattle.tx_rules.specs.World.{World}
use Rattle.tx_rules.proofs.FaithfulLemmas.{in_either}
use Rattle.tx_actors.specs.Machine.{Input, steps, opened_at}
use Rattle.tx_actors.specs.Node as machine
use Rattle.tx_actors.specs.Node.{own, view}
use Rattle.tx_actors.proofs.RecordLemmas.{is_open}
use Rattle.mem_laws.specs.Cells.{number, cells_from, cells_in}
use Rattle.mem_laws.specs.Minis.{cells_of_bytes}
use Rattle.mem_laws.proofs.CellLemmas.{in_from}
use Rattle.mem_laws.proofs.ImageLemmas.{cell_is}
use Rattle.story_rules.specs.Story.{Story}
use Rattle.story_laws.specs.Acts.{Holds}
use Rattle.story_shown.specs.History.{held_at_opening, flat_at, ImagesAreFlat, IsFlat, ToldStoriesAreFlat}
use Rattle.story_laws.specs.Sites.{node_at}
use Rattle.story_laws.proofs.ActLemmas.{told_stories_hold}
use Rattle.story_laws.proofs.GrowthLemmas.{or_true, or_right, true_both}
use Rattle.story_shown.specs.Fits.{setting_of}
use Rattle.story_shown.proofs.ShownLemmas.{IsShown, IsFit}
use Rattle.story_shown.proofs.SoundLemmas.{told_fit, held_sized, told_shown}
use Rattle.story_shown.proofs.LawLemmas.{serial, changes_flat, flat_is, agrees, refused_never, is_history}
use Rattle.story_shown.proofs.OutcomeLemmas.{outcomes_are_flat}

-- a cell of ranges lies in them
in_ranges : (ranges : List Range) (a : ℕ) → In a (cells_in ranges) → IsIn ranges a
in_ranges [] a is = absurd is
in_ranges (r ∷ ranges) a is = elim (in_either a (cells_from r.at r.length) (cells_in ranges) is) [
  | inl here ↦
      let it = in_from r.at r.length a here in
      or_true (covers a r) (list_any (covers a) ranges) (true_both _ _ (le-leb r.at a it.0) (lt-ltb a (r.at + r.length) it.1))
  | inr rest ↦ or_right (covers a r) (list_any (covers a) ranges) (in_ranges ranges a rest)
]

take_whole : {A : Type 0} (xs : List A) → take (length xs) xs ≡ xs
take_whole [] = refl
take_whole (x ∷ xs) = ap (λ (l : List _). x ∷ l) (take_whole xs)

module _ (s : Setting) (size : ℕ) (story : Story) (fit : IsFit s size story) (holds : Holds story) (inputs : List Input)
    (all : IsShown s size story (steps s (opened_at s [] s.start (λ c. 0)) inputs)) (sized : All (λ (image : List ℕ). length image ≡ size) (held_at_opening story)) where
  abbrev w : World
  w = (steps s (opened_at s [] s.start (λ c. 0)) inputs).world

  -- the machine's flat memory is the story's
  now_flat : (m a : ℕ) → flat s w.points m a ≡ cells_of_bytes (flat_at story (length story.committed)) m a
  now_flat m a =
      sym ((changes_flat s size story fit holds inputs all sized).0 [] w.points refl m a)
      ∙ ap (λ (l : List ℕ). flat s l m a) (all.history ∙ ap (λ (ids : List TxId). reverse (map number ids)) (sym (take_whole story.committed)))
      ∙ flat_is s size story fit holds inputs all sized (length story.committed) m a

  images_are_flat : ImagesAreFlat story
  images_are_flat m site a there below free =
      let shows = (all.sites m site there).shows in
      sym (cell_is (node_at site).state.image (w.image m) shows.image a below)
      ∙ (serial s size story fit holds inputs all sized).images m a (λ t open_ touched. locked t (is_open w.log m t open_) touched)
      ∙ now_flat m a
    where
      locked : (t : ℕ) → machine.is_undecided (own m w.log) t ≡ true → In a (cells_of s t m) → ⊥
      locked t undecided touched =
          let shows = (all.sites m site there).shows in
          let it = shows.undecided t undecided in
          let k = it.0 in
          let record_ = shows.records k it.1 in
          let waits : node.is_undecided k ≡ true = sym record_.undecided ∙ subst (λ (u : ℕ). machine.is_undecided (own m w.log) u ≡ true) (sym it.2) undecided in
          free k it.1 waits (in_ranges k.ranges a
          (subst (λ (cells : List ℕ). In a cells) (record_.locked waits) (subst (λ (u : ℕ). In a (cells_of s u m)) (sym it.2) touched)))

  is_flat : IsFlat story
  is_flat = record {
    agrees = agrees s size story fit holds inputs all sized;
    history = is_history s size story fit holds inputs all sized;
    outcomes = outcomes_are_flat s size story fit holds inputs all sized;
    refused = refused_never s size story fit holds inputs all sized;
    images = images_are_flat;
  }

pub told_stories_are_flat : ToldStoriesAreFlat
told_stories_are_flat size story was =
    let s = setting_of story in
    let goes = told_shown size story was in
    is_flat s size story (told_fit size story was) (told_stories_hold size story was) goes.1
    (subst (λ (st : _). IsShown s size story st) goes.2 goes.3) (held_sized size story was)
