-- The table of minitransactions of the machine that fits a story, and the story's bytes as the machine's cells.
use Rattle.std.specs.Prelude.{◌≡◌, ◌==◌, ℕ, List, [], ◌∷◌, map, reverse, All, if◌then◌else◌}
use Rattle.mini_tx.specs.declared.actor.Actor.TheVariants.{Memory}
use Rattle.mini_tx.specs.declared.item.Item.{Item}
use Rattle.mini_tx.specs.declared.message.Message.TheVariants.{Prepare}
use Rattle.mini_tx.specs.declared.placed_item.PlacedItem.{PlacedItem}
use Rattle.mini_tx.specs.declared.posted.Posted.{Posted}
use Rattle.mini_tx.specs.declared.tx_id.TxId.{TxId}
use Rattle.mini_tx.specs.FlatMemory.{IsWithin}
use Rattle.mini_tx.specs.Laws.{IsTypedId}
use Rattle.tx_rules.specs.Mini.{In, Setting, flat}
use Rattle.tx_actors.specs.Numbers.{coordinator_of}
use Rattle.mem_laws.specs.Cells.{number}
use Rattle.mem_laws.specs.Loaded.{image_from}
use Rattle.mem_laws.specs.Minis.{mini_of, cells_of_bytes}
use Rattle.mem_laws.specs.Shown.{IsTold}
use Rattle.story_rules.specs.Story.{Begun, Story}
use Rattle.story_laws.specs.Growth.{IsGrantedByAll}
use Rattle.story_shown.specs.History.{held_at_opening, flat_after}
use Rattle.story_laws.specs.Identifiers.{AreDistinct}
use Rattle.story_laws.specs.Beginnings.{AreBegun}

-- identifiers within their types
abbrev pub AreTyped : List Begun → Type 0
AreTyped begun = (b : Begun) → In b begun → IsTypedId b.id

-- ---- the table

-- what was begun under a number; nothing under another
abbrev pub items_under : List Begun → ℕ → List Item
items_under [] t = []
items_under (b ∷ begun) t = if number b.id == t then b.items else items_under begun t

-- the table of all that was begun in a cluster that was opened fresh: nothing is known at the opening, and the cells are
-- those of the images
abbrev pub setting_of : Story → Setting
setting_of story =
    record {
      coord = coordinator_of;
      mini = λ t. mini_of (items_under story.begun t);
      old = [];
      found = [];
      early = [];
      noted = λ m t. [];
      start = image_from story.opening;
    }

-- a table fits a story: an identifier tells its coordinator, and has what was begun under it. Of identifiers that were not
-- begun nothing is said; so a beginning makes the tables that fit fewer
pub record Fits (s : Setting) (story : Story) : Type 0 where
  pub coordinators : (t : ℕ) → s.coord t ≡ coordinator_of t
  pub minis : (b : Begun) → In b story.begun → s.mini (number b.id) ≡ mini_of b.items
  pub old : s.old ≡ []
  pub found : s.found ≡ []
  pub early : s.early ≡ []
  pub start : (m a : ℕ) → s.start m a ≡ image_from story.opening m a

-- there is one, where no identifier was begun twice
abbrev pub StoriesFit : Type 0
StoriesFit = (story : Story) → AreTyped story.begun → AreDistinct story.begun → Fits (setting_of story) story

-- ---- what a `prepare` tells

-- a memory node that is asked to vote is told what the table has
abbrev pub PreparesAreTold : Type 0
PreparesAreTold = (s : Setting) (story : Story) → Fits s story → AreTyped story.begun → AreBegun story
    → (p : Posted) (m : ℕ) (id : TxId) (participants : List ℕ) (items : List PlacedItem) → In p story.posted → p.to ≡ Memory m
    → p.message ≡ Prepare id participants items → IsTold s m id participants items

-- ---- the flat memory

-- what was begun lies within what the memory nodes hold
abbrev pub AreWithin : Story → Type 0
AreWithin story = (b : Begun) → In b story.begun → All (IsWithin (held_at_opening story)) b.items

-- over cells and over bytes the flat memory is the same after any changes that all have granted
abbrev pub CellsAreTheBytes : Type 0
CellsAreTheBytes = (s : Setting) (story : Story) → Fits s story → AreTyped story.begun → AreDistinct story.begun → AreWithin story
    → (ids : List TxId) → ((id : TxId) → In id ids → IsGrantedByAll story id)
    → (m a : ℕ) → flat s (reverse (map number ids)) m a ≡ cells_of_bytes (flat_after story.begun (held_at_opening story) ids) m a
