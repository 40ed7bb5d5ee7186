-- A cluster that was just formatted.
use Rattle.std.specs.Prelude.{ℕ, zero, suc, false, List, [], ◌∷◌, ◌++◌, replicate}
use Rattle.mini_tx.specs.FreshImages.{fresh_image}
use Rattle.mini_tx.specs.declared.geometry.Geometry4.{Geometry4}
use Rattle.tx_coord.specs.State.{Machine, started}
use Rattle.story_rules.specs.Story.{Story}
use Rattle.story_laws.specs.Acts.{StartsNode, after_act, fresh_story}

-- what a function gives for the first so many numbers
abbrev pub first_of : {A : Type 0} → (ℕ → A) → ℕ → List A
first_of f zero = []
first_of f (suc n) = first_of f n ++ f n ∷ []

-- a coordinator at the first start of its node
abbrev pub first_machine : ℕ → Machine
first_machine n = record { state = started n 1; is_spent = false }

abbrev pub first_machines : ℕ → List Machine
first_machines nodes = first_of first_machine nodes

-- the images of a cluster that was formatted, whose nodes have not started; and then the first so many start
abbrev pub started_story : Geometry4 → ℕ → Story
started_story g zero = fresh_story (first_of (fresh_image g) g.memories) (replicate g.nodes 0)
started_story g (suc n) = after_act (started_story g n) (StartsNode n 1)

-- all nodes have started, and nothing else has happened
abbrev pub first_story : Geometry4 → Story
first_story g = started_story g g.nodes
