-- The chaining blocks of a file, and the memory nodes on which it gives up blocks.
use Rattle.std.specs.Prelude.{ℕ, zero, suc, ◌+◌, ◌*◌, ◌/◌, ◌==◌, nat_le, Bool, false, ◌&&◌, ◌||◌, if◌then◌else◌, List, map, Option, Some, None, is_some}
use Rattle.std.specs.Option.{option_map_or}
use Rattle.std.specs.List.{list_any}
use Rattle.fs_rules.specs.File.{chains_up_to}
use Rattle.fs_rules.specs.Lists.{below}
use Rattle.fs_image.specs.Owners.{Part, Chain, Block}
use Rattle.node_cache.specs.declared.held.Held.{Held}
use Rattle.plan_rules.specs.declared.look.Look.TheVariants.{Chaining}
use Rattle.plan_rules.specs.Steps.{Step, Looks}
use Rattle.plan_rules.specs.Told.{place_of, chains_of}

-- all chaining blocks of a file
abbrev pub chain_steps : Held → ℕ → List Step
chain_steps held n = map (λ k. Looks (Chaining n k)) (below (chains_of held n))

-- what a file gives up: its stored blocks from an index on, and its chaining blocks from one on
pub record GivenUp : Type 0 where
  pub file : ℕ
  pub block : ℕ
  pub chain : ℕ

-- all that a file has
abbrev pub whole : ℕ → GivenUp
whole n = record { file = n; block = 0; chain = 0 }

-- the last index below a bound at which a block is stored
unfoldable pub last_below : Held → ℕ → ℕ → Option ℕ
last_below held n zero = None
last_below held n (suc i) = if is_some (place_of held n (Block i)) then Some i else last_below held n i

-- what lies past a size
abbrev pub past : Held → ℕ → ℕ → GivenUp
past held n size =
    record { file = n; block = (size + 4095) / 4096; chain = chains_up_to (last_below held n ((size + 4095) / 4096)) }

-- whether one of these parts lies on a memory node
abbrev pub lies_on : Held → ℕ → ℕ → Part → Bool
lies_on held m n x = option_map_or (λ r. r.memory == m) (place_of held n x) false

abbrev pub is_given_up_on : Held → ℕ → GivenUp → Bool
is_given_up_on held m u =
    list_any (λ k. nat_le u.chain k && lies_on held m u.file (Chain k)) (below (chains_of held u.file))
    || list_any (λ i. nat_le u.block i && lies_on held m u.file (Block i)) (below (510 * chains_of held u.file))
