-- What a call comes to where its own checks pass, and the parts that it takes.
use Rattle.std.specs.Prelude.{ℕ, ◌+◌, ◌-◌, ◌*◌, ◌/◌, ◌^◌, ◌==◌, nat_lt, Bool, false, ◌&&◌, if◌then◌else◌, List, [], ◌∷◌, ◌++◌, length, flat_map, count_by, Some, is_none}
use Rattle.std.specs.List.{list_any}
use Rattle.fs_rules.specs.declared.file.File.{File}
use Rattle.fs_rules.specs.Attributes.{is_set}
use Rattle.fs_rules.specs.Contents as contents
use Rattle.fs_rules.specs.File.{chains_up_to}
use Rattle.fs_rules.specs.Lists.{below}
use Rattle.fs_rules.specs.Statuses.{fails_where, fbig, nospc}
use Rattle.fs_image.specs.Owners.{Block}
use Rattle.node_cache.specs.declared.held.Held.{Held}
use Rattle.plan_rules.specs.declared.look.Look.TheVariants.{BlockBits, InodeBits}
use Rattle.plan_rules.specs.Steps.{Step, Looks, Checks}
use Rattle.plan_rules.specs.Told.{memory_at, at_record, place_of, chains_of, dir_blocks, is_full}
use Rattle.plan_rules.specs.Blocks.{GivenUp, past, chain_steps, is_given_up_on}
use Rattle.plan_rules.specs.Room.{Need, number_steps, needs_steps}

-- the files whose change numbers rise; the most links that a file would have, and the most slots that a directory would have;
-- the files whose blocks are read, written or freed; whether a file is made; the blocks that are given up, and the numbers that
-- are freed; and the new blocks
pub record Changes : Type 0 where
  pub rises : List ℕ
  pub links : ℕ
  pub slots : ℕ
  pub touched : List ℕ
  pub makes : Bool
  pub given_up : List GivenUp
  pub freed : List ℕ
  pub needs : List Need

-- nothing
abbrev pub nothing : Changes
nothing = record { rises = []; links = 0; slots = 0; touched = []; makes = false; given_up = []; freed = []; needs = [] }

-- blocks of a file are read
abbrev pub reads : ℕ → Bool → Changes
reads n some = record nothing { touched = if some then n ∷ [] else [] }

-- ---- the steps

-- whether the change number of a file has its last value
abbrev pub is_spent : Held → ℕ → Bool
is_spent held n = at_record held n false (λ a. a.change == 2 ^ 64 - 1)

-- the maps of a memory node on which blocks are given up or a number is freed
abbrev pub freeing_on : Held → Changes → ℕ → List Step
freeing_on held c m =
    (if list_any (is_given_up_on held m) c.given_up then Looks (BlockBits m) ∷ [] else [])
    ++ (if list_any (λ n. memory_at n == m) c.freed then Looks (InodeBits m) ∷ [] else [])

-- the limits that need no further part; the chaining blocks; a number; the maps of what is freed; room for what is new
abbrev pub change_steps : Held → ℕ → Changes → List Step
change_steps held start c =
    Checks (fails_where fbig (list_any (is_spent held) c.rises))
    ∷ Checks (fails_where nospc (nat_lt 32000 c.links))
    ∷ Checks (fails_where nospc (nat_lt 7650 c.slots))
    ∷ flat_map (chain_steps held) c.touched
    ++ ((if c.makes then number_steps held start else [])
    ++ (flat_map (freeing_on held c) (below held.geometry.memories) ++ needs_steps held c.needs))

-- ---- what changes

-- a file gets so many blocks
abbrev pub need_of : ℕ → ℕ → Need
need_of n count = record { home = memory_at n; count = count }

-- whether a smaller size is set
abbrev pub is_cut : File → ℕ → Bool
is_cut f size = is_set size && nat_lt size f.size

-- a file is changed, and gives up what lies past a smaller size
abbrev pub resizes : Held → ℕ → File → ℕ → Changes
resizes held n f size =
    record nothing {
      rises = n ∷ [];
      touched = if is_cut f size then n ∷ [] else [];
      given_up = if is_cut f size then past held n size ∷ [] else [];
    }

-- the blocks that bytes at an offset lie in and that are not stored, and the chaining blocks that refer to the last of them
abbrev pub new_blocks : Held → ℕ → ℕ → ℕ → ℕ
new_blocks held n offset len =
    count_by (λ i. is_none (place_of held n (Block i))) (contents.touched offset len)
    + (chains_up_to (Some ((offset + len - 1) / 4096)) - chains_of held n)

abbrev pub writes : Held → ℕ → ℕ → List ℕ → Changes
writes held n offset bytes = record nothing { rises = n ∷ []; touched = n ∷ []; needs = need_of n (new_blocks held n offset (length bytes)) ∷ [] }

-- the slots of a directory with a new name, and the blocks that it gets for it: where no slot is empty, one of 15 slots and,
-- where none refers to it, a chaining block
abbrev pub slots_with_name : Held → ℕ → ℕ
slots_with_name held n = at_record held n 0 (λ a. 15 * (dir_blocks a + (if is_full held n then 1 else 0)))

abbrev pub blocks_for_name : Held → ℕ → ℕ
blocks_for_name held n = if is_full held n then at_record held n 0 (λ a. 1 + (chains_up_to (Some (dir_blocks a)) - a.chains)) else 0

abbrev pub gets_name : Held → ℕ → Changes
gets_name held n =
    record nothing { rises = n ∷ []; slots = slots_with_name held n; needs = need_of n (blocks_for_name held n) ∷ [] }

-- a file is freed, if it is
abbrev pub freed_where : Bool → ℕ → List ℕ
freed_where last m = if last then m ∷ [] else []
