-- The limits of what a call would change, over the numbers that they look at.
use Rattle.std.specs.Prelude.{ℕ, ◌+◌, ◌-◌, ◌/◌, ◌%◌, ◌^◌, ◌==◌, nat_lt, Bool, false, not, ◌&&◌, ◌||◌, if◌then◌else◌, Option, Some, None}
use Rattle.std.specs.Option.{option_map_or}
use Rattle.fs_rules.specs.declared.file.File.{File}
use Rattle.fs_rules.specs.declared.geometry.Geometry.{Geometry}
use Rattle.fs_rules.specs.declared.plain_tree.PlainTree.{PlainTree}
use Rattle.fs_rules.specs.File.{used, chains_up_to, last_of}
use Rattle.fs_rules.specs.Numbers.{is_free, free_blocks}
use Rattle.fs_rules.specs.Statuses.{Check, fbig, nospc}
use Rattle.fs_rules.specs.Arguments.{at_number}

-- the change number of the file with a number is spent
abbrev pub is_spent_at : PlainTree → ℕ → Bool
is_spent_at t n = at_number t n false (λ f. f.change == 2 ^ 64 - 1)

-- the limits of a change of one file: its change number, and the blocks by which it grows
abbrev pub change_limits : PlainTree → ℕ → ℕ → Check
change_limits t change rise = if change == 2 ^ 64 - 1 then Some fbig else if nat_lt (free_blocks t) rise then Some nospc else None

-- whether a number is one of the cluster
abbrev pub is_number : Geometry → ℕ → Bool
is_number g n = nat_lt 0 n && (nat_lt ((n - 1) / 16384) g.memories && nat_lt ((n - 1) % 16384) g.inodes)

-- whether a number was picked that a new file can have
abbrev pub is_pick : PlainTree → Option ℕ → Bool
is_pick t pick = option_map_or (λ n. is_number t.geometry n && is_free t n) pick false

-- how many blocks a directory with so many slots uses
abbrev pub used_by : ℕ → ℕ
used_by slots = slots / 15 + chains_up_to (last_of (slots / 15))

-- the limits where a change number that would rise is spent, or the directory d gets so many links and slots
abbrev pub grown_limits : PlainTree → Bool → ℕ → File → ℕ → Check
grown_limits t spent links d slots =
    if spent
    then Some fbig
    else if nat_lt 32000 links || (nat_lt 7650 slots || nat_lt (free_blocks t) (used_by slots - used d.content))
    then Some nospc
    else None

-- the limits where a file that uses so many blocks is made in the directory d, which then has so many links and slots
abbrev pub made_limits : PlainTree → File → ℕ → ℕ → ℕ → Option ℕ → Check
made_limits t d links slots more pick =
    if d.change == 2 ^ 64 - 1
    then Some fbig
    else if nat_lt 32000 links || (nat_lt 7650 slots || (not (is_pick t pick) || nat_lt (free_blocks t) (used_by slots - used d.content + more)))
    then Some nospc
    else None
