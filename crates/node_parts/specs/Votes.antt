-- Which item a vote names.
use Rattle.std.specs.Prelude.{ℕ, ◌<◌, List, length}
use Rattle.mini_tx.specs.declared.vote.Vote.{Vote}
use Rattle.mini_tx.specs.declared.vote.Vote.TheVariants as vote

-- a mismatch names the place of an item
abbrev pub IsPlaced : Vote → List ℕ → Type 0
IsPlaced (vote.Granted reads) places = Unit {0}
IsPlaced (vote.Mismatch item kept) places = item < length places
IsPlaced (vote.Locked holder) places = Unit {0}
IsPlaced (vote.Forced floor) places = Unit {0}
IsPlaced (vote.Held cut) places = Unit {0}
