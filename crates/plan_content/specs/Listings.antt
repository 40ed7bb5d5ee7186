-- The cookies of the slots of a directory.
use Rattle.std.specs.Prelude.{ℕ, List, [], ◌∷◌}
use Rattle.fs_dir.specs.declared.slot.Slot.{Slot}
use Rattle.content_laws.specs.Answers.{next_cookie}

-- that of the slot behind slots, of which the first has this cookie
unfoldable pub cookie_behind : ℕ → List Slot → ℕ
cookie_behind cookie [] = cookie
cookie_behind cookie (s ∷ slots) = cookie_behind (next_cookie cookie) slots
