-- What is noted of a minitransaction, and what each call makes of it.
use Rattle.std.specs.Prelude.{ℕ, ◌==◌, Bool, true, false, List, [], ◌∷◌, ◌++◌, if◌then◌else◌}
use Rattle.mini_tx.specs.declared.tx_id.TxId.{TxId}
use Rattle.mini_tx.specs.Order.{is_same}
use Rattle.cluster_notes.specs.declared.look.Look.{Look}

-- of the minitransaction that a node began last: whether its votes have entries; how long the history was just before the
-- last of these was cast, and just before each that has none, and before the one of these that was counted
pub record Noted : Type 0 where
  pub id : TxId
  pub logged : Bool
  pub entered : ℕ
  pub looks : List Look
  pub counted : ℕ

-- nothing was voted on it
abbrev pub fresh : TxId → Bool → Noted
fresh id logged = record { id = id; logged = logged; entered = 0; looks = []; counted = 0 }

abbrev pub with_entry : Bool → ℕ → Noted → Noted
with_entry true at note = record note { entered = at }
with_entry false at note = note

abbrev pub with_look : Look → Noted → Noted
with_look look note = if note.logged then note else record note { looks = note.looks ++ look ∷ [] }

-- a Granted vote on an identifier, with a new entry or without one
abbrev pub voted : TxId → Bool → Look → Noted → Noted
voted id entered look note = if is_same id note.id then with_look look (with_entry entered look.at note) else note

-- how long the history was at the look of this message; 0 where there is none
abbrev pub look_at : List Look → ℕ → ℕ
look_at [] message = 0
look_at (l ∷ looks) message = if l.message == message then l.at else look_at looks message

-- the vote of this message was counted
abbrev pub heard : ℕ → Noted → Noted
heard message note = record note { counted = look_at note.looks message }

-- how long the history was just before the last counted vote was cast
abbrev pub cast_of : Noted → ℕ
cast_of note = if note.logged then note.entered else note.counted
