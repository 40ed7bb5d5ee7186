-- That what is taken up is finished by the answers of all its participants.
use Rattle.std.specs.Prelude.{◌≡◌, ◌≤◌, ◌==◌, ◌&&◌, ℕ, Bool, true, false, not, List, [], ◌∷◌, length, Option, Some, None}
use Rattle.std.specs.List.{list_any}
use Rattle.mini_tx.specs.declared.cut_id.CutId.{CutId}
use Rattle.mini_tx.specs.declared.kept_id.KeptId.{KeptId}
use Rattle.mini_tx.specs.declared.message.Message.{Message}
use Rattle.tx_recover.specs.declared.work.Work.{Work}
use Rattle.tx_recover.specs.Rules.{answered, heard, is_among, taken_up}

-- no more than 64 identifiers are ever at work
abbrev pub AtMost64AreAtWork : Type 0
AtMost64AreAtWork = (works : List Work) (m : ℕ) (x : Message) (running : Option CutId) → length works ≤ 64 → length (heard works m x running).now ≤ 64

-- a memory node's answer about an identifier
pub record Answer : Type 0 where
  pub from : ℕ
  pub ok : Bool

-- the identifier when these were heard, oldest first
abbrev pub after_answers : Work → List Answer → Work
after_answers w [] = w
after_answers w (a ∷ answers) = after_answers (answered a.from w.id a.ok w).now answers

abbrev pub agrees : ℕ → Answer → Bool
agrees m a = (a.from == m) && a.ok

-- a participant did not vote for it
abbrev pub denies : List ℕ → Answer → Bool
denies participants a = is_among a.from participants && not a.ok

abbrev pub lacks : List Answer → ℕ → Bool
lacks answers m = not (list_any (agrees m) answers)

-- an identifier that was taken up and has these answers is committed only where each participant voted for it, is
-- aborted only where one did not, and is decided as soon as one of both is known
pub record IsDecidedBy (k : KeptId) (answers : List Answer) (decision : Option Bool) : Type 0 where
  pub committed : decision ≡ Some true → (m : ℕ) → is_among m k.participants ≡ true → list_any (agrees m) answers ≡ true
  pub aborted : decision ≡ Some false → list_any (denies k.participants) answers ≡ true
  pub none_denied : decision ≡ None → list_any (denies k.participants) answers ≡ false
  pub one_is_missing : decision ≡ None → (k.participants ≡ [] → ⊥) → list_any (lacks answers) k.participants ≡ true

abbrev pub AnswersDecide : Type 0
AnswersDecide = (k : KeptId) (answers : List Answer) → IsDecidedBy k answers (after_answers (taken_up k) answers).decision
