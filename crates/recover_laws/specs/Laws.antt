-- That the recoverer and the machine's manager do the same.
use Rattle.std.specs.Prelude.{◌≡◌, ℕ, true, false, List, [], map, Option}
use Rattle.mini_tx.specs.declared.cut_id.CutId.{CutId}
use Rattle.mini_tx.specs.declared.kept_id.KeptId.{KeptId}
use Rattle.mini_tx.specs.declared.tx_id.TxId.{TxId}
use Rattle.mini_tx.specs.Laws.{IsTypedId}
use Rattle.tx_recover.specs.declared.work.Work.{Work}
use Rattle.tx_recover.specs.Rules as rules
use Rattle.tx_rules.specs.Mini.{In}
use Rattle.tx_actors.specs.Manager as machine
use Rattle.mem_laws.specs.Cells.{number}
use Rattle.mem_laws.specs.Cuts.{shown_kept}
use Rattle.recover_laws.specs.Shown.{ShowsWorks, AreShownPosts, IsShownStep}

-- an identifier with participants, as memory nodes name them
abbrev pub IsNamed : KeptId → Type 0
IsNamed k = IsTypedId k.id × (k.participants ≡ [] → ⊥)

-- they take up the same, and ask about it; whatever cut is held
abbrev pub KeptIsTheManagers : Type 0
KeptIsTheManagers = (works : List Work) (xs : List machine.Work) (m : ℕ) (ids : List KeptId) (cut running : Option CutId)
    → ShowsWorks works xs → ((k : KeptId) → In k ids → IsNamed k)
    → IsShownStep (rules.on_kept works m ids cut running) (machine.learn_kept xs (map shown_kept ids))

-- they note the same answers, and decide the same
abbrev pub AnswersAreTheManagers : Type 0
AnswersAreTheManagers = (works : List Work) (xs : List machine.Work) (m : ℕ) (id : TxId) → ShowsWorks works xs → IsTypedId id
    → IsShownStep (rules.on_answer works m id true) (machine.learn_ok xs m (number id))
    × IsShownStep (rules.on_answer works m id false) (machine.learn_abort xs m (number id))

-- they note `done` of the same, and forget the same
abbrev pub DoneIsTheManagers : Type 0
DoneIsTheManagers = (works : List Work) (xs : List machine.Work) (m : ℕ) (id : TxId) → ShowsWorks works xs → IsTypedId id
    → IsShownStep (rules.on_done works m id) (machine.learn_done xs m (number id))

-- they post the same again
abbrev pub ResendsAreTheManagers : Type 0
ResendsAreTheManagers = (works : List Work) (xs : List machine.Work) → ShowsWorks works xs → AreShownPosts (rules.resent works) (machine.resend_manager xs)
