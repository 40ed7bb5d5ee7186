-- That what a memory node does with a fit message leaves an entry that is fit and has a spelling.
use Rattle.std.specs.Prelude.{Option, Some, None}
use Rattle.mini_tx.specs.declared.entry.Entry.{Entry}
use Rattle.mini_tx.specs.declared.message.Message.{Message}
use Rattle.mini_tx.specs.EntryGrammar.{FitsEntry}
use Rattle.mini_tx.specs.Laws.{IsTypedEntry}
use Rattle.mem_rules.specs.declared.setup.Setup.{Setup}
use Rattle.mem_rules.specs.Fit.{IsSetup, IsFit, IsFitMessage, AreNamesTyped}
use Rattle.mem_rules.specs.Good.{IsGood}
use Rattle.mem_rules.specs.Rules.{Node, react}
use Rattle.mem_rules.specs.State.{State}

-- the entry, where there is one, is fit behind those before it, and has a spelling
abbrev pub IsFitNext : Setup → State → Option Entry → Type 0
IsFitNext s state None = Unit {0}
IsFitNext s state (Some e) = IsFit s state e × FitsEntry e

abbrev pub ReactionsAreFit : Type 0
ReactionsAreFit = (s : Setup) (n : Node) (message : Message) → IsSetup s → IsGood s n.state → IsFitMessage s message → IsFitNext s n.state (react n message).entry

-- the numbers of an entry that is fit are within their types where those are that it names
abbrev pub FitEntriesAreTyped : Type 0
FitEntriesAreTyped = (s : Setup) (state : State) (e : Entry) → IsSetup s → IsFit s state e → AreNamesTyped e → IsTypedEntry e
