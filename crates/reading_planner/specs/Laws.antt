-- That what a call reads can be answered.
use Rattle.std.specs.Prelude.{ℕ, List}
use Rattle.rpc_msg.specs.declared.cred.Cred.{Cred}
use Rattle.nfs_proto.specs.declared.call.Call.{Call}
use Rattle.mini_tx.specs.declared.item.Item.{Item}
use Rattle.node_cache.specs.declared.held.Held.{Held}
use Rattle.plan_rules.specs.Works.{IsWorkSet}
use Rattle.plan_forms.specs.declared.form.AnswerForm.{AnswerForm}
use Rattle.read_laws.specs.Promise.{IsReadFinal}
use Rattle.plan_read.specs.Readings.{IsReading, reading_of}
use Rattle.node_rules.specs.Plans.{IsAnswerable, read_sizes}

-- the final of a call that reads makes an answer that a client can be told of all reads of the lengths that it asks for
abbrev pub ReadFinalsAreSound : Type 0
ReadFinalsAreSound = (held : Held) (arrival : ℕ) (call : Call) (cred : Cred) (mini : List Item) (form : AnswerForm) → IsWorkSet held → IsReading call
    → IsReadFinal held arrival call cred (reading_of held call) mini form → IsAnswerable (read_sizes mini) form
