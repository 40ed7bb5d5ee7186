-- That what is answered from what is held is what the rules answer.
use Rattle.std.specs.Prelude.{ℕ}
use Rattle.rpc_msg.specs.declared.cred.Cred.{Cred}
use Rattle.nfs_proto.specs.declared.call.Call.TheVariants.{ReadLink, Read, ReadDir}
use Rattle.nfs_proto.specs.declared.handle.Handle.{Handle}
use Rattle.nfs_proto.specs.declared.stamp.Stamp.{Stamp}
use Rattle.fs_rules.specs.declared.plain_tree.PlainTree.{PlainTree}
use Rattle.fs_rules.specs.Handle.{number_in}
use Rattle.mini_tx.specs.FlatMemory.{Flat}
use Rattle.fs_image.specs.Owners.{Owners}
use Rattle.node_cache.specs.declared.held.Held.{Held}
use Rattle.read_laws.specs.Laws.{AnswersAs, IsPlannedOver}
use Rattle.content_laws.specs.Answers.{read_link_by, read_by, read_dir_by}

abbrev pub ReadLinkAnswers : Type 0
ReadLinkAnswers = (held : Held) (flat : Flat) (t : PlainTree) (o : Owners) (arrival : ℕ) (cred : Cred) (now : Stamp) (start : ℕ) (file : Handle)
    → IsPlannedOver held flat t o arrival (ReadLink file) cred
    → AnswersAs held flat t arrival (ReadLink file) cred now start (read_link_by held (number_in file.0))

abbrev pub ReadAnswers : Type 0
ReadAnswers = (held : Held) (flat : Flat) (t : PlainTree) (o : Owners) (arrival : ℕ) (cred : Cred) (now : Stamp) (start : ℕ)
    (file : Handle) (offset count total : ℕ) → IsPlannedOver held flat t o arrival (Read file offset count total) cred
    → AnswersAs held flat t arrival (Read file offset count total) cred now start (read_by held (number_in file.0) offset count)

abbrev pub ReadDirAnswers : Type 0
ReadDirAnswers = (held : Held) (flat : Flat) (t : PlainTree) (o : Owners) (arrival : ℕ) (cred : Cred) (now : Stamp) (start : ℕ)
    (dir : Handle) (cookie count : ℕ) → IsPlannedOver held flat t o arrival (ReadDir dir cookie count) cred
    → AnswersAs held flat t arrival (ReadDir dir cookie count) cred now start (read_dir_by held (number_in dir.0) cookie count)
