-- The calls that read, and what they read and answer by what is held, once they want no part and no check fails.
use Rattle.std.specs.Prelude.{ℕ}
use Rattle.nfs_proto.specs.declared.answer.Answer.TheVariants.{Empty}
use Rattle.nfs_proto.specs.declared.call.Call.{Call}
use Rattle.nfs_proto.specs.declared.call.Call.TheVariants as call
use Rattle.nfs_proto.specs.declared.stamp.Stamp.{Stamp}
use Rattle.fs_rules.specs.Handle.{number_in}
use Rattle.rpc_msg.specs.declared.cred.Cred.{Cred}
use Rattle.node_cache.specs.declared.held.Held.{Held}
use Rattle.plan_rules.specs.Works.{IsWorkSet}
use Rattle.plan_forms.specs.declared.plan.Reading.{Reading}
use Rattle.read_laws.specs.Answers.{get_attr_by, lookup_by, ready, stat_fs_by}
use Rattle.read_laws.specs.Promise.{AnswersCall}
use Rattle.content_laws.specs.Answers.{read_link_by, read_by, read_dir_by}

-- the calls of these procedures
abbrev pub IsReading : Call → Type 0
IsReading call.Null = ⊥
IsReading (call.GetAttr file) = Unit {0}
IsReading (call.SetAttr file set) = ⊥
IsReading call.Root = ⊥
IsReading (call.Lookup dir name) = Unit {0}
IsReading (call.ReadLink file) = Unit {0}
IsReading (call.Read file offset count total) = Unit {0}
IsReading call.WriteCache = ⊥
IsReading (call.Write file begin offset total bytes) = ⊥
IsReading (call.Create dir name set) = ⊥
IsReading (call.Remove dir name) = ⊥
IsReading (call.Rename from from_name to to_name) = ⊥
IsReading (call.Link file dir name) = ⊥
IsReading (call.SymLink dir name path set) = ⊥
IsReading (call.MakeDir dir name set) = ⊥
IsReading (call.RemoveDir dir name) = ⊥
IsReading (call.ReadDir dir cookie count) = Unit {0}
IsReading (call.StatFs file) = Unit {0}

-- what a call reads and answers: of another procedure nothing is said
abbrev pub reading_of : Held → Call → Reading
reading_of held call.Null = ready Empty
reading_of held (call.GetAttr file) = get_attr_by held (number_in file.0)
reading_of held (call.SetAttr file set) = ready Empty
reading_of held call.Root = ready Empty
reading_of held (call.Lookup dir name) = lookup_by held (number_in dir.0) name
reading_of held (call.ReadLink file) = read_link_by held (number_in file.0)
reading_of held (call.Read file offset count total) = read_by held (number_in file.0) offset count
reading_of held call.WriteCache = ready Empty
reading_of held (call.Write file begin offset total bytes) = ready Empty
reading_of held (call.Create dir name set) = ready Empty
reading_of held (call.Remove dir name) = ready Empty
reading_of held (call.Rename from from_name to to_name) = ready Empty
reading_of held (call.Link file dir name) = ready Empty
reading_of held (call.SymLink dir name path set) = ready Empty
reading_of held (call.MakeDir dir name set) = ready Empty
reading_of held (call.RemoveDir dir name) = ready Empty
reading_of held (call.ReadDir dir cookie count) = read_dir_by held (number_in dir.0) cookie count
reading_of held (call.StatFs file) = stat_fs_by held.geometry

-- each answers as the rules do
abbrev pub ReadingsAnswer : Type 0
ReadingsAnswer = (held : Held) (arrival : ℕ) (call : Call) (cred : Cred) (now : Stamp) → IsWorkSet held → IsReading call
    → AnswersCall held arrival call cred now (reading_of held call)
