-- What some bytes are heard as, and what they are answered.
use Rattle.std.specs.Prelude.{◌≡◌, ℕ, ◌%◌, ◌==◌, Bool, ◌||◌, if◌then◌else◌, List, [], length, Option, Some, None, Result, Ok, Err}
use Rattle.sfs_xdr.specs.declared.arg_fault.ArgFault.{ArgFault}
use Rattle.rpc_msg.specs.declared.cred.Cred.{Cred}
use Rattle.rpc_msg.specs.Messages.{accepted, garbage_arguments}
use Rattle.rpc_msg.specs.Heard.{Called, Outcome}
use Rattle.rpc_msg.specs.Heard as heard_as
use Rattle.rpc_msg.specs.Hearing.{as_they_are, heard_of}
use Rattle.nfs_proto.specs.declared.answer.Answer.{Answer}
use Rattle.nfs_proto.specs.declared.answer.Answer.TheVariants as answer
use Rattle.nfs_proto.specs.declared.call.Call.{Call}
use Rattle.nfs_proto.specs.declared.stamp.Stamp.{Stamp}
use Rattle.nfs_proto.specs.Arguments.{procedure_of, args_of, IsFit}
use Rattle.nfs_proto.specs.Answers.{answer_spelling}
use Rattle.mount_proto.specs.Mount.{answer_of}
use Rattle.fs_rules.specs.declared.plain_tree.PlainTree.{PlainTree}
use Rattle.fs_rules.specs.Respond.{Responded, respond}
use Rattle.line_words.specs.Words.{HasDatagramLength}
use Rattle.nfs_service.specs.declared.request.Request.{Request}
use Rattle.nfs_service.specs.declared.request.Request.TheVariants as request

-- ---- what some bytes are heard as

-- NULL, ROOT and WRITECACHE, whose numbers these are, do nothing (RFC 1094, section 2.2)
abbrev pub does_nothing : Call → Bool
does_nothing call = (procedure_of call == 0) || ((procedure_of call == 3) || (procedure_of call == 7))

-- what a call of the file system asks for
abbrev pub called : ℕ → Call → Cred → Request
called xid call cred = if does_nothing call then request.Told (accepted xid []) else request.Asked xid call cred

-- what the arguments of a call of NFS ask for; arguments out of form are refused
abbrev pub with_arguments : ℕ → Cred → Result Call ArgFault → Request
with_arguments xid cred (Ok call) = called xid call cred
with_arguments xid cred (Err fault) = request.Told (garbage_arguments xid)

abbrev pub asked_of_files : Called (List ℕ) → Request
asked_of_files c = with_arguments c.xid c.cred (args_of c.procedure c.arguments)

-- what a call of the mount protocol asks for
abbrev pub with_mount : ℕ → Result (List ℕ) ArgFault → Request
with_mount xid (Ok body) = request.Told (accepted xid body)
with_mount xid (Err fault) = request.Told (garbage_arguments xid)

abbrev pub asked_to_mount : Called (List ℕ) → Request
asked_to_mount c = with_mount c.xid (answer_of c.procedure c.arguments)

-- what a call asks for
abbrev pub asked : Called (List ℕ) → Request
asked c = if c.program == 100003 then asked_of_files c else asked_to_mount c

-- what an outcome asks for
abbrev pub requested : Outcome (List ℕ) → Request
requested (heard_as.Call c) = asked c
requested (heard_as.Refuse reply) = request.Told reply
requested heard_as.Silent = request.Silent

abbrev pub heard : List ℕ → Request
heard bytes = requested (heard_of as_they_are bytes)

-- a reply that is told has the length of a datagram
abbrev pub IsSized : Request → Type 0
IsSized (request.Told reply) = HasDatagramLength reply
IsSized request.Silent = Unit {0}
IsSized (request.Asked xid call cred) = Unit {0}

-- what a call of the file system names is not too long
abbrev pub AsksFit : Request → Type 0
AsksFit (request.Told reply) = Unit {0}
AsksFit request.Silent = Unit {0}
AsksFit (request.Asked xid call cred) = IsFit call

-- ---- what it is answered

-- the bytes of a reply, the tree that is left, and the number and generation of the file that was made
pub record Effect : Type 0 where
  pub reply : List ℕ
  pub tree : PlainTree
  pub made : Option (ℕ × ℕ)

-- what the file system answers under this xid
abbrev pub replied : ℕ → Responded → Effect
replied xid r = record { reply = accepted xid (answer_spelling r.answer); tree = r.tree; made = r.made }

-- what a request is answered where it is the arrival with this number at this moment: a new file's number is searched from
-- the memory node with the arrival's number on. Nothing, where it gets no reply
abbrev pub effect : PlainTree → Request → ℕ → Stamp → Option Effect
effect t (request.Told reply) arrival moment = Some (record { reply = reply; tree = t; made = None })
effect t request.Silent arrival moment = None
effect t (request.Asked xid call cred) arrival moment = Some (replied xid (respond t call cred moment (arrival % t.geometry.memories)))

-- the handle in an answer has its 32 bytes
abbrev pub HasHandle : Answer → Type 0
HasHandle answer.Empty = Unit {0}
HasHandle (answer.Fault status) = Unit {0}
HasHandle answer.Plain = Unit {0}
HasHandle (answer.Attr attr) = Unit {0}
HasHandle (answer.Found file attr) = length file.0 ≡ 32
HasHandle (answer.Path path) = Unit {0}
HasHandle (answer.Part attr bytes) = Unit {0}
HasHandle (answer.Names entries eof) = Unit {0}
HasHandle (answer.Space tsize bsize blocks bfree bavail) = Unit {0}
