-- Answers of the rules can be told, and so can those of granted finals.
use Rattle.std.proofs.Common.{◌≡◌, ℕ, ◌%◌, List, Option, Some, None, refl, sym, subst}
use Rattle.std.specs.Prelude.{length}
use Rattle.std.specs.Option.{option_map_or}
use Rattle.std.specs.FinMap as table
use Rattle.rpc_msg.specs.declared.cred.Cred.{Cred}
use Rattle.nfs_proto.specs.declared.answer.Answer.{Answer}
use Rattle.nfs_proto.specs.declared.answer.Answer.TheVariants.{Attr, Fault, Found}
use Rattle.nfs_proto.specs.declared.call.Call.{Call}
use Rattle.nfs_proto.specs.declared.call.Call.TheVariants as call
use Rattle.nfs_proto.specs.declared.stamp.Stamp.{Stamp}
use Rattle.fs_layout.specs.Handles.{handle_words}
use Rattle.fs_layout.specs.Words.{spelled}
use Rattle.fs_rules.specs.declared.file.File.{File}
use Rattle.fs_rules.specs.declared.plain_tree.PlainTree.{PlainTree}
use Rattle.fs_rules.specs.Arguments.{file_of}
use Rattle.fs_rules.specs.Edits.{Edit, edited}
use Rattle.fs_rules.specs.File.{fattr_of}
use Rattle.fs_rules.specs.Handle.{handle, number_in}
use Rattle.fs_rules.specs.Reading.{attr_at, found_at, lookup_answer, read_answer, read_dir_answer, read_link_answer, space_answer, target}
use Rattle.fs_rules.specs.Respond.{IsTold, answer_of, checks, decided, edits_of, respond}
use Rattle.fs_rules.specs.Statuses.{Check, first_failure, noent, stale}
use Rattle.fs_laws.proofs.ToldLemmas.{answers_can_be_told}
use Rattle.mini_tx.specs.FlatMemory.{reads}
use Rattle.nfs_service.specs.Reply.{HasHandle}
use Rattle.reply_laws.specs.Laws.{GrantedFinalsAnswer}

-- ---- the handles of the rules are whole

whole_handle : (n g : ℕ) → length (handle n g) ≡ 32
unfolding spelled handle_words
whole_handle n g = refl

attr_whole : (t : PlainTree) (n : ℕ) → HasHandle (attr_at t n)
attr_whole t n = elim (table.get t.files n) as (λ (p : Option File). HasHandle (option_map_or (λ f. Attr (fattr_of n f)) p (Fault stale))) [
  | None ↦ tt
  | Some f ↦ tt
]

found_whole : (t : PlainTree) (n : ℕ) → HasHandle (found_at t n)
found_whole t n = elim (table.get t.files n) as (λ (p : Option File). HasHandle (option_map_or (λ f. Found (record { 0 = handle n f.generation }) (fattr_of n f)) p (Fault stale))) [
  | None ↦ tt
  | Some f ↦ whole_handle n f.generation
]

lookup_whole : (t : PlainTree) (n : ℕ) (f : File) (name : List ℕ) → HasHandle (lookup_answer t n f name)
unfolding lookup_answer
lookup_whole t n f name = elim (target n f name) as (λ (p : Option ℕ). HasHandle (option_map_or (found_at t) p (Fault noent))) [
  | None ↦ tt
  | Some m ↦ found_whole t m
]

of_file : (t : PlainTree) (name : List ℕ) (answer : ℕ → File → Answer) → ((n : ℕ) (f : File) → HasHandle (answer n f))
    → HasHandle (option_map_or (answer (number_in name)) (file_of t name) (Fault stale))
of_file t name answer each = elim (file_of t name) as (λ (p : Option File). HasHandle (option_map_or (answer (number_in name)) p (Fault stale))) [
  | None ↦ tt
  | Some f ↦ each (number_in name) f
]

answer_whole : (t : PlainTree) (c : Call) → HasHandle (answer_of t c)
unfolding read_link_answer read_answer read_dir_answer space_answer
answer_whole t call.Null = tt
answer_whole t (call.GetAttr file) = attr_whole t (number_in file.0)
answer_whole t (call.SetAttr file set) = attr_whole t (number_in file.0)
answer_whole t call.Root = tt
answer_whole t (call.Lookup dir name) = of_file t dir.0 (λ n d. lookup_answer t n d name) (λ n d. lookup_whole t n d name)
answer_whole t (call.ReadLink file) = of_file t file.0 (λ n f. read_link_answer f) (λ n f. tt)
answer_whole t (call.Read file offset count total) = of_file t file.0 (λ n f. read_answer n f offset count) (λ n f. tt)
answer_whole t call.WriteCache = tt
answer_whole t (call.Write file begin offset total bytes) = attr_whole t (number_in file.0)
answer_whole t (call.Create dir name set) = of_file t dir.0 (λ n d. lookup_answer t n d name) (λ n d. lookup_whole t n d name)
answer_whole t (call.Remove dir name) = tt
answer_whole t (call.Rename from from_name to to_name) = tt
answer_whole t (call.Link file dir name) = tt
answer_whole t (call.SymLink dir name path set) = tt
answer_whole t (call.MakeDir dir name set) = of_file t dir.0 (λ n d. lookup_answer t n d name) (λ n d. lookup_whole t n d name)
answer_whole t (call.RemoveDir dir name) = tt
answer_whole t (call.ReadDir dir cookie count) = of_file t dir.0 (λ n d. read_dir_answer n d cookie count) (λ n d. tt)
answer_whole t (call.StatFs file) = tt

decided_whole : (c : Check) (t : PlainTree) (call : Call) (now : Stamp) (es : List Edit) → HasHandle (decided c t call now es).answer
decided_whole None t call now es = answer_whole (edited now t es) call
decided_whole (Some status) t call now es = tt

respond_whole : (t : PlainTree) (call : Call) (cred : Cred) (now : Stamp) (start : ℕ) → HasHandle (respond t call cred now start).answer
unfolding respond
respond_whole t call cred now start = decided_whole (first_failure (checks t call cred start (edits_of t call cred now start))) t call now (edits_of t call cred now start)

pub granted_finals_answer : GrantedFinalsAnswer
granted_finals_answer held arrival call cred now mini form made changed flat t keeps of_it match sized =
    let start = arrival % t.geometry.memories in
    let is = (keeps.does flat t of_it match).answer in
    record {
      fits = keeps.fits (reads mini flat) sized;
      told = subst (λ (a : Answer). IsTold a) (sym is) (answers_can_be_told t call cred now start of_it.stands.good);
      handle = subst (λ (a : Answer). HasHandle a) (sym is) (respond_whole t call cred now start);
    }
