-- The arguments of the two programs are a grammar.
use Rattle.std.proofs.Common.{◌≡◌, ℕ, ◌≤◌, Bool, true, false, cond, eqb, ◌||◌, List, Option, Some, None, Result, Ok, Err, lit<, refl, sym, ap, subst, ◌∙◌, arith}
use Rattle.std.specs.Prelude.{slice_get}
use Rattle.std.proofs.lemmas.Bool.{eqb-true, eq-eqb}
use Rattle.std.proofs.lemmas.Option.{slice_get_within}
use Rattle.sfs_base.specs.Reading.{IsBytes, IsExact}
use Rattle.sfs_xdr.specs.Codec.{Reading, text_item, IsText}
use Rattle.sfs_xdr.specs.CodecLemmas.{text_exact}
use Rattle.rpc_msg.specs.Heard.{IsGrammar}
use Rattle.nfs_proto.specs.declared.call.Call.{Call}
use Rattle.nfs_proto.specs.declared.call.Call.TheVariants as call
use Rattle.nfs_proto.specs.Arguments.{procedure_of, IsArguments, readers, read_by, arguments_of}
use Rattle.nfs_proto.proofs.ArgumentLaws.{arguments_exact}
use Rattle.nfs_service.specs.declared.service_arguments.ServiceArguments.{ServiceArguments}
use Rattle.nfs_service.specs.declared.service_arguments.ServiceArguments.TheVariants as arguments
use Rattle.nfs_service.specs.Arguments.{Begun, takes_path, takes_nothing, BeginsWith, files, path, read_mount, read_service}

-- reading that succeeds is of a procedure that is there
is_there : (procedure : ℕ) (bytes : List ℕ) (x : Call × List ℕ) → arguments_of procedure bytes ≡ Ok x → procedure ≤ 17
unfolding arguments_of
is_there procedure bytes x is = by_place (slice_get readers procedure) refl is where
  by_place : (o : Option (Reading Call)) → slice_get readers procedure ≡ o → read_by o bytes ≡ Ok x → procedure ≤ 17
  by_place None e same = absurd cc
  by_place (Some read) e same = omega (arith, slice_get_within readers procedure read e)

-- and so is every call
call_there : (c : Call) → procedure_of c ≤ 17
call_there call.Null = omega arith
call_there (call.GetAttr file) = omega arith
call_there (call.SetAttr file set) = omega arith
call_there call.Root = omega arith
call_there (call.Lookup dir name) = omega arith
call_there (call.ReadLink file) = omega arith
call_there (call.Read file offset count total) = omega arith
call_there call.WriteCache = omega arith
call_there (call.Write file begin offset total bytes) = omega arith
call_there (call.Create dir name set) = omega arith
call_there (call.Remove dir name) = omega arith
call_there (call.Rename from from_name to to_name) = omega arith
call_there (call.Link file dir name) = omega arith
call_there (call.SymLink dir name target set) = omega arith
call_there (call.MakeDir dir name set) = omega arith
call_there (call.RemoveDir dir name) = omega arith
call_there (call.ReadDir dir cookie count) = omega arith
call_there (call.StatFs file) = omega arith

text : IsExact (text_item 1024) (IsText 1024)
text = text_exact 1024 (lit< tt)

-- bytes that begin with a call's arguments are read as this call
files_again : (procedure : ℕ) (c : Call) (bytes : List ℕ) → procedure_of c ≡ procedure → Begun (IsArguments c) bytes → files (arguments_of procedure bytes) ≡ Some (arguments.Files c)
files_again procedure c bytes same begun =
    let there : procedure ≤ 17 = subst (λ (n : ℕ). n ≤ 17) same (call_there c) in
    ap files (ap (arguments_of procedure) begun.3 ∙ (arguments_exact procedure there).again c begun.0 begun.1 (same, begun.2))

path_again : (p bytes : List ℕ) → Begun (IsText 1024 p) bytes → path (text_item 1024 bytes) ≡ Some (arguments.Path p)
path_again p bytes begun = ap path (ap (text_item 1024) begun.3 ∙ text.again p begun.0 begun.1 begun.2)

files_found : (procedure : ℕ) (bytes : List ℕ) → IsBytes bytes → (r : Result (Call × List ℕ) (Unit {0})) → arguments_of procedure bytes ≡ r
    → (a : ServiceArguments) → files r ≡ Some a → BeginsWith 100003 procedure a bytes
files_found procedure bytes fits (Ok x) e a is =
    let found = (arguments_exact procedure (is_there procedure bytes x e)).found bytes x.0 x.1 fits e in
    let same : arguments.Files x.0 ≡ a = cc is in
    subst (λ (b : ServiceArguments). BeginsWith 100003 procedure b bytes) same (refl, found.1.0, (found.0, x.1, found.1.1, found.2))
files_found procedure bytes fits (Err fault) e a is = absurd (cc is)

path_found : (procedure : ℕ) (bytes : List ℕ) → IsBytes bytes → takes_path procedure ≡ true → (r : Result (List ℕ × List ℕ) (Unit {0})) → text_item 1024 bytes ≡ r
    → (a : ServiceArguments) → path r ≡ Some a → BeginsWith 100005 procedure a bytes
path_found procedure bytes fits takes (Ok x) e a is =
    let found = text.found bytes x.0 x.1 fits e in
    let same : arguments.Path x.0 ≡ a = cc is in
    subst (λ (b : ServiceArguments). BeginsWith 100005 procedure b bytes) same (refl, takes, (found.0, x.1, found.1, found.2))
path_found procedure bytes fits takes (Err fault) e a is = absurd (cc is)

mount_found : (procedure : ℕ) (bytes : List ℕ) → IsBytes bytes → (b c : Bool) → takes_path procedure ≡ b → takes_nothing procedure ≡ c
    → (a : ServiceArguments) → ◌≡◌ {A = Option ServiceArguments} (cond b (path (text_item 1024 bytes)) (cond c (Some arguments.Nothing) None)) (Some a)
    → BeginsWith 100005 procedure a bytes
mount_found procedure bytes fits true c takes nothing a is = path_found procedure bytes fits takes (text_item 1024 bytes) refl a is
mount_found procedure bytes fits false true takes nothing a is =
    let same : arguments.Nothing ≡ a = cc is in
    subst (λ (b : ServiceArguments). BeginsWith 100005 procedure b bytes) same (refl, nothing)
mount_found procedure bytes fits false false takes nothing a is = absurd (cc is)

found : (program procedure : ℕ) (bytes : List ℕ) → IsBytes bytes → (b c : Bool) → eqb program 100003 ≡ b → eqb program 100005 ≡ c → (a : ServiceArguments)
    → ◌≡◌ {A = Option ServiceArguments} (cond b (files (arguments_of procedure bytes)) (cond c (read_mount procedure bytes) None)) (Some a) → BeginsWith program procedure a bytes
found program procedure bytes fits true c first second a is =
    subst (λ (n : ℕ). BeginsWith n procedure a bytes) (sym (eqb-true program 100003 first)) (files_found procedure bytes fits (arguments_of procedure bytes) refl a is)
found program procedure bytes fits false true first second a is =
    subst (λ (n : ℕ). BeginsWith n procedure a bytes) (sym (eqb-true program 100005 second))
    (mount_found procedure bytes fits (takes_path procedure) (takes_nothing procedure) refl refl a is)
found program procedure bytes fits false false first second a is = absurd (cc is)

-- a procedure takes a path or nothing
not_both : (procedure : ℕ) → takes_nothing procedure ≡ true → takes_path procedure ≡ false
not_both procedure e = by_tests (eqb procedure 1) (eqb procedure 3) refl refl where
  by_tests : (b c : Bool) → eqb procedure 1 ≡ b → eqb procedure 3 ≡ c → takes_path procedure ≡ false
  by_tests true c first second = let other = subst (λ n. takes_nothing n ≡ true) (eqb-true procedure 1 first) e in absurd (cc other)
  by_tests false true first second = let other = subst (λ n. takes_nothing n ≡ true) (eqb-true procedure 3 second) e in absurd (cc other)
  by_tests false false first second = ap (λ b. b || eqb procedure 3) first ∙ second

-- what bytes begin with is what reading gives
again : (program procedure : ℕ) (a : ServiceArguments) (bytes : List ℕ) → BeginsWith program procedure a bytes → read_service program procedure bytes ≡ Some a
again program procedure (arguments.Files c) bytes is =
    ap (λ b. cond b (files (arguments_of procedure bytes)) (cond (eqb program 100005) (read_mount procedure bytes) None)) (eq-eqb program 100003 is.0)
    ∙ files_again procedure c bytes is.1 is.2
again program procedure (arguments.Path p) bytes is =
    ap (λ n. read_service n procedure bytes) is.0
    ∙ ap (λ b. cond b (path (text_item 1024 bytes)) (cond (takes_nothing procedure) (Some arguments.Nothing) None)) is.1 ∙ path_again p bytes is.2
again program procedure arguments.Nothing bytes is =
    ap (λ n. read_service n procedure bytes) is.0
    ∙ ap (λ b. cond b (path (text_item 1024 bytes)) (cond (takes_nothing procedure) (Some arguments.Nothing) None)) (not_both procedure is.1)
    ∙ ap (λ b. cond b (Some arguments.Nothing) None) is.1

pub service_grammar : IsGrammar BeginsWith read_service
service_grammar = record {
  found = λ program procedure a bytes fits e. found program procedure bytes fits (eqb program 100003) (eqb program 100005) refl refl a e;
  none = λ program procedure bytes e a is. let both = again program procedure a bytes is in absurd (cc (e, both));
  one = λ program procedure a b bytes first second.
      let one = again program procedure a bytes first in
      let two = again program procedure b bytes second in
      cc (one, two);
}
