-- READLINK and READ.
use Rattle.std.proofs.Common.{◌≡◌, ℕ, true, false, Bool, List, [], ◌∷◌, ◌++◌, map, Option, Some, None, refl, sym, ap, subst, ◌∙◌, arith}
use Rattle.std.specs.Prelude.{◌||◌, ◌==◌, ◌%◌, nat_lt, not}
use Rattle.std.specs.Option.{option_map_or}
use Rattle.std.specs.FinMap as table
use Rattle.std.proofs.lemmas.Bool.Decides.{nat_tests}
use Rattle.rpc_msg.specs.declared.cred.Cred.{Cred}
use Rattle.nfs_proto.specs.declared.answer.Answer.TheVariants.{Fault, Path, Part}
use Rattle.nfs_proto.specs.declared.call.Call.{Call}
use Rattle.nfs_proto.specs.declared.call.Call.TheVariants as call
use Rattle.nfs_proto.specs.declared.fattr.Fattr.{Fattr}
use Rattle.nfs_proto.specs.declared.handle.Handle.{Handle}
use Rattle.nfs_proto.specs.declared.stamp.Stamp.{Stamp}
use Rattle.fs_rules.specs.declared.content.Content.{Content}
use Rattle.fs_rules.specs.declared.content.Content.TheVariants.{Regular, Directory, Link}
use Rattle.fs_rules.specs.declared.file.File.{File}
use Rattle.fs_rules.specs.declared.plain_tree.PlainTree.{PlainTree}
use Rattle.fs_rules.specs.Access.{may}
use Rattle.fs_rules.specs.Arguments as rules
use Rattle.fs_rules.specs.Contents.{part}
use Rattle.fs_rules.specs.File.{blocks_of, is_directory, is_link}
use Rattle.fs_rules.specs.Good.{IsGood}
use Rattle.fs_rules.specs.Handle.{number_in}
use Rattle.fs_rules.specs.Reading.{read_answer, read_checks, read_link_answer, read_link_checks}
use Rattle.fs_rules.specs.Statuses.{fails_where, first_failure, acces, isdir, nxio, stale}
use Rattle.fs_checks.proofs.FactsLemmas.{read_looks}
use Rattle.mini_tx.specs.FlatMemory.{Flat, reads}
use Rattle.fs_image.specs.Owners.{Owners, Chain}
use Rattle.fs_image.specs.Parts.{live_inode}
use Rattle.fs_image.specs.Stands.{Shows}
use Rattle.node_cache.specs.declared.held.Held.{Held}
use Rattle.node_cache.specs.declared.want.Want.TheVariants as want
use Rattle.plan_rules.specs.Changes as changes
use Rattle.plan_rules.specs.Changes.{change_steps}
use Rattle.plan_rules.specs.Matched.{IsOwnFile}
use Rattle.plan_rules.specs.Orders.{order}
use Rattle.plan_rules.specs.Steps.{Step, Checks, is_held, wanted_in}
use Rattle.plan_rules.specs.Told.{chains_of}
use Rattle.plan_rules.specs.Works.{IsWorkSet}
use Rattle.plan_forms.specs.declared.plan.Reading.{Reading}
use Rattle.plan_forms.specs.Forms.{joined, said}
use Rattle.read_laws.specs.Answers.{fattr_by, ready}
use Rattle.read_laws.specs.Laws.{AnswersAs, IsPlannedOver}
use Rattle.read_laws.proofs.OwnLemmas.{fattr_live, plain}
use Rattle.content_laws.specs.Answers.{given_of, part_by, part_pieces, part_reads, path_by, read_by, read_link_by}
use Rattle.content_laws.specs.Chains.{chains_where}
use Rattle.content_laws.specs.Laws.{ReadAnswers, ReadLinkAnswers}
use Rattle.content_laws.proofs.FileLemmas as file
use Rattle.content_laws.proofs.FileLemmas.{IsFileCall, file_answers}
use Rattle.content_laws.proofs.JoinLemmas.{joined_none, joined_part}
use Rattle.content_laws.proofs.PlaceLemmas.{blocks_lie, says_file}
use Rattle.content_laws.proofs.StepLemmas.{chains_held, change_alike, change_refuses}

link_looks : (f : File) (c : Content) → f.content ≡ c → read_link_checks (plain f) ≡ read_link_checks f
link_looks f (Regular blocks) is = rw is refl
link_looks f (Directory slots parent) is = rw is refl
link_looks f (Link blocks) is = rw is refl

-- what may be read has no names
link_reads : (f : File) (c : Content) → f.content ≡ c → first_failure (read_link_checks f) ≡ None → is_directory f.content ≡ false
unfolding first_failure
link_reads f (Regular blocks) is passes = ap is_directory is
link_reads f (Directory slots parent) is passes = absurd (let fails = subst (λ (x : Content). first_failure (fails_where nxio (not (is_link x)) ∷ []) ≡ None) is passes in cc)
link_reads f (Link blocks) is passes = ap is_directory is

part_reads_bytes : (f : File) (cred : Cred) (c : Content) → f.content ≡ c → first_failure (read_checks f cred) ≡ None → is_directory f.content ≡ false
unfolding first_failure
part_reads_bytes f cred (Regular blocks) is passes = ap is_directory is
part_reads_bytes f cred (Directory slots parent) is passes =
    absurd (let fails = subst (λ (x : Content). first_failure (fails_where isdir (is_directory x) ∷ fails_where nxio (is_link x) ∷ fails_where acces (not (may f cred 4 || may f cred 1)) ∷ []) ≡ None) is passes in cc)
part_reads_bytes f cred (Link blocks) is passes = ap is_directory is

-- ---- bytes that are read

where_some : (held : Held) (n count : ℕ) → wanted_in held (chains_where held n (nat_lt 0 count)) ≡ None → (count == 0) ≡ false → wanted_in held (chains_where held n true) ≡ None
where_some held n count none some =
    let more : nat_lt 0 count ≡ true = grind (arith, nat_tests, some) in
    ap (λ b. wanted_in held (chains_where held n b)) (sym more) ∙ none

module _ (held : Held) (flat : Flat) (t : PlainTree) (o : Owners) (work : IsWorkSet held) (same : held.geometry ≡ t.geometry) (shows : Shows flat t o) (good : IsGood t)
    (n : ℕ) (f : File) (there_is : table.get t.files n ≡ Some f) (there : is_held held (want.Inode n) ≡ true) (own : IsOwnFile t.geometry flat o held n)
    (bytes : is_directory f.content ≡ false) (offset count : ℕ) (none : wanted_in held (chains_where held n (nat_lt 0 count)) ≡ None) where
  joined_by : (b : Bool) → (count == 0) ≡ b → joined (part_pieces held n offset count) (reads (part_reads held n offset count) flat) ≡ part (blocks_of f.content) offset count
  joined_by true nothing = joined_none held n flat (blocks_of f.content) offset count nothing
  joined_by false some =
      joined_part held n flat (blocks_of f.content) offset count
      (blocks_lie held flat t o work same shows good n f there_is there own (chains_held held n (chains_of held n) (where_some held n count none some)) bytes) some

  pub bytes_joined : joined (part_pieces held n offset count) (reads (part_reads held n offset count) flat) ≡ part (blocks_of f.content) offset count
  bytes_joined = joined_by (count == 0) refl

-- ---- READLINK

module _ (held : Held) (flat : Flat) (t : PlainTree) (o : Owners) (arrival : ℕ) (cred : Cred) (now : Stamp) (start : ℕ) (link : Handle)
    (over : IsPlannedOver held flat t o arrival (call.ReadLink link) cred) where
  abbrev m : ℕ
  m = arrival % held.geometry.memories

  abbrev here : ℕ
  here = number_in link.0

  abbrev path_steps : File → List Step
  path_steps f = change_steps held m (changes.reads here (nat_lt 0 f.size))

  link_call : IsFileCall held t arrival (call.ReadLink link) cred link
  unfolding order rules.argument_checks
  link_call =
      record {
        rest = λ p. option_map_or (λ (f : File). map Checks (read_link_checks f) ++ path_steps f) p [];
        order_is = refl;
        row = read_link_checks;
        more = path_steps;
        rest_is = λ f. refl;
        alike = λ f. link_looks f f.content refl;
        passes = λ f. change_refuses held m here (nat_lt 0 f.size);
        checks = λ p. option_map_or (λ (f : File). read_link_checks f) p [];
        checks_are = refl;
        row_is = λ f. refl;
      }

  path_is : file.AnswersHere held flat t o arrival (call.ReadLink link) cred now start link over link_call refl (read_link_by held here)
  unfolding read_link_answer link_call
  path_is f live passes none =
      let there = file.there held flat t o arrival (call.ReadLink link) cred now start link over link_call refl in
      let own = file.own held flat t o arrival (call.ReadLink link) cred now start link over link_call refl in
      let there_is = file.there_is held flat t o arrival (call.ReadLink link) cred now start link over link_call refl f live in
      let bytes = link_reads f f.content refl passes in
      let chains_none : wanted_in held (chains_where held here (nat_lt 0 f.size)) ≡ None = sym (change_alike held m here (nat_lt 0 f.size)).wanted ∙ none in
      let says = says_file held flat t o over.work over.same over.shows over.good here f there_is there own in
      ap (λ (p : Option File). option_map_or (λ (g : File). read_link_answer g) p (Fault stale)) live
      ∙ ap Path (sym (bytes_joined held flat t o over.work over.same over.shows over.good here f there_is there own bytes 0 f.size chains_none))
      ∙ ap (λ (r : Reading). said r.form (reads r.items flat)) (sym (says (ready (Fault stale)) (path_by held here)))

  pub read_link_as : AnswersAs held flat t arrival (call.ReadLink link) cred now start (read_link_by held here)
  read_link_as = file_answers held flat t o arrival (call.ReadLink link) cred now start link over link_call refl (read_link_by held here) path_is

pub read_link_answers : ReadLinkAnswers
read_link_answers held flat t o arrival cred now start link over = read_link_as held flat t o arrival cred now start link over

-- ---- READ

module _ (held : Held) (flat : Flat) (t : PlainTree) (o : Owners) (arrival : ℕ) (cred : Cred) (now : Stamp) (start : ℕ) (name : Handle) (offset count total : ℕ)
    (over : IsPlannedOver held flat t o arrival (call.Read name offset count total) cred) where
  abbrev read : Call
  read = call.Read name offset count total

  abbrev at : ℕ
  at = number_in name.0

  abbrev from_node : ℕ
  from_node = arrival % held.geometry.memories

  abbrev part_steps : File → List Step
  part_steps f = change_steps held from_node (changes.reads at (nat_lt 0 (given_of f.size offset count)))

  part_call : IsFileCall held t arrival read cred name
  unfolding order rules.argument_checks
  part_call =
      record {
        rest = λ p. option_map_or (λ (f : File). map Checks (read_checks f cred) ++ part_steps f) p [];
        order_is = refl;
        row = λ f. read_checks f cred;
        more = part_steps;
        rest_is = λ f. refl;
        alike = read_looks cred;
        passes = λ f. change_refuses held from_node at (nat_lt 0 (given_of f.size offset count));
        checks = λ p. option_map_or (λ (f : File). read_checks f cred) p [];
        checks_are = refl;
        row_is = λ f. refl;
      }

  part_is : file.AnswersHere held flat t o arrival read cred now start name over part_call refl (read_by held at offset count)
  unfolding read_answer part_call
  part_is f live passes none =
      let there = file.there held flat t o arrival read cred now start name over part_call refl in
      let own = file.own held flat t o arrival read cred now start name over part_call refl in
      let there_is = file.there_is held flat t o arrival read cred now start name over part_call refl f live in
      let bytes = part_reads_bytes f cred f.content refl passes in
      let given = given_of f.size offset count in
      let chains_none : wanted_in held (chains_where held at (nat_lt 0 given)) ≡ None = sym (change_alike held from_node at (nat_lt 0 given)).wanted ∙ none in
      let says = says_file held flat t o over.work over.same over.shows over.good at f there_is there own in
      let joined_is = bytes_joined held flat t o over.work over.same over.shows over.good at f there_is there own bytes offset given chains_none in
      ap (λ (p : Option File). option_map_or (λ (g : File). read_answer at g offset count) p (Fault stale)) live
      ∙ ap (λ (a : Fattr). Part a (part (blocks_of f.content) offset given)) (sym (fattr_live t at f over.good there_is (o.place at (Chain 0))))
      ∙ ap (Part (fattr_by at (live_inode f (o.place at (Chain 0))))) (sym joined_is)
      ∙ ap (λ (r : Reading). said r.form (reads r.items flat))
      (sym (says (ready (Fault stale)) (λ a. part_by held at offset (given_of a.size offset count) a)))

  pub read_as : AnswersAs held flat t arrival read cred now start (read_by held at offset count)
  read_as = file_answers held flat t o arrival read cred now start name over part_call refl (read_by held at offset count) part_is

pub read_answers : ReadAnswers
read_answers held flat t o arrival cred now start name offset count total over = read_as held flat t o arrival cred now start name offset count total over
