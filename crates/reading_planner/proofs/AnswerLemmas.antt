-- What a call that reads makes of its reads can be told, and has a whole handle, if any.
use Rattle.std.proofs.Common.{arith, ◌≡◌, ℕ, ◌+◌, ◌≤◌, true, false, cond, Bool, List, [], ◌∷◌, ◌++◌, length, map, Option, Some, None, refl, sym, ap, subst, ◌∙◌}
use Rattle.std.specs.Prelude.{◌==◌, ◌%◌, nat_lt, bytes_eq, flat_map, is_some, not, option_and_then, option_map}
use Rattle.std.specs.Option.{option_map_or}
use Rattle.std.specs.List.{list_any}
use Rattle.std.proofs.lemmas.Bool.{eqb-true}
use Rattle.rpc_msg.specs.declared.cred.Cred.{Cred}
use Rattle.nfs_proto.specs.declared.answer.Answer.{Answer}
use Rattle.nfs_proto.specs.declared.answer.Answer.TheVariants.{Attr, Fault, Found}
use Rattle.nfs_proto.specs.declared.call.Call.{Call}
use Rattle.nfs_proto.specs.declared.call.Call.TheVariants as call
use Rattle.nfs_proto.specs.declared.handle.Handle.{Handle}
use Rattle.nfs_proto.specs.declared.stamp.Stamp.{Stamp}
use Rattle.nfs_service.specs.Reply.{HasHandle}
use Rattle.fs_layout.specs.declared.attrs.Attrs.{Attrs}
use Rattle.fs_layout.specs.Handles.{handle_words}
use Rattle.fs_layout.specs.Places.{record_at}
use Rattle.fs_layout.specs.Words.{spelled}
use Rattle.fs_rules.specs.declared.file.File.{File}
use Rattle.fs_rules.specs.Handle.{handle, number_in}
use Rattle.fs_rules.specs.Reading.{read_link_checks}
use Rattle.fs_rules.specs.Respond.{IsTold}
use Rattle.fs_rules.specs.Statuses.{fails_where, noent, stale}
use Rattle.fs_checks.specs.declared.facts.Facts.{Facts}
use Rattle.fs_checks.specs.declared.kind.Kind.{Kind}
use Rattle.fs_checks.specs.declared.kind.Kind.TheVariants as kind
use Rattle.fs_checks.specs.Facts.{bare, kind_by}
use Rattle.fs_image.specs.Stamps.{stamp}
use Rattle.mini_tx.specs.declared.item.Item.{Item}
use Rattle.mini_tx.specs.declared.item.Item.TheVariants as item
use Rattle.mini_tx.specs.Minitransactions.{bytes_of}
use Rattle.node_cache.specs.declared.entry.Entry.{Entry}
use Rattle.node_cache.specs.declared.held.Held.{Held}
use Rattle.node_cache.specs.Cached.{held_of}
use Rattle.plan_rules.specs.declared.look.Look.{Look}
use Rattle.plan_rules.specs.declared.look.Subject.{Subject}
use Rattle.plan_rules.specs.declared.look.Subject.TheVariants as subject
use Rattle.plan_rules.specs.Changes.{change_steps, reads}
use Rattle.plan_rules.specs.Compared.{block_items, compares, firsts, inode_items, is_at_blocks, is_at_inodes, items_of, subject_of}
use Rattle.plan_rules.specs.Fetched.{AreReads, read_items}
use Rattle.plan_rules.specs.Names.{target}
use Rattle.plan_rules.specs.Orders.{looked_at, order}
use Rattle.plan_rules.specs.Steps.{Step, Checks, refusal_in}
use Rattle.plan_rules.specs.Told.{inode_at, memory_at}
use Rattle.plan_rules.specs.Works.{IsWorkSet}
use Rattle.plan_forms.specs.declared.form.AnswerForm.{AnswerForm}
use Rattle.plan_forms.specs.Forms.{said}
use Rattle.content_laws.specs.Answers.{given_of, names_by, part_by, path_by}
use Rattle.read_laws.specs.Answers.{fattr_by, found_by, ready}
use Rattle.read_laws.specs.Promise.{IsReadFinal}
use Rattle.read_laws.proofs.PromiseLemmas.{read_finals_keep_promise}
use Rattle.refusal_laws.proofs.StatusLemmas.{refusals_are_told}
use Rattle.want_laws.proofs.PartLemmas.{entry_fits}
use Rattle.plan_read.specs.Readings.{IsReading, reading_of}
use Rattle.plan_read.proofs.ReadingLemmas.{readings_answer}
use Rattle.node_rules.specs.Plans.{IsAnswerable, read_sizes}
use Rattle.reading_planner.specs.Laws.{ReadFinalsAreSound}
use Rattle.reading_planner.proofs.ListingLemmas.{names_told}
use Rattle.reading_planner.proofs.SizedLemmas.{joined_sized}

-- an answer can be told, and its handle is whole
abbrev IsWhole : Answer → Type 0
IsWhole a = IsTold a × HasHandle a

-- ---- comparisons read nothing

read_behind : (xs ys : List Item) → read_items xs ≡ [] → read_items (xs ++ ys) ≡ read_items ys
read_behind [] ys none = refl
read_behind (item.Compare memory at bytes ∷ xs) ys none = read_behind xs ys none
read_behind (item.Read memory at len ∷ xs) ys none = absurd cc
read_behind (item.Write memory at bytes ∷ xs) ys none = read_behind xs ys none

where_none : (b : Bool) (xs : List Item) → read_items xs ≡ [] → read_items (cond b xs []) ≡ []
where_none true xs none = none
where_none false xs none = refl

stamp_none : (n : ℕ) (p : Option Entry) → read_items (option_map_or (λ e. item.Compare (memory_at n) (record_at (inode_at n) + 24) (stamp e.attrs) ∷ []) p []) ≡ []
stamp_none n None = refl
stamp_none n (Some e) = refl

subject_none : (held : Held) (looks : List Look) (s : Subject) → read_items (items_of held looks s) ≡ []
subject_none held looks (subject.File n) = stamp_none n (held_of n held.entries)
subject_none held looks (subject.Maps m) =
    read_behind (cond (list_any (is_at_blocks m) looks) (block_items held m) []) (cond (list_any (is_at_inodes m) looks) (inode_items held m) [])
    (where_none (list_any (is_at_blocks m) looks) (block_items held m) refl) ∙ where_none (list_any (is_at_inodes m) looks) (inode_items held m) refl

subjects_none : (held : Held) (looks : List Look) (ss : List Subject) → read_items (flat_map (items_of held looks) ss) ≡ []
subjects_none held looks [] = refl
subjects_none held looks (s ∷ ss) = read_behind (items_of held looks s) (flat_map (items_of held looks) ss) (subject_none held looks s) ∙ subjects_none held looks ss

behind_compares : (held : Held) (looks : List Look) (items : List Item) → read_items (compares held looks ++ items) ≡ read_items items
unfolding compares
behind_compares held looks items = read_behind (flat_map (items_of held looks) (firsts [] (map subject_of looks))) items (subjects_none held looks (firsts [] (map subject_of looks)))

-- ---- a link is short

kind_five : (n : ℕ) → kind_by n ≡ Some kind.Link → n ≡ 5
kind_five n is = go (n == 1) (n == 2) (n == 5) refl is
  where
    go : (a b c : Bool) → (n == 5) ≡ c → cond a (Some kind.Regular) (cond b (Some kind.Directory) (cond c (Some kind.Link) None)) ≡ Some kind.Link → n ≡ 5
    go true b c test is = absurd cc
    go false true c test is = absurd cc
    go false false true test is = eqb-true n 5 test
    go false false false test is = absurd cc

-- the facts of a record of this kind
abbrev facts_with : Attrs → Kind → Facts
facts_with a k =
    record {
      kind = k;
      mode = a.mode;
      links = a.links;
      uid = a.uid;
      gid = a.gid;
      size = a.size;
      generation = a.generation;
      change = a.change;
      atime = record { sec = a.atime_sec; usec = a.atime_usec };
      mtime = record { sec = a.mtime_sec; usec = a.mtime_usec };
      ctime = record { sec = a.ctime_sec; usec = a.ctime_usec };
    }

-- the file of a record whose handle is right
abbrev named : (File → Bool) → Attrs → Option Kind → Option File
named test a k = option_and_then (λ f. cond (test f) (Some f) None) (option_map bare (option_map (facts_with a) k))

abbrev link_steps : (File → List Step) → Option File → List Step
link_steps more p = Checks (fails_where stale (not (is_some p))) ∷ option_map_or (λ f. map Checks (read_link_checks f) ++ more f) p []

no_other : (more : File → List Step) (f : File) (b : Bool) → (refusal_in (link_steps more (Some f)) ≡ None → ⊥) → refusal_in (link_steps more (cond b (Some f) None)) ≡ None → ⊥
unfolding refusal_in
no_other more f true never passes = never passes
no_other more f false never passes = absurd cc

is_link_by : (test : File → Bool) (more : File → List Step) (a : Attrs) (k : Option Kind) → kind_by a.kind ≡ k → refusal_in (link_steps more (named test a k)) ≡ None → a.kind ≡ 5
unfolding refusal_in
is_link_by test more a None is passes = absurd cc
is_link_by test more a (Some kind.Regular) is passes = absurd (no_other more (bare (facts_with a kind.Regular)) (test (bare (facts_with a kind.Regular))) (λ never. absurd cc) passes)
is_link_by test more a (Some kind.Directory) is passes = absurd (no_other more (bare (facts_with a kind.Directory)) (test (bare (facts_with a kind.Directory))) (λ never. absurd cc) passes)
is_link_by test more a (Some kind.Link) is passes = kind_five a.kind is

-- ---- each answer

whole_handle : (n g : ℕ) → length (handle n g) ≡ 32
unfolding spelled handle_words
whole_handle n g = refl

attr_whole : (n : ℕ) (p : Option Entry) (rs : List (List ℕ)) → IsWhole (said (ready (option_map_or (λ e. Attr (fattr_by n e.attrs)) p (Fault stale))).form rs)
attr_whole n None rs = ((refl, tt), tt)
attr_whole n (Some e) rs = ((tt, tt), tt)

found_by_test : (m : ℕ) (a : Attrs) (b : Bool) → IsWhole (cond b (Fault stale) (Found (record { 0 = handle m a.generation }) (fattr_by m a)))
found_by_test m a true = ((refl, tt), tt)
found_by_test m a false = ((tt, tt), whole_handle m a.generation)

found_by_entry : (m : ℕ) (p : Option Entry)
    → IsWhole (option_map_or (λ e. cond (e.attrs.kind == 0) (Fault stale) (Found (record { 0 = handle m e.attrs.generation }) (fattr_by m e.attrs))) p (Fault stale))
found_by_entry m None = ((refl, tt), tt)
found_by_entry m (Some e) = found_by_test m e.attrs (e.attrs.kind == 0)

found_whole : (held : Held) (p : Option ℕ) → IsWhole (option_map_or (found_by held) p (Fault noent))
found_whole held None = ((refl, tt), tt)
found_whole held (Some m) = found_by_entry m (held_of m held.entries)

module _ (held : Held) (work : IsWorkSet held) where
  path_whole : (n : ℕ) (p : Option Entry) → ((e : Entry) → p ≡ Some e → e.attrs.size ≤ 1024) → (rs : List (List ℕ))
      → AreReads (option_map_or (λ e. path_by held n e.attrs) p (ready (Fault stale))).items rs → IsWhole (said (option_map_or (λ e. path_by held n e.attrs) p (ready (Fault stale))).form rs)
  path_whole n None small rs sized = ((refl, tt), tt)
  path_whole n (Some e) small rs sized =
      let most = small e refl in
      ((omega (arith, most, joined_sized held n 0 e.attrs.size rs sized), tt), tt)

  part_whole : (n offset count : ℕ) (p : Option Entry) (rs : List (List ℕ))
      → AreReads (option_map_or (λ e. part_by held n offset (given_of e.attrs.size offset count) e.attrs) p (ready (Fault stale))).items rs
      → IsWhole (said (option_map_or (λ e. part_by held n offset (given_of e.attrs.size offset count) e.attrs) p (ready (Fault stale))).form rs)
  part_whole n offset count None rs sized = ((refl, tt), tt)
  part_whole n offset count (Some e) rs sized =
      ((omega (arith, joined_sized held n offset (given_of e.attrs.size offset count) rs sized), tt), tt)

  names_whole : (n cookie count : ℕ) (p : Option Entry) (rs : List (List ℕ)) → IsWhole (said (option_map_or (λ e. names_by held n cookie count e.attrs) p (ready (Fault stale))).form rs)
  names_whole n cookie count None rs = ((refl, tt), tt)
  names_whole n cookie count (Some e) rs = (names_told held n e.attrs.parent cookie count work, tt)

  -- the path of a link that passes its checks is no longer than one
  link_small : (arrival : ℕ) (file : Handle) (cred : Cred) → refusal_in (order held arrival (call.ReadLink file) cred) ≡ None
      → (e : Entry) → held_of (number_in file.0) held.entries ≡ Some e → e.attrs.size ≤ 1024
  unfolding order refusal_in
  link_small arrival file cred passes e here =
      let n = number_in file.0 in
      let more = λ (f : File). change_steps held (arrival % held.geometry.memories) (reads n (nat_lt 0 f.size)) in
      let of_it : refusal_in (link_steps more (named (λ f. bytes_eq file.0 (handle n f.generation)) e.attrs (kind_by e.attrs.kind))) ≡ None =
      subst (λ (p : Option Entry). refusal_in (link_steps more (option_and_then (λ f. cond (bytes_eq file.0 (handle n f.generation)) (Some f) None)
      (option_map_or (λ x. option_map bare (option_map (facts_with x.attrs) (kind_by x.attrs.kind))) p None))) ≡ None) here passes in
      let kind = is_link_by (λ f. bytes_eq file.0 (handle n f.generation)) more e.attrs (kind_by e.attrs.kind) refl of_it in
      let most = (entry_fits held work n e here).attrs.size in
      subst (λ k. e.attrs.size ≤ cond (k == 5) 1024 (cond (k == 2) 2088960 16711680)) kind most

  answers_whole : (arrival : ℕ) (c : Call) (cred : Cred) → IsReading c → refusal_in (order held arrival c cred) ≡ None → (rs : List (List ℕ)) → AreReads (reading_of held c).items rs
      → IsWhole (said (reading_of held c).form rs)
  answers_whole arrival (call.GetAttr file) cred is passes rs sized = attr_whole (number_in file.0) (held_of (number_in file.0) held.entries) rs
  answers_whole arrival (call.Lookup dir name) cred is passes rs sized = found_whole held (target held (number_in dir.0) name)
  answers_whole arrival (call.ReadLink file) cred is passes rs sized = path_whole (number_in file.0) (held_of (number_in file.0) held.entries) (link_small arrival file cred passes) rs sized
  answers_whole arrival (call.Read file offset count total) cred is passes rs sized = part_whole (number_in file.0) offset count (held_of (number_in file.0) held.entries) rs sized
  answers_whole arrival (call.ReadDir dir cookie count) cred is passes rs sized = names_whole (number_in dir.0) cookie count (held_of (number_in dir.0) held.entries) rs
  answers_whole arrival (call.StatFs file) cred is passes rs sized = ((tt, tt), tt)
  answers_whole arrival _ cred is passes rs sized = absurd is

  -- ---- finals

  module _ (arrival : ℕ) (c : Call) (cred : Cred) (mini : List Item) (form : AnswerForm) (is : IsReading c) (final : IsReadFinal held arrival c cred (reading_of held c) mini form) where
    final_whole : (q : Option ℕ) → refusal_in (order held arrival c cred) ≡ q → (rs : List (List ℕ)) → AreReads mini rs → IsWhole (said form rs)
    final_whole (Some status) fails rs sized =
        subst (λ (f : AnswerForm). IsWhole (said f rs)) (sym (final.refused status fails).1) ((refusals_are_told held arrival c cred status fails, tt), tt)
    final_whole None passes rs sized =
        let made = final.answers passes in
        subst (λ (f : AnswerForm). IsWhole (said f rs)) (sym made.1)
        (answers_whole arrival c cred is passes rs
        (sized ∙ ap (λ (items : List Item). map bytes_of (read_items items)) made.0
        ∙ ap (map bytes_of) (behind_compares held (looked_at held arrival c cred) (reading_of held c).items)))

    pub sound : IsAnswerable (read_sizes mini) form
    sound =
        let now : Stamp = record { sec = 0; usec = 0 } in
        record {
          takes = (read_finals_keep_promise held arrival c cred now (reading_of held c) mini form work (readings_answer held arrival c cred now work is) final).fits;
          told = λ rs sized. (final_whole (refusal_in (order held arrival c cred)) refl rs sized).0;
          handle = λ rs sized. (final_whole (refusal_in (order held arrival c cred)) refl rs sized).1;
        }

pub read_finals_are_sound : ReadFinalsAreSound
read_finals_are_sound held arrival c cred mini form work is final = sound held work arrival c cred mini form is final
