-- A final that reads keeps its promise.
use Rattle.std.proofs.Common.{arith, ◌≡◌, ℕ, ◌+◌, ◌%◌, true, false, cond, Bool, IsTrue, List, [], ◌∷◌, ◌++◌, Option, Some, None, refl, sym, ap, subst, ◌∙◌}
use Rattle.std.specs.Prelude.{All, ◌/◌, nat_eq, drop, map, take, unwrap_or}
use Rattle.std.specs.Option.{option_map_or}
use Rattle.std.specs.List.{list_any, AllByRecursion}
use Rattle.std.proofs.lemmas.Bool.{eqb-true}
use Rattle.std.proofs.lemmas.List.{drop-drop, drop-take, take-take}
use Rattle.std.proofs.lemmas.List.Elements.{All-from_recursion, recursion_from_All}
use Rattle.rpc_msg.specs.declared.cred.Cred.{Cred}
use Rattle.nfs_proto.specs.declared.answer.Answer.{Answer}
use Rattle.nfs_proto.specs.declared.answer.Answer.TheVariants.{Fault}
use Rattle.nfs_proto.specs.declared.call.Call.{Call}
use Rattle.nfs_proto.specs.declared.stamp.Stamp.{Stamp}
use Rattle.fs_rules.specs.declared.plain_tree.PlainTree.{PlainTree}
use Rattle.fs_rules.specs.Respond.{Responded, respond}
use Rattle.mini_tx.specs.declared.item.Item.{Item}
use Rattle.mini_tx.specs.declared.item.Item.TheVariants as item
use Rattle.mini_tx.specs.Minitransactions.{bytes_of, is_write}
use Rattle.mini_tx.specs.FlatMemory.{Flat, ItemMatches, Matches, after, held_by, reads}
use Rattle.fs_layout.specs.Places.{record_at}
use Rattle.fs_image.specs.Owners.{Owners}
use Rattle.fs_image.specs.Places.{block_map, inode_map}
use Rattle.fs_image.specs.Stamps.{stamp}
use Rattle.fs_image.specs.Stands.{Stands}
use Rattle.node_cache.specs.declared.entry.Entry.{Entry}
use Rattle.node_cache.specs.declared.held.Held.{Held}
use Rattle.node_cache.specs.Cached.{held_of}
use Rattle.node_cache.specs.Truth.{IsOwn}
use Rattle.plan_rules.specs.declared.look.Look.{Look}
use Rattle.plan_rules.specs.declared.look.Look.TheVariants.{Record, Chaining, Group, BlockBits, InodeBits}
use Rattle.plan_rules.specs.declared.look.Subject.{Subject}
use Rattle.plan_rules.specs.declared.look.Subject.TheVariants.{File, Maps}
use Rattle.plan_rules.specs.Compared.{subject_of, firsts, is_at_blocks, is_at_inodes, stamp_items, block_items, inode_items, items_of, compares}
use Rattle.plan_rules.specs.Matched.{IsOwnFile, IsOwnLook}
use Rattle.plan_rules.specs.Orders.{order, looked_at}
use Rattle.plan_rules.specs.Steps.{Step, part_of, is_held, refusal_in}
use Rattle.plan_rules.specs.Told.{memory_at, inode_at, block_bits, inode_bits}
use Rattle.plan_rules.specs.Works.{IsWorkSet}
use Rattle.plan_rules.proofs.MatchedLemmas.{matched_looks_are_own}
use Rattle.plan_rules.proofs.OrderLemmas.{all_looked_at_is_held}
use Rattle.plan_rules.proofs.SearchLemmas.{found_there}
use Rattle.plan_forms.specs.declared.form.AnswerForm.{AnswerForm}
use Rattle.plan_forms.specs.declared.plan.Reading.{Reading}
use Rattle.plan_rules.specs.Fetched.{AreReads, is_read, read_items}
use Rattle.plan_forms.specs.Forms.{AreReadsFor, said}
use Rattle.read_laws.specs.Laws.{AnswersAs, IsPlannedOver}
use Rattle.read_laws.specs.Promise.{AnswersCall, Does, IsTrueOf, IsOwnOf, KeepsPromise, IsReadFinal, ReadFinalsKeepPromise}
use Rattle.read_laws.proofs.MatchLemmas.{all_parts, joined, own_looks_match, page_at}

-- ---- items that compare, and items that do not write

abbrev Compares : Item → Type 0
Compares (item.Compare memory at bytes) = Unit {0}
Compares (item.Read memory at len) = ⊥
Compares (item.Write memory at bytes) = ⊥

abbrev IsNoWrite : Item → Type 0
IsNoWrite (item.Compare memory at bytes) = Unit {0}
IsNoWrite (item.Read memory at len) = Unit {0}
IsNoWrite (item.Write memory at bytes) = ⊥

compares_no_write : (items : List Item) → AllByRecursion Compares items → AllByRecursion IsNoWrite items
compares_no_write [] all = tt
compares_no_write (item.Compare memory at bytes ∷ items) all = (tt, compares_no_write items all.1)
compares_no_write (item.Read memory at len ∷ items) all = absurd all.0
compares_no_write (item.Write memory at bytes ∷ items) all = absurd all.0

reads_behind : (flat : Flat) (items others : List Item) → AllByRecursion Compares items → reads (items ++ others) flat ≡ reads others flat
reads_behind flat [] others all = refl
reads_behind flat (item.Compare memory at bytes ∷ items) others all = reads_behind flat items others all.1
reads_behind flat (item.Read memory at len ∷ items) others all = absurd all.0
reads_behind flat (item.Write memory at bytes ∷ items) others all = absurd all.0

leaves : (flat : Flat) (items : List Item) → AllByRecursion IsNoWrite items → after items flat ≡ flat
leaves flat [] all = refl
leaves flat (item.Compare memory at bytes ∷ items) all = leaves flat items all.1
leaves flat (item.Read memory at len ∷ items) all = leaves flat items all.1
leaves flat (item.Write memory at bytes ∷ items) all = absurd all.0

none_writes : (items : List Item) → AllByRecursion IsNoWrite items → list_any is_write items ≡ false
none_writes [] all = refl
none_writes (item.Compare memory at bytes ∷ items) all = none_writes items all.1
none_writes (item.Read memory at len ∷ items) all = none_writes items all.1
none_writes (item.Write memory at bytes ∷ items) all = absurd all.0

where_compares : (b : Bool) (items : List Item) → AllByRecursion Compares items → AllByRecursion Compares (cond b items [])
where_compares true items all = all
where_compares false items all = tt

stamp_compares : (held : Held) (n : ℕ) → AllByRecursion Compares (stamp_items held n)
stamp_compares held n = elim (held_of n held.entries) as (λ (p : Option Entry). AllByRecursion Compares (option_map_or (λ e. item.Compare (memory_at n) (record_at (inode_at n) + 24) (stamp e.attrs) ∷ []) p [])) [
  | None ↦ tt
  | Some e ↦ (tt, tt)
]

subject_compares : (held : Held) (looks : List Look) (s : Subject) → AllByRecursion Compares (items_of held looks s)
subject_compares held looks (File n) = stamp_compares held n
subject_compares held looks (Maps m) =
    joined Compares (cond (list_any (is_at_blocks m) looks) (block_items held m) []) (cond (list_any (is_at_inodes m) looks) (inode_items held m) [])
    (where_compares (list_any (is_at_blocks m) looks) (block_items held m) (tt, tt)) (where_compares (list_any (is_at_inodes m) looks) (inode_items held m) (tt, tt))

subjects_compare : (held : Held) (looks : List Look) (ss : List Subject) → AllByRecursion (λ s. AllByRecursion Compares (items_of held looks s)) ss
subjects_compare held looks [] = tt
subjects_compare held looks (s ∷ ss) = (subject_compares held looks s, subjects_compare held looks ss)

all_compare : (held : Held) (looks : List Look) → AllByRecursion Compares (compares held looks)
unfolding compares
all_compare held looks =
    all_parts Compares (items_of held looks) (firsts [] (map subject_of looks)) (subjects_compare held looks (firsts [] (map subject_of looks)))

-- ---- the items of a reading

no_write_by : (i : Item) → IsTrue (is_read i) → IsNoWrite i
no_write_by (item.Compare memory at bytes) is = tt
no_write_by (item.Read memory at len) is = tt
no_write_by (item.Write memory at bytes) is = absurd (let never : false ≡ true = is in cc)

reads_no_write : (items : List Item) → AllByRecursion (λ i. IsTrue (is_read i)) items → AllByRecursion IsNoWrite items
reads_no_write [] all = tt
reads_no_write (i ∷ items) all = (no_write_by i all.0, reads_no_write items all.1)

match_by : (flat : Flat) (i : Item) → IsTrue (is_read i) → ItemMatches flat i
match_by flat (item.Compare memory at bytes) is = absurd (let never : false ≡ true = is in cc)
match_by flat (item.Read memory at len) is = tt
match_by flat (item.Write memory at bytes) is = tt

reads_match : (flat : Flat) (items : List Item) → AllByRecursion (λ i. IsTrue (is_read i)) items → AllByRecursion (ItemMatches flat) items
reads_match flat [] all = tt
reads_match flat (i ∷ items) all = (match_by flat i all.0, reads_match flat items all.1)

compares_read_none : (items others : List Item) → AllByRecursion Compares items → read_items (items ++ others) ≡ read_items others
compares_read_none [] others all = refl
compares_read_none (item.Compare memory at bytes ∷ items) others all = compares_read_none items others all.1
compares_read_none (item.Read memory at len ∷ items) others all = absurd all.0
compares_read_none (item.Write memory at bytes ∷ items) others all = absurd all.0

-- ---- what a final does that leaves the tree

module _ (flat : Flat) (t : PlainTree) (stands : Stands flat t) (r : Responded) (mini : List Item) (form : AnswerForm) (answer : Answer) where
  told_does : AllByRecursion IsNoWrite mini → said form (reads mini flat) ≡ answer → r ≡ record { answer = answer; tree = t; made = None } → Does flat t r mini form None []
  told_does none told is =
      subst (λ (x : Responded). Does flat t x mini form None []) (sym is) (record {
        answer = told;
        stands = subst (λ (f : Flat). Stands f t) (sym (leaves flat mini none)) stands;
        writes = λ some. absurd (let never : true ≡ false = sym some ∙ none_writes mini none in cc);
        writes_nothing = λ nothing. refl;
        made_is = refl;
        differ = λ n some. absurd (let never : false ≡ true = some in cc);
        same = λ n none. refl;
      })

split : {X : Type 0} (P : X → Type 0) (xs ys : List X) → AllByRecursion P (xs ++ ys) → AllByRecursion P xs
split P [] ys all = tt
split P (x ∷ xs) ys all = (all.0, split P xs ys all.1)

module _ (held : Held) (arrival : ℕ) (c : Call) (cred : Cred) (now : Stamp) (reading : Reading) (mini : List Item) (form : AnswerForm) (work : IsWorkSet held)
    (of : AnswersCall held arrival c cred now reading) (final : IsReadFinal held arrival c cred reading mini form) where
  abbrev steps : List Step
  steps = order held arrival c cred

  abbrev looks : List Look
  looks = looked_at held arrival c cred

  abbrev more : List Item
  more = reading.items

  only_reads : AllByRecursion (λ i. IsTrue (is_read i)) more
  only_reads = recursion_from_All (λ i. IsTrue (is_read i)) more of.reads

  held_all : All (λ l. is_held held (part_of l) ≡ true) looks
  held_all = all_looked_at_is_held held steps final.wanted

  compared_first : (flat : Flat) (p : Option ℕ) → refusal_in steps ≡ p → Matches mini flat → AllByRecursion (ItemMatches flat) (compares held looks)
  compared_first flat (Some status) is match =
      recursion_from_All (ItemMatches flat) (compares held looks) (subst (λ (items : List Item). Matches items flat) (final.refused status is).0 match)
  compared_first flat None is match =
      split (ItemMatches flat) (compares held looks) more
      (recursion_from_All (ItemMatches flat) (compares held looks ++ more) (subst (λ (items : List Item). Matches items flat) (final.answers is).0 match))

  module _ (flat : Flat) (t : PlainTree) (of_it : IsTrueOf held flat t) (match : Matches mini flat) where
    abbrev o : Owners
    o = of_it.stands.owners

    over : IsPlannedOver held flat t o arrival c cred
    over =
        record {
          work = work;
          same = of_it.same;
          good = of_it.stands.good;
          shows = of_it.stands.shows;
          wanted = final.wanted;
          own = matched_looks_are_own held looks flat t o work of_it.same of_it.stands.shows of_it.entries held_all
              (All-from_recursion (ItemMatches flat) (compares held looks) (compared_first flat (refusal_in steps) refl match));
        }

    abbrev r : Responded
    r = respond t c cred now (arrival % t.geometry.memories)

    answers_here : AnswersAs held flat t arrival c cred now (arrival % t.geometry.memories) reading
    answers_here = of.answers flat t o over

    does_by : (p : Option ℕ) → refusal_in steps ≡ p → Does flat t r mini form None []
    does_by (Some status) is =
        let made = final.refused status is in
        told_does flat t of_it.stands r mini form (Fault status)
        (subst (λ (items : List Item). AllByRecursion IsNoWrite items) (sym made.0) (compares_no_write (compares held looks) (all_compare held looks)))
        (ap (λ (f : AnswerForm). said f (reads mini flat)) made.1) (answers_here.refused status is)
    does_by None is =
        let made = final.answers is in
        let told : said form (reads mini flat) ≡ said reading.form (reads more flat) =
        ap (λ (f : AnswerForm). said f (reads mini flat)) made.1
        ∙ ap (λ rs. said reading.form rs) (ap (λ (items : List Item). reads items flat) made.0 ∙ reads_behind flat (compares held looks) more (all_compare held looks)) in
        told_does flat t of_it.stands r mini form (said reading.form (reads more flat))
        (subst (λ (items : List Item). AllByRecursion IsNoWrite items) (sym made.0)
        (joined IsNoWrite (compares held looks) more (compares_no_write (compares held looks) (all_compare held looks)) (reads_no_write more only_reads)))
        told (answers_here.answers is)

    does : Does flat t r mini form None []
    does = does_by (refusal_in steps) refl

  module _ (flat : Flat) (t : PlainTree) (of_it : IsOwnOf held flat t) where
    abbrev p : Owners
    p = of_it.stands.owners

    own_file : (n : ℕ) → IsOwnFile t.geometry flat p held n
    own_file n e here =
        let there = found_there (λ x. nat_eq n x.number) e held.entries here in
        let number : e.number ≡ n = sym (eqb-true n e.number there.2) in
        subst (λ k. IsOwn t.geometry flat (p.place k) e) number (of_it.entries there.0 e there.1)

    own_look : (l : Look) → is_held held (part_of l) ≡ true → IsOwnLook t.geometry flat p held l
    own_look (Record n) there = own_file n
    own_look (Chaining n k) there = own_file n
    own_look (Group n g) there = own_file n
    own_look (BlockBits m) there =
        let page = page_at held looks flat t p work of_it.same of_it.stands.shows held.maps m there in
        let is : block_bits held m ≡ block_map flat m =
        ap (λ x. take 2048 (unwrap_or x [])) page.2 ∙ ap (take 2048) (of_it.maps m page.0 page.1) ∙ take-take 2048 4096 (drop 4096 (held_by flat m)) (omega arith) in
        ap (take ((t.geometry.blocks + 7) / 8)) is
    own_look (InodeBits m) there =
        let page = page_at held looks flat t p work of_it.same of_it.stands.shows held.maps m there in
        let is : inode_bits held m ≡ inode_map flat m =
        ap (λ x. drop 2048 (unwrap_or x [])) page.2 ∙ ap (drop 2048) (of_it.maps m page.0 page.1) ∙ drop-take 2048 2048 (drop 4096 (held_by flat m))
        ∙ ap (take 2048) (drop-drop 2048 4096 (held_by flat m)) in
        ap (take ((t.geometry.inodes + 7) / 8)) is

    own_looks : (ls : List Look) → AllByRecursion (λ l. is_held held (part_of l) ≡ true) ls → AllByRecursion (IsOwnLook t.geometry flat p held) ls
    own_looks [] all = tt
    own_looks (l ∷ ls) all = (own_look l all.0, own_looks ls all.1)

    first_matches : AllByRecursion (ItemMatches flat) (compares held looks)
    first_matches =
        recursion_from_All (ItemMatches flat) (compares held looks)
        (own_looks_match held looks flat t p work of_it.same of_it.stands.shows held_all
        (All-from_recursion (IsOwnLook t.geometry flat p held) looks (own_looks looks (recursion_from_All (λ l. is_held held (part_of l) ≡ true) looks held_all))))

    matches_by : (q : Option ℕ) → refusal_in steps ≡ q → Matches mini flat
    matches_by (Some status) is =
        subst (λ (items : List Item). Matches items flat) (sym (final.refused status is).0) (All-from_recursion (ItemMatches flat) (compares held looks) first_matches)
    matches_by None is =
        subst (λ (items : List Item). Matches items flat) (sym (final.answers is).0)
        (All-from_recursion (ItemMatches flat) (compares held looks ++ more)
        (joined (ItemMatches flat) (compares held looks) more first_matches (reads_match flat more only_reads)))

  fits_by : (q : Option ℕ) → refusal_in steps ≡ q → (rs : List (List ℕ)) → AreReads mini rs → AreReadsFor form rs
  fits_by (Some status) is rs all = subst (λ (f : AnswerForm). AreReadsFor f rs) (sym (final.refused status is).1) tt
  fits_by None is rs all =
      subst (λ (f : AnswerForm). AreReadsFor f rs) (sym (final.answers is).1)
      (of.fits rs
      (all ∙ ap (λ (items : List Item). map bytes_of (read_items items)) (final.answers is).0
      ∙ ap (map bytes_of) (compares_read_none (compares held looks) more (all_compare held looks))))

  pub keeps : KeepsPromise held arrival c cred now mini form None []
  keeps = record { does = does; matches = λ flat t of_it. matches_by flat t of_it (refusal_in steps) refl; fits = fits_by (refusal_in steps) refl }

pub read_finals_keep_promise : ReadFinalsKeepPromise
read_finals_keep_promise held arrival c cred now r mini form work of final = keeps held arrival c cred now r mini form work of final
