-- The run of entries that is given.
use Rattle.std.proofs.Common.{◌≡◌, ℕ, suc, ◌+◌, ◌-◌, Bool, true, false, cond, List, [], ◌∷◌, ◌++◌, Option, Some, None, length, refl, sym, ap, subst, ◌∙◌, arith, append_assoc}
use Rattle.std.specs.Prelude.{nat_lt, nat_le, ◌==◌, min, not, codes}
use Rattle.std.proofs.lemmas.List.{append-nil}
use Rattle.std.proofs.lemmas.Bool.Decides.{nat_tests}
use Rattle.nfs_proto.specs.declared.answer.Answer.TheVariants.{Names}
use Rattle.nfs_proto.specs.declared.dir_entry.DirEntry.{DirEntry}
use Rattle.fs_rules.specs.declared.entry.Entry.{Entry}
use Rattle.fs_rules.specs.Slots.{entries_behind, entries_from, entries_of, entry_size, fitting, at_least_one, run_of}
use Rattle.fs_rules.specs.Reading.{names_answer}
use Rattle.fs_content.specs.declared.listing.Run.{Run}
use Rattle.fs_content.specs.Listing.{all_offered, offered}

abbrev run_with : List DirEntry → ℕ → Bool → Bool → Run
run_with entries room full some = record { entries = entries; room = room; is_full = full; leaves_some = some }

by_fit : {P : Type 0} (size room : ℕ) → (nat_le size room ≡ true → P) → (nat_le size room ≡ false → P) → P
by_fit {P} size room fits left = elim (nat_le size room) as (λ b. nat_le size room ≡ b → P) [ true ↦ fits | false ↦ left ] refl

-- ---- entries that are offered one after another

pub none_offered : (run : Run) → all_offered run [] ≡ run
unfolding all_offered
none_offered run = refl

pub one_offered : (run : Run) (e : DirEntry) → all_offered run (e ∷ []) ≡ offered run e
unfolding all_offered
one_offered run e = refl

more_offered_first : (run : Run) (e : DirEntry) (es : List DirEntry) → all_offered run (e ∷ es) ≡ all_offered (offered run e) es
unfolding all_offered
more_offered_first run e es = refl

-- an entry behind a cookie, and one that is not
pub behind_there : (cookie : ℕ) (e : DirEntry) (es : List DirEntry) → nat_lt cookie e.cookie ≡ true → entries_behind cookie (e ∷ es) ≡ e ∷ entries_behind cookie es
behind_there cookie e es is = ap (λ b. cond b (e ∷ entries_behind cookie es) (entries_behind cookie es)) is

pub behind_not : (cookie : ℕ) (e : DirEntry) (es : List DirEntry) → nat_lt cookie e.cookie ≡ false → entries_behind cookie (e ∷ es) ≡ entries_behind cookie es
behind_not cookie e es is = ap (λ b. cond b (e ∷ entries_behind cookie es) (entries_behind cookie es)) is

-- the first alone, and then the others
pub offered_in_turn : (run : Run) (cookie : ℕ) (e : DirEntry) (es : List DirEntry)
    → all_offered (all_offered run (entries_behind cookie (e ∷ []))) (entries_behind cookie es) ≡ all_offered run (entries_behind cookie (e ∷ es))
offered_in_turn run cookie e es =
    elim (nat_lt cookie e.cookie) as (λ b. all_offered (all_offered run (cond b (e ∷ []) [])) (entries_behind cookie es)
    ≡ all_offered run (cond b (e ∷ entries_behind cookie es) (entries_behind cookie es))) [
      | true ↦ ap (λ r. all_offered r (entries_behind cookie es)) (one_offered run e) ∙ sym (more_offered_first run e (entries_behind cookie es))
      | false ↦ ap (λ r. all_offered r (entries_behind cookie es)) (none_offered run)
    ]

-- ---- slot by slot

pub slots_none : (run : Run) (cookie i : ℕ) → all_offered run (entries_behind cookie (entries_from i [])) ≡ run
unfolding all_offered entries_from
slots_none run cookie i = refl

pub slots_empty : (run : Run) (cookie i : ℕ) (slots : List (Option Entry))
    → all_offered run (entries_behind cookie (entries_from i (None ∷ slots))) ≡ all_offered run (entries_behind cookie (entries_from (i + 1) slots))
unfolding entries_from
slots_empty run cookie i slots = refl

abbrev pub entry_at : ℕ → Entry → DirEntry
entry_at cookie e = record { fileid = e.file; name = e.name; cookie = cookie }

pub slots_named : (run : Run) (cookie i : ℕ) (e : Entry) (slots : List (Option Entry))
    → all_offered run (entries_behind cookie (entries_from i (Some e ∷ slots)))
    ≡ all_offered (all_offered run (entries_behind cookie (entry_at (i + 3) e ∷ []))) (entries_behind cookie (entries_from (i + 1) slots))
unfolding entries_from
slots_named run cookie i e slots = sym (offered_in_turn run cookie (entry_at (i + 3) e) (entries_from (i + 1) slots))

-- ---- what is given

-- where one did not fit, those behind it are left
left_out : Bool → List DirEntry → Bool
left_out some [] = some
left_out some (e ∷ es) = true

some_left : (es : List DirEntry) → left_out true es ≡ true
unfolding left_out
some_left [] = refl
some_left (e ∷ es) = refl

full_stays : (xs : List DirEntry) (room : ℕ) (some : Bool) (es : List DirEntry) → all_offered (run_with xs room true some) es ≡ run_with xs room true (left_out some es)
unfolding all_offered left_out
full_stays xs room some [] = refl
full_stays xs room some (e ∷ es) = full_stays xs room true es ∙ ap (run_with xs room true) (some_left es)

module _ (e : DirEntry) (es : List DirEntry) (room : ℕ) where
  fitting_fits : nat_le (entry_size e) room ≡ true → fitting room (e ∷ es) ≡ e ∷ fitting (room - entry_size e) es
  unfolding fitting
  fitting_fits is = ap (λ b. cond b (e ∷ fitting (room - entry_size e) es) []) is

  fitting_left : nat_le (entry_size e) room ≡ false → fitting room (e ∷ es) ≡ []
  unfolding fitting
  fitting_left is = ap (λ b. cond b (e ∷ fitting (room - entry_size e) es) []) is

  -- one more entry fits, or does not
  more_fits : (d : DirEntry) (ds : List DirEntry) → nat_le (entry_size e) room ≡ true
      → all_offered (run_with (d ∷ ds) room false false) (e ∷ es) ≡ all_offered (run_with (d ∷ (ds ++ e ∷ [])) (room - entry_size e) false false) es
  unfolding all_offered
  more_fits d ds is =
      ap (λ b. all_offered (cond b (run_with (d ∷ (ds ++ e ∷ [])) (room - entry_size e) false false) (run_with (d ∷ ds) room true true)) es) is

  more_left : (d : DirEntry) (ds : List DirEntry) → nat_le (entry_size e) room ≡ false
      → all_offered (run_with (d ∷ ds) room false false) (e ∷ es) ≡ run_with (d ∷ ds) room true true
  unfolding all_offered
  more_left d ds is =
      ap (λ b. all_offered (cond b (run_with (d ∷ (ds ++ e ∷ [])) (room - entry_size e) false false) (run_with (d ∷ ds) room true true)) es) is
      ∙ full_stays (d ∷ ds) room true es ∙ ap (run_with (d ∷ ds) room true) (some_left es)

  -- and so with the first
  first_fits : nat_le (entry_size e) room ≡ true
      → all_offered (run_with [] room false false) (e ∷ es) ≡ all_offered (run_with (e ∷ []) (room - entry_size e) false false) es
  unfolding all_offered
  first_fits is = ap (λ b. all_offered (cond b (run_with (e ∷ []) (room - entry_size e) false false) (run_with (e ∷ []) room true false)) es) is

  first_alone : nat_le (entry_size e) room ≡ false → all_offered (run_with [] room false false) (e ∷ es) ≡ run_with (e ∷ []) room true (left_out false es)
  unfolding all_offered
  first_alone is =
      ap (λ b. all_offered (cond b (run_with (e ∷ []) (room - entry_size e) false false) (run_with (e ∷ []) room true false)) es) is
      ∙ full_stays (e ∷ []) room false es

-- what a run gives, and whether it leaves some
pub record Gives (run : Run) (given : List DirEntry) (some : Bool) : Type 0 where
  pub entries : run.entries ≡ given
  pub leaves : run.leaves_some ≡ some

carried : (run later : Run) (given : List DirEntry) (some : Bool) → run ≡ later → Gives later given some → Gives run given some
carried run later given some is gives = subst (λ r. Gives r given some) (sym is) gives

not_all : (n m : ℕ) → not (suc n == suc m) ≡ not (n == m)
not_all n m = grind (arith, nat_tests)

open_gives : (d : DirEntry) (ds : List DirEntry) (room : ℕ) (es : List DirEntry)
    → Gives (all_offered (run_with (d ∷ ds) room false false) es) ((d ∷ ds) ++ fitting room es) (not (length (fitting room es) == length es))
unfolding all_offered fitting
open_gives d ds room [] = record { entries = sym (append-nil (d ∷ ds)); leaves = refl }
open_gives d ds room (e ∷ es) =
    by_fit (entry_size e) room
    (λ is. carried _ _ _ _ (more_fits e es room d ds is) (record {
      entries =
          (open_gives d (ds ++ e ∷ []) (room - entry_size e) es).entries
          ∙ append_assoc (d ∷ ds) (e ∷ []) (fitting (room - entry_size e) es)
          ∙ ap (λ (xs : List DirEntry). (d ∷ ds) ++ xs) (sym (fitting_fits e es room is));
      leaves =
          (open_gives d (ds ++ e ∷ []) (room - entry_size e) es).leaves
          ∙ sym (ap (λ (xs : List DirEntry). not (length xs == suc (length es))) (fitting_fits e es room is) ∙ not_all (length (fitting (room - entry_size e) es)) (length es));
    }))
    (λ is. carried _ _ _ _ (more_left e es room d ds is) (record {
      entries = sym (ap (λ (xs : List DirEntry). (d ∷ ds) ++ xs) (fitting_left e es room is) ∙ append-nil (d ∷ ds));
      leaves = sym (ap (λ (xs : List DirEntry). not (length xs == suc (length es))) (fitting_left e es room is) ∙ (let some : not (0 == suc (length es)) ≡ true = grind (arith, nat_tests) in some));
    }))

left_alone : (es : List DirEntry) → left_out false es ≡ not (1 == suc (length es))
unfolding left_out
left_alone [] = refl
left_alone (e ∷ es) = sym (let some : not (1 == suc (suc (length es))) ≡ true = grind (arith, nat_tests) in some)

-- from nothing, the longest run that fits is given, and at least one entry
pub run_gives : (room : ℕ) (es : List DirEntry)
    → Gives (all_offered (run_with [] room false false) es) (at_least_one (fitting room es) es) (not (length (at_least_one (fitting room es) es) == length es))
unfolding all_offered fitting
run_gives room [] = record { entries = refl; leaves = refl }
run_gives room (e ∷ es) =
    by_fit (entry_size e) room
    (λ is. carried _ _ _ _ (first_fits e es room is) (record {
      entries = (open_gives e [] (room - entry_size e) es).entries ∙ sym (ap (λ (xs : List DirEntry). at_least_one xs (e ∷ es)) (fitting_fits e es room is));
      leaves =
          (open_gives e [] (room - entry_size e) es).leaves
          ∙ sym (ap (λ (xs : List DirEntry). not (length (at_least_one xs (e ∷ es)) == suc (length es))) (fitting_fits e es room is)
          ∙ not_all (length (fitting (room - entry_size e) es)) (length es));
    }))
    (λ is. carried _ _ _ _ (first_alone e es room is) (record {
      entries = sym (ap (λ (xs : List DirEntry). at_least_one xs (e ∷ es)) (fitting_left e es room is));
      leaves = left_alone es ∙ sym (ap (λ (xs : List DirEntry). not (length (at_least_one xs (e ∷ es)) == suc (length es))) (fitting_left e es room is));
    }))

-- ---- one slot of the loop

pub slot_named_step : (run next done : Run) (cookie i at : ℕ) (e : Entry) (rest slots : List (Option Entry)) → at ≡ i + 3
    → next ≡ all_offered run (entries_behind cookie (entry_at at e ∷ [])) → slots ≡ Some e ∷ rest
    → all_offered run (entries_behind cookie (entries_from i slots)) ≡ done → all_offered next (entries_behind cookie (entries_from (i + 1) rest)) ≡ done
slot_named_step run next done cookie i at e rest slots counted is here so_far =
    ap (λ r. all_offered r (entries_behind cookie (entries_from (i + 1) rest))) (is ∙ ap (λ n. all_offered run (entries_behind cookie (entry_at n e ∷ []))) counted)
    ∙ sym (slots_named run cookie i e rest)
    ∙ ap (λ (xs : List (Option Entry)). all_offered run (entries_behind cookie (entries_from i xs))) (sym here) ∙ so_far

pub slot_empty_step : (run next done : Run) (cookie i : ℕ) (rest slots : List (Option Entry)) → next ≡ run → slots ≡ None ∷ rest
    → all_offered run (entries_behind cookie (entries_from i slots)) ≡ done → all_offered next (entries_behind cookie (entries_from (i + 1) rest)) ≡ done
slot_empty_step run next done cookie i rest slots is here so_far =
    ap (λ r. all_offered r (entries_behind cookie (entries_from (i + 1) rest))) is
    ∙ sym (slots_empty run cookie i rest)
    ∙ ap (λ (xs : List (Option Entry)). all_offered run (entries_behind cookie (entries_from i xs))) (sym here) ∙ so_far

-- ---- the answer

not_not : (b c : Bool) → b ≡ not c → not b ≡ c
not_not b true is = ap not is
not_not b false is = ap not is

-- the directory itself, its parent and its names, offered in turn
pub answered : (n parent cookie count : ℕ) (slots : List (Option Entry)) (begun first second done : Run) → begun ≡ run_with [] (min count 8192 - 8) false false
    → first ≡ all_offered begun (entries_behind cookie (record { fileid = n; name = codes "."; cookie = 1 } ∷ []))
    → second ≡ all_offered first (entries_behind cookie (record { fileid = parent; name = codes ".."; cookie = 2 } ∷ []))
    → done ≡ all_offered second (entries_behind cookie (entries_from 0 slots))
    → Names done.entries (not done.leaves_some) ≡ names_answer count (entries_behind cookie (entries_of n parent slots))
unfolding entries_of
answered n parent cookie count slots begun first second done start one two rest =
    let here : DirEntry = record { fileid = n; name = codes "."; cookie = 1 } in
    let above : DirEntry = record { fileid = parent; name = codes ".."; cookie = 2 } in
    let names : List DirEntry = entries_from 0 slots in
    let is : done ≡ all_offered (run_with [] (min count 8192 - 8) false false) (entries_behind cookie (here ∷ above ∷ names)) =
    rest
    ∙ ap (λ r. all_offered r (entries_behind cookie names)) (two ∙ ap (λ r. all_offered r (entries_behind cookie (above ∷ []))) one)
    ∙ offered_in_turn (all_offered begun (entries_behind cookie (here ∷ []))) cookie above names
    ∙ offered_in_turn begun cookie here (above ∷ names)
    ∙ ap (λ r. all_offered r (entries_behind cookie (here ∷ above ∷ names))) start in
    let gives = run_gives (min count 8192 - 8) (entries_behind cookie (here ∷ above ∷ names)) in
    ap (λ (r : Run). Names r.entries (not r.leaves_some)) is
    ∙ ap (λ (xs : List DirEntry). Names xs (not (all_offered (run_with [] (min count 8192 - 8) false false) (entries_behind cookie (here ∷ above ∷ names))).leaves_some)) gives.entries
    ∙ ap (Names (run_of count (entries_behind cookie (here ∷ above ∷ names)))) (not_not _ _ gives.leaves)
