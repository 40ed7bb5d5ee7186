-- Names that are offered slot by slot and group by group.
use Rattle.std.proofs.Common.{◌≡◌, ◌≢◌, ℕ, suc, ◌+◌, ◌-◌, min, true, false, cond, Bool, List, [], ◌∷◌, ◌++◌, codes, Some, refl, sym, ap, ◌∙◌, arith}
use Rattle.std.specs.Prelude.{flat_map, not, option_map}
use Rattle.nfs_proto.specs.declared.answer.Answer.TheVariants.{Names}
use Rattle.nfs_proto.specs.declared.dir_entry.DirEntry.{DirEntry}
use Rattle.fs_layout.specs.declared.attrs.Attrs.{Attrs}
use Rattle.fs_dir.specs.declared.slot.Slot.{Slot}
use Rattle.fs_dir.specs.Slots.{in_use}
use Rattle.fs_content.specs.declared.listing.Run.{Run}
use Rattle.fs_content.specs.Listing.{all_offered}
use Rattle.fs_content.proofs.ListingLemmas.{none_offered, offered_in_turn, run_gives}
use Rattle.fs_rules.specs.Lists.{below}
use Rattle.fs_rules.specs.Reading.{names_answer}
use Rattle.fs_rules.specs.Slots.{entries_behind, run_of}
use Rattle.node_cache.specs.declared.held.Held.{Held}
use Rattle.node_cache.specs.Cached.{held_of}
use Rattle.plan_rules.specs.Told.{dir_groups, group_of, slots_of}
use Rattle.plan_looks.specs.Names.{groups_from}
use Rattle.plan_looks.proofs.LookLemmas.{record_says}
use Rattle.plan_looks.proofs.NameLemmas.{all_groups}
use Rattle.content_laws.specs.Answers.{entries_in, names_from, next_cookie}
use Rattle.plan_content.specs.Listings.{cookie_behind}

abbrev pub entry_at : ℕ → Slot → DirEntry
entry_at cookie s = record { fileid = s.number; name = s.name; cookie = cookie }

-- ---- slots

pub names_none : (cookie : ℕ) → names_from cookie [] ≡ []
unfolding names_from
names_none cookie = refl

pub named : (cookie : ℕ) (s : Slot) (slots : List Slot) → in_use s ≡ true → names_from cookie (s ∷ slots) ≡ entry_at cookie s ∷ names_from (next_cookie cookie) slots
unfolding names_from
named cookie s slots is = ap (λ b. cond b (entry_at cookie s ∷ names_from (next_cookie cookie) slots) (names_from (next_cookie cookie) slots)) is

pub unnamed : (cookie : ℕ) (s : Slot) (slots : List Slot) → in_use s ≡ false → names_from cookie (s ∷ slots) ≡ names_from (next_cookie cookie) slots
unfolding names_from
unnamed cookie s slots is = ap (λ b. cond b (entry_at cookie s ∷ names_from (next_cookie cookie) slots) (names_from (next_cookie cookie) slots)) is

pub behind_none : (cookie : ℕ) → cookie_behind cookie [] ≡ cookie
unfolding cookie_behind
behind_none cookie = refl

pub behind_one : (cookie : ℕ) (s : Slot) (slots : List Slot) → cookie_behind cookie (s ∷ slots) ≡ cookie_behind (next_cookie cookie) slots
unfolding cookie_behind
behind_one cookie s slots = refl

-- one slot of the loop: what the rest gives then is what it gave with the slot
pub slot_offered : (run next : Run) (behind cookie : ℕ) (s : Slot) (slots : List Slot) → in_use s ≡ true
    → next ≡ all_offered run (entries_behind behind (entry_at cookie s ∷ []))
    → all_offered next (entries_behind behind (names_from (next_cookie cookie) slots)) ≡ all_offered run (entries_behind behind (names_from cookie (s ∷ slots)))
slot_offered run next behind cookie s slots is made =
    ap (λ r. all_offered r (entries_behind behind (names_from (next_cookie cookie) slots))) made
    ∙ offered_in_turn run behind (entry_at cookie s) (names_from (next_cookie cookie) slots)
    ∙ ap (λ (es : List DirEntry). all_offered run (entries_behind behind es)) (sym (named cookie s slots is))

pub slot_passed : (run next : Run) (behind cookie : ℕ) (s : Slot) (slots : List Slot) → in_use s ≡ false → next ≡ run
    → all_offered next (entries_behind behind (names_from (next_cookie cookie) slots)) ≡ all_offered run (entries_behind behind (names_from cookie (s ∷ slots)))
slot_passed run next behind cookie s slots is made =
    ap (λ r. all_offered r (entries_behind behind (names_from (next_cookie cookie) slots))) made
    ∙ ap (λ (es : List DirEntry). all_offered run (entries_behind behind es)) (sym (unnamed cookie s slots is))

pub none_left : (run : Run) (behind cookie : ℕ) → all_offered run (entries_behind behind (names_from cookie [])) ≡ run
unfolding names_from
none_left run behind cookie = none_offered run

-- ---- slots behind slots

pub both_offered : (run : Run) (behind cookie : ℕ) (xs ys : List Slot)
    → all_offered (all_offered run (entries_behind behind (names_from cookie xs))) (entries_behind behind (names_from (cookie_behind cookie xs) ys))
    ≡ all_offered run (entries_behind behind (names_from cookie (xs ++ ys)))
both_offered run behind cookie [] ys =
    ap (λ r. all_offered r (entries_behind behind (names_from (cookie_behind cookie []) ys))) (none_left run behind cookie)
    ∙ ap (λ c. all_offered run (entries_behind behind (names_from c ys))) (behind_none cookie)
both_offered run behind cookie (s ∷ xs) ys =
    by (in_use s) refl (both_offered (all_offered run (entries_behind behind (entry_at cookie s ∷ []))) behind (next_cookie cookie) xs ys) (both_offered run behind (next_cookie cookie) xs ys)
  where
    by : (b : Bool) → in_use s ≡ b
        → (let first = all_offered run (entries_behind behind (entry_at cookie s ∷ [])) in
        all_offered (all_offered first (entries_behind behind (names_from (next_cookie cookie) xs))) (entries_behind behind (names_from (cookie_behind (next_cookie cookie) xs) ys))
        ≡ all_offered first (entries_behind behind (names_from (next_cookie cookie) (xs ++ ys))))
        → all_offered (all_offered run (entries_behind behind (names_from (next_cookie cookie) xs))) (entries_behind behind (names_from (cookie_behind (next_cookie cookie) xs) ys))
        ≡ all_offered run (entries_behind behind (names_from (next_cookie cookie) (xs ++ ys)))
        → all_offered (all_offered run (entries_behind behind (names_from cookie (s ∷ xs)))) (entries_behind behind (names_from (cookie_behind cookie (s ∷ xs)) ys))
        ≡ all_offered run (entries_behind behind (names_from cookie (s ∷ (xs ++ ys))))
    by true is with_it without =
        let first = all_offered run (entries_behind behind (entry_at cookie s ∷ [])) in
        ap (λ r. all_offered r (entries_behind behind (names_from (cookie_behind cookie (s ∷ xs)) ys))) (sym (slot_offered run first behind cookie s xs is refl))
        ∙ ap (λ c. all_offered (all_offered first (entries_behind behind (names_from (next_cookie cookie) xs))) (entries_behind behind (names_from c ys))) (behind_one cookie s xs)
        ∙ with_it ∙ slot_offered run first behind cookie s (xs ++ ys) is refl
    by false is with_it without =
        ap (λ r. all_offered r (entries_behind behind (names_from (cookie_behind cookie (s ∷ xs)) ys))) (sym (slot_passed run run behind cookie s xs is refl))
        ∙ ap (λ c. all_offered (all_offered run (entries_behind behind (names_from (next_cookie cookie) xs))) (entries_behind behind (names_from c ys))) (behind_one cookie s xs)
        ∙ without ∙ slot_passed run run behind cookie s (xs ++ ys) is refl

-- ---- groups

module _ (held : Held) (n g : ℕ) where
  no_groups_by : groups_from held n g 0 ≡ []
  unfolding groups_from
  no_groups_by = refl

  front_by : (l : ℕ) → groups_from held n g (suc l) ≡ group_of held n g ++ groups_from held n (g + 1) l
  unfolding groups_from
  front_by l = refl

  pub no_groups : (run : Run) (behind cookie left : ℕ) → left ≡ 0 → run ≡ all_offered run (entries_behind behind (names_from cookie (groups_from held n g left)))
  no_groups run behind cookie left none =
      sym (ap (λ l. all_offered run (entries_behind behind (names_from cookie (groups_from held n g l)))) none
      ∙ ap (λ xs. all_offered run (entries_behind behind (names_from cookie xs))) no_groups_by ∙ none_left run behind cookie)

  -- a group, and those behind it
  pub group_offered : (run mid last : Run) (behind cookie after left : ℕ) (slots : List Slot) → left ≢ 0 → slots ≡ group_of held n g
      → mid ≡ all_offered run (entries_behind behind (names_from cookie slots)) → after ≡ cookie_behind cookie slots
      → last ≡ all_offered mid (entries_behind behind (names_from after (groups_from held n (g + 1) (left - 1))))
      → last ≡ all_offered run (entries_behind behind (names_from cookie (groups_from held n g left)))
  group_offered run mid last behind cookie after left slots some is first next rest =
      let more = groups_from held n (g + 1) (left - 1) in
      let same : left ≡ suc (left - 1) = omega (arith, some) in
      rest ∙ ap (λ r. all_offered r (entries_behind behind (names_from after more))) first
      ∙ ap (λ c. all_offered (all_offered run (entries_behind behind (names_from cookie slots))) (entries_behind behind (names_from c more))) next
      ∙ both_offered run behind cookie slots more
      ∙ ap (λ xs. all_offered run (entries_behind behind (names_from cookie (xs ++ more)))) is
      ∙ sym (ap (λ xs. all_offered run (entries_behind behind (names_from cookie xs))) (ap (groups_from held n g) same ∙ front_by (left - 1)))

-- ---- the answer

not_not : (b c : Bool) → b ≡ not c → not b ≡ c
not_not b true is = ap not is
not_not b false is = ap not is

-- a directory itself, its parent and its names, offered in turn
pub answered : (n parent cookie count : ℕ) (slots : List Slot) (begun first second done : Run)
    → begun ≡ record { entries = []; room = min count 8192 - 8; is_full = false; leaves_some = false }
    → first ≡ all_offered begun (entries_behind cookie (record { fileid = n; name = codes "."; cookie = 1 } ∷ []))
    → second ≡ all_offered first (entries_behind cookie (record { fileid = parent; name = codes ".."; cookie = 2 } ∷ []))
    → done ≡ all_offered second (entries_behind cookie (names_from 3 slots))
    → Names done.entries (not done.leaves_some) ≡ names_answer count (entries_behind cookie (entries_in n parent slots))
answered n parent cookie count slots begun first second done start one two rest =
    let here : DirEntry = record { fileid = n; name = codes "."; cookie = 1 } in
    let above : DirEntry = record { fileid = parent; name = codes ".."; cookie = 2 } in
    let names : List DirEntry = names_from 3 slots in
    let empty : Run = record { entries = []; room = min count 8192 - 8; is_full = false; leaves_some = false } in
    let is : done ≡ all_offered empty (entries_behind cookie (here ∷ above ∷ names)) =
    rest
    ∙ ap (λ r. all_offered r (entries_behind cookie names)) (two ∙ ap (λ r. all_offered r (entries_behind cookie (above ∷ []))) one)
    ∙ offered_in_turn (all_offered begun (entries_behind cookie (here ∷ []))) cookie above names
    ∙ offered_in_turn begun cookie here (above ∷ names)
    ∙ ap (λ r. all_offered r (entries_behind cookie (here ∷ above ∷ names))) start in
    let gives = run_gives (min count 8192 - 8) (entries_behind cookie (here ∷ above ∷ names)) in
    ap (λ (r : Run). Names r.entries (not r.leaves_some)) is
    ∙ ap (λ (xs : List DirEntry). Names xs (not (all_offered empty (entries_behind cookie (here ∷ above ∷ names))).leaves_some)) gives.entries
    ∙ ap (Names (run_of count (entries_behind cookie (here ∷ above ∷ names)))) (not_not _ _ gives.leaves)

-- the slots of all groups that a record tells
pub slots_are : (held : Held) (n k : ℕ) (a : Attrs) → option_map (λ e. e.attrs) (held_of n held.entries) ≡ Some a → k ≡ dir_groups a → groups_from held n 0 k ≡ slots_of held n
slots_are held n k a is same =
    ap (groups_from held n 0) same ∙ all_groups held n (dir_groups a) ∙ ap (λ j. flat_map (group_of held n) (below j)) (sym (record_says held n 0 dir_groups a is))
