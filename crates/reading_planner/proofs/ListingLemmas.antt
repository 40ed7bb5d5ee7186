-- The names of a directory that are told are short, and have room.
use Rattle.std.proofs.Common.{◌≡◌, ℕ, ◌+◌, ◌-◌, ◌≤◌, Bool, true, false, cond, List, [], ◌∷◌, length, Option, Some, None, refl, arith}
use Rattle.std.specs.Prelude.{◌==◌, nat_lt, nat_le, min, filter, find, sum_by}
use Rattle.std.specs.List.{AllByRecursion}
use Rattle.std.specs.Option.{option_map_or}
use Rattle.std.proofs.lemmas.Bool.{leb-true}
use Rattle.std.proofs.lemmas.List.Elements.{recursion_from_All}
use Rattle.std.proofs.lemmas.List.Sums.{sum_by-cons}
use Rattle.nfs_proto.specs.declared.dir_entry.DirEntry.{DirEntry}
use Rattle.fs_dir.specs.declared.slot.Slot.{Slot}
use Rattle.fs_dir.specs.Slots.{in_use}
use Rattle.fs_rules.specs.declared.geometry.Geometry.{Geometry}
use Rattle.fs_rules.specs.Lists.{below}
use Rattle.fs_rules.specs.Reading.{names_answer}
use Rattle.fs_rules.specs.Respond.{IsTold}
use Rattle.fs_rules.specs.Slots.{at_least_one, entries_behind, entry_size, fitting, run_of}
use Rattle.node_cache.specs.declared.entry.Entry.{Entry}
use Rattle.node_cache.specs.declared.entry.HeldGroup.{HeldGroup}
use Rattle.node_cache.specs.declared.held.Held.{Held}
use Rattle.node_cache.specs.Cached.{held_of}
use Rattle.plan_rules.specs.Fits.{IsFitSlot}
use Rattle.plan_rules.specs.Told.{at_record, dir_groups, group_of, slots_of}
use Rattle.plan_rules.specs.Works.{IsFitEntry, IsWorkSet}
use Rattle.plan_rules.proofs.SearchLemmas.{found_there}
use Rattle.read_laws.proofs.MatchLemmas.{all_parts}
use Rattle.want_laws.proofs.PartLemmas.{entry_fits}
use Rattle.content_laws.specs.Answers.{entries_in, names_from, next_cookie}

-- ---- the slots that are held are fit

module _ (held : Held) (work : IsWorkSet held) where
  slots_by : (g : ℕ) (e : Entry) → IsFitEntry held.geometry e → (p : Option HeldGroup) → find (λ s. s.group == g) e.groups ≡ p
      → AllByRecursion (IsFitSlot held.geometry) (option_map_or (λ s. s.slots) p [])
  slots_by g e fit None is = tt
  slots_by g e fit (Some s) is =
      let there = found_there (λ (x : HeldGroup). x.group == g) s e.groups is in
      recursion_from_All (IsFitSlot held.geometry) s.slots (fit.groups there.0 s there.1)

  group_by : (n g : ℕ) (p : Option Entry) → held_of n held.entries ≡ p
      → AllByRecursion (IsFitSlot held.geometry) (option_map_or (λ e. option_map_or (λ s. s.slots) (find (λ s. s.group == g) e.groups) []) p [])
  group_by n g None is = tt
  group_by n g (Some e) is = slots_by g e (entry_fits held work n e is) (find (λ s. s.group == g) e.groups) refl

  groups_by : (n : ℕ) (gs : List ℕ) → AllByRecursion (λ g. AllByRecursion (IsFitSlot held.geometry) (group_of held n g)) gs
  groups_by n [] = tt
  groups_by n (g ∷ gs) = (group_by n g (held_of n held.entries) refl, groups_by n gs)

  pub slots_fit : (n : ℕ) → AllByRecursion (IsFitSlot held.geometry) (slots_of held n)
  slots_fit n = all_parts (IsFitSlot held.geometry) (group_of held n) (below (at_record held n 0 dir_groups)) (groups_by n (below (at_record held n 0 dir_groups)))

-- ---- so their names are short

abbrev AreShort : List DirEntry → Type 0
AreShort entries = AllByRecursion (λ e. length e.name ≤ 255) entries

one_short : (g : Geometry) (cookie : ℕ) (s : Slot) (es : List DirEntry) (b : Bool) → in_use s ≡ b → IsFitSlot g s → AreShort es
    → AreShort (cond b (record { fileid = s.number; name = s.name; cookie = cookie } ∷ es) es)
one_short g cookie s es true is fit rest = ((fit.name is).sized.1, rest)
one_short g cookie s es false is fit rest = rest

from_short : (g : Geometry) (cookie : ℕ) (slots : List Slot) → AllByRecursion (IsFitSlot g) slots → AreShort (names_from cookie slots)
unfolding names_from
from_short g cookie [] fit = tt
from_short g cookie (s ∷ slots) fit = one_short g cookie s (names_from (next_cookie cookie) slots) (in_use s) refl fit.0 (from_short g (next_cookie cookie) slots fit.1)

entries_short : (g : Geometry) (n parent : ℕ) (slots : List Slot) → AllByRecursion (IsFitSlot g) slots → AreShort (entries_in n parent slots)
entries_short g n parent slots fit = (omega arith, (omega arith, from_short g 3 slots fit))

filter_short : (p : DirEntry → Bool) (es : List DirEntry) → AreShort es → AreShort (filter p es)
filter_short p [] short = tt
filter_short p (e ∷ es) short =
    elim (p e) as (λ b. AreShort (cond b (e ∷ filter p es) (filter p es))) [
      | true ↦ (short.0, filter_short p es short.1)
      | false ↦ filter_short p es short.1
    ]

-- ---- a run of entries

fitting_short : (room : ℕ) (es : List DirEntry) → AreShort es → AreShort (fitting room es)
unfolding fitting
fitting_short room [] short = tt
fitting_short room (e ∷ es) short =
    elim (nat_le (entry_size e) room) as (λ b. AreShort (cond b (e ∷ fitting (room - entry_size e) es) [])) [
      | true ↦ (short.0, fitting_short (room - entry_size e) es short.1)
      | false ↦ tt
    ]

fitting_room : (room : ℕ) (es : List DirEntry) → sum_by entry_size (fitting room es) ≤ room
unfolding fitting
fitting_room room [] = omega arith
fitting_room room (e ∷ es) =
    elim (nat_le (entry_size e) room) as (λ b. nat_le (entry_size e) room ≡ b → sum_by entry_size (cond b (e ∷ fitting (room - entry_size e) es) []) ≤ room) [
      | true ↦ λ is. omega (arith, leb-true (entry_size e) room is, fitting_room (room - entry_size e) es, sum_by-cons entry_size e (fitting (room - entry_size e) es))
      | false ↦ λ is. omega arith
    ] refl

record IsRun (run : List DirEntry) : Type 0 where
  short : AreShort run
  fits : sum_by entry_size run ≤ 8192

one_size : (e : DirEntry) → length e.name ≤ 255 → entry_size e ≤ 16 + 258
one_size e short = omega arith

one_run : (run es : List DirEntry) → IsRun run → AreShort es → IsRun (at_least_one run es)
one_run [] [] is short = is
one_run [] (e ∷ es) is short = record { short = (short.0, tt); fits = omega (arith, one_size e short.0, sum_by-cons entry_size e []) }
one_run (e ∷ run) es is short = is

run_is : (count : ℕ) (es : List DirEntry) → AreShort es → IsRun (run_of count es)
run_is count es short =
    one_run (fitting (min count 8192 - 8) es) es
    (record { short = fitting_short (min count 8192 - 8) es short; fits = omega (arith, fitting_room (min count 8192 - 8) es) }) short

within : (es : List DirEntry) → AreShort es → AllByRecursion (λ e. length e.name ≤ 1024) es
within [] short = tt
within (e ∷ es) short = (omega (arith, short.0), within es short.1)

pub names_told : (held : Held) (n parent cookie count : ℕ) → IsWorkSet held → IsTold (names_answer count (entries_behind cookie (entries_in n parent (slots_of held n))))
names_told held n parent cookie count work =
    let entries = entries_in n parent (slots_of held n) in
    let all = filter_short (λ e. nat_lt cookie e.cookie) entries (entries_short held.geometry n parent (slots_of held n) (slots_fit held work n)) in
    let run = run_is count (entries_behind cookie entries) all in
    (within (run_of count (entries_behind cookie entries)) run.short, run.fits)
