-- What the procedures read, and that they answer as the rules do.
use Rattle.std.proofs.Common.{arith, ◌≡◌, ℕ, zero, suc, ◌+◌, ◌*◌, ◌≤◌, length, length-append, List, [], ◌∷◌, map, Option, Some, None, IsTrue, refl, ap, ◌∙◌}
use Rattle.std.specs.Prelude.{◌/◌}
use Rattle.std.specs.Option.{option_map_or}
use Rattle.std.specs.List.{AllByRecursion}
use Rattle.std.proofs.lemmas.List.Elements.{All-from_recursion}
use Rattle.rpc_msg.specs.declared.cred.Cred.{Cred}
use Rattle.nfs_proto.specs.declared.answer.Answer.TheVariants.{Fault}
use Rattle.nfs_proto.specs.declared.call.Call.{Call}
use Rattle.nfs_proto.specs.declared.call.Call.TheVariants as call
use Rattle.nfs_proto.specs.declared.stamp.Stamp.{Stamp}
use Rattle.fs_layout.specs.declared.reference.Reference.{Reference}
use Rattle.fs_rules.specs.declared.geometry.Geometry.{Geometry}
use Rattle.fs_rules.specs.declared.plain_tree.PlainTree.{PlainTree}
use Rattle.fs_rules.specs.Contents.{touched}
use Rattle.fs_rules.specs.Geometry.{IsWithinLimits}
use Rattle.fs_rules.specs.Handle.{number_in}
use Rattle.fs_rules.specs.Lists.{below}
use Rattle.fs_rules.specs.Statuses.{stale}
use Rattle.mini_tx.specs.declared.item.Item.{Item}
use Rattle.mini_tx.specs.FlatMemory.{Flat}
use Rattle.mini_tx.specs.Minitransactions.{bytes_of}
use Rattle.fs_image.specs.Owners.{Owners, Block}
use Rattle.node_cache.specs.declared.entry.Entry.{Entry}
use Rattle.node_cache.specs.declared.held.Held.{Held}
use Rattle.node_cache.specs.Cached.{held_of}
use Rattle.plan_rules.specs.Fetched.{is_read, read_items}
use Rattle.plan_rules.specs.Told.{place_of}
use Rattle.plan_forms.specs.Forms.{AreReadsFor}
use Rattle.read_laws.specs.Answers.{map_read, ready}
use Rattle.read_laws.specs.Laws.{AnswersAs, IsPlannedOver}
use Rattle.read_laws.proofs.AttrLemmas.{get_attr_answers}
use Rattle.read_laws.proofs.LookupLemmas.{lookup_answers}
use Rattle.read_laws.proofs.MatchLemmas.{all_parts}
use Rattle.read_laws.proofs.SpaceLemmas.{stat_fs_answers}
use Rattle.content_laws.specs.Answers.{bytes_read, given_of, names_by, part_by, part_reads, path_by, reads_at}
use Rattle.content_laws.proofs.NameLemmas.{read_dir_answers}
use Rattle.content_laws.proofs.PartLemmas.{read_answers, read_link_answers}
use Rattle.plan_read.specs.Readings.{IsReading, ReadingsAnswer, reading_of}

-- ---- all items read

abbrev Reads : Item → Type 0
Reads i = IsTrue (is_read i)

map_reads : (g : Geometry) (ms : List ℕ) → AllByRecursion Reads (map (map_read g) ms)
map_reads g [] = tt
map_reads g (m ∷ ms) = (refl, map_reads g ms)

block_reads : (held : Held) (offset count i : ℕ) (q : Option Reference) → AllByRecursion Reads (option_map_or (λ r. bytes_read held.geometry offset count i r ∷ []) q [])
block_reads held offset count i None = tt
block_reads held offset count i (Some r) = (refl, tt)

each_reads : (held : Held) (n offset count : ℕ) (is : List ℕ) → AllByRecursion (λ i. AllByRecursion Reads (reads_at held n offset count i)) is
each_reads held n offset count [] = tt
each_reads held n offset count (i ∷ is) = (block_reads held offset count i (place_of held n (Block i)), each_reads held n offset count is)

part_all_reads : (held : Held) (n offset count : ℕ) → AllByRecursion Reads (part_reads held n offset count)
part_all_reads held n offset count = all_parts Reads (reads_at held n offset count) (touched offset count) (each_reads held n offset count (touched offset count))

link_reads : (held : Held) (n : ℕ) (p : Option Entry) → AllByRecursion Reads (option_map_or (λ e. path_by held n e.attrs) p (ready (Fault stale))).items
link_reads held n None = tt
link_reads held n (Some e) = part_all_reads held n 0 e.attrs.size

bytes_reads : (held : Held) (n offset count : ℕ) (p : Option Entry)
    → AllByRecursion Reads (option_map_or (λ e. part_by held n offset (given_of e.attrs.size offset count) e.attrs) p (ready (Fault stale))).items
bytes_reads held n offset count None = tt
bytes_reads held n offset count (Some e) = part_all_reads held n offset (given_of e.attrs.size offset count)

names_reads : (held : Held) (n cookie count : ℕ) (p : Option Entry) → AllByRecursion Reads (option_map_or (λ e. names_by held n cookie count e.attrs) p (ready (Fault stale))).items
names_reads held n cookie count None = tt
names_reads held n cookie count (Some e) = tt

all_read : (held : Held) (c : Call) → IsReading c → AllByRecursion Reads (reading_of held c).items
all_read held (call.GetAttr file) is = tt
all_read held (call.Lookup dir name) is = tt
all_read held (call.ReadLink file) is = link_reads held (number_in file.0) (held_of (number_in file.0) held.entries)
all_read held (call.Read file offset count total) is = bytes_reads held (number_in file.0) offset count (held_of (number_in file.0) held.entries)
all_read held (call.ReadDir dir cookie count) is = names_reads held (number_in dir.0) cookie count (held_of (number_in dir.0) held.entries)
all_read held (call.StatFs file) is = map_reads held.geometry (below held.geometry.memories)
all_read held _ is = absurd is

-- ---- reads that are as many and as long

maps_all_read : (g : Geometry) (ms : List ℕ) → read_items (map (map_read g) ms) ≡ map (map_read g) ms
maps_all_read g [] = refl
maps_all_read g (m ∷ ms) = ap (λ is. map_read g m ∷ is) (maps_all_read g ms)

length_below : (n : ℕ) → length (below n) ≡ n
unfolding below
length_below zero = refl
length_below (suc n) = let rest = length_below n in omega (arith, rest, length-append (below n) (n ∷ []))

as_many : (g : Geometry) (rs : List (List ℕ)) (ms : List ℕ) → map length rs ≡ map bytes_of (map (map_read g) ms) → length rs ≡ length ms
as_many g [] [] all = refl
as_many g [] (m ∷ ms) all = absurd cc
as_many g (r ∷ rs) [] all = absurd cc
as_many g (r ∷ rs) (m ∷ ms) all = let rest : map length rs ≡ map bytes_of (map (map_read g) ms) = cc in ap suc (as_many g rs ms rest)

as_long : (g : Geometry) (rs : List (List ℕ)) (ms : List ℕ) → map length rs ≡ map bytes_of (map (map_read g) ms) → AllByRecursion (λ r. g.blocks ≤ 8 * length r) rs
as_long g [] ms all = tt
as_long g (r ∷ rs) [] all = absurd cc
as_long g (r ∷ rs) (m ∷ ms) all =
    let first : length r ≡ (g.blocks + 7) / 8 = cc in
    let rest : map length rs ≡ map bytes_of (map (map_read g) ms) = cc in
    (omega (arith, first), as_long g rs ms rest)

link_fits : (held : Held) (n : ℕ) (rs : List (List ℕ)) (p : Option Entry) → AreReadsFor (option_map_or (λ e. path_by held n e.attrs) p (ready (Fault stale))).form rs
link_fits held n rs None = tt
link_fits held n rs (Some e) = tt

bytes_fit : (held : Held) (n offset count : ℕ) (rs : List (List ℕ)) (p : Option Entry)
    → AreReadsFor (option_map_or (λ e. part_by held n offset (given_of e.attrs.size offset count) e.attrs) p (ready (Fault stale))).form rs
bytes_fit held n offset count rs None = tt
bytes_fit held n offset count rs (Some e) = tt

names_fit : (held : Held) (n cookie count : ℕ) (rs : List (List ℕ)) (p : Option Entry) → AreReadsFor (option_map_or (λ e. names_by held n cookie count e.attrs) p (ready (Fault stale))).form rs
names_fit held n cookie count rs None = tt
names_fit held n cookie count rs (Some e) = tt

fits : (held : Held) (c : Call) → IsReading c → IsWithinLimits held.geometry → (rs : List (List ℕ))
    → map length rs ≡ map bytes_of (read_items (reading_of held c).items) → AreReadsFor (reading_of held c).form rs
fits held (call.GetAttr file) is limits rs all = tt
fits held (call.Lookup dir name) is limits rs all = tt
fits held (call.ReadLink file) is limits rs all = link_fits held (number_in file.0) rs (held_of (number_in file.0) held.entries)
fits held (call.Read file offset count total) is limits rs all = bytes_fit held (number_in file.0) offset count rs (held_of (number_in file.0) held.entries)
fits held (call.ReadDir dir cookie count) is limits rs all = names_fit held (number_in dir.0) cookie count rs (held_of (number_in dir.0) held.entries)
fits held (call.StatFs file) is limits rs all =
    let g = held.geometry in
    let each : map length rs ≡ map bytes_of (map (map_read g) (below g.memories)) = all ∙ ap (map bytes_of) (maps_all_read g (below g.memories)) in
    record {
      limits = limits;
      each = as_many g rs (below g.memories) each ∙ length_below g.memories;
      whole = All-from_recursion (λ r. g.blocks ≤ 8 * length r) rs (as_long g rs (below g.memories) each);
    }
fits held _ is limits rs all = absurd is

-- ---- each procedure answers as the rules do

answers_as : (held : Held) (flat : Flat) (t : PlainTree) (o : Owners) (arrival : ℕ) (c : Call) (cred : Cred) (now : Stamp) (start : ℕ) → IsReading c
    → IsPlannedOver held flat t o arrival c cred → AnswersAs held flat t arrival c cred now start (reading_of held c)
answers_as held flat t o arrival (call.GetAttr file) cred now start is over = get_attr_answers held flat t o arrival cred now start file over
answers_as held flat t o arrival (call.Lookup dir name) cred now start is over = lookup_answers held flat t o arrival cred now start dir name over
answers_as held flat t o arrival (call.ReadLink file) cred now start is over = read_link_answers held flat t o arrival cred now start file over
answers_as held flat t o arrival (call.Read file offset count total) cred now start is over =
    read_answers held flat t o arrival cred now start file offset count total over
answers_as held flat t o arrival (call.ReadDir dir cookie count) cred now start is over =
    read_dir_answers held flat t o arrival cred now start dir cookie count over
answers_as held flat t o arrival (call.StatFs file) cred now start is over = stat_fs_answers held flat t o arrival cred now start file over
answers_as held flat t o arrival _ cred now start is over = absurd is

pub readings_answer : ReadingsAnswer
readings_answer held arrival c cred now work is =
    record {
      answers = λ flat t o over. answers_as held flat t o arrival c cred now _ is over;
      reads = All-from_recursion Reads (reading_of held c).items (all_read held c is);
      fits = λ rs all. fits held c is work.limits rs all;
    }
