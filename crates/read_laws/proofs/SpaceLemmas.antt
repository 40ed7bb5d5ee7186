-- STATFS.
use Rattle.std.proofs.Common.{◌≡◌, ℕ, zero, suc, ◌+◌, ◌*◌, ◌/◌, ◌<◌, ◌≤◌, true, cond, List, [], ◌∷◌, ◌++◌, take, drop, map, None, refl, sym, ap, ◌∙◌, arith}
use Rattle.std.specs.Prelude.{◌%◌, option_map, sum_by, slice_index}
use Rattle.std.proofs.lemmas.List.Elements.{recursion_from_All}
use Rattle.std.proofs.lemmas.List.Sums.{sum_by-cons, sum_by_push}
use Rattle.rpc_msg.specs.declared.cred.Cred.{Cred}
use Rattle.nfs_proto.specs.declared.answer.Answer.{Answer}
use Rattle.nfs_proto.specs.declared.answer.Answer.TheVariants.{Space}
use Rattle.nfs_proto.specs.declared.call.Call.TheVariants.{StatFs}
use Rattle.nfs_proto.specs.declared.handle.Handle.{Handle}
use Rattle.nfs_proto.specs.declared.stamp.Stamp.{Stamp}
use Rattle.fs_bitmap.specs.Bits.{free_below, has_bit, is_used}
use Rattle.fs_rules.specs.declared.geometry.Geometry.{Geometry}
use Rattle.fs_rules.specs.declared.plain_tree.PlainTree.{PlainTree}
use Rattle.fs_rules.specs.Arguments as rules
use Rattle.fs_rules.specs.Handle.{number_in}
use Rattle.fs_rules.specs.Lists.{below}
use Rattle.fs_rules.specs.Numbers.{free_blocks}
use Rattle.fs_rules.specs.Reading.{space_answer}
use Rattle.fs_rules.specs.Respond.{Responded, own_checks}
use Rattle.fs_rules.specs.Statuses.{first_failure}
use Rattle.mini_tx.specs.FlatMemory.{Flat, held_by, bytes_at, reads}
use Rattle.fs_image.specs.Counts.{sum_below, free_bits}
use Rattle.fs_image.specs.Owners.{Owners}
use Rattle.fs_image.specs.Places.{block_map}
use Rattle.fs_image.proofs.CountLemmas.{free_blocks_are_free_bits}
use Rattle.node_cache.specs.declared.held.Held.{Held}
use Rattle.node_cache.specs.declared.want.Want.TheVariants as want
use Rattle.plan_rules.specs.Matched.{IsOwnFile, IsOwnLook}
use Rattle.plan_rules.specs.Orders.{order, handle_check}
use Rattle.plan_rules.specs.Steps.{is_held, wanted_in, looks_in, refusal_in}
use Rattle.plan_rules.specs.Told.{file_of}
use Rattle.plan_forms.specs.Forms.{free_in, said, space_of}
use Rattle.read_laws.specs.Answers.{map_read, stat_fs_by}
use Rattle.read_laws.specs.Laws.{AnswersAs, IsPlannedOver, StatFsAnswers}
use Rattle.read_laws.proofs.OwnLemmas.{handle_told, plain}
use Rattle.read_laws.proofs.RuleLemmas.{answers, refuses}
use Rattle.read_laws.proofs.AttrLemmas.{by_check, look_held, same_check}

-- ---- the bits of a map that is cut behind its last bit

-- the byte of a bit
byte_kept : (map : List ℕ) (k i : ℕ) → i < k → slice_index (take k map) i ≡ slice_index map i
byte_kept map zero i less = absurd (omega (arith, less))
byte_kept [] (suc k) i less = refl
byte_kept (b ∷ map) (suc k) zero less = refl
byte_kept (b ∷ map) (suc k) (suc i) less = byte_kept map k i (omega (arith, less))

pub free_kept : (map : List ℕ) (k n : ℕ) → n ≤ 8 * k → free_below (take k map) n ≡ free_below map n
unfolding free_below
free_kept map k zero within = refl
free_kept map k (suc bit) within =
    let rest = free_kept map k bit (omega (arith, within)) in
    let byte = byte_kept map k (bit / 8) (omega (arith, within)) in
    ap (λ m. m + cond (is_used (take k map) bit) 0 1) rest
    ∙ ap (λ b. free_below map bit + cond (has_bit b (bit % 8)) 0 1) byte

-- ---- all maps

sums_below : (f : ℕ → ℕ) (n : ℕ) → sum_by f (below n) ≡ sum_below n f
unfolding below
sums_below f zero = refl
sums_below f (suc n) = sum_by_push f (below n) n ∙ ap (λ s. s + f n) (sums_below f n)

abbrev read_at : Flat → Geometry → ℕ → List ℕ
read_at flat g m = bytes_at (held_by flat m) 4096 ((g.blocks + 7) / 8)

read_all : (g : Geometry) (flat : Flat) (ms : List ℕ) → free_in g.blocks (reads (map (map_read g) ms) flat) ≡ sum_by (λ m. free_below (read_at flat g m) g.blocks) ms
read_all g flat [] = refl
read_all g flat (m ∷ ms) =
    sum_by-cons (λ map. free_below map g.blocks) (read_at flat g m) (reads (map (map_read g) ms) flat)
    ∙ ap (λ s. free_below (read_at flat g m) g.blocks + s) (read_all g flat ms) ∙ sym (sum_by-cons (λ k. free_below (read_at flat g k) g.blocks) m ms)

sums_alike : (f g : ℕ → ℕ) → ((m : ℕ) → f m ≡ g m) → (n : ℕ) → sum_below n f ≡ sum_below n g
sums_alike f g same zero = refl
sums_alike f g same (suc n) = ap (λ s. s + f n) (sums_alike f g same n) ∙ ap (λ x. sum_below n g + x) (same n)

cut_twice : (g : Geometry) (flat : Flat) (m : ℕ) → g.blocks ≤ 16384
    → free_below (bytes_at (held_by flat m) 4096 ((g.blocks + 7) / 8)) g.blocks ≡ free_below (block_map flat m) g.blocks
cut_twice g flat m few =
    free_kept (drop 4096 (held_by flat m)) ((g.blocks + 7) / 8) g.blocks (omega arith)
    ∙ sym (free_kept (drop 4096 (held_by flat m)) 2048 g.blocks (omega (arith, few)))

pub free_read : (g : Geometry) (flat : Flat) → g.blocks ≤ 16384 → free_in g.blocks (reads (map (map_read g) (below g.memories)) flat) ≡ free_bits g flat
free_read g flat few =
    read_all g flat (below g.memories)
    ∙ sums_below (λ m. free_below (bytes_at (held_by flat m) 4096 ((g.blocks + 7) / 8)) g.blocks) g.memories
    ∙ sums_alike (λ m. free_below (bytes_at (held_by flat m) 4096 ((g.blocks + 7) / 8)) g.blocks) (λ m. free_below (block_map flat m) g.blocks)
    (λ m. cut_twice g flat m few) g.memories

module _ (held : Held) (flat : Flat) (t : PlainTree) (o : Owners) (arrival : ℕ) (cred : Cred) (now : Stamp) (start : ℕ) (file : Handle)
    (over : IsPlannedOver held flat t o arrival (StatFs file) cred) where
  held_there : is_held held (want.Inode (number_in file.0)) ≡ true
  unfolding order wanted_in
  held_there = look_held (is_held held (want.Inode (number_in file.0))) (want.Inode (number_in file.0)) _ over.wanted

  own_file : IsOwnFile t.geometry flat o held (number_in file.0)
  unfolding order looks_in
  own_file = (recursion_from_All (IsOwnLook t.geometry flat o held) (looks_in (order held arrival (StatFs file) cred)) over.own).0

  told : file_of held file.0 ≡ option_map plain (rules.file_of t file.0)
  told = handle_told held flat t o over.work over.same over.shows file.0 held_there own_file

  decides : refusal_in (order held arrival (StatFs file) cred) ≡ first_failure (rules.argument_checks t (StatFs file) cred ++ own_checks t (StatFs file) cred)
  unfolding order refusal_in rules.argument_checks
  decides = by_check (handle_check held file.0) (rules.handle_check t file.0) (same_check held t file.0 told)

  space_is : space_answer t ≡ said (stat_fs_by held.geometry).form (reads (stat_fs_by held.geometry).items flat)
  unfolding space_answer
  space_is =
      let g = t.geometry in
      let free : free_blocks t ≡ free_in g.blocks (reads (map (map_read g) (below g.memories)) flat) =
      free_blocks_are_free_bits flat t o over.shows over.good ∙ sym (free_read g flat over.good.geometry.blocks.1) in
      ap (λ n. Space 8192 4096 (g.memories * g.blocks) n n) free
      ∙ ap (λ (k : Geometry). space_of k (reads (map (map_read k) (below k.memories)) flat)) (sym over.same)

  pub stat_fs_as : AnswersAs held flat t arrival (StatFs file) cred now start (stat_fs_by held.geometry)
  stat_fs_as =
      record {
        refused = λ status fails. refuses t (StatFs file) cred now start refl status (sym decides ∙ fails);
        answers = λ passes. answers t (StatFs file) cred now start refl (sym decides ∙ passes)
            ∙ ap (λ (a : Answer). let r : Responded = record { answer = a; tree = t; made = None } in r) space_is;
      }

pub stat_fs_answers : StatFsAnswers
stat_fs_answers held flat t o arrival cred now start file over = stat_fs_as held flat t o arrival cred now start file over
