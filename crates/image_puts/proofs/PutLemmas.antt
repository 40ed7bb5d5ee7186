-- What one put leaves, and then the next.
use Rattle.std.proofs.Common.{◌≡◌, ◌⊎◌, inl, inr, ℕ, zero, suc, ◌+◌, ◌-◌, ◌<◌, ◌≤◌, List, [], ◌∷◌, ◌++◌, length, take, drop, Some, refl, sym, ap, subst, ◌∙◌, arith}
use Rattle.std.specs.Prelude.{map, slice_get}
use Rattle.std.specs.List.{AllByRecursion}
use Rattle.std.proofs.Math.Seq.{take-add}
use Rattle.std.proofs.lemmas.Bool.{cases_order}
use Rattle.std.proofs.lemmas.List.{take-take, length-take-le, length-drop, drop_at}
use Rattle.fs_layout.specs.Places.{record_at, block_place}
use Rattle.fs_rules.specs.declared.geometry.Geometry.{Geometry}
use Rattle.mini_tx.specs.FlatMemory.{Flat, held_by, bytes_at, with_bytes, after}
use Rattle.fs_image.specs.Places.{layout_of, behind_records}
use Rattle.fs_image.specs.Regions.{Region, FirstPage, BlockMap, InodeMap, Record, Block, IsRegion, AreApart, Writes, start, size}
use Rattle.fs_image.proofs.ContentLemmas.{drop_sum}
use Rattle.fs_image.proofs.RegionLemmas.{regions_are_apart, regions_are_inside, writes_stay_apart}
use Rattle.image_puts.specs.Puts.{AreImages, AreOnce, IsElsewhere, IsInside, IsPut, Put, PutsArePut, item_of, region_bytes}

-- ---- bytes in three pieces

pieces : (xs : List ℕ) (at n len rest : ℕ) → bytes_at xs at (n + (len + rest)) ≡ bytes_at xs at n ++ (bytes_at xs (at + n) len ++ bytes_at xs (at + n + len) rest)
pieces xs at n len rest =
    take-add n (len + rest) (drop at xs)
    ∙ ap (λ ys. bytes_at xs at n ++ ys) (ap (λ ys. take (len + rest) ys) (sym (drop_sum at n xs)) ∙ take-add len rest (drop (at + n) xs)
    ∙ ap (λ ys. bytes_at xs (at + n) len ++ take rest ys) (sym (drop_sum (at + n) len xs)))

-- bytes that are replaced in the middle of others
module _ (xs bytes : List ℕ) (at n rest : ℕ) (within : at + (n + (length bytes + rest)) ≤ length xs) where
  abbrev all : List ℕ
  all = bytes_at xs at (n + (length bytes + rest))

  front : take n all ≡ bytes_at xs at n
  front = take-take n (n + (length bytes + rest)) (drop at xs) (omega arith)

  head_long : length (take (n + length bytes) (drop at xs)) ≡ n + length bytes
  head_long = length-take-le (n + length bytes) (drop at xs) (omega (arith, within, length_drop))
    where
      length_drop : length (drop at xs) ≡ length xs - at
      length_drop = length-drop at xs

  back : drop (n + length bytes) all ≡ bytes_at xs (at + n + length bytes) rest
  back =
      let sum : n + (length bytes + rest) ≡ n + length bytes + rest = omega arith in
      let place : at + (n + length bytes) ≡ at + n + length bytes = omega arith in
      ap (λ k. drop (n + length bytes) (take k (drop at xs))) sum
      ∙ ap (drop (n + length bytes)) (take-add (n + length bytes) rest (drop at xs))
      ∙ drop_at (take (n + length bytes) (drop at xs)) (take rest (drop (n + length bytes) (drop at xs))) (n + length bytes) head_long
      ∙ ap (take rest) (sym (drop_sum at (n + length bytes) xs) ∙ ap (λ k. drop k xs) place)

  replaced : (ys : List ℕ) → bytes_at ys at n ≡ bytes_at xs at n → bytes_at ys (at + n) (length bytes) ≡ bytes
      → bytes_at ys (at + n + length bytes) rest ≡ bytes_at xs (at + n + length bytes) rest
      → bytes_at ys at (n + (length bytes + rest)) ≡ with_bytes all n bytes
  replaced ys before here behind =
      pieces ys at n (length bytes) rest
      ∙ ap (λ zs. zs ++ (bytes_at ys (at + n) (length bytes) ++ bytes_at ys (at + n + length bytes) rest)) (before ∙ sym front)
      ∙ ap (λ zs. take n all ++ (zs ++ bytes_at ys (at + n + length bytes) rest)) here
      ∙ ap (λ zs. take n all ++ (bytes ++ zs)) (behind ∙ sym back)

-- ---- one put

module _ (g : Geometry) (p : Put) (flat : Flat) (images : AreImages g flat) (inside : IsInside g p) where
  abbrev at : ℕ
  at = start (layout_of g) p.region

  abbrev new : Flat
  new = after (item_of g p ∷ []) flat

  there : p.memory < length flat
  there = subst (λ n. p.memory < n) (sym images.memories) inside.memory

  ends : at + size p.region ≤ length (held_by flat p.memory)
  ends = subst (λ n. at + size p.region ≤ n) (sym (images.sized p.memory inside.memory)) (regions_are_inside (layout_of g) p.region inside.region)

  writes : Writes flat new p.memory (at + p.offset) p.bytes
  writes = writes_stay_apart flat p.memory (at + p.offset) p.bytes there (omega (arith, ends, inside.ends))

  one_put : region_bytes g new p.memory p.region ≡ with_bytes (region_bytes g flat p.memory p.region) p.offset p.bytes
  one_put =
      let rest = size p.region - (p.offset + length p.bytes) in
      let sum : p.offset + (length p.bytes + rest) ≡ size p.region = omega (arith, inside.ends) in
      let within : at + (p.offset + (length p.bytes + rest)) ≤ length (held_by flat p.memory) = subst (λ n. at + n ≤ length (held_by flat p.memory)) (sym sum) ends in
      ap (λ n. bytes_at (held_by new p.memory) at n) (sym sum)
      ∙ replaced (held_by flat p.memory) p.bytes at p.offset rest within (held_by new p.memory)
      (writes.apart at p.offset (inr (omega arith))) writes.here (writes.apart (at + p.offset + length p.bytes) rest (inl (omega arith)))
      ∙ ap (λ n. with_bytes (bytes_at (held_by flat p.memory) at n) p.offset p.bytes) sum

  still : (m from n : ℕ) → (p.memory ≡ m → AreApart at (size p.region) from n) → bytes_at (held_by new m) from n ≡ bytes_at (held_by flat m) from n
  still m from n apart = elim (cases_order m p.memory) [
    | inl same ↦ subst (λ k. bytes_at (held_by new k) from n ≡ bytes_at (held_by flat k) from n) (sym same) (writes.apart from n (inner (apart (sym same))))
    | inr other ↦ ap (λ image. bytes_at image from n) (writes.others m (λ same. elim other [ inl less ↦ omega (arith, less, same) | inr more ↦ omega (arith, more, same) ]))
  ]
    where
      inner : AreApart at (size p.region) from n → AreApart (at + p.offset) (length p.bytes) from n
      inner (inl less) = inl (omega (arith, less, inside.ends))
      inner (inr more) = inr (omega (arith, more))

  one_kept : (m : ℕ) (r : Region) → IsRegion (layout_of g) r → IsElsewhere m r p → region_bytes g new m r ≡ region_bytes g flat m r
  one_kept m r is elsewhere = still m (start (layout_of g) r) (size r) (λ same. regions_are_apart (layout_of g) p.region r inside.region is (elsewhere same))

  past_records : (r : Region) → IsRegion (layout_of g) r → AreApart (start (layout_of g) r) (size r) (record_at g.inodes) (block_place (layout_of g) 0 - record_at g.inodes)
  past_records FirstPage is = inl (omega arith)
  past_records BlockMap is = inl (omega arith)
  past_records InodeMap is = inl (omega arith)
  past_records (Record i) is = inl (omega (arith, is))
  past_records (Block b) is = inr (omega arith)

  one_behind : (m : ℕ) → behind_records g new m ≡ behind_records g flat m
  one_behind m = still m (record_at g.inodes) (block_place (layout_of g) 0 - record_at g.inodes) (λ same. past_records p.region inside.region)

  sized_still : (m : ℕ) → length (held_by new m) ≡ length (held_by flat m)
  sized_still m = elim (cases_order m p.memory) [
    | inl same ↦ subst (λ k. length (held_by new k) ≡ length (held_by flat k)) (sym same) writes.sized
    | inr other ↦ ap length (writes.others m (λ same. elim other [ inl less ↦ omega (arith, less, same) | inr more ↦ omega (arith, more, same) ]))
  ]

  one_images : AreImages g new
  one_images = record { memories = writes.memories ∙ images.memories; sized = λ m is. sized_still m ∙ images.sized m is }

-- ---- all puts

first_or_later : {X : Type 0} (x y : X) (xs : List X) (i : ℕ) → slice_get (x ∷ xs) i ≡ Some y → (x ≡ y) ⊎ ((j : ℕ) × (slice_get xs j ≡ Some y))
first_or_later x y xs zero is = inl cc
first_or_later x y xs (suc i) is = inr (i, is)

-- of all of them one is at a place
at_place : (P : Put → Type 0) (qs : List Put) → AllByRecursion P qs → (j : ℕ) (q : Put) → slice_get qs j ≡ Some q → P q
at_place P [] every zero q is = absurd cc
at_place P [] every (suc j) q is = absurd cc
at_place P (x ∷ xs) every zero q is = let same : x ≡ q = cc in subst P same every.0
at_place P (x ∷ xs) every (suc j) q is = at_place P xs every.1 j q is

none_there : (i : ℕ) (p : Put) → slice_get [] i ≡ Some p → ⊥
none_there zero p is = absurd cc
none_there (suc i) p is = absurd cc

module _ (g : Geometry) (p : Put) (puts : List Put) (flat : Flat) (images : AreImages g flat) (inside : IsInside g p) (others : AllByRecursion (IsInside g) puts)
    (once : AllByRecursion (IsElsewhere p.memory p.region) puts) where
  abbrev one : Flat
  one = after (item_of g p ∷ []) flat

  module _ (last : Flat) (rest : IsPut g puts one last) where
    put_by : (i : ℕ) (q : Put) → (p ≡ q) ⊎ ((j : ℕ) × (slice_get puts j ≡ Some q))
        → region_bytes g last q.memory q.region ≡ with_bytes (region_bytes g flat q.memory q.region) q.offset q.bytes
    put_by i q (inl same) =
        subst (λ (x : Put). region_bytes g last x.memory x.region ≡ with_bytes (region_bytes g flat x.memory x.region) x.offset x.bytes) same
        (rest.kept p.memory p.region inside.region once ∙ one_put g p flat images inside)
    put_by i q (inr later) =
        rest.put later.0 q later.1
        ∙ ap (λ bytes. with_bytes bytes q.offset q.bytes) (one_kept g p flat images inside q.memory q.region (at_place (IsInside g) puts others later.0 q later.1).region
        (λ same region. at_place (IsElsewhere p.memory p.region) puts once later.0 q later.1 (sym same) (sym region)))

    next_put : IsPut g (p ∷ puts) flat last
    next_put =
        record {
          images = rest.images;
          put = λ i q is. put_by i q (first_or_later p q puts i is);
          kept = λ m r is elsewhere. rest.kept m r is elsewhere.1 ∙ one_kept g p flat images inside m r is elsewhere.0;
          behind = λ m. rest.behind m ∙ one_behind g p flat images inside m;
        }

pub puts_are_put : PutsArePut
unfolding AreOnce
puts_are_put g [] flat images inside once =
    record { images = images; put = λ i p is. absurd (none_there i p is); kept = λ m r is elsewhere. refl; behind = λ m. refl }
puts_are_put g (p ∷ puts) flat images inside once =
    let one : Flat = after (item_of g p ∷ []) flat in
    next_put g p puts flat images inside.0 inside.1 once.0 (after (map (item_of g) puts) one)
    (puts_are_put g puts one (one_images g p flat images inside.0) inside.1 once.1)
