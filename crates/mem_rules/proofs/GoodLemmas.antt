-- Entries that are fit keep a state good.
use Rattle.std.proofs.Common.{◌≡◌, ◌<◌, ◌≤◌, ◌+◌, ℕ, nat_lt, leb, Bool, true, false, cond, ◌&&◌, ◌||◌, List, [], ◌∷◌, ◌++◌, map, filter, find, take, drop, length, Option, Some, None, refl, sym, subst, ◌∙◌, arith, length-append}
use Rattle.std.specs.Prelude.{max, min}
use Rattle.std.specs.List.{AllByRecursion, All, list_any}
use Rattle.std.proofs.lemmas.Bool.{lt-ltb, ltb-true, leb-true, and_parts}
use Rattle.std.proofs.lemmas.List.{length-set, length-take, length-drop, length-replicate}
use Rattle.std.proofs.lemmas.List.Elements.{recursion_from_All, All-nil}
use Rattle.std.proofs.lemmas.List.Folds.{list_any-from_Any, Any-from_list_any}
use Rattle.mini_tx.specs.declared.entry.Entry.{Entry}
use Rattle.mini_tx.specs.declared.entry.Entry.TheVariants as entry
use Rattle.mini_tx.specs.declared.range.Range.{Range}
use Rattle.mini_tx.specs.declared.tx_id.TxId.{TxId}
use Rattle.mini_tx.specs.declared.vote.Vote.{Vote}
use Rattle.mini_tx.specs.declared.write_at.WriteAt.{WriteAt}
use Rattle.mini_tx.specs.FlatMemory.{with_bytes}
use Rattle.lock_table.specs.Spans.{overlap}
use Rattle.mem_rules.specs.declared.floor.Floor.{Floor}
use Rattle.mem_rules.specs.declared.kept.Kept.{Kept}
use Rattle.mem_rules.specs.declared.setup.Setup.{Setup}
use Rattle.mem_rules.specs.Fit.{IsWriteInside, IsFit, covers, IsIn, size_of}
use Rattle.mem_rules.specs.Good.{AreAscending, IsInPlace, AreApart, AreAllApart, IsGood, OpenedStatesAreGood, EntriesKeepStatesGood}
use Rattle.mem_rules.specs.Identifiers.{precedes, is_same}
use Rattle.mem_rules.specs.Items.{written}
use Rattle.mem_rules.specs.Rules.{is_undecided, meet, blocks}
use Rattle.mem_rules.specs.State.{State, kept_of, placed_in, with_decision, decided, committed, writes_kept, raise, after_entry}
use Rattle.lock_table.proofs.OrderLemmas.{trans, or_after}
use Rattle.mem_rules.proofs.RecordLemmas.{Follows, stays}

-- ---- images

length_with : (image : List ℕ) (at : ℕ) (bytes : List ℕ) → at + length bytes ≤ length image → length (with_bytes image at bytes) ≡ length image
length_with image at bytes fits =
    length-append (take at image) (bytes ++ drop (at + length bytes) image)
    ∙ omega (arith, length-take at image, length-append bytes (drop (at + length bytes) image), length-drop (at + length bytes) image)

pub length_written : (size : ℕ) (image : List ℕ) (writes : List WriteAt) → length image ≡ size → AllByRecursion (IsWriteInside size) writes → length (written image writes) ≡ size
length_written size image [] is inside = is
length_written size image (w ∷ writes) is inside =
    length_written size (with_bytes image w.at w.bytes) writes (length_with image w.at w.bytes (omega (arith, is, inside.0.1)) ∙ is) inside.1

-- ---- records

none_parts : {X : Type 0} (b : Bool) (x : X) (rest : Option X) → cond b (Some x) rest ≡ None → (b ≡ false) × (rest ≡ None)
none_parts true x rest e = absurd cc
none_parts false x rest e = (refl, e)

each_placed : (P : Kept → Type 0) (k : Kept) (kept : List Kept) → P k → AllByRecursion P kept → AllByRecursion P (placed_in k kept)
each_placed P k [] own all = (own, tt)
each_placed P k (o ∷ kept) own all = go (precedes o.id k.id) (each_placed P k kept own all.1)
  where
    go : (b : Bool) → AllByRecursion P (placed_in k kept) → AllByRecursion P (cond b (o ∷ placed_in k kept) (k ∷ o ∷ kept))
    go true rest = (all.0, rest)
    go false rest = (own, all)

each_follows : (a b : TxId) (kept : List Kept) → precedes a b ≡ true → AllByRecursion (Follows b) kept → AllByRecursion (Follows a) kept
each_follows a b [] before all = tt
each_follows a b (o ∷ kept) before all = (trans a b o.id before all.0, each_follows a b kept before all.1)

pub ascending_placed : (k : Kept) (kept : List Kept) → AreAscending kept → kept_of kept k.id ≡ None → AreAscending (placed_in k kept)
ascending_placed k [] ascending unseen = (tt, tt)
ascending_placed k (o ∷ kept) ascending unseen =
    go (precedes o.id k.id) refl (ascending_placed k kept ascending.1 (none_parts (is_same o.id k.id) o (kept_of kept k.id) unseen).1)
  where
    other : (is_same o.id k.id ≡ false) × (kept_of kept k.id ≡ None)
    other = none_parts (is_same o.id k.id) o (kept_of kept k.id) unseen

    go : (b : Bool) → precedes o.id k.id ≡ b → AreAscending (placed_in k kept) → AreAscending (cond b (o ∷ placed_in k kept) (k ∷ o ∷ kept))
    go true is rest = (each_placed (Follows o.id) k kept is ascending.0, rest)
    go false is rest =
        let before = or_after o.id k.id is other.0 in
        ((before, each_follows k.id o.id kept before ascending.0), ascending)

each_mapped : (P Q : Kept → Type 0) (f : Kept → Kept) (kept : List Kept) → ((k : Kept) → P k → Q (f k)) → AllByRecursion P kept → AllByRecursion Q (map f kept)
each_mapped P Q f [] step all = tt
each_mapped P Q f (k ∷ kept) step all = (step k all.0, each_mapped P Q f kept step all.1)

each_left : (P : Kept → Type 0) (test : Kept → Bool) (kept : List Kept) → AllByRecursion P kept → AllByRecursion P (filter test kept)
each_left P test [] all = tt
each_left P test (k ∷ kept) all = go (test k) (each_left P test kept all.1)
  where
    go : (b : Bool) → AllByRecursion P (filter test kept) → AllByRecursion P (cond b (k ∷ filter test kept) (filter test kept))
    go true rest = (all.0, rest)
    go false rest = rest

one : (a b : Kept) → ◌≡◌ {A = Option Kept} (Some a) (Some b) → a ≡ b
one a b e = cc

-- what holds of all holds of the record that is found
pub of_found : (P : Kept → Type 0) (test : Kept → Bool) (kept : List Kept) (k : Kept) → AllByRecursion P kept → find test kept ≡ Some k → P k
of_found P test [] k all is = absurd cc
of_found P test (o ∷ kept) k all is = go (test o) is (of_found P test kept k all.1)
  where
    go : (b : Bool) → cond b (Some o) (find test kept) ≡ Some k → (find test kept ≡ Some k → P k) → P k
    go true e rest = subst P (one o k e) all.0
    go false e rest = rest e

-- ---- locks

is_covered : (r : Range) (place : ℕ) → covers place r ≡ true → (r.at ≤ place) × (place < r.at + r.length)
is_covered r place e =
    let parts = and_parts (leb r.at place) (nat_lt place (r.at + r.length)) e in
    (leb-true r.at place parts.0, ltb-true place (r.at + r.length) parts.1)

shared : (a b : Range) (place : ℕ) → covers place a ≡ true → covers place b ≡ true → overlap a b ≡ true
shared a b place one two =
    let in_a = is_covered a place one in
    let in_b = is_covered b place two in
    lt-ltb (max a.at b.at) (min (a.at + a.length) (b.at + b.length)) (omega (arith, in_a.0, in_a.1, in_b.0, in_b.1))

not_both : (b : Bool) → b ≡ true → b ≡ false → ⊥
not_both true is not_ = absurd cc
not_both false is not_ = absurd cc

pub no_byte : (these those : List Range) → meet these those ≡ false → (place : ℕ) → IsIn these place → IsIn those place → ⊥
no_byte these those apart place mine theirs =
    let one = Any-from_list_any (covers place) these mine in
    let other = Any-from_list_any (covers place) those theirs in
    not_both (meet these those)
    (list_any-from_Any (λ a. list_any (overlap a) those) these (
      one.0,
      one.1,
      one.2,
      one.3,
      list_any-from_Any (overlap one.1) those (other.0, other.1, other.2, other.3, shared one.1 other.1 place one.4 other.4),
    ))
    apart

apart_from : (k : Kept) (kept : List Kept) → list_any (blocks k.ranges) kept ≡ false → AllByRecursion (AreApart k) kept
apart_from k [] free = tt
apart_from k (o ∷ kept) free =
    let parts = or_false (blocks k.ranges o) (list_any (blocks k.ranges) kept) free in (
      λ open_ other place mine theirs.
          no_byte o.ranges k.ranges (after_and (is_undecided o) (meet o.ranges k.ranges) other parts.0) place theirs mine,
      apart_from k kept parts.1,
    )
  where
    or_false : (a b : Bool) → (a || b) ≡ false → (a ≡ false) × (b ≡ false)
    or_false true b e = absurd cc
    or_false false b e = (refl, e)

    after_and : (a b : Bool) → a ≡ true → (a && b) ≡ false → b ≡ false
    after_and true b is e = e
    after_and false b is e = absurd cc

turned : (a b : Kept) → AreApart a b → AreApart b a
turned a b apart open_ other place one two = apart other open_ place two one

each_turned : (k : Kept) (kept : List Kept) → AllByRecursion (AreApart k) kept → AllByRecursion (λ o. AreApart o k) kept
each_turned k [] all = tt
each_turned k (o ∷ kept) all = (turned k o all.0, each_turned k kept all.1)

apart_placed : (k : Kept) (kept : List Kept) → AreAllApart kept → AllByRecursion (AreApart k) kept → AreAllApart (placed_in k kept)
apart_placed k [] apart own = (tt, tt)
apart_placed k (o ∷ kept) apart own = go (precedes o.id k.id) (apart_placed k kept apart.1 own.1)
  where
    go : (b : Bool) → AreAllApart (placed_in k kept) → AreAllApart (cond b (o ∷ placed_in k kept) (k ∷ o ∷ kept))
    go true rest = (each_placed (AreApart o) k kept (turned k o own.0) apart.0, rest)
    go false rest = (own, apart)

-- ---- a decision

module _ (id : TxId) (commit : Bool) where
  same_id : (k : Kept) → (decided id commit k).id ≡ k.id
  same_id k = go (is_same k.id id)
    where
      go : (b : Bool) → (cond b (with_decision commit k) k).id ≡ k.id
      go true = refl
      go false = refl

  pub ascending_decided : (kept : List Kept) → AreAscending kept → AreAscending (map (decided id commit) kept)
  ascending_decided [] ascending = tt
  ascending_decided (k ∷ kept) ascending = (
    each_mapped (Follows k.id) (Follows (decided id commit k).id) (decided id commit) kept
        (λ o before. subst (λ (x : TxId). precedes x (decided id commit o).id ≡ true) (sym (same_id k)) (subst (λ (x : TxId). precedes k.id x ≡ true) (sym (same_id o)) before)) ascending.0,
    ascending_decided kept ascending.1,
  )

  in_place_decided : (s : Setup) (k : Kept) → IsInPlace s k → IsInPlace s (decided id commit k)
  in_place_decided s k in_place = go (is_same k.id id)
    where
      go : (b : Bool) → IsInPlace s (cond b (with_decision commit k) k)
      go true = record { ranges = All-nil _; writes = All-nil _; covered = All-nil _ }
      go false = in_place

  still_apart : (a b : Kept) → AreApart a b → AreApart (decided id commit a) (decided id commit b)
  still_apart a b apart = go (is_same a.id id) (is_same b.id id)
    where
      go : (c d : Bool) → AreApart (cond c (with_decision commit a) a) (cond d (with_decision commit b) b)
      go true d = λ open_ other place one two. absurd cc
      go false true = λ open_ other place one two. absurd cc
      go false false = apart

  apart_decided : (kept : List Kept) → AreAllApart kept → AreAllApart (map (decided id commit) kept)
  apart_decided [] apart = tt
  apart_decided (k ∷ kept) apart = (
    each_mapped (AreApart k) (AreApart (decided id commit k)) (decided id commit) kept (λ o one. still_apart k o one) apart.0,
    apart_decided kept apart.1,
  )

pub ascending_left : (test : Kept → Bool) (kept : List Kept) → AreAscending kept → AreAscending (filter test kept)
ascending_left test [] ascending = tt
ascending_left test (k ∷ kept) ascending = go (test k) (ascending_left test kept ascending.1)
  where
    go : (b : Bool) → AreAscending (filter test kept) → AreAscending (cond b (k ∷ filter test kept) (filter test kept))
    go true rest = (each_left (Follows k.id) test kept ascending.0, rest)
    go false rest = rest

apart_left : (test : Kept → Bool) (kept : List Kept) → AreAllApart kept → AreAllApart (filter test kept)
apart_left test [] apart = tt
apart_left test (k ∷ kept) apart = go (test k) (apart_left test kept apart.1)
  where
    go : (b : Bool) → AreAllApart (filter test kept) → AreAllApart (cond b (k ∷ filter test kept) (filter test kept))
    go true rest = (each_left (AreApart k) test kept apart.0, rest)
    go false rest = rest

-- ---- the laws

pub opened_good : OpenedStatesAreGood
opened_good s image sized = record { floors = length-replicate s.geometry.nodes None; image = sized; ascending = tt; records = tt; apart = tt }

floors_after : (floors : List (Option Floor)) (n : ℕ) (id : TxId) (v : Vote) → length floors ≡ n → length (raise floors id v) ≡ n
floors_after floors n id v is = length-set floors id.coord _ ∙ is

-- the writes of a record that is kept lie inside
pub writes_inside : (s : Setup) (kept : List Kept) (id : TxId) → AllByRecursion (IsInPlace s) kept → All (IsWriteInside (size_of s)) (writes_kept (kept_of kept id))
writes_inside s kept id all = go (kept_of kept id) refl
  where
    go : (o : Option Kept) → kept_of kept id ≡ o → All (IsWriteInside (size_of s)) (writes_kept o)
    go None is = All-nil _
    go (Some k) is = (of_found (IsInPlace s) (λ x. is_same x.id id) kept k all is).writes

pub good_after : EntriesKeepStatesGood
good_after s state (entry.Single id v writes) good fit = record {
  floors = floors_after state.floors s.geometry.nodes id v good.floors;
  image = length_written (size_of s) state.image writes good.image (recursion_from_All (IsWriteInside (size_of s)) writes fit.1);
  ascending = good.ascending;
  records = good.records;
  apart = good.apart;
}
good_after s state (entry.Prepared id participants v ranges writes) good fit =
    let k : Kept = record { id = id; participants = participants; vote = v; ranges = ranges; writes = writes; decision = None } in
    record {
      floors = floors_after state.floors s.geometry.nodes id v good.floors;
      image = good.image;
      ascending = ascending_placed k state.kept good.ascending fit.unseen;
      records = each_placed (IsInPlace s) k state.kept (record { ranges = fit.inside; writes = fit.written; covered = fit.covered }) good.records;
      apart = apart_placed k state.kept good.apart (apart_from k state.kept fit.free);
    }
good_after s state (entry.Refused id v) good fit = record {
  floors = floors_after state.floors s.geometry.nodes id v good.floors;
  image = good.image;
  ascending = good.ascending;
  records = good.records;
  apart = good.apart;
}
good_after s state (entry.Decided id commit) good fit = record {
  floors = good.floors;
  image = go commit;
  ascending = ascending_decided id commit state.kept good.ascending;
  records = each_mapped (IsInPlace s) (IsInPlace s) (decided id commit) state.kept (in_place_decided id commit s) good.records;
  apart = apart_decided id commit state.kept good.apart;
}
  where
    go : (b : Bool) → length (committed b state.image (writes_kept (kept_of state.kept id))) ≡ size_of s
    go true = length_written (size_of s) state.image (writes_kept (kept_of state.kept id)) good.image
        (recursion_from_All (IsWriteInside (size_of s)) (writes_kept (kept_of state.kept id)) (writes_inside s state.kept id good.records))
    go false = good.image
good_after s state (entry.Forgotten id) good fit = record {
  floors = good.floors;
  image = good.image;
  ascending = ascending_left (stays id) state.kept good.ascending;
  records = each_left (IsInPlace s) (stays id) state.kept good.records;
  apart = apart_left (stays id) state.kept good.apart;
}
good_after s state (entry.Cut cut) good fit = record {
  floors = good.floors;
  image = good.image;
  ascending = good.ascending;
  records = good.records;
  apart = good.apart;
}
good_after s state (entry.Floor id v) good fit = record {
  floors = floors_after state.floors s.geometry.nodes id v good.floors;
  image = good.image;
  ascending = good.ascending;
  records = good.records;
  apart = good.apart;
}

-- what was made of a good state by a fit entry is good
pub good_now : (s : Setup) (state now : State) (e : Entry) → IsGood s state → IsFit s state e → now ≡ after_entry state e → IsGood s now
good_now s state now e good fit is = subst (λ (t : State). IsGood s t) (sym is) (good_after s state e good fit)
