-- The slots of a block and the bytes that spell them.
use Rattle.std.proofs.Common.{◌≡◌, ℕ, zero, suc, ◌+◌, ◌*◌, ◌<◌, List, [], ◌∷◌, ◌++◌, length, get_or, take, drop, refl, sym, ap, subst, ◌∙◌, arith}
use Rattle.std.specs.Prelude.{replicate, Result, Ok, Err, IfOk, IfErr}
use Rattle.fs_dir.specs.declared.slot_fault.SlotFault.{SlotFault}
use Rattle.fs_dir.specs.declared.slot_fault.SlotFault.TheVariants.{Bad}
use Rattle.std.specs.List.{flat_map, AllByRecursion}
use Rattle.std.proofs.lemmas.List.{append-nil, take_at, drop_at, drop-drop, take-append-drop, take_more, take_all, length-append, length_push}
use Rattle.std.proofs.lemmas.List.Concat.{flat_map-append, flat_map-cons}
use Rattle.std.proofs.lemmas.Slice.{take-put_mid}
use borrow.Rule.Slice.PartMut.{put_mid}
use Rattle.fs_layout.proofs.WordLemmas.{take_split}
use Rattle.fs_dir.specs.declared.slot.Slot.{Slot}
use Rattle.fs_dir.specs.Slots.{IsSlot, FitsSlot, SpellsSlot, SpellsSlots, slot_bytes}
use Rattle.fs_dir.specs.Laws.{SlotsHaveOneValue}
use Rattle.fs_dir.proofs.SlotLemmas.{length-slot, slot_one}

-- an empty slot
no_slot : Slot
no_slot = record { number = 0; name = [] }

-- ---- lists of slots

pub slots-cons : (s : Slot) (ss : List Slot) → flat_map slot_bytes (s ∷ ss) ≡ slot_bytes s ++ flat_map slot_bytes ss
slots-cons s ss = flat_map-cons slot_bytes s ss

pub slots-push : (ss : List Slot) (s : Slot) → flat_map slot_bytes (ss ++ s ∷ []) ≡ flat_map slot_bytes ss ++ slot_bytes s
slots-push ss s = flat_map-append slot_bytes ss (s ∷ []) ∙ ap (λ (bs : List ℕ). flat_map slot_bytes ss ++ bs) (flat_map-cons slot_bytes s [] ∙ append-nil (slot_bytes s))

pub fit_push : (ss : List Slot) (s : Slot) → AllByRecursion FitsSlot ss → FitsSlot s → AllByRecursion FitsSlot (ss ++ s ∷ [])
fit_push [] s fit last = (last, tt)
fit_push (x ∷ ss) s fit last = (fit.0, fit_push ss s fit.1 last)

pub slots_are : (ss : List Slot) → AllByRecursion FitsSlot ss → AllByRecursion IsSlot ss
slots_are [] fit = tt
slots_are (s ∷ ss) fit = (fit.0.is, slots_are ss fit.1)

pub length-slots : (ss : List Slot) → AllByRecursion IsSlot ss → length (flat_map slot_bytes ss) ≡ 272 * length ss
length-slots [] are = refl
length-slots (s ∷ ss) are =
    ap (length {A = ℕ}) (slots-cons s ss) ∙ omega (arith, length-append (slot_bytes s) (flat_map slot_bytes ss), length-slot s are.0.short, length-slots ss are.1)

-- the one at a place
pub fits_in : (ss : List Slot) (i : ℕ) (d : Slot) → i < length ss → AllByRecursion FitsSlot ss → FitsSlot (get_or ss i d)
fits_in [] i d inside fit = absurd (omega arith)
fits_in (s ∷ ss) zero d inside fit = fit.0
fits_in (s ∷ ss) (suc i) d inside fit = fits_in ss i d (omega arith) fit.1

-- the bytes of the one at a place
pub bytes_at : (ss : List Slot) (i : ℕ) (d : Slot) → i < length ss → AllByRecursion IsSlot ss → take 272 (drop (272 * i) (flat_map slot_bytes ss)) ≡ slot_bytes (get_or ss i d)
bytes_at [] i d inside are = absurd (omega arith)
bytes_at (s ∷ ss) zero d inside are =
    ap (λ (bs : List ℕ). take 272 (drop (272 * 0) bs)) (slots-cons s ss) ∙ take_at (slot_bytes s) (flat_map slot_bytes ss) 272 (length-slot s are.0.short)
bytes_at (s ∷ ss) (suc i) d inside are =
    let next : 272 * suc i ≡ 272 + 272 * i = omega arith in
    ap (λ (bs : List ℕ). take 272 (drop (272 * suc i) bs)) (slots-cons s ss)
    ∙ ap (λ (n : ℕ). take 272 (drop n (slot_bytes s ++ flat_map slot_bytes ss))) next
    ∙ ap (take 272) (sym (drop-drop (272 * i) 272 (slot_bytes s ++ flat_map slot_bytes ss)))
    ∙ ap (λ (bs : List ℕ). take 272 (drop (272 * i) bs)) (drop_at (slot_bytes s) (flat_map slot_bytes ss) 272 (length-slot s are.0.short))
    ∙ bytes_at ss i d (omega arith) are.1

-- bytes that are refused as a slot are none of a block's
pub not_a_block : (bytes : List ℕ) (i n : ℕ) → i < 15 → n ≡ 272 → ((s : Slot) → SpellsSlot s (take n (drop (272 * i) bytes)) → ⊥)
    → (slots : List Slot) → length slots ≡ 15 → AllByRecursion FitsSlot slots → bytes ≡ flat_map slot_bytes slots → ⊥
not_a_block bytes i n below is none slots sized fit spell =
    let inside : i < length slots = omega arith in
    let here : take n (drop (272 * i) bytes) ≡ slot_bytes (get_or slots i no_slot) =
    ap (λ (k : ℕ). take k (drop (272 * i) bytes)) is ∙ ap (λ (bs : List ℕ). take 272 (drop (272 * i) bs)) spell ∙ bytes_at slots i no_slot inside (slots_are slots fit) in
    none (get_or slots i no_slot) (record { fits = fits_in slots i no_slot inside fit; bytes_are = here })

-- ---- reading and writing them one by one

pub record ReadSoFar (bytes : List ℕ) (i : ℕ) (slots : List Slot) : Type 0 where
  pub sized : length slots ≡ i
  pub fit : AllByRecursion FitsSlot slots
  pub read : flat_map slot_bytes slots ≡ take (272 * i) bytes

pub read_none : (bytes : List ℕ) → ReadSoFar bytes 0 []
read_none bytes = record { sized = refl; fit = tt; read = refl }

pub read_more : (bytes : List ℕ) (i n : ℕ) (slots : List Slot) (s : Slot) → n ≡ 272 → ReadSoFar bytes i slots → SpellsSlot s (take n (drop (272 * i) bytes))
    → ReadSoFar bytes (i + 1) (slots ++ s ∷ [])
read_more bytes i n slots s is so_far spells =
    let end : 272 * i + 272 ≡ 272 * (i + 1) = omega arith in
    record {
      sized = omega (arith, length_push slots s, so_far.sized);
      fit = fit_push slots s so_far.fit spells.fits;
      read =
          slots-push slots s
          ∙ ap (λ (bs : List ℕ). bs ++ slot_bytes s) so_far.read
          ∙ ap (λ (bs : List ℕ). take (272 * i) bytes ++ bs) (sym spells.bytes_are ∙ ap (λ (k : ℕ). take k (drop (272 * i) bytes)) is)
          ∙ sym (take_split (272 * i) 272 bytes)
          ∙ ap (λ (k : ℕ). take k bytes) end;
    }

pub read_all : (bytes : List ℕ) (i : ℕ) (slots : List Slot) → length bytes ≡ 4080 → i ≡ 15 → ReadSoFar bytes i slots
    → (length slots ≡ 15) × AllByRecursion FitsSlot slots × (bytes ≡ flat_map slot_bytes slots)
read_all bytes i slots sized end so_far =
    (so_far.sized ∙ end, so_far.fit, sym (so_far.read ∙ take_all (272 * i) bytes (omega arith)))

-- what was written of the first slots
pub record WrittenSoFar (slots : List Slot) (i : ℕ) (into : List ℕ) : Type 0 where
  pub fit : AllByRecursion FitsSlot (take i slots)
  pub written : take (272 * i) into ≡ flat_map slot_bytes (take i slots)

pub written_none : (slots : List Slot) (into : List ℕ) → WrittenSoFar slots 0 into
written_none slots into = record { fit = tt; written = refl }

pub written_more : (into part : List ℕ) (i n : ℕ) (slots : List Slot) (s : Slot) → i < length slots → length into ≡ 272 * length slots → n ≡ 272 → get_or slots i s ≡ s
    → SpellsSlot s part → WrittenSoFar slots i into → WrittenSoFar slots (i + 1) (put_mid (272 * i) n into part)
written_more into part i n slots s inside sized is here spells so_far =
    let end : 272 * (i + 1) ≡ 272 * i + 272 = omega arith in
    let part_is : length part ≡ 272 = ap (length {A = ℕ}) spells.bytes_are ∙ length-slot s spells.fits.is.short in
    let items : take i slots ++ s ∷ [] ≡ take (i + 1) slots = ap (λ (x : Slot). take i slots ++ x ∷ []) (sym here) ∙ sym (take_more slots i s inside) in
    record {
      fit = subst (AllByRecursion FitsSlot) items (fit_push (take i slots) s so_far.fit spells.fits);
      written =
          ap (λ (k : ℕ). take k (put_mid (272 * i) n into part)) end
          ∙ take-put_mid (272 * i) n into part (272 * i + 272) (omega arith) (omega arith)
          ∙ ap (λ (bs : List ℕ). bs ++ part) so_far.written
          ∙ ap (λ (bs : List ℕ). flat_map slot_bytes (take i slots) ++ bs) spells.bytes_are
          ∙ sym (slots-push (take i slots) s)
          ∙ ap (flat_map slot_bytes) items;
    }

-- ---- whole blocks

-- the slots of a block, and the zeros behind them
pub record BlockParts (slots : List Slot) (bytes : List ℕ) : Type 0 where
  pub sized : length bytes ≡ 4096
  pub front : take 4080 bytes ≡ flat_map slot_bytes slots
  pub back : drop 4080 bytes ≡ replicate 16 0

pub block_parts : (slots : List Slot) (bytes : List ℕ) → SpellsSlots slots bytes → BlockParts slots bytes
block_parts slots bytes h =
    let all = flat_map slot_bytes slots in
    let long : length all ≡ 4080 = length-slots slots (slots_are slots h.fit) ∙ ap (λ (n : ℕ). 272 * n) h.sized in
    record {
      sized = omega (arith, ap (length {A = ℕ}) h.bytes_are, length-append all (replicate 16 0), long);
      front = ap (take 4080) h.bytes_are ∙ take_at all (replicate 16 0) 4080 long;
      back = ap (drop 4080) h.bytes_are ∙ drop_at all (replicate 16 0) 4080 long;
    }

pub block_found : (bytes front zeros : List ℕ) (slots : List Slot) → front ≡ take 4080 bytes → zeros ≡ drop 4080 bytes → length zeros ≡ 16 → zeros ≡ replicate (length zeros) 0
    → length slots ≡ 15 → AllByRecursion FitsSlot slots → front ≡ flat_map slot_bytes slots → SpellsSlots slots bytes
block_found bytes front zeros slots front_is zeros_are left none sized fit spell =
    record {
      sized = sized;
      fit = fit;
      bytes_are =
          sym (take-append-drop 4080 bytes) ∙ ap (λ (f : List ℕ). f ++ drop 4080 bytes) (sym front_is ∙ spell)
          ∙ ap (λ (b : List ℕ). flat_map slot_bytes slots ++ b) (sym zeros_are ∙ none ∙ ap (λ (n : ℕ). replicate n 0) left);
    }

pub block_zeros : (slots : List Slot) (bytes zeros : List ℕ) → SpellsSlots slots bytes → zeros ≡ drop 4080 bytes → zeros ≡ replicate (length zeros) 0
block_zeros slots bytes zeros h are =
    let is : zeros ≡ replicate 16 0 = are ∙ (block_parts slots bytes h).back in
    let sized : 16 ≡ length zeros = sym (ap (length {A = ℕ}) is) in
    is ∙ ap (λ (n : ℕ). replicate n 0) sized

-- what the slots answer is right of the block
pub answer_found : {E : Type 0} (bytes front zeros : List ℕ) (answer : Result (List Slot) E) → front ≡ take 4080 bytes → zeros ≡ drop 4080 bytes → length zeros ≡ 16
    → zeros ≡ replicate (length zeros) 0
    → IfOk answer (λ slots. (length slots ≡ 15) × AllByRecursion FitsSlot slots × (front ≡ flat_map slot_bytes slots)) → IfOk answer (λ slots. SpellsSlots slots bytes)
answer_found bytes front zeros (Ok slots) front_is zeros_are left none found = block_found bytes front zeros slots front_is zeros_are left none found.0 found.1 found.2
answer_found bytes front zeros (Err e) front_is zeros_are left none found = tt

pub answer_bad : (bytes front : List ℕ) (answer : Result (List Slot) SlotFault) → front ≡ take 4080 bytes
    → IfErr answer (λ fault. fault ≡ Bad → (slots : List Slot) → length slots ≡ 15 → AllByRecursion FitsSlot slots → front ≡ flat_map slot_bytes slots → ⊥)
    → IfErr answer (λ fault. fault ≡ Bad → (slots : List Slot) → SpellsSlots slots bytes → ⊥)
answer_bad bytes front (Ok slots) front_is bad = tt
answer_bad bytes front (Err e) front_is bad = λ is slots h. bad is slots h.sized h.fit (front_is ∙ (block_parts slots bytes h).front)

slots_one : (ss ts : List Slot) → AllByRecursion FitsSlot ss → AllByRecursion FitsSlot ts → length ss ≡ length ts → flat_map slot_bytes ss ≡ flat_map slot_bytes ts → ss ≡ ts
slots_one [] [] first second sized e = refl
slots_one [] (t ∷ ts) first second sized e = absurd (omega arith)
slots_one (s ∷ ss) [] first second sized e = absurd (omega arith)
slots_one (s ∷ ss) (t ∷ ts) first second sized e =
    let whole : slot_bytes s ++ flat_map slot_bytes ss ≡ slot_bytes t ++ flat_map slot_bytes ts = sym (slots-cons s ss) ∙ e ∙ slots-cons t ts in
    let head : slot_bytes s ≡ slot_bytes t =
    sym (take_at (slot_bytes s) (flat_map slot_bytes ss) 272 (length-slot s first.0.is.short)) ∙ ap (take 272) whole
    ∙ take_at (slot_bytes t) (flat_map slot_bytes ts) 272 (length-slot t second.0.is.short) in
    let tail : flat_map slot_bytes ss ≡ flat_map slot_bytes ts =
    sym (drop_at (slot_bytes s) (flat_map slot_bytes ss) 272 (length-slot s first.0.is.short)) ∙ ap (drop 272) whole
    ∙ drop_at (slot_bytes t) (flat_map slot_bytes ts) 272 (length-slot t second.0.is.short) in
    let one : s ≡ t = slot_one s t (slot_bytes s) (record { fits = first.0; bytes_are = refl }) (record { fits = second.0; bytes_are = head }) in
    ap (λ (x : Slot). x ∷ ss) one ∙ ap (λ (xs : List Slot). t ∷ xs) (slots_one ss ts first.1 second.1 (omega arith) tail)

pub block_one : SlotsHaveOneValue
block_one slots others bytes first second =
    let p = block_parts slots bytes first in
    let q = block_parts others bytes second in
    slots_one slots others first.fit second.fit (first.sized ∙ sym second.sized) (sym p.front ∙ q.front)
