-- Reading takes the spellings of a log's entries and nothing else, and what is written is one of them.
use Rattle.std.proofs.Common.{◌≡◌, ℕ, zero, suc, ◌^◌, ◌<◌, ◌≤◌, ◌+◌, Bool, true, false, cond, ltb, leb, List, [], ◌∷◌, ◌++◌, length, take, drop, Result, Ok, Err, lit<, refl, sym, ap, subst, ◌∙◌, append_assoc, arith}
use Rattle.std.specs.Prelude.{replicate, IsTrue, ◌↔◌}
use Rattle.std.specs.Int.{Width, w64, byte_len, from_be_bytes, to_be_bytes}
use Rattle.std.proofs.lemmas.Bool.{ltb-false, le-ltb, leb-true, le-leb}
use Rattle.std.proofs.lemmas.List.{take_at, drop_at, take-append-drop, length-append, length-take, length-replicate}
use Rattle.std.proofs.lemmas.Nat.{be_bytes_8, from_be_bytes-to_be_bytes_8}
use Rattle.sfs_base.specs.Reading.{IsBytes, IsExact, ◌>>=◌}
use Rattle.sfs_base.proofs.ReadingLemmas.{IsBytes-behind, IsBytes-take, bind_ok, guard_ok, ok_is}
use Rattle.sfs_xdr.specs.declared.xdr_fault.XdrFault.{XdrFault}
use Rattle.sfs_xdr.specs.declared.xdr_fault.XdrFault.TheVariants.{Short}
use Rattle.sfs_xdr.specs.Items.{word, padding_of, opaque, opaque_var}
use Rattle.sfs_xdr.specs.Reading.{number_of, opaque_of}
use Rattle.sfs_xdr.specs.ItemLemmas.{opaque_found, writers_are_in}
use Rattle.sfs_xdr.specs.Codec.{Reading, plainly, number_item, fixed_item, ◌⟫◌, IsNumber}
use Rattle.sfs_xdr.specs.CodecLemmas.{plainly_is, number_exact, fixed_exact, both_exact, made_exact, behind}
use Rattle.mini_tx.specs.declared.cut_id.CutId.{CutId}
use Rattle.mini_tx.specs.declared.range.Range.{Range}
use Rattle.mini_tx.specs.declared.tx_id.TxId.{TxId}
use Rattle.mini_tx.specs.declared.write_at.WriteAt.{WriteAt}
use Rattle.mini_tx.specs.EntryGrammar.{longest, hyper, IsHyper, IsFilled, IsId, IsCut, IsRange, IsWrite, id_spelling, cut_spelling, range_spelling, write_spelling}
use Rattle.mini_tx.specs.EntryReading.{hyper_item, are_zeros, is_filled, body_of, filled_of, id_from, id_item, cut_from, cut_item, range_from, range_item, write_from, write_item, numbered_of}

-- a value that is read where faults are told apart
plainly_ok : {X E : Type 0} (r : Result X E) (x : X) → ◌≡◌ {A = Result X (Unit {0})} (plainly r) (Ok x) → r ≡ Ok x
unfolding plainly
plainly_ok (Ok y) x e = cc
plainly_ok (Err d) x e = absurd cc

-- what a test let through
then_ok : {X : Type 0} (b : Bool) (r : Result X (Unit {0})) (y : X) → cond b r (Err tt) ≡ Ok y → (b ≡ true) × (r ≡ Ok y)
then_ok true r y e = (refl, e)
then_ok false r y e = absurd cc

-- ---- numbers of eight bytes

-- what holds of the numbers of one width
record IsWide (w : Width) (limit : ℕ) : Type 0 where
  len : (n : ℕ) → length (to_be_bytes w n) ≡ byte_len w
  back : (bytes : List ℕ) → length bytes ≡ byte_len w → IsBytes bytes → to_be_bytes w (from_be_bytes w bytes) ≡ bytes
  again : (n : ℕ) → n < limit → from_be_bytes w (to_be_bytes w n) ≡ n
  below : (bytes : List ℕ) → IsBytes bytes → from_be_bytes w bytes < limit

wide : IsWide w64 (2 ^ 64)
wide = record {
  len = λ n. refl;
  back = λ bytes len fits. be_bytes_8 bytes _ len fits refl;
  again = λ n below. from_be_bytes-to_be_bytes_8 n below;
  below = λ bytes fits. omega (arith, fits 0, fits 1, fits 2, fits 3, fits 4, fits 5, fits 6, fits 7);
}

wide_found : (w : Width) (limit : ℕ) → IsWide w limit → (bytes : List ℕ) (n : ℕ) (rest : List ℕ) → IsBytes bytes
    → number_of w bytes ≡ Ok (n, rest) → (n < limit) × (bytes ≡ to_be_bytes w n ++ rest)
unfolding number_of
wide_found w limit is bytes n rest fits e =
    let g = guard_ok (ltb (length bytes) (byte_len w)) Short (Ok (from_be_bytes w (take (byte_len w) bytes), drop (byte_len w) bytes)) (n, rest) e in
    let long : byte_len w ≤ length bytes = ltb-false _ _ g.0 in
    let pair = ok_is {E = XdrFault} (from_be_bytes w (take (byte_len w) bytes), drop (byte_len w) bytes) (n, rest) g.1 in
    let n-is : from_be_bytes w (take (byte_len w) bytes) ≡ n = ap (λ (p : ℕ × List ℕ). p.0) pair in
    let rest-is : drop (byte_len w) bytes ≡ rest = ap (λ (p : ℕ × List ℕ). p.1) pair in
    let front : to_be_bytes w n ≡ take (byte_len w) bytes =
    rw (← n-is) (is.back (take (byte_len w) bytes) (omega (arith, length-take (byte_len w) bytes)) (IsBytes-take (byte_len w) bytes fits)) in (
      rw (← n-is) (is.below (take (byte_len w) bytes) (IsBytes-take (byte_len w) bytes fits)),
      rw (front, ← rest-is) (sym (take-append-drop (byte_len w) bytes)),
    )

wide_again : (w : Width) (limit : ℕ) → IsWide w limit → (n : ℕ) (rest : List ℕ) → n < limit → number_of w (to_be_bytes w n ++ rest) ≡ Ok (n, rest)
unfolding number_of
wide_again w limit is n rest below =
    let len = is.len n in
    let long : ltb (length (to_be_bytes w n ++ rest)) (byte_len w) ≡ false = le-ltb _ _ (omega (arith, length-append (to_be_bytes w n) rest)) in
    rw (long, take_at (to_be_bytes w n) rest (byte_len w) len, drop_at (to_be_bytes w n) rest (byte_len w) len, is.again n below) refl

pub hyper_exact : IsExact hyper_item IsHyper
unfolding hyper
hyper_exact = record {
  found = λ bytes n rest fits e.
      let f = wide_found w64 (2 ^ 64) wide bytes n rest fits (plainly_ok (number_of w64 bytes) (n, rest) e) in
      (hyper n, (f.0, refl), f.1);
  again = λ n item rest h.
      ap (λ (i : List ℕ). hyper_item (i ++ rest)) h.1 ∙ plainly_is (number_of w64 (hyper n ++ rest)) (n, rest) (wide_again w64 (2 ^ 64) wide n rest h.0);
}

-- ---- bytes that are filled up with zeros

-- bytes that are zero, and nothing else
zeros_found : (xs : List ℕ) → are_zeros xs ≡ true → xs ≡ replicate (length xs) 0
zeros_found [] e = refl
zeros_found (zero ∷ xs) e = ap (λ (ys : List ℕ). 0 ∷ ys) (zeros_found xs e)
zeros_found (suc n ∷ xs) e = absurd cc

zeros_again : (n : ℕ) → are_zeros (replicate n 0) ≡ true
zeros_again zero = refl
zeros_again (suc n) = zeros_again n

-- a test that tells whether every byte is zero
pub zeros_told : (r : Bool) (xs : List ℕ) → (IsTrue r ↔ (xs ≡ replicate (length xs) 0)) → r ≡ are_zeros xs
zeros_told r xs same = go r (are_zeros xs) refl same
  where
    go : (r b : Bool) → are_zeros xs ≡ b → (IsTrue r ↔ (xs ≡ replicate (length xs) 0)) → r ≡ b
    go true true is same = refl
    go false false is same = refl
    go true false is same = sym (zeros_again (length xs)) ∙ ap are_zeros (sym (same.0 refl)) ∙ is
    go false true is same = let h = same.1 (zeros_found xs is) in absurd cc

-- what stands behind the bytes
filling : (n : ℕ) (body padding rest : List ℕ) → length body ≡ n → length padding ≡ padding_of n
    → is_filled n (body ++ padding ++ rest) ≡ are_zeros padding
unfolding is_filled
filling n body padding rest sized filled =
    let long : ltb (length (body ++ padding ++ rest)) (n + padding_of n) ≡ false =
    le-ltb _ _ (omega (arith, length-append (body ++ padding) rest, length-append body padding)) in
    ap (λ b. cond b false (are_zeros (take (padding_of n) (drop n (body ++ padding ++ rest))))) long
    ∙ ap (λ (t : List ℕ). are_zeros (take (padding_of n) t))
    (ap (drop n) (append_assoc body padding rest) ∙ drop_at body (padding ++ rest) n sized)
    ∙ ap are_zeros (take_at padding rest (padding_of n) filled)

body_found : (n : ℕ) (bytes body rest : List ℕ) → body_of n bytes ≡ Ok (body, rest) → (length body ≡ n) × (bytes ≡ opaque body ++ rest)
unfolding body_of
body_found n bytes body rest e =
    let t = then_ok (is_filled n bytes) (fixed_item n bytes) (body, rest) e in
    let o = opaque_found n bytes body rest (plainly_ok (opaque_of n bytes) (body, rest) t.1) in
    let zero_ones : are_zeros o.padding ≡ true =
    sym (filling n body o.padding rest o.sized o.filled) ∙ ap (is_filled n) (sym o.parts) ∙ t.0 in
    let padding-is : o.padding ≡ replicate (padding_of (length body)) 0 =
    zeros_found o.padding zero_ones ∙ ap (λ (k : ℕ). replicate k 0) (o.filled ∙ ap padding_of (sym o.sized)) in (
      o.sized,
      o.parts ∙ ap (λ (p : List ℕ). body ++ p ++ rest) padding-is,
    )

body_again : (body rest : List ℕ) → body_of (length body) (opaque body ++ rest) ≡ Ok (body, rest)
unfolding body_of
body_again body rest =
    let zeros : List ℕ = replicate (padding_of (length body)) 0 in
    let test : is_filled (length body) (opaque body ++ rest) ≡ true =
    filling (length body) body zeros rest refl (length-replicate (padding_of (length body)) 0)
    ∙ zeros_again (padding_of (length body)) in
    ap (λ b. cond b (fixed_item (length body) (opaque body ++ rest)) (Err tt)) test
    ∙ (fixed_exact (length body)).again body (opaque body) rest (refl, (writers_are_in body).0)

pub filled_exact : (max : ℕ) → max < 2 ^ 32 → IsExact (filled_of max) (IsFilled max)
unfolding filled_of
filled_exact max small = record {
  found = λ bytes body rest fits e.
      let s = bind_ok {Y = List ℕ × List ℕ} (number_item bytes) (λ n. cond (leb n.0 max) (body_of n.0 n.1) (Err tt)) (body, rest) e in
      let f = number_exact.found bytes s.0.0 s.0.1 fits s.1 in
      let t = then_ok (leb s.0.0 max) (body_of s.0.0 s.0.1) (body, rest) s.2 in
      let g = body_found s.0.0 s.0.1 body rest t.1 in (
        opaque_var body,
        (subst (λ (k : ℕ). k ≤ max) (sym g.0) (leb-true s.0.0 max t.0), refl),
        f.2 ∙ ap (λ (i : List ℕ). i ++ s.0.1) (f.1.1 ∙ ap word (sym g.0)) ∙ ap (λ (r : List ℕ). word (length body) ++ r) g.1
            ∙ sym (append_assoc (word (length body)) (opaque body) rest),
      );
  again = λ body item rest h.
      let few : length body < 2 ^ 32 = omega (arith, h.0, small) in
      let one : number_item (item ++ rest) ≡ Ok (length body, opaque body ++ rest) =
      ap number_item (ap (λ (i : List ℕ). i ++ rest) h.1 ∙ append_assoc (word (length body)) (opaque body) rest)
      ∙ number_exact.again (length body) (word (length body)) (opaque body ++ rest) (few, refl) in
      ap (λ (r : Result (ℕ × List ℕ) (Unit {0})). r >>= λ n. cond (leb n.0 max) (body_of n.0 n.1) (Err tt)) one
      ∙ ap (λ b. cond b (body_of (length body) (opaque body ++ rest)) (Err tt)) (le-leb (length body) max h.0)
      ∙ body_again body rest;
}

pub filled_written : (max : ℕ) (bytes : List ℕ) → length bytes ≤ max → IsFilled max bytes (opaque_var bytes)
filled_written max bytes few = (few, refl)

-- ---- identifiers, cuts, ranges and writes

pub id_exact : IsExact id_item IsId
unfolding id_item
id_exact =
    made_exact id_from (λ t. (t.coord, (t.boot, t.seq))) _ _ (λ p. refl) (λ t. refl)
    (both_exact number_item _ IsNumber _ number_exact (both_exact hyper_item hyper_item IsHyper IsHyper hyper_exact hyper_exact))

pub id_written : (t : TxId) → (t.coord < 2 ^ 32) × (t.boot < 2 ^ 64) × (t.seq < 2 ^ 64) → IsId t (id_spelling t)
id_written t typed = behind (word t.coord) _ (typed.0, refl) (behind (hyper t.boot) (hyper t.seq) (typed.1, refl) (typed.2, refl))

pub cut_exact : IsExact cut_item IsCut
unfolding cut_item
cut_exact = made_exact cut_from (λ c. (c.boot, c.seq)) _ _ (λ p. refl) (λ c. refl) (both_exact hyper_item hyper_item IsHyper IsHyper hyper_exact hyper_exact)

pub cut_written : (c : CutId) → (c.boot < 2 ^ 64) × (c.seq < 2 ^ 64) → IsCut c (cut_spelling c)
cut_written c typed = behind (hyper c.boot) (hyper c.seq) (typed.0, refl) (typed.1, refl)

pub range_exact : IsExact range_item IsRange
unfolding range_item
range_exact = made_exact range_from (λ r. (r.at, r.length)) _ _ (λ p. refl) (λ r. refl) (both_exact number_item number_item IsNumber IsNumber number_exact number_exact)

pub range_written : (r : Range) → (r.at < 2 ^ 32) × (r.length < 2 ^ 32) → IsRange r (range_spelling r)
range_written r typed = behind (word r.at) (word r.length) (typed.0, refl) (typed.1, refl)

pub write_exact : IsExact write_item IsWrite
unfolding write_item
write_exact =
    made_exact write_from (λ w. (w.at, w.bytes)) _ _ (λ p. refl) (λ w. refl)
    (both_exact number_item (filled_of longest) IsNumber (IsFilled longest) number_exact (filled_exact longest (lit< tt)))

pub write_written : (w : WriteAt) → w.at < 2 ^ 32 → length w.bytes ≤ longest → IsWrite w (write_spelling w)
write_written w typed few = behind (word w.at) (opaque_var w.bytes) (typed, refl) (few, refl)

-- ---- a number, and behind it what it stands for

pub numbered_exact : {X : Type 0} (number : X → ℕ) (fields : ℕ → Reading X) (Fields : X → List ℕ → Type 0)
    → ((n : ℕ) → IsExact (fields n) (λ x item. (number x ≡ n) × Fields x item)) → IsExact (numbered_of fields) (λ x. IsNumber (number x) ⟫ Fields x)
unfolding numbered_of
numbered_exact {X} number fields Fields exact = record {
  found = λ bytes x rest fits e.
      let s = bind_ok {Y = X × List ℕ} (number_item bytes) (λ n. fields n.0 n.1) (x, rest) e in
      let f = number_exact.found bytes s.0.0 s.0.1 fits s.1 in
      let mid : IsBytes s.0.1 = IsBytes-behind f.0 s.0.1 (λ k. let g = fits k in rw f.2 at g) in
      let g = (exact s.0.0).found s.0.1 x rest mid s.2 in (
        f.0 ++ g.0,
        behind f.0 g.0 (subst (λ (k : ℕ). IsNumber k f.0) (sym g.1.0) f.1) g.1.1,
        f.2 ∙ ap (λ (r : List ℕ). f.0 ++ r) g.2 ∙ sym (append_assoc f.0 g.0 rest),
      );
  again = λ x item rest h.
      let one : number_item (item ++ rest) ≡ Ok (number x, h.back ++ rest) =
      ap number_item (ap (λ (i : List ℕ). i ++ rest) h.spelled ∙ append_assoc h.front h.back rest) ∙ number_exact.again (number x) h.front (h.back ++ rest) h.first in
      ap (λ (r : Result (ℕ × List ℕ) (Unit {0})). r >>= λ n. fields n.0 n.1) one ∙ (exact (number x)).again x h.back rest (refl, h.second);
}
