-- Each reading function takes the spellings of its item and nothing else.
use Rattle.std.proofs.Common.{◌≡◌, ℕ, zero, suc, ◌+◌, ◌-◌, ◌^◌, ◌<◌, ◌≤◌, Bool, true, false, cond, ltb, eqb, List, [], ◌∷◌, ◌++◌, length, take, drop, Result, Ok, Err, refl, sym, ap, ◌∙◌, append_assoc, arith}
use Rattle.std.specs.Prelude.{replicate}
use Rattle.std.specs.Int.{Width, w32, byte_len, from_be_bytes, to_be_bytes}
use Rattle.std.proofs.lemmas.Bool.{ltb-false, le-ltb}
use Rattle.std.proofs.lemmas.List.{take_at, drop_at, take-append-drop, length-append, length-take, length-drop, length-replicate, drop-drop}
use Rattle.std.proofs.lemmas.Nat.{be_bytes_4, from_be_bytes-to_be_bytes_4}
use Rattle.sfs_base.specs.Reading.{IsBytes, ◌>>=◌}
use Rattle.sfs_base.proofs.ReadingLemmas.{IsBytes-take, bind_ok, guard_ok, ok_is}
use Rattle.sfs_xdr.specs.declared.xdr_fault.XdrFault.{XdrFault}
use Rattle.sfs_xdr.specs.declared.xdr_fault.XdrFault.TheVariants.{Short, TooLong, NotBool}
use Rattle.sfs_xdr.specs.Items.{word, boolean, padding_of, opaque, IsOpaque, IsOpaqueVar}
use Rattle.sfs_xdr.specs.Reading.{number_of, word_of, boolean_of, opaque_of, opaque_max_of}
use Rattle.sfs_xdr.specs.Laws.{WordIsExact, BooleanIsExact, OpaqueIsExact, OpaqueMaxIsExact, WritersAreInTheGrammar}

-- what holds of the numbers of one width
record IsWide (w : Width) (limit : ℕ) : Type 0 where
  len : (n : ℕ) → length (to_be_bytes w n) ≡ byte_len w
  back : (bytes : List ℕ) → length bytes ≡ byte_len w → IsBytes bytes → to_be_bytes w (from_be_bytes w bytes) ≡ bytes
  again : (n : ℕ) → n < limit → from_be_bytes w (to_be_bytes w n) ≡ n
  below : (bytes : List ℕ) → IsBytes bytes → from_be_bytes w bytes < limit

wide : IsWide w32 (2 ^ 32)
wide = record {
  len = λ n. refl;
  back = λ bytes len fits. be_bytes_4 bytes _ len fits refl;
  again = λ n below. from_be_bytes-to_be_bytes_4 n below;
  below = λ bytes fits. omega (arith, fits 0, fits 1, fits 2, fits 3);
}

-- four bytes are a number below 2^32
pub word_below : (bytes : List ℕ) → IsBytes bytes → from_be_bytes w32 bytes < 2 ^ 32
word_below = wide.below

-- what a number takes from the front
number_found : (w : Width) (limit : ℕ) → IsWide w limit → (bytes : List ℕ) (n : ℕ) (rest : List ℕ) → IsBytes bytes
    → number_of w bytes ≡ Ok (n, rest) → (n < limit) × (bytes ≡ to_be_bytes w n ++ rest)
unfolding number_of
number_found w limit is bytes n rest fits e =
    let g = guard_ok (ltb (length bytes) (byte_len w)) Short (Ok (from_be_bytes w (take (byte_len w) bytes), drop (byte_len w) bytes)) (n, rest) e in
    let long : byte_len w ≤ length bytes = ltb-false _ _ g.0 in
    let pair = ok_is {E = XdrFault} (from_be_bytes w (take (byte_len w) bytes), drop (byte_len w) bytes) (n, rest) g.1 in
    let n-is : from_be_bytes w (take (byte_len w) bytes) ≡ n = ap (λ (p : ℕ × List ℕ). p.0) pair in
    let rest-is : drop (byte_len w) bytes ≡ rest = ap (λ (p : ℕ × List ℕ). p.1) pair in
    let front : to_be_bytes w n ≡ take (byte_len w) bytes =
    rw (← n-is) (is.back (take (byte_len w) bytes) (omega (arith, length-take (byte_len w) bytes)) (IsBytes-take (byte_len w) bytes fits)) in (
      rw (← n-is) (is.below (take (byte_len w) bytes) (IsBytes-take (byte_len w) bytes fits)),
      rw (front, ← rest-is) (sym (take-append-drop (byte_len w) bytes)),
    )

-- a spelled number is read
number_again : (w : Width) (limit : ℕ) → IsWide w limit → (n : ℕ) (rest : List ℕ) → n < limit → number_of w (to_be_bytes w n ++ rest) ≡ Ok (n, rest)
unfolding number_of
number_again w limit is n rest below =
    let len = is.len n in
    let long : ltb (length (to_be_bytes w n ++ rest)) (byte_len w) ≡ false = le-ltb _ _ (omega (arith, length-append (to_be_bytes w n) rest)) in
    rw (long, take_at (to_be_bytes w n) rest (byte_len w) len, drop_at (to_be_bytes w n) rest (byte_len w) len, is.again n below) refl

-- what a number below 2^32 takes from the front
pub word_found : (bytes : List ℕ) (n : ℕ) (rest : List ℕ) → IsBytes bytes → word_of bytes ≡ Ok (n, rest) → (n < 2 ^ 32) × (bytes ≡ word n ++ rest)
word_found = number_found w32 (2 ^ 32) wide

-- such a number, spelled, is read
pub word_again : (n : ℕ) (rest : List ℕ) → n < 2 ^ 32 → word_of (word n ++ rest) ≡ Ok (n, rest)
word_again = number_again w32 (2 ^ 32) wide

pub word_exact : WordIsExact
word_exact = record {
  found = λ bytes n rest fits e. let f = word_found bytes n rest fits e in (word n, (f.0, refl), f.1);
  again = λ n item rest h. ap (λ (i : List ℕ). word_of (i ++ rest)) h.1 ∙ word_again n rest h.0;
}

-- the boolean that a number below 2 stands for is spelled by it
boolean_spelled : (n : ℕ) → n ≤ 1 → word n ≡ boolean (eqb n 1)
boolean_spelled zero h = refl
boolean_spelled (suc zero) h = refl
boolean_spelled (suc (suc n)) h = absurd (omega arith)

-- what the step behind the number of a boolean gives
bool_step : (n : ℕ × List ℕ) (b : Bool) (rest : List ℕ) → cond {A = Result (Bool × List ℕ) XdrFault} (ltb 1 n.0) (Err NotBool) (Ok (eqb n.0 1, n.1)) ≡ Ok (b, rest)
    → (n.0 ≤ 1) × (eqb n.0 1 ≡ b) × (n.1 ≡ rest)
bool_step n b rest e =
    let g = guard_ok (ltb 1 n.0) NotBool (Ok (eqb n.0 1, n.1)) (b, rest) e in
    let pair = ok_is {E = XdrFault} (eqb n.0 1, n.1) (b, rest) g.1 in
    (ltb-false _ _ g.0, ap (λ (p : Bool × List ℕ). p.0) pair, ap (λ (p : Bool × List ℕ). p.1) pair)

boolean_found : (bytes : List ℕ) (b : Bool) (rest : List ℕ) → IsBytes bytes → boolean_of bytes ≡ Ok (b, rest) → bytes ≡ boolean b ++ rest
unfolding boolean_of
boolean_found bytes b rest fits e =
    let s = bind_ok (word_of bytes) (λ n. cond (ltb 1 n.0) (Err NotBool) (Ok (eqb n.0 1, n.1))) (b, rest) e in
    let f = word_found bytes s.0.0 s.0.1 fits s.1 in
    let t = bool_step s.0 b rest s.2 in
    f.1 ∙ ap (λ (w : List ℕ). w ++ s.0.1) (boolean_spelled s.0.0 t.0 ∙ ap boolean t.1) ∙ ap (λ (r : List ℕ). boolean b ++ r) t.2

boolean_again : (b : Bool) (rest : List ℕ) → boolean_of (boolean b ++ rest) ≡ Ok (b, rest)
unfolding boolean_of
boolean_again true rest = ap (λ r. r >>= λ n. cond (ltb 1 n.0) (Err NotBool) (Ok (eqb n.0 1, n.1))) (word_again 1 rest (omega arith))
boolean_again false rest = ap (λ r. r >>= λ n. cond (ltb 1 n.0) (Err NotBool) (Ok (eqb n.0 1, n.1))) (word_again 0 rest (omega arith))

pub boolean_exact : BooleanIsExact
boolean_exact = record {
  found = λ bytes b rest fits e. (boolean b, refl, boolean_found bytes b rest fits e);
  again = λ b item rest h. ap (λ (i : List ℕ). boolean_of (i ++ rest)) h ∙ boolean_again b rest;
}

-- ---- opaque bytes

-- what n bytes with those that fill them up take from the front
pub record TakesOpaque (n : ℕ) (bytes body rest : List ℕ) : Type 0 where
  pub sized : length body ≡ n
  pub padding : List ℕ
  pub filled : length padding ≡ padding_of n
  pub parts : bytes ≡ body ++ padding ++ rest

pub opaque_found : (n : ℕ) (bytes body rest : List ℕ) → opaque_of n bytes ≡ Ok (body, rest) → TakesOpaque n bytes body rest
unfolding opaque_of
opaque_found n bytes body rest e =
    let g = guard_ok (ltb (length bytes) (n + padding_of n)) Short (Ok (take n bytes, drop (n + padding_of n) bytes)) (body, rest) e in
    let long : n + padding_of n ≤ length bytes = ltb-false _ _ g.0 in
    let pair = ok_is {E = XdrFault} (take n bytes, drop (n + padding_of n) bytes) (body, rest) g.1 in
    let body-is : take n bytes ≡ body = ap (λ (p : List ℕ × List ℕ). p.0) pair in
    let rest-is : drop (n + padding_of n) bytes ≡ rest = ap (λ (p : List ℕ × List ℕ). p.1) pair in
    let split : drop n bytes ≡ take (padding_of n) (drop n bytes) ++ rest =
    sym (take-append-drop (padding_of n) (drop n bytes)) ∙ ap (λ (r : List ℕ). take (padding_of n) (drop n bytes) ++ r) (drop-drop (padding_of n) n bytes ∙ rest-is) in
    record {
      sized = ap (length {A = ℕ}) (sym body-is) ∙ omega (arith, length-take n bytes);
      padding = take (padding_of n) (drop n bytes);
      filled = omega (arith, length-take (padding_of n) (drop n bytes), length-drop n bytes);
      parts = sym (take-append-drop n bytes) ∙ ap (λ (r : List ℕ). take n bytes ++ r) split ∙ sym (append_assoc (take n bytes) (take (padding_of n) (drop n bytes)) rest)
          ∙ ap (λ (b : List ℕ). b ++ take (padding_of n) (drop n bytes) ++ rest) body-is;
    }

opaque_again : (n : ℕ) (body padding rest : List ℕ) → length body ≡ n → length padding ≡ padding_of n → opaque_of n ((body ++ padding) ++ rest) ≡ Ok (body, rest)
unfolding opaque_of
opaque_again n body padding rest sized filled =
    let len : length (body ++ padding) ≡ n + padding_of n = omega (arith, length-append body padding) in
    let long : ltb (length ((body ++ padding) ++ rest)) (n + padding_of n) ≡ false = le-ltb _ _ (omega (arith, length-append (body ++ padding) rest)) in
    let front : take n ((body ++ padding) ++ rest) ≡ body = ap (take n) (append_assoc body padding rest) ∙ take_at body (padding ++ rest) n sized in
    rw (long, front, drop_at (body ++ padding) rest (n + padding_of n) len) refl

pub opaque_exact : OpaqueIsExact
opaque_exact n = record {
  found = λ bytes body rest fits e.
      let t = opaque_found n bytes body rest e in
      (body ++ t.padding, (t.sized, record { padding = t.padding; filled = t.filled ∙ ap padding_of (sym t.sized); spelled = refl }), t.parts);
  again = λ body item rest h. ap (λ (i : List ℕ). opaque_of n (i ++ rest)) h.1.spelled ∙ opaque_again n body h.1.padding rest h.0 (h.1.filled ∙ ap padding_of h.0);
}

-- the step behind the length
max_step : (max : ℕ) (n : ℕ × List ℕ) (body rest : List ℕ) → cond (ltb max n.0) (Err TooLong) (opaque_of n.0 n.1) ≡ Ok (body, rest)
    → (n.0 ≤ max) × TakesOpaque n.0 n.1 body rest
max_step max n body rest e =
    let g = guard_ok (ltb max n.0) TooLong (opaque_of n.0 n.1) (body, rest) e in
    (ltb-false _ _ g.0, opaque_found n.0 n.1 body rest g.1)

max_found : (max : ℕ) (bytes body rest : List ℕ) → IsBytes bytes → opaque_max_of max bytes ≡ Ok (body, rest)
    → (item : List ℕ) × ((length body ≤ max) × IsOpaqueVar body item) × (bytes ≡ item ++ rest)
unfolding opaque_max_of
max_found max bytes body rest fits e =
    let s = bind_ok (word_of bytes) (λ n. cond (ltb max n.0) (Err TooLong) (opaque_of n.0 n.1)) (body, rest) e in
    let f = word_found bytes s.0.0 s.0.1 fits s.1 in
    let t = max_step max s.0 body rest s.2 in
    let is : IsOpaque body (body ++ t.1.padding) = record { padding = t.1.padding; filled = t.1.filled ∙ ap padding_of (sym t.1.sized); spelled = refl } in
    let whole : bytes ≡ (word (length body) ++ (body ++ t.1.padding)) ++ rest =
    f.1 ∙ ap (λ (r : List ℕ). word s.0.0 ++ r) t.1.parts ∙ ap (λ (k : ℕ). word k ++ (body ++ t.1.padding ++ rest)) (sym t.1.sized)
    ∙ sym (append_assoc (word (length body)) (body ++ t.1.padding) rest) in
    (word (length body) ++ (body ++ t.1.padding), (omega (arith, t.0, t.1.sized), record { body = body ++ t.1.padding; opaque = is; spelled = refl }), whole)

max_again : (max : ℕ) → max < 2 ^ 32 → (body padding rest : List ℕ) → length body ≤ max → length padding ≡ padding_of (length body)
    → opaque_max_of max ((word (length body) ++ (body ++ padding)) ++ rest) ≡ Ok (body, rest)
unfolding opaque_max_of
max_again max limit body padding rest fits filled =
    let short : ltb max (length body) ≡ false = le-ltb _ _ fits in
    let head : word_of ((word (length body) ++ (body ++ padding)) ++ rest) ≡ Ok (length body, (body ++ padding) ++ rest) =
    ap word_of (append_assoc (word (length body)) (body ++ padding) rest) ∙ word_again (length body) ((body ++ padding) ++ rest) (omega arith) in
    ap (λ r. r >>= λ n. cond (ltb max n.0) (Err TooLong) (opaque_of n.0 n.1)) head
    ∙ ap (λ b. cond b (Err TooLong) (opaque_of (length body) ((body ++ padding) ++ rest))) short
    ∙ opaque_again (length body) body padding rest refl filled

pub opaque_max_exact : OpaqueMaxIsExact
opaque_max_exact max limit = record {
  found = λ bytes body rest fits e. max_found max bytes body rest fits e;
  again = λ body item rest h.
      ap (λ (i : List ℕ). opaque_max_of max (i ++ rest)) (h.1.spelled ∙ ap (λ (b : List ℕ). word (length body) ++ b) h.1.opaque.spelled)
      ∙ max_again max limit body h.1.opaque.padding rest h.0 h.1.opaque.filled;
}

-- ---- what a writer spells

opaque_is : (bytes : List ℕ) → IsOpaque bytes (opaque bytes)
opaque_is bytes = record { padding = replicate (padding_of (length bytes)) 0; filled = length-replicate (padding_of (length bytes)) 0; spelled = refl }

pub writers_are_in : WritersAreInTheGrammar
writers_are_in bytes = (opaque_is bytes, record { body = opaque bytes; opaque = opaque_is bytes; spelled = refl })

-- the first zeros of four
pub take_zeros : (n : ℕ) → n < 4 → take {A = ℕ} n (0 ∷ 0 ∷ 0 ∷ 0 ∷ []) ≡ replicate n 0
take_zeros zero h = refl
take_zeros (suc zero) h = refl
take_zeros (suc (suc zero)) h = refl
take_zeros (suc (suc (suc zero))) h = refl
take_zeros (suc (suc (suc (suc n)))) h = absurd (omega arith)

-- bytes and then as many zeros as fill them up are the item
pub opaque_in_two : (old bytes mid new : List ℕ) (n : ℕ) → n ≡ padding_of (length bytes) → n < 4 → mid ≡ old ++ bytes
    → new ≡ mid ++ take {A = ℕ} (n - 0) (0 ∷ 0 ∷ 0 ∷ 0 ∷ []) → new ≡ old ++ opaque bytes
opaque_in_two old bytes mid new n is small first second =
    let zeros : take {A = ℕ} (n - 0) (0 ∷ 0 ∷ 0 ∷ 0 ∷ []) ≡ replicate (padding_of (length bytes)) 0 =
    ap (λ (k : ℕ). take {A = ℕ} k (0 ∷ 0 ∷ 0 ∷ 0 ∷ [])) (omega arith) ∙ take_zeros n small ∙ ap (λ (k : ℕ). replicate k 0) is in
    second ∙ ap (λ (m : List ℕ). m ++ take {A = ℕ} (n - 0) (0 ∷ 0 ∷ 0 ∷ 0 ∷ [])) first ∙ append_assoc old bytes _ ∙ ap (λ (z : List ℕ). old ++ (bytes ++ z)) zeros
