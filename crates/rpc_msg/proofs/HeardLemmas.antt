-- What some bytes are heard as, as a function, is the one thing that the ten cases let them be heard as.
use Rattle.std.proofs.Common.{◌≡◌, ℕ, ◌+◌, ◌<◌, Bool, true, false, cond, eqb, leb, ltb, List, ◌++◌, length, Option, Some, None, Result, Ok, Err, ◌⊎◌, inl, inr, lit<, refl, sym, ap, ◌∙◌, append_assoc, arith}
use Rattle.std.proofs.lemmas.Bool.{eqb-true, eqb-false, eq-eqb, ne_eqb, leb-true, leb-false, le-leb, lt-leb, lt-ltb, ltb-true}
use Rattle.std.proofs.lemmas.List.{length-append}
use Rattle.sfs_base.specs.Reading.{IsBytes, IsExact, ◌>>=◌}
use Rattle.sfs_base.proofs.ReadingLemmas.{IsBytes-behind, IsBytes-before}
use Rattle.sfs_xdr.specs.declared.xdr_fault.XdrFault.{XdrFault}
use Rattle.sfs_xdr.specs.declared.xdr_fault.XdrFault.TheVariants.{Short, TooLong, NotBool}
use Rattle.sfs_xdr.specs.Items.{word}
use Rattle.sfs_xdr.specs.Reading.{number_of, word_of, opaque_of, opaque_max_of}
use Rattle.sfs_xdr.specs.Codec.{Reading, plainly, both_of, number_item, ◌⟫◌, IsNumber, IsText}
use Rattle.sfs_xdr.specs.ItemLemmas.{word_exact, word_found, word_again, opaque_max_exact}
use Rattle.sfs_xdr.specs.CodecLemmas.{number_exact, both_exact}
use Rattle.rpc_msg.specs.declared.cred.Cred.{Cred}
use Rattle.rpc_msg.specs.declared.head.Head.{Head}
use Rattle.rpc_msg.specs.declared.program.Program.{Program}
use Rattle.rpc_msg.specs.Messages.{IsHead, head_of, IsAuth, IsTooLongAuth, IsCutAuth, auth_of, unix_of, nobody, head_from, program_of, rpc_mismatch, auth_error, program_mismatch, procedure_unavailable, garbage_arguments}
use Rattle.rpc_msg.specs.MessageLemmas.{head_exact, unix_exact}
use Rattle.rpc_msg.specs.Heard.{Outcome, Refuse, Silent, Grammar, HeardArguments, HeardProgram, HeardVerifier, HeardCaller, HeardCredential, HeardCall, Heard, IsGrammar, called, garbage, unavailable, mismatch, no_procedure, there, rejected, bad, null, unix, no_call, other_rpc, call, short, begun, credential, verifier}
use Rattle.rpc_msg.specs.Hearing.{ArgumentReader, hear_arguments, hear_program, hear_fault, hear_verifier, hear_unix, hear_caller, hear_credential, hear_call, hear_head, heard_of}

-- ---- credentials and verifiers

auth_exact : IsExact auth_of (λ p. IsAuth p.0 p.1)
unfolding auth_of
auth_exact = both_exact word_of (opaque_max_of 400) IsNumber (IsText 400) word_exact (opaque_max_exact 400 (lit< tt))

-- a test that failed
guard_err : {X E : Type 0} (b : Bool) (d e : E) (x : X) → ◌≡◌ {A = Result X E} (cond b (Err d) (Ok x)) (Err e) → (b ≡ true) × (d ≡ e)
guard_err true d e x h = (refl, cc)
guard_err false d e x h = absurd cc

-- a step that failed, or the step behind it
bind_err : {X Y E : Type 0} (r : Result X E) (f : X → Result Y E) (e : E) → (r >>= f) ≡ Err e → (r ≡ Err e) ⊎ ((x : X) × (r ≡ Ok x) × (f x ≡ Err e))
bind_err (Ok x) f e h = inr (x, refl, h)
bind_err (Err d) f e h = inl cc

-- bytes that end too early are no length above the limit
no_length : (b : Bool) (x : ℕ × List ℕ) → ◌≡◌ {A = Result (ℕ × List ℕ) XdrFault} (cond b (Err Short) (Ok x)) (Err TooLong) → ⊥
no_length true x h = absurd cc
no_length false x h = absurd cc

no_body : (b : Bool) (x : List ℕ × List ℕ) → ◌≡◌ {A = Result (List ℕ × List ℕ) XdrFault} (cond b (Err Short) (Ok x)) (Err TooLong) → ⊥
no_body true x h = absurd cc
no_body false x h = absurd cc

number_fits : (bytes : List ℕ) → word_of bytes ≡ Err TooLong → ⊥
unfolding number_of
number_fits bytes h = no_length (ltb (length bytes) 4) _ h

body_fits : (n : ℕ) (bytes : List ℕ) → opaque_of n bytes ≡ Err TooLong → ⊥
unfolding opaque_of
body_fits n bytes h = no_body _ _ h

-- the step behind a length
max_step : (n : ℕ × List ℕ) → cond (ltb 400 n.0) (Err TooLong) (opaque_of n.0 n.1) ≡ Err TooLong → 400 < n.0
max_step n h =
    elim (ltb 400 n.0) as (λ b. ltb 400 n.0 ≡ b → cond b (Err TooLong) (opaque_of n.0 n.1) ≡ Err TooLong → 400 < n.0) [
      | true ↦ λ is h. ltb-true 400 n.0 is
      | false ↦ λ is h. absurd (body_fits n.0 n.1 h)
    ] refl h

-- a length above the limit is what reading answers TooLong for
too_long_again : (bytes : List ℕ) → IsTooLongAuth bytes → auth_of bytes ≡ Err TooLong
unfolding auth_of opaque_max_of
too_long_again bytes h =
    let flavor = h.0 in
    let n = h.1 in
    let rest = h.2 in
    let first : word_of bytes ≡ Ok (flavor, word n ++ rest) =
    ap word_of (h.6 ∙ append_assoc (word flavor) (word n) rest) ∙ word_again flavor (word n ++ rest) h.3 in
    let second : word_of (word n ++ rest) ≡ Ok (n, rest) = word_again n rest h.4 in
    ap (λ (r : Result (ℕ × List ℕ) XdrFault). r >>= λ x. opaque_max_of 400 x.1 >>= λ y. Ok ((x.0, y.0), y.1)) first
    ∙ ap (λ (r : Result (ℕ × List ℕ) XdrFault). (r >>= λ m. cond (ltb 400 m.0) (Err TooLong) (opaque_of m.0 m.1)) >>= λ y. Ok ((flavor, y.0), y.1)) second
    ∙ ap (λ b. cond b (Err TooLong) (opaque_of n rest) >>= λ y. Ok ((flavor, y.0), y.1)) (lt-ltb 400 n h.5)

too_long_found : (bytes : List ℕ) → IsBytes bytes → auth_of bytes ≡ Err TooLong → IsTooLongAuth bytes
unfolding auth_of opaque_max_of
too_long_found bytes fits e =
    elim (bind_err {Y = (ℕ × List ℕ) × List ℕ} (word_of bytes) (λ x. opaque_max_of 400 x.1 >>= λ y. Ok ((x.0, y.0), y.1)) TooLong e) [
      | inl h ↦ absurd (number_fits bytes h)
      | inr s ↦
          let f = word_found bytes s.0.0 s.0.1 fits s.1 in
          let behind : IsBytes s.0.1 = IsBytes-behind (word s.0.0) s.0.1 (λ k. let g = fits k in rw f.1 at g) in
          elim (bind_err {Y = (ℕ × List ℕ) × List ℕ} (opaque_max_of 400 s.0.1) (λ y. Ok ((s.0.0, y.0), y.1)) TooLong s.2) [
            | inl h ↦
                elim (bind_err {Y = List ℕ × List ℕ} (word_of s.0.1) (λ n. cond (ltb 400 n.0) (Err TooLong) (opaque_of n.0 n.1)) TooLong h) [
                  | inl d ↦ absurd (number_fits s.0.1 d)
                  | inr t ↦
                      let g = word_found s.0.1 t.0.0 t.0.1 behind t.1 in
                      (s.0.0, t.0.0, t.0.1, f.0, g.0, max_step t.0 t.2, f.1 ∙ ap (λ (r : List ℕ). word s.0.0 ++ r) g.1 ∙ sym (append_assoc (word s.0.0) (word t.0.0) t.0.1))
                ]
            | inr t ↦ absurd cc
          ]
    ]

-- what does not stand there whole
is_cut : (bytes : List ℕ) (e : XdrFault) → IsBytes bytes → auth_of bytes ≡ Err e → (e ≡ TooLong → ⊥) → IsCutAuth bytes
is_cut bytes e fits failed other = (
  λ flavor body item rest is spelled.
      let both : ◌≡◌ {A = Result ((ℕ × List ℕ) × List ℕ) XdrFault} (Err e) (Ok ((flavor, body), rest)) =
      sym failed ∙ ap auth_of spelled ∙ auth_exact.again (flavor, body) item rest is in
      absurd (cc both),
  λ long.
      let both : ◌≡◌ {A = Result ((ℕ × List ℕ) × List ℕ) XdrFault} (Err e) (Err TooLong) = sym failed ∙ too_long_again bytes long in
      other (cc both),
)

-- ---- the cases, from the last to the first: the function gives one that fits

told_arguments : {A : Type 0} (Begins : Grammar A) (read : ArgumentReader A) → IsGrammar Begins read → (head : Head) (cred : Cred) (bytes : List ℕ) → IsBytes bytes
    → HeardArguments Begins head cred bytes (hear_arguments head cred (read head.program head.procedure bytes))
told_arguments Begins read is head cred bytes fits =
    elim (read head.program head.procedure bytes) as (λ o. read head.program head.procedure bytes ≡ o → HeardArguments Begins head cred bytes (hear_arguments head cred o)) [
      | Some a ↦ λ e. called a (is.found head.program head.procedure a bytes fits e)
      | None ↦ λ e. garbage (is.none head.program head.procedure bytes e)
    ] refl

told_program : {A : Type 0} (Begins : Grammar A) (read : ArgumentReader A) → IsGrammar Begins read → (head : Head) (cred : Cred) (bytes : List ℕ) → IsBytes bytes → (o : Option Program)
    → program_of head.program ≡ o → HeardProgram Begins head cred bytes (hear_program read head cred bytes o)
told_program Begins read is head cred bytes fits None e = unavailable e
told_program {A} Begins read is head cred bytes fits (Some p) e =
    elim (eqb head.version p.version) as (λ b. eqb head.version p.version ≡ b
    → HeardProgram Begins head cred bytes (cond b (cond (leb head.procedure p.last_procedure) (hear_arguments head cred (read head.program head.procedure bytes)) (Refuse (procedure_unavailable head.xid))) (Refuse (program_mismatch p.version head.xid)))) [
      | true ↦ λ same.
          elim (leb head.procedure p.last_procedure) as (λ b. leb head.procedure p.last_procedure ≡ b
          → HeardProgram Begins head cred bytes (cond b (hear_arguments head cred (read head.program head.procedure bytes)) (Refuse (procedure_unavailable head.xid)))) [
            | true ↦ λ below. there p e (eqb-true head.version p.version same) (leb-true head.procedure p.last_procedure below) _ (told_arguments Begins read is head cred bytes fits)
            | false ↦ λ above. no_procedure p e (eqb-true head.version p.version same) (leb-false head.procedure p.last_procedure above)
          ] refl
      | false ↦ λ other. mismatch p e (eqb-false head.version p.version other)
    ] refl

told_verifier : {A : Type 0} (Begins : Grammar A) (read : ArgumentReader A) → IsGrammar Begins read → (h : Head) (cred : Cred) (bytes : List ℕ) → IsBytes bytes
    → (r : Result ((ℕ × List ℕ) × List ℕ) XdrFault) → auth_of bytes ≡ r → HeardVerifier Begins h cred bytes (hear_verifier read h cred r)
told_verifier Begins read is h cred bytes fits (Ok v) e =
    let f = auth_exact.found bytes v.0 v.1 fits e in
    let rest : IsBytes v.1 = IsBytes-behind f.0 v.1 (λ k. let g = fits k in rw f.2 at g) in
    verifier v.0.0 v.0.1 f.0 v.1 f.1 f.2 _ (told_program Begins read is h cred v.1 rest (program_of h.program) refl)
told_verifier Begins read is h cred bytes fits (Err Short) e = HeardVerifier.cut (is_cut bytes Short fits e (λ same. absurd cc))
told_verifier Begins read is h cred bytes fits (Err TooLong) e = HeardVerifier.too_long (too_long_found bytes fits e)
told_verifier Begins read is h cred bytes fits (Err NotBool) e = HeardVerifier.cut (is_cut bytes NotBool fits e (λ same. absurd cc))

told_unix : {A : Type 0} (Begins : Grammar A) (read : ArgumentReader A) → IsGrammar Begins read → (h : Head) (flavor : ℕ) (body bytes : List ℕ) → IsBytes body → IsBytes bytes
    → flavor ≡ 1 → (r : Result (Cred × List ℕ) (Unit {0})) → unix_of body ≡ r → HeardCaller Begins h flavor body bytes (hear_unix read h bytes r)
told_unix Begins read is h flavor body bytes inner fits one (Ok c) e =
    let f = unix_exact.found body c.0 c.1 inner e in
    unix one c.0 f.0 c.1 f.1 f.2 _ (told_verifier Begins read is h c.0 bytes fits (auth_of bytes) refl)
told_unix Begins read is h flavor body bytes inner fits one (Err d) e =
    bad one (λ cred item rest spells spelled.
    let both : ◌≡◌ {A = Result (Cred × List ℕ) (Unit {0})} (Err d) (Ok (cred, rest)) = sym e ∙ ap unix_of spelled ∙ unix_exact.again cred item rest spells in
    absurd (cc both))

told_caller : {A : Type 0} (Begins : Grammar A) (read : ArgumentReader A) → IsGrammar Begins read → (h : Head) (flavor : ℕ) (body bytes : List ℕ) → IsBytes body → IsBytes bytes
    → HeardCaller Begins h flavor body bytes (hear_caller read h flavor body bytes)
told_caller {A} Begins read is h flavor body bytes inner fits =
    elim (eqb flavor 0) as (λ b. eqb flavor 0 ≡ b → HeardCaller Begins h flavor body bytes
    (cond b (hear_verifier read h nobody (auth_of bytes)) (cond (eqb flavor 1) (hear_unix read h bytes (unix_of body)) (Refuse (auth_error 2 h.xid))))) [
      | true ↦ λ zero. null (eqb-true flavor 0 zero) _ (told_verifier Begins read is h nobody bytes fits (auth_of bytes) refl)
      | false ↦ λ other.
          elim (eqb flavor 1) as (λ b. eqb flavor 1 ≡ b → HeardCaller Begins h flavor body bytes (cond b (hear_unix read h bytes (unix_of body)) (Refuse (auth_error 2 h.xid)))) [
            | true ↦ λ one. told_unix Begins read is h flavor body bytes inner fits (eqb-true flavor 1 one) (unix_of body) refl
            | false ↦ λ neither. rejected (eqb-false flavor 0 other) (eqb-false flavor 1 neither)
          ] refl
    ] refl

-- the body of a credential is bytes
body_bytes : (flavor : ℕ) (body item : List ℕ) → IsAuth flavor body item → IsBytes item → IsBytes body
body_bytes flavor body item is fits =
    let back : IsBytes is.back = IsBytes-behind is.front is.back (λ k. let g = fits k in rw is.spelled at g) in
    let behind : IsBytes is.second.1.body = IsBytes-behind (word (length body)) is.second.1.body (λ k. let g = back k in rw is.second.1.spelled at g) in
    IsBytes-before body is.second.1.opaque.padding (λ k. let g = behind k in rw is.second.1.opaque.spelled at g)

told_credential : {A : Type 0} (Begins : Grammar A) (read : ArgumentReader A) → IsGrammar Begins read → (h : Head) (bytes : List ℕ) → IsBytes bytes
    → (r : Result ((ℕ × List ℕ) × List ℕ) XdrFault) → auth_of bytes ≡ r → HeardCredential Begins h bytes (hear_credential read h r)
told_credential Begins read is h bytes fits (Ok c) e =
    let f = auth_exact.found bytes c.0 c.1 fits e in
    let item : IsBytes f.0 = IsBytes-before f.0 c.1 (λ k. let g = fits k in rw f.2 at g) in
    let rest : IsBytes c.1 = IsBytes-behind f.0 c.1 (λ k. let g = fits k in rw f.2 at g) in
    credential c.0.0 c.0.1 f.0 c.1 f.1 f.2 _ (told_caller Begins read is h c.0.0 c.0.1 c.1 (body_bytes c.0.0 c.0.1 f.0 f.1 item) rest)
told_credential Begins read is h bytes fits (Err Short) e = HeardCredential.cut (is_cut bytes Short fits e (λ same. absurd cc))
told_credential Begins read is h bytes fits (Err TooLong) e = HeardCredential.too_long (too_long_found bytes fits e)
told_credential Begins read is h bytes fits (Err NotBool) e = HeardCredential.cut (is_cut bytes NotBool fits e (λ same. absurd cc))

told_call : {A : Type 0} (Begins : Grammar A) (read : ArgumentReader A) → IsGrammar Begins read → (h : Head) (bytes : List ℕ) → IsBytes bytes
    → HeardCall Begins h bytes (hear_call read h bytes)
told_call {A} Begins read is h bytes fits =
    elim (eqb h.kind 0) as (λ b. eqb h.kind 0 ≡ b → HeardCall Begins h bytes
    (cond b (cond (eqb h.rpc_version 2) (hear_credential read h (auth_of bytes)) (Refuse (rpc_mismatch h.xid))) Silent)) [
      | true ↦ λ zero.
          elim (eqb h.rpc_version 2) as (λ b. eqb h.rpc_version 2 ≡ b → HeardCall Begins h bytes (cond b (hear_credential read h (auth_of bytes)) (Refuse (rpc_mismatch h.xid)))) [
            | true ↦ λ two. call (eqb-true h.kind 0 zero) (eqb-true h.rpc_version 2 two) _ (told_credential Begins read is h bytes fits (auth_of bytes) refl)
            | false ↦ λ other. other_rpc (eqb-true h.kind 0 zero) (eqb-false h.rpc_version 2 other)
          ] refl
      | false ↦ λ other. no_call (eqb-false h.kind 0 other)
    ] refl

-- ---- the first six numbers

-- a number has four bytes
length_number : (n : ℕ) (item : List ℕ) → IsNumber n item → length item ≡ 4
length_number n item is = ap (length {A = ℕ}) is.1

-- one number more
length_more : {Second : List ℕ → Type 0} (n k : ℕ) → ((back : List ℕ) → Second back → length back ≡ k) → (item : List ℕ) → (IsNumber n ⟫ Second) item → length item ≡ 4 + k
length_more n k rest item is =
    ap (length {A = ℕ}) is.spelled ∙ omega (arith, length-append is.front is.back, length_number n is.front is.first, rest is.back is.second)

length_head : (h : Head) (item : List ℕ) → IsHead h item → length item ≡ 24
length_head h =
    length_more h.xid 20
    (length_more h.kind 16 (length_more h.rpc_version 12 (length_more h.program 8 (length_more h.version 4 (length_number h.procedure)))))

-- what a test that tells no fault apart from another let fail
plain_err : {X E : Type 0} (b : Bool) (d : E) (x : X) → ◌≡◌ {A = Result X (Unit {0})} (plainly (cond b (Err d) (Ok x))) (Err tt) → b ≡ true
unfolding plainly
plain_err true d x e = refl
plain_err false d x e = absurd cc

-- a number that cannot be read
number_short : (bytes : List ℕ) → number_item bytes ≡ Err tt → length bytes < 4
unfolding number_of
number_short bytes e = ltb-true (length bytes) 4 (plain_err (ltb (length bytes) 4) Short _ e)

-- numbers that cannot be read
numbers_short : {X : Type 0} (second : Reading X) (k : ℕ) (bytes : List ℕ) → IsBytes bytes → both_of number_item second bytes ≡ Err tt
    → ((rest : List ℕ) → IsBytes rest → second rest ≡ Err tt → length rest < k) → length bytes < 4 + k
numbers_short {X} second k bytes fits e behind =
    elim (bind_err {Y = (ℕ × X) × List ℕ} (number_item bytes) (λ x. second x.1 >>= λ y. Ok ((x.0, y.0), y.1)) tt e) [
      | inl h ↦ omega (arith, number_short bytes h)
      | inr s ↦
          let f = number_exact.found bytes s.0.0 s.0.1 fits s.1 in
          let rest : IsBytes s.0.1 = IsBytes-behind f.0 s.0.1 (λ i. let g = fits i in rw f.2 at g) in
          let whole : length bytes ≡ length f.0 + length s.0.1 = ap (length {A = ℕ}) f.2 ∙ length-append f.0 s.0.1 in
          elim (bind_err {Y = (ℕ × X) × List ℕ} (second s.0.1) (λ y. Ok ((s.0.0, y.0), y.1)) tt s.2) [
            | inl h ↦ omega (arith, behind s.0.1 rest h, whole, length_number s.0.0 f.0 f.1)
            | inr t ↦ absurd cc
          ]
    ]

head_short : (bytes : List ℕ) → IsBytes bytes → head_of bytes ≡ Err tt → length bytes < 24
unfolding head_of
head_short bytes fits e =
    elim (bind_err {Y = Head × List ℕ} (both_of number_item (both_of number_item (both_of number_item (both_of number_item (both_of number_item number_item)))) bytes) (λ x. Ok (head_from x.0, x.1)) tt e) [
      | inl h ↦
          numbers_short _ 20 bytes fits h (λ a af ae. numbers_short _ 16 a af ae (λ b bf be. numbers_short _ 12 b bf be (λ c cf ce. numbers_short _ 8 c cf ce (λ d df de.
          numbers_short _ 4 d df de (λ n nf ne. number_short n ne)))))
      | inr t ↦ absurd cc
    ]

pub told_heard : {A : Type 0} (Begins : Grammar A) (read : ArgumentReader A) → IsGrammar Begins read → (bytes : List ℕ) → IsBytes bytes
    → Heard Begins bytes (heard_of read bytes)
unfolding heard_of
told_heard {A} Begins read is bytes fits =
    elim (head_of bytes) as (λ r. head_of bytes ≡ r → Heard Begins bytes (hear_head read r)) [
      | Ok h ↦ λ e.
          let f = head_exact.found bytes h.0 h.1 fits e in
          let rest : IsBytes h.1 = IsBytes-behind f.0 h.1 (λ i. let g = fits i in rw f.2 at g) in
          begun h.0 f.0 h.1 f.1 f.2 _ (told_call Begins read is h.0 h.1 rest)
      | Err d ↦ λ e. short (head_short bytes fits e)
    ] refl

-- ---- the cases, from the last to the first: no other thing fits

one_arguments : {A : Type 0} (Begins : Grammar A) (read : ArgumentReader A) → IsGrammar Begins read → (h : Head) (cred : Cred) (bytes : List ℕ) → IsBytes bytes → (o : Outcome A)
    → HeardArguments Begins h cred bytes o → o ≡ hear_arguments h cred (read h.program h.procedure bytes)
one_arguments Begins read is h cred bytes fits o (called a begins) =
    elim (read h.program h.procedure bytes) as (λ r. read h.program h.procedure bytes ≡ r → hear_arguments h cred (Some a) ≡ hear_arguments h cred r) [
      | Some b ↦ λ e. ap (λ x. hear_arguments h cred (Some x)) (is.one h.program h.procedure a b bytes begins (is.found h.program h.procedure b bytes fits e))
      | None ↦ λ e. absurd (is.none h.program h.procedure bytes e a begins)
    ] refl
one_arguments Begins read is h cred bytes fits o (garbage never) =
    elim (read h.program h.procedure bytes) as (λ r. read h.program h.procedure bytes ≡ r → Refuse (garbage_arguments h.xid) ≡ hear_arguments h cred r) [
      | Some b ↦ λ e. absurd (never b (is.found h.program h.procedure b bytes fits e))
      | None ↦ λ e. refl
    ] refl

-- a test whose answer is known
pass : {X : Type 0} (b : Bool) (x y : X) → b ≡ true → x ≡ cond b x y
pass b x y e = ap (λ c. cond c x y) (sym e)

fail : {X : Type 0} (b : Bool) (x y : X) → b ≡ false → y ≡ cond b x y
fail b x y e = ap (λ c. cond c x y) (sym e)

one_program : {A : Type 0} (Begins : Grammar A) (read : ArgumentReader A) → IsGrammar Begins read → (h : Head) (cred : Cred) (bytes : List ℕ) → IsBytes bytes → (o : Outcome A)
    → HeardProgram Begins h cred bytes o → o ≡ hear_program read h cred bytes (program_of h.program)
one_program Begins read is h cred bytes fits o (unavailable e) = ap (hear_program read h cred bytes) (sym e)
one_program Begins read is h cred bytes fits o (mismatch p e other) =
    fail (eqb h.version p.version) _ _ (ne_eqb h.version p.version other) ∙ ap (hear_program read h cred bytes) (sym e)
one_program Begins read is h cred bytes fits o (no_procedure p e same above) =
    fail (leb h.procedure p.last_procedure) _ _ (lt-leb h.procedure p.last_procedure above) ∙ pass (eqb h.version p.version) _ _ (eq-eqb h.version p.version same)
    ∙ ap (hear_program read h cred bytes) (sym e)
one_program Begins read is h cred bytes fits _ (there p e same below o heard) =
    one_arguments Begins read is h cred bytes fits o heard ∙ pass (leb h.procedure p.last_procedure) _ _ (le-leb h.procedure p.last_procedure below)
    ∙ pass (eqb h.version p.version) _ _ (eq-eqb h.version p.version same) ∙ ap (hear_program read h cred bytes) (sym e)

-- nothing stands there whole
cut_auth : (bytes : List ℕ) → IsBytes bytes → IsCutAuth bytes → (e : XdrFault) × (auth_of bytes ≡ Err e) × (e ≡ TooLong → ⊥)
cut_auth bytes fits is =
    elim (auth_of bytes) as (λ r. auth_of bytes ≡ r → (e : XdrFault) × (r ≡ Err e) × (e ≡ TooLong → ⊥)) [
      | Ok v ↦ λ e. let f = auth_exact.found bytes v.0 v.1 fits e in absurd (is.0 v.0.0 v.0.1 f.0 v.1 f.1 f.2)
      | Err d ↦ λ e. (d, refl, λ same. is.1 (too_long_found bytes fits (e ∙ ap (λ (x : XdrFault). Err x) same)))
    ] refl

-- what does not stand there whole and is not too long is silence
silent : {A : Type 0} (h : Head) (why : ℕ) (e : XdrFault) → (e ≡ TooLong → ⊥) → ◌≡◌ {A = Outcome A} Silent (hear_fault h why e)
silent h why Short other = refl
silent h why TooLong other = absurd (other refl)
silent h why NotBool other = refl

one_verifier : {A : Type 0} (Begins : Grammar A) (read : ArgumentReader A) → IsGrammar Begins read → (h : Head) (cred : Cred) (bytes : List ℕ) → IsBytes bytes → (o : Outcome A)
    → HeardVerifier Begins h cred bytes o → o ≡ hear_verifier read h cred (auth_of bytes)
one_verifier Begins read is h cred bytes fits _ (HeardVerifier.cut c) =
    let f = cut_auth bytes fits c in silent h 3 f.0 f.2 ∙ ap (hear_verifier read h cred) (sym f.1)
one_verifier Begins read is h cred bytes fits _ (HeardVerifier.too_long long) = ap (hear_verifier read h cred) (sym (too_long_again bytes long))
one_verifier Begins read is h cred bytes fits _ (verifier flavor body item rest spells spelled o heard) =
    let back : IsBytes rest = IsBytes-behind item rest (λ k. let g = fits k in rw spelled at g) in
    one_program Begins read is h cred rest back o heard
    ∙ ap (hear_verifier read h cred) (sym (ap auth_of spelled ∙ auth_exact.again (flavor, body) item rest spells))

one_caller : {A : Type 0} (Begins : Grammar A) (read : ArgumentReader A) → IsGrammar Begins read → (h : Head) (flavor : ℕ) (body bytes : List ℕ) → IsBytes body → IsBytes bytes → (o : Outcome A)
    → HeardCaller Begins h flavor body bytes o → o ≡ hear_caller read h flavor body bytes
one_caller Begins read is h flavor body bytes inner fits _ (rejected zero one) =
    fail (eqb flavor 1) _ _ (ne_eqb flavor 1 one) ∙ fail (eqb flavor 0) _ _ (ne_eqb flavor 0 zero)
one_caller {A} Begins read is h flavor body bytes inner fits _ (bad one never) =
    elim (unix_of body) as (λ r. unix_of body ≡ r → Refuse (auth_error 1 h.xid) ≡ hear_unix read h bytes r) [
      | Ok c ↦ λ e. let f = unix_exact.found body c.0 c.1 inner e in absurd (never c.0 f.0 c.1 f.1 f.2)
      | Err d ↦ λ e. refl
    ] refl
    ∙ pass (eqb flavor 1) _ _ (eq-eqb flavor 1 one) ∙ fail (eqb flavor 0) _ _ (ne_eqb flavor 0 (λ zero. absurd cc))
one_caller Begins read is h flavor body bytes inner fits _ (null zero o heard) =
    one_verifier Begins read is h nobody bytes fits o heard ∙ pass (eqb flavor 0) _ _ (eq-eqb flavor 0 zero)
one_caller Begins read is h flavor body bytes inner fits _ (unix one cred item rest spells spelled o heard) =
    one_verifier Begins read is h cred bytes fits o heard
    ∙ ap (hear_unix read h bytes) (sym (ap unix_of spelled ∙ unix_exact.again cred item rest spells))
    ∙ pass (eqb flavor 1) _ _ (eq-eqb flavor 1 one) ∙ fail (eqb flavor 0) _ _ (ne_eqb flavor 0 (λ zero. absurd cc))

one_credential : {A : Type 0} (Begins : Grammar A) (read : ArgumentReader A) → IsGrammar Begins read → (h : Head) (bytes : List ℕ) → IsBytes bytes → (o : Outcome A)
    → HeardCredential Begins h bytes o → o ≡ hear_credential read h (auth_of bytes)
one_credential Begins read is h bytes fits _ (HeardCredential.cut c) =
    let f = cut_auth bytes fits c in silent h 1 f.0 f.2 ∙ ap (hear_credential read h) (sym f.1)
one_credential Begins read is h bytes fits _ (HeardCredential.too_long long) = ap (hear_credential read h) (sym (too_long_again bytes long))
one_credential Begins read is h bytes fits _ (credential flavor body item rest spells spelled o heard) =
    let front : IsBytes item = IsBytes-before item rest (λ k. let g = fits k in rw spelled at g) in
    let back : IsBytes rest = IsBytes-behind item rest (λ k. let g = fits k in rw spelled at g) in
    one_caller Begins read is h flavor body rest (body_bytes flavor body item spells front) back o heard
    ∙ ap (hear_credential read h) (sym (ap auth_of spelled ∙ auth_exact.again (flavor, body) item rest spells))

one_call : {A : Type 0} (Begins : Grammar A) (read : ArgumentReader A) → IsGrammar Begins read → (h : Head) (bytes : List ℕ) → IsBytes bytes → (o : Outcome A)
    → HeardCall Begins h bytes o → o ≡ hear_call read h bytes
one_call Begins read is h bytes fits _ (no_call other) = fail (eqb h.kind 0) _ _ (ne_eqb h.kind 0 other)
one_call Begins read is h bytes fits _ (other_rpc zero other) =
    fail (eqb h.rpc_version 2) _ _ (ne_eqb h.rpc_version 2 other) ∙ pass (eqb h.kind 0) _ _ (eq-eqb h.kind 0 zero)
one_call Begins read is h bytes fits _ (call zero two o heard) =
    one_credential Begins read is h bytes fits o heard ∙ pass (eqb h.rpc_version 2) _ _ (eq-eqb h.rpc_version 2 two) ∙ pass (eqb h.kind 0) _ _ (eq-eqb h.kind 0 zero)

pub one_heard : {A : Type 0} (Begins : Grammar A) (read : ArgumentReader A) → IsGrammar Begins read → (bytes : List ℕ) → IsBytes bytes → (o : Outcome A)
    → Heard Begins bytes o → o ≡ heard_of read bytes
unfolding heard_of
one_heard {A} Begins read is bytes fits _ (short few) =
    elim (head_of bytes) as (λ r. head_of bytes ≡ r → Silent ≡ hear_head read r) [
      | Ok h ↦ λ e.
          let f = head_exact.found bytes h.0 h.1 fits e in
          absurd (omega (arith, few, ap (length {A = ℕ}) f.2, length-append f.0 h.1, length_head h.0 f.0 f.1))
      | Err d ↦ λ e. refl
    ] refl
one_heard Begins read is bytes fits _ (begun h item rest spells spelled o heard) =
    let back : IsBytes rest = IsBytes-behind item rest (λ k. let g = fits k in rw spelled at g) in
    one_call Begins read is h rest back o heard
    ∙ ap (hear_head read) (sym (ap head_of spelled ∙ head_exact.again h item rest spells))
