-- Names of a directory, as a loop reads them.
use Rattle.std.proofs.Common.{◌≡◌, ℕ, suc, ◌+◌, Bool, true, false, cond, List, [], ◌∷◌, ◌++◌, length, get_or, drop, ◌<◌, ◌≤◌, Result, Ok, Err, refl, sym, ap, subst, ◌∙◌, append_assoc}
use Rattle.std.proofs.lemmas.List.{append-nil, drop_more}
use Rattle.std.specs.List.{AllByRecursion}
use Rattle.sfs_xdr.specs.Items.{boolean}
use Rattle.sfs_base.specs.Reading.{◌>>=◌}
use Rattle.sfs_xdr.specs.Codec.{boolean_item}
use Rattle.sfs_xdr.specs.CodecLemmas.{prefixed}
use Rattle.nfs_proto.specs.declared.dir_entry.DirEntry.{DirEntry}
use Rattle.nfs_proto.specs.Answers.{entry_item, entries_within, entry_spelling, entries_spelling}

-- what stands behind the boolean
abbrev behind_boolean : ℕ → Bool × List ℕ → Result (List DirEntry × List ℕ) (Unit {0})
behind_boolean n more = cond more.0 (entry_item more.1 >>= λ e. entries_within n e.1 >>= λ es. Ok (e.0 ∷ es.0, es.1)) (Ok ([], more.1))

-- one more name
joined : (es : List DirEntry) (e : DirEntry) (r : Result (List DirEntry × List ℕ) (Unit {0})) → prefixed es (r >>= λ p. Ok (e ∷ p.0, p.1)) ≡ prefixed (es ++ e ∷ []) r
joined es e (Ok p) = ap (λ (l : List DirEntry). Ok (l, p.1)) (sym (append_assoc es (e ∷ []) p.0))
joined es e (Err d) = refl

pub entries_more : (es : List DirEntry) (n m : ℕ) (bytes mid rest : List ℕ) (e : DirEntry) → n ≡ suc m → boolean_item bytes ≡ Ok (true, mid) → entry_item mid ≡ Ok (e, rest)
    → prefixed es (entries_within n bytes) ≡ prefixed (es ++ e ∷ []) (entries_within m rest)
unfolding entries_within
entries_more es n m bytes mid rest e is first second =
    ap (λ k. prefixed es (entries_within k bytes)) is
    ∙ ap (λ (r : Result (Bool × List ℕ) (Unit {0})). prefixed es (r >>= behind_boolean m)) first
    ∙ ap (λ (r : Result (DirEntry × List ℕ) (Unit {0})). prefixed es (r >>= λ x. entries_within m x.1 >>= λ p. Ok (x.0 ∷ p.0, p.1))) second
    ∙ joined es e (entries_within m rest)

-- no name more
pub entries_end : (es : List DirEntry) (n m : ℕ) (bytes rest : List ℕ) → n ≡ suc m → boolean_item bytes ≡ Ok (false, rest)
    → prefixed es (entries_within n bytes) ≡ Ok (es, rest)
unfolding entries_within
entries_end es n m bytes rest is first =
    ap (λ k. prefixed es (entries_within k bytes)) is
    ∙ ap (λ (r : Result (Bool × List ℕ) (Unit {0})). prefixed es (r >>= behind_boolean m)) first
    ∙ ap (λ (l : List DirEntry). Ok (l, rest)) (append-nil es)

-- bytes that go on with no boolean
pub entries_cut : (es : List DirEntry) (n m : ℕ) (bytes : List ℕ) → n ≡ suc m → boolean_item bytes ≡ Err tt → prefixed es (entries_within n bytes) ≡ Err tt
unfolding entries_within
entries_cut es n m bytes is first =
    ap (λ k. prefixed es (entries_within k bytes)) is
    ∙ ap (λ (r : Result (Bool × List ℕ) (Unit {0})). prefixed es (r >>= behind_boolean m)) first

-- or with no name
pub entries_bad : (es : List DirEntry) (n m : ℕ) (bytes mid : List ℕ) → n ≡ suc m → boolean_item bytes ≡ Ok (true, mid) → entry_item mid ≡ Err tt
    → prefixed es (entries_within n bytes) ≡ Err tt
unfolding entries_within
entries_bad es n m bytes mid is first second =
    ap (λ k. prefixed es (entries_within k bytes)) is
    ∙ ap (λ (r : Result (Bool × List ℕ) (Unit {0})). prefixed es (r >>= behind_boolean m)) first
    ∙ ap (λ (r : Result (DirEntry × List ℕ) (Unit {0})). prefixed es (r >>= λ x. entries_within m x.1 >>= λ p. Ok (x.0 ∷ p.0, p.1))) second

-- or with more names than there are bytes
pub entries_spent : (es : List DirEntry) (n : ℕ) (bytes : List ℕ) → n ≡ 0 → prefixed es (entries_within n bytes) ≡ Err tt
unfolding entries_within
entries_spent es n bytes is = ap (λ k. prefixed es (entries_within k bytes)) is

-- ---- names of a directory, as a loop writes them

-- one name more is written
pub entries_step : (now more mid : List ℕ) (es : List DirEntry) (i : ℕ) (e : DirEntry) → i < length es → e ≡ get_or es i e → more ≡ now ++ boolean true → mid ≡ more ++ entry_spelling e
    → mid ++ entries_spelling (drop (i + 1) es) ≡ now ++ entries_spelling (drop i es)
entries_step now more mid es i e below is first second =
    let rest = entries_spelling (drop (i + 1) es) in
    ap (λ (m : List ℕ). m ++ rest) second ∙ append_assoc more (entry_spelling e) rest ∙ ap (λ (m : List ℕ). m ++ (entry_spelling e ++ rest)) first
    ∙ append_assoc now (boolean true) (entry_spelling e ++ rest)
    ∙ ap (λ (x : DirEntry). now ++ entries_spelling (x ∷ drop (i + 1) es)) is
    ∙ ap (λ (l : List DirEntry). now ++ entries_spelling l) (sym (drop_more es i e below))

-- the names behind the first fit too
pub entries_fit : (es : List DirEntry) (i : ℕ) (e : DirEntry) → i < length es → AllByRecursion (λ e. length e.name ≤ 1024) (drop i es)
    → AllByRecursion (λ e. length e.name ≤ 1024) (drop (i + 1) es)
entries_fit es i e below fits = (subst (AllByRecursion (λ e. length e.name ≤ 1024)) (drop_more es i e below) fits).1
