-- Reading a result takes its spellings and nothing else, and what is written is one of them.
use Rattle.std.proofs.Common.{◌≡◌, ℕ, zero, suc, ◌<◌, ◌≤◌, Bool, true, false, cond, eqb, List, [], ◌∷◌, ◌++◌, length, Result, Ok, Err, ◌⊎◌, inl, inr, lit<, refl, sym, ap, subst, ◌∙◌, append_assoc, arith}
use Rattle.std.proofs.lemmas.Bool.{eqb-true, ne_eqb}
use Rattle.std.proofs.lemmas.List.{length-append}
use Rattle.std.specs.List.{AllByRecursion}
use Rattle.sfs_base.specs.Reading.{IsBytes, IsExact, ◌>>=◌}
use Rattle.sfs_base.proofs.ReadingLemmas.{IsBytes-behind, bind_ok, ok_is}
use Rattle.sfs_xdr.specs.Items.{word, words, boolean, opaque, opaque_var}
use Rattle.sfs_xdr.specs.Codec.{number_item, boolean_item, ◌⟫◌, IsNumber, IsBoolean}
use Rattle.sfs_xdr.specs.CodecLemmas.{number_exact, boolean_item_exact, text_exact, both_exact, forgetting_exact, behind, text_written}
use Rattle.nfs_proto.specs.declared.answer.Answer.{Answer}
use Rattle.nfs_proto.specs.declared.answer.Answer.TheVariants as answer
use Rattle.nfs_proto.specs.declared.dir_entry.DirEntry.{DirEntry}
use Rattle.nfs_proto.specs.declared.fattr.Fattr.{Fattr}
use Rattle.nfs_proto.specs.declared.form.Form.{Form}
use Rattle.nfs_proto.specs.declared.form.Form.TheVariants as form
use Rattle.nfs_proto.specs.declared.handle.Handle.{Handle}
use Rattle.nfs_proto.specs.Types.{IsHandle, handle_item, IsPath, path_item, IsData, data_item, IsFattr, fattr_item, fattr_words}
use Rattle.nfs_proto.specs.TypeLemmas.{handle_exact, handle_written, fattr_exact, fattr_written}
use Rattle.nfs_proto.specs.Arguments.{nothing}
use Rattle.nfs_proto.specs.Answers.{is_fault, entry_item, IsEntries, entries_within, entries_item, IsSpace, plain_of, attr_of, found_of, path_of, part_of, names_of, space_of, body_of, status_of, empty_of, IsBody, IsFault, IsResult, entry_spelling, entries_spelling, answer_spelling}
use Rattle.nfs_proto.specs.AnswerLemmas.{entry_exact, entry_written}
use Rattle.nfs_proto.specs.Laws.{IsTypedEntry, ResultsAreExact, ResultsAreWritten}
use Rattle.nfs_proto.proofs.ArgumentLaws.{nothing_exact}

-- ---- names of a directory

-- what stands behind the boolean
abbrev behind_more : ℕ → Bool × List ℕ → Result (List DirEntry × List ℕ) (Unit {0})
behind_more n more = cond more.0 (entry_item more.1 >>= λ e. entries_within n e.1 >>= λ es. Ok (e.0 ∷ es.0, es.1)) (Ok ([], more.1))

-- what reading them took
entries_found : (n : ℕ) (bytes : List ℕ) (es : List DirEntry) (rest : List ℕ) → IsBytes bytes → entries_within n bytes ≡ Ok (es, rest)
    → (item : List ℕ) × IsEntries es item × (bytes ≡ item ++ rest)
unfolding entries_within
entries_found zero bytes es rest fits e = absurd cc
entries_found (suc n) bytes es rest fits e =
    let s = bind_ok {Y = List DirEntry × List ℕ} (boolean_item bytes) (behind_more n) (es, rest) e in
    let f = boolean_item_exact.found bytes s.0.0 s.0.1 fits s.1 in
    let behind_it : IsBytes s.0.1 = IsBytes-behind f.0 s.0.1 (λ k. let g = fits k in rw f.2 at g) in
    go s.0.0 s.0.1 f.0 behind_it f.1 f.2 s.2 (λ mid es rest fits e. entries_found n mid es rest fits e)
  where
    go : (b : Bool) (mid front : List ℕ) → IsBytes mid → IsBoolean b front → bytes ≡ front ++ mid
        → behind_more n (b, mid) ≡ Ok (es, rest)
        → ((mid : List ℕ) (es : List DirEntry) (rest : List ℕ) → IsBytes mid → entries_within n mid ≡ Ok (es, rest) → (item : List ℕ) × IsEntries es item × (mid ≡ item ++ rest))
        → (item : List ℕ) × IsEntries es item × (bytes ≡ item ++ rest)
    go false mid front fits spells is e others =
        let pair = ok_is {E = Unit {0}} ([], mid) (es, rest) e in
        let value : [] ≡ es = ap (λ (q : List DirEntry × List ℕ). q.0) pair in
        let left : mid ≡ rest = ap (λ (q : List DirEntry × List ℕ). q.1) pair in
        (front, subst (λ (l : List DirEntry). IsEntries l front) value spells, is ∙ ap (λ (r : List ℕ). front ++ r) left)
    go true mid front fits spells is e others =
        let s = bind_ok {Y = List DirEntry × List ℕ} (entry_item mid) (λ e. entries_within n e.1 >>= λ es. Ok (e.0 ∷ es.0, es.1)) (es, rest) e in
        let f = entry_exact.found mid s.0.0 s.0.1 fits s.1 in
        let more : IsBytes s.0.1 = IsBytes-behind f.0 s.0.1 (λ k. let g = fits k in rw f.2 at g) in
        let t = bind_ok {Y = List DirEntry × List ℕ} (entries_within n s.0.1) (λ es. Ok (s.0.0 ∷ es.0, es.1)) (es, rest) s.2 in
        let g = others s.0.1 t.0.0 t.0.1 more t.1 in
        let pair = ok_is {E = Unit {0}} (s.0.0 ∷ t.0.0, t.0.1) (es, rest) t.2 in
        let value : s.0.0 ∷ t.0.0 ≡ es = ap (λ (q : List DirEntry × List ℕ). q.0) pair in
        let left : t.0.1 ≡ rest = ap (λ (q : List DirEntry × List ℕ). q.1) pair in (
          front ++ (f.0 ++ g.0),
          subst (λ (l : List DirEntry). IsEntries l (front ++ (f.0 ++ g.0))) value (behind front (f.0 ++ g.0) spells (behind f.0 g.0 f.1 g.1)),
          is ∙ ap (λ (r : List ℕ). front ++ r) (f.2 ∙ ap (λ (r : List ℕ). f.0 ++ r) (g.2 ∙ ap (λ (r : List ℕ). g.0 ++ r) left) ∙ sym (append_assoc f.0 g.0 rest))
              ∙ sym (append_assoc front (f.0 ++ g.0) rest),
        )

-- there are fewer names than bytes
entries_few : (es : List DirEntry) (item : List ℕ) → IsEntries es item → length es < length item
entries_few [] item is = omega (arith, ap (length {A = ℕ}) is)
entries_few (e ∷ es) item is =
    let rest = entries_few es is.second.back is.second.second in
    omega (arith, rest, ap (length {A = ℕ}) is.spelled, length-append is.front is.back, ap (length {A = ℕ}) is.first, ap (length {A = ℕ}) is.second.spelled, length-append is.second.front is.second.back)

entries_again : (n : ℕ) (es : List DirEntry) (item rest : List ℕ) → length es < n → IsEntries es item → entries_within n (item ++ rest) ≡ Ok (es, rest)
unfolding entries_within
entries_again zero es item rest few is = absurd (omega arith)
entries_again (suc n) [] item rest few is =
    ap (λ (r : Result (Bool × List ℕ) (Unit {0})). r >>= behind_more n)
    (boolean_item_exact.again false item rest is)
entries_again (suc n) (e ∷ es) item rest few is =
    let first : boolean_item (item ++ rest) ≡ Ok (true, is.back ++ rest) =
    ap boolean_item (ap (λ (i : List ℕ). i ++ rest) is.spelled ∙ append_assoc is.front is.back rest) ∙ boolean_item_exact.again true is.front (is.back ++ rest) is.first in
    let second : entry_item (is.back ++ rest) ≡ Ok (e, is.second.back ++ rest) =
    ap entry_item (ap (λ (i : List ℕ). i ++ rest) is.second.spelled ∙ append_assoc is.second.front is.second.back rest)
    ∙ entry_exact.again e is.second.front (is.second.back ++ rest) is.second.first in
    ap (λ (r : Result (Bool × List ℕ) (Unit {0})). r >>= behind_more n) first
    ∙ ap (λ (r : Result (DirEntry × List ℕ) (Unit {0})). r >>= λ e. entries_within n e.1 >>= λ es. Ok (e.0 ∷ es.0, es.1)) second
    ∙ ap (λ (r : Result (List DirEntry × List ℕ) (Unit {0})). r >>= λ es. Ok (e ∷ es.0, es.1)) (entries_again n es is.second.back rest (omega (arith, few)) is.second.second)

entries_exact : IsExact entries_item IsEntries
entries_exact = record {
  found = λ bytes es rest fits e. entries_found (length bytes) bytes es rest fits e;
  again = λ es item rest is. entries_again (length (item ++ rest)) es item rest (omega (arith, entries_few es item is, length-append item rest)) is;
}

-- ---- behind the status OK

-- the answer is made of these parts, which are spelled so
abbrev Made : {X : Type 0} → (X → Answer) → (X → List ℕ → Type 0) → Answer → List ℕ → Type 0
Made {X} make Spells a item = (x : X) × (make x ≡ a) × Spells x item

plain_exact : IsExact plain_of (Made (λ (u : Unit {0}). answer.Plain) (λ u item. item ≡ []))
unfolding plain_of
plain_exact = forgetting_exact (λ (u : Unit {0}). answer.Plain) nothing (λ u item. item ≡ []) nothing_exact

attr_exact : IsExact attr_of (Made answer.Attr IsFattr)
unfolding attr_of
attr_exact = forgetting_exact answer.Attr fattr_item IsFattr fattr_exact

found_exact : IsExact found_of (Made (λ (p : Handle × Fattr). answer.Found p.0 p.1) (λ (p : Handle × Fattr). IsHandle p.0 ⟫ IsFattr p.1))
unfolding found_of
found_exact =
    forgetting_exact (λ (p : Handle × Fattr). answer.Found p.0 p.1) _ (λ (p : Handle × Fattr). IsHandle p.0 ⟫ IsFattr p.1)
    (both_exact handle_item fattr_item IsHandle IsFattr handle_exact fattr_exact)

path_exact : IsExact path_of (Made answer.Path IsPath)
unfolding path_of
path_exact = forgetting_exact answer.Path path_item IsPath (text_exact 1024 (lit< tt))

part_exact : IsExact part_of (Made (λ (p : Fattr × List ℕ). answer.Part p.0 p.1) (λ (p : Fattr × List ℕ). IsFattr p.0 ⟫ IsData p.1))
unfolding part_of
part_exact =
    forgetting_exact (λ (p : Fattr × List ℕ). answer.Part p.0 p.1) _ (λ (p : Fattr × List ℕ). IsFattr p.0 ⟫ IsData p.1)
    (both_exact fattr_item data_item IsFattr IsData fattr_exact (text_exact 8192 (lit< tt)))

names_exact : IsExact names_of (Made (λ (p : List DirEntry × Bool). answer.Names p.0 p.1) (λ (p : List DirEntry × Bool). IsEntries p.0 ⟫ IsBoolean p.1))
unfolding names_of
names_exact =
    forgetting_exact (λ (p : List DirEntry × Bool). answer.Names p.0 p.1) _ (λ (p : List DirEntry × Bool). IsEntries p.0 ⟫ IsBoolean p.1)
    (both_exact entries_item boolean_item IsEntries IsBoolean entries_exact boolean_item_exact)

-- the five numbers of a file system
abbrev Five : Type 0
Five = ℕ × (ℕ × (ℕ × (ℕ × ℕ)))

abbrev space_from : Five → Answer
space_from p = answer.Space p.0 p.1.0 p.1.1.0 p.1.1.1.0 p.1.1.1.1

abbrev SpellsFive : Five → List ℕ → Type 0
SpellsFive p = IsSpace p.0 p.1.0 p.1.1.0 p.1.1.1.0 p.1.1.1.1

space_exact : IsExact space_of (Made space_from SpellsFive)
unfolding space_of
space_exact =
    forgetting_exact space_from _ SpellsFive
    (both_exact number_item _ IsNumber _ number_exact
    (both_exact number_item _ IsNumber _ number_exact
    (both_exact number_item _ IsNumber _ number_exact (both_exact number_item number_item IsNumber IsNumber number_exact number_exact))))

body_found : (f : Form) (bytes : List ℕ) (a : Answer) (rest : List ℕ) → IsBytes bytes → body_of f bytes ≡ Ok (a, rest) → (item : List ℕ) × IsBody f a item × (bytes ≡ item ++ rest)
body_found form.Nothing bytes a rest fits e = absurd cc
body_found form.Plain bytes a rest fits e =
    let f = plain_exact.found bytes a rest fits e in (f.0, subst (λ (b : Answer). IsBody form.Plain b f.0) f.1.1 (refl, f.1.2), f.2)
body_found form.Attr bytes a rest fits e =
    let f = attr_exact.found bytes a rest fits e in (f.0, subst (λ (b : Answer). IsBody form.Attr b f.0) f.1.1 (refl, f.1.2), f.2)
body_found form.Found bytes a rest fits e =
    let f = found_exact.found bytes a rest fits e in (f.0, subst (λ (b : Answer). IsBody form.Found b f.0) f.1.1 (refl, f.1.2), f.2)
body_found form.Path bytes a rest fits e =
    let f = path_exact.found bytes a rest fits e in (f.0, subst (λ (b : Answer). IsBody form.Path b f.0) f.1.1 (refl, f.1.2), f.2)
body_found form.Part bytes a rest fits e =
    let f = part_exact.found bytes a rest fits e in (f.0, subst (λ (b : Answer). IsBody form.Part b f.0) f.1.1 (refl, f.1.2), f.2)
body_found form.Names bytes a rest fits e =
    let f = names_exact.found bytes a rest fits e in (f.0, subst (λ (b : Answer). IsBody form.Names b f.0) f.1.1 (refl, f.1.2), f.2)
body_found form.Space bytes a rest fits e =
    let f = space_exact.found bytes a rest fits e in (f.0, subst (λ (b : Answer). IsBody form.Space b f.0) f.1.1 (refl, f.1.2), f.2)

body_again : (f : Form) (a : Answer) (item rest : List ℕ) → IsBody f a item → body_of f (item ++ rest) ≡ Ok (a, rest)
body_again f answer.Empty item rest is = absurd is
body_again f (answer.Fault status) item rest is = absurd is
body_again f answer.Plain item rest is = ap (λ g. body_of g (item ++ rest)) is.0 ∙ plain_exact.again answer.Plain item rest (tt, refl, is.1)
body_again f (answer.Attr attr) item rest is = ap (λ g. body_of g (item ++ rest)) is.0 ∙ attr_exact.again (answer.Attr attr) item rest (attr, refl, is.1)
body_again f (answer.Found file attr) item rest is = ap (λ g. body_of g (item ++ rest)) is.0 ∙ found_exact.again (answer.Found file attr) item rest ((file, attr), refl, is.1)
body_again f (answer.Path path) item rest is = ap (λ g. body_of g (item ++ rest)) is.0 ∙ path_exact.again (answer.Path path) item rest (path, refl, is.1)
body_again f (answer.Part attr bytes) item rest is = ap (λ g. body_of g (item ++ rest)) is.0 ∙ part_exact.again (answer.Part attr bytes) item rest ((attr, bytes), refl, is.1)
body_again f (answer.Names entries eof) item rest is = ap (λ g. body_of g (item ++ rest)) is.0 ∙ names_exact.again (answer.Names entries eof) item rest ((entries, eof), refl, is.1)
body_again f (answer.Space tsize bsize blocks bfree bavail) item rest is =
    ap (λ g. body_of g (item ++ rest)) is.0 ∙ space_exact.again (answer.Space tsize bsize blocks bfree bavail) item rest ((tsize, (bsize, (blocks, (bfree, bavail)))), refl, is.1)

-- ---- statuses

-- a status other than OK is not 0
not_ok : (status : ℕ) → is_fault status ≡ true → eqb status 0 ≡ false
not_ok status e = ne_eqb status 0 (λ zero. let f : is_fault 0 ≡ true = subst (λ s. is_fault s ≡ true) zero e in absurd cc)

abbrev IsStatused : Form → Answer → List ℕ → Type 0
IsStatused f a item = IsFault a item ⊎ (IsNumber 0 ⟫ IsBody f a) item

-- what stands behind a status
abbrev behind_status : Form → ℕ × List ℕ → Result (Answer × List ℕ) (Unit {0})
behind_status f status = cond (eqb status.0 0) (body_of f status.1) (cond (is_fault status.0) (Ok (answer.Fault status.0, status.1)) (Err tt))

status_found : (f : Form) (bytes : List ℕ) (a : Answer) (rest : List ℕ) → IsBytes bytes → status_of f bytes ≡ Ok (a, rest)
    → (item : List ℕ) × IsStatused f a item × (bytes ≡ item ++ rest)
unfolding status_of
status_found f bytes a rest fits e =
    let s = bind_ok {Y = Answer × List ℕ} (number_item bytes) (behind_status f) (a, rest) e in
    let n = number_exact.found bytes s.0.0 s.0.1 fits s.1 in
    let behind_it : IsBytes s.0.1 = IsBytes-behind n.0 s.0.1 (λ k. let g = fits k in rw n.2 at g) in
    go (eqb s.0.0 0) s.0.0 s.0.1 n.0 refl behind_it n.1 n.2 s.2
  where
    fault : (b : Bool) (status : ℕ) (mid front : List ℕ) → is_fault status ≡ b → IsNumber status front → bytes ≡ front ++ mid
        → ◌≡◌ {A = Result (Answer × List ℕ) (Unit {0})} (cond b (Ok (answer.Fault status, mid)) (Err tt)) (Ok (a, rest))
        → (item : List ℕ) × IsStatused f a item × (bytes ≡ item ++ rest)
    fault true status mid front is spells at e =
        let pair = ok_is {E = Unit {0}} (answer.Fault status, mid) (a, rest) e in
        let value : answer.Fault status ≡ a = ap (λ (q : Answer × List ℕ). q.0) pair in
        let left : mid ≡ rest = ap (λ (q : Answer × List ℕ). q.1) pair in
        (front, inl (status, sym value, is, spells), at ∙ ap (λ (r : List ℕ). front ++ r) left)
    fault false status mid front is spells at e = absurd cc

    go : (b : Bool) (status : ℕ) (mid front : List ℕ) → eqb status 0 ≡ b → IsBytes mid → IsNumber status front → bytes ≡ front ++ mid
        → cond b (body_of f mid) (cond (is_fault status) (Ok (answer.Fault status, mid)) (Err tt)) ≡ Ok (a, rest)
        → (item : List ℕ) × IsStatused f a item × (bytes ≡ item ++ rest)
    go true status mid front is fits spells at e =
        let g = body_found f mid a rest fits e in
        let ok : IsNumber 0 front = subst (λ (k : ℕ). IsNumber k front) (eqb-true status 0 is) spells in
        (front ++ g.0, inr (behind front g.0 ok g.1), at ∙ ap (λ (r : List ℕ). front ++ r) g.2 ∙ sym (append_assoc front g.0 rest))
    go false status mid front is fits spells at e = fault (is_fault status) status mid front refl spells at e

status_again : (f : Form) (a : Answer) (item rest : List ℕ) → IsStatused f a item → status_of f (item ++ rest) ≡ Ok (a, rest)
unfolding status_of
status_again f a item rest (inl is) =
    ap (λ (r : Result (ℕ × List ℕ) (Unit {0})). r >>= behind_status f) (number_exact.again is.0 item rest is.3)
    ∙ ap (λ b. cond b (body_of f rest) (cond (is_fault is.0) (Ok (answer.Fault is.0, rest)) (Err tt))) (not_ok is.0 is.2)
    ∙ ap (λ b. cond b (Ok (answer.Fault is.0, rest)) (Err tt)) is.2
    ∙ ap (λ (x : Answer). Ok (x, rest)) (sym is.1)
status_again f a item rest (inr is) =
    let first : number_item (item ++ rest) ≡ Ok (0, is.back ++ rest) =
    ap number_item (ap (λ (i : List ℕ). i ++ rest) is.spelled ∙ append_assoc is.front is.back rest) ∙ number_exact.again 0 is.front (is.back ++ rest) is.first in
    ap (λ (r : Result (ℕ × List ℕ) (Unit {0})). r >>= behind_status f) first ∙ body_again f a is.back rest is.second

status_exact : (f : Form) → IsExact (status_of f) (IsStatused f)
status_exact f = record {
  found = status_found f;
  again = status_again f;
}

empty_exact : IsExact empty_of (λ a item. (a ≡ answer.Empty) × (item ≡ []))
unfolding empty_of
empty_exact =
    let made = forgetting_exact (λ (u : Unit {0}). answer.Empty) nothing (λ u item. item ≡ []) nothing_exact in
    record {
      found = λ bytes a rest fits e. let f = made.found bytes a rest fits e in (f.0, (sym f.1.1, f.1.2), f.2);
      again = λ a item rest is. made.again a item rest (tt, sym is.0, is.1);
    }

pub results_exact : ResultsAreExact
results_exact form.Nothing = empty_exact
results_exact form.Plain = status_exact form.Plain
results_exact form.Attr = status_exact form.Attr
results_exact form.Found = status_exact form.Found
results_exact form.Path = status_exact form.Path
results_exact form.Part = status_exact form.Part
results_exact form.Names = status_exact form.Names
results_exact form.Space = status_exact form.Space

-- ---- what is written

entries_written : (es : List DirEntry) → AllByRecursion IsTypedEntry es → AllByRecursion (λ e. length e.name ≤ 1024) es → IsEntries es (entries_spelling es)
entries_written [] typed fits = refl
entries_written (e ∷ es) typed fits =
    behind (boolean true) (entry_spelling e ++ entries_spelling es) refl
    (behind (entry_spelling e) (entries_spelling es) (entry_written e typed.0 fits.0) (entries_written es typed.1 fits.1))

-- a result with a status is one of a procedure whose result has one
statused : (f : Form) (a : Answer) (item : List ℕ) → (f ≡ form.Nothing → ⊥) → IsStatused f a item → IsResult f a item
statused form.Nothing a item some is = absurd (some refl)
statused form.Plain a item some is = is
statused form.Attr a item some is = is
statused form.Found a item some is = is
statused form.Path a item some is = is
statused form.Part a item some is = is
statused form.Names a item some is = is
statused form.Space a item some is = is

-- the status OK, as it is written
ok : IsNumber 0 (word 0)
ok = (lit< tt, refl)

pub results_written : ResultsAreWritten
results_written f answer.Empty belongs typed fits = subst (λ g. IsResult g answer.Empty []) (sym belongs) (refl, refl)
results_written f (answer.Fault status) belongs typed fits = statused f (answer.Fault status) (word status) belongs (inl (status, refl, fits, (typed, refl)))
results_written f answer.Plain belongs typed fits =
    subst (λ g. IsResult g answer.Plain (word 0)) (sym belongs) (inr (behind (word 0) [] ok (refl, refl)))
results_written f (answer.Attr attr) belongs typed fits =
    subst (λ g. IsResult g (answer.Attr attr) (answer_spelling (answer.Attr attr))) (sym belongs)
    (inr (behind (word 0) (words (fattr_words attr)) ok (refl, fattr_written attr typed tt)))
results_written f (answer.Found file attr) belongs typed fits =
    subst (λ g. IsResult g (answer.Found file attr) (answer_spelling (answer.Found file attr))) (sym belongs)
    (inr (behind (word 0) (opaque file.0 ++ words (fattr_words attr)) ok
    (refl, behind (opaque file.0) (words (fattr_words attr)) (handle_written file typed.0 tt) (fattr_written attr typed.1 tt))))
results_written f (answer.Path path) belongs typed fits =
    subst (λ g. IsResult g (answer.Path path) (answer_spelling (answer.Path path))) (sym belongs)
    (inr (behind (word 0) (opaque_var path) ok (refl, text_written 1024 path fits)))
results_written f (answer.Part attr bytes) belongs typed fits =
    subst (λ g. IsResult g (answer.Part attr bytes) (answer_spelling (answer.Part attr bytes))) (sym belongs)
    (inr (behind (word 0) (words (fattr_words attr) ++ opaque_var bytes) ok
    (refl, behind (words (fattr_words attr)) (opaque_var bytes) (fattr_written attr typed tt) (text_written 8192 bytes fits))))
results_written f (answer.Names entries eof) belongs typed fits =
    subst (λ g. IsResult g (answer.Names entries eof) (answer_spelling (answer.Names entries eof))) (sym belongs)
    (inr (behind (word 0) (entries_spelling entries ++ boolean eof) ok
    (refl, behind (entries_spelling entries) (boolean eof) (entries_written entries typed fits) refl)))
results_written f (answer.Space tsize bsize blocks bfree bavail) belongs typed fits =
    subst (λ g. IsResult g (answer.Space tsize bsize blocks bfree bavail) (answer_spelling (answer.Space tsize bsize blocks bfree bavail))) (sym belongs)
    (inr (behind (word 0) (words (tsize ∷ bsize ∷ blocks ∷ bfree ∷ bavail ∷ [])) ok (
      refl,
      behind (word tsize) _ (typed.0, refl)
          (behind (word bsize) _ (typed.1.0, refl)
          (behind (word blocks) _ (typed.1.1.0, refl) (behind (word bfree) (word bavail) (typed.1.1.1.0, refl) (typed.1.1.1.1.0, refl)))),
    )))
