-- Reading takes the spellings of an entry and nothing else, and what is written is one of them.
use Rattle.std.proofs.Common.{◌≡◌, ℕ, zero, suc, ◌<◌, ◌^◌, Bool, List, ◌++◌, Ok, lit<, refl, sym, ap, subst, ◌∙◌}
use Rattle.std.specs.List.{AllByRecursion}
use Rattle.sfs_base.specs.Reading.{IsBytes, IsExact}
use Rattle.sfs_xdr.specs.Items.{AreWords, word, boolean}
use Rattle.sfs_xdr.specs.Codec.{number_item, boolean_item, counted_of, ◌⟫◌, IsNumber, IsBoolean, IsCounted}
use Rattle.sfs_xdr.specs.CodecLemmas.{number_exact, boolean_item_exact, counted_exact, counted_written, both_exact, tested_exact, forgetting_exact, behind}
use Rattle.mini_tx.specs.declared.entry.Entry.{Entry}
use Rattle.mini_tx.specs.declared.entry.Entry.TheVariants as entry
use Rattle.mini_tx.specs.declared.range.Range.{Range}
use Rattle.mini_tx.specs.declared.tx_id.TxId.{TxId}
use Rattle.mini_tx.specs.declared.vote.Vote.{Vote}
use Rattle.mini_tx.specs.declared.write_at.WriteAt.{WriteAt}
use Rattle.mini_tx.specs.EntryGrammar.{longest, IsId, IsCut, IsRange, IsWrite, IsVote, is_granted, is_refusal, are_participants, IsGranted, IsRefusal, AreParticipants, AreRanges, AreWrites, kind_of, IsEntryFields, range_spelling, write_spelling, counted_spelling, id_spelling, vote_spelling, FitsWrite, FitsRange, FitsNumber, FitsList}
use Rattle.mini_tx.specs.EntryReading.{id_item, cut_item, range_item, write_item, vote_item, granted_item, refusal_item, participants_item, ranges_item, writes_item, none_of, single_of, prepared_of, refused_of, decided_of, forgotten_of, cut_of, floor_of, entry_fields}
use Rattle.mini_tx.specs.EntryLemmas.{id_exact, id_written, cut_exact, cut_written, range_exact, range_written, write_exact, write_written, numbered_exact}
use Rattle.mini_tx.specs.VoteLemmas.{vote_exact, vote_written}
use Rattle.mini_tx.specs.Laws.{IsTypedRange, IsTypedWrite, EntriesAreExact, EntriesAreWritten}

-- ---- parts

granted_vote_exact : IsExact granted_item IsGranted
granted_vote_exact = tested_exact is_granted vote_item IsVote vote_exact

refusal_exact : IsExact refusal_item IsRefusal
refusal_exact = tested_exact is_refusal vote_item IsVote vote_exact

participants_exact : IsExact participants_item AreParticipants
participants_exact = tested_exact are_participants (counted_of longest number_item) (IsCounted longest IsNumber) (counted_exact longest number_item IsNumber number_exact)

ranges_exact : IsExact ranges_item AreRanges
ranges_exact = counted_exact longest range_item IsRange range_exact

writes_exact : IsExact writes_item AreWrites
writes_exact = counted_exact longest write_item IsWrite write_exact

-- ---- each kind

-- the entry is made of these parts, which are spelled so
abbrev Made : {X : Type 0} → (X → Entry) → (X → List ℕ → Type 0) → Entry → List ℕ → Type 0
Made {X} make Spells e item = (x : X) × (make x ≡ e) × Spells x item

abbrev SingleParts : Type 0
SingleParts = TxId × (Vote × List WriteAt)

abbrev single_from : SingleParts → Entry
single_from p = entry.Single p.0 p.1.0 p.1.1

single_exact : IsExact single_of (Made single_from (λ (p : SingleParts). IsId p.0 ⟫ IsGranted p.1.0 ⟫ AreWrites p.1.1))
unfolding single_of
single_exact =
    forgetting_exact single_from _ (λ (p : SingleParts). IsId p.0 ⟫ IsGranted p.1.0 ⟫ AreWrites p.1.1)
    (both_exact id_item _ IsId _ id_exact (both_exact granted_item writes_item IsGranted AreWrites granted_vote_exact writes_exact))

abbrev PreparedParts : Type 0
PreparedParts = TxId × (List ℕ × (Vote × (List Range × List WriteAt)))

abbrev prepared_from : PreparedParts → Entry
prepared_from p = entry.Prepared p.0 p.1.0 p.1.1.0 p.1.1.1.0 p.1.1.1.1

abbrev SpellsPrepared : PreparedParts → List ℕ → Type 0
SpellsPrepared p = IsId p.0 ⟫ AreParticipants p.1.0 ⟫ IsGranted p.1.1.0 ⟫ AreRanges p.1.1.1.0 ⟫ AreWrites p.1.1.1.1

prepared_exact : IsExact prepared_of (Made prepared_from SpellsPrepared)
unfolding prepared_of
prepared_exact =
    forgetting_exact prepared_from _ SpellsPrepared
    (both_exact id_item _ IsId _ id_exact
    (both_exact participants_item _ AreParticipants _ participants_exact
    (both_exact granted_item _ IsGranted _ granted_vote_exact (both_exact ranges_item writes_item AreRanges AreWrites ranges_exact writes_exact))))

abbrev Voted : Type 0
Voted = TxId × Vote

refused_exact : IsExact refused_of (Made (λ (p : Voted). entry.Refused p.0 p.1) (λ (p : Voted). IsId p.0 ⟫ IsRefusal p.1))
unfolding refused_of
refused_exact =
    forgetting_exact (λ (p : Voted). entry.Refused p.0 p.1) _ (λ (p : Voted). IsId p.0 ⟫ IsRefusal p.1)
    (both_exact id_item refusal_item IsId IsRefusal id_exact refusal_exact)

decided_exact : IsExact decided_of (Made (λ (p : TxId × Bool). entry.Decided p.0 p.1) (λ (p : TxId × Bool). IsId p.0 ⟫ IsBoolean p.1))
unfolding decided_of
decided_exact =
    forgetting_exact (λ (p : TxId × Bool). entry.Decided p.0 p.1) _ (λ (p : TxId × Bool). IsId p.0 ⟫ IsBoolean p.1)
    (both_exact id_item boolean_item IsId IsBoolean id_exact boolean_item_exact)

forgotten_exact : IsExact forgotten_of (Made entry.Forgotten IsId)
unfolding forgotten_of
forgotten_exact = forgetting_exact entry.Forgotten id_item IsId id_exact

cut_entry_exact : IsExact cut_of (Made entry.Cut IsCut)
unfolding cut_of
cut_entry_exact = forgetting_exact entry.Cut cut_item IsCut cut_exact

floor_exact : IsExact floor_of (Made (λ (p : Voted). entry.Floor p.0 p.1) (λ (p : Voted). IsId p.0 ⟫ IsVote p.1))
unfolding floor_of
floor_exact =
    forgetting_exact (λ (p : Voted). entry.Floor p.0 p.1) _ (λ (p : Voted). IsId p.0 ⟫ IsVote p.1)
    (both_exact id_item vote_item IsId IsVote id_exact vote_exact)

-- ---- by the kind

-- an entry of this kind, with its fields
abbrev OfKind : ℕ → Entry → List ℕ → Type 0
OfKind n e item = (kind_of e ≡ n) × IsEntryFields e item

fields_found : (n : ℕ) (bytes : List ℕ) (e : Entry) (rest : List ℕ) → IsBytes bytes → entry_fields n bytes ≡ Ok (e, rest)
    → (item : List ℕ) × OfKind n e item × (bytes ≡ item ++ rest)
unfolding entry_fields none_of
fields_found zero bytes v rest fits e = absurd cc
fields_found (suc zero) bytes v rest fits e =
    let f = single_exact.found bytes v rest fits e in (f.0, subst (λ (w : Entry). OfKind 1 w f.0) f.1.1 (refl, f.1.2), f.2)
fields_found (suc (suc zero)) bytes v rest fits e =
    let f = prepared_exact.found bytes v rest fits e in (f.0, subst (λ (w : Entry). OfKind 2 w f.0) f.1.1 (refl, f.1.2), f.2)
fields_found (suc (suc (suc zero))) bytes v rest fits e =
    let f = refused_exact.found bytes v rest fits e in (f.0, subst (λ (w : Entry). OfKind 3 w f.0) f.1.1 (refl, f.1.2), f.2)
fields_found (suc (suc (suc (suc zero)))) bytes v rest fits e =
    let f = decided_exact.found bytes v rest fits e in (f.0, subst (λ (w : Entry). OfKind 4 w f.0) f.1.1 (refl, f.1.2), f.2)
fields_found (suc (suc (suc (suc (suc zero))))) bytes v rest fits e =
    let f = forgotten_exact.found bytes v rest fits e in (f.0, subst (λ (w : Entry). OfKind 5 w f.0) f.1.1 (refl, f.1.2), f.2)
fields_found (suc (suc (suc (suc (suc (suc zero)))))) bytes v rest fits e =
    let f = cut_entry_exact.found bytes v rest fits e in (f.0, subst (λ (w : Entry). OfKind 6 w f.0) f.1.1 (refl, f.1.2), f.2)
fields_found (suc (suc (suc (suc (suc (suc (suc zero))))))) bytes v rest fits e =
    let f = floor_exact.found bytes v rest fits e in (f.0, subst (λ (w : Entry). OfKind 7 w f.0) f.1.1 (refl, f.1.2), f.2)
fields_found (suc (suc (suc (suc (suc (suc (suc (suc n)))))))) bytes v rest fits e = absurd cc

fields_again : (e : Entry) (item rest : List ℕ) → IsEntryFields e item → entry_fields (kind_of e) (item ++ rest) ≡ Ok (e, rest)
unfolding entry_fields
fields_again (entry.Single id vote writes) item rest h = single_exact.again (entry.Single id vote writes) item rest ((id, (vote, writes)), refl, h)
fields_again (entry.Prepared id participants vote ranges writes) item rest h =
    prepared_exact.again (entry.Prepared id participants vote ranges writes) item rest ((id, (participants, (vote, (ranges, writes)))), refl, h)
fields_again (entry.Refused id vote) item rest h = refused_exact.again (entry.Refused id vote) item rest ((id, vote), refl, h)
fields_again (entry.Decided id commit) item rest h = decided_exact.again (entry.Decided id commit) item rest ((id, commit), refl, h)
fields_again (entry.Forgotten id) item rest h = forgotten_exact.again (entry.Forgotten id) item rest (id, refl, h)
fields_again (entry.Cut cut) item rest h = cut_entry_exact.again (entry.Cut cut) item rest (cut, refl, h)
fields_again (entry.Floor id vote) item rest h = floor_exact.again (entry.Floor id vote) item rest ((id, vote), refl, h)

pub entries_exact : EntriesAreExact
entries_exact =
    numbered_exact kind_of entry_fields IsEntryFields
    (λ n. record {
      found = fields_found n;
      again = λ e item rest h. ap (λ k. entry_fields k (item ++ rest)) (sym h.0) ∙ fields_again e item rest h.1;
    })

-- ---- what is written

numbers_written : (ns : List ℕ) → AreWords ns → FitsList FitsNumber ns → IsCounted longest IsNumber ns (counted_spelling word ns)
numbers_written ns typed fits =
    counted_written longest (lit< tt) IsNumber word (λ n. n < 2 ^ 32) FitsNumber (λ n t f. (t, refl)) ns typed fits.0 fits.1

ranges_written : (rs : List Range) → AllByRecursion IsTypedRange rs → FitsList FitsRange rs → AreRanges rs (counted_spelling range_spelling rs)
ranges_written rs typed fits =
    counted_written longest (lit< tt) IsRange range_spelling IsTypedRange FitsRange (λ r t f. range_written r t) rs typed fits.0 fits.1

writes_written : (ws : List WriteAt) → AllByRecursion IsTypedWrite ws → FitsList FitsWrite ws → AreWrites ws (counted_spelling write_spelling ws)
writes_written ws typed fits =
    counted_written longest (lit< tt) IsWrite write_spelling IsTypedWrite FitsWrite (λ w t f. write_written w t f) ws typed fits.0 fits.1

pub entries_written : EntriesAreWritten
entries_written (entry.Single id vote writes) typed fits =
    behind (word 1) _ (lit< tt, refl)
    (behind (id_spelling id) _ (id_written id typed.0)
    (behind (vote_spelling vote) (counted_spelling write_spelling writes) (fits.0, vote_written vote typed.1 fits.1) (writes_written writes typed.2 fits.2)))
entries_written (entry.Prepared id participants vote ranges writes) typed fits =
    behind (word 2) _ (lit< tt, refl)
    (behind (id_spelling id) _ (id_written id typed.0)
    (behind (counted_spelling word participants) _ (fits.0, numbers_written participants typed.1 fits.1)
    (behind (vote_spelling vote) _ (fits.2, vote_written vote typed.2 fits.3)
    (behind (counted_spelling range_spelling ranges) (counted_spelling write_spelling writes) (ranges_written ranges typed.3 fits.4) (writes_written writes typed.4 fits.5)))))
entries_written (entry.Refused id vote) typed fits =
    behind (word 3) _ (lit< tt, refl) (behind (id_spelling id) (vote_spelling vote) (id_written id typed.0) (fits.0, vote_written vote typed.1 fits.1))
entries_written (entry.Decided id commit) typed fits = behind (word 4) _ (lit< tt, refl) (behind (id_spelling id) (boolean commit) (id_written id typed) refl)
entries_written (entry.Forgotten id) typed fits = behind (word 5) _ (lit< tt, refl) (id_written id typed)
entries_written (entry.Cut cut) typed fits = behind (word 6) _ (lit< tt, refl) (cut_written cut typed)
entries_written (entry.Floor id vote) typed fits =
    behind (word 7) _ (lit< tt, refl) (behind (id_spelling id) (vote_spelling vote) (id_written id typed.0) (vote_written vote typed.1 fits))
