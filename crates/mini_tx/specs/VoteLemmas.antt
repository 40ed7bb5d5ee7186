-- Reading takes the spellings of a vote and nothing else, and what is written is one of them.
use Rattle.std.proofs.Common.{◌≡◌, ℕ, zero, suc, List, ◌++◌, Ok, lit<, refl, sym, ap, subst, ◌∙◌}
use Rattle.sfs_base.specs.Reading.{IsBytes, IsExact}
use Rattle.sfs_xdr.specs.Items.{word, opaque_var}
use Rattle.sfs_xdr.specs.Codec.{number_item, counted_of, ◌⟫◌, IsNumber, IsCounted}
use Rattle.sfs_xdr.specs.CodecLemmas.{number_exact, counted_exact, counted_written, both_exact, forgetting_exact, behind, no_dues}
use Rattle.mini_tx.specs.declared.vote.Vote.{Vote}
use Rattle.mini_tx.specs.declared.vote.Vote.TheVariants as vote
use Rattle.mini_tx.specs.EntryGrammar.{longest, IsFilled, IsId, IsCut, vote_number, IsVoteFields, IsVote, vote_spelling, FitsBytes, FitsVote}
use Rattle.mini_tx.specs.EntryReading.{filled_of, id_item, cut_item, granted_of, mismatch_of, locked_of, forced_of, held_of, vote_fields, vote_item}
use Rattle.mini_tx.specs.EntryLemmas.{filled_exact, filled_written, id_exact, id_written, cut_exact, cut_written, numbered_exact}
use Rattle.mini_tx.specs.Laws.{IsTypedVote}

-- the vote is made of these parts, which are spelled so
abbrev Made : {X : Type 0} → (X → Vote) → (X → List ℕ → Type 0) → Vote → List ℕ → Type 0
Made {X} make Spells v item = (x : X) × (make x ≡ v) × Spells x item

bytes_exact : IsExact (filled_of longest) (IsFilled longest)
bytes_exact = filled_exact longest (lit< tt)

granted_exact : IsExact granted_of (Made vote.Granted (IsCounted longest (IsFilled longest)))
unfolding granted_of
granted_exact = forgetting_exact vote.Granted (counted_of longest (filled_of longest)) (IsCounted longest (IsFilled longest)) (counted_exact longest (filled_of longest) (IsFilled longest) bytes_exact)

mismatch_exact : IsExact mismatch_of (Made (λ (p : ℕ × List ℕ). vote.Mismatch p.0 p.1) (λ (p : ℕ × List ℕ). IsNumber p.0 ⟫ IsFilled longest p.1))
unfolding mismatch_of
mismatch_exact =
    forgetting_exact (λ (p : ℕ × List ℕ). vote.Mismatch p.0 p.1) _ (λ (p : ℕ × List ℕ). IsNumber p.0 ⟫ IsFilled longest p.1)
    (both_exact number_item (filled_of longest) IsNumber (IsFilled longest) number_exact bytes_exact)

locked_exact : IsExact locked_of (Made vote.Locked IsId)
unfolding locked_of
locked_exact = forgetting_exact vote.Locked id_item IsId id_exact

forced_exact : IsExact forced_of (Made vote.Forced IsId)
unfolding forced_of
forced_exact = forgetting_exact vote.Forced id_item IsId id_exact

held_exact : IsExact held_of (Made vote.Held IsCut)
unfolding held_of
held_exact = forgetting_exact vote.Held cut_item IsCut cut_exact

-- a vote of this number, with its fields
abbrev Numbered : ℕ → Vote → List ℕ → Type 0
Numbered n v item = (vote_number v ≡ n) × IsVoteFields v item

fields_found : (n : ℕ) (bytes : List ℕ) (v : Vote) (rest : List ℕ) → IsBytes bytes → vote_fields n bytes ≡ Ok (v, rest)
    → (item : List ℕ) × Numbered n v item × (bytes ≡ item ++ rest)
unfolding vote_fields
fields_found zero bytes v rest fits e =
    let f = granted_exact.found bytes v rest fits e in (f.0, subst (λ (w : Vote). Numbered 0 w f.0) f.1.1 (refl, f.1.2), f.2)
fields_found (suc zero) bytes v rest fits e =
    let f = mismatch_exact.found bytes v rest fits e in (f.0, subst (λ (w : Vote). Numbered 1 w f.0) f.1.1 (refl, f.1.2), f.2)
fields_found (suc (suc zero)) bytes v rest fits e =
    let f = locked_exact.found bytes v rest fits e in (f.0, subst (λ (w : Vote). Numbered 2 w f.0) f.1.1 (refl, f.1.2), f.2)
fields_found (suc (suc (suc zero))) bytes v rest fits e =
    let f = forced_exact.found bytes v rest fits e in (f.0, subst (λ (w : Vote). Numbered 3 w f.0) f.1.1 (refl, f.1.2), f.2)
fields_found (suc (suc (suc (suc zero)))) bytes v rest fits e =
    let f = held_exact.found bytes v rest fits e in (f.0, subst (λ (w : Vote). Numbered 4 w f.0) f.1.1 (refl, f.1.2), f.2)
fields_found (suc (suc (suc (suc (suc n))))) bytes v rest fits e = absurd cc

fields_again : (v : Vote) (item rest : List ℕ) → IsVoteFields v item → vote_fields (vote_number v) (item ++ rest) ≡ Ok (v, rest)
unfolding vote_fields
fields_again (vote.Granted reads) item rest h = granted_exact.again (vote.Granted reads) item rest (reads, refl, h)
fields_again (vote.Mismatch place kept) item rest h = mismatch_exact.again (vote.Mismatch place kept) item rest ((place, kept), refl, h)
fields_again (vote.Locked holder) item rest h = locked_exact.again (vote.Locked holder) item rest (holder, refl, h)
fields_again (vote.Forced floor) item rest h = forced_exact.again (vote.Forced floor) item rest (floor, refl, h)
fields_again (vote.Held cut) item rest h = held_exact.again (vote.Held cut) item rest (cut, refl, h)

pub vote_exact : IsExact vote_item IsVote
vote_exact =
    numbered_exact vote_number vote_fields IsVoteFields
    (λ n. record {
      found = fields_found n;
      again = λ v item rest h. ap (λ k. vote_fields k (item ++ rest)) (sym h.0) ∙ fields_again v item rest h.1;
    })

pub vote_written : (v : Vote) → IsTypedVote v → FitsVote v → IsVote v (vote_spelling v)
vote_written (vote.Granted reads) typed fits =
    behind (word 0) _ (lit< tt, refl)
    (counted_written longest (lit< tt) (IsFilled longest) opaque_var (λ b. Unit {0}) FitsBytes (λ b t f. filled_written longest b f) reads (no_dues reads) fits.0 fits.1)
vote_written (vote.Mismatch place kept) typed fits = behind (word 1) _ (lit< tt, refl) (behind (word place) (opaque_var kept) (typed, refl) (fits, refl))
vote_written (vote.Locked holder) typed fits = behind (word 2) _ (lit< tt, refl) (id_written holder typed)
vote_written (vote.Forced floor) typed fits = behind (word 3) _ (lit< tt, refl) (id_written floor typed)
vote_written (vote.Held cut) typed fits = behind (word 4) _ (lit< tt, refl) (cut_written cut typed)
