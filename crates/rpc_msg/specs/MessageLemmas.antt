-- Reading takes the spellings of a message's parts and nothing else, and what is written is one of them.
use Rattle.std.proofs.Common.{◌≡◌, ℕ, ◌^◌, ◌<◌, ◌≤◌, List, [], ◌∷◌, length, lit<, refl, subst, arith}
use Rattle.sfs_base.specs.Reading.{IsExact}
use Rattle.sfs_xdr.specs.Items.{AreWords, word, words}
use Rattle.sfs_xdr.specs.Codec.{number_item, text_item, counted_of, ◌⟫◌, IsNumber, IsText, IsCounted}
use Rattle.sfs_xdr.specs.CodecLemmas.{number_exact, text_exact, both_exact, made_exact, counted_exact, forgetting_exact, same_exact, text_written, counted_written, behind, no_dues}
use Rattle.rpc_msg.specs.declared.cred.Cred.{Cred}
use Rattle.rpc_msg.specs.declared.head.Head.{Head}
use Rattle.rpc_msg.specs.Messages.{head_words, IsHead, head_from, head_of, IsUnixBody, cred_from, unix_of, unix_words}

abbrev parts : Head → ℕ × (ℕ × (ℕ × (ℕ × (ℕ × ℕ))))
parts h = (h.xid, (h.kind, (h.rpc_version, (h.program, (h.version, h.procedure)))))

pub head_exact : IsExact head_of IsHead
unfolding head_of
head_exact =
    made_exact head_from parts _ _ (λ p. refl) (λ h. refl)
    (both_exact number_item _ IsNumber _ number_exact
    (both_exact number_item _ IsNumber _ number_exact
    (both_exact number_item _ IsNumber _ number_exact
    (both_exact number_item _ IsNumber _ number_exact
    (both_exact number_item number_item IsNumber IsNumber number_exact number_exact)))))

pub head_written : (h : Head) → AreWords (head_words h) → Unit {0} → IsHead h (words (head_words h))
head_written h t fits =
    behind (word h.xid) _ (t.0, refl)
    (behind (word h.kind) _ (t.1.0, refl)
    (behind (word h.rpc_version) _ (t.1.1.0, refl)
    (behind (word h.program) _ (t.1.1.1.0, refl) (behind (word h.version) (word h.procedure) (t.1.1.1.1.0, refl) (t.1.1.1.1.1.0, refl)))))

-- the parts of the body of AUTH_UNIX
abbrev Unix : Type 0
Unix = ℕ × (List ℕ × (ℕ × (ℕ × List ℕ)))

abbrev SpellsUnix : Unix → List ℕ → Type 0
SpellsUnix p = IsNumber p.0 ⟫ IsText 255 p.1.0 ⟫ IsNumber p.1.1.0 ⟫ IsNumber p.1.1.1.0 ⟫ IsCounted 16 IsNumber p.1.1.1.1

abbrev OfUnix : Cred → List ℕ → Type 0
OfUnix cred item = (p : Unix) × (cred_from p ≡ cred) × SpellsUnix p item

-- all but the stamp and the name of the machine is the caller
told : (cred : Cred) (item : List ℕ) → OfUnix cred item → IsUnixBody cred item
told cred item h = subst (λ (c : Cred). IsUnixBody c item) h.1 (h.0.0, h.0.1.0, h.2)

asked : (cred : Cred) (item : List ℕ) → IsUnixBody cred item → OfUnix cred item
asked cred item h = ((h.0, (h.1, (cred.uid, (cred.gid, cred.gids)))), refl, h.2)

pub unix_exact : IsExact unix_of IsUnixBody
unfolding unix_of
unix_exact =
    same_exact unix_of OfUnix IsUnixBody told asked
    (forgetting_exact cred_from _ SpellsUnix
    (both_exact number_item _ IsNumber _ number_exact
    (both_exact (text_item 255) _ (IsText 255) _ (text_exact 255 (lit< tt))
    (both_exact number_item _ IsNumber _ number_exact
    (both_exact number_item (counted_of 16 number_item) IsNumber (IsCounted 16 IsNumber) number_exact (counted_exact 16 number_item IsNumber number_exact))))))

pub unix_written : (cred : Cred) → AreWords (cred.uid ∷ cred.gid ∷ cred.gids) → length cred.gids ≤ 16 → IsUnixBody cred (words (unix_words cred))
unix_written cred t few = (
  0,
  [],
  behind (word 0) _ (lit< tt, refl)
      (behind (word 0) _ (text_written 255 [] (omega arith))
      (behind (word cred.uid) _ (t.0, refl)
      (behind (word cred.gid) _ (t.1.0, refl)
      (counted_written 16 (lit< tt) IsNumber word (λ n. n < 2 ^ 32) (λ n. Unit {0}) (λ n typed fits. (typed, refl)) cred.gids t.1.1 few (no_dues cred.gids))))),
)
