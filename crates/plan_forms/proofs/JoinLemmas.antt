-- Pieces that are joined one after another.
use Rattle.std.proofs.Common.{◌≡◌, ℕ, suc, ◌+◌, ◌<◌, List, [], ◌∷◌, ◌++◌, length, get_or, drop, refl, sym, ap, ◌∙◌, add-one, append_assoc, drop-cons}
use Rattle.std.proofs.lemmas.List.{append-nil}
use Rattle.plan_forms.specs.declared.form.Piece.{Piece}
use Rattle.plan_forms.specs.Forms.{joined_from, piece_bytes, reads_of}

module _ (reads : List (List ℕ)) (whole bytes : List ℕ) (at : ℕ) (pieces : List Piece) (i : ℕ) (is : whole ≡ bytes ++ joined_from reads at (drop i pieces)) where
  first_joined : (p : Piece) → joined_from reads at (p ∷ drop (suc i) pieces) ≡ piece_bytes reads at p ++ joined_from reads (at + reads_of p) (drop (suc i) pieces)
  unfolding joined_from
  first_joined p = refl

  -- one piece more
  pub piece_joined : (d : Piece) (new : List ℕ) → i < length pieces → new ≡ bytes ++ piece_bytes reads at (get_or pieces i d)
      → whole ≡ new ++ joined_from reads (at + reads_of (get_or pieces i d)) (drop (i + 1) pieces)
  piece_joined d new within more =
      let p = get_or pieces i d in
      let here : drop i pieces ≡ p ∷ drop (suc i) pieces = drop-cons pieces i d within in
      let next : drop (suc i) pieces ≡ drop (i + 1) pieces = ap (λ k. drop k pieces) (sym (add-one i)) in
      is ∙ ap (λ ps. bytes ++ joined_from reads at ps) here ∙ ap (λ xs. bytes ++ xs) (first_joined p)
      ∙ sym (append_assoc bytes (piece_bytes reads at p) (joined_from reads (at + reads_of p) (drop (suc i) pieces)))
      ∙ ap (λ xs. xs ++ joined_from reads (at + reads_of p) (drop (suc i) pieces)) (sym more)
      ∙ ap (λ ps. new ++ joined_from reads (at + reads_of p) ps) next

  -- and no more
  pub all_joined : drop i pieces ≡ [] → bytes ≡ whole
  unfolding joined_from
  all_joined none = sym (is ∙ ap (λ ps. bytes ++ joined_from reads at ps) none ∙ append-nil bytes)
