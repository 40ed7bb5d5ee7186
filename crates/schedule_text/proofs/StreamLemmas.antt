-- Pieces that are read or written one after another, and counts of faults over several calls.
use Rattle.std.proofs.Common.{◌≡◌, ℕ, ◌≤◌, List, [], ◌++◌, Option, Some, refl, sym, ap, ◌∙◌, append_assoc, arith}
use Rattle.std.proofs.lemmas.List.{append-nil}
use Rattle.sfs_base.specs.Fault.{Rose}
use Rattle.schedule_text.specs.Stream.{Takes, Puts}

-- two pieces that were read one after another are one piece
pub Takes-append : {a b c : Option (List ℕ)} {xs ys : List ℕ} → Takes a b xs → Takes b c ys → Takes a c (xs ++ ys)
Takes-append {xs = xs} {ys = ys} first second = record {
  told = λ bytes is.
      let one = first.told bytes is in
      let two = second.told one.0 one.1 in
      (two.0, two.1, one.2 ∙ ap (λ (r : List ℕ). xs ++ r) two.2 ∙ sym (append_assoc xs ys two.0));
}

-- where nothing was read, what is left is as before
pub Takes-none : {a : Option (List ℕ)} → Takes a a []
Takes-none = record { told = λ bytes is. (bytes, is, refl) }

-- two pieces that were written one after another are one piece
pub Puts-append : {a b c : Option (List ℕ)} {xs ys : List ℕ} → Puts a b xs → Puts b c ys → Puts a c (xs ++ ys)
Puts-append {xs = xs} {ys = ys} first second = record {
  told = λ bytes is. second.told (bytes ++ xs) (first.told bytes is) ∙ ap Some (append_assoc bytes xs ys);
}

-- where nothing was written, what is held is as before
pub Puts-none : {a : Option (List ℕ)} → Puts a a []
Puts-none = record { told = λ bytes is. is ∙ ap Some (sym (append-nil bytes)) }

-- a count that rose has risen, also where it rises on
pub Rose-later : (a b c : ℕ) → Rose a b → b ≤ c → Rose a c
Rose-later a b c rose later = omega arith

-- a count that rose has risen from each earlier count
pub Rose-earlier : (a b c : ℕ) → a ≤ b → Rose b c → Rose a c
Rose-earlier a b c later rose = omega arith

-- the first bytes of what is left were read
pub Takes-front : (before now piece : List ℕ) → before ≡ piece ++ now → Takes (Some before) (Some now) piece
Takes-front before now piece front = record { told = λ bytes is. (now, refl, cc) }
