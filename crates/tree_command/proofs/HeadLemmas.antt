-- Reading the first line byte by byte.
use Rattle.std.proofs.Common.{◌≡◌, ℕ, ◌+◌, ◌≤◌, eqb, false, List, [], ◌∷◌, ◌++◌, length, Option, Some, None, inl, inr, refl, sym, ap, ◌∙◌, arith}
use Rattle.std.proofs.lemmas.List.{append-nil, length-append}
use Rattle.schedule_text.specs.Stream.{Takes, IsAtEnd}
use Rattle.schedule_text.proofs.StreamLemmas.{Takes-append, Takes-none}
use Rattle.tree_command.specs.Input.{IsOneLine}
use Rattle.tree_command.specs.Reading.{ReadsHead}

-- a line with one byte more
line_more : (xs : List ℕ) (b : ℕ) → IsOneLine xs → eqb b 10 ≡ false → IsOneLine (xs ++ b ∷ [])
line_more [] b one is = (is, tt)
line_more (x ∷ xs) b one is = (one.0, line_more xs b one.1 is)

-- so many bytes of the line were read
pub record IsBegun (before now : Option (List ℕ)) (count later : ℕ) (line : List ℕ) (turns : ℕ) : Type 0 where
  pub takes : Takes before now line
  pub unended : IsOneLine line
  pub many : length line ≡ turns
  pub same : later ≡ count

pub none_begun : (left : Option (List ℕ)) (count : ℕ) → IsBegun left left count count [] 0
none_begun left count = record { takes = Takes-none; unended = tt; many = refl; same = refl }

-- one byte more
pub begun_more : (before mid now : Option (List ℕ)) (count middle later : ℕ) (line : List ℕ) (turns b : ℕ) → IsBegun before mid count middle line turns → Takes mid now (b ∷ [])
    → eqb b 10 ≡ false → later ≡ middle → IsBegun before now count later (line ++ b ∷ []) (turns + 1)
begun_more before mid now count middle later line turns b so takes apart same = record {
  takes = Takes-append so.takes takes;
  unended = line_more line b so.unended apart;
  many = omega (arith, length-append line (b ∷ []), so.many);
  same = same ∙ so.same;
}

-- the text ends with it
pub head_last : (before mid now : Option (List ℕ)) (count middle : ℕ) (line : List ℕ) (turns : ℕ) → IsBegun before mid count middle line turns → IsAtEnd mid → Takes mid now [] → ReadsHead before now (Some line)
head_last before mid now count middle line turns so ended none text is =
    let first = so.takes.told text is in
    let second = none.told first.0 first.1 in
    let over : first.0 ≡ [] = ended first.0 first.1 in
    record {
      behind = second.0;
      left = second.1;
      split = (so.unended, inr (first.2 ∙ ap (λ (r : List ℕ). line ++ r) over ∙ append-nil line, sym second.2 ∙ over));
    }

-- its end was read
pub head_whole : (before mid now : Option (List ℕ)) (count middle : ℕ) (line : List ℕ) (turns : ℕ) → IsBegun before mid count middle line turns → Takes mid now (10 ∷ []) → ReadsHead before now (Some line)
head_whole before mid now count middle line turns so takes text is =
    let first = so.takes.told text is in
    let second = takes.told first.0 first.1 in
    record {
      behind = second.0;
      left = second.1;
      split = (so.unended, inl (first.2 ∙ ap (λ (r : List ℕ). line ++ r) second.2));
    }

-- it is too long
pub head_long : (before mid now : Option (List ℕ)) (count middle : ℕ) (line : List ℕ) (turns : ℕ) → IsBegun before mid count middle line turns → 140001 ≤ turns → ReadsHead before now None
head_long before mid now count middle line turns so many text is =
    let first = so.takes.told text is in
    record { front = line; rest = first.0; parts = first.2; unended = so.unended; long = omega (arith, so.many, many) }
