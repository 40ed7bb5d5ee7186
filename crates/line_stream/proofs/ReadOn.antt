-- Reading on turn by turn, until a line ends.
use Rattle.std.proofs.Common.{◌≡◌, ℕ, ◌+◌, ◌≤◌, min, List, [], ◌++◌, length, Option, Result, Ok, Err, refl, sym, ap, subst, ◌∙◌, append_assoc, arith}
use Rattle.std.proofs.lemmas.List.{append-nil, length-append}
use Rattle.schedule_text.specs.Stream.{Takes, IsAtEnd}
use Rattle.schedule_text.proofs.StreamLemmas.{Takes-append, Takes-none}
use Rattle.line_stream.specs.declared.stop.Stop.{Stop}
use Rattle.line_stream.specs.declared.stop.Stop.TheVariants.{ReadFault, WriteFault, NoMemory}
use Rattle.line_stream.specs.declared.found.Found.{Found}
use Rattle.line_stream.specs.declared.found.Found.TheVariants as found
use Rattle.line_stream.specs.Lines.{IsOneLine}
use Rattle.line_stream.specs.Reading.{Reading}
use Rattle.line_stream.specs.LineReader.{Finds, GoesOn, TakesAll}
use Rattle.line_stream.proofs.StreamSteps.{takes_all}

-- where reading on stands after some turns
pub record SoFar (before now : Option (List ℕ)) (count later : ℕ) (old new : Reading) (turns : ℕ) : Type 0 where
  pub taken : List ℕ
  pub takes : Takes before now taken
  pub bytes : old.pending ++ taken ≡ new.line ++ new.pending
  pub unended : IsOneLine new.line
  pub fits : length new.line ≤ 140000
  pub grows : turns ≤ length new.line + 1
  pub more : min turns 1 ≤ length new.pending
  pub same : later ≡ count

-- before the first turn
pub no_turn : (left : Option (List ℕ)) (count : ℕ) (old : Reading) → SoFar left left count count old (record { line = []; pending = old.pending }) 0
no_turn left count old = record {
  taken = [];
  takes = Takes-none;
  bytes = append-nil old.pending;
  unended = tt;
  fits = omega arith;
  grows = omega arith;
  more = omega arith;
  same = refl;
}

-- a turn that found no end
pub one_turn : (before mid now : Option (List ℕ)) (count middle later : ℕ) (old between new : Reading) (turns : ℕ) (taken : List ℕ)
    → SoFar before mid count middle old between turns → Takes mid now taken → GoesOn between new taken → later ≡ middle
    → SoFar before now count later old new (turns + 1)
one_turn before mid now count middle later old between new turns taken so takes goes same = record {
  taken = so.taken ++ taken;
  takes = Takes-append so.takes takes;
  bytes = sym (append_assoc old.pending so.taken taken) ∙ ap (λ (b : List ℕ). b ++ taken) (so.bytes ∙ sym goes.line) ∙ ap (λ (p : List ℕ). new.line ++ p) (sym goes.pending);
  unended = goes.unended;
  fits = goes.fits;
  grows = omega (arith, so.grows, so.more, ap (length {A = ℕ}) goes.line, length-append between.line between.pending);
  more = omega (arith, goes.some, ap (length {A = ℕ}) goes.pending);
  same = same ∙ so.same;
}

-- the bytes of a turn that took none are those of all turns
all_bytes : (old between : Reading) (so_far taken : List ℕ) → old.pending ++ so_far ≡ between.line ++ between.pending → taken ≡ []
    → between.line ++ between.pending ≡ old.pending ++ (so_far ++ taken)
all_bytes old between so_far taken bytes none = sym bytes ∙ ap (λ (t : List ℕ). old.pending ++ t) (sym (append-nil so_far) ∙ ap (λ (t : List ℕ). so_far ++ t) (sym none))

-- what is found at the end of all that was taken
weaker_end : (bytes : List ℕ) (new : Reading) (P Q : Type 0) (r : Result Found Stop) → (P → Q) → Finds bytes new P r → Finds bytes new Q r
weaker_end bytes new P Q (Ok found.Line) h f = f
weaker_end bytes new P Q (Ok found.Last) h f = (f.0, f.1, h f.2)
weaker_end bytes new P Q (Ok found.End) h f = (f.0, h f.1)
weaker_end bytes new P Q (Ok found.TooLong) h f = f
weaker_end bytes new P Q (Err ReadFault) h f = f
weaker_end bytes new P Q (Err NoMemory) h f = f
weaker_end bytes new P Q (Err WriteFault) h f = f

-- a turn that ended it
pub last_turn : (before mid now : Option (List ℕ)) (count middle : ℕ) (old between new : Reading) (turns : ℕ) (taken : List ℕ) (r : Result Found Stop)
    → SoFar before mid count middle old between turns → Takes mid now taken → taken ≡ [] → Finds (between.line ++ between.pending) new (IsAtEnd mid) r
    → (all : List ℕ) × Takes before now all × Finds (old.pending ++ all) new (TakesAll before all) r
last_turn before mid now count middle old between new turns taken r so takes none finds =
    let all = so.taken ++ taken in
    let whole : all ≡ so.taken = ap (λ (t : List ℕ). so.taken ++ t) none ∙ append-nil so.taken in (
      all,
      Takes-append so.takes takes,
      weaker_end (old.pending ++ all) new (IsAtEnd mid) (TakesAll before all) r
          (λ ended. subst (TakesAll before) (sym whole) (takes_all before mid so.taken so.takes ended))
          (subst (λ (b : List ℕ). Finds b new (IsAtEnd mid) r) (all_bytes old between so.taken taken so.bytes none) finds),
    )

-- there are no more turns than a line has bytes
pub turns_end : (before now : Option (List ℕ)) (count later : ℕ) (old new : Reading) (turns : ℕ) → SoFar before now count later old new turns → 140002 ≤ turns → ⊥
turns_end before now count later old new turns so many = omega (arith, so.fits, so.grows)
