-- One more step of reading a source or of writing to a sink.
use Rattle.std.proofs.Common.{◌≡◌, ℕ, ◌-◌, ◌≤◌, List, ◌++◌, length, take, drop, Option, sym, ap, subst, ◌∙◌, append_assoc, arith}
use Rattle.std.proofs.lemmas.List.{append-nil, take-append-drop, length-take}
use Rattle.schedule_text.specs.Stream.{Takes, Puts, IsAtEnd}
use Rattle.schedule_text.proofs.StreamLemmas.{Puts-append}
use Rattle.line_stream.specs.Output.{WritesFront}
use Rattle.line_stream.specs.Reading.{Reading}
use Rattle.line_stream.specs.LineReader.{Refilled, TakesAll}

-- some of the rest was written
pub writes_more : (a b c : Option (List ℕ)) (bytes rest after : List ℕ) (n : ℕ) → WritesFront a b bytes rest → Puts b c (take n rest) → after ≡ drop n rest
    → WritesFront a c bytes after
writes_more a b c bytes rest after n front put is = record {
  front = front.front ++ take n rest;
  parts = front.parts ∙ ap (λ (r : List ℕ). front.front ++ r) (sym (take-append-drop n rest)) ∙ sym (append_assoc front.front (take n rest) (drop n rest))
      ∙ ap (λ (r : List ℕ). (front.front ++ take n rest) ++ r) (sym is);
  put = Puts-append front.put put;
}

-- a piece was read
pub refilled : (old : Reading) (before now : Option (List ℕ)) (n : ℕ) (line into items : List ℕ) → line ≡ old.line → n ≤ length into → items ≡ into
    → Takes before now (take n into) → (n ≡ 0 → IsAtEnd before) → Refilled old (record { line = line; pending = take (n - 0) items }) before now n
refilled old before now n line into items same fits is takes ended =
    let front : take (n - 0) items ≡ take n into = ap (λ (k : ℕ). take k items) (omega arith) ∙ ap (take n) is in
    record {
      line = same;
      taken = subst (Takes before now) (sym front) takes;
      count = sym (ap (length {A = ℕ}) front ∙ length_front into n fits);
      ended = ended;
    }
  where
    length_front : (xs : List ℕ) (k : ℕ) → k ≤ length xs → length (take k xs) ≡ k
    length_front xs k fits = omega (arith, length-take k xs)

-- all that was left was read
pub takes_all : (before now : Option (List ℕ)) (taken : List ℕ) → Takes before now taken → IsAtEnd now → TakesAll before taken
takes_all before now taken takes ended bytes is =
    let t = takes.told bytes is in
    t.2 ∙ ap (λ (r : List ℕ). taken ++ r) (ended t.0 t.1) ∙ append-nil taken
