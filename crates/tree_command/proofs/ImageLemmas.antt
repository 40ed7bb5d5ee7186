-- Reading the images one after another.
use Rattle.std.proofs.Common.{◌≡◌, ℕ, suc, ◌+◌, ◌-◌, ◌*◌, ◌<◌, ◌≤◌, List, [], ◌∷◌, ◌++◌, length, take, drop, Option, Some, None, Ok, refl, sym, ap, subst, ◌∙◌, append_assoc, zero-mul, arith}
use Rattle.std.specs.List.{AllByRecursion}
use Rattle.std.proofs.Math.Nat.{suc-mul}
use Rattle.std.proofs.lemmas.Nat.{mul-le}
use Rattle.std.proofs.lemmas.List.{append-nil, drop_all, length-append, length-drop, length-take, take_all}
use borrow.Rule.Slice.PartMut.{post_of}
use Rattle.fs_image.specs.Places.{layout_of}
use Rattle.fs_layout.specs.Places.{image_size}
use Rattle.fs_rules.specs.declared.geometry.Geometry.{Geometry}
use Rattle.schedule_text.specs.Stream.{Takes, IsAtEnd}
use Rattle.schedule_text.proofs.StreamLemmas.{Takes-append, Takes-none}
use Rattle.tree_command.specs.declared.answer.Answer.{Answer}
use Rattle.tree_command.specs.Input.{AreParts, AreShown, ShowsAnswer, all_sizes, joined}
use Rattle.tree_command.specs.Reading.{OfText, ReadsByte, ReadsImage, ReadsParts}

-- ---- one image

-- so many of its bytes were read
pub record IsFilled (before now : Option (List ℕ)) (count later : ℕ) (old new : List ℕ) (at : ℕ) : Type 0 where
  pub sized : length new ≡ length old
  pub within : at ≤ length new
  pub takes : Takes before now (take at new)
  pub same : later ≡ count

pub none_filled : (left : Option (List ℕ)) (count : ℕ) (old : List ℕ) → IsFilled left left count count old old 0
none_filled left count old = record { sized = refl; within = omega arith; takes = Takes-none; same = refl }

-- the front of two lists, with some of the second
take_both : (xs ys : List ℕ) (n : ℕ) → take (length xs + n) (xs ++ ys) ≡ xs ++ take n ys
take_both [] ys n =
    let same : 0 + n ≡ n = omega arith in
    ap (λ (k : ℕ). take k ys) same
take_both (x ∷ xs) ys n =
    let same : suc (length xs) + n ≡ suc (length xs + n) = omega arith in
    ap (λ (k : ℕ). take k (x ∷ (xs ++ ys))) same ∙ ap (λ (r : List ℕ). x ∷ r) (take_both xs ys n)

length_front : (xs : List ℕ) (k : ℕ) → k ≤ length xs → length (take k xs) ≡ k
length_front xs k fits = omega (arith, length-take k xs)

-- what a read into the rest of a list leaves there
pub written_back : (items d into : List ℕ) (at len : ℕ) → d ≡ items → len ≡ length items → at ≤ length items → length into + at ≡ length items
    → take len (((take at d) ++ (into ++ post_of at (length d - at) d)) ++ drop (length ((take at d) ++ (into ++ post_of at (length d - at) d))) items) ≡ take at items ++ into
written_back items d into at len same sized fits sum =
    let alike : length d ≡ length items = ap (length {A = ℕ}) same in
    let none : post_of at (length d - at) d ≡ [] = drop_all (length d - at) (drop at d) (omega (arith, length-drop at d)) in
    let whole : (take at d) ++ (into ++ post_of at (length d - at) d) ≡ take at items ++ into =
    (λ i. (take at (same i)) ++ (into ++ none i)) ∙ ap (λ (r : List ℕ). take at items ++ r) (append-nil into) in
    let front = length_front items at fits in
    let size : length (take at items ++ into) ≡ length items = omega (arith, length-append (take at items) into, front, sum) in
    ap (λ (p : List ℕ). take len (p ++ drop (length p) items)) whole
    ∙ ap (λ (r : List ℕ). take len ((take at items ++ into) ++ r)) (drop_all (length (take at items ++ into)) items (omega (arith, size)))
    ∙ ap (take len) (append-nil (take at items ++ into))
    ∙ take_all len (take at items ++ into) (omega (arith, size, sized))

-- some bytes more
pub filled_more : (before mid now : Option (List ℕ)) (count middle later : ℕ) (old between into new : List ℕ) (at n : ℕ) → IsFilled before mid count middle old between at
    → Takes mid now (take n into) → n ≤ length into → length into + at ≡ length between → new ≡ take at between ++ into → later ≡ middle
    → IsFilled before now count later old new (at + n)
filled_more before mid now count middle later old between into new at n so takes few rest is same =
    let front = length_front between at so.within in
    let whole : length new ≡ length between = omega (arith, ap (length {A = ℕ}) is, length-append (take at between) into, front, rest) in
    let taken : take (at + n) new ≡ take at between ++ take n into =
    ap (take (at + n)) is ∙ ap (λ (k : ℕ). take (k + n) (take at between ++ into)) (sym front) ∙ take_both (take at between) into n in
    record {
      sized = whole ∙ so.sized;
      within = omega (arith, whole, few, rest);
      takes = subst (Takes before now) (sym taken) (Takes-append so.takes takes);
      same = same ∙ so.same;
    }

-- all of them
pub filled_all : (before now : Option (List ℕ)) (count later : ℕ) (old new : List ℕ) (at : ℕ) → IsFilled before now count later old new at → length new ≤ at
    → (length new ≡ length old) × Takes before now new
filled_all before now count later old new at so all = (so.sized, subst (Takes before now) (take_all at new all) so.takes)

-- the input ends before
pub filled_short : (before mid : Option (List ℕ)) (count later : ℕ) (old new : List ℕ) (at : ℕ) → IsFilled before mid count later old new at → at < length new → IsAtEnd mid
    → OfText before (λ text. length text < length old)
filled_short before mid count later old new at so more ended text is =
    let t = so.takes.told text is in
    let over : t.0 ≡ [] = ended t.0 t.1 in
    let all : text ≡ take at new = t.2 ∙ ap (λ (r : List ℕ). take at new ++ r) over ∙ append-nil (take at new) in
    omega (arith, ap (length {A = ℕ}) all, length_front new at so.within, more, so.sized)

-- ---- all images

abbrev AreSized : ℕ → List (List ℕ) → Type 0
AreSized size parts = AllByRecursion (λ part. length part ≡ size) parts

sized_more : (size : ℕ) (parts : List (List ℕ)) (p : List ℕ) → AreSized size parts → length p ≡ size → AreSized size (parts ++ p ∷ [])
sized_more size [] p are is = (is, tt)
sized_more size (q ∷ parts) p are is = (are.0, sized_more size parts p are.1 is)

joined_more : (parts : List (List ℕ)) (p : List ℕ) → joined (parts ++ p ∷ []) ≡ joined parts ++ p
unfolding joined
joined_more [] p = append-nil p
joined_more (q ∷ parts) p = ap (λ (r : List ℕ). q ++ r) (joined_more parts p) ∙ sym (append_assoc q (joined parts) p)

joined_length : (size : ℕ) (parts : List (List ℕ)) → AreSized size parts → length (joined parts) ≡ length parts * size
unfolding joined
joined_length size [] are = omega (arith, zero-mul size)
joined_length size (q ∷ parts) are = omega (arith, joined_length size parts are.1, suc-mul (length parts) size, length-append q (joined parts), are.0)

-- what was read, where it is known to be there or not
pub image_none : (before now : Option (List ℕ)) (size : ℕ) (o : Option (List ℕ)) → ((x : List ℕ) → o ≡ Some x → ⊥) → ReadsImage before now size o
    → OfText before (λ text. length text < size)
image_none before now size None not read = read
image_none before now size (Some x) not read = absurd (not x refl)

pub image_some : (before now : Option (List ℕ)) (size : ℕ) (o : Option (List ℕ)) (x : List ℕ) → o ≡ Some x → ReadsImage before now size o → (length x ≡ size) × Takes before now x
image_some before now size o x is read = subst (ReadsImage before now size) is read

pub parts_some : (before now : Option (List ℕ)) (g : Geometry) (o : Option (List (List ℕ))) (ps : List (List ℕ)) → o ≡ Some ps → ReadsParts before now g o
    → AreParts g ps × Takes before now (joined ps)
parts_some before now g o ps is read = subst (ReadsParts before now g) is read

pub byte_some : (before now : Option (List ℕ)) (o : Option ℕ) (b : ℕ) → o ≡ Some b → ReadsByte before now (Ok o) → Takes before now (b ∷ [])
byte_some before now o b is read = subst (λ (p : Option ℕ). ReadsByte before now (Ok p)) is read

-- less than one more of the same, at a place below the last
mul_below : (n m s r : ℕ) → n < m → r < s → n * s + r < m * s
mul_below n m s r few small =
    omega (arith, small, suc-mul n s, mul-le (suc n) s m s (omega (arith, few)) (omega arith))

-- so many images were read
pub record AreBegun (g : Geometry) (before now : Option (List ℕ)) (count later : ℕ) (parts : List (List ℕ)) (turns : ℕ) : Type 0 where
  pub many : length parts ≡ turns
  pub sized : AllByRecursion (λ part. length part ≡ image_size (layout_of g)) parts
  pub takes : Takes before now (joined parts)
  pub same : later ≡ count

pub none_read : (g : Geometry) (left : Option (List ℕ)) (count : ℕ) → AreBegun g left left count count [] 0
unfolding joined
none_read g left count = record { many = refl; sized = tt; takes = Takes-none; same = refl }

-- one image more
pub parts_more : (g : Geometry) (before mid now : Option (List ℕ)) (count middle later : ℕ) (parts : List (List ℕ)) (p : List ℕ) (turns : ℕ) → AreBegun g before mid count middle parts turns
    → (length p ≡ image_size (layout_of g)) × Takes mid now p → later ≡ middle → AreBegun g before now count later (parts ++ p ∷ []) (turns + 1)
parts_more g before mid now count middle later parts p turns so image same = record {
  many = omega (arith, length-append parts (p ∷ []), so.many);
  sized = sized_more (image_size (layout_of g)) parts p so.sized image.0;
  takes = subst (Takes before now) (sym (joined_more parts p)) (Takes-append so.takes image.1);
  same = same ∙ so.same;
}

-- the input ends in one
pub parts_short : (g : Geometry) (before mid now : Option (List ℕ)) (count middle : ℕ) (parts : List (List ℕ)) (turns : ℕ) → AreBegun g before mid count middle parts turns → turns < g.memories
    → OfText mid (λ text. length text < image_size (layout_of g)) → ReadsParts before now g None
parts_short g before mid now count middle parts turns so few short text is =
    let t = so.takes.told text is in
    let all = mul_below turns g.memories (image_size (layout_of g)) (length t.0) few (short t.0 t.1) in
    let front : length (joined parts) ≡ turns * image_size (layout_of g) = joined_length (image_size (layout_of g)) parts so.sized ∙ ap (λ (k : ℕ). k * image_size (layout_of g)) so.many in
    let whole : length text ≡ turns * image_size (layout_of g) + length t.0 =
    ap (length {A = ℕ}) t.2 ∙ length-append (joined parts) t.0 ∙ ap (λ (k : ℕ). k + length t.0) front in
    subst (λ (k : ℕ). k < all_sizes g) (sym whole) all

-- all were read
pub parts_whole : (g : Geometry) (before now : Option (List ℕ)) (count middle : ℕ) (parts : List (List ℕ)) (turns : ℕ) → AreBegun g before now count middle parts turns → turns ≡ g.memories
    → ReadsParts before now g (Some parts)
parts_whole g before now count middle parts turns so all = (record { memories = so.many ∙ all; sized = so.sized }, so.takes)

-- ---- what is behind them

pub shown_whole : (g : Geometry) (before mid : Option (List ℕ)) (parts : List (List ℕ)) (a : Answer) → AreParts g parts × Takes before mid (joined parts) → IsAtEnd mid → ShowsAnswer g parts a
    → OfText before (λ behind. AreShown g behind a)
shown_whole g before mid parts a read ended shows text is =
    let t = read.1.told text is in
    record {
      parts = parts;
      are = read.0;
      whole = t.2 ∙ ap (λ (r : List ℕ). joined parts ++ r) (ended t.0 t.1) ∙ append-nil (joined parts);
      shows = shows;
    }

pub trailing : (g : Geometry) (before mid now : Option (List ℕ)) (parts : List (List ℕ)) (b : ℕ) → AreParts g parts × Takes before mid (joined parts) → Takes mid now (b ∷ [])
    → OfText before (λ behind. all_sizes g < length behind)
trailing g before mid now parts b read more text is =
    let t = read.1.told text is in
    let u = more.told t.0 t.1 in
    let front : length (joined parts) ≡ all_sizes g = joined_length (image_size (layout_of g)) parts read.0.sized ∙ ap (λ (k : ℕ). k * image_size (layout_of g)) read.0.memories in
    let whole : length text ≡ all_sizes g + length t.0 = ap (length {A = ℕ}) t.2 ∙ length-append (joined parts) t.0 ∙ ap (λ (k : ℕ). k + length t.0) front in
    more_than (all_sizes g) (length text) (length t.0) whole (length_more t.0 b u.0 u.2)
  where
    length_more : (xs : List ℕ) (b : ℕ) (ys : List ℕ) → xs ≡ b ∷ ys → 0 < length xs
    length_more xs b ys is = subst (λ (l : List ℕ). 0 < length l) (sym is) (omega arith)

    more_than : (n k r : ℕ) → k ≡ n + r → 0 < r → n < k
    more_than n k r is some = omega (arith, is, some)
