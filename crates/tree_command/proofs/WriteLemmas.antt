-- Writing a listing file by file.
use Rattle.std.proofs.Common.{◌≡◌, ℕ, List, [], ◌∷◌, ◌++◌, ◌+◌, ◌<◌, length, get_or, take, drop, Option, Result, Err, refl, sym, ap, subst, ◌∙◌, append_assoc}
use Rattle.std.specs.Prelude.{OnOk}
use Rattle.std.specs.List.{flat_map}
use Rattle.std.proofs.lemmas.List.{append-nil, take-append-drop, take_more}
use Rattle.std.proofs.lemmas.Grind.{flat_map-append}
use Rattle.fs_listing.specs.Listing.{file_lines}
use Rattle.fs_rules.specs.declared.file.File.{File}
use Rattle.schedule_text.specs.Stream.{Puts}
use Rattle.schedule_text.proofs.StreamLemmas.{Puts-append, Puts-none}
use Rattle.tree_command.specs.Writing.{text_of, WritesFront}

-- some of the rest was written
pub writes_more : (a b c : Option (List ℕ)) (bytes rest after : List ℕ) (n : ℕ) → WritesFront a b bytes rest → Puts b c (take n rest) → after ≡ drop n rest
    → WritesFront a c bytes after
writes_more a b c bytes rest after n front put is = record {
  front = front.front ++ take n rest;
  parts = front.parts ∙ ap (λ (r : List ℕ). front.front ++ r) (sym (take-append-drop n rest)) ∙ sym (append_assoc front.front (take n rest) (drop n rest))
      ∙ ap (λ (r : List ℕ). (front.front ++ take n rest) ++ r) (sym is);
  put = Puts-append front.put put;
}

-- all of it was written
pub wrote_all : (a b : Option (List ℕ)) (bytes rest : List ℕ) → WritesFront a b bytes rest → rest ≡ [] → Puts a b bytes
wrote_all a b bytes rest front none =
    subst (Puts a b) (sym (front.parts ∙ ap (λ (r : List ℕ). front.front ++ r) none ∙ append-nil front.front)) front.put

-- nothing was written, and the call failed
pub nothing_written : {X E : Type 0} (held : Option (List ℕ)) (bytes : List ℕ) (r : Result X E) (e : E) → r ≡ Err e → (rest : List ℕ) × WritesFront held held bytes rest × OnOk r (rest ≡ [])
nothing_written held bytes r e is = (bytes, record { front = []; parts = refl; put = Puts-none }, subst (λ s. OnOk s (bytes ≡ [])) (sym is) tt)

-- a front was written, and the call failed
pub front_written : {X E : Type 0} (before now : Option (List ℕ)) (bytes rest : List ℕ) (r : Result X E) (e : E) → r ≡ Err e → WritesFront before now bytes rest
    → (rest : List ℕ) × WritesFront before now bytes rest × OnOk r (rest ≡ [])
front_written before now bytes rest r e is front = (rest, front, subst (λ s. OnOk s (rest ≡ [])) (sym is) tt)

-- the text of lines and more lines
pub text_append : (xs ys : List (List ℕ)) → text_of (xs ++ ys) ≡ text_of xs ++ text_of ys
unfolding text_of
text_append xs ys = flat_map-append _ xs ys

-- the text of one line more
pub text_more : (ls : List (List ℕ)) (k : ℕ) (d : List ℕ) → k < length ls → text_of (take (k + 1) ls) ≡ text_of (take k ls) ++ (get_or ls k d ++ 10 ∷ [])
unfolding text_of
text_more ls k d below =
    ap text_of (take_more ls k d below) ∙ text_append (take k ls) (get_or ls k d ∷ [])
    ∙ ap (λ (r : List ℕ). text_of (take k ls) ++ r) (append-nil (get_or ls k d ++ 10 ∷ []))

-- the lines of some files
abbrev pub lines_of_files : List (ℕ × File) → List (List ℕ)
lines_of_files files = flat_map (λ file. file_lines file.0 file.1) files

-- all but the lines of some files was written
pub record IsListed (before now : Option (List ℕ)) (count later : ℕ) (bytes : List ℕ) (files : List (ℕ × File)) : Type 0 where
  pub front : WritesFront before now bytes (text_of (lines_of_files files))
  pub same : later ≡ count

pub none_listed : (held : Option (List ℕ)) (count : ℕ) (files : List (ℕ × File)) → IsListed held held count count (text_of (lines_of_files files)) files
none_listed held count files = record { front = record { front = []; parts = refl; put = Puts-none }; same = refl }

-- the front of the lines of one file behind what was written
pub listed_front : (before mid now : Option (List ℕ)) (count middle : ℕ) (bytes rest : List ℕ) (n : ℕ) (f : File) (files : List (ℕ × File)) → IsListed before mid count middle bytes ((n, f) ∷ files)
    → WritesFront mid now (text_of (file_lines n f)) rest → WritesFront before now bytes (rest ++ text_of (lines_of_files files))
listed_front before mid now count middle bytes rest n f files so front = record {
  front = so.front.front ++ front.front;
  parts = so.front.parts
      ∙ ap (λ (r : List ℕ). so.front.front ++ r)
      (text_append (file_lines n f) (lines_of_files files) ∙ ap (λ (r : List ℕ). r ++ text_of (lines_of_files files)) front.parts ∙ append_assoc front.front rest (text_of (lines_of_files files)))
      ∙ sym (append_assoc so.front.front front.front (rest ++ text_of (lines_of_files files)));
  put = Puts-append so.front.put front.put;
}

-- the lines of one file
pub listed_more : (before mid now : Option (List ℕ)) (count middle later : ℕ) (bytes rest : List ℕ) (n : ℕ) (f : File) (files : List (ℕ × File)) → IsListed before mid count middle bytes ((n, f) ∷ files)
    → WritesFront mid now (text_of (file_lines n f)) rest → rest ≡ [] → later ≡ middle → IsListed before now count later bytes files
listed_more before mid now count middle later bytes rest n f files so front none same =
    let more = listed_front before mid now count middle bytes rest n f files so front in
    record {
      front = record { front = more.front; parts = more.parts ∙ ap (λ (r : List ℕ). more.front ++ (r ++ text_of (lines_of_files files))) none; put = more.put };
      same = same ∙ so.same;
    }

-- all of them
pub listed_all : (before now : Option (List ℕ)) (count later : ℕ) (bytes : List ℕ) (files : List (ℕ × File)) → IsListed before now count later bytes files → files ≡ []
    → (rest : List ℕ) × WritesFront before now bytes rest × (rest ≡ [])
unfolding text_of
listed_all before now count later bytes files so none = (text_of (lines_of_files files), so.front, ap (λ (fs : List (ℕ × File)). text_of (lines_of_files fs)) none)
