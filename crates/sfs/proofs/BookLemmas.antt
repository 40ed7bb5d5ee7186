-- Lines of a transcript that come one after another, and what the book of all of them is.
use Rattle.std.proofs.Common.{◌≡◌, ℕ, ◌+◌, ◌<◌, List, [], ◌∷◌, ◌++◌, length, take, get_or, refl, ap, ◌∙◌}
use Rattle.std.proofs.lemmas.Grind.{flat_map-append}
use Rattle.std.proofs.lemmas.List.{append-nil, take_more}
use Rattle.line_text.specs.declared.line.Line.{Line}
use Rattle.line_text.specs.Grammar.{spelling_of_line}
use Rattle.sfs.specs.Schedule.{Schedule}
use Rattle.sfs.specs.Book.{Book, noted, book_after}
use Rattle.sfs.specs.Legal.{IsLegalFrom, text_of}

-- the book after lines and more lines
pub book_after-append : (schedule : Schedule) (book : Book) (ls more : List Line) → book_after schedule book (ls ++ more) ≡ book_after schedule (book_after schedule book ls) more
unfolding book_after
book_after-append schedule book [] more = refl
book_after-append schedule book (l ∷ ls) more = book_after-append schedule (noted schedule book l) ls more

-- lines that are legal, and more that are legal after them
pub legal-append : (schedule : Schedule) (book : Book) (ls more : List Line) → IsLegalFrom schedule book ls → IsLegalFrom schedule (book_after schedule book ls) more
    → IsLegalFrom schedule book (ls ++ more)
unfolding book_after IsLegalFrom
legal-append schedule book [] more first second = second
legal-append schedule book (l ∷ ls) more first second = (first.0, legal-append schedule (noted schedule book l) ls more first.1 second)

-- the text of lines and more lines
pub text-append : (ls more : List Line) → text_of (ls ++ more) ≡ text_of ls ++ text_of more
unfolding text_of
text-append ls more = flat_map-append _ ls more

-- the text of one line more
pub text-more : (ls : List Line) (k : ℕ) (d : Line) → k < length ls → text_of (take (k + 1) ls) ≡ text_of (take k ls) ++ (spelling_of_line (get_or ls k d) ++ 10 ∷ [])
unfolding text_of
text-more ls k d below =
    ap text_of (take_more ls k d below) ∙ text-append (take k ls) (get_or ls k d ∷ [])
    ∙ ap (λ (r : List ℕ). text_of (take k ls) ++ r) (append-nil (spelling_of_line (get_or ls k d) ++ 10 ∷ []))
