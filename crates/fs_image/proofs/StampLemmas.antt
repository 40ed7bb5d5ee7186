-- The stamp lies in the record, and tells what it is made of.
use Rattle.std.proofs.Common.{◌≡◌, ℕ, List, [], ◌∷◌, refl, sym, ap, ◌∙◌, arith}
use Rattle.std.specs.Prelude.{◌++◌, ◌/◌, ◌%◌, ◌^◌, length, replicate, slice_index}
use Rattle.fs_layout.specs.declared.attrs.Attrs.{Attrs}
use Rattle.fs_layout.specs.Inodes.{inode_words}
use Rattle.fs_layout.specs.References.{reference_words}
use Rattle.fs_layout.specs.Words.{AreWords, spelled}
use Rattle.fs_layout.proofs.WordLemmas.{spelled-append, length-spelled, words_one, words_items}
use Rattle.mini_tx.specs.FlatMemory.{bytes_at}
use Rattle.fs_image.specs.Stamps.{stamp_words, stamp, StampIsInRecord, StampsTell}
use Rattle.fs_image.proofs.ByteLemmas.{bytes_past, bytes_within, bytes_whole}

-- the words before the stamp, and those behind it
before : Attrs → List ℕ
before a = a.kind ∷ a.mode ∷ a.links ∷ a.uid ∷ a.gid ∷ a.size ∷ []

behind : Attrs → List ℕ
behind a = a.atime_sec ∷ a.atime_usec ∷ a.mtime_sec ∷ a.mtime_usec ∷ a.ctime_sec ∷ a.ctime_usec ∷ (reference_words a.first ++ (a.chains ∷ a.parent ∷ a.names ∷ replicate 11 0))

in_parts : (a : Attrs) → inode_words a ≡ before a ++ (stamp_words a ++ behind a)
unfolding inode_words before behind
in_parts a = refl

length-before : (a : Attrs) → length (before a) ≡ 6
unfolding before
length-before a = refl

pub stamp_in_record : StampIsInRecord
stamp_in_record a bytes spells =
    let rest : List ℕ = spelled (stamp_words a ++ behind a) in
    let sized : length (spelled (before a)) ≡ 24 = omega (arith, length-spelled (before a), length-before a) in
    let stamped : length (stamp a) ≡ 16 = omega (arith, length-spelled (stamp_words a)) in
    let parts : bytes ≡ spelled (before a) ++ rest = spells.bytes_are ∙ ap spelled (in_parts a) ∙ spelled-append (before a) (stamp_words a ++ behind a) in
    ap (λ b. bytes_at b 24 16) parts ∙ bytes_past (spelled (before a)) rest 24 0 16 (omega (arith, sized))
    ∙ ap (λ b. bytes_at b 0 16) (spelled-append (stamp_words a) (behind a)) ∙ bytes_within (stamp a) (spelled (behind a)) 0 16 (omega (arith, stamped))
    ∙ bytes_whole (stamp a) 16 (sym stamped)

are_words : (a : Attrs) → AreWords (inode_words a) → AreWords (stamp_words a)
unfolding inode_words
are_words a words = (words_items (stamp_words a)).2 (words 6, (words 7, (words 8, (words 9, tt))))

pub stamps_tell : StampsTell
stamps_tell a b bytes others sa sb same =
    let words : stamp_words a ≡ stamp_words b = words_one (stamp_words a) (stamp_words b) (are_words a sa.words) (are_words b sb.words) same in
    let high : a.change / 2 ^ 32 ≡ b.change / 2 ^ 32 = ap (λ ws. slice_index ws 2) words in
    let low : a.change % 2 ^ 32 ≡ b.change % 2 ^ 32 = ap (λ ws. slice_index ws 3) words in
    (ap (λ ws. slice_index ws 0) words, ap (λ ws. slice_index ws 1) words, omega (arith, high, low))
