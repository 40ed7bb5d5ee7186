-- Records and the bytes that spell them.
use Rattle.std.proofs.Common.{◌≡◌, ℕ, ◌+◌, ◌/◌, ◌%◌, ◌^◌, List, ◌∷◌, ◌++◌, length, take, drop, Option, Some, None, refl, sym, ap, subst, ◌∙◌, arith}
use Rattle.std.specs.Prelude.{replicate, IfSome}
use Rattle.std.proofs.lemmas.List.{take-append-drop, take_at, drop_at, length-append, length-replicate}
use Rattle.fs_layout.specs.declared.attrs.Attrs.{Attrs}
use Rattle.fs_layout.specs.declared.reference.Reference.{Reference}
use Rattle.fs_layout.specs.declared.superblock.Superblock.{Superblock}
use Rattle.fs_layout.specs.Words.{AreWords, spelled}
use Rattle.fs_layout.specs.References.{reference_words}
use Rattle.fs_layout.specs.Inodes.{IsInode, SpellsInode, inode_words}
use Rattle.fs_layout.specs.Handles.{SpellsHandle, handle_words}
use Rattle.fs_layout.specs.Superblocks.{SpellsSuperblock, superblock_words}
use Rattle.fs_layout.specs.Laws.{InodesHaveOneValue, HandlesHaveOneValue, SuperblocksHaveOneValue}
use Rattle.fs_layout.proofs.WordLemmas.{length-spelled, words_one}

-- ---- references

pub length-reference : (r : Option Reference) → length (reference_words r) ≡ 2
length-reference None = refl
length-reference (Some to) = refl

-- a reference by its fields
reference_by : ℕ → ℕ → Reference
reference_by memory block = record { memory = memory; block = block }

reference_by_fields : (r : Reference) → reference_by r.memory r.block ≡ r
unfolding reference_by
reference_by_fields r = refl

-- references at the front of the same words are the same
pub reference_front : (r s : Option Reference) (t u : List ℕ) → reference_words r ++ t ≡ reference_words s ++ u → (r ≡ s) × (t ≡ u)
reference_front None None t u e = (refl, cc)
reference_front None (Some s) t u e = let no_block : 0 ≡ s.block + 1 = cc in absurd (omega arith)
reference_front (Some r) None t u e = let no_block : r.block + 1 ≡ 0 = cc in absurd (omega arith)
reference_front (Some r) (Some s) t u e =
    let places : r.block + 1 ≡ s.block + 1 = cc in
    let block : r.block ≡ s.block = omega arith in
    let same : reference_by r.memory r.block ≡ reference_by s.memory s.block = cc in
    (ap Some (sym (reference_by_fields r) ∙ same ∙ reference_by_fields s), cc)

-- ---- inodes

pub length-inode : (a : Attrs) → length (spelled (inode_words a)) ≡ 128
unfolding inode_words
length-inode a =
    length-spelled (inode_words a)
    ∙ omega (arith, length-append (reference_words a.first) (a.chains ∷ a.parent ∷ a.names ∷ replicate 11 0), length-reference a.first)

-- an inode by its fields
inode_by : (kind mode links uid gid size generation used change atime_sec atime_usec mtime_sec mtime_usec ctime_sec ctime_usec : ℕ) (first : Option Reference)
    (chains parent names : ℕ) → Attrs
inode_by kind mode links uid gid size generation used change atime_sec atime_usec mtime_sec mtime_usec ctime_sec ctime_usec first chains parent names =
    record { kind = kind; mode = mode; links = links; uid = uid; gid = gid; size = size; generation = generation; used = used; change = change; atime_sec = atime_sec; atime_usec = atime_usec; mtime_sec = mtime_sec; mtime_usec = mtime_usec; ctime_sec = ctime_sec; ctime_usec = ctime_usec; first = first; chains = chains; parent = parent; names = names }

inode_by_fields : (a : Attrs) → inode_by a.kind a.mode a.links a.uid a.gid a.size a.generation a.used a.change a.atime_sec a.atime_usec a.mtime_sec a.mtime_usec a.ctime_sec a.ctime_usec a.first a.chains a.parent a.names ≡ a
unfolding inode_by
inode_by_fields a = refl

inode_words_one : (a b : Attrs) → inode_words a ≡ inode_words b → a ≡ b
unfolding inode_words
inode_words_one a b e =
    let back = reference_front a.first b.first (a.chains ∷ a.parent ∷ a.names ∷ replicate 11 0) (b.chains ∷ b.parent ∷ b.names ∷ replicate 11 0) cc in
    let high : a.change / 2 ^ 32 ≡ b.change / 2 ^ 32 = cc in
    let low : a.change % 2 ^ 32 ≡ b.change % 2 ^ 32 = cc in
    let change : a.change ≡ b.change = omega arith in
    let first : a.first ≡ b.first = back.0 in
    let same : inode_by a.kind a.mode a.links a.uid a.gid a.size a.generation a.used a.change a.atime_sec a.atime_usec a.mtime_sec a.mtime_usec a.ctime_sec a.ctime_usec a.first a.chains a.parent a.names ≡ inode_by b.kind b.mode b.links b.uid b.gid b.size b.generation b.used b.change b.atime_sec b.atime_usec b.mtime_sec b.mtime_usec b.ctime_sec b.ctime_usec b.first b.chains b.parent b.names = cc in
    sym (inode_by_fields a) ∙ same ∙ inode_by_fields b

pub inode_one : InodesHaveOneValue
inode_one a b bytes first second = inode_words_one a b (words_one (inode_words a) (inode_words b) first.words second.words (sym first.bytes_are ∙ second.bytes_are))

-- an answer that is right on the words is right on the bytes
pub inode_only : (bytes words : List ℕ) (answer : Option Attrs) → AreWords words → bytes ≡ spelled words
    → ((a : Attrs) → IsInode a → words ≡ inode_words a → answer ≡ Some a) → (a : Attrs) → SpellsInode a bytes → answer ≡ Some a
inode_only bytes words answer fits are only a h = only a h.fields (words_one words (inode_words a) fits h.words (sym are ∙ h.bytes_are))

-- ---- handles

pub length-handle : (number generation : ℕ) → length (spelled (handle_words number generation)) ≡ 32
unfolding handle_words
length-handle number generation = length-spelled (handle_words number generation)

handle_words_one : (number generation other last : ℕ) → handle_words number generation ≡ handle_words other last → (number ≡ other) × (generation ≡ last)
unfolding handle_words
handle_words_one number generation other last e = (cc, cc)

pub handle_one : HandlesHaveOneValue
handle_one number generation other last bytes first second =
    handle_words_one number generation other last
    (words_one (handle_words number generation) (handle_words other last) first.words second.words (sym first.bytes_are ∙ second.bytes_are))

pub handle_only : (bytes words : List ℕ) (answer : Option (ℕ × ℕ)) → AreWords words → bytes ≡ spelled words
    → ((number generation : ℕ) → words ≡ handle_words number generation → answer ≡ Some (number, generation))
    → (number generation : ℕ) → SpellsHandle number generation bytes → answer ≡ Some (number, generation)
handle_only bytes words answer fits are only number generation h =
    only number generation (words_one words (handle_words number generation) fits h.words (sym are ∙ h.bytes_are))

-- ---- superblocks

length-superblock_words : (s : Superblock) → length (spelled (superblock_words s)) ≡ 24
unfolding superblock_words
length-superblock_words s = length-spelled (superblock_words s)

pub length-superblock : (s : Superblock) (bytes : List ℕ) → SpellsSuperblock s bytes → length bytes ≡ 4096
length-superblock s bytes h =
    omega (arith, ap (length {A = ℕ}) h.bytes_are, length-append (spelled (superblock_words s)) (replicate 4072 0), length-superblock_words s, length-replicate {A = ℕ} 4072 0)

-- the words of a superblock, and the zeros behind them
pub superblock_front : (s : Superblock) (bytes : List ℕ) → SpellsSuperblock s bytes → take 24 bytes ≡ spelled (superblock_words s)
superblock_front s bytes h = ap (take 24) h.bytes_are ∙ take_at (spelled (superblock_words s)) (replicate 4072 0) 24 (length-superblock_words s)

pub superblock_back : (s : Superblock) (bytes : List ℕ) → SpellsSuperblock s bytes → drop 24 bytes ≡ replicate 4072 0
superblock_back s bytes h = ap (drop 24) h.bytes_are ∙ drop_at (spelled (superblock_words s)) (replicate 4072 0) 24 (length-superblock_words s)

-- a superblock by its fields
superblock_by : ℕ → ℕ → ℕ → ℕ → Superblock
superblock_by memory memories blocks inodes = record { memory = memory; memories = memories; blocks = blocks; inodes = inodes }

superblock_by_fields : (s : Superblock) → superblock_by s.memory s.memories s.blocks s.inodes ≡ s
unfolding superblock_by
superblock_by_fields s = refl

pub superblock_words_one : (s t : Superblock) → superblock_words s ≡ superblock_words t → s ≡ t
unfolding superblock_words
superblock_words_one s t e =
    let same : superblock_by s.memory s.memories s.blocks s.inodes ≡ superblock_by t.memory t.memories t.blocks t.inodes = cc in
    sym (superblock_by_fields s) ∙ same ∙ superblock_by_fields t

pub superblock_one : SuperblocksHaveOneValue
superblock_one s t bytes first second =
    superblock_words_one s t
    (words_one (superblock_words s) (superblock_words t) first.words second.words (sym (superblock_front s bytes first) ∙ superblock_front t bytes second))

-- an answer that is right on the words is right on the bytes
pub superblock_only : (bytes words : List ℕ) (answer : Option Superblock) → AreWords words → take 24 bytes ≡ spelled words
    → ((s : Superblock) → words ≡ superblock_words s → answer ≡ Some s) → (s : Superblock) → SpellsSuperblock s bytes → answer ≡ Some s
superblock_only bytes words answer fits are only s h =
    only s (words_one words (superblock_words s) fits h.words (sym are ∙ superblock_front s bytes h))

pub superblock_found : (bytes words zeros : List ℕ) (answer : Option Superblock) → AreWords words → take 24 bytes ≡ spelled words → drop 24 bytes ≡ zeros → length zeros ≡ 4072
    → zeros ≡ replicate (length zeros) 0 → IfSome answer (λ s. words ≡ superblock_words s) → IfSome answer (λ s. SpellsSuperblock s bytes)
superblock_found bytes words zeros None fits front back sized are found = tt
superblock_found bytes words zeros (Some s) fits front back sized are found =
    record {
      words = subst AreWords found fits;
      bytes_are =
          sym (take-append-drop 24 bytes)
          ∙ ap (λ (f : List ℕ). f ++ drop 24 bytes) (front ∙ ap spelled found)
          ∙ ap (λ (b : List ℕ). spelled (superblock_words s) ++ b) (back ∙ are ∙ ap (λ (n : ℕ). replicate n 0) sized);
    }
