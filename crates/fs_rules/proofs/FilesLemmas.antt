-- A count of what all files use, modulo 2^64, where one file comes and another goes.
use Rattle.std.proofs.Common.{◌≡◌, ℕ, ◌+◌, ◌-◌, ◌^◌, ◌%◌, ◌<◌, true, sym, ap, ◌∙◌, refl, List, [], ◌∷◌, length, arith}
use Rattle.std.specs.Ordering.{nat_cmp}
use Rattle.std.specs.Prelude.{sum_by, Option, Some, None, is_some, OnSome}
use Rattle.std.specs.FinMap.{FinMap, get, insert, remove, empty, entries, len, len-entries, len-empty}
use Rattle.sfs_base.proofs.MapLemmas.{sum_insert, sum_remove}
use Rattle.fs_rules.specs.declared.file.File.{File}
use Rattle.fs_rules.specs.File.{used}
use Rattle.fs_rules.specs.Files.{used_by_files, used_by_one}

-- without the part b
less : (whole left b x : ℕ) → x ≡ whole % 2 ^ 64 → left + b ≡ whole → b < 2 ^ 64 → (x + (2 ^ 64 - b)) % 2 ^ 64 ≡ left % 2 ^ 64
less whole left b x is sum small = omega arith

-- and with the part a in its place
more : (left whole a y : ℕ) → y ≡ left % 2 ^ 64 → whole ≡ left + a → (y + a) % 2 ^ 64 ≡ whole % 2 ^ 64
more left whole a y is sum = omega arith

-- a file is taken out
pub without : (files : FinMap nat_cmp File) (n x b : ℕ) (before : Option File) → x ≡ used_by_files files % 2 ^ 64 → before ≡ get files n → b ≡ used_by_one before → b < 2 ^ 64
    → (x + (2 ^ 64 - b)) % 2 ^ 64 ≡ used_by_files (remove files n) % 2 ^ 64
without files n x b before is stood counts small =
    less (used_by_files files) (used_by_files (remove files n)) b x is
    (let sum = sum_remove (λ e. used e.1.content) files n in let same : b ≡ used_by_one (get files n) = counts ∙ ap used_by_one stood in omega (arith, sum, same))
    small

-- a file is put
pub with_file : (files : FinMap nat_cmp File) (n x b a : ℕ) (before : Option File) (f : File) → x ≡ used_by_files files % 2 ^ 64 → before ≡ get files n → b ≡ used_by_one before → b < 2 ^ 64
    → a ≡ used f.content → ((x + (2 ^ 64 - b)) % 2 ^ 64 + a) % 2 ^ 64 ≡ used_by_files (insert files n f) % 2 ^ 64
with_file files n x b a before f is stood counts small gained =
    let rest = used_by_files (remove files n) in
    more rest (used_by_files (insert files n f)) a ((x + (2 ^ 64 - b)) % 2 ^ 64) (without files n x b before is stood counts small)
    (let out = sum_remove (λ e. used e.1.content) files n in let put = sum_insert (λ e. used e.1.content) files n f in omega (arith, out, put, gained))

-- no files use no blocks
pub none_used : (files : FinMap nat_cmp File) → files ≡ empty → 0 ≡ used_by_files files % 2 ^ 64
none_used files is = go (entries files) (sym (len-entries files) ∙ ap len is ∙ len-empty nat_cmp File) where
  go : (es : List (ℕ × File)) → length es ≡ 0 → 0 ≡ sum_by (λ e. used e.1.content) es % 2 ^ 64
  go [] none = refl
  go (e ∷ es) none = absurd (omega (arith, none))

-- what holds where there is a value
pub on_some : {P : Type 0} (o : Option File) → is_some o ≡ true → OnSome o P → P
on_some None is holds = absurd cc
on_some (Some f) is holds = holds
